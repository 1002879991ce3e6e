use Rattle.std.proofs.Common.{◌≡◌, ◌++◌, take}
use Rattle.eager_rules.proofs.statement.push_all.Given as goal

-- those so far stand behind what was there
abbrev pub invariant-loop-oper : goal.invariant-loop-oper
invariant-loop-oper l = l.opers ≡ l.fn.opers ++ take l.oper-index l.others
