use Rattle.std.proofs.Common.{◌≡◌, map, take}
use Rattle.loop_exec.specs.Banks.{words_bound}
use Rattle.loop_exec.specs.Subscripts.{subscript_at}
use Rattle.loop_exec.proofs.array_work.subscripts.Given as goal

-- the subscripts so far
abbrev pub invariant-loop-sub : goal.invariant-loop-sub
invariant-loop-sub l = l.found.items ≡ map (subscript_at (words_bound l.words)) (take l.sub-index l.subs)
