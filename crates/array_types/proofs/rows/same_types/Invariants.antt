use Rattle.std.proofs.Common.{◌≡◌, drop}
use Rattle.eager_rules.specs.Types.{same_types}
use Rattle.array_types.proofs.rows.same_types.Given as goal

-- the test of what is left is that of the whole lists
abbrev pub invariant-loop-k : goal.invariant-loop-k
invariant-loop-k l = same_types (drop l.k l.ts) (drop l.k l.us) ≡ same_types l.ts l.us
