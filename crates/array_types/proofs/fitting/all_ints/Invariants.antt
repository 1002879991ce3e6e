use Rattle.std.proofs.Common.{◌≡◌, drop}
use Rattle.eager_rules.specs.Sound.{all_numbers}
use Rattle.array_types.proofs.fitting.all_ints.Given as goal

abbrev pub invariant-loop-x : goal.invariant-loop-x
invariant-loop-x l =
    all_numbers l.names (drop l.x-index l.xs) ≡ all_numbers l.names l.xs
