use Rattle.std.proofs.Common.{◌≡◌, drop, map}
use Rattle.std.specs.List.{list_all}
use Rattle.eager_rules.specs.Sound.{head_of}
use Rattle.array_types.specs.Checked.{is_well_typed}
use Rattle.array_types.proofs.checked.are_well_typed.Given as goal

abbrev pub invariant-loop-f : goal.invariant-loop-f
invariant-loop-f l =
    list_all (is_well_typed (map head_of l.instances)) (drop l.f-index l.some) ≡
    list_all (is_well_typed (map head_of l.instances)) l.some
