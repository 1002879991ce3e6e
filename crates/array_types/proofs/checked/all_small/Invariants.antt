use Rattle.std.proofs.Common.{◌≡◌, drop}
use Rattle.std.specs.List.{list_all}
use Rattle.array_types.specs.Checked.{is_small}
use Rattle.array_types.proofs.checked.all_small.Given as goal

abbrev pub invariant-loop-ty : goal.invariant-loop-ty
invariant-loop-ty l =
    list_all is_small (drop l.ty-index l.types) ≡ list_all is_small l.types
