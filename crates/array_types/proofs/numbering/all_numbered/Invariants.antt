use Rattle.std.proofs.Common.{◌≡◌, drop}
use Rattle.std.specs.List.{list_all}
use Rattle.array_types.specs.Numbering.{is_numbered}
use Rattle.array_types.proofs.numbering.all_numbered.Given as goal

abbrev pub invariant-loop-f : goal.invariant-loop-f
invariant-loop-f l = list_all is_numbered (drop l.f-index l.instances) ≡ list_all is_numbered l.instances
