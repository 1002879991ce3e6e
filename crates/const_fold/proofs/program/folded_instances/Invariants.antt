use Rattle.std.proofs.Common.{◌≡◌, map, take}
use Rattle.const_fold.specs.Folded.{folded_instance}
use Rattle.const_fold.proofs.program.folded_instances.Given as goal

abbrev pub invariant-loop-f : goal.invariant-loop-f
invariant-loop-f l = l.list ≡ map folded_instance (take l.f-index l.instances)
