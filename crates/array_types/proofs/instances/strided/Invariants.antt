use Rattle.std.proofs.Common.{◌≡◌, take, map}
use Rattle.array_types.specs.Modules.{strided}
use Rattle.array_types.proofs.instances.strided.Given as goal

abbrev pub invariant-loop-ty : goal.invariant-loop-ty
invariant-loop-ty l = l.params ≡ map strided (take l.ty-index l.types)
