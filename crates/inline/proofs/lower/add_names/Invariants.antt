use Rattle.std.proofs.Common.{◌≡◌, ◌++◌, take}
use Rattle.inline.proofs.lower.add_names.Given as goal

abbrev pub invariant-loop-ty : goal.invariant-loop-ty
invariant-loop-ty l = l.names ≡ l.fn.names ++ take l.ty-index l.types
