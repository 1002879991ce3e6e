use Rattle.std.proofs.Common.{◌≡◌, ◌++◌, drop}
use Rattle.inline.specs.Places.{numbered}
use Rattle.inline.proofs.moves.numbered.Given as goal

abbrev pub invariant-loop-ty : goal.invariant-loop-ty
invariant-loop-ty l = l.list ++ numbered l.name (drop l.ty-index l.types) ≡ numbered l.first l.types
