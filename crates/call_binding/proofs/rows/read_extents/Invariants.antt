use Rattle.std.proofs.Common.{◌≡◌, map, drop}
use Rattle.call_binding.specs.Integers.{each}
use Rattle.call_binding.specs.Reading.{extent}
use Rattle.call_binding.proofs.Lists.{behind}
use Rattle.call_binding.proofs.rows.read_extents.Given as goal

abbrev pub invariant-loop-piece : goal.invariant-loop-piece
invariant-loop-piece l =
    behind l.extents.items (each extent (map (λ piece. piece.now) (drop l.piece-index l.pieces)))
    ≡ each extent (map (λ piece. piece.now) l.pieces)
