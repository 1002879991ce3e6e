use Rattle.std.proofs.Common.{◌≡◌, map, drop}
use Rattle.call_binding.specs.Integers.{each}
use Rattle.call_binding.specs.Reading.{subscript}
use Rattle.call_binding.proofs.Lists.{behind}
use Rattle.call_binding.proofs.read.read_pieces.Given as goal

abbrev pub invariant-loop-piece : goal.invariant-loop-piece
invariant-loop-piece l =
    behind l.subscripts.items (each subscript (map (λ piece. piece.now) (drop l.piece-index l.pieces)))
    ≡ each subscript (map (λ piece. piece.now) l.pieces)
