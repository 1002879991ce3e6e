use Rattle.std.proofs.Common.{◌≡◌, map, drop}
use Rattle.call_binding.specs.Integers.{each, word}
use Rattle.call_binding.proofs.Lists.{behind}
use Rattle.call_binding.proofs.rows.read_pieces.Given as goal

abbrev pub invariant-loop-piece : goal.invariant-loop-piece
invariant-loop-piece l =
    behind l.words.items (each (word l.kind) (map (λ piece. piece.now) (drop l.piece-index l.pieces)))
    ≡ each (word l.kind) (map (λ piece. piece.now) l.pieces)
