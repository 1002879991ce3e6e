use Rattle.std.proofs.Common.{◌≡◌, ◌∙◌, ap, sym, subst, ◌+◌, ◌<◌, List, [], ℕ, Bor, Option, Some, None, arith, length}
use Rattle.std.proofs.Common.{map, drop, get_or}
use Rattle.call_binding.specs.Integers.{each}
use Rattle.call_binding.specs.Reading.{extent}
use Rattle.call_binding.proofs.Lists.{behind, piece_here, each_stops, each_goes_on}
use Rattle.call_binding.proofs.rows.read_extents.Goals as goal

pub loop-piece-preserved : goal.loop-piece-preserved
loop-piece-preserved c =
    let texts = c.args.pieces.now in
    let i = c.loop-piece.piece-index in
    let none : Bor (List ℕ) = record { ref_ptr = (0, 0); now = [] } in
    subst (λ (so : List ℕ). behind so (each extent (map (λ (piece : Bor (List ℕ)). piece.now) (drop (i + 1) texts)))
    ≡ each extent (map (λ (piece : Bor (List ℕ)). piece.now) texts)) (sym c.in_ok-push-in-Some.ensures.items)
    (each_goes_on extent c.loop-piece.extents.items (get_or texts i none).now
    (map (λ (piece : Bor (List ℕ)). piece.now) (drop (i + 1) texts))
    (each extent (map (λ (piece : Bor (List ℕ)). piece.now) texts))
    (ap (λ rest. behind c.loop-piece.extents.items (each extent rest))
    (sym (piece_here texts i none c.loop-piece-test.true))
    ∙ c.loop-piece.invariant) c.in-Some.extent c.in-Some.ensures)

pub returns-in-None : goal.returns-in-None
returns-in-None c =
    let texts = c.args.pieces.now in
    let i = c.loop-piece.piece-index in
    let none : Bor (List ℕ) = record { ref_ptr = (0, 0); now = [] } in
    each_stops extent c.loop-piece.extents.items (get_or texts i none).now
    (map (λ (piece : Bor (List ℕ)). piece.now) (drop (i + 1) texts))
    (each extent (map (λ (piece : Bor (List ℕ)). piece.now) texts))
    (ap (λ rest. behind c.loop-piece.extents.items (each extent rest))
    (sym (piece_here texts i none c.loop-piece-test.true)) ∙ c.loop-piece.invariant) c.in-None.ensures
