use Rattle.std.proofs.Common.{rules, SFits, w64, to_z-of_z, ℤ, ◌≡◌, ◌∙◌, ap, sym, subst, ◌+◌, ◌<◌, List, ℕ, Bor}
use Rattle.std.proofs.Common.{Option, Some, None, arith, length, map, drop, get_or}
use Rattle.call_binding.specs.Integers.{each, word}
use Rattle.call_binding.proofs.Lists.{behind, piece_here, each_stops, each_goes_on}
use Rattle.call_binding.proofs.rows.read_pieces.Goals as goal

pub loop-piece-preserved : goal.loop-piece-preserved
loop-piece-preserved c =
    let texts = c.args.pieces.now in
    let i = c.loop-piece.piece-index in
    let fits : SFits w64 c.in-Some.word = search rules in
    subst (λ (so : List ℤ). behind so
    (each (word c.args.kind) (map (λ (piece : Bor (List ℕ)). piece.now) (drop (i + 1) texts)))
    ≡ each (word c.args.kind) (map (λ (piece : Bor (List ℕ)). piece.now) texts))
    (sym (simp to_z-of_z at c.in_ok-push-in-Some.ensures.items))
    (each_goes_on (word c.args.kind) c.loop-piece.words.items _
    (map (λ (piece : Bor (List ℕ)). piece.now) (drop (i + 1) texts))
    (each (word c.args.kind) (map (λ (piece : Bor (List ℕ)). piece.now) texts))
    (ap (λ rest. behind c.loop-piece.words.items (each (word c.args.kind) rest))
    (sym (piece_here texts i _ c.loop-piece-test.true)) ∙ c.loop-piece.invariant) c.in-Some.word c.in-Some.ensures)

pub returns-in-None : goal.returns-in-None
returns-in-None c =
    let texts = c.args.pieces.now in
    let i = c.loop-piece.piece-index in
    each_stops (word c.args.kind) c.loop-piece.words.items _
    (map (λ (piece : Bor (List ℕ)). piece.now) (drop (i + 1) texts))
    (each (word c.args.kind) (map (λ (piece : Bor (List ℕ)). piece.now) texts))
    (ap (λ rest. behind c.loop-piece.words.items (each (word c.args.kind) rest))
    (sym (piece_here texts i _ c.loop-piece-test.true)) ∙ c.loop-piece.invariant) c.in-None.ensures
