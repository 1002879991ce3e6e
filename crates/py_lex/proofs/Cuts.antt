-- The pieces of a text are the one at its front and those of what is left.
use Rattle.std.proofs.Common.{◌≡◌, ℕ, zero, suc, ◌-◌, ◌<◌, ◌≤◌, [], ◌∷◌, length, take, drop, refl, ap, sym, ◌∙◌, arith}
use Rattle.std.proofs.Common.{Ok, Err}
use Rattle.py_lex.specs.Bytes.{Bytes}
use Rattle.krn_base.specs.declared.place.Loc.{Loc}
use Rattle.krn_base.specs.declared.refusal.Stop.{Stop}
use Rattle.krn_base.specs.declared.refusal.Stop.TheVariants.{Refused, Memory}
use Rattle.py_lex.specs.Views.{Steps}
use Rattle.py_lex.specs.declared.piece.Piece.{Piece}
use Rattle.py_lex.specs.Pieces.{piece, pieces, pieces_from}
use Rattle.py_lex.specs.Layout.{State, Outcome, and_then, step, layout}

pub pieces_from-drop : (n : ℕ) (z : Bytes) → pieces_from n z ≡ pieces (drop n z)
unfolding pieces_from
pieces_from-drop zero z = refl
pieces_from-drop (suc n) [] = refl
pieces_from-drop (suc n) (b ∷ z) = pieces_from-drop n z

drop-cons : (n b : ℕ) (z : Bytes) → 1 ≤ n → drop (n - 1) z ≡ drop n (b ∷ z)
drop-cons zero b z h = absurd (omega arith)
drop-cons (suc n) b z h = let e : suc n - 1 ≡ n = omega arith in ap (λ k. drop k z) e

pub pieces-cut : (z : Bytes) → 0 < length z → 1 ≤ (piece z).len
    → pieces z ≡ ((piece z).class, take (piece z).len z) ∷ pieces (drop (piece z).len z)
unfolding pieces_from
pieces-cut [] some moves = absurd (omega arith)
pieces-cut (b ∷ z) some moves =
    ap (λ ps. ((piece (b ∷ z)).class, take (piece (b ∷ z)).len (b ∷ z)) ∷ ps)
    (pieces_from-drop ((piece (b ∷ z)).len - 1) z ∙ ap pieces (drop-cons (piece (b ∷ z)).len b z moves))

-- a step over the piece at the front, and those over what is left
pub layout-cut : (z : Bytes) (p : Piece) (s t : State) → p ≡ piece z → 0 < length z → 1 ≤ p.len
    → step p.class (take p.len z) s ≡ Ok t
    → layout (pieces z) s ≡ layout (pieces (drop p.len z)) t
unfolding layout
layout-cut z p s t is some moves e =
    ap (λ ps. layout ps s) (pieces-cut z some (rw (← is) moves))
    ∙ ap (λ (q : Piece). layout ((q.class, take q.len z) ∷ pieces (drop q.len z)) s) (sym is)
    ∙ ap (λ (o : Outcome). and_then o (layout (pieces (drop p.len z)))) e

pub layout-refused : (z : Bytes) (p : Piece) (s : State) (at : Loc) → p ≡ piece z → 0 < length z → 1 ≤ p.len
    → step p.class (take p.len z) s ≡ Err at
    → layout (pieces z) s ≡ Err at
unfolding layout
layout-refused z p s at is some moves e =
    ap (λ ps. layout ps s) (pieces-cut z some (rw (← is) moves))
    ∙ ap (λ (q : Piece). layout ((q.class, take q.len z) ∷ pieces (drop q.len z)) s) (sym is)
    ∙ ap (λ (o : Outcome). and_then o (layout (pieces (drop p.len z)))) e

-- nothing is left
pub layout-end : (z : Bytes) (s : State) → length z ≡ 0 → layout (pieces z) s ≡ Ok s
unfolding layout pieces_from
layout-end [] s is = refl
layout-end (b ∷ z) s is = absurd (omega (arith, is))

-- a refusal of one call is that of another
pub steps-refused : (A B : Type 0) (o o' : Outcome) (stop : Stop) (s t : State)
    → ((at : Loc) → o ≡ Err at → o' ≡ Err at)
    → Steps {A = A} o (Err stop) s → Steps {A = B} o' (Err stop) t
steps-refused A B o o' (Refused r) s t f h = (h.0, f r.loc h.1)
steps-refused A B o o' Memory s t f h = tt
