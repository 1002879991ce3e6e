-- Verdicts on views are those on their places.
use Rattle.std.proofs.Common.{◌≡◌, ℕ, List, [], ◌∷◌, length, refl, ap, ap₂, ◌∙◌, arith, ℤ}
use Rattle.std.specs.List.{zip}
use Rattle.view_places.specs.declared.spread.Spread.{Spread}
use Rattle.view_places.specs.declared.view.View.{View}
use Rattle.overlap.specs.Verdicts.{Laid, of_view, of_spread}
use Rattle.overlap.proofs.TableLemmas.{firsts}

pub laid-same : (s : Spread) (v : View) → s.buffer ≡ v.buffer → s.offset ≡ v.offset → s.extent ≡ v.extent →
    s.stride ≡ v.stride → of_spread s ≡ of_view v
laid-same s v b o e t =
    let made : ℕ → ℤ → List (ℕ × ℤ) → Laid = λ buffer offset dims.
    record { buffer = buffer; offset = offset; dims = dims } in
    ap (λ (x : ℕ). made x s.offset (zip s.extent s.stride)) b ∙
    ap (λ (x : ℤ). made v.buffer x (zip s.extent s.stride)) o ∙
    ap (made v.buffer v.offset) (ap₂ (λ (xs : List ℕ) (ys : List ℤ). zip xs ys) e t)

pub extents-first : (es : List ℕ) (ss : List ℤ) → length es ≡ length ss → firsts (zip es ss) ≡ es
extents-first [] ss l = refl
extents-first (e ∷ es) [] l = absurd (omega arith)
extents-first (e ∷ es) (s ∷ ss) l = ap (λ (ns : List ℕ). e ∷ ns) (extents-first es ss (omega arith))
