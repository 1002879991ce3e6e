-- A shape is fixed by its extents.
use Rattle.std.proofs.Common.{◌≡◌, ℕ, ◌-◌, List, ◌++◌, length, take, drop, replicate, sym, ap, ap₂, ◌∙◌, arith, Ok}
use Rattle.std.proofs.Common.{Result}
use Rattle.krn_base.specs.declared.fault.Fault.{Fault}
use Rattle.std.proofs.lemmas.List.{take-append-drop, length-take-le}
use Rattle.view_places.specs.declared.shape.Shape.{Shape}
use Rattle.view_places.specs.Shape.{IsShape, extents}

pub shape-one : (a b : Shape) → IsShape a → IsShape b → length a.extent ≡ 4 → length b.extent ≡ 4 →
    extents a ≡ extents b → a ≡ b
shape-one a b p q four_a four_b e =
    let long_a : length (take a.rank a.extent) ≡ a.rank = length-take-le a.rank a.extent (omega (arith, p.rank)) in
    let long_b : length (take b.rank b.extent) ≡ b.rank = length-take-le b.rank b.extent (omega (arith, q.rank)) in
    let same : a.rank ≡ b.rank = sym long_a ∙ ap length e ∙ long_b in
    let rest : drop a.rank a.extent ≡ drop b.rank b.extent = p.unused ∙ ap (λ (r : ℕ). replicate (4 - r) 1) same ∙
    sym q.unused in
    let all : a.extent ≡ b.extent = sym (take-append-drop a.rank a.extent) ∙
    ap₂ (λ (xs ys : List ℕ). xs ++ ys) e rest ∙ take-append-drop b.rank b.extent in
    let made : ℕ → List ℕ → Shape = λ r xs. record { rank = r; extent = xs } in
    ap₂ made same all

pub ok-same : (xs ys : List ℕ) → ◌≡◌ {A = Result (List ℕ) Fault} (Ok xs) (Ok ys) → xs ≡ ys
ok-same xs ys e = cc
