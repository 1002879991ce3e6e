-- Operands spread to a shape where the shapes of the arrays among them do.
use Rattle.std.proofs.Common.{arith, ◌≡◌, ◌∙◌, ◌<◌, ℕ, zero, suc, List, [], ◌∷◌, map, length, ap, sym, subst}
use Rattle.std.proofs.Common.{slice_index_or, IfOk, Ok, Err, Result}
use Rattle.krn_base.specs.declared.fault.Fault.{Fault}
use Rattle.std.proofs.lemmas.List.{get_or-map, length-map}
use Rattle.std.specs.List.{All, flat_map}
use Rattle.view_places.specs.Arrays.{SpreadsTo}
use Rattle.view_places.specs.Shape.{extents}
use Rattle.view_places.specs.View.{extents as extents_of_view}
use Rattle.view_places.specs.declared.shape.Shape.{Shape}
use Rattle.array_ops.specs.Elements.{extents_of}
use Rattle.array_ops.specs.Operands.{Spreads, meaning_of}
use Rattle.array_ops.specs.declared.operand.Operand.{Operand}
use Rattle.array_ops.specs.declared.operand.Operand.TheVariants as operand

abbrev shapes_in : List Operand → List (List ℕ)
shapes_in operands = flat_map (λ x. extents_of (meaning_of x)) operands

each : (ns : List ℕ) (operands : List Operand) →
    ((j : ℕ) (e : List ℕ) → j < length (shapes_in operands) → SpreadsTo (slice_index_or (shapes_in operands) j e) ns) →
    (k : ℕ) (d : Operand) → k < length operands → Spreads ns (slice_index_or operands k d)
each ns [] h k d below = absurd (omega (arith, below))
each ns (operand.Unbound ∷ operands) h zero d below = tt
each ns (operand.Unbound ∷ operands) h (suc k) d below = each ns operands h k d (omega (arith, below))
each ns (operand.Word z ∷ operands) h zero d below = tt
each ns (operand.Word z ∷ operands) h (suc k) d below = each ns operands h k d (omega (arith, below))
each ns (operand.Array v ∷ operands) h zero d below = h 0 (extents_of_view v) (omega arith)
each ns (operand.Array v ∷ operands) h (suc k) d below =
    each ns operands (λ j e inside. h (suc j) e (omega (arith, inside))) k d (omega (arith, below))

pub all_spread : (ns : List ℕ) (operands : List Operand) (shapes : List Shape) →
    map extents shapes ≡ shapes_in operands →
    All (λ s. SpreadsTo (extents s) ns) shapes → All (Spreads ns) operands
all_spread ns operands shapes same h = each ns operands from
  where
    none : Shape
    none = record { rank = 0; extent = [] }

    long : length shapes ≡ length (shapes_in operands)
    long = sym (length-map shapes extents) ∙ ap (λ (es : List (List ℕ)). length es) same

    from : (j : ℕ) (e : List ℕ) → j < length (shapes_in operands) →
        SpreadsTo (slice_index_or (shapes_in operands) j e) ns
    from j e inside =
        let there : j < length shapes = omega (arith, inside, long) in
        subst (λ (es : List (List ℕ)). SpreadsTo (slice_index_or es j e) ns) same
        (subst (λ (x : List ℕ). SpreadsTo x ns) (sym (get_or-map extents shapes j none e there)) (h j none there))

pub if_shaped : (operands : List Operand) (shapes : List Shape) (r : Result Shape Fault) →
    map extents shapes ≡ shapes_in operands →
    IfOk r (λ s. All (λ shape. SpreadsTo (extents shape) (extents s)) shapes) →
    IfOk r (λ s. All (Spreads (extents s)) operands)
if_shaped operands shapes (Ok s) same h = all_spread (extents s) operands shapes same h
if_shaped operands shapes (Err fault) same h = h
