-- Shapes that spread to another, as a test, and those of a template's leaves.
use Rattle.std.proofs.Common.{arith, ◌≡◌, ◌∙◌, ap, refl, ℕ, suc, List, [], ◌∷◌, ◌++◌, map, true, Bool, ◌&&◌}
use Rattle.std.specs.List.{All, flat_map, list_all}
use Rattle.std.proofs.lemmas.Grind.{flat_map-append}
use Rattle.std.proofs.lemmas.List.{map-append}
use Rattle.std.proofs.lemmas.Slice.Eq.{bytes_eq-Decides}
use Rattle.view_places.specs.Arrays.{SpreadsTo}
use Rattle.view_places.specs.Shape.{extents}
use Rattle.view_places.specs.declared.shape.Shape.{Shape}
use Rattle.array_ops.specs.Elements.{Bound, extents_of, is_shape, spreads_to}
use Rattle.loop_prog.specs.State.{view_in}
use Rattle.loop_prog.specs.Templates.{leaf_of_step, leaf_values, leaves}
use Rattle.loop_prog.specs.declared.program.TemplateStep.{TemplateStep}

one_spreads : (from ns : List ℕ) → SpreadsTo from ns → spreads_to from ns ≡ true
one_spreads from ns h = ap (is_shape ns) h ∙ (bytes_eq-Decides ns ns).1 refl

pub all_spread : (ns : List ℕ) (shapes : List Shape) → All (λ s. SpreadsTo (extents s) ns) shapes →
    list_all (λ from. spreads_to from ns) (map extents shapes) ≡ true
all_spread ns [] h = refl
all_spread ns (s ∷ shapes) h =
    ap (λ (b : Bool). b && list_all (λ from. spreads_to from ns) (map extents shapes))
    (one_spreads (extents s) ns (h 0 s (omega arith))) ∙
    all_spread ns shapes (λ k d below. h (suc k) d (omega (arith, below)))

-- ---- what the leaves of some steps more stand for
pub leaves_more : (views : List Bound) (steps : List TemplateStep) (s : TemplateStep) →
    flat_map extents_of (leaf_values views (steps ++ s ∷ [])) ≡
    flat_map extents_of (leaf_values views steps) ++ flat_map extents_of (leaf_values views (s ∷ []))
leaves_more views steps s =
    ap (λ (vs : List ℕ). flat_map extents_of (map (view_in views) vs)) (flat_map-append leaf_of_step steps (s ∷ [])) ∙
    ap (flat_map extents_of) (map-append (view_in views) (leaves steps) (leaves (s ∷ []))) ∙
    flat_map-append extents_of (leaf_values views steps) (leaf_values views (s ∷ []))
