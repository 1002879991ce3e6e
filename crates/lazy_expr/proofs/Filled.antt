-- A test of the leaves' shapes, a new buffer like them, and a nest that fills it: either the fault of the shapes, or a
-- new buffer with the elements of the operation.
use Rattle.std.proofs.Common.{◌≡◌, ◌∙◌, ap, refl, ℕ, ◌<◌, ℤ, pos, Bool, true, List, [], ◌∷◌, ◌++◌, map}
use Rattle.std.proofs.Common.{length, set, Result, Ok, Err}
use Rattle.std.specs.Prelude.{if◌then◌else◌}
use Rattle.std.specs.List.{flat_map, list_all}
use Rattle.std.proofs.lemmas.List.{get_or-set_same, length-replicate}
use Rattle.std.proofs.lemmas.List.FromFn.{length-map-range_with_len, length-range_with_len}
use Rattle.krn_base.specs.declared.fault.Fault.{Fault}
use Rattle.krn_base.specs.declared.fault.Fault.TheVariants.{ValueError}
use Rattle.krn_base.specs.declared.kind.Kind.{Kind}
use Rattle.krn_base.specs.declared.place.Loc.{Loc}
use Rattle.view_places.specs.Arrays.{broadcast_of, element_count}
use Rattle.overlap.specs.Walks.{BothWaysAlike}
use Rattle.array_ops.specs.Arrays.{ArrayRef, whole_of, with_words}
use Rattle.array_ops.specs.Elements.{Bound, Unbound, ArrayOf, extents_of, filled, map_elements, shape_of, spreads_to}
use Rattle.array_ops.specs.Subscripts.{and_then}
use Rattle.array_ops.specs.declared.operation.Fill.TheVariants.{Zero}
use Rattle.array_ops.specs.declared.operation.MapOp.{MapOp}
use Rattle.eager_rules.specs.Blocks.{End, GoesOn, Faulted, given, then_do}
use Rattle.eager_rules.specs.Works.{array_in, changed, made_new}
use Rattle.eager_rules.specs.declared.outcome.Counts.{Counts}
use Rattle.lazy_expr.specs.Plain.{template}
use Rattle.lazy_expr.proofs.Lists.{filled_new}
use Rattle.lazy_expr.proofs.Meanings.{means_Check, means_Like, means_Nest}
use Rattle.lazy_expr.proofs.Shapes.{EachSpreads}
use Rattle.lazy_expr.proofs.Templates.{map_read, nest_stores}
use Rattle.loop_prog.specs.Serial.{block, meaning}
use Rattle.loop_prog.specs.Serial.{finish as loop_finish}
use Rattle.loop_prog.specs.State.{State, count_nest, view, with_buffers, with_counts}
use Rattle.loop_prog.specs.Templates.{element, elements, leaf_values, leaves, nested, some_clash}
use Rattle.loop_prog.specs.Works.{nest}
use Rattle.loop_prog.specs.declared.program.Reg.TheVariants as reg
use Rattle.loop_prog.specs.declared.program.Statement.{Statement}
use Rattle.loop_prog.specs.declared.program.Statement.TheVariants as v
use Rattle.loop_prog.specs.declared.program.TemplateStep.{TemplateStep}
use Rattle.loop_prog.specs.declared.program.Test.TheVariants.{Fits}

-- what a test of shapes comes to
abbrev pub shape_end : Loc → State → Result (List ℕ) Fault → State × End
shape_end at t (Ok ns) = (t, GoesOn)
shape_end at t (Err fault) = (t, Faulted fault at)

pub check_fits : (kinds : List Kind) (views : List ℕ) (at : Loc) (t : State) (r : Result (List ℕ) Fault) →
    shape_of (map (view t) views) ≡ r → meaning kinds (v.Check Fits views at) t ≡ shape_end at t r
check_fits kinds views at t r e =
    ap (λ m. m t) (means_Check kinds Fits views at) ∙
    ap (λ (x : Result (List ℕ) Fault). loop_finish [] (changed t.buffers at (and_then x (λ ns. Ok t.buffers))) t) e ∙
    by_shape r
  where
    by_shape : (x : Result (List ℕ) Fault) →
        loop_finish [] (changed t.buffers at (and_then x (λ ns. Ok t.buffers))) t ≡ shape_end at t x
    by_shape (Ok ns) = refl
    by_shape (Err fault) = refl

-- a nest whose leaves spread to its target's shape
pub nest_made : (alike : BothWaysAlike) (target : ArrayRef) (steps : List TemplateStep) (at : Loc) (t : State) →
    length target.places ≡ element_count target.extents →
    list_all (λ from. spreads_to from target.extents) (flat_map extents_of (leaf_values t.views steps)) ≡ true →
    nest target steps at t ≡ (
      with_counts (count_nest (some_clash target (leaf_values t.views steps)) t.counts)
          (with_buffers (with_words t.buffers target.buffer target.places
          (elements t.words t.views steps target.extents t.buffers)) t),
      GoesOn,
    )
nest_made alike target steps at t proper fit =
    let clash : Bool = some_clash target (leaf_values t.views steps) in
    ap (λ (test : Bool). given (if test then Ok target.extents else Err ValueError) at
    (λ (ns : List ℕ) (u : State). with_counts (count_nest clash u.counts)
    (with_buffers (nested clash (element u.words u.views steps target.extents) target u.buffers) u)) t) fit ∙
    ap (λ (after : List (List ℤ)). (with_counts (count_nest clash t.counts) (with_buffers after t), GoesOn))
    (nest_stores alike t.words t.views steps target proper t.buffers)

module _ (alike : BothWaysAlike) (spreads : EachSpreads) (kinds : List Kind) (t : State) (to : ℕ) (op : MapOp)
    (args : List Bound) (steps : List TemplateStep) (at : Loc) (there : to < length t.views)
    (before : flat_map extents_of (leaf_values t.views steps) ≡ flat_map extents_of args)
    (behind : (x : Bound) → flat_map extents_of (leaf_values (set t.views to x) steps) ≡ flat_map extents_of args)
    (made : (x : Bound) (ns : List ℕ) (buffers : List (List ℤ)) →
    elements t.words (set t.views to x) steps ns buffers ≡ map_elements buffers ns op args)
    (rest : List Statement) where
  abbrev pub filling : List Statement
  filling = v.Check Fits (leaves steps) at ∷ v.Like to (leaves steps) at ∷ v.Nest to (template steps) at ∷ rest

  pub filled_fault : (fault : Fault) → shape_of args ≡ Err fault → block kinds filling t ≡ (t, Faulted fault at)
  filled_fault fault e =
      ap (λ (q : State × End). then_do q (block kinds (v.Like to (leaves steps) at ∷ v.Nest to (template steps) at ∷
      rest))) (check_fits kinds (leaves steps) at t (Err fault) (ap broadcast_of before ∙ e))

  -- the new buffer's array, the buffers with zeros, and the state behind `Like`
  module _ (ns : List ℕ) (e : shape_of args ≡ Ok ns) where
    abbrev pub fresh : Bound
    fresh = ArrayOf (whole_of (length t.buffers) ns)

    abbrev zeros : List (List ℤ)
    zeros = t.buffers ++ filled Zero (element_count ns) ∷ []

    abbrev liked : State
    liked = record { words = t.words; views = set t.views to fresh; buffers = zeros; counts = t.counts }

    abbrev counted : Counts
    counted = count_nest (some_clash (whole_of (length t.buffers) ns) (leaf_values liked.views steps)) t.counts

    abbrev pub behind_it : State
    behind_it = record {
      words = t.words;
      views = set t.views to fresh;
      buffers = t.buffers ++ map_elements t.buffers ns op args ∷ [];
      counts = counted;
    }

    like_goes : meaning kinds (v.Like to (leaves steps) at) t ≡ (liked, GoesOn)
    like_goes =
        ap (λ m. m t) (means_Like kinds to (leaves steps) at) ∙
        ap (λ (x : Result (List ℕ) Fault). loop_finish (reg.View to ∷ [])
        (made_new t.buffers at (λ ms. filled Zero (element_count ms)) x) t) (ap broadcast_of before ∙ e)

    whole_count : length (whole_of (length t.buffers) ns).places ≡ element_count ns
    whole_count = length-range_with_len 0 (element_count ns)

    elements_made : elements t.words liked.views steps ns zeros ≡ map_elements t.buffers ns op args
    elements_made = made fresh ns zeros ∙ map_read t.buffers (element_count ns) ns op args

    elements_count : length (elements t.words liked.views steps ns zeros) ≡ element_count ns
    elements_count = length-map-range_with_len (element t.words liked.views steps ns zeros) 0 (element_count ns)

    nest_goes : meaning kinds (v.Nest to (template steps) at) liked ≡ (behind_it, GoesOn)
    nest_goes =
        ap (λ m. m liked) (means_Nest kinds to (template steps) at) ∙
        ap (λ (x : Bound). nest (array_in x) steps at liked) (get_or-set_same t.views to fresh Unbound there) ∙
        nest_made alike (whole_of (length t.buffers) ns) steps at liked whole_count
        (ap (list_all (λ from. spreads_to from ns)) (behind fresh) ∙ spreads (flat_map extents_of args) ns e) ∙
        ap (λ (after : List (List ℤ)). (with_counts counted (with_buffers after liked), GoesOn))
        (filled_new t.buffers (filled Zero (element_count ns)) (element_count ns)
        (elements t.words liked.views steps ns zeros) (length-replicate (element_count ns) (pos 0)) elements_count ∙
        ap (λ (ws : List ℤ). t.buffers ++ ws ∷ []) elements_made)

    pub filled_made : block kinds filling t ≡ block kinds rest behind_it
    filled_made =
        ap (λ (q : State × End). then_do q (block kinds (v.Like to (leaves steps) at ∷
        v.Nest to (template steps) at ∷ rest)))
        (check_fits kinds (leaves steps) at t (Ok ns) (ap broadcast_of before ∙ e)) ∙
        ap (λ (q : State × End). then_do q (block kinds (v.Nest to (template steps) at ∷ rest))) like_goes ∙
        ap (λ (q : State × End). then_do q (block kinds rest)) nest_goes
