-- Work that leaves each buffer that stood.
use Rattle.std.proofs.Common.{◌≡◌, ◌<◌, refl, ℕ, ℤ, true, false, List, [], ◌∷◌, length, map, Result}
use Rattle.std.proofs.Common.{Ok, Err}
use Rattle.std.proofs.lemmas.List.{get_or_append_left}
use Rattle.krn_base.specs.declared.fault.Fault.{Fault}
use Rattle.krn_base.specs.declared.place.Loc.{Loc}
use Rattle.array_ops.specs.Arrays.{words_of, word_at, elements_of}
use Rattle.array_ops.specs.Elements.{Bound, WordOf, reduced, filled, fresh_shape, shape_of, map_elements}
use Rattle.array_ops.specs.Subscripts.{and_then, element_place, picked}
use Rattle.eager_rules.specs.Eager.{Calls}
use Rattle.eager_rules.specs.Laws.{LeavesBuffers, buffers_after, may_change}
use Rattle.eager_rules.specs.Works.{valued, made_new, word_result, as_word, as_array, word_of, array_in, subscripts_of}
use Rattle.eager_rules.specs.declared.program.Core.{Core}
use Rattle.eager_rules.specs.declared.program.Core.TheOpen as c
use Rattle.eager_rules.specs.declared.program.WordOp.TheVariants as word_op
use Rattle.view_places.specs.Arrays.{element_count}

by_value : (buffers : List (List ℤ)) (at : Loc) (r : Result Bound Fault) (number : ℕ) →
    words_of (buffers_after (valued buffers at r)) number ≡ words_of buffers number
by_value buffers at (Ok value) number = refl
by_value buffers at (Err fault) number = refl

by_new : (buffers : List (List ℤ)) (at : Loc) (words : List ℕ → List ℤ) (r : Result (List ℕ) Fault) (number : ℕ) →
    number < length buffers →
    words_of (buffers_after (made_new buffers at words r)) number ≡ words_of buffers number
by_new buffers at words (Ok ns) number inside = get_or_append_left buffers (words ns ∷ []) [] number inside
by_new buffers at words (Err fault) number inside = refl

impossible : {A : Type 0} → true ≡ false → A
impossible h = absurd (let e : true ≡ false = h in cc)

pub leaves : (calls : Calls) (y : c.Core-F Core) → may_change y ≡ false → LeavesBuffers calls y
leaves calls (c.Word to word_op.Move args at) h [] buffers number inside = refl
leaves calls (c.Word to word_op.Move args at) h (value ∷ []) buffers number inside = refl
leaves calls (c.Word to word_op.Move args at) h (value ∷ more ∷ values) buffers number inside = refl
leaves calls (c.Word to (word_op.Bin op) args at) h values buffers number inside =
    by_value buffers at (as_word (word_result (word_op.Bin op) (map word_of values))) number
leaves calls (c.Word to (word_op.Un op) args at) h values buffers number inside =
    by_value buffers at (as_word (word_result (word_op.Un op) (map word_of values))) number
leaves calls (c.Extent to of axis) h [] buffers number inside = refl
leaves calls (c.Extent to of axis) h (value ∷ []) buffers number inside = refl
leaves calls (c.Extent to of axis) h (value ∷ more ∷ values) buffers number inside = refl
leaves calls (c.Get to of index at) h [] buffers number inside = refl
leaves calls (c.Get to of index at) h (value ∷ values) buffers number inside =
    by_value buffers at (and_then (element_place (array_in value) (map word_of values))
    (λ place. Ok (WordOf (word_at buffers (array_in value).buffer place)))) number
leaves calls (c.Put of index value at) h values buffers number inside = impossible h
leaves calls (c.Pick to of subs at) h [] buffers number inside = refl
leaves calls (c.Pick to of subs at) h (value ∷ values) buffers number inside =
    by_value buffers at (as_array (picked (subscripts_of subs values) (array_in value))) number
leaves calls (c.Flip to of) h [] buffers number inside = refl
leaves calls (c.Flip to of) h (value ∷ []) buffers number inside = refl
leaves calls (c.Flip to of) h (value ∷ more ∷ values) buffers number inside = refl
leaves calls (c.Alias to of) h [] buffers number inside = refl
leaves calls (c.Alias to of) h (value ∷ []) buffers number inside = refl
leaves calls (c.Alias to of) h (value ∷ more ∷ values) buffers number inside = refl
leaves calls (c.Fresh to dims fill at) h values buffers number inside =
    by_new buffers at (λ ns. filled fill (element_count ns)) (fresh_shape fill (map word_of values)) number inside
leaves calls (c.Map to op args at) h values buffers number inside =
    by_new buffers at (λ ns. map_elements buffers ns op values) (shape_of values) number inside
leaves calls (c.Reduce to op of at) h [] buffers number inside = refl
leaves calls (c.Reduce to op of at) h (value ∷ []) buffers number inside =
    by_value buffers at (as_word (reduced op (elements_of buffers (array_in value)))) number
leaves calls (c.Reduce to op of at) h (value ∷ more ∷ values) buffers number inside = refl
leaves calls (c.Store of value at) h values buffers number inside = impossible h
leaves calls (c.Call to instance args) h values buffers number inside = impossible h
leaves calls (c.If cond part other) h values buffers number inside = refl
leaves calls (c.For var lo hi by at omp body) h values buffers number inside = refl
leaves calls (c.Return values) h operands buffers number inside = refl
