-- Work reads and changes no buffers but those of its operands: on two lists of buffers that have the same words there,
-- it comes to the same, and makes the same of both.
use Rattle.std.proofs.Common.{arith, ◌≡◌, ◌∙◌, ◌+◌, ◌<◌, ap, sym, subst, refl, inl, inr, ℕ, zero, suc, ℤ, pos}
use Rattle.std.proofs.Common.{Bool, true, false, List, [], ◌∷◌, ◌++◌, map, length, slice_index_or, Option}
use Rattle.std.proofs.Common.{Result, Ok, Err}
use Rattle.std.proofs.lemmas.Bool.Decides.{eqb_tells}
use Rattle.std.proofs.lemmas.List.{length-append, length-set}
use Rattle.std.specs.Prelude.{◌==◌, if◌then◌else◌, slice_set}
use Rattle.krn_base.specs.declared.fault.Fault.{Fault}
use Rattle.krn_base.specs.declared.place.Loc.{Loc}
use Rattle.view_places.specs.Arrays.{element_count, spread}
use Rattle.array_ops.specs.Arrays.{ArrayRef, elements_of, whole_of, with_word, with_words, word_at, words_of}
use Rattle.array_ops.specs.Elements.{Bound, Unbound, WordOf, ArrayOf, filled, fresh_shape, map_elements, mapped}
use Rattle.array_ops.specs.Elements.{operand_elements, reduced, shape_of, stored_shape}
use Rattle.array_ops.specs.Subscripts.{and_then, element_place, flipped, picked}
use Rattle.array_ops.specs.declared.operation.Fill.{Fill}
use Rattle.array_ops.specs.declared.operation.MapOp.{MapOp}
use Rattle.array_ops.specs.declared.operation.RedOp.{RedOp}
use Rattle.eager_rules.proofs.Holds.{refs, tick}
use Rattle.eager_rules.proofs.TypedWorks.{InBuffer, picked_in}
use Rattle.eager_rules.specs.Works.{Done, Made, Failed, Blocked, Work, array_in, as_array, as_word, changed, extent_of}
use Rattle.eager_rules.specs.Works.{extent_work}
use Rattle.eager_rules.specs.Works.{flip_work, fresh_work, get_work, made_new, map_work, move_work, pick_work, put_work}
use Rattle.eager_rules.specs.Works.{reduce_work, store_work, subscripts_of, valued, word_of, word_result, word_work}
use Rattle.eager_rules.specs.declared.program.CoreSub.{CoreSub}
use Rattle.eager_rules.specs.declared.program.WordOp.{WordOp}
use Rattle.eager_rules.specs.declared.program.WordOp.TheVariants as word_op

-- each buffer that two lists have in common is so afterwards, new ones among them
abbrev pub Grown : List (List ℤ) → List (List ℤ) → List (List ℤ) → List (List ℤ) → Type 0
Grown xs ys after others =
    (length after ≡ length others) ×
    ((b : ℕ) → words_of xs b ≡ words_of ys b → words_of after b ≡ words_of others b)

-- two lists have the buffers of these values in common
abbrev pub Common : List Bound → List (List ℤ) → List (List ℤ) → Type 0
Common vs xs ys = (b : ℕ) → 0 < refs vs b → words_of xs b ≡ words_of ys b

abbrev pub SameDone : List (List ℤ) → List (List ℤ) → Done → Done → Type 0
SameDone xs ys (Made after vs) (Made others ws) = (vs ≡ ws) × Grown xs ys after others × Common vs after others
SameDone xs ys (Failed after f at) (Failed others g place) = (f ≡ g) × (at ≡ place) × Grown xs ys after others
SameDone xs ys (Blocked after) (Blocked others) = Grown xs ys after others
SameDone xs ys _ _ = ⊥

-- A value of another kind than a sound program gives stands for an array in the first buffer, which is always held.
abbrev pub ReadsOperands : Work → Type 0
ReadsOperands work =
    (vs : List Bound) (xs ys : List (List ℤ)) → length xs ≡ length ys → words_of xs 0 ≡ words_of ys 0 →
    Common vs xs ys → SameDone xs ys (work vs xs) (work vs ys)

pub here : (n : ℕ) → 0 < tick (n == n)
here n = elim (eqb_tells n n) as (λ _. 0 < tick (n == n)) [
  | inl same ↦ let ticked : tick (n == n) ≡ 1 = ap tick same.0 in omega (arith, ticked)
  | inr differs ↦ absurd (differs.1 refl)
]

-- Lists of buffers with other words of one, and with one more.
set_alike : (xs ys : List (List ℤ)) (n b : ℕ) (words : List ℤ) → length xs ≡ length ys →
    words_of xs b ≡ words_of ys b → words_of (slice_set xs n words) b ≡ words_of (slice_set ys n words) b
set_alike [] [] n b words e h = refl
set_alike [] (y ∷ ys) n b words e h = absurd (omega (arith, e))
set_alike (x ∷ xs) [] n b words e h = absurd (omega (arith, e))
set_alike (x ∷ xs) (y ∷ ys) zero zero words e h = refl
set_alike (x ∷ xs) (y ∷ ys) zero (suc b) words e h = h
set_alike (x ∷ xs) (y ∷ ys) (suc n) zero words e h = h
set_alike (x ∷ xs) (y ∷ ys) (suc n) (suc b) words e h = set_alike xs ys n b words (omega (arith, e)) h

push_alike : (xs ys : List (List ℤ)) (b : ℕ) (words : List ℤ) → length xs ≡ length ys →
    words_of xs b ≡ words_of ys b → words_of (xs ++ words ∷ []) b ≡ words_of (ys ++ words ∷ []) b
push_alike [] [] b words e h = refl
push_alike [] (y ∷ ys) b words e h = absurd (omega (arith, e))
push_alike (x ∷ xs) [] b words e h = absurd (omega (arith, e))
push_alike (x ∷ xs) (y ∷ ys) zero words e h = h
push_alike (x ∷ xs) (y ∷ ys) (suc b) words e h = push_alike xs ys b words (omega (arith, e)) h

push_last : (xs : List (List ℤ)) (words : List ℤ) → words_of (xs ++ words ∷ []) (length xs) ≡ words
push_last [] words = refl
push_last (x ∷ xs) words = push_last xs words

-- an array whose buffer the two have in common
one_array : (xs ys : List (List ℤ)) (a : ArrayRef) → words_of xs a.buffer ≡ words_of ys a.buffer →
    Common (ArrayOf a ∷ []) xs ys
one_array xs ys a same b p = elim (eqb_tells a.buffer b) as (λ _. words_of xs b ≡ words_of ys b) [
  | inl at ↦ subst (λ (n : ℕ). words_of xs n ≡ words_of ys n) at.1 same
  | inr apart ↦
      let ticked : tick (a.buffer == b) ≡ 0 = ap tick apart.0 in absurd (omega (arith, p, ticked))
]

module _ (xs ys : List (List ℤ)) (size : length xs ≡ length ys) where
  as_they_are : Grown xs ys xs ys
  as_they_are = (size, λ b e. e)

  no_buffer : (z : ℤ) → Common (WordOf z ∷ []) xs ys
  no_buffer z b p = absurd (omega (arith, p))

  one_word : (at : Loc) (r : Result ℤ Fault) → SameDone xs ys (valued xs at (as_word r)) (valued ys at (as_word r))
  one_word at (Ok z) = (refl, as_they_are, no_buffer z)
  one_word at (Err fault) = (refl, refl, as_they_are)

  -- the buffer of an operand as an array
  operand_same : (v : Bound) (vs : List Bound) → words_of xs 0 ≡ words_of ys 0 → Common (v ∷ vs) xs ys →
      words_of xs (array_in v).buffer ≡ words_of ys (array_in v).buffer
  operand_same Unbound vs first common = first
  operand_same (WordOf z) vs first common = first
  operand_same (ArrayOf a) vs first common =
      let one_here : 0 < tick (a.buffer == a.buffer) = here a.buffer in
      common a.buffer (omega (arith, one_here))

  view_same : (at : Loc) (n : ℕ) (r : Result ArrayRef Fault) → words_of xs n ≡ words_of ys n → InBuffer n r →
      SameDone xs ys (valued xs at (as_array r)) (valued ys at (as_array r))
  view_same at n (Ok a) same lies =
      (refl, as_they_are, one_array xs ys a (subst (λ (m : ℕ). words_of xs m ≡ words_of ys m) lies same))
  view_same at n (Err fault) same lies = (refl, refl, as_they_are)

  moved_same : (v : Bound) (vs : List Bound) → Common (v ∷ vs) xs ys → Common (v ∷ []) xs ys
  moved_same v vs common b p = common b (omega (arith, p))

  got_same : (at : Loc) (buffer : ℕ) (r : Result ℕ Fault) → words_of xs buffer ≡ words_of ys buffer →
      SameDone xs ys (valued xs at (and_then r (λ place. Ok (WordOf (word_at xs buffer place)))))
      (valued ys at (and_then r (λ place. Ok (WordOf (word_at ys buffer place)))))
  got_same at buffer (Ok place) same = (
    ap (λ (words : List ℤ). WordOf (slice_index_or words place (pos 0)) ∷ []) same,
    as_they_are,
    no_buffer (word_at xs buffer place),
  )
  got_same at buffer (Err fault) same = (refl, refl, as_they_are)

  -- an element written
  word_grown : (buffer place : ℕ) (word : ℤ) → words_of xs buffer ≡ words_of ys buffer →
      Grown xs ys (with_word xs buffer place word) (with_word ys buffer place word)
  word_grown buffer place word same = (
    length-set xs buffer (slice_set (words_of xs buffer) place word) ∙ (size ∙
        sym (length-set ys buffer (slice_set (words_of ys buffer) place word))),
    λ b e.
        set_alike xs ys buffer b (slice_set (words_of xs buffer) place word) size e ∙
        ap (λ (words : List ℤ). words_of (slice_set ys buffer (slice_set words place word)) b) same,
  )

  put_same : (at : Loc) (buffer : ℕ) (word : ℤ) (r : Result ℕ Fault) → words_of xs buffer ≡ words_of ys buffer →
      SameDone xs ys (changed xs at (and_then r (λ place. Ok (with_word xs buffer place word))))
      (changed ys at (and_then r (λ place. Ok (with_word ys buffer place word))))
  put_same at buffer word (Ok place) same =
      (refl, word_grown buffer place word same, λ b p. absurd (omega (arith, p)))
  put_same at buffer word (Err fault) same = (refl, refl, as_they_are)

  -- a new buffer
  grown_size : (words others : List ℤ) → length (xs ++ words ∷ []) ≡ length (ys ++ others ∷ [])
  grown_size words others =
      let left : length (xs ++ words ∷ []) ≡ length xs + length (words ∷ []) = length-append xs (words ∷ []) in
      let right : length (ys ++ others ∷ []) ≡ length ys + length (others ∷ []) = length-append ys (others ∷ []) in
      omega (arith, left, right, size)

  pushed : (words others : List ℤ) → words ≡ others → (b : ℕ) → words_of xs b ≡ words_of ys b →
      words_of (xs ++ words ∷ []) b ≡ words_of (ys ++ others ∷ []) b
  pushed words others same b e =
      push_alike xs ys b words size e ∙ ap (λ (zs : List ℤ). words_of (ys ++ zs ∷ []) b) same

  one_new : (a : ArrayRef) (words others : List ℤ) → a.buffer ≡ length xs → words ≡ others →
      Common (ArrayOf a ∷ []) (xs ++ words ∷ []) (ys ++ others ∷ [])
  one_new a words others at same =
      one_array (xs ++ words ∷ []) (ys ++ others ∷ []) a
      (ap (words_of (xs ++ words ∷ [])) at ∙ (push_last xs words ∙ (same ∙ (sym (push_last ys others) ∙
      ap (words_of (ys ++ others ∷ [])) (sym size ∙ sym at)))))

  new_same : (at : Loc) (words others : List ℕ → List ℤ) (r : Result (List ℕ) Fault) →
      ((ns : List ℕ) → words ns ≡ others ns) → SameDone xs ys (made_new xs at words r) (made_new ys at others r)
  new_same at words others (Ok ns) same = (
    ap (λ (n : ℕ). ArrayOf (whole_of n ns) ∷ []) size,
    (grown_size (words ns) (others ns), pushed (words ns) (others ns) (same ns)),
    one_new (whole_of (length xs) ns) (words ns) (others ns) refl (same ns),
  )
  new_same at words others (Err fault) same = (refl, refl, as_they_are)

  -- the elements of operands
  elements_same : (ns : List ℕ) (v : Bound) (vs : List Bound) → Common (v ∷ vs) xs ys →
      operand_elements xs ns v ≡ operand_elements ys ns v
  elements_same ns Unbound vs common = refl
  elements_same ns (WordOf z) vs common = refl
  elements_same ns (ArrayOf a) vs common =
      let one_here : 0 < tick (a.buffer == a.buffer) = here a.buffer in
      ap (λ (words : List ℤ). map (λ place. slice_index_or words place (pos 0)) (spread 0 a.extents ns a.places))
      (common a.buffer (omega (arith, one_here)))

  all_elements_same : (ns : List ℕ) (vs : List Bound) → Common vs xs ys →
      map (operand_elements xs ns) vs ≡ map (operand_elements ys ns) vs
  all_elements_same ns [] common = refl
  all_elements_same ns (v ∷ vs) common =
      ap (λ (words : List ℤ). words ∷ map (operand_elements xs ns) vs) (elements_same ns v vs common) ∙
      ap (λ (lists : List (List ℤ)). operand_elements ys ns v ∷ lists)
      (all_elements_same ns vs (λ b p. common b (omega (arith, p))))

-- words stored one after another
words_grown : (places : List ℕ) (words : List ℤ) (xs ys : List (List ℤ)) (buffer : ℕ) → length xs ≡ length ys →
    words_of xs buffer ≡ words_of ys buffer →
    Grown xs ys (with_words xs buffer places words) (with_words ys buffer places words)
words_grown [] words xs ys buffer size same = as_they_are xs ys size
words_grown (place ∷ places) [] xs ys buffer size same = as_they_are xs ys size
words_grown (place ∷ places) (word ∷ words) xs ys buffer size same =
    let first : Grown xs ys (with_word xs buffer place word) (with_word ys buffer place word) =
    word_grown xs ys size buffer place word same in
    let later : Grown (with_word xs buffer place word) (with_word ys buffer place word)
    (with_words (with_word xs buffer place word) buffer places words)
    (with_words (with_word ys buffer place word) buffer places words) =
    words_grown places words (with_word xs buffer place word) (with_word ys buffer place word) buffer first.0
    (first.1 buffer same) in
    (later.0, λ b e. later.1 b (first.1 b e))

stored_same : (at : Loc) (xs ys : List (List ℤ)) (buffer : ℕ) (places : List ℕ) (value : Bound)
    (r : Result (List ℕ) Fault) → length xs ≡ length ys → words_of xs buffer ≡ words_of ys buffer →
    Common (value ∷ []) xs ys →
    SameDone xs ys
    (changed xs at (and_then r (λ ns. Ok (with_words xs buffer places (operand_elements xs ns value)))))
    (changed ys at (and_then r (λ ns. Ok (with_words ys buffer places (operand_elements ys ns value)))))
stored_same at xs ys buffer places value (Ok ns) size same common =
    let words : operand_elements xs ns value ≡ operand_elements ys ns value =
    elements_same xs ys size ns value [] common in (
      refl,
      subst (λ (zs : List ℤ). Grown xs ys (with_words xs buffer places (operand_elements xs ns value))
          (with_words ys buffer places zs)) words
          (words_grown places (operand_elements xs ns value) xs ys buffer size same),
      λ b p. absurd (omega (arith, p)),
    )
stored_same at xs ys buffer places value (Err fault) size same common = (refl, refl, as_they_are xs ys size)

-- Each work.
pub move_reads : ReadsOperands move_work
move_reads [] xs ys size first common = as_they_are xs ys size
move_reads (v ∷ []) xs ys size first common = (refl, as_they_are xs ys size, common)
move_reads (v ∷ w ∷ vs) xs ys size first common = as_they_are xs ys size

pub word_reads : (op : WordOp) (at : Loc) → ReadsOperands (word_work op at)
word_reads word_op.Move at vs xs ys size first common = move_reads vs xs ys size first common
word_reads (word_op.Bin op) at vs xs ys size first common =
    one_word xs ys size at (word_result (word_op.Bin op) (map word_of vs))
word_reads (word_op.Un op) at vs xs ys size first common =
    one_word xs ys size at (word_result (word_op.Un op) (map word_of vs))

pub extent_reads : (axis : Option ℕ) → ReadsOperands (extent_work axis)
extent_reads axis [] xs ys size first common = as_they_are xs ys size
extent_reads axis (v ∷ []) xs ys size first common =
    (refl, as_they_are xs ys size, no_buffer xs ys size (pos (extent_of axis (array_in v))))
extent_reads axis (v ∷ w ∷ vs) xs ys size first common = as_they_are xs ys size

pub get_reads : (at : Loc) → ReadsOperands (get_work at)
get_reads at [] xs ys size first common = as_they_are xs ys size
get_reads at (v ∷ index) xs ys size first common =
    got_same xs ys size at (array_in v).buffer (element_place (array_in v) (map word_of index))
    (operand_same xs ys size v index first common)

pub put_reads : (at : Loc) → ReadsOperands (put_work at)
put_reads at [] xs ys size first common = as_they_are xs ys size
put_reads at (v ∷ []) xs ys size first common = as_they_are xs ys size
put_reads at (v ∷ w ∷ index) xs ys size first common =
    put_same xs ys size at (array_in v).buffer (word_of w) (element_place (array_in v) (map word_of index))
    (operand_same xs ys size v (w ∷ index) first common)

pub pick_reads : (subs : List CoreSub) (at : Loc) → ReadsOperands (pick_work subs at)
pick_reads subs at [] xs ys size first common = as_they_are xs ys size
pick_reads subs at (v ∷ vs) xs ys size first common =
    view_same xs ys size at (array_in v).buffer (picked (subscripts_of subs vs) (array_in v))
    (operand_same xs ys size v vs first common)
    (picked_in (subscripts_of subs vs) 0 (array_in v).buffer (array_in v) refl)

pub flip_reads : ReadsOperands flip_work
flip_reads [] xs ys size first common = as_they_are xs ys size
flip_reads (v ∷ []) xs ys size first common = (
  refl,
  as_they_are xs ys size,
  one_array xs ys (flipped (array_in v))
      (operand_same xs ys size v [] first common),
)
flip_reads (v ∷ w ∷ vs) xs ys size first common = as_they_are xs ys size

pub fresh_reads : (fill : Fill) (at : Loc) → ReadsOperands (fresh_work fill at)
fresh_reads fill at vs xs ys size first common =
    new_same xs ys size at (λ ns. filled fill (element_count ns)) (λ ns. filled fill (element_count ns))
    (fresh_shape fill (map word_of vs)) (λ ns. refl)

pub map_reads : (op : MapOp) (at : Loc) → ReadsOperands (map_work op at)
map_reads op at vs xs ys size first common =
    new_same xs ys size at (λ ns. map_elements xs ns op vs) (λ ns. map_elements ys ns op vs) (shape_of vs)
    (λ ns. ap (mapped op) (all_elements_same xs ys size ns vs common))

pub reduce_reads : (op : RedOp) (at : Loc) → ReadsOperands (reduce_work op at)
reduce_reads op at [] xs ys size first common = as_they_are xs ys size
reduce_reads op at (v ∷ []) xs ys size first common =
    subst (λ (words : List ℤ). SameDone xs ys
    (valued xs at (as_word (reduced op (elements_of xs (array_in v))))) (valued ys at (as_word (reduced op words))))
    (ap (λ (words : List ℤ). map (λ place. slice_index_or words place (pos 0)) (array_in v).places)
    (operand_same xs ys size v [] first common))
    (one_word xs ys size at (reduced op (elements_of xs (array_in v))))
reduce_reads op at (v ∷ w ∷ vs) xs ys size first common = as_they_are xs ys size

pub store_reads : (at : Loc) → ReadsOperands (store_work at)
store_reads at [] xs ys size first common = as_they_are xs ys size
store_reads at (v ∷ []) xs ys size first common = as_they_are xs ys size
store_reads at (v ∷ w ∷ []) xs ys size first common =
    stored_same at xs ys (array_in v).buffer (array_in v).places w (stored_shape (array_in v).extents w) size
    (operand_same xs ys size v (w ∷ []) first common) (λ b p. common b (omega (arith, p)))
store_reads at (v ∷ w ∷ x ∷ vs) xs ys size first common = as_they_are xs ys size
