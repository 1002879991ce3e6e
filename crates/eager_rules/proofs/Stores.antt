-- Words that are stored at places, and read again.
use Rattle.std.proofs.Common.{arith, ◌≡◌, ◌∙◌, ◌<◌, inl, inr, ap, sym, subst, refl, ℕ, suc, ℤ, pos}
use Rattle.std.proofs.Common.{List, [], ◌∷◌, length, slice_index_or}
use Rattle.std.specs.Prelude.{slice_index}
use Rattle.std.proofs.lemmas.Bool.Decides.{eqb_tells}
use Rattle.std.proofs.lemmas.List.{get_or-set_same, get_or-set_other, length-set}
use Rattle.std.specs.Prelude.{slice_set}
use Rattle.array_ops.specs.Arrays.{elements_at, with_word, with_words, word_at, words_of}
use Rattle.eager_rules.specs.Laws.{ReadsWhatWasStored, KeepsOthers}

module _ (buffers : List (List ℤ)) (buffer place : ℕ) (word : ℤ) (there : buffer < length buffers) where
  new_words : words_of (with_word buffers buffer place word) buffer ≡ slice_set (words_of buffers buffer) place word
  new_words = get_or-set_same buffers buffer (slice_set (words_of buffers buffer) place word) [] there

  still_there : buffer < length (with_word buffers buffer place word)
  still_there =
      let long : length (with_word buffers buffer place word) ≡ length buffers =
      length-set buffers buffer (slice_set (words_of buffers buffer) place word) in
      omega (arith, long, there)

  same_length : length (words_of (with_word buffers buffer place word) buffer) ≡ length (words_of buffers buffer)
  same_length = ap (λ (xs : List ℤ). length xs) new_words ∙ length-set (words_of buffers buffer) place word

  word_same : place < length (words_of buffers buffer) →
      word_at (with_word buffers buffer place word) buffer place ≡ word
  word_same inside =
      ap (λ (xs : List ℤ). slice_index_or xs place (pos 0)) new_words ∙
      get_or-set_same (words_of buffers buffer) place word (pos 0) inside

  word_else : (other at : ℕ) → (other ≡ buffer → at ≡ place → ⊥) →
      word_at (with_word buffers buffer place word) other at ≡ word_at buffers other at
  word_else other at apart = elim (eqb_tells other buffer)
      as (λ _. word_at (with_word buffers buffer place word) other at ≡ word_at buffers other at) [
        | inl same ↦
            subst (λ (x : ℕ). word_at (with_word buffers buffer place word) x at ≡ word_at buffers x at) (sym same.1)
            (ap (λ (xs : List ℤ). slice_index_or xs at (pos 0)) new_words ∙
            get_or-set_other (words_of buffers buffer) place at word (pos 0) (apart same.1))
        | inr differs ↦
            ap (λ (xs : List ℤ). slice_index_or xs at (pos 0))
            (get_or-set_other buffers buffer other (slice_set (words_of buffers buffer) place word) [] differs.1)
      ]

pub keeps_others : (places : List ℕ) (words : List ℤ) (buffers : List (List ℤ)) (buffer : ℕ) →
    buffer < length buffers → KeepsOthers buffers buffer places words
keeps_others [] words buffers buffer there other at misses = refl
keeps_others (place ∷ places) [] buffers buffer there other at misses = refl
keeps_others (place ∷ places) (word ∷ words) buffers buffer there other at misses =
    keeps_others places words (with_word buffers buffer place word) buffer (still_there buffers buffer place word there)
    other at (λ same i inside. misses same (suc i) (omega (arith, inside))) ∙
    word_else buffers buffer place word there other at
    (λ same here. misses same 0 (omega arith) (sym here))

pub reads_stored : (places : List ℕ) (words : List ℤ) (buffers : List (List ℤ)) (buffer : ℕ) →
    buffer < length buffers →
    ((i : ℕ) → i < length places → slice_index places i < length (words_of buffers buffer)) →
    ((i j : ℕ) → i < length places → j < length places → slice_index places i ≡ slice_index places j → i ≡ j) →
    length words ≡ length places → ReadsWhatWasStored buffers buffer places words
reads_stored [] [] buffers buffer there inside distinct long = refl
reads_stored [] (word ∷ words) buffers buffer there inside distinct long = absurd (omega (arith, long))
reads_stored (place ∷ places) [] buffers buffer there inside distinct long = absurd (omega (arith, long))
reads_stored (place ∷ places) (word ∷ words) buffers buffer there inside distinct long =
    ap (λ (z : ℤ). z ∷ elements_at (with_words (with_word buffers buffer place word) buffer places words) buffer places)
    first ∙
    ap (λ (zs : List ℤ). word ∷ zs)
    (reads_stored places words (with_word buffers buffer place word) buffer
    (still_there buffers buffer place word there)
    (λ i within.
    let low : slice_index places i < length (words_of buffers buffer) = inside (suc i) (omega (arith, within)) in
    let same : length (words_of (with_word buffers buffer place word) buffer) ≡ length (words_of buffers buffer) =
    same_length buffers buffer place word there in
    omega (arith, low, same))
    (λ i j one two same.
    let next : suc i ≡ suc j = distinct (suc i) (suc j) (omega (arith, one)) (omega (arith, two)) same in
    omega (arith, next))
    (omega (arith, long)))
  where
    first : word_at (with_words (with_word buffers buffer place word) buffer places words) buffer place ≡ word
    first =
        keeps_others places words (with_word buffers buffer place word) buffer
        (still_there buffers buffer place word there) buffer place
        (λ same i within here.
        let no : 0 ≡ suc i = distinct 0 (suc i) (omega arith) (omega (arith, within)) (sym here) in omega (arith, no)) ∙
        word_same buffers buffer place word there (inside 0 (omega arith))
