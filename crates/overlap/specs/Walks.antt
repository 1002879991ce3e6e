-- Storing one element after another, or all at once, where an element is made of the words of leaves at its position.
use Rattle.std.specs.Prelude.{◌≡◌, ◌≢◌, ℕ, ◌+◌, ◌<◌, List, [], ◌∷◌, map, length, slice_index_or, slice_set, ℤ, pos}
use Rattle.std.specs.List.{AllByRecursion, range_with_len}
use Rattle.overlap.specs.Lists.{verdict_of_places}
use Rattle.overlap.specs.declared.table.Verdict.TheVariants.{Clash}

-- a buffer and places of it
pub record Leaf : Type 0 where
  pub buffer : ℕ
  pub places : List ℕ

-- the word that a leaf has at a position
abbrev pub word_at : List (List ℤ) → Leaf → ℕ → ℤ
word_at buffers leaf k = slice_index_or (slice_index_or buffers leaf.buffer []) (slice_index_or leaf.places k 0) (pos 0)

-- the buffers with a word stored
abbrev pub with_word : List (List ℤ) → ℕ → ℕ → ℤ → List (List ℤ)
with_word buffers b place word = slice_set buffers b (slice_set (slice_index_or buffers b []) place word)

-- the buffers with words stored, from the first place on
abbrev pub with_words : List (List ℤ) → ℕ → List ℕ → List ℤ → List (List ℤ)
with_words buffers b [] words = buffers
with_words buffers b (place ∷ places) [] = buffers
with_words buffers b (place ∷ places) (word ∷ words) = with_words (with_word buffers b place word) b places words

-- each element, numbered from k on, is made of the buffers as they are then and stored at once
abbrev pub in_place : (List (List ℤ) → ℕ → ℤ) → ℕ → ℕ → List ℕ → List (List ℤ) → List (List ℤ)
in_place each b k [] buffers = buffers
in_place each b k (place ∷ places) buffers = in_place each b (k + 1) places (with_word buffers b place (each buffers k))

-- all elements are made before the first is stored
abbrev pub through_temporary : (List (List ℤ) → ℕ → ℤ) → ℕ → List ℕ → List (List ℤ) → List (List ℤ)
through_temporary each b places buffers = with_words buffers b places
    (map (each buffers) (range_with_len 0 (length places)))

-- the words of all leaves at a position are the same in two states
abbrev pub SameAt : List Leaf → ℕ → List (List ℤ) → List (List ℤ) → Type 0
SameAt leaves k before after = AllByRecursion (λ leaf. word_at before leaf k ≡ word_at after leaf k) leaves

-- each of the first elements is made of the words that the leaves have at its position
abbrev pub IsMadeOf : List Leaf → ℕ → (List (List ℤ) → ℕ → ℤ) → Type 0
IsMadeOf leaves count each =
    (k : ℕ) (before after : List (List ℤ)) → k < count → SameAt leaves k before after → each before k ≡ each after k

-- a leaf with as many places as a target, and its verdict is not Clash
pub record IsClear (b : ℕ) (places : List ℕ) (leaf : Leaf) : Type 0 where
  pub count : length leaf.places ≡ length places
  pub verdict : verdict_of_places b places leaf.buffer leaf.places ≢ Clash

-- where no verdict is Clash, both ways of storing leave the same buffers
abbrev pub BothWaysAlike : Type 0
BothWaysAlike =
    (each : List (List ℤ) → ℕ → ℤ) (leaves : List Leaf) (b : ℕ) (places : List ℕ) (buffers : List (List ℤ)) →
    IsMadeOf leaves (length places) each → AllByRecursion (IsClear b places) leaves →
    in_place each b 0 places buffers ≡ through_temporary each b places buffers
