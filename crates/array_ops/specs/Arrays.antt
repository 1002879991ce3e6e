-- Arrays that lie in numbered buffers. An array is its buffer's number, the extents of its shape, and the list of its
-- places in row-major order. There are no strides and no offsets. Every definition is total: a buffer that isn't
-- there has no words, and a place past its end reads as 0 and isn't written.
use Rattle.std.specs.Prelude.{ℕ, ℤ, pos, List, [], ◌∷◌, map, slice_index_or, slice_set}
use Rattle.std.specs.List.{range_with_len}
use Rattle.view_places.specs.Arrays.{element_count, spread}
use Rattle.view_places.specs.View.{extents, places}
use Rattle.view_places.specs.declared.view.View.{View}

pub record ArrayRef : Type 0 where
  pub buffer : ℕ
  pub extents : List ℕ
  pub places : List ℕ

-- the array that a view stands for
abbrev pub array_of : View → ArrayRef
array_of v = record { buffer = v.buffer; extents = extents v; places = places v }

-- a whole buffer as an array of this shape
abbrev pub whole_of : ℕ → List ℕ → ArrayRef
whole_of buffer ns = record { buffer = buffer; extents = ns; places = range_with_len 0 (element_count ns) }

-- the words of a buffer, and one of them
abbrev pub words_of : List (List ℤ) → ℕ → List ℤ
words_of buffers buffer = slice_index_or buffers buffer []

abbrev pub word_at : List (List ℤ) → ℕ → ℕ → ℤ
word_at buffers buffer place = slice_index_or (words_of buffers buffer) place (pos 0)

-- the words at places of a buffer
abbrev pub elements_at : List (List ℤ) → ℕ → List ℕ → List ℤ
elements_at buffers buffer places = map (word_at buffers buffer) places

-- the elements of an array, read from the buffers as they are now
abbrev pub elements_of : List (List ℤ) → ArrayRef → List ℤ
elements_of buffers a = elements_at buffers a.buffer a.places

-- the elements of an array spread to a shape: entries repeat along missing dimensions and dimensions of extent 1
abbrev pub spread_elements : List (List ℤ) → List ℕ → ArrayRef → List ℤ
spread_elements buffers ns a = elements_at buffers a.buffer (spread 0 a.extents ns a.places)

-- the buffers with another word at a place
abbrev pub with_word : List (List ℤ) → ℕ → ℕ → ℤ → List (List ℤ)
with_word buffers buffer place word = slice_set buffers buffer (slice_set (words_of buffers buffer) place word)

-- the buffers with other words at places, one after another
abbrev pub with_words : List (List ℤ) → ℕ → List ℕ → List ℤ → List (List ℤ)
with_words buffers buffer [] words = buffers
with_words buffers buffer (place ∷ places) [] = buffers
with_words buffers buffer (place ∷ places) (word ∷ words) =
    with_words (with_word buffers buffer place word) buffer places words
