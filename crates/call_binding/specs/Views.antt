-- Views of buffers by subscripts, as in NumPy: an integer takes one entry of a dimension, which goes, and a slice
-- takes several.
use Rattle.std.specs.Prelude.{ℕ, ◌+◌, ◌==◌, Bool, true, false, not, if◌then◌else◌, List, [], ◌∷◌, length, remove}
use Rattle.std.specs.Prelude.{slice_get, slice_set, Option, Some, None, option_map, bytes_eq}
use Rattle.std.specs.List.{position, filter_map, range_with_len}
use Rattle.std.specs.Option.{option_and_then, is_some}
use Rattle.view_places.specs.Arrays.{element_count, position_of, at_index, sliced}
use Rattle.view_places.specs.Shape.{extents}
use Rattle.view_places.specs.Slice.{slice_indices}
use Rattle.view_places.specs.declared.shape.Array.{Array}
use Rattle.call_binding.specs.Tests.{numbered}
use Rattle.call_binding.specs.declared.items.Item.{Item}
use Rattle.call_binding.specs.declared.items.Item.TheVariants.{Buffer, Loaded, Saved, Scalar, Argument}
use Rattle.call_binding.specs.declared.items.Subscript.{Subscript}
use Rattle.call_binding.specs.declared.items.Subscript.TheVariants.{At, Range}

-- an array under subscripts: the dimension that the next one is for, the extents, and the places in the buffer in
-- row-major
-- order
pub record Cut : Type 0 where
  pub axis : ℕ
  pub extents : List ℕ
  pub places : List ℕ

abbrev pub cut_of : ℕ → List ℕ → List ℕ → Cut
cut_of axis extents places = record { axis = axis; extents = extents; places = places }

abbrev pub at_place : Cut → Option ℕ → Option Cut
at_place cut None = None
at_place cut (Some k) =
    Some (cut_of cut.axis (remove cut.extents cut.axis) (at_index 0 cut.axis k cut.extents cut.places))

abbrev pub with_picks : Cut → Option (List ℕ) → Option Cut
with_picks cut None = None
with_picks cut (Some picks) =
    Some (cut_of (cut.axis + 1) (slice_set cut.extents cut.axis (length picks))
    (sliced 0 cut.axis picks cut.extents cut.places))

-- a subscript for a dimension of n entries: None where an integer is outside it, or a step is 0
abbrev pub subscripted : Cut → Subscript → ℕ → Option Cut
subscripted cut (At i) n = at_place cut (position_of n i)
subscripted cut (Range slice) n = with_picks cut (slice_indices n slice)

-- the same, where there is such a dimension
abbrev pub next_cut : Subscript → Cut → Option Cut
next_cut sub cut = option_and_then (subscripted cut sub) (slice_get cut.extents cut.axis)

-- subscripts are applied from the first dimension on
abbrev pub cut_by : List Subscript → Cut → Option Cut
cut_by [] cut = Some cut
cut_by (sub ∷ subs) cut = option_and_then (cut_by subs) (next_cut sub cut)

-- a whole array in row-major order
abbrev pub whole : List ℕ → Cut
whole ns = cut_of 0 ns (range_with_len 0 (element_count ns))

-- the extents and the places, where a dimension is left
abbrev pub with_dimension : Cut → Option (List ℕ × List ℕ)
with_dimension cut = if length cut.extents == 0 then None else Some (cut.extents, cut.places)

-- an array of these extents under subscripts; None where there are more than dimensions, at a fault, and where no
-- dimension
-- is left
abbrev pub view_by : List Subscript → List ℕ → Option (List ℕ × List ℕ)
view_by subs ns = option_and_then with_dimension (cut_by subs (whole ns))

-- the buffers in word order, with their names
abbrev pub buffer_of : Item → Option (List ℕ × Array)
buffer_of (Buffer name array) = Some (name, array)
buffer_of (Loaded name path) = None
buffer_of (Saved name path) = None
buffer_of (Scalar parameter kind word) = None
buffer_of (Argument parameter buffer subs) = None

abbrev pub buffers : List Item → List (List ℕ × Array)
buffers items = filter_map buffer_of items

-- the number of the buffer of a name
abbrev pub place_of : List (List ℕ × Array) → List ℕ → Option ℕ
place_of held name = position (λ buffer. bytes_eq name buffer.0) held

-- a buffer, by its number and its array
abbrev pub with_number : ℕ → List ℕ × Array → ℕ × Array
with_number k buffer = (k, buffer.1)

abbrev pub numbered_array : List (List ℕ × Array) → ℕ → Option (ℕ × Array)
numbered_array held k = option_map (with_number k) (slice_get held k)

abbrev pub array_named : List (List ℕ × Array) → List ℕ → Option (ℕ × Array)
array_named held name = option_and_then (numbered_array held) (place_of held name)

-- a view of a buffer: its number, its array, and the extents and places of the view
pub record Viewed : Type 0 where
  pub buffer : ℕ
  pub array : Array
  pub extents : List ℕ
  pub places : List ℕ

abbrev pub viewed_as : ℕ × Array → List ℕ × List ℕ → Viewed
viewed_as found view = record { buffer = found.0; array = found.1; extents = view.0; places = view.1 }

abbrev pub viewed_by : List Subscript → ℕ × Array → Option Viewed
viewed_by subs found = option_map (viewed_as found) (view_by subs (extents found.1.shape))

-- the view that an argument passes
abbrev pub viewed : List (List ℕ × Array) → List ℕ → List Subscript → Option Viewed
viewed held name subs = option_and_then (viewed_by subs) (array_named held name)

-- Test 8. The view of an argument has a fault.
abbrev pub is_faulty : List (List ℕ × Array) → Item → Bool
is_faulty held (Buffer name array) = false
is_faulty held (Loaded name path) = false
is_faulty held (Saved name path) = false
is_faulty held (Scalar parameter kind word) = false
is_faulty held (Argument parameter buffer subs) = not (is_some (viewed held buffer subs))

abbrev pub faulty : List Item → Option ℕ
faulty items = numbered (position (is_faulty (buffers items)) items)
