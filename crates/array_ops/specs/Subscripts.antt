-- Subscripts of arrays: NumPy's basic indexing, by Python's rules for an index and for a slice.
use Rattle.std.specs.Prelude.{ℕ, ◌+◌, nat_lt, if◌then◌else◌, ℤ}
use Rattle.std.specs.Prelude.{List, [], ◌∷◌, length, reverse, slice_index_or, slice_set, remove, Option, Some}
use Rattle.std.specs.Prelude.{None, Result, Ok, Err}
use Rattle.krn_base.specs.declared.fault.Fault.{Fault}
use Rattle.krn_base.specs.declared.fault.Fault.TheVariants.{ValueError, IndexError}
use Rattle.view_places.specs.Arrays.{at_index, position_of, sliced, transposed}
use Rattle.view_places.specs.Slice.{slice_indices}
use Rattle.view_places.specs.declared.view.View.{View}
use Rattle.array_ops.specs.Arrays.{ArrayRef, array_of}
use Rattle.array_ops.specs.declared.subscript.Subscript.{Subscript}
use Rattle.array_ops.specs.declared.subscript.Subscript.TheVariants.{At, Cut}

-- what follows a result, unless it is a fault
abbrev pub and_then : {A B : Type 0} → Result A Fault → (A → Result B Fault) → Result B Fault
and_then (Ok a) next = next a
and_then (Err fault) next = Err fault

-- the array that a view stands for, or a fault
abbrev pub refs_of : Result View Fault → Result ArrayRef Fault
refs_of (Ok v) = Ok (array_of v)
refs_of (Err fault) = Err fault

-- the extent of a dimension; 0 where there is none
abbrev pub extent_at : ArrayRef → ℕ → ℕ
extent_at a axis = slice_index_or a.extents axis 0

-- the entries with one index in a dimension, without that dimension
abbrev pub indexed : ℕ → ArrayRef → Option ℕ → Result ArrayRef Fault
indexed axis a None = Err IndexError
indexed axis a (Some i) = Ok (record {
  buffer = a.buffer;
  extents = remove a.extents axis;
  places = at_index 0 axis i a.extents a.places;
})

-- the entries with the picked indices in a dimension, in the order of the picks
abbrev pub cut_to : ℕ → ArrayRef → Option (List ℕ) → Result ArrayRef Fault
cut_to axis a None = Err ValueError
cut_to axis a (Some picks) = Ok (record {
  buffer = a.buffer;
  extents = slice_set a.extents axis (length picks);
  places = sliced 0 axis picks a.extents a.places;
})

-- one subscript, applied to the dimension `axis`; and the dimension that the next one is applied to
abbrev pub subscripted : ℕ → Subscript → ArrayRef → Result ArrayRef Fault
subscripted axis (At i) a = indexed axis a (position_of (extent_at a axis) i)
subscripted axis (Cut s) a = cut_to axis a (slice_indices (extent_at a axis) s)

abbrev pub axis_behind : ℕ → Subscript → ℕ
axis_behind axis (At i) = axis
axis_behind axis (Cut s) = axis + 1

-- Subscripts, applied one after another from the dimension `axis` on: the first faulty one decides. Dimensions that
-- have none stay whole. A subscript for which there is no dimension is NumPy's IndexError.
abbrev pub picked_from : ℕ → List Subscript → ArrayRef → Result ArrayRef Fault
picked_from axis [] a = Ok a
picked_from axis (s ∷ rest) a =
    if nat_lt axis (length a.extents)
    then and_then (subscripted axis s a) (picked_from (axis_behind axis s) rest)
    else Err IndexError

abbrev pub picked : List Subscript → ArrayRef → Result ArrayRef Fault
picked = picked_from 0

-- the place of one element, by an index for each dimension; with fewer there is no one element
abbrev pub one_place : List ℕ → List ℕ → Result ℕ Fault
one_place [] places = Ok (slice_index_or places 0 0)
one_place (n ∷ ns) places = Err IndexError

abbrev pub place_in : ArrayRef → Result ℕ Fault
place_in a = one_place a.extents a.places

abbrev pub element_place : ArrayRef → List ℤ → Result ℕ Fault
element_place a [] = place_in a
element_place a (i ∷ rest) =
    if nat_lt 0 (length a.extents)
    then and_then (subscripted 0 (At i) a) (λ part. element_place part rest)
    else Err IndexError

-- the array with its dimensions reversed
abbrev pub flipped : ArrayRef → ArrayRef
flipped a = record { buffer = a.buffer; extents = reverse a.extents; places = transposed 0 a.extents a.places }
