-- Guards of parallel loops: exact sums, the first and last value of each loop, and the conditions. (This project's
-- own.)
use Rattle.std.specs.Prelude.{ℕ, ◌==◌, Bool, true, false, not, ◌&&◌, if◌then◌else◌, ℤ, pos, ◌+ℤ◌, ◌*ℤ◌, int_le}
use Rattle.std.specs.Prelude.{List, [], ◌∷◌, ◌++◌, map, length, Option, Some, None, Result, Ok, Err}
use Rattle.std.specs.List.{list_all}
use Rattle.std.specs.Ordering.{int_eq}
use Rattle.krn_base.specs.Numbers.{wrap}
use Rattle.krn_base.specs.declared.fault.Fault.{Fault}
use Rattle.view_places.specs.Arrays.{broadcast_of, element_count}
use Rattle.view_places.specs.Slice.{slice_indices}
use Rattle.view_places.specs.declared.slice.Slice.{Slice}
use Rattle.overlap.specs.Lists.{places_apart}
use Rattle.array_ops.specs.Arrays.{ArrayRef}
use Rattle.array_ops.specs.Elements.{spreads_to}
use Rattle.array_ops.specs.Subscripts.{extent_at}
use Rattle.eager_rules.specs.Works.{array_in, range_values, word_of}
use Rattle.loop_prog.specs.State.{State, look, view}
use Rattle.loop_prog.specs.declared.guard.Axis.{Axis}
use Rattle.loop_prog.specs.declared.guard.Axis.TheVariants as axis
use Rattle.loop_prog.specs.declared.guard.Dims.{Dims}
use Rattle.loop_prog.specs.declared.guard.Form.{Form}
use Rattle.loop_prog.specs.declared.guard.Guard.{Guard}
use Rattle.loop_prog.specs.declared.guard.GuardPart.{GuardPart}
use Rattle.loop_prog.specs.declared.guard.GuardPart.TheVariants as part
use Rattle.loop_prog.specs.declared.guard.Symbol.{Symbol}
use Rattle.loop_prog.specs.declared.guard.Symbol.TheVariants as symbol
use Rattle.loop_prog.specs.declared.program.Reg.TheVariants as reg

-- the numbers of loop variables
abbrev pub Numbers : Type 0
Numbers = List (ℕ × ℤ)

-- a register's number: that of a loop's variable, or the word that it holds
abbrev pub number_of : Numbers → ℕ → ℤ → ℤ
number_of [] r held = held
number_of (p ∷ numbers) r held = if p.0 == r then p.1 else number_of numbers r held

abbrev pub extent_in : State → ℕ → ℕ → ℕ
extent_in t v axis = extent_at (array_in (view t v)) axis

abbrev pub symbol_value : State → Numbers → Symbol → ℤ
symbol_value t numbers (symbol.Reg r) = number_of numbers r (word_of (look t (reg.Word r)))
symbol_value t numbers (symbol.Extent v axis) = pos (extent_in t v axis)

-- an exact sum
abbrev pub terms_value : State → Numbers → List (ℤ × Symbol) → ℤ
terms_value t numbers [] = pos 0
terms_value t numbers (p ∷ terms) = (p.0 *ℤ symbol_value t numbers p.1) +ℤ terms_value t numbers terms

abbrev pub form_value : State → Numbers → Form → ℤ
form_value t numbers form = form.constant +ℤ terms_value t numbers form.terms

-- a number within 64 bits
abbrev pub is_word : ℤ → Bool
is_word z = int_eq (wrap z) z

-- the last number of a list, or the one before it
abbrev pub last_of : ℤ → List ℤ → ℤ
last_of z [] = z
last_of z (y ∷ ys) = last_of y ys

-- the first and the last value of a loop; nothing where it has none, or an end is beyond 64 bits
abbrev pub ends_of : Option (List ℤ) → Option (ℤ × ℤ)
ends_of None = None
ends_of (Some []) = None
ends_of (Some (z ∷ zs)) = Some (z, last_of z zs)

abbrev pub loop_ends : ℤ → ℤ → ℤ → Option (ℤ × ℤ)
loop_ends lo hi step = if is_word lo && is_word hi then ends_of (range_values lo hi step) else None

abbrev pub ends_at : State → Form → Form → ℤ → Option (ℤ × ℤ)
ends_at t lo hi step = loop_ends (form_value t [] lo) (form_value t [] hi) step

-- each choice of the first or the last value of every loop
abbrev pub with_ends : ℕ → Option (ℤ × ℤ) → List Numbers → List Numbers
with_ends var None corners = corners
with_ends var (Some ends) corners =
    map (λ numbers. (var, ends.0) ∷ numbers) corners ++ map (λ numbers. (var, ends.1) ∷ numbers) corners

abbrev pub corners_of : State → List GuardPart → List Numbers
corners_of t [] = [] ∷ []
corners_of t (part.Loop var lo hi step ∷ parts) = with_ends var (ends_at t lo hi step) (corners_of t parts)
corners_of t (_ ∷ parts) = corners_of t parts

-- A part of a slice: a number within 64 bits, where it is given.
abbrev pub part_value : State → Option Form → Option ℤ
part_value t None = None
part_value t (Some form) = Some (form_value t [] form)

abbrev pub part_fits : Option ℤ → Bool
part_fits None = true
part_fits (Some z) = is_word z

abbrev pub slice_fits : Slice → Bool
slice_fits s = (part_fits s.start && part_fits s.stop) && part_fits s.step

abbrev pub count_of : Option (List ℕ) → Option ℕ
count_of None = None
count_of (Some picks) = Some (length picks)

abbrev pub count_by_slice : ℕ → Slice → Option ℕ
count_by_slice n s = if slice_fits s then count_of (slice_indices n s) else None

-- how many entries there are along a dimension; nothing where a slice has step 0 or a bound beyond 64 bits
abbrev pub axis_count : State → Axis → Option ℕ
axis_count t (axis.Extent v d) = Some (extent_in t v d)
axis_count t (axis.Count v d start stop step) =
    count_by_slice (extent_in t v d)
    (record { start = part_value t start; stop = part_value t stop; step = part_value t step })

abbrev pub add_count : Option ℕ → Option (List ℕ) → Option (List ℕ)
add_count (Some n) (Some ns) = Some (n ∷ ns)
add_count _ _ = None

abbrev pub axes_counts : State → List Axis → Option (List ℕ)
axes_counts t [] = Some []
axes_counts t (a ∷ axes) = add_count (axis_count t a) (axes_counts t axes)

abbrev pub add_shape : Option (List ℕ) → Option (List (List ℕ)) → Option (List (List ℕ))
add_shape (Some ns) (Some shapes) = Some (ns ∷ shapes)
add_shape _ _ = None

abbrev pub shapes_of : State → List Dims → Option (List (List ℕ))
shapes_of t [] = Some []
shapes_of t (dims ∷ rest) = add_shape (axes_counts t dims.axes) (shapes_of t rest)

-- tests of shapes
abbrev pub shape_fits : Result (List ℕ) Fault → Bool
shape_fits (Ok ns) = true
shape_fits (Err fault) = false

abbrev pub shape_filled : Result (List ℕ) Fault → Bool
shape_filled (Ok ns) = not (element_count ns == 0)
shape_filled (Err fault) = false

abbrev pub all_fit : Option (List (List ℕ)) → Bool
all_fit None = false
all_fit (Some shapes) = shape_fits (broadcast_of shapes)

abbrev pub all_filled : Option (List (List ℕ)) → Bool
all_filled None = false
all_filled (Some shapes) = shape_filled (broadcast_of shapes)

abbrev pub all_into : Option (List ℕ) → Option (List (List ℕ)) → Bool
all_into (Some ns) (Some shapes) = list_all (λ from. spreads_to from ns) shapes
all_into _ _ = false

abbrev pub are_apart : ArrayRef → ArrayRef → Bool
are_apart a b = places_apart a.buffer a.places b.buffer b.places

abbrev pub is_inside : ℕ → ℤ → Bool
is_inside n z = int_le (pos 0) z && int_le (z +ℤ pos 1) (pos n)

abbrev pub has_ends : Option (ℤ × ℤ) → Bool
has_ends None = false
has_ends (Some ends) = true

-- one condition, where `corners` has each choice of the loops' first and last values
abbrev pub part_holds : State → List Numbers → GuardPart → Bool
part_holds t corners (part.Loop var lo hi step) = has_ends (ends_at t lo hi step)
part_holds t corners (part.Apart a b) = are_apart (array_in (view t a)) (array_in (view t b))
part_holds t corners (part.Inside v d form) =
    list_all (λ numbers. is_inside (extent_in t v d) (form_value t numbers form)) corners
part_holds t corners (part.Fits shapes) = all_fit (shapes_of t shapes)
part_holds t corners (part.Filled shapes) = all_filled (shapes_of t shapes)
part_holds t corners (part.Into to from) = all_into (axes_counts t to.axes) (shapes_of t from)

abbrev pub guard_holds : State → Guard → Bool
guard_holds t guard = list_all (part_holds t (corners_of t guard.parts)) guard.parts
