-- What a slice picks of a dimension, by the rules of Python's slice objects (`slice.indices`).
use Rattle.std.specs.Prelude.{ℕ, zero, suc, Bool, List, map, filter, if◌then◌else◌, ℤ, pos, negsuc, ◌+ℤ◌, ◌-ℤ◌, ◌*ℤ◌}
use Rattle.std.specs.Prelude.{◌≤ℤ◌, ◌<ℤ◌, ◌≡◌, int_lt, unsigned_abs, Option, Some, None, unwrap_or, option_map, length}
use Rattle.std.specs.Prelude.{slice_index, slice_set}
use Rattle.std.specs.List.{range_with_len}
use Rattle.std.specs.Int.{int_max, int_min}
use Rattle.view_places.specs.Arrays.{sliced}
use Rattle.view_places.specs.declared.slice.Slice.{Slice}

-- a bound counted from the front: n is added to a negative one
abbrev pub from_front : ℕ → ℤ → ℤ
from_front n (pos i) = pos i
from_front n (negsuc i) = pos n +ℤ negsuc i

-- the nearest number from `least` to `most`
abbrev pub clip : ℤ → ℤ → ℤ → ℤ
clip least most z = int_max least (int_min z most)

-- whether a walk by a step stands before a stop
abbrev pub is_before : ℤ → ℤ → ℤ → Bool
is_before step stop i = if int_lt (pos 0) step then int_lt i stop else int_lt stop i

-- the number that stands k steps from a start
abbrev pub after_steps : ℤ → ℤ → ℕ → ℤ
after_steps start step k = start +ℤ (pos k *ℤ step)

-- the numbers from a start by a step that stand before a stop; of a dimension with n entries a walk meets n at most
abbrev pub walk : ℕ → ℤ → ℤ → ℤ → List ℤ
walk n start stop step = filter (is_before step stop) (map (after_steps start step) (range_with_len 0 n))

-- a bound that is given, counted from the front and clipped, or else the absent one
abbrev pub bound : ℕ → ℤ → ℤ → ℤ → Option ℤ → ℤ
bound n least most absent None = absent
bound n least most absent (Some z) = clip least most (from_front n z)

-- the numbers that a slice by a step picks of a dimension with n entries
abbrev pub picks_by : ℕ → Slice → ℤ → Option (List ℕ)
picks_by n s (pos zero) = None
picks_by n s (pos (suc k)) =
    Some (map unsigned_abs (walk n (bound n (pos 0) (pos n) (pos 0) s.start) (bound n (pos 0) (pos n) (pos n) s.stop)
    (pos (suc k))))
picks_by n s (negsuc k) =
    Some (map unsigned_abs (walk n (bound n (negsuc 0) (pos n -ℤ pos 1) (pos n -ℤ pos 1) s.start)
    (bound n (negsuc 0) (pos n -ℤ pos 1) (negsuc 0) s.stop) (negsuc k)))

-- the numbers that a slice picks of a dimension with n entries, in its order; None at step 0
abbrev pub slice_indices : ℕ → Slice → Option (List ℕ)
slice_indices n s = picks_by n s (unwrap_or s.step (pos 1))

-- d is how far a stop is past a start, or 0 where it isn't past it
pub record IsDistance (start stop : ℤ) (d : ℕ) : Type 0 where
  pub past : start <ℤ stop → start +ℤ pos d ≡ stop
  pub none : stop ≤ℤ start → d ≡ 0

-- the extents after a slice of a dimension: that dimension has as many as the slice picks; None at step 0
abbrev pub sliced_extents : ℕ → Slice → List ℕ → Option (List ℕ)
sliced_extents axis s ns = option_map (λ picks. slice_set ns axis (length picks))
    (slice_indices (slice_index ns axis) s)

-- the entries that a slice keeps of a dimension; None at step 0
abbrev pub sliced_by : {A : Type 0} → A → ℕ → Slice → List ℕ → List A → Option (List A)
sliced_by past axis s ns xs = option_map (λ picks. sliced past axis picks ns xs) (slice_indices (slice_index ns axis) s)
