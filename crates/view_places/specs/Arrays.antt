-- Arrays as lists of entries in row-major order, over shapes that are lists of extents from the first dimension.
-- The rules are those of the NumPy reference (row-major order, broadcasting); the limit of 2^22 is this project's own.
-- There are no strides and no offsets here.
use Rattle.std.specs.Prelude.{◌≡◌, ℕ, ◌+◌, ◌-◌, ◌*◌, ◌^◌, ◌==◌, Bool, true, if◌then◌else◌, not, ◌&&◌, List, [], ◌∷◌}
use Rattle.std.specs.Prelude.{map}
use Rattle.std.specs.Prelude.{length, drop, reverse, max, filter, slice_index, slice_index_or, slice_set, nat_lt}
use Rattle.std.specs.Prelude.{nat_le, ◌<◌, insert, remove, ℤ, pos, negsuc, Option, Some, None, option_map, Result, Ok}
use Rattle.std.specs.Prelude.{Err}
use Rattle.std.specs.List.{flat_map, list_all, range_with_len}
use Rattle.krn_base.specs.declared.fault.Fault.{Fault}
use Rattle.krn_base.specs.declared.fault.Fault.TheVariants.{ValueError, SizeLimit}

-- the most that an extent and a number of elements may be
abbrev pub max_elements : ℕ
max_elements = 2 ^ 22

-- how many elements an array of this shape has
abbrev pub element_count : List ℕ → ℕ
element_count [] = 1
element_count (n ∷ ns) = n * element_count ns

-- the indices of a shape in row-major order: the last one runs fastest
abbrev pub indices : List ℕ → List (List ℕ)
indices [] = [] ∷ []
indices (n ∷ ns) = flat_map (λ i. map (λ index. i ∷ index) (indices ns)) (range_with_len 0 n)

-- where an index stands in row-major order
abbrev pub order_of : List ℕ → List ℕ → ℕ
order_of [] index = 0
order_of (n ∷ ns) [] = 0
order_of (n ∷ ns) (i ∷ index) = i * element_count ns + order_of ns index

-- the entry at an index, of a list in row-major order; past the list it is `past`
abbrev pub entry : {A : Type 0} → A → List ℕ → List A → List ℕ → A
entry past ns xs index = slice_index_or xs (order_of ns index) past

-- the index of the entry that spreading repeats at an index: dimensions that the array lacks are dropped, and the
-- number is 0 along a dimension of extent 1
abbrev pub clipped : List ℕ → List ℕ → List ℕ
clipped [] index = []
clipped (n ∷ ns) [] = []
clipped (n ∷ ns) (i ∷ index) = (if n == 1 then 0 else i) ∷ clipped ns index

-- an array of the shape `from` spread to the shape `to`: entries repeat along missing dimensions and dimensions of
-- extent 1
abbrev pub spread : {A : Type 0} → A → List ℕ → List ℕ → List A → List A
spread past from to xs = map (λ index. entry past from xs (clipped from (drop (length to - length from) index)))
    (indices to)

-- the extent of the dimension that stands k before the last one; 1 where it is missing
abbrev pub extent_back : ℕ → List ℕ → ℕ
extent_back k ns = slice_index_or (reverse ns) k 1

-- the extents other than 1 that shapes have in the dimension k before the last
abbrev pub proper_extents : ℕ → List (List ℕ) → List ℕ
proper_extents k shapes = filter (λ n. not (n == 1)) (map (extent_back k) shapes)

-- all numbers of a list are one number
abbrev pub all_same : List ℕ → Bool
all_same [] = true
all_same (n ∷ ns) = list_all (λ m. m == n) ns

-- the greatest rank of the shapes
abbrev pub greatest_rank : List (List ℕ) → ℕ
greatest_rank [] = 0
greatest_rank (ns ∷ shapes) = max (length ns) (greatest_rank shapes)

-- the aligned dimensions of shapes, from the first: rank - 1, .., 0 before the last
abbrev pub dimensions : List (List ℕ) → List ℕ
dimensions shapes = reverse (range_with_len 0 (greatest_rank shapes))

-- an extent and a number of elements that an array may have
abbrev pub is_small : List ℕ → Bool
is_small ns = list_all (λ n. nat_le n max_elements) ns && nat_le (element_count ns) max_elements

-- the one extent other than 1 in each aligned dimension, or 1
abbrev pub joined_shape : List (List ℕ) → List ℕ
joined_shape shapes = map (λ k. slice_index_or (proper_extents k shapes) 0 1) (dimensions shapes)

-- the broadcast of shapes: ValueError where some aligned dimension has two different extents other than 1, then
-- SizeLimit where the result is too large
abbrev pub broadcast_of : List (List ℕ) → Result (List ℕ) Fault
broadcast_of shapes =
    if list_all (λ k. all_same (proper_extents k shapes)) (dimensions shapes)
    then (if is_small (joined_shape shapes) then Ok (joined_shape shapes) else Err SizeLimit)
    else Err ValueError

-- a shape spreads to another: their broadcast is the other
abbrev pub SpreadsTo : List ℕ → List ℕ → Type 0
SpreadsTo ns ms = broadcast_of (ns ∷ ms ∷ []) ≡ Ok ms

-- an index inside a shape: as many numbers as there are dimensions, each below its extent
abbrev pub Inside : List ℕ → List ℕ → Type 0
Inside [] [] = Unit {0}
Inside [] (i ∷ index) = ⊥
Inside (n ∷ ns) [] = ⊥
Inside (n ∷ ns) (i ∷ index) = (i < n) × Inside ns index

-- which entry of a dimension with n entries a subscript names: from 0 at the first, or from -1 backwards at the last
abbrev pub position_of : ℕ → ℤ → Option ℕ
position_of n (pos i) = if nat_lt i n then Some i else None
position_of n (negsuc i) = if nat_lt i n then Some (n - 1 - i) else None

-- the entries that have the number i in a dimension, without that dimension
abbrev pub at_index : {A : Type 0} → A → ℕ → ℕ → List ℕ → List A → List A
at_index past axis i ns xs = map (λ index. entry past ns xs (insert index axis i)) (indices (remove ns axis))

-- the entries that an integer subscript keeps of a dimension; None outside it
abbrev pub indexed : {A : Type 0} → A → ℕ → ℤ → List ℕ → List A → Option (List A)
indexed past axis i ns xs = option_map (λ k. at_index past axis k ns xs) (position_of (slice_index ns axis) i)

-- an index with another number in a dimension
abbrev pub renumbered : ℕ → List ℕ → List ℕ → List ℕ
renumbered axis picks index = slice_set index axis (slice_index picks (slice_index index axis))

-- the entries that have one of the picked numbers in a dimension, in the order of the picks
abbrev pub sliced : {A : Type 0} → A → ℕ → List ℕ → List ℕ → List A → List A
sliced past axis picks ns xs = map (λ index. entry past ns xs (renumbered axis picks index))
    (indices (slice_set ns axis (length picks)))

-- the entries by reversed indices
abbrev pub transposed : {A : Type 0} → A → List ℕ → List A → List A
transposed past ns xs = map (λ index. entry past ns xs (reverse index)) (indices (reverse ns))
