-- What one item of a call says. The forms and the limits of 2^22 elements and of four dimensions are this project's
-- own; a name
-- is an ASCII identifier of Python, and may be a keyword.
use Rattle.std.specs.Prelude.{ℕ, ◌+◌, ◌-◌, ◌^◌, ◌==◌, nat_le, Bool, false, not, ◌&&◌, ◌||◌, if◌then◌else◌, List, []}
use Rattle.std.specs.Prelude.{◌∷◌, ◌++◌, map, length, replicate, take, drop, codes, Option, Some, None, option_map}
use Rattle.std.specs.Prelude.{Result, Ok, Err, ℤ, pos, negsuc}
use Rattle.std.specs.Borrow.{Bor}
use Rattle.std.specs.Char.{is_ascii_alphabetic, is_ascii_alphanumeric}
use Rattle.std.specs.List.{list_any, position}
use Rattle.std.specs.Option.{option_and_then}
use Rattle.krn_base.specs.declared.kind.Kind.{Kind}
use Rattle.view_places.specs.Arrays.{element_count, is_small}
use Rattle.view_places.specs.Shape.{shape_for}
use Rattle.view_places.specs.declared.shape.Array.{Array}
use Rattle.view_places.specs.declared.shape.Shape.{Shape}
use Rattle.call_binding.specs.Integers.{is_decimal, integer, between_commas, each, scalar, row}
use Rattle.call_binding.specs.declared.text.Bracketed.{Bracketed}
use Rattle.call_binding.specs.declared.items.Item.{Item}
use Rattle.call_binding.specs.declared.items.Item.TheVariants.{Buffer, Loaded, Saved, Scalar, Argument}
use Rattle.call_binding.specs.declared.items.Subscript.{Subscript}
use Rattle.call_binding.specs.declared.items.Subscript.TheVariants.{At, Range}

-- a letter or `_` (95)
abbrev pub begins_name : ℕ → Bool
begins_name c = is_ascii_alphabetic c || c == 95

-- no letter, digit or `_`
abbrev pub is_foreign : ℕ → Bool
is_foreign c = not (is_ascii_alphanumeric c || c == 95)

-- a letter or `_`, and then nothing but letters, digits and `_`
abbrev pub is_name : List ℕ → Bool
is_name [] = false
is_name (c ∷ rest) = begins_name c && not (list_any is_foreign rest)

-- what stands before the first byte c, and what stands behind it
abbrev pub cut : ℕ → List ℕ → Option (List ℕ × List ℕ)
cut c text = option_map (λ at. (take at text, drop (at + 1) text)) (position (λ b. b == c) text)

-- what follows a prefix
abbrev pub after : List ℕ → List ℕ → Option (List ℕ)
after [] text = Some text
after (p ∷ prefix) [] = None
after (p ∷ prefix) (c ∷ text) = if c == p then after prefix text else None

-- A text that may end in a part between two brackets: what stands before it, and the part.
abbrev pub closed : List ℕ → Option (List ℕ × List ℕ) → Option (List ℕ × Option (List ℕ))
closed front None = None
closed front (Some sides) = if length sides.1 == 0 then Some (front, Some sides.0) else None

abbrev pub opened : ℕ → List ℕ → Option (List ℕ × List ℕ) → Option (List ℕ × Option (List ℕ))
opened right text None = Some (text, None)
opened right text (Some sides) = closed sides.0 (cut right sides.1)

abbrev pub bracketed : ℕ → ℕ → List ℕ → Option (List ℕ × Option (List ℕ))
bracketed left right text = opened right text (cut left text)

-- what the two parts of a text in the program stand for
abbrev pub parts : Bracketed → List ℕ × Option (List ℕ)
parts text = (text.front.now, option_map (λ inner. inner.now) text.inner)

-- ---- `buf:`

-- an extent: decimal digits without sign and leading zero, for a number up to 2^22
abbrev pub extent_of : ℤ → Option ℕ
extent_of (pos n) = if nat_le n (2 ^ 22) then Some n else None
extent_of (negsuc n) = None

abbrev pub extent : List ℕ → Option ℕ
extent text = if is_decimal text then option_and_then extent_of (integer text) else None

-- the extents of a row of n elements: rank 1, or those that stand in the parentheses
abbrev pub extents_of : Option (List ℕ) → ℕ → Option (List ℕ)
extents_of None n = Some (n ∷ [])
extents_of (Some inner) n = each extent (between_commas inner)

-- the array of these words, where they are as many as the shape has elements
abbrev pub array_of : Kind × List ℤ → Option Shape → Option Array
array_of words None = None
array_of words (Some shape) = Some (record { kind = words.0; shape = shape; words = words.1 })

abbrev pub array_by : Kind × List ℤ → Option (List ℕ) → Option Array
array_by words None = None
array_by words (Some ns) = array_of words (shape_for ns (length words.1))

-- the array of a row of words, with or without dimensions
abbrev pub shaped : Option (List ℕ) → Option (Kind × List ℤ) → Option Array
shaped inner None = None
shaped inner (Some words) = array_by words (extents_of inner (length words.1))

abbrev pub buffer_by : List ℕ → Option Array → Option Item
buffer_by name None = None
buffer_by name (Some array) = if is_name name then Some (Buffer name array) else None

-- a buffer, by what stands before the `=` and behind it; 40 and 41 are the parentheses
abbrev pub buffer_of : Option (List ℕ × Option (List ℕ)) → List ℕ → Option Item
buffer_of None elements = None
buffer_of (Some head) elements = buffer_by head.0 (shaped head.1 (row elements))

abbrev pub buffer_item : List ℕ → List ℕ → Option Item
buffer_item head elements = buffer_of (bracketed 40 41 head) elements

-- ---- `npy:` and `out:`

-- a name and a path, which isn't empty
abbrev pub names_file : List ℕ → List ℕ → Bool
names_file name path = is_name name && not (length path == 0)

abbrev pub loaded_item : List ℕ → List ℕ → Option Item
loaded_item name path = if names_file name path then Some (Loaded name path) else None

abbrev pub saved_item : List ℕ → List ℕ → Option Item
saved_item name path = if names_file name path then Some (Saved name path) else None

-- ---- arguments

-- a part of a slice: nothing, or an integer
abbrev pub slice_part : List ℕ → Option (Option ℤ)
slice_part [] = Some None
slice_part (c ∷ text) = option_map Some (integer (c ∷ text))

abbrev pub slice_of : Option (Option ℤ) → Option (Option ℤ) → Option (Option ℤ) → Option Subscript
slice_of (Some start) (Some stop) (Some step) = Some (Range (record { start = start; stop = stop; step = step }))
slice_of (Some start) (Some stop) None = None
slice_of (Some start) None step = None
slice_of None stop step = None

-- a subscript: an integer, or two or three parts of a slice between colons (58)
abbrev pub by_second_colon : List ℕ → List ℕ → Option (List ℕ × List ℕ) → Option Subscript
by_second_colon start rest None = slice_of (slice_part start) (slice_part rest) (Some None)
by_second_colon start rest (Some sides) = slice_of (slice_part start) (slice_part sides.0) (slice_part sides.1)

abbrev pub by_colon : List ℕ → Option (List ℕ × List ℕ) → Option Subscript
by_colon text None = option_map At (integer text)
by_colon text (Some sides) = by_second_colon sides.0 sides.1 (cut 58 sides.1)

abbrev pub subscript : List ℕ → Option Subscript
subscript text = by_colon text (cut 58 text)

-- the subscripts in brackets, and none without brackets
abbrev pub subscripts : Option (List ℕ) → Option (List Subscript)
subscripts None = Some []
subscripts (Some inner) = each subscript (between_commas inner)

abbrev pub argument_by : List ℕ → List ℕ → Option (List Subscript) → Option Item
argument_by parameter buffer None = None
argument_by parameter buffer (Some subs) =
    if is_name parameter && is_name buffer then Some (Argument parameter buffer subs) else None

-- a view of a buffer, by what follows `@`; 91 and 93 are the brackets
abbrev pub argument_of : List ℕ → Option (List ℕ × Option (List ℕ)) → Option Item
argument_of parameter None = None
argument_of parameter (Some parts) = argument_by parameter parts.0 (subscripts parts.1)

abbrev pub scalar_of : List ℕ → Option (Kind × ℤ) → Option Item
scalar_of parameter None = None
scalar_of parameter (Some value) = if is_name parameter then Some (Scalar parameter value.0 value.1) else None

-- an item for a parameter, by what follows `@` in its value
abbrev pub value_item : List ℕ → List ℕ → Option (List ℕ) → Option Item
value_item parameter value (Some view) = argument_of parameter (bracketed 91 93 view)
value_item parameter value None = scalar_of parameter (scalar value)

-- ---- items

-- an item by both sides of its `=`
abbrev pub by_out : List ℕ → List ℕ → Option (List ℕ) → Option Item
by_out left right (Some name) = saved_item name right
by_out left right None = value_item left right (after (codes "@") right)

abbrev pub by_npy : List ℕ → List ℕ → Option (List ℕ) → Option Item
by_npy left right (Some name) = loaded_item name right
by_npy left right None = by_out left right (after (codes "out:") left)

abbrev pub by_buf : List ℕ → List ℕ → Option (List ℕ) → Option Item
by_buf left right (Some head) = buffer_item head right
by_buf left right None = by_npy left right (after (codes "npy:") left)

abbrev pub by_sides : Option (List ℕ × List ℕ) → Option Item
by_sides None = None
by_sides (Some sides) = by_buf sides.0 sides.1 (after (codes "buf:") sides.0)

-- what an item says; None where it is misspelled, or its array isn't one. 61 is `=`
abbrev pub item : List ℕ → Option Item
item text = by_sides (cut 61 text)

-- words as bytes
abbrev pub texts_of : List (Bor (List ℕ)) → List (List ℕ)
texts_of words = map (λ word. word.now) words

-- Test 1. The items from number n on, or the number of the first that is misspelled.
abbrev pub read_next : ℕ → Option Item → Result (List Item) ℕ → Result (List Item) ℕ
read_next n None rest = Err n
read_next n (Some x) (Err m) = Err m
read_next n (Some x) (Ok xs) = Ok (x ∷ xs)

abbrev pub read_from : ℕ → List (List ℕ) → Result (List Item) ℕ
read_from n [] = Ok []
read_from n (text ∷ texts) = read_next n (item text) (read_from (n + 1) texts)
