-- Array files: a relation between bytes and arrays, the first part of the bytes that breaks it, and the one form that
-- is written. The form is version 1.0 of the NumPy reference's `.npy`, in the element types `<i8` and `|b1`; the limit
-- of 2^22 elements is this project's own.
use Rattle.std.specs.Prelude.{◌≡◌, ◌≢◌, ◌≤◌, ℕ, ◌+◌, ◌-◌, ◌*◌, ◌%◌, ◌==◌, if◌then◌else◌, Bool, true, false, ◌⊎◌, ℤ, pos}
use Rattle.std.specs.Prelude.{List, [], ◌∷◌, ◌++◌, map, length, take, drop, replicate, reverse, slice_index, codes}
use Rattle.std.specs.Prelude.{Result, Ok, Err}
use Rattle.std.specs.List.{flat_map, AllByRecursion}
use Rattle.std.specs.Int.{w64, cast_signed, cast_unsigned}
use Rattle.std.specs.Ordering.{int_eq}
use Rattle.std.specs.Fmt.{decimal}
use Rattle.byteorder.specs.Endian.{little_number, little_bytes}
use Rattle.krn_base.specs.declared.kind.Kind.{Kind}
use Rattle.krn_base.specs.declared.kind.Kind.TheVariants as kinds
use Rattle.view_places.specs.declared.shape.Array.{Array}
use Rattle.view_places.specs.declared.shape.Shape.{Shape}
use Rattle.view_places.specs.Arrays.{element_count, indices, order_of, is_small}
use Rattle.view_places.specs.Shape.{IsShape, extents}
use Rattle.np_file.specs.declared.fault.NpyFault.{NpyFault}
use Rattle.np_file.specs.declared.fault.NpyFault.TheVariants.{BadMagic, BadVersion, BadHeader, BadKind, TooLarge}
use Rattle.np_file.specs.declared.fault.NpyFault.TheVariants.{BadLength, Memory}
use Rattle.np_file.specs.Header.{Heading, IsHeader}

-- the byte 0x93 and `NUMPY`
abbrev pub magic : List ℕ
magic = 147 ∷ 78 ∷ 85 ∷ 77 ∷ 80 ∷ 89 ∷ []

-- version 1.0
abbrev pub version : List ℕ
version = 1 ∷ 0 ∷ []

-- The bytes are the magic, the version, two bytes of the header's length with the low one first, the header, and the
-- elements.
pub record HasHeader (bytes : List ℕ) (heading : Heading) (elements : List ℕ) : Type 0 where
  pub low : ℕ
  pub high : ℕ
  pub text : List ℕ
  pub parts : bytes ≡ magic ++ (version ++ (low ∷ high ∷ (text ++ elements)))
  pub text_len : length text ≡ low + 256 * high
  pub is_header : IsHeader heading text

-- the name of an element type
abbrev pub descr_of : Kind → List ℕ
descr_of kinds.Int64 = codes "<i8"
descr_of kinds.Bool = codes "|b1"

-- how many bytes an element takes
abbrev pub element_size : Kind → ℕ
element_size kinds.Int64 = 8
element_size kinds.Bool = 1

-- The word of the element k of the file. An int64 is little-endian, in two's complement; a byte other than 0 is true.
abbrev pub word : Kind → List ℕ → ℕ → ℤ
word kinds.Int64 elements k = cast_signed w64 (little_number 8 (drop (8 * k) elements))
word kinds.Bool elements k = if slice_index elements k == 0 then pos 0 else pos 1

-- Where the element of an index stands in the file: the last index runs fastest, or the first one.
abbrev pub place : Bool → List ℕ → List ℕ → ℕ
place false ns index = order_of ns index
place true ns index = order_of (reverse ns) (reverse index)

-- the words of an array in row-major order
abbrev pub words_of : Kind → Bool → List ℕ → List ℕ → List ℤ
words_of kind first_fastest ns elements = map (λ index. word kind elements (place first_fastest ns index)) (indices ns)

-- the shape of these extents; the entries past its rank are 1
abbrev pub shape_of : List ℕ → Shape
shape_of ns = record { rank = length ns; extent = ns ++ replicate (4 - length ns) 1 }

-- The bytes are an array file of this array.
pub record IsNpy (bytes : List ℕ) (array : Array) : Type 0 where
  pub heading : Heading
  pub elements : List ℕ
  pub header : HasHeader bytes heading elements
  pub kind_is : heading.descr ≡ descr_of array.kind
  pub shape_is : array.shape ≡ shape_of heading.shape
  pub small : is_small heading.shape ≡ true
  pub size : length elements ≡ element_size array.kind * element_count heading.shape
  pub words_are : array.words ≡ words_of array.kind heading.first_fastest heading.shape elements

-- a header stands where it belongs
pub record Readable (bytes : List ℕ) : Type 0 where
  pub heading : Heading
  pub elements : List ℕ
  pub header : HasHeader bytes heading elements

-- it names no element type
pub record NamesNoKind (bytes : List ℕ) : Type 0 where
  pub heading : Heading
  pub elements : List ℕ
  pub header : HasHeader bytes heading elements
  pub none : (kind : Kind) → heading.descr ≡ descr_of kind → ⊥

-- it names one, and an extent or the number of elements is above 2^22
pub record IsTooLarge (bytes : List ℕ) : Type 0 where
  pub heading : Heading
  pub elements : List ℕ
  pub header : HasHeader bytes heading elements
  pub kind : Kind
  pub kind_is : heading.descr ≡ descr_of kind
  pub large : is_small heading.shape ≡ false

-- both are fine, and there are more or fewer bytes than the elements take
pub record HasOtherLength (bytes : List ℕ) : Type 0 where
  pub heading : Heading
  pub elements : List ℕ
  pub header : HasHeader bytes heading elements
  pub kind : Kind
  pub kind_is : heading.descr ≡ descr_of kind
  pub small : is_small heading.shape ≡ true
  pub other : length elements ≢ element_size kind * element_count heading.shape

-- The first part of the bytes that breaks the form. Nothing of the bytes stands for want of memory.
abbrev pub NpyRefusal : List ℕ → NpyFault → Type 0
NpyRefusal bytes BadMagic = take 6 bytes ≢ magic
NpyRefusal bytes BadVersion = (take 6 bytes ≡ magic) × (take 2 (drop 6 bytes) ≢ version)
NpyRefusal bytes BadHeader = (take 6 bytes ≡ magic) × (take 2 (drop 6 bytes) ≡ version) × (Readable bytes → ⊥)
NpyRefusal bytes BadKind = NamesNoKind bytes
NpyRefusal bytes TooLarge = IsTooLarge bytes
NpyRefusal bytes BadLength = HasOtherLength bytes
NpyRefusal bytes Memory = ⊥

-- an answer is this array, unless memory is wanting
abbrev pub IsOnly : Array → Result Array NpyFault → Type 0
IsOnly a (Ok b) = b ≡ a
IsOnly a (Err e) = e ≡ Memory

-- an answer is this refusal, unless memory is wanting
abbrev pub IsRefused : NpyFault → Result Array NpyFault → Type 0
IsRefused f (Ok b) = ⊥
IsRefused f (Err e) = (e ≡ f) ⊎ (e ≡ Memory)

-- ---- the form that is written

-- the numbers behind the first of a tuple, as Python prints them
abbrev pub more_numbers : List ℕ → List ℕ
more_numbers [] = codes ")"
more_numbers (n ∷ ns) = codes ", " ++ (decimal n ++ more_numbers ns)

-- a tuple as Python prints it: `(3,)`, `(2, 3)`
abbrev pub tuple_text : List ℕ → List ℕ
tuple_text [] = codes "()"
tuple_text (n ∷ []) = codes "(" ++ (decimal n ++ codes ",)")
tuple_text (n ∷ m ∷ ns) = codes "(" ++ (decimal n ++ more_numbers (m ∷ ns))

-- the dictionary of an array of this kind with these extents, as Python prints it
abbrev pub dictionary : Kind → List ℕ → List ℕ
dictionary kind ns = codes "{'descr': '" ++
    (descr_of kind ++ (codes "', 'fortran_order': False, 'shape': " ++ (tuple_text ns ++ codes ", }")))

-- the spaces with which ten bytes, a dictionary of n bytes, the spaces and a line feed have the least multiple of 64
-- bytes
abbrev pub padding : ℕ → ℕ
padding n = (64 - (n + 11) % 64) % 64

abbrev pub header_text : Kind → List ℕ → List ℕ
header_text kind ns = dictionary kind ns ++ (replicate (padding (length (dictionary kind ns))) 32 ++ 10 ∷ [])

-- the bytes of a word
abbrev pub element : Kind → ℤ → List ℕ
element kinds.Int64 z = little_bytes 8 (cast_unsigned w64 z)
element kinds.Bool z = (if int_eq z (pos 0) then 0 else 1) ∷ []

-- the file of an array
abbrev pub file_text : Kind → List ℕ → List ℤ → List ℕ
file_text kind ns zs = magic ++ (version ++
    (little_bytes 2 (length (header_text kind ns)) ++ (header_text kind ns ++ flat_map (element kind) zs)))

abbrev pub npy_text : Array → List ℕ
npy_text a = file_text a.kind (extents a.shape) a.words

-- what may be written: a shape of rank 1 to 4 within the limits, and a word for each element, which is 0 or 1 where the
-- kind is Bool
abbrev pub IsTruth : ℤ → Type 0
IsTruth z = (z ≡ pos 0) ⊎ (z ≡ pos 1)

abbrev pub AreWords : Kind → List ℤ → Type 0
AreWords kinds.Int64 zs = Unit {0}
AreWords kinds.Bool zs = AllByRecursion IsTruth zs

-- An array that may be written.
pub record IsWritable (a : Array) : Type 0 where
  pub shape : IsShape a.shape
  pub rank : 1 ≤ a.shape.rank
  pub small : is_small (extents a.shape) ≡ true
  pub count : length a.words ≡ element_count (extents a.shape)
  pub words : AreWords a.kind a.words
