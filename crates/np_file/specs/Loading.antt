-- Reading an array file from left to right, on lists, with the first part that isn't of the form.
-- It mirrors private functions, whose clauses alone cite it; what a file is stands in `Npy` and `Header`.
use Rattle.std.specs.Prelude.{◌≡◌, ℕ, ◌+◌, ◌*◌, ◌/◌, ◌%◌, ◌==◌, nat_lt, if◌then◌else◌, Bool, true, false, ◌⊎◌, List, []}
use Rattle.std.specs.Prelude.{◌∷◌, length, take, drop, map, ℤ, Option, Some, None, codes, Result, Ok, Err}
use Rattle.std.specs.List.{range_with_len}
use Rattle.std.specs.Str.{bytes_eq}
use Rattle.krn_base.specs.declared.kind.Kind.{Kind}
use Rattle.krn_base.specs.declared.kind.Kind.TheVariants as kinds
use Rattle.view_places.specs.declared.shape.Array.{Array}
use Rattle.view_places.specs.Arrays.{element_count, is_small}
use Rattle.np_file.specs.declared.fault.NpyFault.{NpyFault}
use Rattle.np_file.specs.declared.fault.NpyFault.TheVariants.{BadMagic, BadVersion, BadHeader, BadKind, TooLarge}
use Rattle.np_file.specs.declared.fault.NpyFault.TheVariants.{BadLength, Memory}
use Rattle.np_file.specs.Header.{Heading}
use Rattle.np_file.specs.Npy.{magic, version, element_size, word, words_of, shape_of}
use Rattle.np_file.specs.Reading.{stripped, header_at}

infixl 10 ◌>>=◌
abbrev pub ◌>>=◌ : {A B : Type 0} → Result A NpyFault → (A → Result B NpyFault) → Result B NpyFault
(Ok x) >>= f = f x
(Err e) >>= f = Err e

-- what a function returned, seen by view, is what reading gives
abbrev pub Loads : {X Y : Type 0} → (X → Y) → Result X NpyFault → Result Y NpyFault → Type 0
Loads view (Err e) read = read ≡ Err e
Loads view (Ok x) read = read ≡ Ok (view x)

abbrev pub or_fault : {A : Type 0} → NpyFault → Option A → Result A NpyFault
or_fault f None = Err f
or_fault f (Some x) = Ok x

-- the text of a header, and the elements behind it
abbrev pub text_at : List ℕ → Option (List ℕ × List ℕ)
text_at [] = None
text_at (low ∷ []) = None
text_at (low ∷ high ∷ rest) = if nat_lt (length rest) (low + 256 * high) then None else Some
    (take (low + 256 * high) rest, drop (low + 256 * high) rest)

unfoldable pub preamble_at : List ℕ → Result (Heading × List ℕ) NpyFault
preamble_at bytes = do
  rest ← or_fault BadMagic (stripped magic bytes)
  behind ← or_fault BadVersion (stripped version rest)
  text ← or_fault BadHeader (text_at behind)
  heading ← or_fault BadHeader (header_at text.0)
  Ok (heading, text.1)

unfoldable pub kind_of : List ℕ → Option Kind
kind_of descr =
    if bytes_eq descr (codes "<i8") then Some kinds.Int64
    else (if bytes_eq descr (codes "|b1") then Some kinds.Bool else None)

-- an array that is still to be taken out of its elements
pub record Plan : Type 0 where
  pub kind : Kind
  pub first_fastest : Bool
  pub shape : List ℕ
  pub elements : List ℕ

-- the size is right
abbrev pub sized : Kind → Heading → List ℕ → Result Plan NpyFault
sized kind heading elements =
    if length elements == element_size kind * element_count heading.shape
    then Ok (record { kind = kind; first_fastest = heading.first_fastest; shape = heading.shape; elements = elements })
    else Err BadLength

abbrev pub limited : Kind → Heading → List ℕ → Result Plan NpyFault
limited kind heading elements = if is_small heading.shape then sized kind heading elements else Err TooLarge

unfoldable pub plan_at : List ℕ → Result Plan NpyFault
plan_at bytes = do
  read ← preamble_at bytes
  kind ← or_fault BadKind (kind_of read.0.descr)
  limited kind read.0 read.1

-- where the element number k in row-major order stands where the first index runs fastest
unfoldable pub transposed : List ℕ → ℕ → ℕ
transposed [] k = 0
transposed (n ∷ ns) k = k / element_count ns + n * transposed ns (k % element_count ns)

abbrev pub place_at : Bool → List ℕ → ℕ → ℕ
place_at false ns k = k
place_at true ns k = transposed ns k

-- the first n words, one element after the other
abbrev pub first_words : Plan → ℕ → List ℤ
first_words plan n = map (λ k. word plan.kind plan.elements (place_at plan.first_fastest plan.shape k))
    (range_with_len 0 n)

abbrev pub array_of : Plan → Array
array_of plan = record {
  kind = plan.kind;
  shape = shape_of plan.shape;
  words =
      words_of plan.kind plan.first_fastest plan.shape plan.elements;
}

unfoldable pub array_at : List ℕ → Result Array NpyFault
array_at bytes = do
  plan ← plan_at bytes
  Ok (array_of plan)

-- an answer is what reading gives, unless memory is wanting
abbrev pub Answers : Result Array NpyFault → Result Array NpyFault → Type 0
Answers (Ok a) read = read ≡ Ok a
Answers (Err f) read = (f ≡ Memory) ⊎ (read ≡ Err f)
