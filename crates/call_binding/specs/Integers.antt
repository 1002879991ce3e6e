-- Words of a call: integers and truth values, and rows of them between commas, as lists of bytes. Both are written as
-- Python
-- prints them; that an integer lies within 64 bits, and that `-0` is one, are this project's own.
use Rattle.std.specs.Prelude.{ℕ, ◌==◌, Bool, false, not, ◌&&◌, if◌then◌else◌, List, [], ◌∷◌, Option, Some, None}
use Rattle.std.specs.Prelude.{option_map, ℤ, pos, negsuc, nat_lt, ◌^◌, codes, bytes_eq}
use Rattle.std.specs.Char.{is_ascii_digit}
use Rattle.std.specs.List.{slice_split}
use Rattle.std.specs.Str.{all_ascii_digits}
use Rattle.std.specs.Str.Parse.{signed_digits_value}
use Rattle.krn_base.specs.declared.kind.Kind.{Kind}
use Rattle.krn_base.specs.declared.kind.Kind.TheVariants.{Int64, Bool as BoolKind}

-- no decimal digit
abbrev pub is_no_digit : ℕ → Bool
is_no_digit c = not (is_ascii_digit c)

-- decimal digits without a leading zero: one digit, or several of which the first isn't `0` (48)
abbrev pub is_decimal : List ℕ → Bool
is_decimal [] = false
is_decimal (c ∷ []) = is_ascii_digit c
is_decimal (c ∷ d ∷ rest) = not (c == 48) && all_ascii_digits (c ∷ d ∷ rest)

-- the same, with or without a minus (45) in front
abbrev pub is_signed_decimal : List ℕ → Bool
is_signed_decimal [] = false
is_signed_decimal (c ∷ rest) = if c == 45 then is_decimal rest else is_decimal (c ∷ rest)

-- a number from -2^63 to 2^63 - 1; `negsuc n` is -n - 1
abbrev pub is_word : ℤ → Bool
is_word (pos n) = nat_lt n (2 ^ 63)
is_word (negsuc n) = nat_lt n (2 ^ 63)

-- the number that a text is the integer of
abbrev pub integer : List ℕ → Option ℤ
integer text = if is_signed_decimal text && is_word (signed_digits_value 10 text)
    then Some (signed_digits_value 10 text) else None

-- the word of a truth value
abbrev pub truth : List ℕ → Option ℤ
truth text = if bytes_eq text (codes "True") then Some (pos 1)
    else (if bytes_eq text (codes "False") then Some (pos 0) else None)

-- the word of this kind that a text is
abbrev pub word : Kind → List ℕ → Option ℤ
word Int64 text = integer text
word BoolKind text = truth text

-- a value in front of values, where there are such
abbrev pub onto : {A : Type 0} → Option A → Option (List A) → Option (List A)
onto None rest = None
onto (Some x) rest = option_map (λ xs. x ∷ xs) rest

-- what several texts say, where each of them says something
abbrev pub each : {A B : Type 0} → (A → Option B) → List A → Option (List B)
each f [] = Some []
each f (x ∷ xs) = onto (f x) (each f xs)

-- the texts between the commas (44); they are one more than the commas
abbrev pub between_commas : List ℕ → List (List ℕ)
between_commas text = slice_split (λ c. c == 44) text

-- the first of two values, or else the second
abbrev pub or_else : {A : Type 0} → Option A → Option A → Option A
or_else None second = second
or_else (Some x) second = Some x

abbrev pub of_kind : {A : Type 0} → Kind → Option A → Option (Kind × A)
of_kind kind value = option_map (λ x. (kind, x)) value

-- a scalar with its kind: an integer, or a truth value
abbrev pub scalar : List ℕ → Option (Kind × ℤ)
scalar text = or_else (of_kind Int64 (word Int64 text)) (of_kind BoolKind (word BoolKind text))

-- the words of one kind between the commas of a text
abbrev pub words : Kind → List ℕ → Option (List ℤ)
words kind text = each (word kind) (between_commas text)

-- words between commas with their kind: integers alone, or truth values alone
abbrev pub some_row : List ℕ → Option (Kind × List ℤ)
some_row text = or_else (of_kind Int64 (words Int64 text)) (of_kind BoolKind (words BoolKind text))

-- the same, with no element at all, of kind int64, in the empty text
abbrev pub row : List ℕ → Option (Kind × List ℤ)
row [] = Some (Int64, [])
row (c ∷ text) = some_row (c ∷ text)
