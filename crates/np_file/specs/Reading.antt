-- Reading a header from left to right, on lists: the value of a part and what stands behind it, or nothing where the
-- text isn't of the form.
-- It mirrors private functions, whose clauses alone cite it; what a file is stands in `Npy` and `Header`.
use Rattle.std.specs.Prelude.{◌≡◌, ℕ, zero, suc, ◌+◌, ◌*◌, ◌-◌, ◌^◌, ◌==◌, nat_lt, nat_le, if◌then◌else◌, Bool, true}
use Rattle.std.specs.Prelude.{false, not, ◌&&◌, ◌||◌, List, [], ◌∷◌, ◌++◌, length, take, drop, fold, Option, Some, None}
use Rattle.std.specs.Prelude.{codes}
use Rattle.std.specs.List.{prefix_len}
use Rattle.std.specs.Char.{is_ascii_digit}
use Rattle.std.specs.Str.{bytes_eq}
use Rattle.np_file.specs.Header.{Heading, Field, is_plain, arranged}
use Rattle.np_file.specs.Header.Field.{Descr, Order, Shape}

infixl 10 ◌>>=◌
abbrev pub ◌>>=◌ : {A B : Type 0} → Option A → (A → Option B) → Option B
None >>= f = None
(Some x) >>= f = f x

-- what a function returned, seen by view, is what reading gives
abbrev pub Gives : {X Y : Type 0} → (X → Y) → Option X → Option Y → Type 0
Gives view None read = read ≡ None
Gives view (Some x) read = read ≡ Some (view x)

abbrev pub after_spaces : List ℕ → List ℕ
after_spaces [] = []
after_spaces (b ∷ ts) = if b == 32 then after_spaces ts else b ∷ ts

abbrev pub first_is : ℕ → List ℕ → Option (List ℕ)
first_is b [] = None
first_is b (c ∷ ts) = if c == b then Some ts else None

unfoldable pub sign_at : ℕ → List ℕ → Option (List ℕ)
sign_at b ts = first_is b (after_spaces ts)

-- a text in front
abbrev pub stripped : List ℕ → List ℕ → Option (List ℕ)
stripped own ts = if bytes_eq (take (length own) ts) own then Some (drop (length own) ts) else None

unfoldable pub word_at : List ℕ → List ℕ → Option (List ℕ)
word_at own ts = stripped own (after_spaces ts)

-- the text up to the closing quote
abbrev pub closed : ℕ → List ℕ → List ℕ → Option (List ℕ × List ℕ)
closed q text [] = None
closed q text (c ∷ ts) = if c == q then Some (text, ts) else None

unfoldable pub quoted_by : ℕ → List ℕ → Option (List ℕ × List ℕ)
quoted_by q ts = closed q (take (prefix_len (is_plain q) ts) ts) (drop (prefix_len (is_plain q) ts) ts)

abbrev pub opened : List ℕ → Option (List ℕ × List ℕ)
opened [] = None
opened (q ∷ ts) = if q == 39 || q == 34 then quoted_by q ts else None

unfoldable pub quoted_at : List ℕ → Option (List ℕ × List ℕ)
quoted_at ts = opened (after_spaces ts)

-- the number of decimal digits
abbrev pub digits_value : List ℕ → ℕ
digits_value ds = fold (λ n d. n * 10 + (d - 48)) 0 ds

abbrev pub in_range : ℕ → Option ℕ
in_range n = if nat_lt n (2 ^ 63) then Some n else None

unfoldable pub number_of : List ℕ → Option ℕ
number_of [] = None
number_of (d ∷ ds) = if d == 48 && not (length ds == 0) then None else in_range (digits_value (d ∷ ds))

unfoldable pub number_in : List ℕ → Option (ℕ × List ℕ)
number_in ts = do
  n ← number_of (take (prefix_len is_ascii_digit ts) ts)
  Some (n, drop (prefix_len is_ascii_digit ts) ts)

unfoldable pub number_at : List ℕ → Option (ℕ × List ℕ)
number_at ts = number_in (after_spaces ts)

-- behind a number of a shape stand another number or the end
pub data Step : Type 0 where
  Next : ℕ → List ℕ → Step
  End : List ℕ → Step

abbrev pub number_or_end : List ℕ → Option (List ℕ) → Option Step
number_or_end ts (Some rest) = Some (End rest)
number_or_end ts None = do
  n ← number_at ts
  Some (Next n.0 n.1)

abbrev pub short_end : ℕ → Option (List ℕ) → Option Step
short_end k None = None
short_end k (Some rest) = if nat_le 2 k then Some (End rest) else None

-- behind the comma, or without it
abbrev pub by_comma : ℕ → List ℕ → Option (List ℕ) → Option Step
by_comma k ts (Some rest) = number_or_end rest (sign_at 41 rest)
by_comma k ts None = short_end k (sign_at 41 ts)

unfoldable pub step_at : ℕ → List ℕ → Option Step
step_at k ts = by_comma k ts (sign_at 44 ts)

abbrev pub by_step : (List ℕ → List ℕ → Option (List ℕ × List ℕ)) → List ℕ → Step → Option (List ℕ × List ℕ)
by_step again found (End rest) = Some (found, rest)
by_step again found (Next n rest) = again (found ++ n ∷ []) rest

-- the numbers, less than `left` more behind those that were found
unfoldable pub numbers_at : ℕ → List ℕ → List ℕ → Option (List ℕ × List ℕ)
numbers_at zero found ts = None
numbers_at (suc left) found ts = step_at (length found) ts >>= by_step (numbers_at left) found

unfoldable pub tuple_at : List ℕ → Option (List ℕ × List ℕ)
tuple_at ts = do
  inner ← sign_at 40 ts
  n ← number_at inner
  numbers_at 4 (n.0 ∷ []) n.1

abbrev pub other_truth : List ℕ → Option (List ℕ) → Option (Bool × List ℕ)
other_truth ts (Some rest) = Some (true, rest)
other_truth ts None = do
  rest ← word_at (codes "False") ts
  Some (false, rest)

unfoldable pub truth_at : List ℕ → Option (Bool × List ℕ)
truth_at ts = other_truth ts (word_at (codes "True") ts)

unfoldable pub descr_at : List ℕ → Option (Field × List ℕ)
descr_at ts = do
  d ← quoted_at ts
  Some (Descr d.0, d.1)

unfoldable pub order_at : List ℕ → Option (Field × List ℕ)
order_at ts = do
  f ← truth_at ts
  Some (Order f.0, f.1)

unfoldable pub shape_at : List ℕ → Option (Field × List ℕ)
shape_at ts = do
  ns ← tuple_at ts
  Some (Shape ns.0, ns.1)

-- the value of a key
unfoldable pub value_at : List ℕ → List ℕ → Option (Field × List ℕ)
value_at key ts =
    if bytes_eq key (codes "descr") then descr_at ts
    else (if bytes_eq key (codes "fortran_order") then order_at ts
    else (if bytes_eq key (codes "shape") then shape_at ts
    else None))

unfoldable pub field_at : List ℕ → Option (Field × List ℕ)
field_at ts = do
  key ← quoted_at ts
  rest ← sign_at 58 key.1
  value_at key.0 rest

-- what stands behind the last field: a comma or none, the bracket, spaces and at most one line feed
abbrev pub or_same : List ℕ → Option (List ℕ) → List ℕ
or_same ts None = ts
or_same ts (Some rest) = rest

abbrev pub is_line_end : List ℕ → Bool
is_line_end [] = true
is_line_end (b ∷ ts) = b == 10 && length ts == 0

abbrev pub ended : List ℕ → Option (List ℕ) → Option (List ℕ)
ended ts rest = sign_at 125 (or_same ts rest)

unfoldable pub ends_at : List ℕ → Bool
ends_at ts = is_line_end (after_spaces ts)

abbrev pub ending_of : Option Heading → Bool → Option Heading
ending_of heading true = heading
ending_of heading false = None

unfoldable pub fields_at : List ℕ → Option Heading
fields_at ts = do
  x ← field_at ts
  behind_x ← sign_at 44 x.1
  y ← field_at behind_x
  behind_y ← sign_at 44 y.1
  z ← field_at behind_y
  rest ← ended z.1 (sign_at 44 z.1)
  ending_of (arranged x.0 y.0 z.0) (ends_at rest)

unfoldable pub header_at : List ℕ → Option Heading
header_at ts = first_is 123 ts >>= fields_at
