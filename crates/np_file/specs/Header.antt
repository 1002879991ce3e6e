-- The header of an array file, as a grammar: which text stands for what. The form is that of version 1.0 in the NumPy
-- reference (numpy.lib.format); how freely the dictionary may be laid out is this project's own rule.
use Rattle.std.specs.Prelude.{◌≡◌, ℕ, suc, ◌<◌, ◌≤◌, ◌^◌, ◌==◌, nat_lt, Bool, true, false, not, ◌&&◌, ◌⊎◌, List, []}
use Rattle.std.specs.Prelude.{◌∷◌, ◌++◌, length, replicate, Option, Some, None, codes}
use Rattle.std.specs.List.{list_all}
use Rattle.std.specs.Fmt.{decimal}

-- what a header says: the name of the element type, whether the first index runs fastest, and the extents
pub record Heading : Type 0 where
  pub descr : List ℕ
  pub first_fastest : Bool
  pub shape : List ℕ

-- one of the three entries of the dictionary
pub data Field : Type 0 where
  Descr : List ℕ → Field
  Order : Bool → Field
  Shape : List ℕ → Field

-- each entry stands once, in any order
abbrev pub arranged : Field → Field → Field → Option Heading
arranged (Descr d) (Order f) (Shape ns) = Some (record { descr = d; first_fastest = f; shape = ns })
arranged (Descr d) (Shape ns) (Order f) = Some (record { descr = d; first_fastest = f; shape = ns })
arranged (Order f) (Descr d) (Shape ns) = Some (record { descr = d; first_fastest = f; shape = ns })
arranged (Order f) (Shape ns) (Descr d) = Some (record { descr = d; first_fastest = f; shape = ns })
arranged (Shape ns) (Descr d) (Order f) = Some (record { descr = d; first_fastest = f; shape = ns })
arranged (Shape ns) (Order f) (Descr d) = Some (record { descr = d; first_fastest = f; shape = ns })
arranged _ _ _ = None

-- a text of the first form, and then one of the second
infixr 6 ◌▷◌
abbrev pub ◌▷◌ : (List ℕ → Type 0) → (List ℕ → Type 0) → List ℕ → Type 0
p ▷ q = λ ts. (a : List ℕ) × (b : List ℕ) × (ts ≡ a ++ b) × p a × q b

-- a text of one of two forms
infixr 5 ◌∣◌
abbrev pub ◌∣◌ : (List ℕ → Type 0) → (List ℕ → Type 0) → List ℕ → Type 0
p ∣ q = λ ts. p ts ⊎ q ts

-- a part of the header, with any number of spaces before it; 32 is the space
abbrev pub spaced : List ℕ → List ℕ → Type 0
spaced own = λ ts. (n : ℕ) × (ts ≡ replicate n 32 ++ own)

abbrev pub sign : ℕ → List ℕ → Type 0
sign b = spaced (b ∷ [])

-- an ASCII byte that may stand between the quotes q
abbrev pub is_plain : ℕ → ℕ → Bool
is_plain q b = nat_lt b 128 && not (b == q)

-- a text in quotes: 39 is ', 34 is "
abbrev pub quoted : List ℕ → List ℕ → Type 0
quoted text = λ ts. (q : ℕ) × ((q ≡ 39) ⊎ (q ≡ 34)) × (list_all (is_plain q) text ≡ true) ×
    spaced (q ∷ (text ++ q ∷ [])) ts

-- a number within 64 bits, in decimal digits without a leading zero
abbrev pub number : ℕ → List ℕ → Type 0
number n = λ ts. (n < 2 ^ 63) × spaced (decimal n) ts

-- What stands behind the k-th number of a shape: the other numbers, each behind a comma, and the bracket `)`. A comma
-- before the bracket may be left out only behind two or more numbers. 44 is the comma.
abbrev pub numbers_after : ℕ → List ℕ → List ℕ → Type 0
numbers_after k [] = (sign 44 ▷ sign 41) ∣ (λ ts. (2 ≤ k) × sign 41 ts)
numbers_after k (n ∷ ns) = sign 44 ▷ number n ▷ numbers_after (suc k) ns

-- a tuple of one to four numbers
abbrev pub tuple : List ℕ → List ℕ → Type 0
tuple [] = λ ts. ⊥
tuple (n ∷ ns) = λ ts. (length ns < 4) × (sign 40 ▷ number n ▷ numbers_after 1 ns) ts

abbrev pub key : Field → List ℕ
key (Descr d) = codes "descr"
key (Order f) = codes "fortran_order"
key (Shape ns) = codes "shape"

abbrev pub truth : Bool → List ℕ
truth true = codes "True"
truth false = codes "False"

abbrev pub value : Field → List ℕ → Type 0
value (Descr d) = quoted d
value (Order f) = spaced (truth f)
value (Shape ns) = tuple ns

-- a key, a colon and a value
abbrev pub field : Field → List ℕ → Type 0
field x = quoted (key x) ▷ sign 58 ▷ value x

-- the bracket `}`, and before it a comma or none
abbrev pub closing : List ℕ → Type 0
closing = sign 125 ∣ (sign 44 ▷ sign 125)

-- spaces, and at most one line feed behind them
abbrev pub ending : List ℕ → Type 0
ending = λ ts. (n : ℕ) × ((ts ≡ replicate n 32) ⊎ (ts ≡ replicate n 32 ++ 10 ∷ []))

abbrev pub fields : Field → Field → Field → List ℕ → Type 0
fields x y z = (λ ts. ts ≡ 123 ∷ []) ▷ field x ▷ sign 44 ▷ field y ▷ sign 44 ▷ field z ▷ closing ▷ ending

-- the text of a header that says h
pub record IsHeader (h : Heading) (text : List ℕ) : Type 0 where
  pub first : Field
  pub second : Field
  pub third : Field
  pub arranged_is : arranged first second third ≡ Some h
  pub text_is : fields first second third text
