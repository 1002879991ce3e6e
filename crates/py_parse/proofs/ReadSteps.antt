-- Reading what the grammar gives: the steps of such a proof, how tightly a terminal goes on with what stands before it,
-- and what an expression may begin with.
use Rattle.std.proofs.Common.{◌≡◌, ◌≢◌, ℕ, ◌+◌, ◌<◌, ◌≤◌, ◌==◌, Bool, true, false, eqb, if◌then◌else◌, [], ◌∷◌, ◌++◌}
use Rattle.std.proofs.Common.{append_assoc, append-nil, pos, Option, Some, None, Ok, refl, ap, sym, ◌∙◌, arith}
use Rattle.std.proofs.lemmas.Bool.Decides.{nat_tests}
use denote.Enum.Bare.{same_true, true_same, false_same}
use Rattle.krn_base.specs.declared.place.Loc.{Loc}
use Rattle.krn_base.specs.declared.operation.BinOp.{BinOp}
use Rattle.py_lex.specs.Bytes.{Bytes}
use Rattle.py_parse.specs.contracts.terminal.Terminal.{the_type}
use Rattle.py_parse.specs.declared.terminal.Terminal.{Terminal}
use Rattle.py_parse.specs.declared.terminal.Terminal.TheVariants as t
use Rattle.py_parse.specs.Lexemes.{Lexeme, Lexemes, same}
use Rattle.py_parse.specs.Parser.{kind, Outcome, Parser, and_then, expect, name, number, comma}
use Rattle.py_parse.specs.Trees.{operator_at, comparison, sign, value_of}

-- ---- steps

pub seq : {A B : Type 0} (o : Outcome A) (f : A → Parser B) (x : A) (us : Lexemes) (r : Outcome B) → o ≡ Ok (x, us)
    → f x us ≡ r → and_then o f ≡ r
seq o f x us r first more = rw first more

pub split : (ts a b rest : Lexemes) → ts ≡ a ++ b → ts ++ rest ≡ a ++ (b ++ rest)
split ts a b rest parts = rw parts (append_assoc a b rest)

-- the same where a token stands at the front
pub shift : (ts a b rest : Lexemes) (x : Lexeme) → ts ≡ a ++ b → a ≡ x ∷ [] → ts ++ rest ≡ x ∷ (b ++ rest)
shift ts a b rest x parts tok = split ts a b rest parts ∙ ap (λ (us : Lexemes). us ++ (b ++ rest)) tok

-- the same where nothing else of the rule stands behind it
pub closed : (k : Terminal) (at : Loc) (text : Bytes) (used b rest a : Lexemes) → used ≡ a ++ b
    → a ≡ record { kind = k; loc = at; text = text } ∷ [] → b ≡ []
    → used ++ rest ≡ record { kind = k; loc = at; text = text } ∷ rest
closed k at text used b rest a parts tok empty =
    rw (shift used a b rest (record { kind = k; loc = at; text = text }) parts tok, empty) refl

pub only : (ts a b : Lexemes) → ts ≡ a ++ b → b ≡ [] → ts ≡ a
only ts a b parts empty = parts ∙ (ap (λ (us : Lexemes). a ++ us) empty ∙ append-nil a)

-- ---- terminals

pub same_self : (k : Terminal) → same k k ≡ true
unfolding same
same_self k = true_same the_type k k refl

pub not_same : (k l : Terminal) → k ≢ l → same k l ≡ false
unfolding same
not_same k l differ = false_same the_type tt k l differ

pub same_is : (k l : Terminal) → same k l ≡ true → k ≡ l
unfolding same
same_is k l e = same_true the_type tt k l e

pub expect_takes : (k : Terminal) (at : Loc) (text : Bytes) (rest : Lexemes)
    → expect k (record { kind = k; loc = at; text = text } ∷ rest) ≡ Ok (at, rest)
unfolding expect
expect_takes k at text rest = rw (same_self k) refl

pub comma_takes : (at : Loc) (text : Bytes) (rest : Lexemes)
    → comma (record { kind = t.Comma; loc = at; text = text } ∷ rest) ≡ Ok (true, rest)
unfolding comma
comma_takes at text rest = rw (same_self t.Comma) refl

pub no_comma : (ts : Lexemes) → same (kind ts) t.Comma ≡ false → comma ts ≡ Ok (false, ts)
unfolding comma
no_comma ts other = rw other refl

pub name_takes : (at : Loc) (text : Bytes) (rest : Lexemes)
    → name (record { kind = t.Name; loc = at; text = text } ∷ rest) ≡ Ok (record { text = text; loc = at }, rest)
unfolding name
name_takes at text rest = rw (same_self t.Name) refl

pub number_takes : (at : Loc) (text : Bytes) (rest : Lexemes)
    → number (record { kind = t.Number; loc = at; text = text } ∷ rest) ≡ Ok (pos (value_of text), rest)
unfolding number
number_takes at text rest = rw (same_self t.Number) refl

-- ---- how tightly a terminal goes on with what stands before it: what follows an expression is looser than its
-- operators

abbrev pub loose : Terminal → ℕ
loose t.OpenParen = 1
loose t.OpenBracket = 1
loose t.Dot = 1
loose t.Power = 2
loose t.Star = 3
loose t.DoubleSlash = 3
loose t.Percent = 3
loose t.Plus = 4
loose t.Minus = 4
loose t.ShiftLeft = 5
loose t.ShiftRight = 5
loose t.Ampersand = 6
loose t.Caret = 7
loose t.Bar = 8
loose t.Equal = 9
loose t.NotEqual = 9
loose t.Less = 9
loose t.LessEqual = 9
loose t.Greater = 9
loose t.GreaterEqual = 9
loose t.And = 10
loose t.Or = 11
loose _ = 12

whole : (b : Bool) (x : BinOp) (o : Option BinOp) → (if b then Some x else None) ≡ o → o ≢ None → b ≡ true
whole true x o e some = refl
whole false x o e some = absurd (some (sym e))

nothing : (b : Bool) (o : Option BinOp) → (if b then o else o) ≡ o
nothing true o = refl
nothing false o = refl

apart : (a n : ℕ) → a ≢ n → eqb a n ≡ false
apart a n differ = grind (arith, nat_tests)

together : (a n : ℕ) → eqb a n ≡ true → a ≡ n
together a n e = grind (arith, nat_tests)

table : (a n l : ℕ) (o : Option BinOp) → l ≡ a + 2 → n + 2 < l → (if a == n then o else None) ≡ None
table a n l o is lt = rw (apart a n (λ e. omega arith)) refl

pub no_operator : (n : ℕ) (k : Terminal) → n + 2 < loose k → operator_at n k ≡ None
unfolding operator_at
no_operator n t.Star lt = table 1 n 3 _ refl lt
no_operator n t.DoubleSlash lt = table 1 n 3 _ refl lt
no_operator n t.Percent lt = table 1 n 3 _ refl lt
no_operator n t.Plus lt = table 2 n 4 _ refl lt
no_operator n t.Minus lt = table 2 n 4 _ refl lt
no_operator n t.ShiftLeft lt = table 3 n 5 _ refl lt
no_operator n t.ShiftRight lt = table 3 n 5 _ refl lt
no_operator n t.Ampersand lt = table 4 n 6 _ refl lt
no_operator n t.Caret lt = table 5 n 7 _ refl lt
no_operator n t.Bar lt = table 6 n 8 _ refl lt
no_operator n _ lt = nothing _ None

at_level : (a n : ℕ) (x y : BinOp) → (if a == n then Some x else None) ≡ Some y → a + 2 ≡ n + 2
at_level a n x y e = ap (λ (m : ℕ). m + 2) (together a n (whole (a == n) x (Some y) e (λ e2. absurd cc)))

none_some : (b : Bool) (y : BinOp) → (if b then None else None) ≡ Some y → ⊥
none_some true y e = absurd cc
none_some false y e = absurd cc

pub operator_loose : (n : ℕ) (k : Terminal) (x : BinOp) → operator_at n k ≡ Some x → loose k ≡ n + 2
unfolding operator_at
operator_loose n t.Star x e = at_level 1 n _ x e
operator_loose n t.DoubleSlash x e = at_level 1 n _ x e
operator_loose n t.Percent x e = at_level 1 n _ x e
operator_loose n t.Plus x e = at_level 2 n _ x e
operator_loose n t.Minus x e = at_level 2 n _ x e
operator_loose n t.ShiftLeft x e = at_level 3 n _ x e
operator_loose n t.ShiftRight x e = at_level 3 n _ x e
operator_loose n t.Ampersand x e = at_level 4 n _ x e
operator_loose n t.Caret x e = at_level 5 n _ x e
operator_loose n t.Bar x e = at_level 6 n _ x e
operator_loose n _ x e = absurd (none_some _ x e)

pub no_comparison : (k : Terminal) → 9 < loose k → comparison k ≡ None
no_comparison t.Equal lt = absurd (omega arith)
no_comparison t.NotEqual lt = absurd (omega arith)
no_comparison t.Less lt = absurd (omega arith)
no_comparison t.LessEqual lt = absurd (omega arith)
no_comparison t.Greater lt = absurd (omega arith)
no_comparison t.GreaterEqual lt = absurd (omega arith)
no_comparison _ lt = refl

pub comparison_loose : (k : Terminal) (x : BinOp) → comparison k ≡ Some x → loose k ≡ 9
comparison_loose t.Equal x e = refl
comparison_loose t.NotEqual x e = refl
comparison_loose t.Less x e = refl
comparison_loose t.LessEqual x e = refl
comparison_loose t.Greater x e = refl
comparison_loose t.GreaterEqual x e = refl
comparison_loose _ x e = absurd cc

-- a terminal that is looser than another is not that one
pub looser : (k l : Terminal) → loose l < loose k → same k l ≡ false
looser k l lt = not_same k l (λ e. omega (arith, ap loose e))

-- ---- what an expression begins with: an operand (1), a sign (2) or `not` (3)

abbrev pub begin : Terminal → ℕ
begin t.Name = 1
begin t.Number = 1
begin t.True = 1
begin t.False = 1
begin t.OpenParen = 1
begin t.Plus = 2
begin t.Minus = 2
begin t.Tilde = 2
begin t.Not = 3
begin _ = 0

pub begins_not : (k l : Terminal) → 1 ≤ begin k → begin l ≡ 0 → same k l ≡ false
begins_not k l starts ends = not_same k l (λ e. omega (arith, ap begin e))

pub no_sign : (k : Terminal) → begin k < 2 → sign k ≡ None
no_sign t.Plus lt = absurd (omega arith)
no_sign t.Minus lt = absurd (omega arith)
no_sign t.Tilde lt = absurd (omega arith)
no_sign _ lt = refl

pub sign_begins : (k : Terminal) (x : ℕ) → sign k ≡ Some x → begin k ≡ 2
sign_begins t.Plus x e = refl
sign_begins t.Minus x e = refl
sign_begins t.Tilde x e = refl
sign_begins _ x e = absurd cc
