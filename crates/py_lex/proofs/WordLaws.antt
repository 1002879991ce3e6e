-- What is cut out as a name, a number, an operator or a text is one.
use Rattle.std.proofs.Common.{◌≡◌, ℕ, zero, suc, ◌-◌, ◌^◌, ◌<◌, ◌≤◌, ◌⊎◌, inl, inr, Bool, true, false, cond, eqb, not}
use Rattle.std.proofs.Common.{List, [], ◌∷◌, length, take, slice_index, max, nat_eq, nat_le, Option, Some, None, refl}
use Rattle.std.proofs.Common.{ap, sym, subst, ◌∙◌, arith}
use Rattle.std.proofs.lemmas.Bool.{false≢true, eqb-true, eq-eqb, ltb-true}
use Rattle.std.proofs.lemmas.Bool.Decides.{nat_tests}
use Rattle.std.proofs.lemmas.Slice.Eq.{bytes_eq-Decides}
use Rattle.std.specs.List.{list_any, starts_with}
use Rattle.std.specs.Str.{bytes_eq}
use Rattle.py_lex.specs.declared.bytes.Set.TheVariants.{Digit, Word}
use Rattle.py_lex.specs.Bytes.{Bytes, is_in, are_in, run}
use Rattle.py_lex.specs.Words.{number_value, is_in_range, is_number, is_name, is_operator, operators, longest}
use Rattle.py_lex.proofs.Choices.{by_test, and_true, or_left, or_right, not_true}
use Rattle.py_lex.proofs.ByteLaws.{run_in, run_some, take-first}

in_range-some : (o : Option ℕ) → is_in_range o ≡ true → (n : ℕ) × (o ≡ Some n) × (n < 2 ^ 63)
in_range-some (Some n) e = (n, refl, ltb-true n (2 ^ 63) e)
in_range-some None e = absurd (false≢true e)

pub number-spells : (text : Bytes) → is_number text ≡ true → (n : ℕ) × (number_value text ≡ Some n) × (n < 2 ^ 63)
unfolding is_number
number-spells text e = in_range-some (number_value text) e

nonempty : (b : ℕ) (z : Bytes) → eqb (length (b ∷ z)) 0 ≡ false
nonempty b z = by_test (eqb (length (b ∷ z)) 0) (λ e. absurd (omega (arith, eqb-true (length (b ∷ z)) 0 e))) (λ e. e)

pub name-spells : (z : Bytes) → 0 < length z → is_in Word (slice_index z 0) ≡ true
    → is_in Digit (slice_index z 0) ≡ false → is_name (take (run Word z) z) ≡ true
unfolding is_name
name-spells [] some w d = absurd (omega arith)
name-spells (b ∷ z) some w d =
    let n : ℕ = run Word (b ∷ z) in
    let cut = take-first b n z (run_some (is_in Word) (b ∷ z) some w) in
    let P : Bytes → Type 0 = λ t. are_in Word t ≡ true in
    let all : are_in Word (b ∷ take (n - 1) z) ≡ true =
    subst P cut (run_in (is_in Word) (is_in Word) (λ c e. e) (b ∷ z)) in
    let Q : Bytes → Type 0 = λ t. is_name t ≡ true in
    subst Q (sym cut) (and_true (not (eqb (length (b ∷ take (n - 1) z)) 0)) _
    (not_true _ (nonempty b (take (n - 1) z))) (and_true (not (is_in Digit b)) _ (not_true _ d) all))

-- a text that begins with a word
pub starts-is : (z word : Bytes) → starts_with nat_eq z word ≡ true → word ≡ take (length word) z
starts-is z word e = (bytes_eq-Decides word (take (length word) z)).0 e

length-take-le : (n : ℕ) (z : Bytes) → length (take n z) ≤ length z
length-take-le zero z = omega arith
length-take-le (suc n) [] = omega arith
length-take-le (suc n) (b ∷ z) = omega (arith, length-take-le n z)

pub starts-fits : (z word : Bytes) → starts_with nat_eq z word ≡ true → length word ≤ length z
starts-fits z word e = omega (arith, ap length (starts-is z word e), length-take-le (length word) z)

max-case : (a b : ℕ) → (max a b ≡ a) ⊎ (max a b ≡ b)
max-case a b =
    by_test (nat_le a b)
    (λ e. inr (grind (arith, nat_tests)))
    (λ e. inl (grind (arith, nat_tests)))

longest-is : (words : List Bytes) (z : Bytes)
    → (longest words z ≡ 0) ⊎ (list_any (bytes_eq (take (longest words z) z)) words ≡ true)
longest-is [] z = inl refl
longest-is (word ∷ words) z =
    let a : ℕ = cond (starts_with nat_eq z word) (length word) 0 in
    let b : ℕ = longest words z in
    let P : ℕ → Type 0 = λ n. (n ≡ 0) ⊎ (list_any (bytes_eq (take n z)) (word ∷ words) ≡ true) in
    elim (max-case a b) [
      | inl e ↦ subst P (sym e) (by_test (starts_with nat_eq z word)
          (λ s. let is : a ≡ length word = ap (λ (v : Bool). cond v (length word) 0) s in
          subst P (sym is) (inr
          (or_left _ _ ((bytes_eq-Decides (take (length word) z) word).1 (sym (starts-is z word s))))))
          (λ s. inl (ap (λ (v : Bool). cond v (length word) 0) s)))
      | inr e ↦ subst P (sym e)
          (elim (longest-is words z) [ inl h ↦ inl h | inr h ↦ inr (or_right (bytes_eq (take b z) word) _ h) ])
    ]

pub longest-fits : (words : List Bytes) (z : Bytes) → longest words z ≤ length z
longest-fits [] z = omega arith
longest-fits (word ∷ words) z =
    by_test (starts_with nat_eq z word)
    (λ s. let is : cond (starts_with nat_eq z word) (length word) 0 ≡ length word = ap
    (λ (v : Bool). cond v (length word) 0) s in
    omega (arith, is, starts-fits z word s, longest-fits words z))
    (λ s. let is : cond (starts_with nat_eq z word) (length word) 0 ≡ 0 = ap (λ (v : Bool). cond v (length word) 0) s in
    omega (arith, is, longest-fits words z))

pub operator-spells : (z : Bytes) → eqb (longest operators z) 0 ≡ false
    → is_operator (take (longest operators z) z) ≡ true
unfolding is_operator
operator-spells z some =
    elim (longest-is operators z) [
      | inl e ↦ absurd (false≢true (sym some ∙ eq-eqb _ 0 e))
      | inr h ↦ h
    ]
