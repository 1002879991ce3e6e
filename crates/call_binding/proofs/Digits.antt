-- Texts of digits, and what `parse` reads of them.
use Rattle.std.proofs.Common.{zero, suc, neg_ℤ, ◌≡◌, ℕ, ◌<◌, ◌^◌, true, false, not, ◌&&◌, ◌||◌, List, [], ◌∷◌, refl}
use Rattle.std.proofs.Common.{ap, sym, ◌∙◌, Some, Result, Ok, Err, ℤ, arith, length, eqb, w64, cond, subst, pos}
use Rattle.std.proofs.Common.{negsuc, get_or, ◌≢◌}
use mir.Val.{SFits}
use Rattle.std.proofs.lemmas.Bool.{ltb-true, lt-ltb, and_parts, and_from, and_right, cond-true, cond-false}
use Rattle.std.proofs.lemmas.Bool.{false_from_ne_true, ne_eqb, not_from_false}
use Rattle.std.specs.Char.{is_ascii_digit}
use Rattle.std.specs.Fmt.{decimal, signed_decimal}
use Rattle.std.proofs.lemmas.Fmt.{decimal_digit, first_decimal, decimal_is_IsNumeral}
use Rattle.std.specs.List.{list_any}
use Rattle.std.specs.Result.{result_ok}
use Rattle.std.specs.Str.{all_ascii_digits}
use Rattle.std.specs.Str.Parse.{IsNumeral, AllDigits, ParsesSigned, digits_value, without_leading_sign}
use Rattle.std.specs.Str.Parse.{without_leading_plus, signed_digits_value}
use Rattle.std.proofs.lemmas.Str.Parse.{IsNumeralModel, numerals_by_value, tells_all_ascii_digits, not_in_digits}
use Rattle.std.proofs.lemmas.Str.Parse.{without_leading_plus_none}
use Rattle.call_binding.specs.Integers.{is_no_digit, is_decimal, is_signed_decimal, is_word, integer}

pub none_other : (xs : List ℕ) → not (list_any is_no_digit xs) ≡ all_ascii_digits xs
none_other [] = refl
none_other (x ∷ xs) =
    elim (is_ascii_digit x) as (λ b. not (not b || list_any is_no_digit xs) ≡ (b
    && all_ascii_digits xs)) [ true ↦ none_other xs | false ↦ refl ]

own : IsNumeralModel (λ ds. all_ascii_digits ds ≡ true) (digits_value 10)
own = numerals_by_value (λ ds. all_ascii_digits ds ≡ true) tells_all_ascii_digits

decimal_digits : (ds : List ℕ) → is_decimal ds ≡ true → (all_ascii_digits ds ≡ true) × (0 < length ds)
decimal_digits [] e = absurd cc
decimal_digits (c ∷ []) e = (and_from _ true e refl, omega arith)
decimal_digits (c ∷ d ∷ rest) e = ((and_parts (not (eqb c 48)) _ e).1, omega arith)

decimal_numeral : (ds : List ℕ) → is_decimal ds ≡ true → IsNumeral 10 ds
decimal_numeral ds e = let d = decimal_digits ds e in (d.1, own.to ds d.0)

no_plus : (ds : List ℕ) → is_decimal ds ≡ true → get_or ds 0 0 ≢ 43
no_plus ds e =
    let d = decimal_digits ds e in
    not_in_digits own ds 43 d.0 (λ h. absurd (omega (arith, h.0))) 0 d.1

-- a text of this form is a numeral behind its sign
form_numeral : (text : List ℕ) → is_signed_decimal text ≡ true → IsNumeral 10 (without_leading_sign text)
form_numeral [] e = absurd cc
form_numeral (c ∷ rest) e =
    (elim (eqb c 45) as (λ b. cond b (is_decimal rest) (is_decimal (c ∷ rest)) ≡ true → IsNumeral 10 (cond b rest
    (without_leading_plus (c ∷ rest)))) [
      | true ↦ λ e'. decimal_numeral rest e'
      | false ↦ λ e'. subst (IsNumeral 10) (sym (without_leading_plus_none (c ∷ rest) (no_plus (c ∷ rest) e')))
          (decimal_numeral (c ∷ rest) e')
    ]) e

fits_word : (z : ℤ) → SFits w64 z → is_word z ≡ true
fits_word (pos n) h = lt-ltb n (2 ^ 63) h.sfits
fits_word (negsuc n) h = lt-ltb n (2 ^ 63) h.sfits

word_fits : (z : ℤ) → is_word z ≡ true → SFits w64 z
word_fits (pos n) h = record { sfits = ltb-true n (2 ^ 63) h }
word_fits (negsuc n) h = record { sfits = ltb-true n (2 ^ 63) h }

-- what `parse` gives for a text of this form
pub parsed : {E : Type 0} (text : List ℕ) (r : Result ℤ E) → ParsesSigned w64 10 text r →
    is_signed_decimal text ≡ true → result_ok r ≡ integer text
parsed text (Ok z) h e =
    ap Some h.1 ∙ sym (cond-true _ _ _ (and_from (is_signed_decimal text) _ e (fits_word _ h.0.1)))
parsed text (Err x) h e =
    sym (cond-false _ _ _ (and_right (is_signed_decimal text) _ (false_from_ne_true _ (λ w. h
    (form_numeral text e, word_fits _ w)))))

printed_form : (ds : List ℕ) → AllDigits 10 ds → 0 < length ds → (get_or ds 0 0 ≡ 48 → length ds ≡ 1) →
    is_decimal ds ≡ true
printed_form [] a l z = absurd (omega arith)
printed_form (c ∷ []) a l z = (and_parts _ true (own.from (c ∷ []) a)).0
printed_form (c ∷ d ∷ rest) a l z =
    and_from _ _ (not_from_false _ (ne_eqb c 48 (λ e. let k : length (c ∷ d ∷ rest) ≡ 1 = z e in absurd
    (omega arith)))) (own.from (c ∷ d ∷ rest) a)

one_digit : (n : ℕ) → n < 2 ^ 64 → get_or (decimal n) 0 0 ≡ 48 → length (decimal n) ≡ 1
one_digit zero h e = ap length (decimal_digit 0 (omega arith))
one_digit (suc n) h e = let k : 48 < get_or (decimal (suc n)) 0 0 = first_decimal (suc n)
    (omega arith) h in absurd (omega arith)

decimal_form : (n : ℕ) → n < 2 ^ 64 → is_decimal (decimal n) ≡ true
decimal_form n h = let d = decimal_is_IsNumeral n h in printed_form (decimal n) d.0.1 d.0.0 (one_digit n h)

no_minus : (ds : List ℕ) → is_decimal ds ≡ true → get_or ds 0 0 ≢ 45
no_minus ds e =
    let d = decimal_digits ds e in
    not_in_digits own ds 45 d.0 (λ h. absurd (omega (arith, h.0))) 0 d.1

plain_form : (ds : List ℕ) → is_decimal ds ≡ true → is_signed_decimal ds ≡ true
plain_form [] e = e
plain_form (c ∷ rest) e = cond-false (eqb c 45) _ _ (ne_eqb c 45 (no_minus (c ∷ rest) e)) ∙ e

plain_value : (ds : List ℕ) → is_decimal ds ≡ true → signed_digits_value 10 ds ≡ pos (digits_value 10 ds)
plain_value ds e =
    let minus : eqb (get_or ds 0 0) 45 ≡ false = ne_eqb (get_or ds 0 0) 45 (no_minus ds e) in
    cond-false (eqb (get_or ds 0 0) 45) _ _ minus
    ∙ ap (λ text. pos (digits_value 10 text)) (cond-false (eqb (get_or ds 0 0) 45) _ _ minus
    ∙ without_leading_plus_none ds (no_plus ds e))

reads : (text : List ℕ) (z : ℤ) → is_signed_decimal text ≡ true → signed_digits_value 10 text ≡ z →
    is_word z ≡ true → integer text ≡ Some z
reads text z form value word =
    cond-true _ _ _ (and_from (is_signed_decimal text) _ form (ap is_word value ∙ word)) ∙ ap Some value

-- a printed word is the integer of that word
pub printed : (z : ℤ) → is_word z ≡ true → integer (signed_decimal z) ≡ Some z
printed (pos n) h =
    let lt : n < 2 ^ 64 = omega (arith, ltb-true n (2 ^ 63) h) in
    reads (decimal n) (pos n) (plain_form (decimal n) (decimal_form n lt)) (plain_value (decimal n)
    (decimal_form n lt) ∙ ap pos (decimal_is_IsNumeral n lt).1) h
printed (negsuc n) h =
    let lt : suc n < 2 ^ 64 = omega (arith, ltb-true n (2 ^ 63) h) in
    reads (45 ∷ decimal (suc n)) (negsuc n) (decimal_form (suc n) lt) (ap (λ m. neg_ℤ (pos m))
    (decimal_is_IsNumeral (suc n) lt).1) h
