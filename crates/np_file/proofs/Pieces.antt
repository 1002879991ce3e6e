-- The parts of a header: what is read is spelled so, and what is spelled so is read.
use Rattle.std.proofs.Common.{◌≡◌, ℕ, zero, suc, ◌+◌, ◌-◌, ◌*◌, ◌^◌, ◌<◌, Bool, true, false, cond, not, ◌&&◌, ◌||◌, eqb}
use Rattle.std.proofs.Common.{ltb, leb, List, [], ◌∷◌, ◌++◌, length, get_or, take, drop, replicate, Option, Some, None}
use Rattle.std.proofs.Common.{refl, sym, ap, subst, ◌∙◌, append_assoc, arith, inl, inr, ◌⊎◌}
use Rattle.std.specs.Prelude.{fold}
use Rattle.std.specs.List.{prefix_len, list_all}
use Rattle.std.specs.Char.{is_ascii_digit}
use Rattle.std.specs.Str.{bytes_eq}
use Rattle.std.specs.Int.{IsInRange}
use Rattle.std.specs.Fmt.{decimal}
use Rattle.std.proofs.lemmas.Bool.{eqb-true, eq-eqb, leb-true, le-leb, ltb-true, lt-ltb}
use Rattle.std.proofs.lemmas.List.{take-append-drop, take_at, drop_at}
use Rattle.std.proofs.lemmas.Slice.Eq.{bytes_eq-Decides}
use Rattle.std.proofs.lemmas.Str.Parse.{IsNumeralModel, IsDigitsTest, numerals_by_fold}
use Rattle.std.proofs.lemmas.Fmt.{digits_decimal, digits_value-decimal, decimal-digits_value, decimal_nonempty}
use Rattle.std.proofs.lemmas.Fmt.{first_decimal, decimal_digit}
use Rattle.np_file.specs.Header.{◌▷◌, spaced, sign, is_plain, quoted, number}
use Rattle.np_file.specs.Reading.{◌>>=◌, after_spaces, first_is, sign_at, stripped, word_at, closed, quoted_by, opened}
use Rattle.np_file.specs.Reading.{quoted_at, digits_value, in_range, number_of, number_in, number_at}

-- ---- tools

-- the value of a step that gave one
pub bind_some : {A B : Type 0} (o : Option A) (f : A → Option B) (y : B) → (o >>= f) ≡ Some y →
    (x : A) × (o ≡ Some x) × (f x ≡ Some y)
bind_some None f y e = absurd cc
bind_some (Some x) f y e = (x, refl, e)

-- a test that gave a value
pub chosen_some : {A : Type 0} (t : Bool) (o : Option A) (y : A) → cond t o None ≡ Some y → (t ≡ true) × (o ≡ Some y)
chosen_some true o y e = (refl, e)
chosen_some false o y e = absurd cc

abbrev one : {A : Type 0} → A → Option A
one x = Some x

pub some_is : {A : Type 0} (x y : A) → one x ≡ one y → x ≡ y
some_is x y e = cc

pub both_true : (a b : Bool) → (a && b) ≡ true → (a ≡ true) × (b ≡ true)
both_true true b e = (refl, e)
both_true false b e = absurd cc

pub either_true : (a b : Bool) → (a || b) ≡ true → (a ≡ true) ⊎ (b ≡ true)
either_true true b e = inl refl
either_true false b e = inr e

-- what a reader took from the front is of the form p
pub record Took (p : List ℕ → Type 0) (ts rest : List ℕ) : Type 0 where
  pub used : List ℕ
  pub parts : ts ≡ used ++ rest
  pub is : p used

pub then : {p q : List ℕ → Type 0} (ts us rest : List ℕ) → Took p ts us → Took q us rest → Took (p ▷ q) ts rest
then ts us rest a b = record {
  used = a.used ++ b.used;
  parts = a.parts ∙ ap (λ (x : List ℕ). a.used ++ x) b.parts ∙
      sym (append_assoc a.used b.used rest);
  is = (a.used, b.used, refl, a.is, b.is);
}

-- ---- spaces

split_by : (b : ℕ) (ts : List ℕ) (t : Bool) → eqb b 32 ≡ t → ((n : ℕ) × (ts ≡ replicate n 32 ++ after_spaces ts)) →
    (n : ℕ) × (b ∷ ts ≡ replicate n 32 ++ cond t (after_spaces ts) (b ∷ ts))
split_by b ts true e h = let is : b ≡ 32 = eqb-true b 32 e in
    (suc h.0, ap (λ (x : ℕ). x ∷ ts) is ∙ ap (λ (us : List ℕ). 32 ∷ us) h.1)
split_by b ts false e h = (0, refl)

pub split_spaces : (ts : List ℕ) → (n : ℕ) × (ts ≡ replicate n 32 ++ after_spaces ts)
split_spaces [] = (0, refl)
split_spaces (b ∷ ts) = split_by b ts (eqb b 32) refl (split_spaces ts)

pub skip : (n b : ℕ) (ts : List ℕ) → eqb b 32 ≡ false → after_spaces (replicate n 32 ++ (b ∷ ts)) ≡ b ∷ ts
skip zero b ts e = rw e refl
skip (suc n) b ts e = skip n b ts e

pub skip_all : (n : ℕ) → after_spaces (replicate n 32) ≡ []
skip_all zero = refl
skip_all (suc n) = skip_all n

pub spaced_took : (own ts rest : List ℕ) → after_spaces ts ≡ own ++ rest → Took (spaced own) ts rest
spaced_took own ts rest e =
    let s = split_spaces ts in
    record {
      used = replicate s.0 32 ++ own;
      parts = s.1 ∙ ap (λ (x : List ℕ). replicate s.0 32 ++ x) e ∙
          sym (append_assoc (replicate s.0 32) own rest);
      is = (s.0, refl);
    }

pub spaced_read : (b : ℕ) (own used rest : List ℕ) → eqb b 32 ≡ false → spaced (b ∷ own) used →
    after_spaces (used ++ rest) ≡ b ∷ (own ++ rest)
spaced_read b own used rest e (n, is) =
    ap (λ (x : List ℕ). after_spaces (x ++ rest)) is ∙ ap after_spaces (append_assoc (replicate n 32) (b ∷ own) rest) ∙
    skip n b (own ++ rest) e

-- ---- signs and words

first_took : (b : ℕ) (us rest : List ℕ) → first_is b us ≡ Some rest → us ≡ b ∷ rest
first_took b [] rest e = absurd cc
first_took b (c ∷ us) rest e =
    let t = chosen_some (eqb c b) (Some us) rest e in
    let c_is : c ≡ b = eqb-true c b t.0 in
    let us_is : us ≡ rest = some_is us rest t.1 in cc

pub sign_took : (b : ℕ) (ts rest : List ℕ) → sign_at b ts ≡ Some rest → Took (sign b) ts rest
unfolding sign_at
sign_took b ts rest e = spaced_took (b ∷ []) ts rest (first_took b (after_spaces ts) rest e)

pub sign_read : (b : ℕ) (used rest : List ℕ) → eqb b 32 ≡ false → sign b used → sign_at b (used ++ rest) ≡ Some rest
unfolding sign_at
sign_read b used rest e is =
    let here : eqb b b ≡ true = eq-eqb b b refl in
    ap (first_is b) (spaced_read b [] used rest e is) ∙ rw here refl

-- another sign stands there
pub other_sign : (b c : ℕ) (own used rest : List ℕ) → eqb c 32 ≡ false → eqb c b ≡ false → spaced (c ∷ own) used →
    sign_at b (used ++ rest) ≡ None
unfolding sign_at
other_sign b c own used rest e other is = ap (first_is b) (spaced_read c own used rest e is) ∙ rw other refl

pub stripped_took : (own us rest : List ℕ) → stripped own us ≡ Some rest → us ≡ own ++ rest
stripped_took own us rest e =
    let t = chosen_some (bytes_eq (take (length own) us) own) (Some (drop (length own) us)) rest e in
    let front : take (length own) us ≡ own = (bytes_eq-Decides (take (length own) us) own).0 t.0 in
    let back : drop (length own) us ≡ rest = some_is _ _ t.1 in
    sym (take-append-drop (length own) us) ∙ ap (λ (x : List ℕ). x ++ drop (length own) us) front ∙
    ap (λ (x : List ℕ). own ++ x) back

pub stripped_read : (own rest : List ℕ) → stripped own (own ++ rest) ≡ Some rest
stripped_read own rest =
    let same : bytes_eq own own ≡ true = (bytes_eq-Decides own own).1 refl in
    rw (take_at own rest (length own) refl, drop_at own rest (length own) refl, same) refl

pub word_took : (own ts rest : List ℕ) → word_at own ts ≡ Some rest → Took (spaced own) ts rest
unfolding word_at
word_took own ts rest e = spaced_took own ts rest (stripped_took own (after_spaces ts) rest e)

-- another word stands there
pub other_word : (wanted : List ℕ) (c : ℕ) (own used rest : List ℕ) → eqb c 32 ≡ false →
    stripped wanted (c ∷ (own ++ rest)) ≡ None → spaced (c ∷ own) used → word_at wanted (used ++ rest) ≡ None
unfolding word_at
other_word wanted c own used rest e other is = ap (stripped wanted) (spaced_read c own used rest e is) ∙ other

pub word_read : (b : ℕ) (own used rest : List ℕ) → eqb b 32 ≡ false → spaced (b ∷ own) used →
    word_at (b ∷ own) (used ++ rest) ≡ Some rest
unfolding word_at
word_read b own used rest e is = ap (stripped (b ∷ own)) (spaced_read b own used rest e is) ∙
    stripped_read (b ∷ own) rest

-- ---- quoted texts

all_in_prefix_by : {A : Type 0} (p : A → Bool) (x : A) (xs : List A) (t : Bool) → p x ≡ t →
    list_all p (take (prefix_len p xs) xs) ≡ true → list_all p (take (cond t (1 + prefix_len p xs) 0) (x ∷ xs)) ≡ true
all_in_prefix_by p x xs true e h = let one_up : 1 + prefix_len p xs ≡ suc (prefix_len p xs) = omega arith in
    rw (one_up, e) h
all_in_prefix_by p x xs false e h = refl

pub all_in_prefix : {A : Type 0} (p : A → Bool) (xs : List A) → list_all p (take (prefix_len p xs) xs) ≡ true
all_in_prefix p [] = refl
all_in_prefix p (x ∷ xs) = all_in_prefix_by p x xs (p x) refl (all_in_prefix p xs)

-- all of them, and then one that isn't
pub prefix_is : {A : Type 0} (p : A → Bool) (xs ys : List A) → list_all p xs ≡ true → prefix_len p ys ≡ 0 →
    prefix_len p (xs ++ ys) ≡ length xs
prefix_is p [] ys all e = e
prefix_is p (x ∷ xs) ys all e =
    let t = both_true (p x) (list_all p xs) all in
    rw (t.0) (ap (λ (n : ℕ). 1 + n) (prefix_is p xs ys t.1 e) ∙ omega arith)

closed_took : (q : ℕ) (text us d rest : List ℕ) → closed q text us ≡ Some (d, rest) → (text ≡ d) × (us ≡ q ∷ rest)
closed_took q text [] d rest e = absurd cc
closed_took q text (c ∷ us) d rest e =
    let t = chosen_some (eqb c q) (Some (text, us)) (d, rest) e in
    let c_is : c ≡ q = eqb-true c q t.0 in
    let pair = some_is (text, us) (d, rest) t.1 in
    let us_is : us ≡ rest = ap (λ (x : List ℕ × List ℕ). x.1) pair in
    (ap (λ (x : List ℕ × List ℕ). x.0) pair, cc)

quoted_by_took : (q : ℕ) (us d rest : List ℕ) → quoted_by q us ≡ Some (d, rest) →
    (us ≡ d ++ (q ∷ rest)) × (list_all (is_plain q) d ≡ true)
unfolding quoted_by
quoted_by_took q us d rest e =
    let n = prefix_len (is_plain q) us in
    let c = closed_took q (take n us) (drop n us) d rest e in (
      sym (take-append-drop n us) ∙ ap (λ (x : List ℕ). x ++ drop n us) c.0 ∙
          ap (λ (x : List ℕ). d ++ x) c.1,
      subst (λ (x : List ℕ). list_all (is_plain q) x ≡ true) c.0
          (all_in_prefix (is_plain q) us),
    )

quoted_by_read : (q : ℕ) (d rest : List ℕ) → list_all (is_plain q) d ≡ true →
    quoted_by q (d ++ (q ∷ rest)) ≡ Some (d, rest)
unfolding quoted_by
quoted_by_read q d rest all =
    let same : eqb q q ≡ true = eq-eqb q q refl in
    let stop : is_plain q q ≡ false = stops (ltb q 128) (eqb q q) same in
    let ends : prefix_len (is_plain q) (q ∷ rest) ≡ 0 = rw stop refl in
    let n_is : prefix_len (is_plain q) (d ++ (q ∷ rest)) ≡ length d = prefix_is (is_plain q) d (q ∷ rest) all ends in
    rw (n_is, take_at d (q ∷ rest) (length d) refl, drop_at d (q ∷ rest) (length d) refl, same) refl
  where
    stops : (a b : Bool) → b ≡ true → (a && not b) ≡ false
    stops true true e = refl
    stops false true e = refl
    stops a false e = absurd cc

quote_is : (q : ℕ) → (eqb q 39 || eqb q 34) ≡ true → (q ≡ 39) ⊎ (q ≡ 34)
quote_is q e = elim (either_true (eqb q 39) (eqb q 34) e)
    [ inl a ↦ inl (eqb-true q 39 a) | inr b ↦ inr (eqb-true q 34 b) ]

opened_took : (us d rest : List ℕ) → opened us ≡ Some (d, rest) →
    (q : ℕ) × ((q ≡ 39) ⊎ (q ≡ 34)) × (list_all (is_plain q) d ≡ true) × (us ≡ (q ∷ (d ++ (q ∷ []))) ++ rest)
opened_took [] d rest e = absurd cc
opened_took (q ∷ us) d rest e =
    let t = chosen_some (eqb q 39 || eqb q 34) (quoted_by q us) (d, rest) e in
    let k = quoted_by_took q us d rest t.1 in
    (q, quote_is q t.0, k.1, ap (λ (x : List ℕ). q ∷ x) (k.0 ∙ sym (append_assoc d (q ∷ []) rest)))

pub quoted_took : (ts d rest : List ℕ) → quoted_at ts ≡ Some (d, rest) → Took (quoted d) ts rest
unfolding quoted_at
quoted_took ts d rest e =
    let o = opened_took (after_spaces ts) d rest e in
    let s = spaced_took (o.0 ∷ (d ++ (o.0 ∷ []))) ts rest o.3 in
    record { used = s.used; parts = s.parts; is = (o.0, o.1, o.2, s.is) }

quote_no_space : (q : ℕ) → (q ≡ 39) ⊎ (q ≡ 34) → (eqb q 32 ≡ false) × ((eqb q 39 || eqb q 34) ≡ true)
quote_no_space q (inl e) = rw e (refl, refl)
quote_no_space q (inr e) = rw e (refl, refl)

pub quoted_read : (d used rest : List ℕ) → quoted d used → quoted_at (used ++ rest) ≡ Some (d, rest)
unfolding quoted_at
quoted_read d used rest (q, which, all, is) =
    let k = quote_no_space q which in
    let seen : after_spaces (used ++ rest) ≡ q ∷ ((d ++ (q ∷ [])) ++ rest) =
    spaced_read q (d ++ (q ∷ [])) used rest k.0 is in
    let open_here : opened (q ∷ ((d ++ (q ∷ [])) ++ rest)) ≡ quoted_by q ((d ++ (q ∷ [])) ++ rest) = rw k.1 refl in
    ap opened seen ∙ open_here ∙ ap (quoted_by q) (append_assoc d (q ∷ []) rest) ∙ quoted_by_read q d rest all

-- ---- numbers

digit_range : (c : ℕ) → is_ascii_digit c ≡ true → IsInRange 48 57 c
digit_range c e = let k = both_true (leb 48 c) (leb c 57) e in (leb-true 48 c k.0, leb-true c 57 k.1)

range_digit : (c : ℕ) → IsInRange 48 57 c → is_ascii_digit c ≡ true
range_digit c k = rw (le-leb 48 c k.0, le-leb c 57 k.1) refl

abbrev AreDigits : List ℕ → Type 0
AreDigits ds = list_all is_ascii_digit ds ≡ true

digits_more : (c : ℕ) (cs : List ℕ) → IsInRange 48 57 c → AreDigits cs → AreDigits (c ∷ cs)
digits_more c cs k e = rw (range_digit c k, e) refl

tells : IsDigitsTest AreDigits
tells = record {
  empty = refl;
  parts = λ c cs e. let k = both_true (is_ascii_digit c) (list_all is_ascii_digit cs) e in
      (digit_range c k.0, k.1);
  more = digits_more;
}

own : IsNumeralModel AreDigits digits_value
own = numerals_by_fold AreDigits tells (λ n ds. fold (λ n d. n * 10 + (d - 48)) n ds)
    (record { empty = λ n. refl; more = λ n c cs k. refl })

leading : (d : ℕ) (ds : List ℕ) → (eqb d 48 && not (eqb (length ds) 0)) ≡ false → d ≡ 48 → length (d ∷ ds) ≡ 1
leading d ds e is = ap suc (eqb-true (length ds) 0 (by (eqb d 48) (eqb (length ds) 0) (eq-eqb d 48 is) e))
  where
    by : (a b : Bool) → a ≡ true → (a && not b) ≡ false → b ≡ true
    by true true p e = refl
    by true false p e = absurd cc
    by false b p e = absurd cc

chosen_none : {A : Type 0} (t : Bool) (o : Option A) (y : A) → cond t None o ≡ Some y → (t ≡ false) × (o ≡ Some y)
chosen_none true o y e = absurd cc
chosen_none false o y e = (refl, e)

number_of_took : (ds : List ℕ) (n : ℕ) → AreDigits ds → number_of ds ≡ Some n → (n < 2 ^ 63) × (ds ≡ decimal n)
unfolding number_of
number_of_took [] n all e = absurd cc
number_of_took (d ∷ ds) n all e =
    let v = digits_value (d ∷ ds) in
    let a = chosen_none (eqb d 48 && not (eqb (length ds) 0)) (in_range v) n e in
    let b = chosen_some (ltb v (2 ^ 63)) (Some v) n a.1 in
    let small : v < 2 ^ 63 = ltb-true v (2 ^ 63) b.0 in
    let is : v ≡ n = some_is v n b.1 in (
      rw (← is) small,
      sym (decimal-digits_value own (d ∷ ds) all (omega arith) (leading d ds a.0) (omega arith)) ∙
          ap decimal is,
    )

pub number_took : (ts rest : List ℕ) (n : ℕ) → number_at ts ≡ Some (n, rest) → Took (number n) ts rest
unfolding number_at number_in
number_took ts rest n e =
    let us = after_spaces ts in
    let k = prefix_len is_ascii_digit us in
    let b = bind_some (number_of (take k us)) (λ m. Some (m, drop k us)) (n, rest) e in
    let pair = some_is (b.0, drop k us) (n, rest) b.2 in
    let n_is : b.0 ≡ n = ap (λ (p : ℕ × List ℕ). p.0) pair in
    let rest_is : drop k us ≡ rest = ap (λ (p : ℕ × List ℕ). p.1) pair in
    let t = number_of_took (take k us) n (all_in_prefix is_ascii_digit us) (b.1 ∙ ap (λ (m : ℕ). Some m) n_is) in
    let s = spaced_took (decimal n) ts rest
    (sym (take-append-drop k us) ∙ ap (λ (x : List ℕ). x ++ drop k us) t.1 ∙
    ap (λ (x : List ℕ). decimal n ++ x) rest_is) in
    record { used = s.used; parts = s.parts; is = (t.0, s.is) }

-- a number has a first digit, and begins with no sign
record FirstDigit (ds : List ℕ) : Type 0 where
  pub first : ℕ
  pub others : List ℕ
  pub is : ds ≡ first ∷ others
  pub range : IsInRange 48 57 first

first_digit : (ds : List ℕ) → 0 < length ds → AreDigits ds → FirstDigit ds
first_digit [] some all = absurd (omega arith)
first_digit (d ∷ ds) some all = record {
  first = d;
  others = ds;
  is = refl;
  range =
      digit_range d (both_true (is_ascii_digit d) (list_all is_ascii_digit ds) all).0;
}

decimal_first : (n : ℕ) → n < 2 ^ 63 → FirstDigit (decimal n)
decimal_first n lt = first_digit (decimal n) (decimal_nonempty n (omega arith)) (digits_decimal own n (omega arith))

ne_eqb : (a b : ℕ) → (a ≡ b → ⊥) → eqb a b ≡ false
ne_eqb a b ne = by (eqb a b) refl
  where
    by : (t : Bool) → eqb a b ≡ t → t ≡ false
    by true e = absurd (ne (eqb-true a b e))
    by false e = refl

no_leading : (n : ℕ) (d : ℕ) (ds : List ℕ) → n < 2 ^ 63 → decimal n ≡ d ∷ ds →
    (eqb d 48 && not (eqb (length ds) 0)) ≡ false
no_leading zero d ds lt e =
    let z : d ∷ ds ≡ 48 ∷ [] = sym e ∙ decimal_digit 0 (omega arith) in
    let ds_is : ds ≡ [] = cc in
    let d_is : d ≡ 48 = cc in
    rw (ds_is, d_is) refl
no_leading (suc n) d ds lt e =
    let f = first_decimal (suc n) (omega arith) (omega arith) in
    let g : get_or (decimal (suc n)) 0 0 ≡ d = ap (λ (x : List ℕ). get_or x 0 0) e in
    rw (ne_eqb d 48 (λ is. omega arith)) refl

number_of_read : (n : ℕ) (ds : List ℕ) → n < 2 ^ 63 → decimal n ≡ ds → number_of ds ≡ Some n
unfolding number_of
number_of_read n [] lt e = absurd (omega (arith, decimal_nonempty n, ap length e))
number_of_read n (d ∷ ds) lt e =
    let lead = no_leading n d ds lt e in
    let value : digits_value (d ∷ ds) ≡ n = ap digits_value (sym e) ∙ digits_value-decimal own n (omega arith) in
    let small : ltb n (2 ^ 63) ≡ true = lt-ltb n (2 ^ 63) lt in
    rw (lead) (ap in_range value ∙ rw small refl)

-- no digit stands at the front
abbrev pub Stops : List ℕ → Type 0
Stops ts = prefix_len is_ascii_digit ts ≡ 0

pub number_read : (n : ℕ) (used rest : List ℕ) → number n used → Stops rest → number_at (used ++ rest) ≡ Some (n, rest)
unfolding number_at number_in
number_read n used rest (lt, is) stops =
    let f = decimal_first n lt in
    let ne : eqb f.first 32 ≡ false = ne_eqb f.first 32 (λ e. omega (arith, f.range.0)) in
    let is' : spaced (f.first ∷ f.others) used = subst (λ (x : List ℕ). spaced x used) f.is is in
    let seen : after_spaces (used ++ rest) ≡ decimal n ++ rest = spaced_read f.first f.others used rest ne is' ∙
    ap (λ (x : List ℕ). x ++ rest) (sym f.is) in
    let k : prefix_len is_ascii_digit (decimal n ++ rest) ≡ length (decimal n) =
    prefix_is is_ascii_digit (decimal n) rest (digits_decimal own n (omega arith)) stops in
    ap number_in seen ∙ rw (
      k,
      take_at (decimal n) rest (length (decimal n)) refl,
      drop_at (decimal n) rest (length (decimal n)) refl,
      number_of_read n (decimal n) lt refl,
    ) refl

-- behind a number, neither a sign nor spaces begin with a digit
pub sign_stops : (b : ℕ) (used rest : List ℕ) → is_ascii_digit b ≡ false → sign b used → Stops (used ++ rest)
sign_stops b used rest e (n, is) = ap (λ (x : List ℕ). prefix_len is_ascii_digit (x ++ rest)) is ∙ by n
  where
    by : (n : ℕ) → prefix_len is_ascii_digit ((replicate n 32 ++ b ∷ []) ++ rest) ≡ 0
    by zero = rw e refl
    by (suc n) = refl

-- where a number stands, no sign does
pub number_no_sign : (b n : ℕ) (used rest : List ℕ) → b < 48 → number n used → sign_at b (used ++ rest) ≡ None
number_no_sign b n used rest low (lt, is) =
    let f = decimal_first n lt in
    let ne : eqb f.first 32 ≡ false = ne_eqb f.first 32 (λ e. omega (arith, f.range.0)) in
    let other : eqb f.first b ≡ false = ne_eqb f.first b (λ e. omega (arith, f.range.0)) in
    other_sign b f.first f.others used rest ne other (subst (λ (x : List ℕ). spaced x used) f.is is)
