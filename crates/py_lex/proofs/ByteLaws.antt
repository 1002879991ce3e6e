-- Runs, line ends and comments, cut out of a text, are those of the text.
use Rattle.std.proofs.Common.{◌≡◌, ℕ, zero, suc, ◌+◌, ◌-◌, ◌<◌, ◌≤◌, Bool, true, false, cond, eqb, ◌&&◌, [], ◌∷◌}
use Rattle.std.proofs.Common.{length, take, slice_index, refl, ap, sym, subst, ◌∙◌, arith}
use Rattle.std.proofs.lemmas.Bool.{false≢true, eqb-true}
use Rattle.std.specs.List.{prefix_len, list_all}
use Rattle.py_lex.specs.Bytes.{Bytes, line_end, before_line_end}
use Rattle.py_lex.proofs.Choices.{by_test, and_true, and_right, and_false}

pub prefix_len-yes : (p : ℕ → Bool) (b : ℕ) (z : Bytes) → p b ≡ true → prefix_len p (b ∷ z) ≡ suc (prefix_len p z)
prefix_len-yes p b z e =
    let more : 1 + prefix_len p z ≡ suc (prefix_len p z) = omega arith in
    ap (λ (v : Bool). cond v (1 + prefix_len p z) 0) e ∙ more

pub prefix_len-no : (p : ℕ → Bool) (b : ℕ) (z : Bytes) → p b ≡ false → prefix_len p (b ∷ z) ≡ 0
prefix_len-no p b z e = ap (λ (v : Bool). cond v (1 + prefix_len p z) 0) e

-- the bytes of a run of one set are in a larger one
pub run_in : (p q : ℕ → Bool) → ((b : ℕ) → p b ≡ true → q b ≡ true) → (z : Bytes)
    → list_all q (take (prefix_len p z) z) ≡ true
run_in p q f [] = refl
run_in p q f (b ∷ z) =
    let P : ℕ → Type 0 = λ n. list_all q (take n (b ∷ z)) ≡ true in
    by_test (p b)
    (λ e. subst P (sym (prefix_len-yes p b z e)) (and_true (q b) _ (f b e) (run_in p q f z)))
    (λ e. subst P (sym (prefix_len-no p b z e)) refl)

pub run_some : (p : ℕ → Bool) (z : Bytes) → 0 < length z → p (slice_index z 0) ≡ true → 1 ≤ prefix_len p z
run_some p [] some e = absurd (omega arith)
run_some p (b ∷ z) some e = omega (arith, prefix_len-yes p b z e)

pub run_fits : (p : ℕ → Bool) (z : Bytes) → prefix_len p z ≤ length z
run_fits p [] = omega arith
run_fits p (b ∷ z) =
    by_test (p b)
    (λ e. omega (arith, prefix_len-yes p b z e, run_fits p z))
    (λ e. omega (arith, prefix_len-no p b z e))

-- the line end at the front, by its tests
pub line_end-is : (b : ℕ) (z : Bytes) (v w : Bool) → eqb b 10 ≡ v → (eqb b 13 && eqb (slice_index z 0) 10) ≡ w
    → line_end (b ∷ z) ≡ cond v 1 (cond w 2 0)
line_end-is b z v w e f =
    ap (λ (x : Bool). cond x 1 (cond (eqb b 13 && eqb (slice_index z 0) 10) 2 0)) e
    ∙ ap (λ (y : Bool). cond v 1 (cond y 2 0)) f

cr_lf-whole : (b : ℕ) (z : Bytes) → eqb b 10 ≡ false → (eqb b 13 && eqb (slice_index z 0) 10) ≡ true
    → line_end (take 2 (b ∷ z)) ≡ length (take 2 (b ∷ z))
cr_lf-whole b [] e f = absurd (false≢true (and_right (eqb b 13) false f))
cr_lf-whole b (c ∷ z) e f = line_end-is b (c ∷ []) false true e f

pub line_end-whole : (z : Bytes) → line_end (take (line_end z) z) ≡ length (take (line_end z) z)
line_end-whole [] = refl
line_end-whole (b ∷ z) =
    let P : ℕ → Type 0 = λ n. line_end (take n (b ∷ z)) ≡ length (take n (b ∷ z)) in
    by_test (eqb b 10)
    (λ e. subst P (sym (line_end-is b z true _ e refl)) (line_end-is b [] true _ e refl))
    (λ e. by_test (eqb b 13 && eqb (slice_index z 0) 10)
    (λ f. subst P (sym (line_end-is b z false true e f)) (cr_lf-whole b z e f))
    (λ f. subst P (sym (line_end-is b z false false e f)) refl))

cr_lf-fits : (b : ℕ) (z : Bytes) → (eqb b 13 && eqb (slice_index z 0) 10) ≡ true → 2 ≤ length (b ∷ z)
cr_lf-fits b [] f = absurd (false≢true (and_right (eqb b 13) false f))
cr_lf-fits b (c ∷ z) f = omega arith

pub line_end-fits : (z : Bytes) → line_end z ≤ length z
line_end-fits [] = omega arith
line_end-fits (b ∷ z) =
    by_test (eqb b 10)
    (λ e. let is : line_end (b ∷ z) ≡ 1 = line_end-is b z true _ e refl in omega (arith, is))
    (λ e. by_test (eqb b 13 && eqb (slice_index z 0) 10)
    (λ f. let is : line_end (b ∷ z) ≡ 2 = line_end-is b z false true e f in omega (arith, is, cr_lf-fits b z f))
    (λ f. let is : line_end (b ∷ z) ≡ 0 = line_end-is b z false false e f in omega (arith, is)))

pub no_cr_lf : (a : Bool) (z : Bytes) (n : ℕ) → (a && eqb (slice_index z 0) 10) ≡ false
    → (a && eqb (slice_index (take n z) 0) 10) ≡ false
no_cr_lf a z zero f = and_false a false refl
no_cr_lf a [] (suc n) f = and_false a false refl
no_cr_lf a (c ∷ z) (suc n) f = f

-- where no line ends, none ends in what is cut out either
pub line_end-cut : (b : ℕ) (z : Bytes) (n : ℕ) → line_end (b ∷ z) ≡ 0 → line_end (b ∷ take n z) ≡ 0
line_end-cut b z n none =
    by_test (eqb b 10)
    (λ e. let is : line_end (b ∷ z) ≡ 1 = line_end-is b z true _ e refl in absurd (omega (arith, is, none)))
    (λ e. by_test (eqb b 13 && eqb (slice_index z 0) 10)
    (λ f. let is : line_end (b ∷ z) ≡ 2 = line_end-is b z false true e f in absurd (omega (arith, is, none)))
    (λ f. line_end-is b (take n z) false false e (no_cr_lf (eqb b 13) z n f)))

pub before-more : (b : ℕ) (z : Bytes) → line_end (b ∷ z) ≡ 0 → before_line_end (b ∷ z) ≡ suc (before_line_end z)
unfolding before_line_end
before-more b z e =
    let more : before_line_end z + 1 ≡ suc (before_line_end z) = omega arith in
    ap (λ (n : ℕ). cond (eqb n 0) (before_line_end z + 1) 0) e ∙ more

pub before-none : (b : ℕ) (z : Bytes) → eqb (line_end (b ∷ z)) 0 ≡ false → before_line_end (b ∷ z) ≡ 0
unfolding before_line_end
before-none b z e = ap (λ (v : Bool). cond v (before_line_end z + 1) 0) e

before-nil : before_line_end [] ≡ 0
unfolding before_line_end
before-nil = refl

pub before-whole : (z : Bytes) → before_line_end (take (before_line_end z) z) ≡ length (take (before_line_end z) z)
unfolding before_line_end
before-whole [] = refl
before-whole (b ∷ z) =
    let P : ℕ → Type 0 = λ n. before_line_end (take n (b ∷ z)) ≡ length (take n (b ∷ z)) in
    by_test (eqb (line_end (b ∷ z)) 0)
    (λ e. let none : line_end (b ∷ z) ≡ 0 = eqb-true _ 0 e in
    subst P (sym (before-more b z none))
    (before-more b (take (before_line_end z) z) (line_end-cut b z (before_line_end z) none)
    ∙ ap suc (before-whole z)))
    (λ e. subst P (sym (before-none b z e)) before-nil)

pub before-fits : (z : Bytes) → before_line_end z ≤ length z
before-fits [] = omega (arith, before-nil)
before-fits (b ∷ z) =
    by_test (eqb (line_end (b ∷ z)) 0)
    (λ e. omega (arith, before-more b z (eqb-true _ 0 e), before-fits z))
    (λ e. omega (arith, before-none b z e))

pub before-some : (z : Bytes) → 0 < length z → line_end z ≡ 0 → 1 ≤ before_line_end z
before-some [] some e = absurd (omega arith)
before-some (b ∷ z) some e = omega (arith, before-more b z e)

-- the first byte of what is cut out
pub take-first : (b n : ℕ) (z : Bytes) → 1 ≤ n → (take n (b ∷ z) ≡ b ∷ take (n - 1) z)
take-first b zero z h = absurd (omega arith)
take-first b (suc n) z h = let e : n ≡ suc n - 1 = omega arith in ap (λ k. b ∷ take k z) e

pub length-take-fits : (n : ℕ) (z : Bytes) → n ≤ length z → length (take n z) ≡ n
length-take-fits zero z h = refl
length-take-fits (suc n) [] h = absurd (omega arith)
length-take-fits (suc n) (b ∷ z) h = omega (arith, length-take-fits n z (omega arith))
