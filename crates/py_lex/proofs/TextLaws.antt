-- A text in quotes, cut out of a source, is one.
use Rattle.std.proofs.Common.{◌≡◌, ℕ, zero, suc, ◌+◌, ◌-◌, ◌≤◌, Bool, true, false, cond, eqb, ◌&&◌, List, [], ◌∷◌}
use Rattle.std.proofs.Common.{length, take, drop, nat_eq, Some, None, refl, ap, sym, ◌∙◌, arith}
use Rattle.std.proofs.lemmas.Bool.{false≢true, eq-eqb}
use Rattle.std.specs.List.{starts_with, AllByRecursion}
use Rattle.py_lex.specs.Bytes.{Bytes}
use Rattle.py_lex.specs.Words.{closed, quotings, text_by, text_len, is_length, is_text}
use Rattle.py_lex.proofs.Choices.{by_test, and_true, and_left, and_right}
use Rattle.py_lex.proofs.ByteLaws.{length-take-fits}
use Rattle.py_lex.proofs.WordLaws.{starts-fits}

pub none-some : (n : ℕ) {P : Type 0} → None ≡ Some n → P
none-some n e = cc

pub some-same : (a b : ℕ) → Some a ≡ Some b → a ≡ b
some-same a b e = cc

-- what a prefix begins with, the text does
starts-take : (w x : Bytes) (m : ℕ) → starts_with nat_eq (take m x) w ≡ true → starts_with nat_eq x w ≡ true
starts-take [] x m h = refl
starts-take (a ∷ w) x zero h = absurd (false≢true h)
starts-take (a ∷ w) [] (suc m) h = h
starts-take (a ∷ w) (b ∷ x) (suc m) h =
    and_true (nat_eq a b) _ (and_left _ _ h) (starts-take w x m (and_right (nat_eq a b) _ h))

-- a prefix that is long enough begins as the text does
pub starts-kept : (w x : Bytes) (m : ℕ) → length w ≤ m → starts_with nat_eq x w ≡ true
    → starts_with nat_eq (take m x) w ≡ true
starts-kept [] x m le h = refl
starts-kept (a ∷ w) x zero le h = absurd (omega arith)
starts-kept (a ∷ w) [] (suc m) le h = h
starts-kept (a ∷ w) (b ∷ x) (suc m) le h =
    and_true (nat_eq a b) _ (and_left _ _ h) (starts-kept w x m (omega arith) (and_right (nat_eq a b) _ h))

pub starts-not : (w x : Bytes) (m : ℕ) → starts_with nat_eq x w ≡ false → starts_with nat_eq (take m x) w ≡ false
starts-not w x m h =
    by_test (starts_with nat_eq (take m x) w)
    (λ e. absurd (false≢true (sym h ∙ starts-take w x m e)))
    (λ e. e)

-- one byte of a text, by its tests
pub closed-at : (quotes : Bytes) (at b : ℕ) (z : Bytes) (v w : Bool) → starts_with nat_eq (b ∷ z) quotes ≡ v
    → (eqb b 10 && eqb (length quotes) 1) ≡ w
    → closed quotes 0 at (b ∷ z) ≡ cond v (Some (at + length quotes))
    (cond w None (closed quotes (cond (eqb b 92) 1 0) (at + 1) z))
unfolding closed
closed-at quotes at b z v w e f =
    ap (λ (x : Bool). cond x (Some (at + length quotes))
    (cond (eqb b 10 && eqb (length quotes) 1) None (closed quotes (cond (eqb b 92) 1 0) (at + 1) z))) e
    ∙ ap (λ (y : Bool). cond v (Some (at + length quotes))
    (cond y None (closed quotes (cond (eqb b 92) 1 0) (at + 1) z))) f

-- the quotes stand behind what has been passed, and within the text
pub closed-within : (quotes : Bytes) (taken at : ℕ) (z : Bytes) (n : ℕ) → closed quotes taken at z ≡ Some n
    → (at ≤ n) × (n ≤ at + length z)
unfolding closed
closed-within quotes taken at [] n e = none-some n e
closed-within quotes (suc taken) at (b ∷ z) n e =
    let more = closed-within quotes taken (at + 1) z n e in
    (omega (arith, more.0), omega (arith, more.1))
closed-within quotes zero at (b ∷ z) n e =
    by_test (starts_with nat_eq (b ∷ z) quotes)
    (λ v. let is : at + length quotes ≡ n = some-same _ n (sym (closed-at quotes at b z true _ v refl) ∙ e) in
    (omega (arith, is), omega (arith, is, starts-fits (b ∷ z) quotes v)))
    (λ v. by_test (eqb b 10 && eqb (length quotes) 1)
    (λ w. none-some n (sym (closed-at quotes at b z false true v w) ∙ e))
    (λ w. let more = closed-within quotes (cond (eqb b 92) 1 0) (at + 1) z n
    (sym (closed-at quotes at b z false false v w) ∙ e) in
    (omega (arith, more.0), omega (arith, more.1))))

-- the quotes close each part of the text that goes on to them
closed-kept : (quotes : Bytes) (taken at : ℕ) (z : Bytes) (n m : ℕ) → 1 ≤ length quotes → n ≤ m
    → closed quotes taken at z ≡ Some (at + n) → closed quotes taken at (take m z) ≡ Some (at + n)
unfolding closed
closed-kept quotes taken at [] n m some le e = none-some (at + n) e
closed-kept quotes taken at (b ∷ z) (suc n) zero some le e = absurd (omega arith)
closed-kept quotes (suc taken) at (b ∷ z) zero m some le e =
    absurd (omega (arith, (closed-within quotes taken (at + 1) z (at + 0) e).0))
closed-kept quotes (suc taken) at (b ∷ z) (suc n) (suc m) some le e =
    let moved : at + suc n ≡ at + 1 + n = omega arith in
    closed-kept quotes taken (at + 1) z n m some (omega arith) (e ∙ ap Some moved) ∙ ap Some (sym moved)
closed-kept quotes zero at (b ∷ z) zero m some le e =
    by_test (starts_with nat_eq (b ∷ z) quotes)
    (λ v.
    let is : at + length quotes ≡ at + 0 = some-same _ _ (sym (closed-at quotes at b z true _ v refl) ∙ e) in
    absurd (omega (arith, some, is)))
    (λ v. by_test (eqb b 10 && eqb (length quotes) 1)
    (λ w. none-some (at + 0) (sym (closed-at quotes at b z false true v w) ∙ e))
    (λ w.
    let again = sym (closed-at quotes at b z false false v w) ∙ e in
    absurd (omega (arith, (closed-within quotes (cond (eqb b 92) 1 0) (at + 1) z (at + 0) again).0))))
closed-kept quotes zero at (b ∷ z) (suc n) (suc m) some le e =
    by_test (starts_with nat_eq (b ∷ z) quotes)
    (λ v. let is : at + length quotes ≡ at + suc n = some-same _ _ (sym (closed-at quotes at b z true _ v refl) ∙ e) in
    closed-at quotes at b (take m z) true _ (starts-kept quotes (b ∷ z) (suc m) (omega (arith, is)) v) refl
    ∙ ap Some is)
    (λ v. by_test (eqb b 10 && eqb (length quotes) 1)
    (λ w. none-some (at + suc n) (sym (closed-at quotes at b z false true v w) ∙ e))
    (λ w. let moved : at + suc n ≡ at + 1 + n = omega arith in
    closed-at quotes at b (take m z) false false (starts-not quotes (b ∷ z) (suc m) v) w
    ∙ closed-kept quotes (cond (eqb b 92) 1 0) (at + 1) z n m some (omega arith)
    (sym (closed-at quotes at b z false false v w) ∙ e ∙ ap Some moved) ∙ ap Some (sym moved)))

take-nil : (n : ℕ) → take {A = ℕ} n [] ≡ []
take-nil zero = refl
take-nil (suc n) = refl

pub drop-take : (l n : ℕ) (z : Bytes) → drop l (take n z) ≡ take (n - l) (drop l z)
drop-take zero n z = let e : n ≡ n - 0 = omega arith in ap (λ k. take k z) e
drop-take (suc l) zero z = let e : 0 ≡ 0 - suc l = omega arith in ap (λ k. take k (drop (suc l) z)) e
drop-take (suc l) (suc n) [] = sym (take-nil (suc n - suc l))
drop-take (suc l) (suc n) (b ∷ z) =
    let e : n - l ≡ suc n - suc l = omega arith in drop-take l n z ∙ ap (λ k. take k (drop l z)) e

pub length-drop-is : (n : ℕ) (z : Bytes) → length (drop n z) ≡ length z - n
length-drop-is zero z = omega arith
length-drop-is (suc n) [] = omega arith
length-drop-is (suc n) (b ∷ z) = omega (arith, length-drop-is n z)

-- the length of a text, and that of the text cut out
pub record Closes (words : List Bytes) (z : Bytes) (n : ℕ) : Type 0 where
  pub moves : 1 ≤ n
  pub within : n ≤ length z
  pub again : (m : ℕ) → n ≤ m → text_by words (take m z) ≡ Some n

pub text_by-is : (word : Bytes) (words : List Bytes) (z : Bytes) (v : Bool) → starts_with nat_eq z word ≡ v
    → text_by (word ∷ words) z ≡ cond v (closed word 0 (length word) (drop (length word) z)) (text_by words z)
text_by-is word words z v e =
    ap (λ (x : Bool). cond x (closed word 0 (length word) (drop (length word) z)) (text_by words z)) e

closes : (words : List Bytes) (z : Bytes) (n : ℕ) → AllByRecursion (λ word. 1 ≤ length word) words
    → text_by words z ≡ Some n → Closes words z n
closes [] z n some e = none-some n e
closes (word ∷ words) z n some e =
    by_test (starts_with nat_eq z word)
    (λ v.
    let l : ℕ = length word in
    let is : closed word 0 l (drop l z) ≡ Some n = sym (text_by-is word words z true v) ∙ e in
    let in_range = closed-within word 0 l (drop l z) n is in
    let more : n ≡ l + (n - l) = omega (arith, in_range.0) in
    record {
      moves = omega (arith, some.0, in_range.0);
      within = omega (arith, in_range.1, length-drop-is l z, starts-fits z word v);
      again = λ m le.
          text_by-is word words (take m z) true (starts-kept word z m (omega (arith, in_range.0)) v)
          ∙ ap (closed word 0 l) (drop-take l m z)
          ∙ closed-kept word 0 l (drop l z) (n - l) (m - l) some.0 (omega arith) (is ∙ ap Some more)
          ∙ ap Some (sym more);
    })
    (λ v.
    let rest = closes words z n some.1 (sym (text_by-is word words z false v) ∙ e) in
    record {
      moves = rest.moves;
      within = rest.within;
      again = λ m le. text_by-is word words (take m z) false (starts-not word z m v) ∙ rest.again m le;
    })

text-closes : (z : Bytes) (n : ℕ) → text_len z ≡ Some n → Closes quotings z n
unfolding text_len
text-closes z n e = closes quotings z n (omega arith, (omega arith, (omega arith, (omega arith, tt)))) e

pub text-moves : (z : Bytes) (n : ℕ) → text_len z ≡ Some n → 1 ≤ n
text-moves z n e = (text-closes z n e).moves

pub text-fits : (z : Bytes) (n : ℕ) → text_len z ≡ Some n → n ≤ length z
text-fits z n e = (text-closes z n e).within

pub text-spells : (z : Bytes) (n : ℕ) → text_len z ≡ Some n → is_text (take n z) ≡ true
unfolding text_len
text-spells z n e =
    let c = text-closes z n e in
    ap (λ o. is_length o (length (take n z))) (c.again n (omega arith))
    ∙ eq-eqb n _ (sym (length-take-fits n z c.within))

-- and as much of the text as goes on to them begins with the same text
pub text-kept : (z : Bytes) (n m : ℕ) → text_len z ≡ Some n → n ≤ m → text_len (take m z) ≡ Some n
unfolding text_len
text-kept z n m e le = (text-closes z n e).again m le
