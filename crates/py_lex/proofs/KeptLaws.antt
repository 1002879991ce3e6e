-- The piece at the front of a text is that of each part of the text that goes on to the piece's end.
use Rattle.std.proofs.Common.{◌≡◌, ℕ, zero, suc, ◌+◌, ◌-◌, ◌<◌, ◌≤◌, ◌⊎◌, inl, inr, Bool, true, false, cond, eqb, ◌&&◌}
use Rattle.std.proofs.Common.{◌||◌, not}
use Rattle.std.proofs.Common.{List, [], ◌∷◌, length, take, drop, slice_index, nat_eq, max, Option, Some, None, refl, ap}
use Rattle.std.proofs.Common.{sym, subst, ◌∙◌, arith}
use Rattle.std.proofs.lemmas.Bool.{false≢true, eqb-true}
use Rattle.std.proofs.lemmas.List.{take-take}
use Rattle.std.specs.List.{starts_with, prefix_len}
use Rattle.py_lex.specs.declared.bytes.Set.{Set}
use Rattle.py_lex.specs.declared.bytes.Set.TheVariants.{Space, Tab, Digit, Word, Number}
use Rattle.py_lex.specs.declared.token.TokenKind.TheVariants as k
use Rattle.py_lex.specs.declared.piece.Piece.{Piece}
use Rattle.py_lex.specs.declared.piece.Class.{Class}
use Rattle.py_lex.specs.declared.piece.Class.TheVariants as class
use Rattle.py_lex.specs.Bytes.{Bytes, is_in, run, line_end, before_line_end}
use Rattle.py_lex.specs.Words.{is_keyword, is_number, text_len, longest, operators}
use Rattle.py_lex.specs.Pieces.{piece, piece_of, joined, numeral, word, text_piece, quoted, mark}
use Rattle.py_lex.proofs.Choices.{if_case, by_test, and_right, or_right, not_true, not_false}
use Rattle.py_lex.proofs.ByteLaws.{prefix_len-yes, prefix_len-no, line_end-is, line_end-cut, line_end-fits, before-more}
use Rattle.py_lex.proofs.ByteLaws.{before-none, before-whole, before-fits, length-take-fits}
use Rattle.py_lex.proofs.WordLaws.{starts-fits}
use Rattle.py_lex.proofs.TextLaws.{starts-kept, starts-not, text-kept}
use Rattle.py_lex.proofs.MarginLaws.{above-zero}

-- ---- runs, line ends and operators

run-kept : (p : ℕ → Bool) (m : ℕ) (z : Bytes) → prefix_len p z ≤ m → prefix_len p (take m z) ≡ prefix_len p z
run-kept p zero z le = omega (arith, le)
run-kept p (suc m) [] le = refl
run-kept p (suc m) (b ∷ z) le =
    by_test (p b)
    (λ e.
    let more : prefix_len p z ≤ m = omega (arith, le, prefix_len-yes p b z e) in
    prefix_len-yes p b (take m z) e ∙ (ap suc (run-kept p m z more) ∙ sym (prefix_len-yes p b z e)))
    (λ e. prefix_len-no p b (take m z) e ∙ sym (prefix_len-no p b z e))

take-more : (n m : ℕ) (z : Bytes) → n ≤ m → take n (take m z) ≡ take n z
take-more n m z le = take-take n m z le

first-kept : (b m : ℕ) (z : Bytes) → 1 ≤ m → (eqb b 13 && eqb (slice_index z 0) 10) ≡ true
    → (eqb b 13 && eqb (slice_index (take m z) 0) 10) ≡ true
first-kept b zero z some h = absurd (omega arith)
first-kept b (suc m) [] some h = h
first-kept b (suc m) (c ∷ z) some h = h

line-kept : (m : ℕ) (z : Bytes) → 1 ≤ m → line_end z ≤ m → line_end (take m z) ≡ line_end z
line-kept zero z some le = absurd (omega arith)
line-kept (suc m) [] some le = refl
line-kept (suc m) (b ∷ z) some le =
    by_test (eqb b 10)
    (λ e. line_end-is b (take m z) true _ e refl ∙ sym (line_end-is b z true _ e refl))
    (λ e. by_test (eqb b 13 && eqb (slice_index z 0) 10)
    (λ f.
    let two : 2 ≤ suc m = omega (arith, le, line_end-is b z false true e f) in
    line_end-is b (take m z) false true e (first-kept b m z (omega arith) f) ∙ sym (line_end-is b z false true e f))
    (λ f.
    let none : line_end (b ∷ z) ≡ 0 = line_end-is b z false false e f in line_end-cut b z m none ∙ sym none))

no-bytes : (z : Bytes) → before_line_end z ≡ 0 → before_line_end (take 0 z) ≡ before_line_end z
unfolding before_line_end
no-bytes z none = sym none

before-kept : (m : ℕ) (z : Bytes) → before_line_end z + line_end (drop (before_line_end z) z) ≤ m
    → before_line_end (take m z) ≡ before_line_end z
before-kept zero z le = no-bytes z (omega (arith, le))
before-kept (suc m) [] le = refl
before-kept (suc m) (b ∷ z) le =
    let P : ℕ → Type 0 = λ n. n + line_end (drop n (b ∷ z)) ≤ suc m in
    by_test (eqb (line_end (b ∷ z)) 0)
    (λ e.
    let none : line_end (b ∷ z) ≡ 0 = eqb-true _ 0 e in
    let le' : suc (before_line_end z) + line_end (drop (before_line_end z) z) ≤ suc m =
    subst P (before-more b z none) le in
    before-more b (take m z) (line_end-cut b z m none)
    ∙ (ap suc (before-kept m z (omega arith)) ∙ sym (before-more b z none)))
    (λ e.
    let le' : 0 + line_end (b ∷ z) ≤ suc m = subst P (before-none b z e) le in
    let same : line_end (b ∷ take m z) ≡ line_end (b ∷ z) = line-kept (suc m) (b ∷ z) (omega arith) (omega arith) in
    before-none b (take m z) (ap (λ n. eqb n 0) same ∙ e) ∙ sym (before-none b z e))

longest-kept : (words : List Bytes) (m : ℕ) (z : Bytes) → longest words z ≤ m
    → longest words (take m z) ≡ longest words z
longest-kept [] m z le = refl
longest-kept (w ∷ words) m z le =
    let rest : longest words (take m z) ≡ longest words z = longest-kept words m z (omega (arith, le)) in
    let size : Bool → ℕ = λ v. cond v (length w) 0 in
    ap (λ n. max (size (starts_with nat_eq (take m z) w)) n) rest
    ∙ ap (λ (v : Bool). max (size v) (longest words z)) (by_test (starts_with nat_eq z w)
    (λ v.
    let is : size (starts_with nat_eq z w) ≡ length w = ap size v in
    starts-kept w z m (omega (arith, le, is)) v ∙ sym v)
    (λ v. starts-not w z m v ∙ sym v))

-- ---- pieces

-- a piece is the same as this one, if that ends within m bytes and isn't refused
abbrev Same : ℕ → Piece → Piece → Type 0
Same m x y = y.len ≤ m → (y.class ≡ class.Bad → ⊥) → x ≡ y

both : {A : Type 0} (P : A → A → Type 0) (b : Bool) (x x' y y' : A) → (b ≡ true → P x y) → (b ≡ false → P x' y')
    → P (cond b x x') (cond b y y')
both P true x x' y y' f g = f refl
both P false x x' y y' f g = g refl

run-same : (kind : Class) (set : Set) (m : ℕ) (z : Bytes)
    → Same m (piece_of kind (run set (take m z))) (piece_of kind (run set z))
run-same kind set m z = λ le good. ap (piece_of kind) (run-kept (is_in set) m z le)

bad-piece : {A : Type 0} (n : ℕ) → ((piece_of class.Bad n).class ≡ class.Bad → ⊥) → A
bad-piece n good = absurd (good refl)

abbrev numeral_by : ℕ → Bytes → Piece
numeral_by n text = cond (is_number text) (piece_of (class.Solid k.Number) n) (piece_of class.Bad n)

numeral-same : (m : ℕ) (z : Bytes) → Same m (numeral (take m z)) (numeral z)
numeral-same m z = λ le good.
    let n : ℕ = run Number z in
    let within : n ≤ m = if_case (λ (p : Piece). p.len ≤ m
    → n ≤ m) (is_number (take n z)) _ _ (λ _ h. h) (λ _ h. h) le in
    let same : run Number (take m z) ≡ n = run-kept (is_in Number) m z within in
    ap (λ i. numeral_by i (take i (take m z))) same ∙ ap (numeral_by n) (take-more n m z within)

abbrev word_by : ℕ → Bytes → Piece
word_by n text = cond (is_keyword text) (piece_of (class.Solid k.Keyword) n) (piece_of (class.Solid k.Name) n)

word-same : (m : ℕ) (z : Bytes) → Same m (word (take m z)) (word z)
word-same m z = λ le good.
    let n : ℕ = run Word z in
    let within : n ≤ m = if_case (λ (p : Piece). p.len ≤ m
    → n ≤ m) (is_keyword (take n z)) _ _ (λ _ h. h) (λ _ h. h) le in
    let same : run Word (take m z) ≡ n = run-kept (is_in Word) m z within in
    ap (λ i. word_by i (take i (take m z))) same ∙ ap (word_by n) (take-more n m z within)

text-same : (m : ℕ) (z : Bytes) (o : Option ℕ) → text_len z ≡ o
    → Same m (text_piece (text_len (take m z))) (text_piece o)
text-same m z (Some n) e = λ le good. ap text_piece (text-kept z n m e le)
text-same m z None e = λ le good. bad-piece 1 good

abbrev mark_by : ℕ → Piece
mark_by n = cond (eqb n 0) (piece_of class.Bad 1) (piece_of (class.Solid k.Op) n)

mark-same : (m : ℕ) (z : Bytes) → Same m (mark (take m z)) (mark z)
mark-same m z = λ le good.
    let n : ℕ = longest operators z in
    let P : Piece → Type 0 = λ p. p.len ≤ m → (p.class ≡ class.Bad → ⊥) → n ≤ m in
    let within : n ≤ m = if_case P (eqb n 0) _ _ (λ _ _ fine. bad-piece 1 fine) (λ _ h _. h) le good in
    ap mark_by (longest-kept operators m z within)

no-take : (m : ℕ) → take {A = ℕ} m [] ≡ []
no-take zero = refl
no-take (suc m) = refl

not-one : (n : ℕ) → eqb (suc (suc n)) 1 ≡ false
not-one n = by_test (eqb (suc (suc n)) 1) (λ e. absurd (omega (arith, eqb-true (suc (suc n)) 1 e))) (λ e. e)

joined-is : (b : ℕ) (z : Bytes) → (eqb (length (b ∷ z)) 1 || not (eqb (line_end z) 0)) ≡ true
    → joined (b ∷ z) ≡ piece_of class.Join (1 + line_end z)
joined-is b z e = ap (λ (v : Bool). cond v (piece_of class.Join (1 + line_end z)) (piece_of class.Bad 1)) e

joined-same : (m b : ℕ) (z : Bytes) → Same (suc m) (joined (b ∷ take m z)) (joined (b ∷ z))
joined-same m b [] = λ le good. ap (λ y. joined (b ∷ y)) (no-take m)
joined-same m b (c ∷ z) = λ le good.
    let y : Bytes = c ∷ z in
    let two : eqb (length (b ∷ y)) 1 ≡ false = not-one (length z) in
    by_test (not (eqb (line_end y) 0))
    (λ v.
    let here : joined (b ∷ y) ≡ piece_of class.Join (1 + line_end y) =
    joined-is b y (or_right (eqb (length (b ∷ y)) 1) _ v) in
    let within : 1 + line_end y ≤ suc m = subst (λ (p : Piece). p.len ≤ suc m) here le in
    let some : 1 ≤ line_end y = above-zero (line_end y) (not_false _ v) in
    let same : line_end (take m y) ≡ line_end y = line-kept m y (omega arith) (omega arith) in
    let again : not (eqb (line_end (take m y)) 0) ≡ true = ap (λ n. not (eqb n 0)) same ∙ v in
    joined-is b (take m y) (or_right (eqb (length (b ∷ take m y)) 1) _ again)
    ∙ (ap (λ n. piece_of class.Join (1 + n)) same ∙ sym here))
    (λ v.
    let bad : joined (b ∷ y) ≡ piece_of class.Bad 1 =
    ap (λ (w : Bool). cond (w || not (eqb (line_end y) 0)) (piece_of class.Join (1 + line_end y))
    (piece_of class.Bad 1)) two
    ∙ ap (λ (w : Bool). cond w (piece_of class.Join (1 + line_end y)) (piece_of class.Bad 1)) v in
    absurd (good (ap (λ (p : Piece). p.class) bad)))

-- the piece at the front, by the line end that stands there
abbrev piece_rest : Bytes → Piece
piece_rest z =
    let b = slice_index z 0 in
    (cond (eqb b 32) (piece_of class.Spaces (run Space z))
    (cond (eqb b 9) (piece_of class.Tabs (run Tab z))
    (cond (eqb b 35) (piece_of class.Comment (before_line_end z))
    (cond (eqb b 92) (joined z)
    (cond (is_in Digit b) (numeral z)
    (cond (is_in Word b) (word z)
    (cond (eqb b 39 || eqb b 34) (quoted z)
    (mark z))))))))

abbrev piece_by : ℕ → Bytes → Piece
piece_by n z = cond (not (eqb n 0)) (piece_of class.LineEnd n) (piece_rest z)

piece-is : (z : Bytes) → piece z ≡ piece_by (line_end z) z
unfolding piece
piece-is z = refl

-- the place where a text is cut off is not within the line end behind a comment
abbrev pub IsClear : Bytes → ℕ → Type 0
IsClear z m = (m ≡ before_line_end z) ⊎ (before_line_end z + line_end (drop (before_line_end z) z) ≤ m)

comment-same : (m : ℕ) (z : Bytes) → IsClear z m
    → Same m (piece_of class.Comment (before_line_end (take m z))) (piece_of class.Comment (before_line_end z))
comment-same m z (inl at) = λ le good.
    let whole : before_line_end (take m z) ≡ before_line_end z =
    ap (λ i. before_line_end (take i z)) at
    ∙ before-whole z ∙ length-take-fits (before_line_end z) z (before-fits z) in
    ap (piece_of class.Comment) whole
comment-same m z (inr far) = λ le good. ap (piece_of class.Comment) (before-kept m z far)

pieces-same : (n m b : ℕ) (z : Bytes) → ((piece_by n (b ∷ z)).class ≡ class.Comment → IsClear (b ∷ z) (suc m))
    → Same (suc m) (piece_by n (b ∷ take m z)) (piece_by n (b ∷ z))
pieces-same n m b z clear =
    let P : Piece → Piece → Type 0 = λ x y. (y.class ≡ class.Comment → IsClear (b ∷ z) (suc m)) → Same (suc m) x y in
    let S : (x y : Piece) → Same (suc m) x y → P x y = λ x y h _. h in
    both P (not (eqb n 0)) _ _ _ _ (λ _. S _ _ (λ le good. refl)) (λ _.
    both P (eqb b 32) _ _ _ _ (λ _. S _ _ (run-same class.Spaces Space (suc m) (b ∷ z))) (λ _.
    both P (eqb b 9) _ _ _ _ (λ _. S _ _ (run-same class.Tabs Tab (suc m) (b ∷ z))) (λ _.
    both P (eqb b 35) _ _ _ _ (λ _ c. comment-same (suc m) (b ∷ z) (c refl)) (λ _.
    both P (eqb b 92) _ _ _ _ (λ _. S _ _ (joined-same m b z)) (λ _.
    both P (is_in Digit b) _ _ _ _ (λ _. S _ _ (numeral-same (suc m) (b ∷ z))) (λ _.
    both P (is_in Word b) _ _ _ _ (λ _. S _ _ (word-same (suc m) (b ∷ z))) (λ _.
    both P (eqb b 39 || eqb b 34) _ _ _ _ (λ _. S _ _ (text-same (suc m) (b ∷ z) (text_len (b ∷ z)) refl)) (λ _.
    S _ _ (mark-same (suc m) (b ∷ z)))))))))) clear

zero-is : (n : ℕ) → not (eqb n 0) ≡ false → eqb n 0 ≡ true
zero-is zero e = refl
zero-is (suc n) e = by_test (eqb (suc n) 0) (λ v. v) (λ v. absurd (false≢true (sym e ∙ not_true _ v)))

line-piece : (n : ℕ) (z : Bytes) → not (eqb n 0) ≡ true → piece_by n z ≡ piece_of class.LineEnd n
line-piece n z e = ap (λ (v : Bool). cond v (piece_of class.LineEnd n) (piece_rest z)) e

-- where a line ends the piece has its bytes
line-within : (z : Bytes) (m : ℕ) → (piece z).len ≤ m → line_end z ≤ m
line-within z m le =
    by_test (not (eqb (line_end z) 0))
    (λ v. subst (λ (p : Piece). p.len ≤ m) (piece-is z ∙ line-piece (line_end z) z v) le)
    (λ v. omega (arith, eqb-true (line_end z) 0 (zero-is (line_end z) v)))

pub piece-kept : (m : ℕ) (z : Bytes) → 0 < length z → 1 ≤ m → (piece z).len ≤ m → ((piece z).class ≡ class.Bad → ⊥)
    → ((piece z).class ≡ class.Comment → IsClear z m) → piece (take m z) ≡ piece z
piece-kept m [] some one le good clear = absurd (omega arith)
piece-kept zero (b ∷ z) some one le good clear = absurd (omega arith)
piece-kept (suc m) (b ∷ z) some one le good clear =
    let n : ℕ = line_end (b ∷ z) in
    let line : line_end (b ∷ take m z) ≡ n = line-kept (suc m) (b ∷ z) one (line-within (b ∷ z) (suc m) le) in
    let is : piece (b ∷ z) ≡ piece_by n (b ∷ z) = piece-is (b ∷ z) in
    let same = pieces-same n m b z (λ c. clear (ap (λ (p : Piece). p.class) is ∙ c))
    (subst (λ (p : Piece). p.len ≤ suc m) is le) (λ bad. good (ap (λ (p : Piece). p.class) is ∙ bad)) in
    piece-is (b ∷ take m z) ∙ (ap (λ i. piece_by i (b ∷ take m z)) line ∙ (same ∙ sym is))

text-no-comment : (z : Bytes) (o : Option ℕ) → (text_piece o).class ≡ class.Comment
    → (text_piece o).len ≡ before_line_end z
text-no-comment z (Some n) e = absurd cc
text-no-comment z None e = absurd cc

-- a comment goes up to its line end
pub comment-len : (z : Bytes) → (piece z).class ≡ class.Comment → (piece z).len ≡ before_line_end z
unfolding piece
comment-len z =
    let P : Piece → Type 0 = λ p. p.class ≡ class.Comment → p.len ≡ before_line_end z in
    let b : ℕ = slice_index z 0 in
    if_case P (not (eqb (line_end z) 0)) _ _ (λ _ e. absurd cc) (λ _.
    if_case P (eqb b 32) _ _ (λ _ e. absurd cc) (λ _.
    if_case P (eqb b 9) _ _ (λ _ e. absurd cc) (λ _.
    if_case P (eqb b 35) _ _ (λ _ e. refl) (λ _.
    if_case P (eqb b 92) _ _
    (λ _. if_case P (eqb (length z) 1 || not (eqb (line_end (drop 1 z)) 0)) _ _ (λ _ e. absurd cc) (λ _ e. absurd cc))
    (λ _.
    if_case P (is_in Digit b) _ _
    (λ _. if_case P (is_number (take (run Number z) z)) _ _ (λ _ e. absurd cc) (λ _ e. absurd cc)) (λ _.
    if_case P (is_in Word b) _ _
    (λ _. if_case P (is_keyword (take (run Word z) z)) _ _ (λ _ e. absurd cc) (λ _ e. absurd cc)) (λ _.
    if_case P (eqb b 39 || eqb b 34) _ _ (λ _. text-no-comment z (text_len z)) (λ _.
    if_case P (eqb (longest operators z) 0) _ _ (λ _ e. absurd cc) (λ _ e. absurd cc)))))))))
