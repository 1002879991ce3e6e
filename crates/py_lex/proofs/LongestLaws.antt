-- No longer token stands where a piece is a token.
use Rattle.std.proofs.Common.{◌≡◌, ℕ, zero, suc, ◌+◌, ◌<◌, ◌≤◌, ◌⊎◌, inl, inr, Bool, true, false, cond, eqb, ◌&&◌, ◌||◌}
use Rattle.std.proofs.Common.{not}
use Rattle.std.proofs.Common.{List, [], ◌∷◌, ◌++◌, length, take, drop, slice_index, nat_eq, codes, Option, Some, None}
use Rattle.std.proofs.Common.{refl, ap, sym, subst, ◌∙◌, arith}
use Rattle.std.proofs.lemmas.Bool.{false≢true, eqb-true, eq-eqb}
use Rattle.std.proofs.lemmas.Bool.Decides.{nat_tests}
use Rattle.std.proofs.lemmas.Slice.Eq.{bytes_eq-Decides}
use Rattle.std.specs.List.{AllByRecursion, list_all, list_any, starts_with, prefix_len}
use Rattle.std.specs.Str.{bytes_eq}
use Rattle.py_lex.specs.declared.bytes.Set.{Set}
use Rattle.py_lex.specs.declared.bytes.Set.TheVariants.{Digit, Hexadecimal, Word, Number}
use Rattle.py_lex.specs.declared.token.TokenKind.{TokenKind}
use Rattle.py_lex.specs.declared.token.TokenKind.TheVariants as k
use Rattle.py_lex.specs.declared.piece.Piece.{Piece}
use Rattle.py_lex.specs.declared.piece.Class.{Class}
use Rattle.py_lex.specs.declared.piece.Class.TheVariants as class
use Rattle.py_lex.specs.Bytes.{Bytes, is_in, are_in, run, line_end}
use Rattle.py_lex.specs.Words.{keywords, is_keyword, is_name, operators, is_operator, longest, is_decimal}
use Rattle.py_lex.specs.Words.{is_hexadecimal}
use Rattle.py_lex.specs.Words.{decimal_value, hexadecimal_value, number_value}
use Rattle.py_lex.specs.Words.{is_number, quotings, text_by, text_len, is_length, is_text}
use Rattle.py_lex.specs.Pieces.{piece, piece_of, joined, numeral, word, text_piece, mark}
use Rattle.py_lex.specs.Lexed.{Spells}
use Rattle.py_lex.specs.Laws.{IsWritten}
use Rattle.py_lex.proofs.Choices.{if_case, by_test, and_true, and_left, and_right, not_true, not_false, or_left}
use Rattle.py_lex.proofs.Choices.{or_second}
use Rattle.py_lex.proofs.ByteLaws.{prefix_len-yes, length-take-fits}
use Rattle.py_lex.proofs.WordLaws.{starts-is}
use Rattle.py_lex.proofs.TextLaws.{none-some, some-same, text-kept, text_by-is}
use Rattle.py_lex.proofs.PieceLaws.{digit-number}
use Rattle.py_lex.proofs.MarginLaws.{in_not, table-all}

-- no token that is longer than this stands at the front
abbrev pub NoLonger : Bytes → ℕ → Type 0
NoLonger z len = (kind : TokenKind) → IsWritten kind → (m : ℕ) → len < m → m ≤ length z → Spells kind (take m z) → ⊥

-- ---- the first byte of a token

-- 39 is `'`, 34 is `"`
abbrev pub is_quote : ℕ → Bool
is_quote b = eqb b 39 || eqb b 34

clash : (v : Bool) → v ≡ true → v ≡ false → ⊥
clash v is none = false≢true (sym none ∙ is)

quote-is : (b : ℕ) → is_quote b ≡ true → (p : ℕ → Bool) → p 39 ≡ false → p 34 ≡ false → p b ≡ false
quote-is b h p one two =
    by_test (eqb b 39)
    (λ e. ap p (eqb-true b 39 e) ∙ one)
    (λ e. ap p (eqb-true b 34 (or_second (eqb b 39) (eqb b 34) e h)) ∙ two)

digit-word : (b : ℕ) → is_in Digit b ≡ true → is_in Word b ≡ true
digit-word b e = or_left _ _ (or_left _ _ (or_left _ _ e))

abbrev begins_word : Bytes → Bool
begins_word w = not (is_in Digit (slice_index w 0)) && (is_in Word (slice_index w 0) && are_in Word w)

keywords-words : list_all (λ w. begins_word w) keywords ≡ true
unfolding keywords
keywords-words = refl

abbrev begins_mark : Bytes → Bool
begins_mark w = not (is_in Word (slice_index w 0)) && not (is_quote (slice_index w 0))

operators-marks : list_all (λ w. begins_mark w) operators ≡ true
unfolding operators
operators-marks = refl

-- what the first byte of a written token is
abbrev First : TokenKind → ℕ → Type 0
First k.Name b = (is_in Digit b ≡ false) × (is_in Word b ≡ true)
First k.Keyword b = (is_in Digit b ≡ false) × (is_in Word b ≡ true)
First k.Number b = is_in Digit b ≡ true
First k.Op b = (is_in Word b ≡ false) × (is_quote b ≡ false)
First k.Text b = is_quote b ≡ true
First _ b = Unit {0}

-- and all its bytes
abbrev Body : TokenKind → Bytes → Type 0
Body k.Name w = are_in Word w ≡ true
Body k.Keyword w = are_in Word w ≡ true
Body k.Number w = are_in Number w ≡ true
Body _ w = Unit {0}

abbrev Begins : TokenKind → Bytes → Type 0
Begins kind w = First kind (slice_index w 0) × Body kind w

all-first : (set : Set) (w : Bytes) → 0 < length w → are_in set w ≡ true → is_in set (slice_index w 0) ≡ true
all-first set [] some all = absurd (omega arith)
all-first set (b ∷ w) some all = and_left (is_in set b) _ all

more-in : (p q : Set) → ((b : ℕ) → is_in p b ≡ true → is_in q b ≡ true) → (w : Bytes) → are_in p w ≡ true
    → are_in q w ≡ true
more-in p q f [] all = refl
more-in p q f (b ∷ w) all =
    and_true (is_in q b) _ (f b (and_left _ _ all)) (more-in p q f w (and_right (is_in p b) _ all))

name-begins : (w : Bytes) → 0 < length w → is_name w ≡ true → Begins k.Name w
unfolding is_name
name-begins w some e =
    let rest = and_right (not (eqb (length w) 0)) _ e in
    let all : are_in Word w ≡ true = and_right (not (is_in Digit (slice_index w 0))) _ rest in
    ((not_false _ (and_left (not (is_in Digit (slice_index w 0))) _ rest), all-first Word w some all), all)

keyword-begins : (w : Bytes) → is_keyword w ≡ true → Begins k.Keyword w
unfolding is_keyword
keyword-begins w e =
    let h = table-all (λ x. begins_word x) w keywords e keywords-words in
    let rest = and_right (not (is_in Digit (slice_index w 0))) _ h in (
      (not_false _ (and_left (not (is_in Digit (slice_index w 0))) _ h), and_left _ _ rest),
      and_right (is_in Word (slice_index w 0)) _ rest,
    )

op-begins : (w : Bytes) → is_operator w ≡ true → Begins k.Op w
unfolding is_operator
op-begins w e =
    let h = table-all (λ x. begins_mark x) w operators e operators-marks in
    ((not_false _ (and_left _ _ h), not_false _ (and_right (not (is_in Word (slice_index w 0))) _ h)), tt)

hexadecimal-number : (b : ℕ) → is_in Hexadecimal b ≡ true → is_in Number b ≡ true
hexadecimal-number b e = grind (arith, nat_tests, e)

hex-shape : (w : Bytes) (x : ℕ) → 48 ∷ x ∷ [] ≡ take 2 w → w ≡ 48 ∷ x ∷ drop 2 w
hex-shape [] x e = absurd (omega (arith, ap length e))
hex-shape (b ∷ []) x e = absurd (omega (arith, ap length e))
hex-shape (b ∷ c ∷ w) x e = sym (ap (λ l. l ++ w) e)

hex-begins : (w : Bytes) (x : ℕ) → w ≡ 48 ∷ x ∷ drop 2 w → is_in Number x ≡ true → are_in Hexadecimal (drop 2 w) ≡ true
    → Begins k.Number w
hex-begins w x shape nx all =
    subst (λ y. Begins k.Number y) (sym shape) (
      refl,
      and_true (is_in Number 48) _ refl
          (and_true (is_in Number x) _ nx (more-in Hexadecimal Number hexadecimal-number (drop 2 w) all)),
    )

hexadecimal-begins : (w : Bytes) → is_hexadecimal w ≡ true → Begins k.Number w
hexadecimal-begins w h =
    let small : Bool = starts_with nat_eq w (codes "0x") in
    let large : Bool = starts_with nat_eq w (codes "0X") in
    let all = and_right (not (eqb (length (drop 2 w)) 0)) _ (and_right (small || large) _ h) in
    by_test small
    (λ s. hex-begins w 120 (hex-shape w 120 (starts-is w (codes "0x") s)) refl all)
    (λ s. hex-begins w 88
    (hex-shape w 88 (starts-is w (codes "0X") (or_second small large s (and_left _ _ h)))) refl all)

number-begins : (w : Bytes) (n : ℕ) → 0 < length w → number_value w ≡ Some n → Begins k.Number w
unfolding number_value
number-begins w n some e =
    let hex : Option ℕ = Some (hexadecimal_value (drop 2 w)) in
    by_test (is_decimal w)
    (λ d. let all : are_in Digit w ≡ true = and_left _ _ d in
    (all-first Digit w some all, more-in Digit Number digit-number w all))
    (λ d. by_test (is_hexadecimal w)
    (λ h. hexadecimal-begins w h)
    (λ h. none-some n (sym (ap (λ (v : Bool). cond v (Some (decimal_value w)) (cond (is_hexadecimal w) hex None)) d
    ∙ ap (λ (v : Bool). cond v hex None) h) ∙ e)))

first-take : (m : ℕ) (z : Bytes) → 1 ≤ m → slice_index (take m z) 0 ≡ slice_index z 0
first-take zero z some = absurd (omega arith)
first-take (suc m) [] some = refl
first-take (suc m) (b ∷ z) some = refl

abbrev IsQuoting : Bytes → Type 0
IsQuoting q = (1 ≤ length q) × (is_quote (slice_index q 0) ≡ true)

quoted-first : (words : List Bytes) (z : Bytes) (n : ℕ) → AllByRecursion IsQuoting words → text_by words z ≡ Some n
    → is_quote (slice_index z 0) ≡ true
quoted-first [] z n are e = none-some n e
quoted-first (q ∷ words) z n are e =
    by_test (starts_with nat_eq z q)
    (λ v.
    let same : slice_index q 0 ≡ slice_index z 0 =
    ap (λ y. slice_index y 0) (starts-is z q v) ∙ first-take (length q) z are.0.0 in
    ap (λ b. is_quote b) (sym same) ∙ are.0.1)
    (λ v. quoted-first words z n are.1 (sym (text_by-is q words z false v) ∙ e))

length-some : (o : Option ℕ) (n : ℕ) → is_length o n ≡ true → o ≡ Some n
length-some (Some m) n e = ap Some (eqb-true m n e)
length-some None n e = absurd (false≢true e)

text-begins : (w : Bytes) → is_text w ≡ true → Begins k.Text w
unfolding text_len
text-begins w e = (
  quoted-first quotings w (length w)
      ((omega arith, refl), ((omega arith, refl), ((omega arith, refl), ((omega arith, refl), tt))))
      (length-some (text_len w) (length w) e),
  tt,
)

written-begins : (kind : TokenKind) (w : Bytes) → IsWritten kind → 0 < length w → Spells kind w → Begins kind w
written-begins k.Name w written some s = name-begins w some s.0
written-begins k.Keyword w written some s = keyword-begins w s
written-begins k.Number w written some s = number-begins w s.0 some s.1
written-begins k.Op w written some s = op-begins w s
written-begins k.Text w written some s = text-begins w s
written-begins _ w written some s = absurd written

begins-here : (z : Bytes) (kind : TokenKind) (m : ℕ) → IsWritten kind → 1 ≤ m → m ≤ length z → Spells kind (take m z)
    → First kind (slice_index z 0) × Body kind (take m z)
begins-here z kind m written some fits s =
    let h = written-begins kind (take m z) written (omega (arith, length-take-fits m z fits)) s in
    (subst (λ b. First kind b) (first-take m z some) h.0, h.1)

-- ---- each piece

run-longest : (p : ℕ → Bool) (m : ℕ) (z : Bytes) → m ≤ length z → list_all p (take m z) ≡ true → m ≤ prefix_len p z
run-longest p zero z fits all = omega arith
run-longest p (suc m) [] fits all = absurd (omega arith)
run-longest p (suc m) (b ∷ z) fits all =
    let more = run-longest p m z (omega arith) (and_right (p b) _ all) in
    omega (arith, more, prefix_len-yes p b z (and_left _ _ all))

word-longest : (z : Bytes) → is_in Digit (slice_index z 0) ≡ false → is_in Word (slice_index z 0) ≡ true
    → NoLonger z (run Word z)
word-longest z d w k.Name written m more fits s =
    let h = begins-here z k.Name m written (omega arith) fits s in
    let le : m ≤ run Word z = run-longest (is_in Word) m z fits h.1 in omega arith
word-longest z d w k.Keyword written m more fits s =
    let h = begins-here z k.Keyword m written (omega arith) fits s in
    let le : m ≤ run Word z = run-longest (is_in Word) m z fits h.1 in omega arith
word-longest z d w k.Number written m more fits s = clash _ (begins-here z k.Number m written (omega arith) fits s).0 d
word-longest z d w k.Op written m more fits s = clash _ w (begins-here z k.Op m written (omega arith) fits s).0.0
word-longest z d w k.Text written m more fits s =
    clash _ w (quote-is (slice_index z 0) (begins-here z k.Text m written (omega arith) fits s).0
    (is_in Word) refl refl)
word-longest z d w _ written m more fits s = absurd written

numeral-longest : (z : Bytes) → is_in Digit (slice_index z 0) ≡ true → NoLonger z (run Number z)
numeral-longest z d k.Name written m more fits s = clash _ d (begins-here z k.Name m written (omega arith) fits s).0.0
numeral-longest z d k.Keyword written m more fits s =
    clash _ d (begins-here z k.Keyword m written (omega arith) fits s).0.0
numeral-longest z d k.Number written m more fits s =
    let h = begins-here z k.Number m written (omega arith) fits s in
    let le : m ≤ run Number z = run-longest (is_in Number) m z fits h.1 in omega arith
numeral-longest z d k.Op written m more fits s =
    clash _ (digit-word (slice_index z 0) d) (begins-here z k.Op m written (omega arith) fits s).0.0
numeral-longest z d k.Text written m more fits s =
    clash _ d (quote-is (slice_index z 0) (begins-here z k.Text m written (omega arith) fits s).0
    (is_in Digit) refl refl)
numeral-longest z d _ written m more fits s = absurd written

text-longest : (z : Bytes) (n : ℕ) → is_quote (slice_index z 0) ≡ true → text_len z ≡ Some n → NoLonger z n
text-longest z n q e k.Name written m more fits s =
    clash _ (begins-here z k.Name m written (omega arith) fits s).0.1
    (quote-is (slice_index z 0) q (is_in Word) refl refl)
text-longest z n q e k.Keyword written m more fits s =
    clash _ (begins-here z k.Keyword m written (omega arith) fits s).0.1
    (quote-is (slice_index z 0) q (is_in Word) refl refl)
text-longest z n q e k.Number written m more fits s =
    clash _ (begins-here z k.Number m written (omega arith) fits s).0
    (quote-is (slice_index z 0) q (is_in Digit) refl refl)
text-longest z n q e k.Op written m more fits s = clash _ q (begins-here z k.Op m written (omega arith) fits s).0.1
text-longest z n q e k.Text written m more fits s =
    let whole : Some n ≡ Some (length (take m z)) =
    sym (text-kept z n m e (omega arith)) ∙ length-some (text_len (take m z)) (length (take m z)) s in
    let same : n ≡ length (take m z) = some-same _ _ whole in omega (arith, same, length-take-fits m z fits)
text-longest z n q e _ written m more fits s = absurd written

longest-any : (ws : List Bytes) (m : ℕ) (z : Bytes) → m ≤ length z → list_any (bytes_eq (take m z)) ws ≡ true
    → m ≤ longest ws z
longest-any [] m z fits any = absurd (false≢true any)
longest-any (w ∷ ws) m z fits any =
    by_test (bytes_eq (take m z) w)
    (λ e.
    let same : take m z ≡ w = (bytes_eq-Decides (take m z) w).0 e in
    let len : length w ≡ m = sym (ap length same) ∙ length-take-fits m z fits in
    let begins : starts_with nat_eq z w ≡ true =
    (bytes_eq-Decides w (take (length w) z)).1 (sym same ∙ ap (λ i. take i z) (sym len)) in
    let is : cond (starts_with nat_eq z w) (length w) 0 ≡ length w = ap (λ (v : Bool). cond v (length w) 0) begins in
    omega (arith, is, len))
    (λ e.
    let le = longest-any ws m z fits (or_second (bytes_eq (take m z) w) (list_any (bytes_eq (take m z)) ws) e any) in
    omega (arith, le))

mark-longest : (z : Bytes) → is_in Word (slice_index z 0) ≡ false → is_quote (slice_index z 0) ≡ false
    → NoLonger z (longest operators z)
unfolding is_operator
mark-longest z w q k.Name written m more fits s = clash _ (begins-here z k.Name m written (omega arith) fits s).0.1 w
mark-longest z w q k.Keyword written m more fits s =
    clash _ (begins-here z k.Keyword m written (omega arith) fits s).0.1 w
mark-longest z w q k.Number written m more fits s =
    clash _ (digit-word (slice_index z 0) (begins-here z k.Number m written (omega arith) fits s).0) w
mark-longest z w q k.Op written m more fits s =
    let le : m ≤ longest operators z = longest-any operators m z fits s in omega arith
mark-longest z w q k.Text written m more fits s = clash _ (begins-here z k.Text m written (omega arith) fits s).0 q
mark-longest z w q _ written m more fits s = absurd written

-- a piece that is a token is the longest
abbrev pub Longest : Class → Bytes → ℕ → Type 0
Longest (class.Solid kind) z n = IsWritten kind × NoLonger z n
Longest _ z n = Unit {0}

abbrev LongestOf : Bytes → Piece → Type 0
LongestOf z p = Longest p.class z p.len

joined-longest : (z : Bytes) → LongestOf z (joined z)
joined-longest z = if_case (LongestOf z) (eqb (length z) 1 || not (eqb (line_end (drop 1 z)) 0)) _ _ (λ h. tt) (λ h. tt)

text-piece-longest : (z : Bytes) → is_quote (slice_index z 0) ≡ true → (o : Option ℕ) → text_len z ≡ o
    → LongestOf z (text_piece o)
text-piece-longest z q (Some n) e = (tt, text-longest z n q e)
text-piece-longest z q None e = tt

pub piece-longest : (z : Bytes) → LongestOf z (piece z)
unfolding piece
piece-longest z =
    let b : ℕ = slice_index z 0 in
    if_case (LongestOf z) (not (eqb (line_end z) 0)) _ _ (λ _. tt) (λ _.
    if_case (LongestOf z) (eqb b 32) _ _ (λ _. tt) (λ _.
    if_case (LongestOf z) (eqb b 9) _ _ (λ _. tt) (λ _.
    if_case (LongestOf z) (eqb b 35) _ _ (λ _. tt) (λ _.
    if_case (LongestOf z) (eqb b 92) _ _ (λ _. joined-longest z) (λ _.
    if_case (LongestOf z) (is_in Digit b) _ _
    (λ d. if_case (LongestOf z) (is_number (take (run Number z) z)) _ _ (λ _. (tt, numeral-longest z d)) (λ _. tt))
    (λ d.
    if_case (LongestOf z) (is_in Word b) _ _
    (λ w. if_case (LongestOf z) (is_keyword (take (run Word z) z)) _ _ (λ _. (tt, word-longest z d w))
    (λ _. (tt, word-longest z d w))) (λ w.
    if_case (LongestOf z) (is_quote b) _ _ (λ q. text-piece-longest z q (text_len z) refl) (λ q.
    if_case (LongestOf z) (eqb (longest operators z) 0) _ _ (λ _. tt) (λ _. (tt, mark-longest z w q))))))))))
