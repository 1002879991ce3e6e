-- The margin behind each piece of a source.
use Rattle.std.proofs.Common.{◌≡◌, ℕ, zero, suc, ◌+◌, ◌-◌, ◌<◌, ◌≤◌, ◌⊎◌, inl, inr, Bool, true, false, cond, eqb, ◌&&◌}
use Rattle.std.proofs.Common.{◌||◌, not}
use Rattle.std.proofs.Common.{List, [], ◌∷◌, ◌++◌, length, take, drop, slice_index, nat_eq, Option, Some, None, refl}
use Rattle.std.proofs.Common.{ap, sym, subst, ◌∙◌}
use Rattle.std.proofs.Common.{append_assoc, arith}
use Rattle.std.proofs.lemmas.Bool.{false≢true, eqb-true, eq-eqb}
use Rattle.std.proofs.lemmas.Slice.Eq.{bytes_eq-Decides}
use Rattle.std.specs.List.{AllByRecursion, list_all, list_any, starts_with}
use Rattle.std.specs.Str.{bytes_eq}
use Rattle.py_lex.specs.declared.bytes.Set.{Set}
use Rattle.py_lex.specs.declared.bytes.Set.TheVariants.{Space, Tab, Digit, Word, Number}
use Rattle.py_lex.specs.declared.token.TokenKind.TheVariants as k
use Rattle.py_lex.specs.declared.piece.Piece.{Piece}
use Rattle.py_lex.specs.declared.piece.Class.{Class}
use Rattle.py_lex.specs.declared.piece.Class.TheVariants as class
use Rattle.py_lex.specs.Bytes.{Bytes, is_in, are_in, run, line_end, before_line_end}
use Rattle.py_lex.specs.Words.{is_keyword, is_number, closed, quotings, text_by, text_len, longest, operators}
use Rattle.py_lex.specs.Words.{is_operator}
use Rattle.py_lex.specs.Pieces.{piece, piece_of, joined, numeral, word, text_piece, mark}
use Rattle.py_lex.specs.Laws.{Margin, Off, Spaces, Joining, Returning, fresh, margin_after, margin_from}
use Rattle.py_lex.proofs.Choices.{if_case, by_test, and_true, and_left, and_right, not_true, not_false, or_first}
use Rattle.py_lex.proofs.Choices.{or_second}
use Rattle.py_lex.proofs.ByteLaws.{run_in, run_some, run_fits, line_end-is, before-more, before-none, take-first}
use Rattle.py_lex.proofs.ByteLaws.{length-take-fits}
use Rattle.py_lex.proofs.GoodLaws.{take-add}
use Rattle.py_lex.proofs.PieceLaws.{Fits, cut-comment, digit-number, zero-test}
use Rattle.py_lex.proofs.WordLaws.{starts-is, longest-fits, operator-spells}
use Rattle.py_lex.proofs.TextLaws.{none-some, some-same, closed-within, closed-at, text_by-is, length-drop-is}

-- between pieces no join is half read
abbrev pub IsSettled : Margin → Type 0
IsSettled Off = Unit {0}
IsSettled (Spaces n) = Unit {0}
IsSettled _ = ⊥

pub margin-append : (m : Margin) (a b : Bytes) → margin_from m (a ++ b) ≡ margin_from (margin_from m a) b
unfolding margin_from
margin-append m [] b = refl
margin-append m (c ∷ a) b = margin-append (margin_after m c) a b

pub margin-none : (m : Margin) → margin_from m [] ≡ m
unfolding margin_from
margin-none m = refl

margin-first : (m : Margin) (b : ℕ) (z : Bytes) → margin_from m (b ∷ z) ≡ margin_from (margin_after m b) z
unfolding margin_from
margin-first m b z = refl

-- ---- spaces

pub margin-spaces : (n : ℕ) (z : Bytes) → list_all (is_in Space) z ≡ true
    → margin_from (Spaces n) z ≡ Spaces (n + length z)
margin-spaces n [] all = let e : n ≡ n + 0 = omega arith in margin-none (Spaces n) ∙ ap Spaces e
margin-spaces n (b ∷ z) all =
    let e : n + 1 + length z ≡ n + suc (length z) = omega arith in
    margin-first (Spaces n) b z
    ∙ ap (λ (v : Bool). margin_from (cond v (Spaces (n + 1)) (cond (eqb b 92) (Joining n) (fresh b))) z)
    (and_left _ _ all)
    ∙ margin-spaces (n + 1) z (and_right (is_in Space b) _ all) ∙ ap Spaces e

-- ---- bytes that leave no margin

abbrev pub is_plain : ℕ → Bool
is_plain b = not (eqb b 10) && (not (eqb b 32) && not (eqb b 92))

not_line : (b : ℕ) → is_plain b ≡ true → eqb b 10 ≡ false
not_line b h = not_false _ (and_left (not (eqb b 10)) _ h)

fresh-off : (b : ℕ) → eqb b 10 ≡ false → fresh b ≡ Off
fresh-off b e = ap (λ (v : Bool). cond v (Spaces 0) Off) e

margin-off : (z : Bytes) → list_all (λ b. not (eqb b 10)) z ≡ true → margin_from Off z ≡ Off
margin-off [] all = margin-none Off
margin-off (b ∷ z) all =
    margin-first Off b z ∙ ap (λ m. margin_from m z) (fresh-off b (not_false _ (and_left _ _ all)))
    ∙ margin-off z (and_right (not (eqb b 10)) _ all)

plain-after : (m : Margin) (b : ℕ) → IsSettled m → is_plain b ≡ true → margin_after m b ≡ Off
plain-after Off b s h = fresh-off b (not_line b h)
plain-after (Spaces n) b s h =
    let rest = and_right (not (eqb b 10)) _ h in
    ap (λ (v : Bool). cond v (Spaces (n + 1)) (cond (eqb b 92) (Joining n) (fresh b))) (not_false _ (and_left _ _ rest))
    ∙ ap (λ (v : Bool). cond v (Joining n) (fresh b)) (not_false _ (and_right (not (eqb b 32)) _ rest))
    ∙ fresh-off b (not_line b h)
plain-after (Joining n) b s h = absurd s
plain-after (Returning n) b s h = absurd s

all-more : (p q : ℕ → Bool) → ((b : ℕ) → p b ≡ true → q b ≡ true) → (z : Bytes) → list_all p z ≡ true
    → list_all q z ≡ true
all-more p q f [] h = refl
all-more p q f (b ∷ z) h = and_true (q b) _ (f b (and_left _ _ h)) (all-more p q f z (and_right (p b) _ h))

pub margin-plain : (m : Margin) (z : Bytes) → IsSettled m → 0 < length z → list_all is_plain z ≡ true
    → margin_from m z ≡ Off
margin-plain m [] s some all = absurd (omega arith)
margin-plain m (b ∷ z) s some all =
    margin-first m b z ∙ ap (λ x. margin_from x z) (plain-after m b s (and_left _ _ all))
    ∙ margin-off z (all-more is_plain (λ c. not (eqb c 10)) (λ c h. and_left (not (eqb c 10)) _ h) z
    (and_right (is_plain b) _ all))

-- ---- the sets of bytes of words and numbers

pub in_not : (set : Set) (b c : ℕ) → is_in set b ≡ true → is_in set c ≡ false → eqb b c ≡ false
in_not set b c h none =
    by_test (eqb b c)
    (λ e. absurd (false≢true (sym none ∙ sym (ap (is_in set) (eqb-true b c e)) ∙ h)))
    (λ e. e)

number-plain : (b : ℕ) → is_in Number b ≡ true → is_plain b ≡ true
number-plain b h =
    and_true (not (eqb b 10)) _ (not_true _ (in_not Number b 10 h refl))
    (and_true (not (eqb b 32)) _ (not_true _ (in_not Number b 32 h refl)) (not_true _ (in_not Number b 92 h refl)))

word-plain : (b : ℕ) → is_in Word b ≡ true → is_plain b ≡ true
word-plain b h =
    and_true (not (eqb b 10)) _ (not_true _ (in_not Word b 10 h refl))
    (and_true (not (eqb b 32)) _ (not_true _ (in_not Word b 32 h refl)) (not_true _ (in_not Word b 92 h refl)))

-- ---- operators

pub table-all : (p : Bytes → Bool) (w : Bytes) (ws : List Bytes) → list_any (bytes_eq w) ws ≡ true
    → list_all p ws ≡ true → p w ≡ true
table-all p w [] any all = absurd (false≢true any)
table-all p w (x ∷ ws) any all =
    by_test (bytes_eq w x)
    (λ e. ap p ((bytes_eq-Decides w x).0 e) ∙ and_left _ _ all)
    (λ e. table-all p w ws (or_second (bytes_eq w x) (list_any (bytes_eq w) ws) e any) (and_right (p x) _ all))

operators-plain : list_all (λ w. list_all is_plain w) operators ≡ true
unfolding operators
operators-plain = refl

-- ---- texts

text-ends : (quotes : Bytes) (taken at : ℕ) (z : Bytes) (n : ℕ) → 1 ≤ length quotes
    → closed quotes taken at z ≡ Some (at + n)
    → (w : Bytes) × (take n z ≡ w ++ quotes)
unfolding closed
text-ends quotes taken at [] n some e = none-some (at + n) e
text-ends quotes (suc taken) at (b ∷ z) zero some e =
    absurd (omega (arith, (closed-within quotes taken (at + 1) z (at + 0) e).0))
text-ends quotes (suc taken) at (b ∷ z) (suc n) some e =
    let moved : at + suc n ≡ at + 1 + n = omega arith in
    let more = text-ends quotes taken (at + 1) z n some (e ∙ ap Some moved) in
    (b ∷ more.0, ap (λ w. b ∷ w) more.1)
text-ends quotes zero at (b ∷ z) zero some e =
    by_test (starts_with nat_eq (b ∷ z) quotes)
    (λ v.
    let is : at + length quotes ≡ at + 0 = some-same _ _ (sym (closed-at quotes at b z true _ v refl) ∙ e) in
    absurd (omega (arith, some, is)))
    (λ v. by_test (eqb b 10 && eqb (length quotes) 1)
    (λ w. none-some (at + 0) (sym (closed-at quotes at b z false true v w) ∙ e))
    (λ w.
    let again = sym (closed-at quotes at b z false false v w) ∙ e in
    absurd (omega (arith, (closed-within quotes (cond (eqb b 92) 1 0) (at + 1) z (at + 0) again).0))))
text-ends quotes zero at (b ∷ z) (suc n) some e =
    by_test (starts_with nat_eq (b ∷ z) quotes)
    (λ v.
    let is : at + length quotes ≡ at + suc n = some-same _ _ (sym (closed-at quotes at b z true _ v refl) ∙ e) in
    let same : suc n ≡ length quotes = omega (arith, is) in
    ([], ap (λ i. take i (b ∷ z)) same ∙ sym (starts-is (b ∷ z) quotes v)))
    (λ v. by_test (eqb b 10 && eqb (length quotes) 1)
    (λ w. none-some (at + suc n) (sym (closed-at quotes at b z false true v w) ∙ e))
    (λ w.
    let moved : at + suc n ≡ at + 1 + n = omega arith in
    let again = sym (closed-at quotes at b z false false v w) ∙ e ∙ ap Some moved in
    let more = text-ends quotes (cond (eqb b 92) 1 0) (at + 1) z n some again in
    (b ∷ more.0, ap (λ x. b ∷ x) more.1)))

abbrev LeavesOff : Bytes → Type 0
LeavesOff quotes = (1 ≤ length quotes) × ((m : Margin) → margin_from m quotes ≡ Off)

text-off : (words : List Bytes) (z : Bytes) (n : ℕ) (m : Margin) → AllByRecursion LeavesOff words
    → text_by words z ≡ Some n
    → margin_from m (take n z) ≡ Off
text-off [] z n m off e = none-some n e
text-off (quotes ∷ words) z n m off e =
    by_test (starts_with nat_eq z quotes)
    (λ v.
    let l : ℕ = length quotes in
    let is : closed quotes 0 l (drop l z) ≡ Some n = sym (text_by-is quotes words z true v) ∙ e in
    let behind : l ≤ n = (closed-within quotes 0 l (drop l z) n is).0 in
    let more : n ≡ l + (n - l) = omega (arith, behind) in
    let ends = text-ends quotes 0 l (drop l z) (n - l) off.0.0 (is ∙ ap Some more) in
    let whole : take n z ≡ (take l z ++ ends.0) ++ quotes =
    ap (λ i. take i z) more ∙ take-add l (n - l) z ∙ ap (λ w. take l z ++ w) ends.1
    ∙ sym (append_assoc (take l z) ends.0 quotes) in
    ap (margin_from m) whole ∙ margin-append m (take l z ++ ends.0) quotes
    ∙ off.0.1 (margin_from m (take l z ++ ends.0)))
    (λ v. text-off words z n m off.1 (sym (text_by-is quotes words z false v) ∙ e))

apostrophe : (m : Margin) → margin_after m 39 ≡ Off
apostrophe Off = refl
apostrophe (Spaces n) = refl
apostrophe (Joining n) = refl
apostrophe (Returning n) = refl

quotation : (m : Margin) → margin_after m 34 ≡ Off
quotation Off = refl
quotation (Spaces n) = refl
quotation (Joining n) = refl
quotation (Returning n) = refl

quotings-off : AllByRecursion LeavesOff quotings
unfolding margin_from
quotings-off = (
  (omega arith, λ m. apostrophe (margin_after (margin_after m 39) 39)),
  (
    (omega arith, λ m. quotation (margin_after (margin_after m 34) 34)),
    ((omega arith, apostrophe), ((omega arith, quotation), tt)),
  ),
)

-- ---- line ends

-- a line ends here, or nothing is left
abbrev pub Breaks : Bytes → Type 0
Breaks z = (length z ≡ 0) ⊎ (1 ≤ line_end z)

two-bytes : (b : ℕ) (z : Bytes) → (eqb b 13 && eqb (slice_index z 0) 10) ≡ true → take 2 (b ∷ z) ≡ 13 ∷ 10 ∷ []
two-bytes b [] f = absurd (false≢true (and_right (eqb b 13) false f))
two-bytes b (c ∷ z) f =
    ap (λ x. x ∷ c ∷ []) (eqb-true b 13 (and_left _ _ f))
    ∙ ap (λ x. 13 ∷ x ∷ []) (eqb-true c 10 (and_right (eqb b 13) _ f))

line-text : (z : Bytes) → 1 ≤ line_end z → (take (line_end z) z ≡ 10 ∷ []) ⊎ (take (line_end z) z ≡ 13 ∷ 10 ∷ [])
line-text [] some = absurd (omega (arith, some))
line-text (b ∷ z) some =
    by_test (eqb b 10)
    (λ e. inl (ap (λ n. take n (b ∷ z)) (line_end-is b z true _ e refl) ∙ ap (λ c. c ∷ []) (eqb-true b 10 e)))
    (λ e. by_test (eqb b 13 && eqb (slice_index z 0) 10)
    (λ f. inr (ap (λ n. take n (b ∷ z)) (line_end-is b z false true e f) ∙ two-bytes b z f))
    (λ f. let none : line_end (b ∷ z) ≡ 0 = line_end-is b z false false e f in absurd (omega (arith, some, none))))

ends-line : (m : Margin) → IsSettled m → margin_from m (10 ∷ []) ≡ Spaces 0
unfolding margin_from
ends-line Off s = refl
ends-line (Spaces n) s = refl
ends-line (Joining n) s = absurd s
ends-line (Returning n) s = absurd s

returns-line : (m : Margin) → IsSettled m → margin_from m (13 ∷ 10 ∷ []) ≡ Spaces 0
unfolding margin_from
returns-line Off s = refl
returns-line (Spaces n) s = refl
returns-line (Joining n) s = absurd s
returns-line (Returning n) s = absurd s

line-margin : (z : Bytes) → 1 ≤ line_end z → (m : Margin) → IsSettled m → margin_from m (take (line_end z) z) ≡ Spaces 0
line-margin z some m s =
    elim (line-text z some) [
      | inl e ↦ ap (margin_from m) e ∙ ends-line m s
      | inr e ↦ ap (margin_from m) e ∙ returns-line m s
    ]

-- ---- joined lines

spaces-joined : (n : ℕ) → margin_from (Spaces n) (92 ∷ 10 ∷ []) ≡ Spaces n
unfolding margin_from
spaces-joined n = refl

spaces-joined-cr : (n : ℕ) → margin_from (Spaces n) (92 ∷ 13 ∷ 10 ∷ []) ≡ Spaces n
unfolding margin_from
spaces-joined-cr n = refl

off-joined : margin_from Off (92 ∷ 10 ∷ []) ≡ Spaces 0
unfolding margin_from
off-joined = refl

off-joined-cr : margin_from Off (92 ∷ 13 ∷ 10 ∷ []) ≡ Spaces 0
unfolding margin_from
off-joined-cr = refl

-- ---- what each piece does

-- the margin is settled behind a text, or nothing is left
abbrev pub Settles : Bytes → Bytes → Type 0
Settles z rest = (m : Margin) → IsSettled m → IsSettled (margin_from m z) ⊎ (length rest ≡ 0)

abbrev pub Margins : Class → Bytes → Bytes → Type 0
Margins class.Spaces z rest = Settles z rest × ((n : ℕ) → margin_from (Spaces n) z ≡ Spaces (n + length z))
Margins class.Tabs z rest = Settles z rest
Margins class.LineEnd z rest = (m : Margin) → IsSettled m → margin_from m z ≡ Spaces 0
Margins class.Join z rest = Settles z rest × ((n : ℕ) → (margin_from (Spaces n) z ≡ Spaces n) ⊎ (length rest ≡ 0))
Margins class.Comment z rest = Settles z rest × Breaks rest
Margins class.Bad z rest = Unit {0}
Margins (class.Solid kind) z rest = Settles z rest

settled-off : (m : Margin) (z : Bytes) → margin_from m z ≡ Off → IsSettled (margin_from m z)
settled-off m z e = subst IsSettled (sym e) tt

settled-spaces : (m : Margin) (z : Bytes) (n : ℕ) → margin_from m z ≡ Spaces n → IsSettled (margin_from m z)
settled-spaces m z n e = subst IsSettled (sym e) tt

abbrev pub MarginsOf : Bytes → Piece → Type 0
MarginsOf z p = Margins p.class (take p.len z) (drop p.len z)

pub above-zero : (n : ℕ) → eqb n 0 ≡ false → 1 ≤ n
above-zero zero e = absurd (false≢true (sym e))
above-zero (suc n) e = omega arith

no-lf : (b : ℕ) (z : Bytes) → line_end (b ∷ z) ≡ 0 → eqb b 10 ≡ false
no-lf b z none =
    by_test (eqb b 10)
    (λ e. let one : line_end (b ∷ z) ≡ 1 = line_end-is b z true _ e refl in absurd (omega (arith, one, none)))
    (λ e. e)

nothing-left : (z : Bytes) (n : ℕ) → 1 ≤ n → length z ≡ 1 → length (drop n z) ≡ 0
nothing-left z n some one = omega (arith, length-drop-is n z, one)

join-text : (b : ℕ) (z : Bytes) → b ≡ 92 → take (1 + line_end z) (b ∷ z) ≡ 92 ∷ take (line_end z) z
join-text b z is =
    let less : 1 + line_end z - 1 ≡ line_end z = omega arith in
    take-first b (1 + line_end z) z (omega arith) ∙ ap (λ n. b ∷ take n z) less ∙ ap (λ c. c ∷ take (line_end z) z) is

join-settles : (z rest : Bytes) → margin_from Off z ≡ Spaces 0 → ((n : ℕ) → margin_from (Spaces n) z ≡ Spaces n)
    → Settles z rest
join-settles z rest off spaces Off s = inl (settled-spaces Off z 0 off)
join-settles z rest off spaces (Spaces n) s = inl (settled-spaces (Spaces n) z n (spaces n))
join-settles z rest off spaces (Joining n) s = absurd s
join-settles z rest off spaces (Returning n) s = absurd s

space-plain : (b : ℕ) → is_in Space b ≡ true → not (eqb b 10) ≡ true
space-plain b h = not_true _ (in_not Space b 10 h refl)

spaces-settle : (z rest : Bytes) → list_all (is_in Space) z ≡ true → Settles z rest
spaces-settle z rest all Off s =
    inl (settled-off Off z (margin-off z (all-more (is_in Space) (λ b. not (eqb b 10)) space-plain z all)))
spaces-settle z rest all (Spaces n) s = inl (settled-spaces (Spaces n) z (n + length z) (margin-spaces n z all))
spaces-settle z rest all (Joining n) s = absurd s
spaces-settle z rest all (Returning n) s = absurd s

spaces-margins : (z : Bytes) → MarginsOf z (piece_of class.Spaces (run Space z))
spaces-margins z =
    let all = run_in (is_in Space) (is_in Space) (λ b e. e) z in
    (spaces-settle (take (run Space z) z) (drop (run Space z) z) all, λ n. margin-spaces n (take (run Space z) z) all)

plain-settles : (z rest : Bytes) → 0 < length z → list_all is_plain z ≡ true → Settles z rest
plain-settles z rest some all m s = inl (settled-off m z (margin-plain m z s some all))

run-nonempty : (n : ℕ) (z : Bytes) → 1 ≤ n → n ≤ length z → 0 < length (take n z)
run-nonempty n z some fits = omega (arith, some, length-take-fits n z fits)

tab-plain : (b : ℕ) → is_in Tab b ≡ true → is_plain b ≡ true
tab-plain b h =
    and_true (not (eqb b 10)) _ (not_true _ (in_not Tab b 10 h refl))
    (and_true (not (eqb b 32)) _ (not_true _ (in_not Tab b 32 h refl)) (not_true _ (in_not Tab b 92 h refl)))

run-settles : (set : Set) (z : Bytes) → 0 < length z → is_in set (slice_index z 0) ≡ true
    → ((b : ℕ) → is_in set b ≡ true → is_plain b ≡ true)
    → Settles (take (run set z) z) (drop (run set z) z)
run-settles set z some first plain =
    plain-settles (take (run set z) z) (drop (run set z) z)
    (run-nonempty (run set z) z (run_some (is_in set) z some first) (run_fits (is_in set) z))
    (run_in (is_in set) is_plain plain z)

join-cases : (z rest : Bytes) → (z ≡ 92 ∷ 10 ∷ []) ⊎ (z ≡ 92 ∷ 13 ∷ 10 ∷ []) ⊎ (length rest ≡ 0)
    → Margins class.Join z rest
join-cases z rest (inl e) =
    let P : Bytes → Type 0 = λ y. Margins class.Join y rest in
    subst P (sym e) (join-settles (92 ∷ 10 ∷ []) rest off-joined spaces-joined, λ n. inl (spaces-joined n))
join-cases z rest (inr (inl e)) =
    let P : Bytes → Type 0 = λ y. Margins class.Join y rest in
    subst P (sym e) (
      join-settles (92 ∷ 13 ∷ 10 ∷ []) rest off-joined-cr spaces-joined-cr,
      λ n. inl (spaces-joined-cr n),
    )
join-cases z rest (inr (inr none)) = ((λ m s. inr none), (λ n. inr none))

join-margins : (z : Bytes) → 0 < length z → eqb (slice_index z 0) 92 ≡ true → MarginsOf z (joined z)
join-margins [] some e = absurd (omega arith)
join-margins (b ∷ z) some e =
    if_case (MarginsOf (b ∷ z)) (eqb (length (b ∷ z)) 1 || not (eqb (line_end z) 0)) _ _
    (λ h.
    let cut : take (1 + line_end z) (b ∷ z) ≡ 92 ∷ take (line_end z) z = join-text b z (eqb-true b 92 e) in
    join-cases (take (1 + line_end z) (b ∷ z)) (drop (1 + line_end z) (b ∷ z))
    (by_test (not (eqb (line_end z) 0))
    (λ v. elim (line-text z (above-zero (line_end z) (not_false _ v))) [
      | inl l ↦ inl (cut ∙ ap (λ y. 92 ∷ y) l)
      | inr l ↦ inr (inl (cut ∙ ap (λ y. 92 ∷ y) l))
    ])
    (λ v. inr (inr (nothing-left (b ∷ z) (1 + line_end z) (omega arith)
    (eqb-true (length (b ∷ z)) 1 (or_first (eqb (length (b ∷ z)) 1) _ v h)))))))
    (λ h. tt)

before-breaks : (z : Bytes) → Breaks (drop (before_line_end z) z)
unfolding before_line_end
before-breaks [] = inl refl
before-breaks (b ∷ z) =
    let P : ℕ → Type 0 = λ n. Breaks (drop n (b ∷ z)) in
    by_test (eqb (line_end (b ∷ z)) 0)
    (λ e. subst P (sym (before-more b z (eqb-true _ 0 e))) (before-breaks z))
    (λ e. subst P (sym (before-none b z e)) (inr (above-zero (line_end (b ∷ z)) e)))

no-line : (z : Bytes) → before_line_end z ≡ length z → list_all (λ b. not (eqb b 10)) z ≡ true
no-line [] e = refl
no-line (b ∷ z) e =
    by_test (eqb (line_end (b ∷ z)) 0)
    (λ v.
    let none : line_end (b ∷ z) ≡ 0 = eqb-true _ 0 v in
    let same : before_line_end z ≡ length z = omega (arith, e, before-more b z none) in
    and_true (not (eqb b 10)) _ (not_true _ (no-lf b z none)) (no-line z same))
    (λ v. absurd (omega (arith, e, before-none b z v)))

comment-settles : (z rest : Bytes) → Fits class.Comment z → Settles z rest
comment-settles z rest fits m s =
    let w : Bytes = drop 1 z in
    let all : list_all (λ b. not (eqb b 10)) (35 ∷ w) ≡ true =
    ap (list_all (λ b. not (eqb b 10))) (sym fits.0) ∙ no-line z fits.1 in
    let off : margin_from m z ≡ Off =
    ap (margin_from m) fits.0 ∙ margin-first m 35 w ∙ ap (λ x. margin_from x w) (plain-after m 35 s refl)
    ∙ margin-off w (and_right (not (eqb 35 10)) _ all) in
    inl (settled-off m z off)

numeral-margins : (z : Bytes) → 0 < length z → is_in Number (slice_index z 0) ≡ true → MarginsOf z (numeral z)
numeral-margins z some w =
    if_case (MarginsOf z) (is_number (take (run Number z) z)) _ _
    (λ h. run-settles Number z some w number-plain)
    (λ h. tt)

word-margins : (z : Bytes) → 0 < length z → is_in Word (slice_index z 0) ≡ true → MarginsOf z (word z)
word-margins z some w =
    if_case (MarginsOf z) (is_keyword (take (run Word z) z)) _ _
    (λ h. run-settles Word z some w word-plain)
    (λ h. run-settles Word z some w word-plain)

text-margins : (z : Bytes) (o : Option ℕ) → text_len z ≡ o → MarginsOf z (text_piece o)
unfolding text_len
text-margins z (Some n) e = λ m s. inl (settled-off m (take n z) (text-off quotings z n m quotings-off e))
text-margins z None e = tt

mark-margins : (z : Bytes) → MarginsOf z (mark z)
unfolding is_operator
mark-margins z =
    if_case (MarginsOf z) (eqb (longest operators z) 0) _ _
    (λ h. tt)
    (λ h. plain-settles (take (longest operators z) z) (drop (longest operators z) z)
    (run-nonempty (longest operators z) z (above-zero _ h) (longest-fits operators z))
    (table-all (λ w. list_all is_plain w) (take (longest operators z) z) operators
    (operator-spells z h) operators-plain))

pub piece-margins : (z : Bytes) → 0 < length z → MarginsOf z (piece z)
unfolding piece
piece-margins z some =
    if_case (MarginsOf z) (not (eqb (line_end z) 0)) _ _ (λ e. line-margin z (above-zero _ (not_false _ e))) (λ none.
    if_case (MarginsOf z) (eqb (slice_index z 0) 32) _ _ (λ _. spaces-margins z) (λ _.
    if_case (MarginsOf z) (eqb (slice_index z 0) 9) _ _ (λ e. run-settles Tab z some e tab-plain) (λ _.
    if_case (MarginsOf z) (eqb (slice_index z 0) 35) _ _
    (λ e. (
      comment-settles (take (before_line_end z) z) (drop (before_line_end z) z)
          (cut-comment z some (zero-test _ none) e).fits,
      before-breaks z,
    ))
    (λ _.
    if_case (MarginsOf z) (eqb (slice_index z 0) 92) _ _ (λ e. join-margins z some e) (λ _.
    if_case (MarginsOf z) (is_in Digit (slice_index z 0)) _ _
    (λ e. numeral-margins z some (digit-number (slice_index z 0) e)) (λ _.
    if_case (MarginsOf z) (is_in Word (slice_index z 0)) _ _ (λ e. word-margins z some e) (λ _.
    if_case (MarginsOf z) (eqb (slice_index z 0) 39 || eqb (slice_index z 0) 34) _ _
    (λ _. text-margins z (text_len z) refl) (λ _.
    mark-margins z))))))))

-- where a line ends the piece is its end
pub breaks-piece : (z : Bytes) → 0 < length z → Breaks z → (piece z).class ≡ class.LineEnd
unfolding piece
breaks-piece z some (inl none) = absurd (omega (arith, none))
breaks-piece z some (inr ends) =
    if_case (λ (p : Piece). p.class ≡ class.LineEnd) (not (eqb (line_end z) 0)) _ _ (λ _. refl)
    (λ e. absurd (omega (arith, ends, eqb-true (line_end z) 0 (zero-test _ e))))
