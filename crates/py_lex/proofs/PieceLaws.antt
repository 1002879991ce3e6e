-- The piece at the front of a text has at least one byte and no more than the text, and its bytes are what its class
-- says.
use Rattle.std.proofs.Common.{◌≡◌, ◌≢◌, ℕ, zero, suc, ◌+◌, ◌-◌, ◌<◌, ◌≤◌, Bool, true, false, eqb, ◌||◌, not, [], ◌∷◌}
use Rattle.std.proofs.Common.{length, take, drop, slice_index, Option, Some, None, refl, ap, sym, subst, ◌∙◌, arith}
use Rattle.std.proofs.lemmas.Bool.{false≢true, eqb-true}
use Rattle.py_lex.specs.declared.bytes.Set.{Set}
use Rattle.py_lex.specs.declared.bytes.Set.TheVariants.{Space, Tab, Blank, Digit, Word, Number}
use Rattle.py_lex.specs.declared.token.TokenKind.TheVariants as k
use Rattle.py_lex.specs.declared.piece.Piece.{Piece}
use Rattle.py_lex.specs.declared.piece.Class.{Class}
use Rattle.py_lex.specs.declared.piece.Class.TheVariants.{Spaces, Tabs, LineEnd, Join, Comment, Bad, Solid}
use Rattle.py_lex.specs.Bytes.{Bytes, is_in, are_in, run, line_end, before_line_end}
use Rattle.py_lex.specs.Words.{is_keyword, is_number, text_len, longest, operators}
use Rattle.py_lex.specs.Pieces.{piece, piece_of, joined, numeral, word, text_piece, mark}
use Rattle.py_lex.specs.Lexed.{Spells}
use Rattle.py_lex.proofs.Choices.{if_case, or_left, or_right, not_false}
use Rattle.py_lex.proofs.ByteLaws.{run_in, run_some, run_fits, line_end-whole, line_end-fits, before-whole, before-fits}
use Rattle.py_lex.proofs.ByteLaws.{before-some, take-first}
use Rattle.py_lex.proofs.WordLaws.{number-spells, name-spells, longest-fits, operator-spells}
use Rattle.py_lex.proofs.TextLaws.{text-spells, text-moves, text-fits}

-- a `\` (92) and a line end or nothing
abbrev pub IsJoin : Bytes → Type 0
IsJoin z = (z ≡ 92 ∷ drop 1 z) × (line_end (drop 1 z) ≡ length (drop 1 z))

-- a `#` (35) and no line end
abbrev pub IsComment : Bytes → Type 0
IsComment z = (z ≡ 35 ∷ drop 1 z) × (before_line_end z ≡ length z)

-- what the bytes of a piece are
abbrev pub Fits : Class → Bytes → Type 0
Fits Spaces z = are_in Blank z ≡ true
Fits Tabs z = are_in Blank z ≡ true
Fits LineEnd z = line_end z ≡ length z
Fits Join z = IsJoin z
Fits Comment z = IsComment z
Fits Bad z = Unit {0}
Fits (Solid kind) z = Spells kind z × (kind ≢ k.End) × (kind ≢ k.Note)

pub record Cut (z : Bytes) (p : Piece) : Type 0 where
  pub moves : 1 ≤ p.len
  pub within : p.len ≤ length z
  pub fits : Fits p.class (take p.len z)

nonzero : (n : ℕ) → eqb n 0 ≡ false → 1 ≤ n
nonzero zero e = absurd (false≢true (sym e))
nonzero (suc n) e = omega arith

cut-bad : (z : Bytes) (n : ℕ) → 1 ≤ n → n ≤ length z → Cut z (piece_of Bad n)
cut-bad z n moves within = record { moves = moves; within = within; fits = tt }

cut-line : (z : Bytes) → not (eqb (line_end z) 0) ≡ true → Cut z (piece_of LineEnd (line_end z))
cut-line z e = record {
  moves = nonzero (line_end z)
      (not_false _ e);
  within = line_end-fits z;
  fits = line_end-whole z;
}

first-in : (set : Set) (z : Bytes) (b : ℕ) → eqb (slice_index z 0) b ≡ true → is_in set b ≡ true
    → is_in set (slice_index z 0) ≡ true
first-in set z b e h = let P : ℕ → Type 0 = λ c. is_in set c ≡ true in subst P (sym (eqb-true (slice_index z 0) b e)) h

cut-spaces : (z : Bytes) → 0 < length z → eqb (slice_index z 0) 32 ≡ true → Cut z (piece_of Spaces (run Space z))
cut-spaces z some e = record {
  moves = run_some (is_in Space) z some e;
  within = run_fits (is_in Space) z;
  fits = run_in (is_in Space) (is_in Blank) (λ b h. or_left _ _ h) z;
}

cut-tabs : (z : Bytes) → 0 < length z → eqb (slice_index z 0) 9 ≡ true → Cut z (piece_of Tabs (run Tab z))
cut-tabs z some e = record {
  moves = run_some (is_in Tab) z some e;
  within = run_fits (is_in Tab) z;
  fits = run_in (is_in Tab) (is_in Blank) (λ b h. or_right (eqb b 32) _ h) z;
}

comment-first : (z : Bytes) (n : ℕ) → 0 < length z → 1 ≤ n → eqb (slice_index z 0) 35 ≡ true
    → take n z ≡ 35 ∷ drop 1 (take n z)
comment-first [] n some moves e = absurd (omega arith)
comment-first (b ∷ z) n some moves e =
    let is : b ≡ 35 = eqb-true b 35 e in
    let cut = take-first b n z moves in
    cut ∙ ap (λ c. c ∷ take (n - 1) z) is ∙ ap (λ t. 35 ∷ drop 1 t) (sym cut)

pub cut-comment : (z : Bytes) → 0 < length z → eqb (line_end z) 0 ≡ true → eqb (slice_index z 0) 35 ≡ true
    → Cut z (piece_of Comment (before_line_end z))
cut-comment z some none e =
    let moves : 1 ≤ before_line_end z = before-some z some (eqb-true _ 0 none) in
    record {
      moves = moves;
      within = before-fits z;
      fits = (
        comment-first z (before_line_end z) some moves e,
        before-whole z,
      );
    }

join-is : (z : Bytes) → 0 < length z → eqb (slice_index z 0) 92 ≡ true → Cut z (piece_of Join (1 + line_end (drop 1 z)))
join-is [] some e = absurd (omega arith)
join-is (b ∷ z) some e =
    let n : ℕ = 1 + line_end z in
    let cut : take n (b ∷ z) ≡ b ∷ take (n - 1) z = take-first b n z (omega arith) in
    let less : n - 1 ≡ line_end z = omega arith in
    let is : take n (b ∷ z) ≡ 92 ∷ take (line_end z) z = cut ∙ ap (λ m. b ∷ take m z) less
    ∙ ap (λ c. c ∷ take (line_end z) z) (eqb-true b 92 e) in
    record {
      moves = omega arith;
      within = omega (arith, line_end-fits z);
      fits = subst IsJoin (sym is) (refl, line_end-whole z);
    }

cut-joined : (z : Bytes) → 0 < length z → eqb (slice_index z 0) 92 ≡ true → Cut z (joined z)
cut-joined z some e =
    if_case (Cut z) (eqb (length z) 1 || not (eqb (line_end (drop 1 z)) 0)) _ _
    (λ h. join-is z some e)
    (λ h. cut-bad z 1 (omega arith) (omega arith))

cut-numeral : (z : Bytes) → 0 < length z → is_in Digit (slice_index z 0) ≡ true → is_in Number (slice_index z 0) ≡ true
    → Cut z (numeral z)
cut-numeral z some d w =
    let moves : 1 ≤ run Number z = run_some (is_in Number) z some w in
    if_case (Cut z) (is_number (take (run Number z) z)) _ _
    (λ h. record {
      moves = moves;
      within = run_fits (is_in Number) z;
      fits =
          (number-spells (take (run Number z) z) h, (λ e. cc), (λ e. cc));
    })
    (λ h. cut-bad z (run Number z) moves (run_fits (is_in Number) z))

cut-word : (z : Bytes) → 0 < length z → is_in Word (slice_index z 0) ≡ true → is_in Digit (slice_index z 0) ≡ false
    → Cut z (word z)
cut-word z some w d =
    let moves : 1 ≤ run Word z = run_some (is_in Word) z some w in
    if_case (Cut z) (is_keyword (take (run Word z) z)) _ _
    (λ h. record { moves = moves; within = run_fits (is_in Word) z; fits = (h, (λ e. cc), (λ e. cc)) })
    (λ h. record {
      moves = moves;
      within = run_fits (is_in Word) z;
      fits =
          ((name-spells z some w d, h), (λ e. cc), (λ e. cc));
    })

cut-text : (z : Bytes) → 0 < length z → (o : Option ℕ) → text_len z ≡ o → Cut z (text_piece o)
cut-text z some (Some n) e =
    record { moves = text-moves z n e; within = text-fits z n e; fits = (text-spells z n e, (λ e. cc), (λ e. cc)) }
cut-text z some None e = cut-bad z 1 (omega arith) (omega arith)

cut-mark : (z : Bytes) → 0 < length z → Cut z (mark z)
cut-mark z some =
    if_case (Cut z) (eqb (longest operators z) 0) _ _
    (λ h. cut-bad z 1 (omega arith) (omega arith))
    (λ h. record {
      moves = nonzero _ h;
      within = longest-fits operators z;
      fits =
          (operator-spells z h, (λ e. cc), (λ e. cc));
    })

pub digit-number : (b : ℕ) → is_in Digit b ≡ true → is_in Number b ≡ true
digit-number b e = or_left _ _ (or_left _ _ (or_left _ _ e))

pub zero-test : (v : Bool) → not v ≡ false → v ≡ true
zero-test true e = refl
zero-test false e = sym e

pub piece-cut : (z : Bytes) → 0 < length z → Cut z (piece z)
unfolding piece
piece-cut z some =
    if_case (Cut z) (not (eqb (line_end z) 0)) _ _ (λ e. cut-line z e) (λ none.
    if_case (Cut z) (eqb (slice_index z 0) 32) _ _ (λ e. cut-spaces z some e) (λ _.
    if_case (Cut z) (eqb (slice_index z 0) 9) _ _ (λ e. cut-tabs z some e) (λ _.
    if_case (Cut z) (eqb (slice_index z 0) 35) _ _ (λ e. cut-comment z some (zero-test _ none) e) (λ _.
    if_case (Cut z) (eqb (slice_index z 0) 92) _ _ (λ e. cut-joined z some e) (λ _.
    if_case (Cut z) (is_in Digit (slice_index z 0)) _ _ (λ e. cut-numeral z some e (digit-number (slice_index z 0) e))
    (λ d.
    if_case (Cut z) (is_in Word (slice_index z 0)) _ _ (λ e. cut-word z some e d) (λ _.
    if_case (Cut z) (eqb (slice_index z 0) 39 || eqb (slice_index z 0) 34) _ _ (λ e. cut-text z some (text_len z) refl)
    (λ _.
    cut-mark z some))))))))
