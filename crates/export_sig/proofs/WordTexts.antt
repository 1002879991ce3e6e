-- Blanks, words and fixed texts: what is read stands there, and what stands there is read.
use Rattle.std.proofs.Common.{◌≡◌, ℕ, ◌<◌, Bool, true, false, cond, eqb, List, [], ◌∷◌}
use Rattle.std.proofs.Common.{◌++◌, length, take, drop, Some, None, refl, sym, ap, ◌∙◌, arith}
use Rattle.std.proofs.Common.{inl, inr, ◌⊎◌}
use Rattle.std.specs.List.{list_all}
use Rattle.std.specs.Str.{bytes_eq}
use Rattle.std.proofs.lemmas.Bool.{eqb-true}
use Rattle.std.proofs.lemmas.List.{take-append-drop, take_at, drop_at}
use Rattle.py_lex.specs.Words.{is_name}
use Rattle.export_sig.specs.Blanks.{is_blank, AreBlanks, AreSomeBlanks, after_blanks}
use Rattle.export_sig.specs.Reading.{behind_byte, behind_text, behind_blanks, is_of_word, word_len, name_in}
use Rattle.export_sig.proofs.Tools.{chosen_some, some_is, both_true, both, either_true, text_is, same_text}
use Rattle.export_sig.proofs.Tools.{prefix_is}

-- ---- blanks

split_by : (b : ℕ) (ts : List ℕ) (t : Bool) → is_blank b ≡ t →
    ((bs : List ℕ) × (ts ≡ bs ++ after_blanks ts) × AreBlanks bs) → (bs : List ℕ) ×
    (b ∷ ts ≡ bs ++ cond t (after_blanks ts) (b ∷ ts)) × AreBlanks bs
split_by b ts true e h = (b ∷ h.0, ap (λ (us : List ℕ). b ∷ us) h.1, both (is_blank b) (list_all is_blank h.0) e h.2)
split_by b ts false e h = ([], refl, refl)

pub split_blanks : (ts : List ℕ) → (bs : List ℕ) × (ts ≡ bs ++ after_blanks ts) × AreBlanks bs
split_blanks [] = ([], refl, refl)
split_blanks (b ∷ ts) = split_by b ts (is_blank b) refl (split_blanks ts)

pub skip : (bs rest : List ℕ) → AreBlanks bs → after_blanks (bs ++ rest) ≡ after_blanks rest
skip [] rest h = refl
skip (b ∷ bs) rest h =
    let p = both_true (is_blank b) (list_all is_blank bs) h in
    ap (λ (t : Bool). cond t (after_blanks (bs ++ rest)) (b ∷ (bs ++ rest))) p.0 ∙ skip bs rest p.1

pub stays : (b : ℕ) (ts : List ℕ) → is_blank b ≡ false → after_blanks (b ∷ ts) ≡ b ∷ ts
stays b ts e = ap (λ (t : Bool). cond t (after_blanks ts) (b ∷ ts)) e

pub skip_to : (bs : List ℕ) (b : ℕ) (rest : List ℕ) → AreBlanks bs → is_blank b ≡ false → after_blanks
    (bs ++ b ∷ rest) ≡ b ∷ rest
skip_to bs b rest h e = skip bs (b ∷ rest) h ∙ stays b rest e

pub blanks_took : (ts rest : List ℕ) → behind_blanks ts ≡ Some rest → (bs : List ℕ) × (ts ≡ bs ++ rest)
    × AreSomeBlanks bs
blanks_took [] rest e = absurd cc
blanks_took (b ∷ ts) rest e =
    let t = chosen_some (is_blank b) (Some (after_blanks ts)) rest e in
    let s = split_blanks ts in (
      b ∷ s.0,
      ap (λ (us : List ℕ). b ∷ us) (s.1 ∙ ap (λ (us : List ℕ). s.0 ++ us) (some_is (after_blanks ts) rest t.1)),
      (omega arith, both (is_blank b) (list_all is_blank s.0) t.0 s.2),
    )

pub blanks_read : (bs rest : List ℕ) → AreSomeBlanks bs → behind_blanks (bs ++ rest) ≡ Some (after_blanks rest)
blanks_read [] rest h = let lt : 0 < 0 = h.0 in absurd (omega arith)
blanks_read (b ∷ bs) rest h =
    let p = both_true (is_blank b) (list_all is_blank bs) h.1 in
    ap (λ (t : Bool). cond t (Some (after_blanks (bs ++ rest))) None) p.0 ∙ ap (λ (us : List ℕ). Some us)
    (skip bs rest p.1)

-- ---- fixed texts

pub byte_took : (b : ℕ) (us rest : List ℕ) → behind_byte b us ≡ Some rest → us ≡ b ∷ rest
byte_took b [] rest e = absurd cc
byte_took b (c ∷ us) rest e =
    let t = chosen_some (eqb c b) (Some us) rest e in
    let c_is : c ≡ b = eqb-true c b t.0 in
    let us_is : us ≡ rest = some_is us rest t.1 in cc

pub text_took : (own us rest : List ℕ) → behind_text own us ≡ Some rest → us ≡ own ++ rest
unfolding behind_text
text_took own us rest e =
    let t = chosen_some (bytes_eq (take (length own) us) own) (Some (drop (length own) us)) rest e in
    let front : take (length own) us ≡ own = text_is (take (length own) us) own t.0 in
    let back : drop (length own) us ≡ rest = some_is _ _ t.1 in
    sym (take-append-drop (length own) us) ∙ ap (λ (x : List ℕ). x ++ drop (length own) us) front ∙ ap
    (λ (x : List ℕ). own ++ x) back

pub text_read : (own rest : List ℕ) → behind_text own (own ++ rest) ≡ Some rest
unfolding behind_text
text_read own rest = rw (take_at own rest (length own) refl, drop_at own rest (length own) refl, same_text own) refl

-- ---- names

name_by : (ts : List ℕ) (p : List ℕ × List ℕ) → cond (is_name (take (word_len ts) ts))
    (Some (take (word_len ts) ts, drop (word_len ts) ts)) None ≡ Some p → (ts ≡ p.0 ++ p.1) × (is_name p.0 ≡ true)
name_by ts p e =
    let t = chosen_some (is_name (take (word_len ts) ts)) (Some (take (word_len ts) ts, drop (word_len ts) ts)) p e in
    let q : (take (word_len ts) ts, drop (word_len ts) ts) ≡ p = some_is _ p t.1 in (
      sym (take-append-drop (word_len ts) ts) ∙ ap (λ (r : List ℕ × List ℕ). r.0 ++ r.1) q,
      sym (ap (λ (r : List ℕ × List ℕ). is_name r.0) q) ∙ t.0,
    )

pub name_took : (ts : List ℕ) (p : List ℕ × List ℕ) → name_in ts ≡ Some p → (ts ≡ p.0 ++ p.1) × (is_name p.0 ≡ true)
unfolding name_in
name_took ts p e = name_by ts p e

pub all_of_word : (w : List ℕ) → is_name w ≡ true → list_all is_of_word w ≡ true
unfolding is_name
all_of_word w h = (both_true _ _ (both_true _ _ h).1).1

pub word_at : (w rest : List ℕ) → list_all is_of_word w ≡ true → word_len rest ≡ 0 → word_len (w ++ rest) ≡ length w
word_at w rest all ends = prefix_is is_of_word w rest all ends

pub name_read : (w rest : List ℕ) → is_name w ≡ true → word_len rest ≡ 0 → name_in (w ++ rest) ≡ Some (w, rest)
unfolding name_in
name_read w rest h ends =
    let n : word_len (w ++ rest) ≡ length w = word_at w rest (all_of_word w h) ends in
    rw (n, take_at w rest (length w) refl, drop_at w rest (length w) refl, h) refl

-- a word ends at a byte that is of no word
pub word_ends : (b : ℕ) (rest : List ℕ) → is_of_word b ≡ false → word_len (b ∷ rest) ≡ 0
word_ends b rest e = rw e refl

blank_by : (b : ℕ) → (b ≡ 32) ⊎ (b ≡ 9) → is_of_word b ≡ false
blank_by b (inl e) = ap is_of_word e
blank_by b (inr e) = ap is_of_word e

blank_codes : (b : ℕ) → (eqb b 32 ≡ true) ⊎ (eqb b 9 ≡ true) → (b ≡ 32) ⊎ (b ≡ 9)
blank_codes b (inl e) = inl (eqb-true b 32 e)
blank_codes b (inr e) = inr (eqb-true b 9 e)

pub blank_ends : (b : ℕ) → is_blank b ≡ true → is_of_word b ≡ false
blank_ends b e = blank_by b (blank_codes b (either_true (eqb b 32) (eqb b 9) e))

-- blanks end a word, and so does what stands behind them where there are none
pub ends_at_blanks : (bs rest : List ℕ) → AreBlanks bs → word_len rest ≡ 0 → word_len (bs ++ rest) ≡ 0
ends_at_blanks [] rest h e = e
ends_at_blanks (b ∷ bs) rest h e = word_ends b (bs ++ rest)
    (blank_ends b (both_true (is_blank b) (list_all is_blank bs) h).0)
