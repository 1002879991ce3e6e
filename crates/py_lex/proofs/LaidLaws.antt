-- The layout puts tokens in turn: its columns are open, its line is begun or not, and its notes are those among the
-- pieces.
use Rattle.std.proofs.Common.{◌≡◌, ℕ, zero, suc, ◌+◌, ◌-◌, ◌<◌, ◌≤◌, ◌⊎◌, inl, inr, Bool, true, false, cond, eqb}
use Rattle.std.proofs.Common.{nat_lt, IsTrue, ◌&&◌}
use Rattle.std.proofs.Common.{List, [], ◌∷◌, ◌++◌, length, take, drop, slice_index, Option, Some, None, Result, Ok, Err}
use Rattle.std.proofs.Common.{refl, ap, sym, subst}
use Rattle.std.proofs.Common.{◌∙◌, append_assoc, append-nil, arith}
use Rattle.std.proofs.lemmas.Bool.{false≢true, eqb-true, ltb-true}
use Rattle.std.specs.List.{AllByRecursion}
use Rattle.krn_base.specs.declared.place.Loc.{Loc}
use Rattle.py_lex.specs.declared.token.TokenKind.{TokenKind}
use Rattle.py_lex.specs.declared.token.TokenKind.TheVariants as k
use Rattle.py_lex.specs.declared.token.Token.{Token}
use Rattle.py_lex.specs.declared.piece.Class.{Class}
use Rattle.py_lex.specs.declared.piece.Class.TheVariants as class
use Rattle.py_lex.specs.declared.place.Place.{Place}
use Rattle.py_lex.specs.declared.layout.Line.{Line}
use Rattle.py_lex.specs.declared.layout.Line.TheVariants.{Fresh, Inside}
use Rattle.py_lex.specs.Bytes.{Bytes}
use Rattle.py_lex.specs.Words.{is_note}
use Rattle.py_lex.specs.Layout as spec
use Rattle.py_lex.specs.Layout.{State, Outcome, and_then, start, passed, last_of, kept, token_at}
use Rattle.py_lex.specs.Laws.{IsWritten, Margin, Spaces, margin_from, IsIndented, is_inside, Closes, Turn, Turns}
use Rattle.py_lex.specs.Laws.{is_newline, kind_before}
use Rattle.py_lex.specs.Laws.{note_at, notes_among}
use Rattle.py_lex.proofs.Choices.{if_case, by_test}
use Rattle.py_lex.proofs.GoodLaws.{all-snoc, refused-ok, ok-same, and_then-ok, put-puts}
use Rattle.py_lex.proofs.MarginLaws.{IsSettled, Breaks, Margins, margin-append}
use Rattle.py_lex.proofs.BlockLaws.{Rising, rising-snoc, rising-take, kept-fits, beyond, take-next, take-whole}
use Rattle.py_lex.proofs.BlockLaws.{turns-snoc, turns-last}
use Rattle.py_lex.proofs.BlockLaws.{total, among-more, among-snoc, total-snoc, last-snoc}

-- What stands at a place between pieces: the tokens so far with more of them, which end from the place on and up to
-- another; the columns that their turns have left open may be fewer than the layout's.
pub record Now (source : Bytes) (p : Place) (reach : ℕ) (old notes : List Token) (indents columns : List ℕ)
    (last : TokenKind) (s : State) : Type 0 where
  pub turns : Turns source k.Newline [] s.tokens last columns
  pub more : List Token
  pub grown : s.tokens ≡ old ++ more
  pub ends : AllByRecursion (λ t. (p.offset ≤ t.end) × (t.end ≤ reach)) more
  pub place : s.place ≡ p
  pub same_notes : s.notes ≡ notes
  pub same_indents : s.indents ≡ indents

module _ (source : Bytes) (p : Place) (reach : ℕ) (old notes : List Token) (indents : List ℕ) where
  abbrev pub Here : List ℕ → TokenKind → State → Type 0
  Here columns last s = Now source p reach old notes indents columns last s

  pub put-here : (kind : TokenKind) (text : Bytes) (s t : State) (columns left : List ℕ) (last : TokenKind)
      → Here columns last s
      → spec.put kind text s ≡ Ok t → Turn source last columns kind p.offset left → p.offset + length text ≤ reach
      → Here left kind t
  put-here kind text s t columns left last h e turn within =
      let puts = put-puts kind text s t e in
      let P : State → Type 0 = λ u. Here left kind u in
      let Q : Place → Type 0 = λ q. Here left kind (record s { tokens = s.tokens ++ token_at kind text q ∷ [] }) in
      let x : Token = token_at kind text p in
      subst P puts.is (subst Q (sym h.place) (record {
        turns = turns-snoc source k.Newline [] s.tokens last columns x left h.turns turn;
        more = h.more ++ x ∷ [];
        grown = ap (λ ts. ts ++ x ∷ []) h.grown ∙ append_assoc old h.more (x ∷ []);
        ends = all-snoc (λ (t : Token). (p.offset ≤ t.end) × (t.end ≤ reach)) h.more x h.ends (omega arith, within);
        place = h.place;
        same_notes = h.same_notes;
        same_indents = h.same_indents;
      }))

  -- Dedents close the columns from the last down to `count`
  pub record Closed (count : ℕ) (ready : TokenKind → Type 0) (s : State) : Type 0 where
    pub last : TokenKind
    pub here : Here (take count indents) last s
    pub ready_still : ready last

  pub dedents-here : (j count : ℕ) (s t : State) (last : TokenKind) (ready : TokenKind → Type 0) → p.offset ≤ reach
      → ((i : ℕ) → count ≤ i → i < length indents → (before : TokenKind) → ready before
      → Closes source before p.offset (slice_index indents i))
      → ready k.Dedent → ready last → count + j ≤ length indents → Here (take (count + j) indents) last s
      → spec.put_dedents j s ≡ Ok t
      → Closed count ready t
  unfolding spec.put_dedents
  dedents-here zero count s t last ready within closes again now fits h e =
      let same : count + 0 ≡ count = omega arith in
      let P : State → Type 0 = λ u. Closed count ready u in
      subst P (ok-same s t e)
      (record { last = last; here = subst (λ n. Here (take n indents) last s) same h; ready_still = now })
  dedents-here (suc j) count s t last ready within closes again now fits h e =
      let m = and_then-ok (spec.put k.Dedent [] s) (spec.put_dedents j) t e in
      let i : ℕ = count + j in
      let below : i < length indents = omega arith in
      let next : count + suc j ≡ suc (count + j) = omega arith in
      let columns : take (count + suc j) indents ≡ take i indents ++ slice_index indents i ∷ [] =
      ap (λ n. take n indents) next ∙ take-next i indents below in
      let turn : Turn source last (take (count + suc j) indents) k.Dedent p.offset (take i indents) =
      (slice_index indents i, columns, closes i (omega arith) below last now) in
      let here = put-here k.Dedent [] s m.0 (take (count + suc j) indents) (take i indents) last h m.1 turn
      (omega arith) in
      dedents-here j count m.0 t k.Dedent ready within closes again again (omega arith) here m.2

-- ---- before a token

-- the margin of a line that no token has begun
abbrev pub LeadsBy : Margin → Line → Type 0
LeadsBy m Inside = Unit {0}
LeadsBy m (Fresh n None) = m ≡ Spaces n
LeadsBy m (Fresh n (Some tab)) = Unit {0}

abbrev pub margin_at : Bytes → ℕ → Margin
margin_at source at = margin_from (Spaces 0) (take at source)

-- whether a token of its line stands before
abbrev pub Follows : Line → TokenKind → Type 0
Follows Inside last = IsTrue (is_inside last)
Follows (Fresh n tab) last = last ≡ k.Newline

-- the columns and the last token when a line's first token is due
pub record Opened (source : Bytes) (p : Place) (old notes : List Token) (s : State) : Type 0 where
  pub last : TokenKind
  pub here : Now source p p.offset old notes s.indents s.indents last s
  pub rising : Rising s.indents
  pub stands : IsTrue (is_inside last) ⊎ IsIndented source p.offset (last_of s.indents)

abbrev IsReady : TokenKind → Type 0
IsReady last = (last ≡ k.Newline) ⊎ (last ≡ k.Dedent)

-- the place up to which tokens may end can be further on
all-further : (ts : List Token) (from reach far : ℕ) → reach ≤ far
    → AllByRecursion (λ t. (from ≤ t.end) × (t.end ≤ reach)) ts
    → AllByRecursion (λ t. (from ≤ t.end) × (t.end ≤ far)) ts
all-further [] from reach far le all = tt
all-further (t ∷ ts) from reach far le all =
    let end : t.end ≤ reach = all.0.1 in
    let within : t.end ≤ far = omega arith in ((all.0.0, within), all-further ts from reach far le all.1)

further : (source : Bytes) (p : Place) (old notes : List Token) (indents columns : List ℕ) (last : TokenKind)
    (s : State) (far : ℕ)
    → p.offset ≤ far → Now source p p.offset old notes indents columns last s
    → Now source p far old notes indents columns last s
further source p old notes indents columns last s far le h = record {
  turns = h.turns;
  more = h.more;
  grown = h.grown;
  ends = all-further h.more p.offset p.offset far le h.ends;
  place = h.place;
  same_notes = h.same_notes;
  same_indents = h.same_indents;
}

reindented : (source : Bytes) (p : Place) (old notes : List Token) (xs columns : List ℕ) (last : TokenKind) (s : State)
    (indents : List ℕ)
    → Now source p p.offset old notes xs columns last s → columns ≡ indents
    → Now source p p.offset old notes indents indents last (spec.with_indents indents s)
reindented source p old notes xs columns last s indents h e = record {
  turns = subst (λ (c : List ℕ). Turns source k.Newline [] s.tokens last c) e h.turns;
  more = h.more;
  grown = h.grown;
  ends = h.ends;
  place = h.place;
  same_notes = h.same_notes;
  same_indents = refl;
}

module _ (source : Bytes) (p : Place) where
  abbrev Start : State → TokenKind → Type 0
  Start s last = Now source p p.offset s.tokens s.notes s.indents s.indents last s

  dedented-here : (n : ℕ) (s t : State) (last : TokenKind) → Start s last → Rising s.indents → last ≡ k.Newline
      → IsIndented source p.offset n
      → spec.dedented n s ≡ Ok t → Opened source p s.tokens s.notes t
  unfolding spec.dedented
  dedented-here n s t last h rising is indented e =
      let xs : List ℕ = s.indents in
      let count : ℕ = kept n xs in
      let put = spec.put_dedents (length xs - count) s in
      let f : State → Outcome = λ u. Ok (spec.with_indents (take count u.indents) u) in
      let fits : count ≤ length xs = kept-fits n xs in
      let all : count + (length xs - count) ≡ length xs = omega (arith, fits) in
      by_test (eqb (last_of (take count xs)) n)
      (λ v.
      let m = and_then-ok put f t (sym (ap (λ (x : Bool). cond x (and_then put f) (Err s.place.loc)) v) ∙ e) in
      let whole : take (count + (length xs - count)) xs ≡ xs = ap (λ i. take i xs) all ∙ take-whole xs in
      let first = subst (λ (c : List ℕ). Now source p p.offset s.tokens s.notes xs c last s) (sym whole) h in
      let closes : (i : ℕ) → count ≤ i → i < length xs → (before : TokenKind) → IsReady before
      → Closes source before p.offset (slice_index xs i) =
      λ i from below before ready. inr (n, ready, indented, beyond n xs i rising from below) in
      let closed = dedents-here source p p.offset s.tokens s.notes xs (length xs - count) count s m.0 last
      (λ before. IsReady before) (omega arith)
      closes (inr refl) (inl is) (omega (arith, all)) first m.1 in
      let cut : take count m.0.indents ≡ take count xs = ap (take count) closed.here.same_indents in
      let P : State → Type 0 = λ u. Opened source p s.tokens s.notes u in
      subst P (ok-same (spec.with_indents (take count m.0.indents) m.0) t m.2) (record {
        last = closed.last;
        here = reindented source p s.tokens s.notes xs (take count xs) closed.last m.0
            (take count m.0.indents) closed.here (sym cut);
        rising = subst (λ (c : List ℕ). Rising c) (sym cut) (rising-take count xs rising);
        stands = inr (subst (λ (c : List ℕ). IsIndented source p.offset (last_of c)) (sym cut)
            (subst (λ i. IsIndented source p.offset i) (sym (eqb-true (last_of (take count xs)) n v)) indented));
      }))
      (λ v. refused-ok s.place.loc t (sym (ap (λ (x : Bool). cond x (and_then put f) (Err s.place.loc)) v) ∙ e))

  indented-here : (n : ℕ) (s t : State) (last : TokenKind) → Start s last → Rising s.indents → last ≡ k.Newline
      → IsIndented source p.offset n
      → spec.indented n s ≡ Ok t → Opened source p s.tokens s.notes t
  unfolding spec.indented
  indented-here n s t last h rising is indented e =
      let put = spec.put k.Indent [] s in
      let f : State → Outcome = λ u. Ok (spec.with_indents (u.indents ++ n ∷ []) u) in
      by_test (nat_lt (last_of s.indents) n)
      (λ v.
      let m = and_then-ok put f t (sym (ap (λ (x : Bool). cond x (and_then put f) (spec.dedented n s)) v) ∙ e) in
      let less : last_of s.indents < n = ltb-true (last_of s.indents) n v in
      let columns : List ℕ = s.indents ++ n ∷ [] in
      let here = put-here source p p.offset s.tokens s.notes s.indents k.Indent [] s m.0 s.indents columns last h m.1
      (n, is, indented, less, refl) (omega arith) in
      let same : columns ≡ m.0.indents ++ n ∷ [] = ap (λ (c : List ℕ). c ++ n ∷ []) (sym here.same_indents) in
      let P : State → Type 0 = λ u. Opened source p s.tokens s.notes u in
      let deepest : last_of columns ≡ n = last-snoc s.indents n in
      subst P (ok-same (spec.with_indents (m.0.indents ++ n ∷ []) m.0) t m.2) (record {
        last = k.Indent;
        here = reindented source p s.tokens s.notes s.indents columns k.Indent m.0 (m.0.indents ++ n ∷ []) here same;
        rising = subst (λ (c : List ℕ). Rising c) same (rising-snoc s.indents n rising less);
        stands = inr (subst (λ (c : List ℕ). IsIndented source p.offset (last_of c)) same
            (subst (λ i. IsIndented source p.offset i) (sym deepest) indented));
      }))
      (λ v.
      dedented-here n s t last h rising is indented
      (sym (ap (λ (x : Bool). cond x (and_then put f) (spec.dedented n s)) v) ∙ e))

  opened-here : (s t : State) (line : Line) (last : TokenKind) → Start s last → Rising s.indents → Follows line last
      → LeadsBy (margin_at source p.offset) line
      → spec.opened s line ≡ Ok t → Opened source p s.tokens s.notes t
  unfolding spec.opened
  opened-here s t Inside last h rising follows leads e =
      let P : State → Type 0 = λ u. Opened source p s.tokens s.notes u in
      subst P (ok-same s t e) (record { last = last; here = h; rising = rising; stands = inl follows })
  opened-here s t (Fresh n (Some tab)) last h rising follows leads e = refused-ok tab t e
  opened-here s t (Fresh n None) last h rising follows leads e = indented-here n s t last h rising follows leads e

turn-written : (source : Bytes) (before : TokenKind) (columns : List ℕ) (kind : TokenKind) (at : ℕ) → IsWritten kind
    → IsTrue (is_inside before) ⊎ IsIndented source at (last_of columns) → Turn source before columns kind at columns
turn-written source before columns k.Name at written h = (refl, h)
turn-written source before columns k.Keyword at written h = (refl, h)
turn-written source before columns k.Number at written h = (refl, h)
turn-written source before columns k.Op at written h = (refl, h)
turn-written source before columns k.Text at written h = (refl, h)
turn-written source before columns _ at written h = absurd written

written-inside : (kind : TokenKind) → IsWritten kind → IsTrue (is_inside kind)
written-inside k.Name written = refl
written-inside k.Keyword written = refl
written-inside k.Number written = refl
written-inside k.Op written = refl
written-inside k.Text written = refl
written-inside _ written = absurd written

inside-newline : (kind : TokenKind) → IsTrue (is_inside kind) → is_newline kind ≡ false
inside-newline k.Newline inside = absurd (false≢true inside)
inside-newline _ inside = refl

never : (v : Bool) (note : List Token) → cond (v && false) note [] ≡ []
never true note = refl
never false note = refl

once : (v : Bool) (note : List Token) → cond (v && true) note [] ≡ cond v note []
once true note = refl
once false note = refl

-- ---- what a piece leaves

-- behind a piece: its tokens, the line that has begun, and the note that it is
pub record Left (source : Bytes) (p : Place) (reach : ℕ) (s : State) (kind : Class) (text : Bytes)
    (t : State) : Type 0 where
  pub last : TokenKind
  pub turns : Turns source k.Newline [] t.tokens last t.indents
  pub rising : Rising t.indents
  pub follows : Follows t.line last
  pub more : List Token
  pub grown : t.tokens ≡ s.tokens ++ more
  pub ends : AllByRecursion (λ t. (p.offset ≤ t.end) × (t.end ≤ reach)) more
  pub noted : t.notes ≡ s.notes ++ note_at source t.tokens p.offset kind text
  pub place : t.place ≡ p

module _ (source : Bytes) (p : Place) where
  solid-left : (kind : TokenKind) (text : Bytes) (s t : State) (last : TokenKind) → IsWritten kind
      → Start source p s last → Rising s.indents
      → Follows s.line last → LeadsBy (margin_at source p.offset) s.line → spec.solid kind text s ≡ Ok t
      → Left source p (p.offset + length text) s (class.Solid kind) text t
  unfolding spec.solid
  solid-left kind text s t last written h rising follows leads e =
      let g : State → Outcome = λ u. Ok (record u { line = Inside; depth = spec.depth_after text u.depth }) in
      let m = and_then-ok (spec.opened s s.line) (λ u. and_then (spec.put kind text u) g) t e in
      let n = and_then-ok (spec.put kind text m.0) g t m.2 in
      let o = opened-here source p s m.0 s.line last h rising follows leads m.1 in
      let reach : ℕ = p.offset + length text in
      let here = put-here source p reach s.tokens s.notes m.0.indents kind text m.0 n.0 m.0.indents m.0.indents o.last
      (further source p s.tokens s.notes m.0.indents m.0.indents o.last m.0 reach (omega arith) o.here) n.1
      (turn-written source o.last m.0.indents kind p.offset written o.stands) (omega arith) in
      let P : State → Type 0 = λ u. Left source p reach s (class.Solid kind) text u in
      subst P (ok-same (record n.0 { line = Inside; depth = spec.depth_after text n.0.depth }) t n.2) (record {
        last = kind;
        turns = subst (λ (c : List ℕ). Turns source k.Newline [] n.0.tokens kind c) (sym here.same_indents) here.turns;
        rising = subst (λ (c : List ℕ). Rising c) (sym here.same_indents) o.rising;
        follows = written-inside kind written;
        more = here.more;
        grown = here.grown;
        ends = here.ends;
        noted = here.same_notes ∙ sym (append-nil s.notes);
        place = here.place;
      })

  -- a piece that puts nothing, and may begin another line
  still-left : (kind : Class) (text : Bytes) (s : State) (line : Line) (last : TokenKind) (reach : ℕ)
      → Start source p s last → Rising s.indents
      → Follows line last → note_at source s.tokens p.offset kind text ≡ []
      → Left source p reach s kind text (spec.with_line line s)
  still-left kind text s line last reach h rising follows none = record {
    last = last;
    turns = h.turns;
    rising = rising;
    follows = follows;
    more = [];
    grown = sym (append-nil s.tokens);
    ends = tt;
    noted = sym (append-nil s.notes) ∙ ap (λ ns. s.notes ++ ns) (sym none);
    place = h.place;
  }

  pub ended-left : (text : Bytes) (s t : State) (line : Line) (last : TokenKind) → s.line ≡ line
      → Start source p s last → Rising s.indents
      → Follows line last → spec.ended text s line ≡ Ok t
      → Left source p (p.offset + length text) s class.LineEnd text t
  unfolding spec.ended
  ended-left text s t Inside last same h rising follows e =
      let put = spec.put k.Newline text s in
      let f : State → Outcome = λ u. Ok (spec.with_line (Fresh 0 None) u) in
      let reach : ℕ = p.offset + length text in
      let P : State → Type 0 = λ u. Left source p reach s class.LineEnd text u in
      by_test (eqb s.depth 0)
      (λ v.
      let m = and_then-ok put f t (sym (ap (λ (x : Bool). cond x (and_then put f) (Ok s)) v) ∙ e) in
      let here = put-here source p reach s.tokens s.notes s.indents k.Newline text s m.0 s.indents s.indents last
      (further source p s.tokens s.notes s.indents s.indents last s reach (omega arith) h) m.1 (refl, follows)
      (omega arith) in
      subst P (ok-same (spec.with_line (Fresh 0 None) m.0) t m.2) (record {
        last = k.Newline;
        turns = subst (λ (c : List ℕ). Turns source k.Newline [] m.0.tokens k.Newline c)
            (sym here.same_indents) here.turns;
        rising = subst (λ (c : List ℕ). Rising c) (sym here.same_indents) rising;
        follows = refl;
        more = here.more;
        grown = here.grown;
        ends = here.ends;
        noted = here.same_notes ∙ sym (append-nil s.notes);
        place = here.place;
      }))
      (λ v.
      let is : s ≡ t = ok-same s t (sym (ap (λ (x : Bool). cond x (and_then put f) (Ok s)) v) ∙ e) in
      subst P is (record {
        last = last;
        turns = h.turns;
        rising = rising;
        follows = subst (λ (l : Line). Follows l last) (sym same) follows;
        more = [];
        grown = sym (append-nil s.tokens);
        ends = tt;
        noted = sym (append-nil s.notes);
        place = h.place;
      }))
  ended-left text s t (Fresh n tab) last same h rising follows e =
      let P : State → Type 0 = λ u. Left source p (p.offset + length text) s class.LineEnd text u in
      subst P (ok-same (spec.with_line (Fresh 0 None) s) t e)
      (still-left class.LineEnd text s (Fresh 0 None) last (p.offset + length text) h rising follows refl)

  commented-left : (text : Bytes) (s : State) (line : Line) (last : TokenKind) → s.line ≡ line → Start source p s last
      → Rising s.indents
      → Follows line last → kind_before k.Newline s.tokens p.offset ≡ last → p ≡ passed start (take p.offset source)
      → Left source p (p.offset + length text) s class.Comment text (spec.commented text s line)
  unfolding spec.commented
  commented-left text s Inside last same h rising follows before placed =
      let inside : is_newline (kind_before k.Newline s.tokens p.offset) ≡ false =
      ap (λ (x : TokenKind). is_newline x) before ∙ inside-newline last follows in
      let note : List Token = token_at k.Note text (passed start (take p.offset source)) ∷ [] in
      let none : note_at source s.tokens p.offset class.Comment text ≡ [] =
      ap (λ (v : Bool). cond (is_note text && v) note []) inside ∙ never (is_note text) note in
      record {
        last = last;
        turns = h.turns;
        rising = rising;
        follows = subst (λ (l : Line). Follows l last) (sym same) follows;
        more = [];
        grown = sym (append-nil s.tokens);
        ends = tt;
        noted = sym (append-nil s.notes) ∙ ap (λ ns. s.notes ++ ns) (sym none);
        place = h.place;
      }
  commented-left text s (Fresh n tab) last same h rising follows before placed =
      let newline : is_newline (kind_before k.Newline s.tokens p.offset) ≡ true =
      ap (λ (x : TokenKind). is_newline x) (before ∙ follows) in
      let note : List Token = token_at k.Note text (passed start (take p.offset source)) ∷ [] in
      let is : note_at source s.tokens p.offset class.Comment text ≡ cond (is_note text) note [] =
      ap (λ (v : Bool). cond (is_note text && v) note []) newline ∙ once (is_note text) note in
      let own : ◌≡◌ {A = List Token} (token_at k.Note text s.place ∷ []) note =
      ap (λ (q : Place). token_at k.Note text q ∷ []) (h.place ∙ placed) in
      if_case (λ (u : State). Left source p (p.offset + length text) s class.Comment text u) (is_note text) _ _
      (λ v. record {
        last = last;
        turns = h.turns;
        rising = rising;
        follows = subst (λ (l : Line). Follows l last) (sym same) follows;
        more = [];
        grown = sym (append-nil s.tokens);
        ends = tt;
        noted = ap (λ ns. s.notes ++ ns) (own ∙ sym (is ∙ ap (λ (x : Bool). cond x note []) v));
        place = h.place;
      })
      (λ v. record {
        last = last;
        turns = h.turns;
        rising = rising;
        follows = subst (λ (l : Line). Follows l last) (sym same) follows;
        more = [];
        grown = sym (append-nil s.tokens);
        ends = tt;
        noted = sym (append-nil s.notes) ∙ ap (λ ns. s.notes ++ ns) (sym (is ∙ ap (λ (x : Bool). cond x note []) v));
        place = h.place;
      })

-- ---- the line behind a piece

pub ended-line : (text : Bytes) (s t : State) (line : Line) → s.line ≡ line → spec.ended text s line ≡ Ok t
    → (t.line ≡ Inside) ⊎ (t.line ≡ Fresh 0 None)
unfolding spec.ended
ended-line text s t Inside same e =
    let put = spec.put k.Newline text s in
    let f : State → Outcome = λ u. Ok (spec.with_line (Fresh 0 None) u) in
    by_test (eqb s.depth 0)
    (λ v.
    let m = and_then-ok put f t (sym (ap (λ (x : Bool). cond x (and_then put f) (Ok s)) v) ∙ e) in
    inr (ap (λ (u : State). u.line) (sym (ok-same (spec.with_line (Fresh 0 None) m.0) t m.2))))
    (λ v.
    let is : s ≡ t = ok-same s t (sym (ap (λ (x : Bool). cond x (and_then put f) (Ok s)) v) ∙ e) in
    inl (ap (λ (u : State). u.line) (sym is) ∙ same))
ended-line text s t (Fresh n tab) same e =
    inr (ap (λ (u : State). u.line) (sym (ok-same (spec.with_line (Fresh 0 None) s) t e)))

pub solid-line : (kind : TokenKind) (text : Bytes) (s t : State) → spec.solid kind text s ≡ Ok t → t.line ≡ Inside
unfolding spec.solid
solid-line kind text s t e =
    let g : State → Outcome = λ u. Ok (record u { line = Inside; depth = spec.depth_after text u.depth }) in
    let m = and_then-ok (spec.opened s s.line) (λ u. and_then (spec.put kind text u) g) t e in
    let n = and_then-ok (spec.put kind text m.0) g t m.2 in
    ap (λ (u : State). u.line)
    (sym (ok-same (record n.0 { line = Inside; depth = spec.depth_after text n.0.depth }) t n.2))

spaced-leads : (line : Line) (m : Margin) (text : Bytes) → LeadsBy m line
    → ((n : ℕ) → margin_from (Spaces n) text ≡ Spaces (n + length text))
    → LeadsBy (margin_from m text) (spec.spaced (length text) line)
spaced-leads Inside m text leads own = tt
spaced-leads (Fresh n (Some tab)) m text leads own = tt
spaced-leads (Fresh n None) m text leads own = ap (λ x. margin_from x text) leads ∙ own n

tabbed-leads : (line : Line) (m : Margin) (at : Loc) → LeadsBy m (spec.tabbed at line)
tabbed-leads Inside m at = tt
tabbed-leads (Fresh n (Some tab)) m at = tt
tabbed-leads (Fresh n None) m at = tt

joined-leads : (line : Line) (m : Margin) (text rest : Bytes) → LeadsBy m line
    → ((n : ℕ) → (margin_from (Spaces n) text ≡ Spaces n) ⊎ (length rest ≡ 0))
    → LeadsBy (margin_from m text) line ⊎ Breaks rest
joined-leads Inside m text rest leads own = inl tt
joined-leads (Fresh n (Some tab)) m text rest leads own = inl tt
joined-leads (Fresh n None) m text rest leads own =
    elim (own n) [
      | inl e ↦ inl (ap (λ x. margin_from x text) leads ∙ e)
      | inr e ↦ inr (inl e)
    ]

lead-after : (kind : Class) (text y rest : Bytes) (s t : State) (m : Margin) → IsSettled m → LeadsBy m s.line ⊎ Breaks y
    → (Breaks y → kind ≡ class.LineEnd) → Margins kind text rest → spec.done kind text s ≡ Ok t
    → LeadsBy (margin_from m text) t.line ⊎ Breaks rest
unfolding spec.done
lead-after class.Spaces text y rest s t m settled (inl leads) breaks own e =
    inl (subst (λ (u : State). LeadsBy (margin_from m text) u.line)
    (ok-same (spec.with_line (spec.spaced (length text) s.line) s) t e)
    (spaced-leads s.line m text leads own.1))
lead-after class.Spaces text y rest s t m settled (inr b) breaks own e = let bad = breaks b in absurd cc
lead-after class.Tabs text y rest s t m settled leads breaks own e =
    inl (subst (λ (u : State). LeadsBy (margin_from m text) u.line)
    (ok-same (spec.with_line (spec.tabbed s.place.loc s.line) s) t e)
    (tabbed-leads s.line (margin_from m text) s.place.loc))
lead-after class.LineEnd text y rest s t m settled leads breaks own e =
    let P : Line → Type 0 = λ line. LeadsBy (margin_from m text) line in
    elim (ended-line text s t s.line refl e) [
      | inl is ↦ inl (subst P (sym is) tt)
      | inr is ↦ inl (subst P (sym is) (own m settled))
    ]
lead-after class.Join text y rest s t m settled (inl leads) breaks own e =
    subst (λ (u : State). LeadsBy (margin_from m text) u.line ⊎ Breaks rest) (ok-same s t e)
    (joined-leads s.line m text rest leads own.1)
lead-after class.Join text y rest s t m settled (inr b) breaks own e = let bad = breaks b in absurd cc
lead-after class.Comment text y rest s t m settled leads breaks own e = inr own.1
lead-after class.Bad text y rest s t m settled leads breaks own e = refused-ok (spec.refused_at s.place s.line) t e
lead-after (class.Solid kind) text y rest s t m settled leads breaks own e =
    inl (subst (λ (line : Line). LeadsBy (margin_from m text) line) (sym (solid-line kind text s t e)) tt)

settle-after : (kind : Class) (text rest : Bytes) (s t : State) (m : Margin) → IsSettled m → Margins kind text rest
    → spec.done kind text s ≡ Ok t → IsSettled (margin_from m text) ⊎ (length rest ≡ 0)
unfolding spec.done
settle-after class.Spaces text rest s t m settled own e = own.0 m settled
settle-after class.Tabs text rest s t m settled own e = own m settled
settle-after class.LineEnd text rest s t m settled own e = inl (subst IsSettled (sym (own m settled)) tt)
settle-after class.Join text rest s t m settled own e = own.0 m settled
settle-after class.Comment text rest s t m settled own e = own.0 m settled
settle-after class.Bad text rest s t m settled own e = refused-ok (spec.refused_at s.place s.line) t e
settle-after (class.Solid kind) text rest s t m settled own e = own m settled

-- ---- what has been laid out

pub record Laid (source : Bytes) (ps : List (Class × Bytes)) (rest : Bytes) (s : State) : Type 0 where
  pub last : TokenKind
  pub turns : Turns source k.Newline [] s.tokens last s.indents
  pub rising : Rising s.indents
  pub follows : Follows s.line last
  pub settled : IsSettled (margin_at source s.place.offset) ⊎ (length rest ≡ 0)
  pub leads : LeadsBy (margin_at source s.place.offset) s.line ⊎ Breaks rest
  pub ended : AllByRecursion (λ t. t.end ≤ s.place.offset) s.tokens
  pub some : AllByRecursion (λ (p : Class × Bytes). 1 ≤ length p.1) ps
  pub whole : total ps ≡ s.place.offset
  pub noted : s.notes ≡ notes_among source s.tokens 0 ps

begins : (source : Bytes) (ps : List (Class × Bytes)) (rest : Bytes) (s : State) (h : Laid source ps rest s)
    → Start source s.place s h.last
begins source ps rest s h = record {
  turns = h.turns;
  more = [];
  grown = sym (append-nil s.tokens);
  ends = tt;
  place = refl;
  same_notes = refl;
  same_indents = refl;
}

-- a written token alone is a solid piece
abbrev pub Written : Class → Type 0
Written (class.Solid kind) = IsWritten kind
Written _ = Unit {0}

same-line : (more : ℕ) (line : Line) (last : TokenKind) → Follows line last → Follows (spec.spaced more line) last
same-line more Inside last h = h
same-line more (Fresh n tab) last h = h

same-tabbed : (at : Loc) (line : Line) (last : TokenKind) → Follows line last → Follows (spec.tabbed at line) last
same-tabbed at Inside last h = h
same-tabbed at (Fresh n (Some tab)) last h = h
same-tabbed at (Fresh n None) last h = h

leads-of : {A : Type 0} (m : Margin) (line : Line) (y : Bytes) → LeadsBy m line ⊎ Breaks y → (Breaks y → A)
    → (LeadsBy m line → A) → A
leads-of m line y (inl h) f g = g h
leads-of m line y (inr b) f g = f b

done-left : (source : Bytes) (ps : List (Class × Bytes)) (y : Bytes) (s t : State) (kind : Class) (text : Bytes)
    → Laid source ps y s
    → s.place ≡ passed start (take s.place.offset source) → (Breaks y → kind ≡ class.LineEnd) → Written kind
    → spec.done kind text s ≡ Ok t
    → Left source s.place (s.place.offset + length text) s kind text t
unfolding spec.done
done-left source ps y s t class.Spaces text h placed breaks written e =
    subst (λ (u : State). Left source s.place (s.place.offset + length text) s class.Spaces text u)
    (ok-same (spec.with_line (spec.spaced (length text) s.line) s) t e)
    (still-left source s.place class.Spaces text s (spec.spaced (length text) s.line) h.last
    (s.place.offset + length text)
    (begins source ps y s h) h.rising (same-line (length text) s.line h.last h.follows) refl)
done-left source ps y s t class.Tabs text h placed breaks written e =
    subst (λ (u : State). Left source s.place (s.place.offset + length text) s class.Tabs text u)
    (ok-same (spec.with_line (spec.tabbed s.place.loc s.line) s) t e)
    (still-left source s.place class.Tabs text s (spec.tabbed s.place.loc s.line) h.last (s.place.offset + length text)
    (begins source ps y s h) h.rising (same-tabbed s.place.loc s.line h.last h.follows) refl)
done-left source ps y s t class.LineEnd text h placed breaks written e =
    ended-left source s.place text s t s.line h.last refl (begins source ps y s h) h.rising h.follows e
done-left source ps y s t class.Join text h placed breaks written e =
    subst (λ (u : State). Left source s.place (s.place.offset + length text) s class.Join text u) (ok-same s t e)
    (still-left source s.place class.Join text s s.line h.last (s.place.offset + length text)
    (begins source ps y s h) h.rising h.follows refl)
done-left source ps y s t class.Comment text h placed breaks written e =
    subst (λ (u : State). Left source s.place (s.place.offset + length text) s class.Comment text u)
    (ok-same (spec.commented text s s.line) t e)
    (commented-left source s.place text s s.line h.last refl (begins source ps y s h) h.rising h.follows
    (turns-last source k.Newline [] s.tokens h.last s.indents s.place.offset h.turns h.ended) placed)
done-left source ps y s t class.Bad text h placed breaks written e = refused-ok (spec.refused_at s.place s.line) t e
done-left source ps y s t (class.Solid kind) text h placed breaks written e =
    leads-of (margin_at source s.place.offset) s.line y h.leads
    (λ b. let bad = breaks b in absurd cc)
    (λ leads. solid-left source s.place kind text s t h.last written
    (begins source ps y s h) h.rising h.follows leads e)

all-up : (ts : List Token) (at far : ℕ) → at ≤ far → AllByRecursion (λ t. t.end ≤ at) ts
    → AllByRecursion (λ t. t.end ≤ far) ts
all-up [] at far le all = tt
all-up (t ∷ ts) at far le all =
    let here : t.end ≤ at = all.0 in let up : t.end ≤ far = omega arith in (up, all-up ts at far le all.1)

all-append : (P : Token → Type 0) (xs ys : List Token) → AllByRecursion P xs → AllByRecursion P ys
    → AllByRecursion P (xs ++ ys)
all-append P [] ys hx hy = hy
all-append P (x ∷ xs) ys hx hy = (hx.0, all-append P xs ys hx.1 hy)

all-lower : (ts : List Token) (from reach : ℕ) → AllByRecursion (λ t. (from ≤ t.end) × (t.end ≤ reach)) ts
    → AllByRecursion (λ t. from ≤ t.end) ts
all-lower [] from reach all = tt
all-lower (t ∷ ts) from reach all = (all.0.0, all-lower ts from reach all.1)

all-upper : (ts : List Token) (from reach : ℕ) → AllByRecursion (λ t. (from ≤ t.end) × (t.end ≤ reach)) ts
    → AllByRecursion (λ t. t.end ≤ reach) ts
all-upper [] from reach all = tt
all-upper (t ∷ ts) from reach all = (all.0.1, all-upper ts from reach all.1)

all-pieces : (ps : List (Class × Bytes)) (p : Class × Bytes)
    → AllByRecursion (λ (q : Class × Bytes). 1 ≤ length q.1) ps → 1 ≤ length p.1
    → AllByRecursion (λ (q : Class × Bytes). 1 ≤ length q.1) (ps ++ p ∷ [])
all-pieces [] p h one = (one, tt)
all-pieces (q ∷ ps) p h one = (h.0, all-pieces ps p h.1 one)

settled-here : (m : Margin) (y : Bytes) → IsSettled m ⊎ (length y ≡ 0) → 0 < length y → IsSettled m
settled-here m y (inl h) left = h
settled-here m y (inr none) left = absurd (omega (arith, none))

zero-plus : (n : ℕ) → 0 + n ≡ n
zero-plus n = omega arith

-- the notes among the pieces so far stay, with more tokens behind
still-noted : (source : Bytes) (ps : List (Class × Bytes)) (s : State) (ts more : List Token) (o : ℕ)
    → AllByRecursion (λ (p : Class × Bytes). 1 ≤ length p.1) ps → total ps ≡ o → AllByRecursion (λ t. o ≤ t.end) more
    → ts ≡ s.tokens ++ more → notes_among source s.tokens 0 ps ≡ notes_among source ts 0 ps
still-noted source ps s ts more o some whole later grown =
    sym (among-more source s.tokens more 0 ps o some (omega (arith, whole)) later)
    ∙ ap (λ us. notes_among source us 0 ps) (sym grown)

pub step-laid : (source : Bytes) (ps : List (Class × Bytes)) (y rest : Bytes) (s t : State) (kind : Class)
    (text : Bytes) → Laid source ps y s
    → 0 < length y → 1 ≤ length text → s.place ≡ passed start (take s.place.offset source)
    → take (s.place.offset + length text) source ≡ take s.place.offset source ++ text
    → (Breaks y → kind ≡ class.LineEnd) → Written kind
    → Margins kind text rest → t.place.offset ≡ s.place.offset + length text → spec.step kind text s ≡ Ok t
    → Laid source (ps ++ (kind, text) ∷ []) rest t
unfolding spec.step
step-laid source ps y rest s t kind text h left one placed upto breaks written own moves e =
    let o : ℕ = s.place.offset in
    let f : State → Outcome = λ u. Ok (record u { place = passed u.place text }) in
    let m = and_then-ok (spec.done kind text s) f t e in
    let put = done-left source ps y s m.0 kind text h placed breaks written m.1 in
    let is : record m.0 { place = passed m.0.place text } ≡ t =
    ok-same (record m.0 { place = passed m.0.place text }) t m.2 in
    let tokens : m.0.tokens ≡ t.tokens = ap (λ (u : State). u.tokens) is in
    let indents : m.0.indents ≡ t.indents = ap (λ (u : State). u.indents) is in
    let line : m.0.line ≡ t.line = ap (λ (u : State). u.line) is in
    let notes : m.0.notes ≡ t.notes = ap (λ (u : State). u.notes) is in
    let M : Margin = margin_at source o in
    let margin : margin_from M text ≡ margin_at source t.place.offset =
    sym (margin-append (Spaces 0) (take o source) text)
    ∙ ap (margin_from (Spaces 0)) (sym upto) ∙ ap (λ i. margin_from (Spaces 0) (take i source)) (sym moves) in
    let settled : IsSettled M = settled-here M y h.settled left in
    let later : AllByRecursion (λ (t : Token). o ≤ t.end) put.more = all-lower put.more o (o + length text) put.ends in
    let among : notes_among source s.tokens 0 ps ≡ notes_among source m.0.tokens 0 ps =
    still-noted source ps s m.0.tokens put.more o h.some h.whole later put.grown in
    let first : 0 + total ps ≡ o = omega (arith, h.whole) in
    record {
      last = put.last;
      turns = subst (λ (ts : List Token). Turns source k.Newline [] ts put.last t.indents) tokens
          (subst (λ (c : List ℕ). Turns source k.Newline [] m.0.tokens put.last c) indents put.turns);
      rising = subst (λ (c : List ℕ). Rising c) indents put.rising;
      follows = subst (λ (l : Line). Follows l put.last) line put.follows;
      settled = subst (λ (x : Margin). IsSettled x ⊎ (length rest ≡ 0)) margin
          (settle-after kind text rest s m.0 M settled own m.1);
      leads = subst (λ (l : Line). LeadsBy (margin_at source t.place.offset) l ⊎ Breaks rest) line
          (subst (λ (x : Margin). LeadsBy x m.0.line ⊎ Breaks rest) margin
          (lead-after kind text y rest s m.0 M settled h.leads breaks own m.1));
      ended = subst (λ (ts : List Token). AllByRecursion (λ (x : Token). x.end ≤ t.place.offset) ts) (sym put.grown
          ∙ tokens)
          (subst (λ i. AllByRecursion (λ (x : Token). x.end ≤ i) (s.tokens ++ put.more)) (sym moves)
          (all-append (λ (x : Token). x.end ≤ o + length text) s.tokens put.more
          (all-up s.tokens o (o + length text) (omega arith) h.ended)
          (all-upper put.more o (o + length text) put.ends)));
      some = all-pieces ps (kind, text) h.some one;
      whole = total-snoc ps kind text ∙ (ap (λ i. i + length text) h.whole ∙ sym moves);
      noted = sym notes ∙ put.noted ∙ ap (λ ns. ns ++ note_at source m.0.tokens o kind text) (h.noted ∙ among)
          ∙ sym (among-snoc source m.0.tokens 0 o ps kind text first)
          ∙ ap (λ ts. notes_among source ts 0 (ps ++ (kind, text) ∷ [])) tokens;
    }

-- ---- the end

pub record Finished (source : Bytes) (ps : List (Class × Bytes)) (t : State) : Type 0 where
  pub turns : Turns source k.Newline [] t.tokens k.End []
  pub noted : t.notes ≡ notes_among source t.tokens 0 ps

pub finish-laid : (source : Bytes) (ps : List (Class × Bytes)) (rest : Bytes) (s t : State) → Laid source ps rest s
    → s.place.offset ≡ length source → spec.finished s ≡ Ok t → Finished source ps t
unfolding spec.finished
finish-laid source ps rest s t h whole e =
    let p : Place = s.place in
    let o : ℕ = p.offset in
    let f : State → Outcome = λ u. and_then (spec.put_dedents (length u.indents) u) (spec.put k.End []) in
    let m = and_then-ok (spec.ended [] s s.line) f t e in
    let n = and_then-ok (spec.put_dedents (length m.0.indents) m.0) (spec.put k.End []) t m.2 in
    let xs : List ℕ = m.0.indents in
    let put = ended-left source p [] s m.0 s.line h.last refl (begins source ps rest s h) h.rising h.follows m.1 in
    let all : take (0 + length xs) xs ≡ xs = ap (λ i. take i xs) (zero-plus (length xs)) ∙ take-whole xs in
    let first : Now source p o m.0.tokens m.0.notes xs (take (0 + length xs) xs) put.last m.0 =
    subst (λ (c : List ℕ). Now source p o m.0.tokens m.0.notes xs c put.last m.0) (sym all) (record {
      turns = put.turns;
      more = [];
      grown = sym (append-nil m.0.tokens);
      ends = tt;
      place = put.place;
      same_notes = refl;
      same_indents = refl;
    }) in
    let closes : (i : ℕ) → 0 ≤ i → i < length xs → (before : TokenKind) → Unit {0}
    → Closes source before o (slice_index xs i) =
    λ i from below before ready. inl whole in
    let closed = dedents-here source p o m.0.tokens m.0.notes xs (length xs) 0 m.0 n.0 put.last (λ before. Unit {0})
    (omega arith)
    closes tt tt (omega arith) first n.1 in
    let last = put-here source p o m.0.tokens m.0.notes xs k.End [] n.0 t [] [] closed.last closed.here n.2
    (refl, refl) (omega arith) in
    let early : AllByRecursion (λ (x : Token). o ≤ x.end) put.more = all-lower put.more o (o + 0) put.ends in
    let late : AllByRecursion (λ (x : Token). o ≤ x.end) last.more = all-lower last.more o o last.ends in
    record {
      turns = last.turns;
      noted = last.same_notes ∙ put.noted ∙ append-nil s.notes ∙ h.noted
          ∙ still-noted source ps s m.0.tokens put.more o h.some h.whole early put.grown
          ∙ still-noted source ps m.0 t.tokens last.more o h.some h.whole late last.grown;
    }

pub first-laid : (source : Bytes) → Laid source [] source spec.first
unfolding spec.first start margin_from
first-laid source = record {
  last = k.Newline;
  turns = (refl, refl);
  rising = tt;
  follows = refl;
  settled = inl tt;
  leads = inl refl;
  ended = tt;
  some = tt;
  whole = refl;
  noted = refl;
}
