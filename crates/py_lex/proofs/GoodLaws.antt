-- What has been read of a source is made up of its tokens and of fillers, at each piece.
use Rattle.std.proofs.Common.{◌≡◌, ◌≢◌, ℕ, zero, suc, ◌+◌, ◌-◌, ◌<◌, ◌≤◌, Bool, true, cond, eqb, nat_lt, List, [], ◌∷◌}
use Rattle.std.proofs.Common.{◌++◌, length, take, drop, Some, None, Result, Ok, Err, inl, inr, refl, ap, sym, subst}
use Rattle.std.proofs.Common.{◌∙◌, append_assoc, length-append, arith}
use Rattle.std.proofs.lemmas.Bool.{ltb-true}
use Rattle.std.specs.List.{AllByRecursion, slice_range, flat_map}
use Rattle.krn_base.specs.declared.place.Loc.{Loc}
use Rattle.py_lex.specs.declared.token.TokenKind.{TokenKind}
use Rattle.py_lex.specs.declared.token.TokenKind.TheVariants as k
use Rattle.py_lex.specs.declared.token.Token.{Token}
use Rattle.py_lex.specs.declared.piece.Class.{Class}
use Rattle.py_lex.specs.declared.piece.Class.TheVariants.{Spaces, Tabs, LineEnd, Join, Comment, Bad, Solid}
use Rattle.py_lex.specs.declared.place.Place.{Place}
use Rattle.py_lex.specs.declared.layout.Line.{Line}
use Rattle.py_lex.specs.declared.layout.Line.TheVariants.{Fresh, Inside}
use Rattle.py_lex.specs.Bytes.{Bytes}
use Rattle.py_lex.specs.Words.{is_note}
use Rattle.py_lex.specs.Layout as spec
use Rattle.py_lex.specs.Layout.{State, Outcome, and_then, start, passed, limit, token_at}
use Rattle.py_lex.specs.Lexed.{Spells, IsSpan, InOrder, IsFiller, IsGap, MakesUp}
use Rattle.py_lex.specs.Laws.{IsWritten, IsLongest}
use Rattle.py_lex.proofs.Choices.{if_case, by_test}
use Rattle.py_lex.proofs.PieceLaws.{Fits}

pub all-snoc : {X : Type 0} (P : X → Type 0) (xs : List X) (x : X) → AllByRecursion P xs → P x
    → AllByRecursion P (xs ++ x ∷ [])
all-snoc P [] x h p = (p, tt)
all-snoc P (y ∷ ys) x h p = (h.0, all-snoc P ys x h.1 p)

order-snoc : (at : ℕ) (ts : List Token) (end : ℕ) (t : Token) → InOrder at ts end → end ≤ t.start
    → InOrder at (ts ++ t ∷ []) t.end
order-snoc at [] end t h le = (omega (arith, h), omega arith)
order-snoc at (u ∷ ts) end t h le = (h.0, order-snoc u.end ts end t h.1 le)

order-more : (at : ℕ) (ts : List Token) (end more : ℕ) → InOrder at ts end → end ≤ more → InOrder at ts more
order-more at [] end more h le = omega (arith, h)
order-more at (u ∷ ts) end more h le = (h.0, order-more u.end ts end more h.1 le)

pub order-made : (source : Bytes) (at : ℕ) (ts : List Token) (end : ℕ) → MakesUp source at ts end → InOrder at ts end
order-made source at [] end h = omega (arith, h)
order-made source at (u ∷ ts) end h = (h.0, order-made source u.end ts end h.2)

pub makes-snoc : (source : Bytes) (at : ℕ) (ts : List Token) (end : ℕ) (t : Token) → MakesUp source at ts end
    → end ≤ t.start → IsGap (slice_range source end t.start)
    → MakesUp source at (ts ++ t ∷ []) t.end
makes-snoc source at [] end t h le gap =
    let P : ℕ → Type 0 = λ n. IsGap (slice_range source n t.start) in
    (omega (arith, h), subst P (sym h) gap, refl)
makes-snoc source at (u ∷ ts) end t h le gap = (h.0, h.1, makes-snoc source u.end ts end t h.2 le gap)

-- ---- gaps

append-none : (z : Bytes) → z ++ [] ≡ z
append-none [] = refl
append-none (b ∷ z) = ap (λ y. b ∷ y) (append-none z)

flat-snoc : (parts : List Bytes) (b : Bytes)
    → flat_map (λ (part : Bytes). part) (parts ++ b ∷ []) ≡ flat_map (λ (part : Bytes). part) parts ++ b
flat-snoc [] b = append-none b
flat-snoc (a ∷ parts) b = ap (λ z. a ++ z) (flat-snoc parts b)
    ∙ sym (append_assoc a (flat_map (λ (part : Bytes). part) parts) b)

gap-more : (a b : Bytes) → IsGap a → IsFiller b → IsGap (a ++ b)
gap-more a b gap filler =
    (gap.0 ++ b ∷ [], all-snoc IsFiller gap.0 b gap.1 filler, flat-snoc gap.0 b ∙ ap (λ z. z ++ b) gap.2)

pub no-gap : (source : Bytes) (at : ℕ) → IsGap (slice_range source at at)
no-gap source at =
    let none : at - at ≡ 0 = omega arith in
    subst IsGap (ap (λ n. take n (drop at source)) (sym none)) ([], tt, refl)

take-none : (n : ℕ) → take {A = ℕ} n [] ≡ []
take-none zero = refl
take-none (suc n) = refl

drop-none : (n : ℕ) → drop {A = ℕ} n [] ≡ []
drop-none zero = refl
drop-none (suc n) = refl

pub take-add : (a b : ℕ) (z : Bytes) → take (a + b) z ≡ take a z ++ take b (drop a z)
take-add zero b z = let e : zero + b ≡ b = omega arith in ap (λ n. take n z) e
take-add (suc a) b [] = take-none (suc a + b) ∙ sym (take-none b)
take-add (suc a) b (c ∷ z) = let e : suc a + b ≡ suc (a + b) = omega arith in ap (λ n. take n (c ∷ z)) e
    ∙ ap (λ y. c ∷ y) (take-add a b z)

pub drop-add : (a b : ℕ) (z : Bytes) → drop b (drop a z) ≡ drop (a + b) z
drop-add zero b z = let e : b ≡ zero + b = omega arith in ap (λ n. drop n z) e
drop-add (suc a) b [] = drop-none b ∙ sym (drop-none (suc a + b))
drop-add (suc a) b (c ∷ z) = let e : suc (a + b) ≡ suc a + b = omega arith in drop-add a b z
    ∙ ap (λ n. drop n (c ∷ z)) e

slice-split : (z : Bytes) (from at n : ℕ) → from ≤ at
    → slice_range z from (at + n) ≡ slice_range z from at ++ slice_range z at (at + n)
slice-split z from at n le =
    let more : at + n - from ≡ at - from + n = omega arith in
    let there : from + (at - from) ≡ at = omega arith in
    let less : n ≡ at + n - at = omega arith in
    ap (λ m. take m (drop from z)) more ∙ take-add (at - from) n (drop from z)
    ∙ ap (λ y. slice_range z from at ++ take n y) (drop-add from (at - from) z ∙ ap (λ m. drop m z) there)
    ∙ ap (λ m. slice_range z from at ++ take m (drop at z)) less

-- ---- what has been read

-- these bytes stand at this place
pub record At (source : Bytes) (at : ℕ) (text : Bytes) : Type 0 where
  pub within : at + length text ≤ length source
  pub is : slice_range source at (at + length text) ≡ text

pub at-nothing : (source : Bytes) (at : ℕ) → at ≤ length source → At source at []
at-nothing source at le =
    let none : at + 0 - at ≡ 0 = omega arith in
    record { within = omega arith; is = ap (λ n. take n (drop at source)) none }

pub record Good (source : Bytes) (tokens notes : List Token) (at : ℕ) : Type 0 where
  pub spans : AllByRecursion (IsSpan source) tokens
  pub longest : AllByRecursion (IsLongest source) tokens
  pub apart : AllByRecursion (λ t. t.kind ≢ k.Note) tokens
  pub unended : AllByRecursion (λ t. t.kind ≢ k.End) tokens
  pub few : length tokens ≤ limit
  pub end : ℕ
  pub made : MakesUp source 0 tokens end
  pub behind : end ≤ at
  pub gap : IsGap (slice_range source end at)
  pub note_spans : AllByRecursion (IsSpan source) notes
  pub note_kinds : AllByRecursion (λ t. t.kind ≡ k.Note) notes
  pub note_order : InOrder 0 notes at

-- a refused outcome gives nothing
pub refused-ok : {A : Type 0} {P : Type 0} (e : Loc) (t : A) → Err e ≡ Ok t → P
refused-ok e t h = cc

abbrev ok_of : {A : Type 0} → A → Result A Loc
ok_of s = Ok s

pub ok-same : {A : Type 0} (s t : A) → ok_of s ≡ Ok t → s ≡ t
ok-same s t h = cc

-- two steps that are not refused
pub and_then-ok : {A B : Type 0} (r : Result A Loc) (f : A → Result B Loc) (t : B) → and_then r f ≡ Ok t
    → (u : A) × (r ≡ Ok u) × (f u ≡ Ok t)
and_then-ok (Ok u) f t h = (u, refl, h)
and_then-ok (Err e) f t h = refused-ok e t h

-- what one more token does
pub record Puts (kind : TokenKind) (text : Bytes) (s t : State) : Type 0 where
  pub room : length s.tokens < limit
  pub is : record s { tokens = s.tokens ++ token_at kind text s.place ∷ [] } ≡ t

pub put-puts : (kind : TokenKind) (text : Bytes) (s t : State) → spec.put kind text s ≡ Ok t → Puts kind text s t
unfolding spec.put
put-puts kind text s t h =
    let more : State = record s { tokens = s.tokens ++ token_at kind text s.place ∷ [] } in
    by_test (nat_lt (length s.tokens) limit)
    (λ v. record {
      room = ltb-true _ _ v;
      is = ok-same more t
          (sym (ap (λ (x : Bool). cond x (Ok more) (Err s.place.loc)) v) ∙ h);
    })
    (λ v. refused-ok s.place.loc t (sym (ap (λ (x : Bool). cond x (Ok more) (Err s.place.loc)) v) ∙ h))

module _ (source : Bytes) (p : Place) (inside : p.offset ≤ length source)
    (placed : p ≡ passed start (take p.offset source)) where
  -- a state at this place, with all that stands before `at` read
  abbrev pub Fine : State → ℕ → Type 0
  Fine s at = Good source s.tokens s.notes at × (s.place ≡ p)

  pub span-at : (kind : TokenKind) (text : Bytes) → At source p.offset text → Spells kind text
      → IsSpan source (token_at kind text p)
  span-at kind text here spells = record {
    forward = omega arith;
    within = here.within;
    placed = ap (λ (q : Place). q.loc) placed;
    spelled = subst (Spells kind) (sym here.is) spells;
  }

  put-tokens : (kind : TokenKind) (text : Bytes) (tokens notes : List Token) → Good source tokens notes p.offset
      → At source p.offset text
      → Spells kind text → IsLongest source (token_at kind text p) → kind ≢ k.End → kind ≢ k.Note
      → length tokens < limit
      → Good source (tokens ++ token_at kind text p ∷ []) notes (p.offset + length text)
  put-tokens kind text tokens notes g here spells longest ongoing alone room =
      let t : Token = token_at kind text p in
      record {
        spans = all-snoc (IsSpan source) tokens t g.spans (span-at kind text here spells);
        longest = all-snoc (IsLongest source) tokens t g.longest longest;
        apart = all-snoc (λ (u : Token). u.kind ≢ k.Note) tokens t g.apart alone;
        unended = all-snoc (λ (u : Token). u.kind ≢ k.End) tokens t g.unended ongoing;
        few = omega (arith, room, length-append tokens (t ∷ []));
        end = p.offset + length text;
        made = makes-snoc source 0 tokens g.end t g.made g.behind g.gap;
        behind = omega arith;
        gap = no-gap source (p.offset + length text);
        note_spans = g.note_spans;
        note_kinds = g.note_kinds;
        note_order = order-more 0 notes p.offset (p.offset + length text) g.note_order (omega arith);
      }

  put-fine : (kind : TokenKind) (text : Bytes) (s t : State) → Fine s p.offset → At source p.offset text
      → Spells kind text
      → IsLongest source (token_at kind text p) → kind ≢ k.End → kind ≢ k.Note → spec.put kind text s ≡ Ok t
      → Fine t (p.offset + length text)
  put-fine kind text s t f here spells longest ongoing alone h =
      let puts = put-puts kind text s t h in
      let P : State → Type 0 = λ u. Fine u (p.offset + length text) in
      let Q : Place → Type 0 = λ q. Good source (s.tokens ++ token_at kind text q ∷ []) s.notes
      (p.offset + length text) in
      subst P puts.is (
        subst Q (sym f.1)
            (put-tokens kind text s.tokens s.notes f.0 here spells longest ongoing alone puts.room),
        f.1,
      )

  -- a token without bytes
  mark-fine : (kind : TokenKind) (s t : State) → Fine s p.offset → Spells kind [] → (IsWritten kind → ⊥) → kind ≢ k.End
      → kind ≢ k.Note
      → spec.put kind [] s ≡ Ok t → Fine t p.offset
  mark-fine kind s t f spells unwritten ongoing alone h =
      let same : p.offset + 0 ≡ p.offset = omega arith in
      subst (Fine t) same
      (put-fine kind [] s t f (at-nothing source p.offset inside) spells
      (λ written. absurd (unwritten written)) ongoing alone h)

  pub dedents-fine : (n : ℕ) (s t : State) → Fine s p.offset → spec.put_dedents n s ≡ Ok t → Fine t p.offset
  unfolding spec.put_dedents
  dedents-fine zero s t f h = let P : State → Type 0 = λ u. Fine u p.offset in subst P (ok-same s t h) f
  dedents-fine (suc n) s t f h =
      let m = and_then-ok (spec.put k.Dedent [] s) (spec.put_dedents n) t h in
      dedents-fine n m.0 t (mark-fine k.Dedent s m.0 f refl (λ w. w) (λ e. cc) (λ e. cc) m.1) m.2

  dedented-fine : (n : ℕ) (s t : State) → Fine s p.offset → spec.dedented n s ≡ Ok t → Fine t p.offset
  unfolding spec.dedented
  dedented-fine n s t f h =
      let count : ℕ = spec.kept n s.indents in
      let put = spec.put_dedents (length s.indents - count) s in
      let f' : State → Outcome = λ u. Ok (spec.with_indents (take count u.indents) u) in
      by_test (eqb (spec.last_of (take count s.indents)) n)
      (λ v.
      let m = and_then-ok put f' t (sym (ap (λ (x : Bool). cond x (and_then put f') (Err s.place.loc)) v) ∙ h) in
      let P : State → Type 0 = λ u. Fine u p.offset in
      subst P (ok-same (spec.with_indents (take count m.0.indents) m.0) t m.2)
      (dedents-fine (length s.indents - count) s m.0 f m.1))
      (λ v. refused-ok s.place.loc t (sym (ap (λ (x : Bool). cond x (and_then put f') (Err s.place.loc)) v) ∙ h))

  indented-fine : (n : ℕ) (s t : State) → Fine s p.offset → spec.indented n s ≡ Ok t → Fine t p.offset
  unfolding spec.indented
  indented-fine n s t f h =
      let put = spec.put k.Indent [] s in
      let f' : State → Outcome = λ u. Ok (spec.with_indents (u.indents ++ n ∷ []) u) in
      by_test (nat_lt (spec.last_of s.indents) n)
      (λ v.
      let m = and_then-ok put f' t (sym (ap (λ (x : Bool). cond x (and_then put f') (spec.dedented n s)) v) ∙ h) in
      let P : State → Type 0 = λ u. Fine u p.offset in
      subst P (ok-same (spec.with_indents (m.0.indents ++ n ∷ []) m.0) t m.2)
      (mark-fine k.Indent s m.0 f refl (λ w. w) (λ e. cc) (λ e. cc) m.1))
      (λ v. dedented-fine n s t f (sym (ap (λ (x : Bool). cond x (and_then put f') (spec.dedented n s)) v) ∙ h))

  pub opened-fine : (s t : State) (line : Line) → Fine s p.offset → spec.opened s line ≡ Ok t → Fine t p.offset
  unfolding spec.opened
  opened-fine s t Inside f h = let P : State → Type 0 = λ u. Fine u p.offset in subst P (ok-same s t h) f
  opened-fine s t (Fresh n (Some tab)) f h = refused-ok tab t h
  opened-fine s t (Fresh n None) f h = indented-fine n s t f h

  solid-fine : (kind : TokenKind) (text : Bytes) (s t : State) → Fine s p.offset → At source p.offset text
      → Spells kind text
      → IsLongest source (token_at kind text p) → kind ≢ k.End → kind ≢ k.Note → spec.solid kind text s ≡ Ok t
      → Fine t (p.offset + length text)
  unfolding spec.solid
  solid-fine kind text s t f here spells longest ongoing alone h =
      let last : State → Outcome = λ u. Ok (record u { line = Inside; depth = spec.depth_after text u.depth }) in
      let m = and_then-ok (spec.opened s s.line) (λ u. and_then (spec.put kind text u) last) t h in
      let n = and_then-ok (spec.put kind text m.0) last t m.2 in
      let P : State → Type 0 = λ u. Fine u (p.offset + length text) in
      subst P (ok-same (record n.0 { line = Inside; depth = spec.depth_after text n.0.depth }) t n.2)
      (put-fine kind text m.0 n.0 (opened-fine s m.0 s.line f m.1) here spells longest ongoing alone n.1)

  -- bytes that give no token
  filler-good : (text : Bytes) (tokens notes : List Token) → Good source tokens notes p.offset
      → At source p.offset text → IsFiller text
      → Good source tokens notes (p.offset + length text)
  filler-good text tokens notes g here filler = record {
    spans = g.spans;
    longest = g.longest;
    apart = g.apart;
    unended = g.unended;
    few = g.few;
    end = g.end;
    made = g.made;
    behind = omega (arith, g.behind);
    gap = subst IsGap (sym (slice-split source g.end p.offset (length text) g.behind
        ∙ ap (λ z. slice_range source g.end p.offset ++ z) here.is))
        (gap-more (slice_range source g.end p.offset) text g.gap filler);
    note_spans = g.note_spans;
    note_kinds = g.note_kinds;
    note_order = order-more 0 notes p.offset (p.offset + length text) g.note_order (omega arith);
  }

  filler-fine : (text : Bytes) (s t : State) → Fine s p.offset → At source p.offset text → IsFiller text → s ≡ t
      → Fine t (p.offset + length text)
  filler-fine text s t f here filler e =
      let P : State → Type 0 = λ u. Fine u (p.offset + length text) in
      subst P e (filler-good text s.tokens s.notes f.0 here filler, f.1)

  pub ended-fine : (text : Bytes) (s t : State) (line : Line) → Fine s p.offset → At source p.offset text
      → Spells k.Newline text → IsFiller text
      → spec.ended text s line ≡ Ok t → Fine t (p.offset + length text)
  unfolding spec.ended
  ended-fine text s t Inside f here spells filler h =
      let put = spec.put k.Newline text s in
      let f' : State → Outcome = λ u. Ok (spec.with_line (Fresh 0 None) u) in
      by_test (eqb s.depth 0)
      (λ v.
      let m = and_then-ok put f' t (sym (ap (λ (x : Bool). cond x (and_then put f') (Ok s)) v) ∙ h) in
      let P : State → Type 0 = λ u. Fine u (p.offset + length text) in
      subst P (ok-same (spec.with_line (Fresh 0 None) m.0) t m.2)
      (put-fine k.Newline text s m.0 f here spells (λ w. absurd w) (λ e. cc) (λ e. cc) m.1))
      (λ v. filler-fine text s t f here filler (ok-same s t (sym (ap (λ (x : Bool). cond x (and_then put f') (Ok s)) v)
      ∙ h)))
  ended-fine text s t (Fresh n tab) f here spells filler h =
      filler-fine text (spec.with_line (Fresh 0 None) s) t f here filler (ok-same _ t h)

  note-good : (text : Bytes) (tokens notes : List Token) → Good source tokens notes p.offset → At source p.offset text
      → IsFiller text → is_note text ≡ true
      → Good source tokens (notes ++ token_at k.Note text p ∷ []) (p.offset + length text)
  note-good text tokens notes g here filler note =
      let t : Token = token_at k.Note text p in
      let more = filler-good text tokens notes g here filler in
      record {
        spans = more.spans;
        longest = more.longest;
        apart = more.apart;
        unended = more.unended;
        few = more.few;
        end = more.end;
        made = more.made;
        behind = more.behind;
        gap = more.gap;
        note_spans = all-snoc (IsSpan source) notes t g.note_spans (span-at k.Note text here note);
        note_kinds = all-snoc (λ (u : Token). u.kind ≡ k.Note) notes t g.note_kinds refl;
        note_order = order-snoc 0 notes p.offset t g.note_order (omega arith);
      }

  commented-fine : (text : Bytes) (s : State) (line : Line) → Fine s p.offset → At source p.offset text → IsFiller text
      → Fine (spec.commented text s line) (p.offset + length text)
  unfolding spec.commented
  commented-fine text s Inside f here filler = (filler-good text s.tokens s.notes f.0 here filler, f.1)
  commented-fine text s (Fresh n tab) f here filler =
      let P : State → Type 0 = λ u. Fine u (p.offset + length text) in
      let Q : Place → Type 0 = λ q. Good source s.tokens (s.notes ++ token_at k.Note text q ∷ [])
      (p.offset + length text) in
      if_case P (is_note text) _ _
      (λ note. (subst Q (sym f.1) (note-good text s.tokens s.notes f.0 here filler note), f.1))
      (λ none. (filler-good text s.tokens s.notes f.0 here filler, f.1))

  -- what is written here is the longest
  abbrev pub Long : Class → Bytes → Type 0
  Long (Solid kind) text = IsLongest source (token_at kind text p)
  Long _ text = Unit {0}

  pub done-fine : (class : Class) (text : Bytes) (s t : State) → Fine s p.offset → At source p.offset text
      → Fits class text
      → Long class text → spec.done class text s ≡ Ok t → Fine t (p.offset + length text)
  unfolding spec.done
  done-fine Spaces text s t f here fits long h =
      filler-fine text (spec.with_line (spec.spaced (length text) s.line) s) t f here (inl fits) (ok-same _ t h)
  done-fine Tabs text s t f here fits long h =
      filler-fine text (spec.with_line (spec.tabbed s.place.loc s.line) s) t f here (inl fits) (ok-same _ t h)
  done-fine LineEnd text s t f here fits long h = ended-fine text s t s.line f here fits (inr (inl fits)) h
  done-fine Join text s t f here fits long h = filler-fine text s t f here (inr (inr (inl fits))) (ok-same s t h)
  done-fine Comment text s t f here fits long h =
      let P : State → Type 0 = λ u. Fine u (p.offset + length text) in
      subst P (ok-same (spec.commented text s s.line) t h) (commented-fine text s s.line f here (inr (inr (inr fits))))
  done-fine Bad text s t f here fits long h = refused-ok (spec.refused_at s.place s.line) t h
  done-fine (Solid kind) text s t f here fits long h = solid-fine kind text s t f here fits.0 long fits.1 fits.2 h
