-- A list that the definition gives has the laws of one.
use Rattle.std.proofs.Common.{◌≡◌, ◌≢◌, ℕ, zero, suc, ◌+◌, ◌-◌, ◌<◌, ◌≤◌, List, [], ◌∷◌, ◌++◌, length, take, drop}
use Rattle.std.proofs.Common.{Result, Ok, inl, refl, ap, sym, subst, ◌∙◌, append_assoc, append-nil, length-append}
use Rattle.std.proofs.Common.{arith}
use Rattle.std.specs.List.{AllByRecursion}
use Rattle.krn_base.specs.declared.place.Loc.{Loc}
use Rattle.py_lex.specs.declared.token.TokenKind.TheVariants as k
use Rattle.py_lex.specs.declared.token.Token.{Token}
use Rattle.py_lex.specs.declared.token.Tokens.{Tokens}
use Rattle.py_lex.specs.declared.piece.Class.{Class}
use Rattle.py_lex.specs.declared.piece.Class.TheVariants as class
use Rattle.py_lex.specs.declared.token.TokenKind.{TokenKind}
use Rattle.py_lex.specs.declared.place.Place.{Place}
use Rattle.py_lex.specs.Bytes.{Bytes}
use Rattle.py_lex.specs.Pieces.{piece, pieces, pieces_from}
use Rattle.py_lex.specs.Layout as spec
use Rattle.py_lex.specs.Layout.{State, Outcome, and_then, start, passed, limit, token_at, behind, gathered, tokens_of}
use Rattle.py_lex.specs.Lexed.{Spells, IsSpan, InOrder, EndsOnce, IsNoteAlone, MakesUp, IsLexed}
use Rattle.py_lex.proofs.ByteLaws.{length-take-fits}
use Rattle.py_lex.proofs.TextLaws.{length-drop-is}
use Rattle.py_lex.proofs.PieceLaws.{Fits, piece-cut}
use Rattle.py_lex.proofs.Cuts.{pieces-cut, layout-end}
use Rattle.py_lex.specs.Laws.{IsWritten, IsLongest, IsInBlocks, AreNotes, Turns, notes_among}
use Rattle.py_lex.proofs.MarginLaws.{Breaks, breaks-piece, piece-margins}
use Rattle.py_lex.proofs.LongestLaws.{Longest, piece-longest}
use Rattle.py_lex.proofs.LaidLaws.{Written, Laid, step-laid, Finished, finish-laid, first-laid}
use Rattle.py_lex.proofs.GoodLaws.{At, at-nothing, Good, put-puts, and_then-ok, ok-same, all-snoc, makes-snoc}
use Rattle.py_lex.proofs.GoodLaws.{order-made, take-add, drop-add, no-gap, span-at, ended-fine, dedents-fine, Long}
use Rattle.py_lex.proofs.GoodLaws.{done-fine}

passed-offset : (p : Place) (z : Bytes) → (passed p z).offset ≡ p.offset + length z
unfolding passed
passed-offset p [] = omega arith
passed-offset p (b ∷ z) = omega (arith, passed-offset (behind p b) z)

passed-append : (p : Place) (a b : Bytes) → passed (passed p a) b ≡ passed p (a ++ b)
unfolding passed
passed-append p [] b = refl
passed-append p (c ∷ a) b = passed-append (behind p c) a b

-- what has been read of a source up to the state's place
pub record Stands (source : Bytes) (s : State) : Type 0 where
  pub inside : s.place.offset ≤ length source
  pub placed : s.place ≡ passed start (take s.place.offset source)
  pub good : Good source s.tokens s.notes s.place.offset

place-moves : (source : Bytes) (p : Place) (text : Bytes) → p ≡ passed start (take p.offset source)
    → At source p.offset text
    → passed p text ≡ passed start (take (passed p text).offset source)
place-moves source p text placed here =
    let less : p.offset + length text - p.offset ≡ length text = omega arith in
    let text-is : take (length text) (drop p.offset source) ≡ text = ap (λ n. take n (drop p.offset source)) (sym less)
    ∙ here.is in
    let upto : take (p.offset + length text) source ≡ take p.offset source ++ text =
    take-add p.offset (length text) source ∙ ap (λ z. take p.offset source ++ z) text-is in
    ap (λ q. passed q text) placed ∙ passed-append start (take p.offset source) text ∙ ap (passed start) (sym upto)
    ∙ ap (λ n. passed start (take n source)) (sym (passed-offset p text))

pub record Steps (source text : Bytes) (s t : State) : Type 0 where
  pub stands : Stands source t
  pub moves : t.place.offset ≡ s.place.offset + length text

pub step-stands : (source : Bytes) (kind : Class) (text : Bytes) (s t : State) (before : Stands source s)
    → At source s.place.offset text
    → Fits kind text → Long source s.place before.inside before.placed kind text → spec.step kind text s ≡ Ok t
    → Steps source text s t
unfolding spec.step
step-stands source kind text s t before here fits long h =
    let last : State → Outcome = λ u. Ok (record u { place = passed u.place text }) in
    let m = and_then-ok (spec.done kind text s) last t h in
    let fine = done-fine source s.place before.inside before.placed kind text s m.0
    (before.good, refl) here fits long m.1 in
    let at-is = passed-offset s.place text in
    let P : State → Type 0 = λ u. Steps source text s u in
    let Q : Place → Type 0 = λ q. Steps source text s (record m.0 { place = passed q text }) in
    subst P (ok-same (record m.0 { place = passed m.0.place text }) t m.2) (subst Q (sym fine.1) (record {
      stands = record {
        inside = omega (arith, at-is, here.within);
        placed = place-moves source s.place text before.placed here;
        good = subst (Good source m.0.tokens m.0.notes) (sym at-is) fine.0;
      };
      moves = at-is;
    }))

pub record Reads (source : Bytes) (t : State) : Type 0 where
  pub stands : Stands source t
  pub whole : t.place.offset ≡ length source
  pub laid : Laid source (pieces source) [] t

-- the longest token at the front of what is left of a source is the longest of the source
pub long-at : (source y : Bytes) (p : Place) (inside : p.offset ≤ length source)
    (placed : p ≡ passed start (take p.offset source)) (kind : Class)
    (len : ℕ) → y ≡ drop p.offset source → length (take len y) ≡ len → Longest kind y len
    → Long source p inside placed kind (take len y)
long-at source y p inside placed (class.Solid kind) len left text-len longest =
    λ written other other-written end more fits spells.
    let lower : len < end - p.offset = omega (arith, text-len, more) in
    let upper : end - p.offset ≤ length y = omega (arith, fits, ap length left, length-drop-is p.offset source) in
    let P : Bytes → Type 0 = λ z. Spells other (take (end - p.offset) z) in
    longest.1 other other-written (end - p.offset) lower upper (subst P (sym left) spells)
long-at source y p inside placed _ len left text-len longest = tt

pub written-piece : (kind : Class) (y : Bytes) (len : ℕ) → Longest kind y len → Written kind
written-piece (class.Solid kind) y len longest = longest.0
written-piece _ y len longest = tt

-- behind the piece at the front of what is left
pub record Next (source y : Bytes) (s t : State) : Type 0 where
  pub stands : Stands source t
  pub moves : t.place.offset ≡ s.place.offset + length (take (piece y).len y)
  pub left : drop (piece y).len y ≡ drop t.place.offset source

pub stepped : (source y : Bytes) (s t : State) → Stands source s → 0 < length y → y ≡ drop s.place.offset source
    → spec.step (piece y).class (take (piece y).len y) s ≡ Ok t → Next source y s t
stepped source y s t stands some left e =
    let cut = piece-cut y some in
    let len : ℕ = (piece y).len in
    let o : ℕ = s.place.offset in
    let text-len : length (take len y) ≡ len = length-take-fits len y cut.within in
    let same : o + length (take len y) - o ≡ len = omega (arith, text-len) in
    let here : At source o (take len y) = record {
      within = omega (arith, text-len, cut.within, ap length left, length-drop-is o source, stands.inside);
      is = ap (λ i. take i (drop o source)) same ∙ ap (take len) (sym left);
    } in
    let long = long-at source y s.place stands.inside stands.placed (piece y).class len left text-len
    (piece-longest y) in
    let next = step-stands source (piece y).class (take len y) s t stands here cut.fits long e in
    let there : o + len ≡ t.place.offset = omega (arith, next.moves, text-len) in
    record {
      stands = next.stands;
      moves = next.moves;
      left = ap (drop len) left ∙ drop-add o len source ∙ ap (λ i. drop i source) there;
    }

pub layout-next : (z : Bytes) (s : State) (o : Outcome) → 0 < length z → 1 ≤ (piece z).len
    → spec.layout (pieces z) s ≡ o
    → and_then (spec.step (piece z).class (take (piece z).len z) s) (spec.layout (pieces (drop (piece z).len z))) ≡ o
unfolding spec.layout
layout-next z s o some moves h = sym (ap (λ ps. spec.layout ps s) (pieces-cut z some moves)) ∙ h

no-pieces : pieces [] ≡ []
unfolding pieces_from
no-pieces = refl

pub layout-reads : (n : ℕ) (source z : Bytes) (ps : List (Class × Bytes)) (s t : State) → length z ≤ n
    → Stands source s → Laid source ps z s
    → z ≡ drop s.place.offset source → pieces source ≡ ps ++ pieces z → spec.layout (pieces z) s ≡ Ok t → Reads source t
layout-reads n source [] ps s t le stands laid left parts h =
    let P : State → Type 0 = λ u. Reads source u in
    let all : ps ≡ pieces source = sym (append-nil ps) ∙ (ap (λ qs. ps ++ qs) (sym no-pieces) ∙ sym parts) in
    subst P (ok-same s t (sym (layout-end [] s refl) ∙ h)) (record {
      stands = stands;
      whole = omega (arith, ap length left, length-drop-is s.place.offset source, stands.inside);
      laid = subst (λ (qs : List (Class × Bytes)). Laid source qs [] s) all laid;
    })
layout-reads zero source (b ∷ z) ps s t le stands laid left parts h = absurd (omega arith)
layout-reads (suc n) source (b ∷ z) ps s t le stands laid left parts h =
    let y : Bytes = b ∷ z in
    let some : 0 < length y = omega arith in
    let cut = piece-cut y some in
    let len : ℕ = (piece y).len in
    let o : ℕ = s.place.offset in
    let kind : Class = (piece y).class in
    let m = and_then-ok (spec.step kind (take len y) s) (spec.layout (pieces (drop len y))) t
    (layout-next y s (Ok t) some cut.moves h) in
    let text-len : length (take len y) ≡ len = length-take-fits len y cut.within in
    let next = stepped source y s m.0 stands some left m.1 in
    let upto : take (o + length (take len y)) source ≡ take o source ++ take len y =
    take-add o (length (take len y)) source
    ∙ ap (λ i. take o source ++ take i (drop o source)) text-len ∙ ap (λ x. take o source ++ take len x) (sym left) in
    let laid-on = step-laid source ps y (drop len y) s m.0 kind (take len y) laid some
    (omega (arith, text-len, cut.moves)) stands.placed upto
    (breaks-piece y some) (written-piece kind y len (piece-longest y)) (piece-margins y some) next.moves m.1 in
    let parts-on : pieces source ≡ (ps ++ (kind, take len y) ∷ []) ++ pieces (drop len y) =
    parts ∙ ap (λ qs. ps ++ qs) (pieces-cut y some cut.moves)
    ∙ sym (append_assoc ps ((kind, take len y) ∷ []) (pieces (drop len y))) in
    layout-reads n source (drop len y) (ps ++ (kind, take len y) ∷ []) m.0 t
    (omega (arith, length-drop-is len y, cut.moves, le))
    next.stands laid-on next.left parts-on m.2

ends-snoc : (ts : List Token) (t : Token) → AllByRecursion (λ u. u.kind ≢ k.End) ts → t.kind ≡ k.End
    → EndsOnce (ts ++ t ∷ [])
ends-snoc [] t h e = e
ends-snoc (u ∷ []) t h e = (h.0, e)
ends-snoc (u ∷ v ∷ ts) t h e = (h.0, ends-snoc (v ∷ ts) t h.1 e)

-- the laws, apart from the equation
pub record Laws (source : Bytes) (tokens notes : List Token) : Type 0 where
  pub spans : AllByRecursion (IsSpan source) tokens
  pub longest : AllByRecursion (IsLongest source) tokens
  pub note_spans : AllByRecursion (IsSpan source) notes
  pub in_order : InOrder 0 tokens (length source)
  pub notes_in_order : InOrder 0 notes (length source)
  pub apart : IsNoteAlone tokens notes
  pub ends_once : EndsOnce tokens
  pub few : length tokens ≤ limit
  pub makes_up : MakesUp source 0 tokens (length source)

end-laws : (source : Bytes) (p : Place) (tokens notes : List Token) → p.offset ≡ length source
    → p ≡ passed start (take p.offset source)
    → Good source tokens notes p.offset → length tokens < limit → Laws source (tokens ++ token_at k.End [] p ∷ []) notes
end-laws source p tokens notes whole placed g room =
    let t : Token = token_at k.End [] p in
    let inside : p.offset ≤ length source = omega (arith, whole) in
    let ends : p.offset + 0 ≡ length source = omega (arith, whole) in
    let made : MakesUp source 0 (tokens ++ t ∷ []) (length source) =
    subst (MakesUp source 0 (tokens ++ t ∷ [])) ends (makes-snoc source 0 tokens g.end t g.made g.behind g.gap) in
    let spans = all-snoc (IsSpan source) tokens t g.spans
    (span-at source p inside placed k.End [] (at-nothing source p.offset inside) refl) in
    record {
      spans = spans;
      longest = all-snoc (IsLongest source) tokens t g.longest (λ written. absurd written);
      note_spans = g.note_spans;
      in_order = order-made source 0 (tokens ++ t ∷ []) (length source) made;
      notes_in_order = subst (InOrder 0 notes) whole g.note_order;
      apart = (all-snoc (λ (u : Token). u.kind ≢ k.Note) tokens t g.apart (λ e. cc), g.note_kinds);
      ends_once = ends-snoc tokens t g.unended refl;
      few = omega (arith, room, length-append tokens (t ∷ []));
      makes_up = made;
    }

finished-laws : (source : Bytes) (s t : State) → Stands source s → s.place.offset ≡ length source
    → spec.finished s ≡ Ok t → Laws source t.tokens t.notes
unfolding spec.finished
finished-laws source s t stands whole h =
    let p : Place = s.place in
    let f' : State → Outcome = λ u. and_then (spec.put_dedents (length u.indents) u) (spec.put k.End []) in
    let m = and_then-ok (spec.ended [] s s.line) f' t h in
    let n = and_then-ok (spec.put_dedents (length m.0.indents) m.0) (spec.put k.End []) t m.2 in
    let same : p.offset + 0 ≡ p.offset = omega arith in
    let P : ℕ → Type 0 = λ i. Good source m.0.tokens m.0.notes i × (m.0.place ≡ p) in
    let ended = subst P same (ended-fine source p stands.inside stands.placed [] s m.0 s.line (stands.good, refl)
    (at-nothing source p.offset stands.inside) refl (inl refl) m.1) in
    let dedented = dedents-fine source p stands.inside stands.placed (length m.0.indents) m.0 n.0 ended n.1 in
    let puts = put-puts k.End [] n.0 t n.2 in
    let Q : State → Type 0 = λ u. Laws source u.tokens u.notes in
    let R : Place → Type 0 = λ q. Laws source (n.0.tokens ++ token_at k.End [] q ∷ []) n.0.notes in
    subst Q puts.is (subst R (sym dedented.1)
    (end-laws source p n.0.tokens n.0.notes whole stands.placed dedented.0 puts.room))

pub first-stands : (source : Bytes) → Stands source spec.first
unfolding spec.first start passed
first-stands source = record {
  inside = omega arith;
  placed = refl;
  good = record {
    spans = tt;
    longest = tt;
    apart = tt;
    unended = tt;
    few = omega arith;
    end = 0;
    made = refl;
    behind = omega arith;
    gap = no-gap source 0;
    note_spans = tt;
    note_kinds = tt;
    note_order = omega arith;
  };
}

pub first-at : spec.first.place.offset ≡ 0
unfolding spec.first start
first-at = refl

-- what a list of the definition is
pub record Whole (source : Bytes) (ts : Tokens) : Type 0 where
  pub laws : Laws source ts.tokens ts.notes
  pub blocks : IsInBlocks source ts.tokens
  pub notes : AreNotes source ts

pub whole : (source : Bytes) (ts : Tokens) → tokens_of source ≡ Ok ts → Whole source ts
unfolding tokens_of
whole source ts h =
    let f' : State → Result Tokens Loc = λ t. Ok (gathered t) in
    let m = and_then-ok (spec.layout (pieces source) spec.first) (λ s. and_then (spec.finished s) f') ts h in
    let n = and_then-ok (spec.finished m.0) f' ts m.2 in
    let reads = layout-reads (length source) source source [] spec.first m.0 (omega arith) (first-stands source)
    (first-laid source)
    (sym (ap (λ i. drop i source) first-at)) refl m.1 in
    let laws = finished-laws source m.0 n.0 reads.stands reads.whole n.1 in
    let end = finish-laid source (pieces source) [] m.0 n.0 reads.laid reads.whole n.1 in
    let P : Tokens → Type 0 = λ us. Whole source us in
    subst P (ok-same (gathered n.0) ts n.2) (record { laws = laws; blocks = end.turns; notes = end.noted })

pub lexed : (source : Bytes) (ts : Tokens) → tokens_of source ≡ Ok ts → IsLexed source ts
lexed source ts h =
    let own = (whole source ts h).laws in
    record {
      is_list = h;
      spans = own.spans;
      note_spans = own.note_spans;
      in_order = own.in_order;
      notes_in_order = own.notes_in_order;
      apart = own.apart;
      ends_once = own.ends_once;
      few = own.few;
      makes_up = own.makes_up;
    }

pub all-longest : (source : Bytes) (ts : Tokens) → tokens_of source ≡ Ok ts
    → AllByRecursion (IsLongest source) ts.tokens
all-longest source ts h = (whole source ts h).laws.longest
