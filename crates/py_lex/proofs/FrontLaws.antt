-- What stands before a refused place is a text that has tokens, or is too full.
use Rattle.std.proofs.Common.{◌≡◌, ℕ, zero, suc, ◌+◌, ◌-◌, ◌<◌, ◌≤◌, ◌⊎◌, inl, inr, Bool, true, false, cond, eqb, not}
use Rattle.std.proofs.Common.{nat_lt, nat_le}
use Rattle.std.proofs.Common.{List, [], ◌∷◌, ◌++◌, length, take, drop, Some, None, Result, Ok, Err, refl, ap, sym}
use Rattle.std.proofs.Common.{subst, ◌∙◌}
use Rattle.std.proofs.Common.{append-nil, length-append, arith}
use Rattle.std.proofs.lemmas.Bool.{false≢true, eqb-true}
use Rattle.std.proofs.lemmas.Bool.Decides.{nat_tests}
use Rattle.std.proofs.lemmas.List.{take-append-drop, take-take}
use Rattle.krn_base.specs.declared.place.Loc.{Loc}
use Rattle.py_lex.specs.declared.token.TokenKind.{TokenKind}
use Rattle.py_lex.specs.declared.token.TokenKind.TheVariants as k
use Rattle.py_lex.specs.declared.token.Token.{Token}
use Rattle.py_lex.specs.declared.token.Tokens.{Tokens}
use Rattle.py_lex.specs.declared.piece.Piece.{Piece}
use Rattle.py_lex.specs.declared.piece.Class.{Class}
use Rattle.py_lex.specs.declared.piece.Class.TheVariants as class
use Rattle.py_lex.specs.declared.place.Place.{Place}
use Rattle.py_lex.specs.declared.layout.Line.{Line}
use Rattle.py_lex.specs.declared.layout.Line.TheVariants.{Fresh, Inside}
use Rattle.py_lex.specs.Bytes.{Bytes, line_end, before_line_end}
use Rattle.py_lex.specs.Words.{is_note}
use Rattle.py_lex.specs.Pieces.{piece, pieces}
use Rattle.py_lex.specs.Layout as spec
use Rattle.py_lex.specs.Layout.{State, Outcome, and_then, start, passed, limit, token_at, last_of, kept, gathered}
use Rattle.py_lex.specs.Layout.{tokens_of}
use Rattle.std.specs.List.{slice_range}
use Rattle.py_lex.specs.Lexed.{IsGap, IsLexed}
use Rattle.py_lex.specs.Laws.{IsFull, IsBehindFront}
use Rattle.py_lex.proofs.Choices.{by_test, if_case}
use Rattle.py_lex.proofs.ByteLaws.{length-take-fits}
use Rattle.py_lex.proofs.TextLaws.{length-drop-is, drop-take}
use Rattle.py_lex.proofs.PieceLaws.{piece-cut, zero-test}
use Rattle.py_lex.proofs.Cuts.{layout-cut, layout-end}
use Rattle.py_lex.proofs.GoodLaws.{refused-ok, ok-same, and_then-ok, put-puts, at-nothing, opened-fine, dedents-fine}
use Rattle.py_lex.proofs.GoodLaws.{ended-fine}
use Rattle.py_lex.proofs.MarginLaws.{Breaks, Margins, piece-margins}
use Rattle.py_lex.proofs.BlockLaws.{take-whole}
use Rattle.py_lex.proofs.LaidLaws.{ended-line, solid-line, first-laid}
use Rattle.py_lex.proofs.KeptLaws.{IsClear, piece-kept, comment-len}
use Rattle.py_lex.proofs.LexedLaws.{Stands, Reads, layout-reads, stepped, layout-next, first-stands, first-at, lexed}

-- ---- the end of a text can be taken, unless there are too many tokens

put-ok : (kind : TokenKind) (s : State) → length s.tokens < limit
    → spec.put kind [] s ≡ Ok (record s { tokens = s.tokens ++ token_at kind [] s.place ∷ [] })
unfolding spec.put
put-ok kind s room =
    let is : nat_lt (length s.tokens) limit ≡ true = grind (arith, nat_tests, room) in
    ap (λ (v : Bool). cond v (Ok (record s { tokens = s.tokens ++ token_at kind [] s.place ∷ [] }))
    (Err s.place.loc)) is

-- a state with so many more tokens and the same columns
record Goes (o : Outcome) (s : State) (more : ℕ) : Type 0 where
  t : State
  is : o ≡ Ok t
  tokens : length t.tokens ≤ length s.tokens + more
  indents : t.indents ≡ s.indents

dedents-go : (n : ℕ) (s : State) → length s.tokens + n ≤ limit → Goes (spec.put_dedents n s) s n
unfolding spec.put_dedents
dedents-go zero s room = record { t = s; is = refl; tokens = omega arith; indents = refl }
dedents-go (suc n) s room =
    let m : State = record s { tokens = s.tokens ++ token_at k.Dedent [] s.place ∷ [] } in
    let long : length m.tokens ≡ length s.tokens + 1 = length-append s.tokens (token_at k.Dedent [] s.place ∷ []) in
    let rest = dedents-go n m (omega (arith, room, long)) in
    record {
      t = rest.t;
      is = ap (λ (o : Outcome). and_then o (spec.put_dedents n)) (put-ok k.Dedent s (omega (arith, room))) ∙ rest.is;
      tokens = omega (arith, rest.tokens, long);
      indents = rest.indents;
    }

ended-goes : (s : State) (line : Line) → length s.tokens < limit → Goes (spec.ended [] s line) s 1
unfolding spec.ended
ended-goes s Inside room =
    let put = spec.put k.Newline [] s in
    let f : State → Outcome = λ u. Ok (spec.with_line (Fresh 0 None) u) in
    let m : State = record s { tokens = s.tokens ++ token_at k.Newline [] s.place ∷ [] } in
    let long : length m.tokens ≡ length s.tokens + 1 = length-append s.tokens (token_at k.Newline [] s.place ∷ []) in
    by_test (eqb s.depth 0)
    (λ v. record {
      t = spec.with_line (Fresh 0 None) m;
      is = ap (λ (x : Bool). cond x (and_then put f) (Ok s)) v
          ∙ ap (λ (o : Outcome). and_then o f) (put-ok k.Newline s room);
      tokens = omega (arith, long);
      indents = refl;
    })
    (λ v. record {
      t = s;
      is = ap (λ (x : Bool). cond x (and_then put f) (Ok s)) v;
      tokens = omega arith;
      indents = refl;
    })
ended-goes s (Fresh n tab) room =
    record { t = spec.with_line (Fresh 0 None) s; is = refl; tokens = omega arith; indents = refl }

finishes : (s : State) → length s.tokens + length s.indents + 2 ≤ limit → (t : State) × (spec.finished s ≡ Ok t)
unfolding spec.finished
finishes s room =
    let f : State → Outcome = λ u. and_then (spec.put_dedents (length u.indents) u) (spec.put k.End []) in
    let m = ended-goes s s.line (omega (arith, room)) in
    let same : length m.t.indents ≡ length s.indents = ap length m.indents in
    let n = dedents-go (length m.t.indents) m.t (omega (arith, room, m.tokens, same)) in
    let last : spec.put k.End [] n.t ≡ Ok (record n.t { tokens = n.t.tokens ++ token_at k.End [] n.t.place ∷ [] }) =
    put-ok k.End n.t (omega (arith, room, m.tokens, n.tokens, same)) in (
      record n.t { tokens = n.t.tokens ++ token_at k.End [] n.t.place ∷ [] },
      ap (λ (o : Outcome). and_then o f) m.is ∙ (ap (λ (o : Outcome). and_then o (spec.put k.End [])) n.is ∙ last),
    )

finished-tokens : (z : Bytes) (s t : State) → spec.layout (pieces z) spec.first ≡ Ok s → spec.finished s ≡ Ok t
    → tokens_of z ≡ Ok (gathered t)
unfolding tokens_of
finished-tokens z s t layout end =
    let f : State → Result Tokens Loc = λ u. Ok (gathered u) in
    ap (λ (o : Outcome). and_then o (λ u. and_then (spec.finished u) f)) layout ∙ ap (λ (o : Outcome). and_then o f) end

reads-whole : (z : Bytes) (s : State) → spec.layout (pieces z) spec.first ≡ Ok s → Reads z s
reads-whole z s e =
    layout-reads (length z) z z [] spec.first s (omega arith) (first-stands z) (first-laid z)
    (sym (ap (λ i. drop i z) first-at)) refl e

too-full : (z : Bytes) (s : State) → Reads z s → limit < length s.tokens + length s.indents + 2 → IsFull z
too-full z s reads full = record {
  tokens = s.tokens;
  spans = reads.stands.good.spans;
  end = reads.stands.good.end;
  makes_up = reads.stands.good.made;
  gap = subst (λ i. IsGap (slice_range z reads.stands.good.end i)) reads.whole reads.stands.good.gap;
  last = reads.laid.last;
  columns = s.indents;
  turns = reads.laid.turns;
  full = full;
}

viable : (z : Bytes) (s : State) → spec.layout (pieces z) spec.first ≡ Ok s → ((ts : Tokens) × IsLexed z ts) ⊎ IsFull z
viable z s e =
    by_test (nat_le (length s.tokens + length s.indents + 2) limit)
    (λ v.
    let room : length s.tokens + length s.indents + 2 ≤ limit = grind (arith, nat_tests, v) in
    let end = finishes s room in inl (gathered end.0, lexed z (gathered end.0) (finished-tokens z s end.0 e end.1)))
    (λ v.
    let full : limit < length s.tokens + length s.indents + 2 = grind (arith, nat_tests, v) in
    inr (too-full z s (reads-whole z s e) full))

-- ---- where a piece is refused

err-same : {A : Type 0} (a b : Loc) → ◌≡◌ {A = Result A Loc} (Err a) (Err b) → a ≡ b
err-same a b e = cc

not-ok : {A P : Type 0} (a : A) (b : Loc) → ◌≡◌ {A = Result A Loc} (Ok a) (Err b) → P
not-ok a b e = cc

and_then-err : {A B : Type 0} (r : Result A Loc) (f : A → Result B Loc) (at : Loc) → and_then r f ≡ Err at
    → (r ≡ Err at) ⊎ ((u : A) × (r ≡ Ok u) × (f u ≡ Err at))
and_then-err (Ok u) f at e = inr (u, refl, e)
and_then-err {A = A} {B = B} (Err a) f at e = inl (ap (λ (x : Loc). Err x) (err-same {A = B} a at e))

put-err : (kind : TokenKind) (text : Bytes) (s : State) (at : Loc) → spec.put kind text s ≡ Err at → at ≡ s.place.loc
unfolding spec.put
put-err kind text s at e =
    let more : State = record s { tokens = s.tokens ++ token_at kind text s.place ∷ [] } in
    by_test (nat_lt (length s.tokens) limit)
    (λ v. not-ok more at (sym (ap (λ (x : Bool). cond x (Ok more) (Err s.place.loc)) v) ∙ e))
    (λ v. sym (err-same {A = State} s.place.loc at (sym (ap (λ (x : Bool). cond x (Ok more) (Err s.place.loc)) v) ∙ e)))

put-place : (kind : TokenKind) (text : Bytes) (s t : State) → spec.put kind text s ≡ Ok t → t.place ≡ s.place
put-place kind text s t e = ap (λ (u : State). u.place) (sym (put-puts kind text s t e).is)

dedents-err : (n : ℕ) (s : State) (at : Loc) → spec.put_dedents n s ≡ Err at → at ≡ s.place.loc
unfolding spec.put_dedents
dedents-err zero s at e = not-ok s at e
dedents-err (suc n) s at e =
    elim (and_then-err (spec.put k.Dedent [] s) (spec.put_dedents n) at e) [
      | inl h ↦ put-err k.Dedent [] s at h
      | inr h ↦ dedents-err n h.0 at h.2 ∙ ap (λ (p : Place). p.loc) (put-place k.Dedent [] s h.0 h.1)
    ]

dedents-place : (n : ℕ) (s t : State) → spec.put_dedents n s ≡ Ok t → t.place ≡ s.place
unfolding spec.put_dedents
dedents-place zero s t e = ap (λ (u : State). u.place) (sym (ok-same s t e))
dedents-place (suc n) s t e =
    let m = and_then-ok (spec.put k.Dedent [] s) (spec.put_dedents n) t e in
    dedents-place n m.0 t m.2 ∙ put-place k.Dedent [] s m.0 m.1

dedented-err : (n : ℕ) (s : State) (at : Loc) → spec.dedented n s ≡ Err at → at ≡ s.place.loc
unfolding spec.dedented
dedented-err n s at e =
    let count : ℕ = kept n s.indents in
    let put = spec.put_dedents (length s.indents - count) s in
    let f : State → Outcome = λ u. Ok (spec.with_indents (take count u.indents) u) in
    by_test (eqb (last_of (take count s.indents)) n)
    (λ v.
    elim (and_then-err put f at (sym (ap (λ (x : Bool). cond x (and_then put f) (Err s.place.loc)) v) ∙ e)) [
      | inl h ↦ dedents-err (length s.indents - count) s at h
      | inr h ↦ not-ok (spec.with_indents (take count h.0.indents) h.0) at h.2
    ])
    (λ v. sym (err-same {A = State} s.place.loc at
    (sym (ap (λ (x : Bool). cond x (and_then put f) (Err s.place.loc)) v) ∙ e)))

-- a tab before a line's first token
abbrev IsTab : Line → Loc → Type 0
IsTab line at = (n : ℕ) × (line ≡ Fresh n (Some at))

indented-err : (n : ℕ) (s : State) (at : Loc) → spec.indented n s ≡ Err at → at ≡ s.place.loc
unfolding spec.indented
indented-err n s at e =
    let put = spec.put k.Indent [] s in
    let f : State → Outcome = λ u. Ok (spec.with_indents (u.indents ++ n ∷ []) u) in
    by_test (nat_lt (last_of s.indents) n)
    (λ v.
    elim (and_then-err put f at (sym (ap (λ (x : Bool). cond x (and_then put f) (spec.dedented n s)) v) ∙ e)) [
      | inl h ↦ put-err k.Indent [] s at h
      | inr h ↦ not-ok (spec.with_indents (h.0.indents ++ n ∷ []) h.0) at h.2
    ])
    (λ v. dedented-err n s at (sym (ap (λ (x : Bool). cond x (and_then put f) (spec.dedented n s)) v) ∙ e))

opened-err : (s : State) (line : Line) (at : Loc) → spec.opened s line ≡ Err at → (at ≡ s.place.loc) ⊎ IsTab line at
unfolding spec.opened
opened-err s Inside at e = not-ok s at e
opened-err s (Fresh n (Some tab)) at e = inr (n, ap (λ (x : Loc). Fresh n (Some x)) (err-same {A = State} tab at e))
opened-err s (Fresh n None) at e = inl (indented-err n s at e)

ended-err : (text : Bytes) (s : State) (line : Line) (at : Loc) → spec.ended text s line ≡ Err at → at ≡ s.place.loc
unfolding spec.ended
ended-err text s Inside at e =
    let put = spec.put k.Newline text s in
    let f : State → Outcome = λ u. Ok (spec.with_line (Fresh 0 None) u) in
    by_test (eqb s.depth 0)
    (λ v.
    elim (and_then-err put f at (sym (ap (λ (x : Bool). cond x (and_then put f) (Ok s)) v) ∙ e)) [
      | inl h ↦ put-err k.Newline text s at h
      | inr h ↦ not-ok (spec.with_line (Fresh 0 None) h.0) at h.2
    ])
    (λ v. not-ok s at (sym (ap (λ (x : Bool). cond x (and_then put f) (Ok s)) v) ∙ e))
ended-err text s (Fresh n tab) at e = not-ok (spec.with_line (Fresh 0 None) s) at e

bad-at : (p : Place) (line : Line) (at : Loc) → spec.refused_at p line ≡ at → (at ≡ p.loc) ⊎ IsTab line at
unfolding spec.refused_at
bad-at p Inside at e = inl (sym e)
bad-at p (Fresh n (Some tab)) at e = inr (n, ap (λ (x : Loc). Fresh n (Some x)) e)
bad-at p (Fresh n None) at e = inl (sym e)

module _ (source : Bytes) where
  solid-err : (kind : TokenKind) (text : Bytes) (s : State) (at : Loc) → Stands source s
      → spec.solid kind text s ≡ Err at
      → (at ≡ s.place.loc) ⊎ IsTab s.line at
  unfolding spec.solid
  solid-err kind text s at stands e =
      let g : State → Outcome = λ u. Ok (record u { line = Inside; depth = spec.depth_after text u.depth }) in
      elim (and_then-err (spec.opened s s.line) (λ u. and_then (spec.put kind text u) g) at e) [
        | inl h ↦ opened-err s s.line at h
        | inr h ↦ inl (elim (and_then-err (spec.put kind text h.0) g at h.2) [
          | inl p ↦ put-err kind text h.0 at p
              ∙ ap (λ (q : Place). q.loc) (opened-fine source s.place stands.inside stands.placed s h.0 s.line
              (stands.good, refl) h.1).1
          | inr p ↦ not-ok (record p.0 { line = Inside; depth = spec.depth_after text p.0.depth }) at p.2
        ])
      ]

  done-err : (kind : Class) (text : Bytes) (s : State) (at : Loc) → Stands source s → spec.done kind text s ≡ Err at
      → (at ≡ s.place.loc) ⊎ IsTab s.line at
  unfolding spec.done
  done-err class.Spaces text s at stands e = not-ok (spec.with_line (spec.spaced (length text) s.line) s) at e
  done-err class.Tabs text s at stands e = not-ok (spec.with_line (spec.tabbed s.place.loc s.line) s) at e
  done-err class.LineEnd text s at stands e = inl (ended-err text s s.line at e)
  done-err class.Join text s at stands e = not-ok s at e
  done-err class.Comment text s at stands e = not-ok (spec.commented text s s.line) at e
  done-err class.Bad text s at stands e =
      bad-at s.place s.line at (err-same {A = State} (spec.refused_at s.place s.line) at e)
  done-err (class.Solid kind) text s at stands e = solid-err kind text s at stands e

  step-err : (kind : Class) (text : Bytes) (s : State) (at : Loc) → Stands source s → spec.step kind text s ≡ Err at
      → (at ≡ s.place.loc) ⊎ IsTab s.line at
  unfolding spec.step
  step-err kind text s at stands e =
      let f : State → Outcome = λ u. Ok (record u { place = passed u.place text }) in
      elim (and_then-err (spec.done kind text s) f at e) [
        | inl h ↦ done-err kind text s at stands h
        | inr h ↦ not-ok (record h.0 { place = passed h.0.place text }) at h.2
      ]

-- ---- where a tab has come from

no-tab : {P : Type 0} (n m : ℕ) (at : Loc) → Fresh n None ≡ Fresh m (Some at) → P
no-tab n m at e = cc

not-fresh : {P : Type 0} (m : ℕ) (at : Loc) → Inside ≡ Fresh m (Some at) → P
not-fresh m at e = cc

same-tab : (n m : ℕ) (a b : Loc) → Fresh n (Some a) ≡ Fresh m (Some b) → a ≡ b
same-tab n m a b e = cc

spaced-tab : (more : ℕ) (line : Line) (at : Loc) → IsTab (spec.spaced more line) at → IsTab line at
spaced-tab more Inside at h = h
spaced-tab more (Fresh n None) at h = no-tab (n + more) h.0 at h.1
spaced-tab more (Fresh n (Some tab)) at h = (n, ap (λ (x : Loc). Fresh n (Some x)) (same-tab (n + more) h.0 tab at h.1))

tabbed-tab : (here : Loc) (line : Line) (at : Loc) → IsTab (spec.tabbed here line) at → (at ≡ here) ⊎ IsTab line at
tabbed-tab here Inside at h = inr h
tabbed-tab here (Fresh n None) at h = inl (sym (same-tab n h.0 here at h.1))
tabbed-tab here (Fresh n (Some tab)) at h = inr h

commented-line : (text : Bytes) (s : State) (line : Line) → (spec.commented text s line).line ≡ s.line
unfolding spec.commented
commented-line text s Inside = refl
commented-line text s (Fresh n tab) = if_case (λ (u : State). u.line ≡ s.line) (is_note text) _ _ (λ _. refl)
    (λ _. refl)

tab-on : (a b : Line) (at : Loc) → a ≡ b → IsTab b at → IsTab a at
tab-on a b at e h = (h.0, e ∙ h.1)

done-tab : (kind : Class) (text : Bytes) (s t : State) (at : Loc) → spec.done kind text s ≡ Ok t → IsTab t.line at
    → (at ≡ s.place.loc) ⊎ IsTab s.line at
unfolding spec.done
done-tab class.Spaces text s t at e h =
    let line : spec.spaced (length text) s.line ≡ t.line =
    ap (λ (u : State). u.line) (ok-same (spec.with_line (spec.spaced (length text) s.line) s) t e) in
    inr (spaced-tab (length text) s.line at (tab-on (spec.spaced (length text) s.line) t.line at line h))
done-tab class.Tabs text s t at e h =
    let line : spec.tabbed s.place.loc s.line ≡ t.line =
    ap (λ (u : State). u.line) (ok-same (spec.with_line (spec.tabbed s.place.loc s.line) s) t e) in
    tabbed-tab s.place.loc s.line at (tab-on (spec.tabbed s.place.loc s.line) t.line at line h)
done-tab class.LineEnd text s t at e h =
    elim (ended-line text s t s.line refl e) [
      | inl is ↦ not-fresh h.0 at (sym is ∙ h.1)
      | inr is ↦ no-tab 0 h.0 at (sym is ∙ h.1)
    ]
done-tab class.Join text s t at e h = inr (tab-on s.line t.line at (ap (λ (u : State). u.line) (ok-same s t e)) h)
done-tab class.Comment text s t at e h =
    let line : s.line ≡ t.line =
    sym (commented-line text s s.line) ∙ ap (λ (u : State). u.line) (ok-same (spec.commented text s s.line) t e) in
    inr (tab-on s.line t.line at line h)
done-tab class.Bad text s t at e h = refused-ok (spec.refused_at s.place s.line) t e
done-tab (class.Solid kind) text s t at e h = not-fresh h.0 at (sym (solid-line kind text s t e) ∙ h.1)

step-tab : (kind : Class) (text : Bytes) (s t : State) (at : Loc) → spec.step kind text s ≡ Ok t → IsTab t.line at
    → (at ≡ s.place.loc) ⊎ IsTab s.line at
unfolding spec.step
step-tab kind text s t at e h =
    let f : State → Outcome = λ u. Ok (record u { place = passed u.place text }) in
    let m = and_then-ok (spec.done kind text s) f t e in
    let line : m.0.line ≡ t.line =
    ap (λ (u : State). u.line) (ok-same (record m.0 { place = passed m.0.place text }) t m.2) in
    done-tab kind text s m.0 at m.1 (tab-on m.0.line t.line at line h)

step-good : (kind : Class) (text : Bytes) (s t : State) → spec.step kind text s ≡ Ok t → kind ≡ class.Bad → ⊥
unfolding spec.step spec.done
step-good class.Bad text s t e is =
    let f : State → Outcome = λ u. Ok (record u { place = passed u.place text }) in
    let m = and_then-ok (spec.done class.Bad text s) f t e in refused-ok (spec.refused_at s.place s.line) m.0 m.1
step-good _ text s t e is = absurd cc

-- ---- what stands before the refusal

-- the first j bytes of what is left are laid out, and end where the rest is refused
record Cut (source z : Bytes) (s : State) (at : Loc) : Type 0 where
  j : ℕ
  within : j ≤ length z
  edge : (j ≡ 0) ⊎ ((piece z).len ≤ j)
  t : State
  runs : spec.layout (pieces (take j z)) s ≡ Ok t
  place : at ≡ (passed start (take (s.place.offset + j) source)).loc

-- it ends here
cut-here : (source z : Bytes) (s : State) (at : Loc) → Stands source s → at ≡ s.place.loc → Cut source z s at
cut-here source z s at stands is =
    let same : s.place.offset ≡ s.place.offset + 0 = omega arith in
    record {
      j = 0;
      within = omega arith;
      edge = inl refl;
      t = s;
      runs = layout-end [] s refl;
      place = is ∙ ap (λ (p : Place). p.loc) stands.placed ∙ ap (λ i. (passed start (take i source)).loc) same;
    }

-- where a line ends the piece at the front has its bytes
line-first : (z : Bytes) → 1 ≤ line_end z → line_end z ≤ (piece z).len
unfolding piece
line-first z ends =
    if_case (λ (p : Piece). line_end z ≤ p.len) (not (eqb (line_end z) 0)) _ _ (λ _. omega arith)
    (λ e. absurd (omega (arith, ends, eqb-true (line_end z) 0 (zero-test _ e))))

-- the rest behind a comment is cut off before or behind its line end
clear : (y : Bytes) (j : ℕ) → Breaks (drop (before_line_end y) y)
    → (j ≡ 0) ⊎ ((piece (drop (before_line_end y) y)).len ≤ j)
    → j ≤ length (drop (before_line_end y) y) → IsClear y (before_line_end y + j)
clear y j breaks (inl none) within = inl (omega (arith, none))
clear y j (inl empty) (inr far) within = inl (omega (arith, empty, within))
clear y j (inr ends) (inr far) within =
    let rest : Bytes = drop (before_line_end y) y in
    inr (omega (arith, line-first rest ends, far))

comment-clear : (y : Bytes) (j : ℕ) → (piece y).class ≡ class.Comment
    → Margins (piece y).class (take (piece y).len y) (drop (piece y).len y)
    → (piece y).len ≡ before_line_end y → (j ≡ 0) ⊎ ((piece (drop (piece y).len y)).len ≤ j)
    → j ≤ length (drop (piece y).len y)
    → IsClear y ((piece y).len + j)
comment-clear y j is margins len edge within =
    let own : Margins class.Comment (take (piece y).len y) (drop (piece y).len y) =
    subst (λ (kind : Class). Margins kind (take (piece y).len y) (drop (piece y).len y)) is margins in
    let P : ℕ → Type 0 = λ n.
    Breaks (drop n y) → (j ≡ 0) ⊎ ((piece (drop n y)).len ≤ j) → j ≤ length (drop n y) → IsClear y (n + j) in
    subst P (sym len) (clear y j) own.1 edge within

further : (source y : Bytes) (s m : State) (at : Loc) → Stands source s → 0 < length y → y ≡ drop s.place.offset source
    → spec.step (piece y).class (take (piece y).len y) s ≡ Ok m → Cut source (drop (piece y).len y) m at
    → Cut source y s at
further source y s m at stands some left step cut =
    let fits = piece-cut y some in
    let len : ℕ = (piece y).len in
    let rest : Bytes = drop len y in
    let next = stepped source y s m stands some left step in
    let text-len : length (take len y) ≡ len = length-take-fits len y fits.within in
    let j : ℕ = len + cut.j in
    let w : Bytes = take j y in
    let up : length rest ≡ length y - len = length-drop-is len y in
    let within : j ≤ length y = omega (arith, cut.within, up, fits.within) in
    let at-clear : (piece y).class ≡ class.Comment → IsClear y j = λ is.
    comment-clear y cut.j is (piece-margins y some) (comment-len y is) cut.edge cut.within in
    let same : piece w ≡ piece y =
    piece-kept j y some (omega (arith, fits.moves)) (omega arith)
    (step-good (piece y).class (take len y) s m step) at-clear in
    let nonempty : 0 < length w = omega (arith, length-take-fits j y within, fits.moves) in
    let text : take len w ≡ take len y = take-take len j y (omega arith) in
    let stepped-w : spec.step (piece y).class (take len w) s ≡ Ok m = ap (λ z. spec.step (piece y).class z s) text
    ∙ step in
    let less : j - len ≡ cut.j = omega arith in
    let rest-is : drop len w ≡ take cut.j rest = drop-take len j y ∙ ap (λ i. take i rest) less in
    let over : s.place.offset + j ≡ m.place.offset + cut.j = omega (arith, next.moves, text-len) in
    record {
      j = j;
      within = within;
      edge = inr (omega arith);
      t = cut.t;
      runs = layout-cut w (piece y) s m (sym same) nonempty fits.moves stepped-w
          ∙ ap (λ z. spec.layout (pieces z) m) rest-is ∙ cut.runs;
      place = cut.place ∙ ap (λ i. (passed start (take i source)).loc) (sym over);
    }

by-place : (source z : Bytes) (s : State) (at : Loc) → Stands source s → (at ≡ s.place.loc) ⊎ IsTab s.line at
    → Cut source z s at ⊎ IsTab s.line at
by-place source z s at stands (inl is) = inl (cut-here source z s at stands is)
by-place source z s at stands (inr tab) = inr tab

refused-cut : (n : ℕ) (source z : Bytes) (s : State) (at : Loc) → length z ≤ n → Stands source s
    → z ≡ drop s.place.offset source
    → spec.layout (pieces z) s ≡ Err at → Cut source z s at ⊎ IsTab s.line at
refused-cut n source [] s at le stands left e = not-ok s at (sym (layout-end [] s refl) ∙ e)
refused-cut zero source (b ∷ z) s at le stands left e = absurd (omega arith)
refused-cut (suc n) source (b ∷ z) s at le stands left e =
    let y : Bytes = b ∷ z in
    let some : 0 < length y = omega arith in
    let cut = piece-cut y some in
    let len : ℕ = (piece y).len in
    let kind : Class = (piece y).class in
    elim (and_then-err (spec.step kind (take len y) s) (spec.layout (pieces (drop len y))) at
    (layout-next y s (Err at) some cut.moves e)) [
      | inl h ↦ by-place source y s at stands (step-err source kind (take len y) s at stands h)
      | inr h ↦
          let next = stepped source y s h.0 stands some left h.1 in
          elim (refused-cut n source (drop len y) h.0 at
          (omega (arith, length-drop-is len y, cut.moves, le)) next.stands next.left h.2) [
            | inl there ↦ inl (further source y s h.0 at stands some left h.1 there)
            | inr tab ↦ by-place source y s at stands (step-tab kind (take len y) s h.0 at h.1 tab)
          ]
    ]

first-line : spec.first.line ≡ Fresh 0 None
unfolding spec.first
first-line = refl

front-by : (source : Bytes) (at : Loc) → Cut source source spec.first at ⊎ IsTab spec.first.line at
    → IsBehindFront source at
front-by source at (inl cut) =
    let same : spec.first.place.offset + cut.j ≡ cut.j = omega (arith, first-at) in
    record {
      front = take cut.j source;
      rest = drop cut.j source;
      parts = sym (take-append-drop cut.j source);
      place = cut.place ∙ ap (λ i. (passed start (take i source)).loc) same;
      viable = viable (take cut.j source) cut.t cut.runs;
    }
front-by source at (inr tab) = no-tab 0 tab.0 at (sym first-line ∙ tab.1)

-- ---- the end of the source

finished-err : (source : Bytes) (s : State) (at : Loc) → Stands source s → spec.finished s ≡ Err at → at ≡ s.place.loc
unfolding spec.finished
finished-err source s at stands e =
    let f : State → Outcome = λ u. and_then (spec.put_dedents (length u.indents) u) (spec.put k.End []) in
    elim (and_then-err (spec.ended [] s s.line) f at e) [
      | inl h ↦ ended-err [] s s.line at h
      | inr h ↦
          let fine = ended-fine source s.place stands.inside stands.placed [] s h.0 s.line (stands.good, refl)
          (at-nothing source s.place.offset stands.inside) refl (inl refl) h.1 in
          let loc : h.0.place.loc ≡ s.place.loc = ap (λ (p : Place). p.loc) fine.1 in
          elim (and_then-err (spec.put_dedents (length h.0.indents) h.0) (spec.put k.End []) at h.2) [
            | inl d ↦ dedents-err (length h.0.indents) h.0 at d ∙ loc
            | inr d ↦ put-err k.End [] d.0 at d.2
                ∙ (ap (λ (p : Place). p.loc) (dedents-place (length h.0.indents) h.0 d.0 d.1) ∙ loc)
          ]
    ]

-- what stands before a refused place
pub behind-front : (source : Bytes) (at : Loc) → tokens_of source ≡ Err at → IsBehindFront source at
unfolding tokens_of
behind-front source at e =
    let f : State → Result Tokens Loc = λ t. Ok (gathered t) in
    elim (and_then-err (spec.layout (pieces source) spec.first) (λ s. and_then (spec.finished s) f) at e) [
      | inl h ↦ front-by source at (refused-cut (length source) source source spec.first at (omega arith)
          (first-stands source)
          (sym (ap (λ i. drop i source) first-at)) h)
      | inr h ↦
          let reads = reads-whole source h.0 h.1 in
          elim (and_then-err (spec.finished h.0) f at h.2) [
            | inl d ↦ record {
              front = source;
              rest = [];
              parts = sym (append-nil source);
              place = finished-err source h.0 at reads.stands d ∙ ap (λ (p : Place). p.loc) reads.stands.placed
                  ∙ ap (λ i. (passed start (take i source)).loc) reads.whole
                  ∙ ap (λ z. (passed start z).loc) (take-whole source);
              viable = viable source h.0 h.1;
            }
            | inr d ↦ not-ok (gathered d.0) at d.2
          ]
    ]
