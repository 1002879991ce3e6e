-- The End stands behind every note, so each note has a first token behind it.
use Rattle.std.proofs.Common.{◌≡◌, ℕ, ◌≤◌, Bool, true, false, cond, leb, not, ◌&&◌, List, [], ◌∷◌, length, refl, ap}
use Rattle.std.proofs.Common.{sym, subst, arith}
use Rattle.std.proofs.lemmas.Bool.Decides.{nat_tests}
use Rattle.std.proofs.lemmas.Grind.{common_steps}
use Rattle.std.specs.List.{AllByRecursion, slice_range}
use Rattle.py_lex.specs.Bytes.{Bytes}
use Rattle.py_lex.specs.Lexed.{text_of, Spells, IsSpan, EndsOnce, MakesUp, IsLexed}
use Rattle.py_lex.specs.declared.token.Token.{Token}
use Rattle.py_lex.specs.declared.token.TokenKind.{TokenKind}
use Rattle.py_lex.specs.declared.token.TokenKind.TheVariants as k
use Rattle.py_lex.specs.declared.token.Tokens.{Tokens}
use Rattle.py_parse.specs.declared.tree.Module.{Module}
use Rattle.py_parse.specs.declared.tree.Note.{Note}
use Rattle.py_parse.specs.Notes.{is_move, is_behind, next_of, notes_of, IsFirstBehind, AreFollowed}
use Rattle.py_parse.specs.Parsed.{IsTree}

found-by : (b : Bool) (note t : Token) (ts : List Token) → is_behind note t ≡ b
    → (b ≡ false → IsFirstBehind note ts (next_of note ts)) →
    IsFirstBehind note (t ∷ ts) (cond b t (next_of note ts))
found-by true note t ts e h = record { before = []; after = ts; parts = refl; behind = e; first = tt }
found-by false note t ts e h =
    let later = h refl in
    record {
      before = t ∷ later.before;
      after = later.after;
      parts = ap (λ (xs : List Token). t ∷ xs) later.parts;
      behind = later.behind;
      first = (e, later.first);
    }

-- a token without text ends where it starts
empty-span : (source : Bytes) (start end : ℕ) → start ≤ end → end ≤ length source → slice_range source start end ≡ []
    → start ≡ end
empty-span source start end forward within e =
    let none : length (slice_range source start end) ≡ 0 = ap length e in
    grind (arith, common_steps, none)

spelled-end : (kind : TokenKind) (text : Bytes) → kind ≡ k.End → Spells kind text → text ≡ []
spelled-end kind text e s = subst (λ (x : TokenKind). Spells x text) e s

behind-test : (end start : ℕ) (kind : TokenKind) → end ≤ start → kind ≡ k.End
    → (leb end start && not (is_move kind)) ≡ true
behind-test end start kind h e =
    let still : is_move kind ≡ false = ap is_move e in
    grind (arith, nat_tests, still)

end-behind : (source : Bytes) (note t : Token) → note.end ≤ length source → t.kind ≡ k.End → t.end ≡ length source
    → IsSpan source t →
    is_behind note t ≡ true
end-behind source note t within is_end at_end span =
    let nothing : slice_range source t.start t.end ≡ [] = spelled-end t.kind (text_of source t) is_end span.spelled in
    let flat : t.start ≡ t.end = empty-span source t.start t.end span.forward span.within nothing in
    let after : note.end ≤ t.start = omega (arith, flat, at_end, within) in
    behind-test note.end t.start t.kind after is_end

clash : (b : Bool) → b ≡ true → b ≡ false → ⊥
clash b is other = cc

-- what a note that lies in the source speaks of is the first token behind it
pub first_behind : (source : Bytes) (note : Token) (at : ℕ) (ts : List Token) → note.end ≤ length source → EndsOnce ts →
    MakesUp source at ts (length source) → AllByRecursion (IsSpan source) ts → IsFirstBehind note ts (next_of note ts)
first_behind source note at [] within ends up spans = absurd ends
first_behind source note at (t ∷ []) within ends up spans =
    let is : is_behind note t ≡ true = end-behind source note t within ends up.2 spans.0 in
    found-by (is_behind note t) note t [] refl (λ e. absurd (clash (is_behind note t) is e))
first_behind source note at (t ∷ u ∷ ts) within ends up spans =
    found-by (is_behind note t) note t (u ∷ ts) refl
    (λ e. first_behind source note t.end (u ∷ ts) within ends.1 up.2 spans.1)

followed : (source : Bytes) (tokens : List Token) (notes : List Token) → EndsOnce tokens
    → MakesUp source 0 tokens (length source) →
    AllByRecursion (IsSpan source) tokens → AllByRecursion (IsSpan source) notes
    → AreFollowed source tokens notes (notes_of source tokens notes)
followed source tokens [] ends up spans note_spans = tt
followed source tokens (note ∷ notes) ends up spans note_spans =
    let first : IsFirstBehind note tokens (next_of note tokens) =
    first_behind source note 0 tokens note_spans.0.within ends up spans in
    (record { text_is = refl; loc_is = refl; next_is = first }, followed source tokens notes ends up spans note_spans.1)

pub tree_followed : (source : Bytes) (tokens : Tokens) → IsLexed source tokens → (m : Module) → IsTree source tokens m →
    AreFollowed source tokens.tokens tokens.notes m.notes
tree_followed source tokens lexed m is =
    let all = followed source tokens.tokens tokens.notes lexed.ends_once lexed.makes_up lexed.spans lexed.note_spans in
    subst (λ (ns : List Note). AreFollowed source tokens.tokens tokens.notes ns) (sym is.notes) all
