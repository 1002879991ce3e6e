-- One pass over the notes and the tokens gives each note the token that it speaks of.
use Rattle.std.proofs.Common.{◌≡◌, ℕ, ◌≤◌, Bool, true, false, cond, leb, not, ◌&&◌, ◌-◌, ◌<◌, List, [], ◌∷◌, ◌++◌}
use Rattle.std.proofs.Common.{length, take, drop, slice_index_or, refl, ap, sym, subst, ◌∙◌, arith}
use Rattle.std.proofs.lemmas.List.{take_rest, append_assoc}
use Rattle.std.proofs.lemmas.Bool.Decides.{nat_tests}
use Rattle.std.specs.List.{AllByRecursion}
use Rattle.py_lex.specs.Bytes.{Bytes}
use Rattle.py_lex.specs.Lexed.{text_of}
use Rattle.py_lex.specs.declared.token.Token.{Token}
use Rattle.py_parse.specs.declared.tree.Note.{Note}
use Rattle.py_parse.specs.Notes.{is_move, is_behind, next_of, note_of, notes_of}
use Rattle.py_parse.specs.NoteLists.{from_behind, first_or, IsRising}

abbrev pub spoken : Bytes → Token → Token → Note
spoken source note next = record { text = text_of source note; loc = note.loc; next = next }

first-by : (b : Bool) (note t : Token) (ts : List Token) → next_of note ts ≡ first_or note (from_behind note ts) →
    cond b t (next_of note ts) ≡ first_or note (cond b (t ∷ ts) (from_behind note ts))
first-by true note t ts h = refl
first-by false note t ts h = h

-- what a note speaks of is the first of the tokens from behind it on
pub next_first : (note : Token) (ts : List Token) → next_of note ts ≡ first_or note (from_behind note ts)
next_first note [] = refl
next_first note (t ∷ ts) = first-by (is_behind note t) note t ts (next_first note ts)

later-test : (a b start : ℕ) (move : Bool) → a ≤ b → (leb a start && move) ≡ false → (leb b start && move) ≡ false
later-test a b start true h e = grind (arith, nat_tests)
later-test a b start false h e = grind (arith, nat_tests)

skip-by : (b : Bool) (later t : Token) (note : Token) (ts : List Token) → (b ≡ false → is_behind later t ≡ false) →
    next_of later (from_behind note ts) ≡ next_of later ts
    → next_of later (cond b (t ∷ ts) (from_behind note ts)) ≡ next_of later (t ∷ ts)
skip-by true later t note ts test h = refl
skip-by false later t note ts test h = h ∙ ap (λ c. cond c t (next_of later ts)) (sym (test refl))

-- a token that doesn't stand behind a note stands behind no later one
pub skip : (note later : Token) (ts : List Token) → note.end ≤ later.end
    → next_of later (from_behind note ts) ≡ next_of later ts
skip note later [] h = refl
skip note later (t ∷ ts) h =
    skip-by (is_behind note t) later t note ts (later-test note.end later.end t.start (not (is_move t.kind)) h)
    (skip note later ts h)

pub skip_all : (source : Bytes) (note : Token) (ts notes : List Token)
    → AllByRecursion (λ later. note.end ≤ later.end) notes →
    notes_of source (from_behind note ts) notes ≡ notes_of source ts notes
skip_all source note ts [] h = refl
skip_all source note ts (later ∷ notes) h =
    let first : note_of source (from_behind note ts) later ≡ note_of source ts later =
    ap (λ (next : Token). record { text = text_of source later; loc = later.loc; next = next })
    (skip note later ts h.0) in
    let others = skip_all source note ts notes h.1 in
    ap (λ (x : Note). x ∷ notes_of source (from_behind note ts) notes) first
    ∙ ap (λ (xs : List Note). note_of source ts later ∷ xs) others

-- one turn: the next note, and the others by the tokens from behind it on
pub turn : (source : Bytes) (note : Token) (ts notes : List Token) → IsRising (note ∷ notes) →
    notes_of source ts (note ∷ notes)
    ≡ spoken source note (first_or note (from_behind note ts)) ∷ notes_of source (from_behind note ts) notes
turn source note ts notes rising =
    let first : note_of source ts note ≡ spoken source note (first_or note (from_behind note ts)) =
    ap (λ (next : Token). record { text = text_of source note; loc = note.loc; next = next }) (next_first note ts) in
    ap (λ (x : Note). x ∷ notes_of source ts notes) first
    ∙ ap (λ (xs : List Note). spoken source note (first_or note (from_behind note ts)) ∷ xs)
    (sym (skip_all source note ts notes rising.0))

-- the notes so far and those to come are all of them, and those to come rise
abbrev pub IsOnTheWay : Bytes → List Note → List Note → List Token → List Token → Type 0
IsOnTheWay source all found ts left = record { whole : found ++ notes_of source ts left ≡ all; rising : IsRising left }

turned-cons : (source : Bytes) (all found : List Note) (ts more : List Token) (note : Token) →
    found ++ notes_of source ts (note ∷ more) ≡ all → IsRising (note ∷ more) →
    IsOnTheWay source all (found ++ spoken source note (first_or note (from_behind note ts)) ∷ [])
    (from_behind note ts) more
turned-cons source all found ts more note whole rising = record {
  whole = append_assoc found _ _ ∙ (ap (λ (xs : List Note). found ++ xs) (sym (turn source note ts more rising))
      ∙ whole);
  rising = rising.1;
}

-- a turn of the loop
pub turned : (source : Bytes) (all found pushed : List Note) (ts behind left : List Token) (d : Token) (n : Note)
    (next : Token) →
    0 < length left → found ++ notes_of source ts left ≡ all → IsRising left →
    behind ≡ from_behind (slice_index_or left 0 d) ts → next ≡ first_or (slice_index_or left 0 d) behind →
    n ≡ spoken source (slice_index_or left 0 d) next → pushed ≡ found ++ n ∷ [] →
    IsOnTheWay source all pushed behind (take (length left - 1) (drop 1 left))
turned source all found pushed ts behind [] d n next some whole rising b f e p = absurd (omega arith)
turned source all found pushed ts behind (note ∷ more) d n next some whole rising b f e p =
    let rest : take (length (note ∷ more) - 1) (drop 1 (note ∷ more)) ≡ more = take_rest (note ∷ more) 1 in
    let is : n ≡ spoken source note (first_or note (from_behind note ts)) =
    e ∙ (ap (λ (x : Token). spoken source note x) f
    ∙ ap (λ (xs : List Token). spoken source note (first_or note xs)) b) in
    let push : pushed ≡ found ++ spoken source note (first_or note (from_behind note ts)) ∷ [] = p
    ∙ ap (λ (x : Note). found ++ x ∷ []) is in
    subst (λ (xs : List Token). IsOnTheWay source all pushed behind xs) (sym rest)
    (subst (λ (xs : List Token). IsOnTheWay source all pushed xs more) (sym b)
    (subst (λ (xs : List Note). IsOnTheWay source all xs (from_behind note ts) more) (sym push)
    (turned-cons source all found ts more note whole rising)))
