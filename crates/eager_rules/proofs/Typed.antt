-- A run of a well-typed program keeps the kinds of what names stand for and of the words of buffers, and how many
-- words each buffer has. A row is a buffer's kind and its number of words.
use Rattle.std.proofs.Common.{arith, ◌≡◌, ◌∙◌, refl, ℕ, zero, suc, ℤ, pos}
use Rattle.std.proofs.Common.{List, [], ◌∷◌, ◌++◌, length, slice_index_or, slice_get}
use Rattle.std.proofs.Common.{Some, Result, Ok, Err}
use Rattle.std.proofs.lemmas.List.Elements.{All-head, All-replicate, All-map, All-set}
use Rattle.std.proofs.lemmas.List.{length-set}
use Rattle.std.specs.Prelude.{slice_set}
use Rattle.std.specs.List.{All}
use Rattle.krn_base.specs.declared.fault.Fault.{Fault}
use Rattle.krn_base.specs.declared.kind.Kind.{Kind}
use Rattle.krn_base.specs.declared.place.Loc.{Loc}
use Rattle.array_ops.specs.Arrays.{words_of, word_at, with_word, with_words, elements_at}
use Rattle.array_ops.specs.Elements.{Bound, Unbound, WordOf, ArrayOf, operand_elements}
use Rattle.eager_rules.proofs.Each.{each_get, each_set, each_push, each_last}
use Rattle.eager_rules.proofs.Each.{extends_refl, extends_push, extends_get}
use Rattle.eager_rules.proofs.KindLaws.{IsResult, zero_of}
use Rattle.eager_rules.specs.Fits.{IsOfKind}
use Rattle.eager_rules.specs.TypedStates.{Extends, Row, Holds, HoldAll, LiesIn, OfType, OfName, Given}
use Rattle.eager_rules.specs.Types.{Ty, type_of}
use Rattle.eager_rules.specs.Works.{Done, Made, Failed, Blocked, word_of, valued, changed, made_new, as_word}
use Rattle.eager_rules.specs.declared.program.Oper.{Oper}

-- names have types, one by one; without a name nothing is asked
abbrev pub Named : List Ty → List ℕ → List Ty → Type 0
Named names [] types = Unit {0}
Named names (name ∷ to) [] = ⊥
Named names (name ∷ to) (t ∷ types) = (slice_get names name ≡ Some t) × Named names to types

-- operands have types, as far as there are both
abbrev pub Reads : List Ty → List Oper → List Ty → Type 0
Reads names xs [] = Unit {0}
Reads names [] (t ∷ types) = Unit {0}
Reads names (x ∷ xs) (t ∷ types) = (type_of names x ≡ Some t) × Reads names xs types

-- what work comes to
abbrev pub DoneOf : List Row → List Ty → Done → Type 0
DoneOf rows types (Made buffers values) =
    (more : List Row) × Extends rows more × HoldAll more buffers × Given more types values
DoneOf rows types (Failed buffers fault at) = (more : List Row) × Extends rows more × HoldAll more buffers
DoneOf rows types (Blocked buffers) = (more : List Row) × Extends rows more × HoldAll more buffers

later_type : (rows more : List Row) → Extends rows more → (t : Ty) (v : Bound) → OfType rows t v → OfType more t v
later_type rows more e t Unbound h = h
later_type rows more e t (WordOf z) h = h
later_type rows more e t (ArrayOf a) h = (h.0, extends_get rows more a.buffer (t.0, h.0) e h.1)

pub later_name : (rows more : List Row) → Extends rows more → (t : Ty) (v : Bound) → OfName rows t v → OfName more t v
later_name rows more e t Unbound h = tt
later_name rows more e t (WordOf z) h = h
later_name rows more e t (ArrayOf a) h = later_type rows more e t (ArrayOf a) h

pub to_name : (rows : List Row) (t : Ty) (v : Bound) → OfType rows t v → OfName rows t v
to_name rows t Unbound h = tt
to_name rows t (WordOf z) h = h
to_name rows t (ArrayOf a) h = h

-- Words that are read.
or_zero : (kind : Kind) (words : List ℤ) (place : ℕ) → All (IsOfKind kind) words →
    IsOfKind kind (slice_index_or words place (pos 0))
or_zero kind [] place all = zero_of kind
or_zero kind (w ∷ words) zero all = All-head (IsOfKind kind) w words all
or_zero kind (w ∷ words) (suc place) all = or_zero kind words place
    (λ k d inside. all (suc k) d (omega (arith, inside)))

pub word_in : (rows : List Row) (buffers : List (List ℤ)) (kind : Kind) (buffer place : ℕ) → HoldAll rows buffers →
    LiesIn rows kind buffer → IsOfKind kind (word_at buffers buffer place)
word_in rows buffers kind buffer place held lies =
    or_zero kind (words_of buffers buffer) place
    (each_get Holds rows buffers buffer (kind, lies.0) [] held lies.1).1

pub words_in : (rows : List Row) (buffers : List (List ℤ)) (kind : Kind) (buffer : ℕ) (places : List ℕ) →
    HoldAll rows buffers → LiesIn rows kind buffer → All (IsOfKind kind) (elements_at buffers buffer places)
words_in rows buffers kind buffer places held lies =
    All-map (IsOfKind kind) (word_at buffers buffer) places
    (λ k d inside. word_in rows buffers kind buffer (slice_index_or places k d) held lies)

pub operand_words : (rows : List Row) (buffers : List (List ℤ)) (ns : List ℕ) (t : Ty) (v : Bound) →
    HoldAll rows buffers → OfType rows t v → All (IsOfKind t.0) (operand_elements buffers ns v)
operand_words rows buffers ns t Unbound held h = absurd h
operand_words rows buffers ns t (WordOf z) held h = All-replicate (IsOfKind t.0) _ z h.1
operand_words rows buffers ns t (ArrayOf a) held h = words_in rows buffers t.0 a.buffer _ held h

pub scalar_word : (rows : List Row) (t : Ty) (v : Bound) → OfType rows t v → IsOfKind t.0 (word_of v)
scalar_word rows t Unbound h = absurd h
scalar_word rows t (WordOf z) h = h.1
scalar_word rows t (ArrayOf a) h = zero_of t.0

-- Words that are stored.
pub held_word : (rows : List Row) (buffers : List (List ℤ)) (kind : Kind) (buffer place : ℕ) (z : ℤ) →
    HoldAll rows buffers → LiesIn rows kind buffer → IsOfKind kind z →
    HoldAll rows (with_word buffers buffer place z)
held_word rows buffers kind buffer place z held lies fits =
    let had : Holds (kind, lies.0) (words_of buffers buffer) =
    each_get Holds rows buffers buffer (kind, lies.0) [] held lies.1 in
    each_set Holds rows buffers buffer (kind, lies.0) (slice_set (words_of buffers buffer) place z) held lies.1 (
      length-set (words_of buffers buffer) place z ∙ had.0,
      All-set (IsOfKind kind) (words_of buffers buffer) place z fits had.1,
    )

pub held_words : (rows : List Row) (buffers : List (List ℤ)) (kind : Kind) (buffer : ℕ) (places : List ℕ)
    (words : List ℤ) → HoldAll rows buffers → LiesIn rows kind buffer → All (IsOfKind kind) words →
    HoldAll rows (with_words buffers buffer places words)
held_words rows buffers kind buffer [] words held lies all = held
held_words rows buffers kind buffer (place ∷ places) [] held lies all = held
held_words rows buffers kind buffer (place ∷ places) (z ∷ words) held lies all =
    held_words rows (with_word buffers buffer place z) kind buffer places words
    (held_word rows buffers kind buffer place z held lies (All-head (IsOfKind kind) z words all)) lies
    (λ k d inside. all (suc k) d (omega (arith, inside)))

-- What work comes to that leaves the buffers, changes them, or adds one.
pub gives_value : (rows : List Row) (types : List Ty) (buffers : List (List ℤ)) (at : Loc) (r : Result Bound Fault) →
    HoldAll rows buffers → ((v : Bound) → r ≡ Ok v → Given rows types (v ∷ [])) →
    DoneOf rows types (valued buffers at r)
gives_value rows types buffers at (Ok v) held h = (rows, extends_refl rows, held, h v refl)
gives_value rows types buffers at (Err fault) held h = (rows, extends_refl rows, held)

pub gives_word : (rows : List Row) (kind : Kind) (buffers : List (List ℤ)) (at : Loc) (r : Result ℤ Fault) →
    HoldAll rows buffers → IsResult kind r → DoneOf rows ((kind, 0) ∷ []) (valued buffers at (as_word r))
gives_word rows kind buffers at (Ok z) held h = (rows, extends_refl rows, held, ((refl, h), tt))
gives_word rows kind buffers at (Err fault) held h = (rows, extends_refl rows, held)

pub gives_change : (rows : List Row) (types : List Ty) (buffers : List (List ℤ)) (at : Loc)
    (r : Result (List (List ℤ)) Fault) → HoldAll rows buffers →
    ((after : List (List ℤ)) → r ≡ Ok after → HoldAll rows after) → DoneOf rows types (changed buffers at r)
gives_change rows types buffers at (Ok after) held h = (rows, extends_refl rows, h after refl, tt)
gives_change rows types buffers at (Err fault) held h = (rows, extends_refl rows, held)

pub gives_new : (rows : List Row) (t : Ty) (buffers : List (List ℤ)) (at : Loc) (words : List ℕ → List ℤ)
    (r : Result (List ℕ) Fault) → HoldAll rows buffers →
    ((ns : List ℕ) → All (IsOfKind t.0) (words ns)) →
    DoneOf rows (t ∷ []) (made_new buffers at words r)
gives_new rows t buffers at words (Err fault) held h = (rows, extends_refl rows, held)
gives_new rows t buffers at words (Ok ns) held h =
    let row : Row = (t.0, length (words ns)) in (
      rows ++ row ∷ [],
      extends_push rows row,
      each_push Holds rows buffers row (words ns) held (refl, h ns),
      ((length (words ns), each_last Holds rows buffers row held), tt),
    )

pub gives_nothing : (rows : List Row) (types : List Ty) (buffers : List (List ℤ)) → HoldAll rows buffers →
    DoneOf rows types (Blocked buffers)
gives_nothing rows types buffers held = (rows, extends_refl rows, held)
