-- Columns that rise, turns of tokens, and what stands before a place.
use Rattle.std.proofs.Common.{◌≡◌, ℕ, zero, suc, ◌+◌, ◌-◌, ◌<◌, ◌≤◌, inl, inr, Bool, true, false, cond, nat_le, ◌&&◌}
use Rattle.std.proofs.Common.{List, [], ◌∷◌, ◌++◌, length, take, fold, count_by, slice_index, refl, ap, sym, subst, ◌∙◌}
use Rattle.std.proofs.Common.{append_assoc, append-nil, arith}
use Rattle.std.proofs.lemmas.Bool.{false≢true}
use Rattle.std.proofs.lemmas.Bool.Decides.{nat_tests}
use Rattle.std.specs.List.{AllByRecursion}
use Rattle.py_lex.specs.declared.token.TokenKind.{TokenKind}
use Rattle.py_lex.specs.declared.token.TokenKind.TheVariants as k
use Rattle.py_lex.specs.declared.token.Token.{Token}
use Rattle.py_lex.specs.declared.piece.Class.{Class}
use Rattle.py_lex.specs.declared.piece.Class.TheVariants as class
use Rattle.py_lex.specs.Bytes.{Bytes}
use Rattle.py_lex.specs.Words.{is_note}
use Rattle.py_lex.specs.Layout.{start, passed, last_of, kept, token_at}
use Rattle.py_lex.specs.Laws.{Turn, Turns, is_indent, is_dedent, IsBalanced, IsInBlocks, kind_before, is_newline}
use Rattle.py_lex.specs.Laws.{note_at, notes_among}
use Rattle.py_lex.proofs.Choices.{by_test}
use Rattle.py_lex.proofs.GoodLaws.{all-snoc}

-- ---- counting

accum : {X : Type 0} (f : X → ℕ) (n : ℕ) (xs : List X) → fold (λ a x. a + f x) n xs ≡ n + fold (λ a x. a + f x) 0 xs
accum f n [] = omega arith
accum f n (x ∷ xs) = omega (arith, accum f (n + f x) xs, accum f (0 + f x) xs)

count-more : {X : Type 0} (p : X → Bool) (x : X) (xs : List X) → count_by p (x ∷ xs) ≡ cond (p x) 1 0 + count_by p xs
count-more p x xs = let e = accum (λ y. cond (p y) 1 0) (0 + cond (p x) 1 0) xs in omega (arith, e)

pub kept-fits : (n : ℕ) (xs : List ℕ) → kept n xs ≤ length xs
kept-fits n [] = omega arith
kept-fits n (x ∷ xs) =
    by_test (nat_le x n)
    (λ e. omega (arith, count-more (λ i. nat_le i n) x xs, ap {B = ℕ} (λ (v : Bool). cond v 1 0) e, kept-fits n xs))
    (λ e. omega (arith, count-more (λ i. nat_le i n) x xs, ap {B = ℕ} (λ (v : Bool). cond v 1 0) e, kept-fits n xs))

-- ---- columns

abbrev pub Rising : List ℕ → Type 0
Rising [] = Unit {0}
Rising (x ∷ xs) = AllByRecursion (λ y. x < y) xs × Rising xs

last-one : (x : ℕ) → last_of (x ∷ []) ≡ x
last-one x = let e : length (x ∷ []) - 1 ≡ 0 = omega arith in ap (slice_index (x ∷ [])) e

last-more : (x y : ℕ) (ys : List ℕ) → last_of (x ∷ y ∷ ys) ≡ last_of (y ∷ ys)
last-more x y ys =
    let e : length (x ∷ y ∷ ys) - 1 ≡ suc (length (y ∷ ys) - 1) = omega arith in ap (slice_index (x ∷ y ∷ ys)) e

first-below : (x : ℕ) (xs : List ℕ) (n : ℕ) → Rising (x ∷ xs) → last_of (x ∷ xs) < n → x < n
first-below x [] n rising below = omega (arith, below, last-one x)
first-below x (y ∷ ys) n rising below =
    let more : y < n = first-below y ys n rising.1 (omega (arith, below, last-more x y ys)) in
    let step : x < y = rising.0.0 in omega arith

rest-below : (x : ℕ) (xs : List ℕ) (n : ℕ) → last_of (x ∷ xs) < n → last_of xs < n
rest-below x [] n below =
    let none : last_of [] ≡ 0 = refl in omega (arith, below, none)
rest-below x (y ∷ ys) n below = omega (arith, below, last-more x y ys)

pub rising-snoc : (xs : List ℕ) (n : ℕ) → Rising xs → last_of xs < n → Rising (xs ++ n ∷ [])
rising-snoc [] n rising below = (tt, tt)
rising-snoc (x ∷ xs) n rising below = (
  all-snoc (λ y. x < y) xs n rising.0 (first-below x xs n rising below),
  rising-snoc xs n rising.1
      (rest-below x xs n below),
)

pub last-snoc : (xs : List ℕ) (n : ℕ) → last_of (xs ++ n ∷ []) ≡ n
last-snoc [] n = last-one n
last-snoc (x ∷ []) n = last-more x n [] ∙ last-one n
last-snoc (x ∷ y ∷ ys) n = last-more x y (ys ++ n ∷ []) ∙ last-snoc (y ∷ ys) n

all-take : {X : Type 0} (P : X → Type 0) (m : ℕ) (xs : List X) → AllByRecursion P xs → AllByRecursion P (take m xs)
all-take P zero xs h = tt
all-take P (suc m) [] h = tt
all-take P (suc m) (x ∷ xs) h = (h.0, all-take P m xs h.1)

pub rising-take : (m : ℕ) (xs : List ℕ) → Rising xs → Rising (take m xs)
rising-take zero xs rising = tt
rising-take (suc m) [] rising = tt
rising-take (suc m) (x ∷ xs) rising = (all-take (λ y. x < y) m xs rising.0, rising-take m xs rising.1)

all-index : (x : ℕ) (xs : List ℕ) (i : ℕ) → AllByRecursion (λ y. x < y) xs → i < length xs → x < slice_index xs i
all-index x [] i all below = absurd (omega arith)
all-index x (y ∷ ys) zero all below = all.0
all-index x (y ∷ ys) (suc i) all below = all-index x ys i all.1 (omega arith)

-- the columns that a Dedent closes are those behind the ones that are kept
pub beyond : (n : ℕ) (xs : List ℕ) (i : ℕ) → Rising xs → kept n xs ≤ i → i < length xs → n < slice_index xs i
beyond n [] i rising from below = absurd (omega arith)
beyond n (x ∷ xs) zero rising from below =
    by_test (nat_le x n)
    (λ e. absurd (omega (arith, from, count-more (λ i. nat_le i n) x xs, ap {B = ℕ} (λ (v : Bool). cond v 1 0) e)))
    (λ e. grind (arith, nat_tests, e))
beyond n (x ∷ xs) (suc i) rising from below =
    by_test (nat_le x n)
    (λ e.
    let more : kept n xs ≤ i =
    omega (arith, from, count-more (λ i. nat_le i n) x xs, ap {B = ℕ} (λ (v : Bool). cond v 1 0) e) in
    beyond n xs i rising.1 more (omega arith))
    (λ e.
    let first : n < x = grind (arith, nat_tests, e) in
    let later : x < slice_index xs i = all-index x xs i rising.0 (omega arith) in omega arith)

pub take-next : (i : ℕ) (xs : List ℕ) → i < length xs → take (suc i) xs ≡ take i xs ++ slice_index xs i ∷ []
take-next i [] below = absurd (omega arith)
take-next zero (x ∷ xs) below = refl
take-next (suc i) (x ∷ xs) below = ap (λ ys. x ∷ ys) (take-next i xs (omega arith))

pub take-whole : {X : Type 0} (xs : List X) → take (length xs) xs ≡ xs
take-whole [] = refl
take-whole (x ∷ xs) = ap (λ ys. x ∷ ys) (take-whole xs)

-- ---- turns

pub turns-snoc : (source : Bytes) (before : TokenKind) (columns : List ℕ) (ts : List Token) (last : TokenKind)
    (left : List ℕ) (t : Token)
    (left' : List ℕ) → Turns source before columns ts last left → Turn source last left t.kind t.start left'
    → Turns source before columns (ts ++ t ∷ []) t.kind left'
turns-snoc source before columns [] last left t left' h turn =
    let P : TokenKind → Type 0 = λ b. Turn source b columns t.kind t.start left' in
    let Q : List ℕ → Type 0 = λ c. Turn source last c t.kind t.start left' in
    (left', subst P (sym h.0) (subst Q (sym h.1) turn), (refl, refl))
turns-snoc source before columns (u ∷ ts) last left t left' h turn =
    (h.0, h.1, turns-snoc source u.kind h.0 ts last left t left' h.2 turn)

-- the kind of the last token
pub turns-last : (source : Bytes) (before : TokenKind) (columns : List ℕ) (ts : List Token) (last : TokenKind)
    (left : List ℕ) (at : ℕ)
    → Turns source before columns ts last left → AllByRecursion (λ t. t.end ≤ at) ts → kind_before before ts at ≡ last
turns-last source before columns [] last left at h ended = h.0
turns-last source before columns (t ∷ ts) last left at h ended =
    let le : t.end ≤ at = ended.0 in
    let is : nat_le t.end at ≡ true = grind (arith, nat_tests, le) in
    ap (λ (v : Bool). cond v (kind_before t.kind ts at) before) is
    ∙ turns-last source t.kind h.0 ts last left at h.2 ended.1

length-snoc : (xs : List ℕ) (x : ℕ) → length (xs ++ x ∷ []) ≡ length xs + 1
length-snoc [] x = omega arith
length-snoc (y ∷ xs) x = omega (arith, length-snoc xs x)

-- an Indent adds a column and a Dedent takes one
turn-counts : (source : Bytes) (before : TokenKind) (columns : List ℕ) (kind : TokenKind) (at : ℕ) (left : List ℕ)
    → Turn source before columns kind at left
    → length columns + cond (is_indent kind) 1 0 ≡ length left + cond (is_dedent kind) 1 0
turn-counts source before columns k.Indent at left h = omega (arith, ap length h.4, length-snoc columns h.0)
turn-counts source before columns k.Dedent at left h = omega (arith, ap length h.1, length-snoc left h.0)
turn-counts source before columns k.Newline at left h = omega (arith, ap length h.0)
turn-counts source before columns k.End at left h = omega (arith, ap length h.0)
turn-counts source before columns _ at left h = omega (arith, ap length h.0)

turns-count : (source : Bytes) (before : TokenKind) (columns : List ℕ) (ts : List Token) (last : TokenKind)
    (left : List ℕ)
    → Turns source before columns ts last left
    → length columns + count_by (λ (t : Token). is_indent t.kind) ts ≡ length left + count_by
    (λ (t : Token). is_dedent t.kind) ts
turns-count source before columns [] last left h = omega (arith, ap length h.1)
turns-count source before columns (t ∷ ts) last left h =
    let first = turn-counts source before columns t.kind t.start h.0 h.1 in
    let rest = turns-count source t.kind h.0 ts last left h.2 in
    let indents = count-more (λ (u : Token). is_indent u.kind) t ts in
    let dedents = count-more (λ (u : Token). is_dedent u.kind) t ts in
    omega (arith, first, rest, indents, dedents)

pub balanced : (source : Bytes) (ts : List Token) → IsInBlocks source ts → IsBalanced ts
balanced source ts h = omega (arith, turns-count source k.Newline [] ts k.End [] h)

-- ---- notes

before-more : (before : TokenKind) (ts more : List Token) (at : ℕ) → AllByRecursion (λ t. at < t.end) more
    → kind_before before (ts ++ more) at ≡ kind_before before ts at
before-more before [] [] at later = refl
before-more before [] (t ∷ more) at later =
    let lt : at < t.end = later.0 in
    let is : nat_le t.end at ≡ false = grind (arith, nat_tests, lt) in
    ap (λ (v : Bool). cond v (kind_before t.kind more at) before) is
before-more before (t ∷ ts) more at later =
    ap (λ (kind : TokenKind). cond (nat_le t.end at) kind before) (before-more t.kind ts more at later)

-- the bytes of some pieces
abbrev pub total : List (Class × Bytes) → ℕ
total [] = 0
total (p ∷ ps) = length p.1 + total ps

note-more : (source : Bytes) (ts more : List Token) (at : ℕ) (kind : Class) (text : Bytes)
    → AllByRecursion (λ t. at < t.end) more
    → note_at source (ts ++ more) at kind text ≡ note_at source ts at kind text
note-more source ts more at class.Comment text later =
    ap (λ (last : TokenKind). cond (is_note text && is_newline last)
    (token_at k.Note text (passed start (take at source)) ∷ []) [])
    (before-more k.Newline ts more at later)
note-more source ts more at _ text later = refl

all-later : (ts : List Token) (at bound : ℕ) → at < bound → AllByRecursion (λ t. bound ≤ t.end) ts
    → AllByRecursion (λ t. at < t.end) ts
all-later [] at bound lt all = tt
all-later (t ∷ ts) at bound lt all =
    let le : bound ≤ t.end = all.0 in let lt' : at < t.end = omega arith in (lt', all-later ts at bound lt all.1)

pub among-more : (source : Bytes) (ts more : List Token) (at : ℕ) (ps : List (Class × Bytes)) (bound : ℕ)
    → AllByRecursion (λ (p : Class × Bytes). 1 ≤ length p.1) ps → at + total ps ≤ bound
    → AllByRecursion (λ t. bound ≤ t.end) more
    → notes_among source (ts ++ more) at ps ≡ notes_among source ts at ps
among-more source ts more at [] bound some fits later = refl
among-more source ts more at (p ∷ ps) bound some fits later =
    let one : 1 ≤ length p.1 = some.0 in
    let lt : at < bound = omega arith in
    ap (λ ns. ns ++ notes_among source (ts ++ more) (at + length p.1) ps)
    (note-more source ts more at p.0 p.1 (all-later more at bound lt later))
    ∙ ap (λ ns. note_at source ts at p.0 p.1 ++ ns) (among-more source ts more (at + length p.1) ps bound some.1
    (omega arith) later)

pub among-snoc : (source : Bytes) (ts : List Token) (at o : ℕ) (ps : List (Class × Bytes)) (kind : Class)
    (text : Bytes) → at + total ps ≡ o
    → notes_among source ts at (ps ++ (kind, text) ∷ []) ≡ notes_among source ts at ps ++ note_at source ts o kind text
among-snoc source ts at o [] kind text e =
    let same : at ≡ o = omega (arith, e) in
    append-nil (note_at source ts at kind text) ∙ ap (λ i. note_at source ts i kind text) same
among-snoc source ts at o (p ∷ ps) kind text e =
    let same : at + length p.1 + total ps ≡ o = omega (arith, e) in
    ap (λ ns. note_at source ts at p.0 p.1 ++ ns) (among-snoc source ts (at + length p.1) o ps kind text same)
    ∙ sym (append_assoc (note_at source ts at p.0 p.1) (notes_among source ts (at + length p.1) ps)
    (note_at source ts o kind text))

pub total-snoc : (ps : List (Class × Bytes)) (kind : Class) (text : Bytes)
    → total (ps ++ (kind, text) ∷ []) ≡ total ps + length text
total-snoc [] kind text = omega arith
total-snoc (p ∷ ps) kind text = omega (arith, total-snoc ps kind text)
