-- What `clap` reads of the words behind a command is what the definition sorts them into.
use Rattle.std.proofs.Common.{◌≡◌, ℕ, Bool, true, false, ◌==◌, ◌⊎◌, inl, inr, List, [], ◌∷◌, ◌++◌, map, refl, sym, ap}
use Rattle.std.proofs.Common.{◌∙◌, subst, Option, Some, None, codes, fold, slice_get, append_assoc, append-nil}
use Rattle.std.proofs.Common.{drop, arith, zero, is_some, suc, String}
use Rattle.std.specs.List.{before_first, after_first}
use Rattle.std.specs.Option.{unwrap_or}
use Rattle.std.specs.Str.{IsUtf8, chars}
use Rattle.std.specs.String.{string_bytes}
use Rattle.std.specs.declared.alloc.Global.{Global}
use Rattle.std.proofs.lemmas.Bool.{eqb-true}
use Rattle.std.proofs.lemmas.Bool.Decides.{nat_tests}
use Rattle.std.proofs.lemmas.Str.{IsUtf8-drop, IsUtf8-string_bytes, IsCharBoundary-after_ascii, chars-encodes}
use Rattle.clap.specs.Faults.{walk_fault, settle_fault, default_fault, defaults_fault, check_fault, entered_fault}
use Rattle.clap.specs.Faults.{fault_of, is_simple_and_free}
use Rattle.clap.specs.Kinds.{Kinds, HasKind, or_else}
use Rattle.clap.specs.Lexer.{has_byte}
use Rattle.clap.specs.Matches.{found_of}
use Rattle.clap.specs.Simple.{App, HasMatchesOf, built, entered, is_simple, matches_of}
use Rattle.clap.specs.Values.{kind_of}
use Rattle.clap.specs.Walk.{Row, Rule, Walk, rows_of, walked, has_row, is_empty, with_default, finished, settled}
use Rattle.clap.specs.declared.error.kind.ErrorKind.{ErrorKind}
use Rattle.clap.specs.declared.error.kind.ErrorKind.TheVariants.{InvalidValue, OutOfMemory}
use Rattle.clap.specs.declared.error.Error.{Error}
use Rattle.clap.specs.declared.parser.matches.ArgMatches.{ArgMatches}
use Rattle.clap.proofs.WalkLemmas.{raw_values-rows}
use Rattle.clap.proofs.CutLemmas.{Lacks, before_first-at, after_first-at, list_any-at}
use Rattle.call_words.specs.CommandLine.{app, sorted_of, texts_at}
use Rattle.call_words.specs.Request.{Text, Sorted, after_name, by_option, sort, with_value, with_word}
use Rattle.call_words.proofs.Names.{named, valued, renamed}
use Rattle.call_words.proofs.Rows.{values, own_values, other_values}
use Rattle.call_words.proofs.Turns.{Late, nothing, a_word, a_value, shape, rules, at, behind, waits, waits_behind, full}
use Rattle.call_words.proofs.Turns.{with_more, Turns, Refuses, empty_word, hyphen, plain_word, hyphens, word_behind}
use Rattle.call_words.proofs.Turns.{option_alone, option_with, other_option, no_option, letters, empty_value}
use Rattle.call_words.proofs.Turns.{hyphen_value, plain_value, hyphens_wait, word_waits, letters_wait, option_waits}

-- ---- the walk over words

abbrev ended : Bool → Bool → Late → List Row → Walk
ended false first late rows = at first late rows
ended true first late rows = behind first late rows

abbrev unfinished : Bool → List Row → Walk
unfinished false rows = waits rows
unfinished true rows = waits_behind rows

abbrev over : Bool → Walk → List Text → Walk
over takes from words = fold (walked (rules takes) []) from words

-- The words pass, and in the end the rows have these words and values behind those that they had.
record IsWhole (takes : Bool) (sorted : Sorted) (rows : List Row) (from : Walk) (words : List Text) : Type 0 where
  fault : walk_fault (shape takes) [] from words ≡ []
  trailing : Bool
  first : Bool
  late : Late
  left : List Row
  ends : over takes from words ≡ ended trailing first late left
  words_are : values (codes "word") (full takes late left) ≡ values (codes "word") rows ++ sorted.0
  values_are : values (codes "workers") (full takes late left) ≡ values (codes "workers") rows ++ sorted.1

-- One of the words is refused.
record IsBroken (takes : Bool) (from : Walk) (words : List Text) : Type 0 where
  kind : ErrorKind
  kinds : Kinds
  fault : walk_fault (shape takes) [] from words ≡ kind ∷ kinds

-- The words pass, and in the end the option waits for its value.
record IsOpen (takes : Bool) (from : Walk) (words : List Text) : Type 0 where
  fault : walk_fault (shape takes) [] from words ≡ []
  taken : takes ≡ true
  trailing : Bool
  left : List Row
  ends : over takes from words ≡ unfinished trailing left

abbrev Agrees : Option Sorted → Bool → List Row → Walk → List Text → Type 0
Agrees None takes rows from words = IsBroken takes from words ⊎ IsOpen takes from words
Agrees (Some sorted) takes rows from words = IsWhole takes sorted rows from words

-- ---- one word more

module _ (takes : Bool) (from to : Walk) (word : Text) (rest : List Text) where
  fault_behind : Turns takes from word to
      → walk_fault (shape takes) [] from (word ∷ rest) ≡ walk_fault (shape takes) [] to rest
  unfolding walk_fault
  fault_behind t =
      ap (λ (k : Kinds). or_else k (walk_fault (shape takes) [] (walked (rules takes) [] from word) rest)) (t.0)
      ∙ ap (λ (w : Walk). walk_fault (shape takes) [] w rest) (t.1)

  over_behind : Turns takes from word to → over takes from (word ∷ rest) ≡ over takes to rest
  over_behind t = ap (λ (w : Walk). over takes w rest) (t.1)

  -- a word that passes
  onward : (o : Option Sorted) (rows : List Row) → Turns takes from word to → Agrees o takes rows to rest
      → Agrees o takes rows from (word ∷ rest)
  onward None rows t (inl b) =
      inl (record { kind = b.kind; kinds = b.kinds; fault = fault_behind t ∙ b.fault })
  onward None rows t (inr b) =
      inr (record {
        fault = fault_behind t ∙ b.fault;
        taken = b.taken;
        trailing = b.trailing;
        left = b.left;
        ends = over_behind t ∙ b.ends;
      })
  onward (Some sorted) rows t w = record {
    fault = fault_behind t ∙ w.fault;
    trailing = w.trailing;
    first = w.first;
    late = w.late;
    left = w.left;
    ends = over_behind t ∙ w.ends;
    words_are = w.words_are;
    values_are = w.values_are;
  }

-- a word that is refused
refused : (takes : Bool) (from : Walk) (word : Text) (rest : List Text) (rows : List Row) → Refuses takes from word
    → Agrees None takes rows from (word ∷ rest)
unfolding walk_fault
refused takes from word rest rows (k, ks, e) = inl (record {
  kind = k;
  kinds = ks;
  fault = ap (λ (x : Kinds). or_else x (walk_fault (shape takes) [] (walked (rules takes) [] from word) rest)) e;
})

-- ---- one more word or value in the rows

module _ (takes : Bool) (text : Text) (rows : List Row) (from : Walk) (words : List Text) where
  one_word : (o : Option Sorted) → Agrees o takes (with_more (codes "word") text rows) from words
      → Agrees (with_word text o) takes rows from words
  one_word None b = b
  one_word (Some sorted) w = record {
    fault = w.fault;
    trailing = w.trailing;
    first = w.first;
    late = w.late;
    left = w.left;
    ends = w.ends;
    words_are =
        w.words_are ∙ ap (λ (xs : List Text). xs ++ sorted.0) (own_values (codes "word") _ _ (text ∷ []) refl rows)
        ∙ append_assoc (values (codes "word") rows) (text ∷ []) sorted.0;
    values_are =
        w.values_are
        ∙ ap (λ (xs : List Text). xs ++ sorted.1)
        (other_values (codes "word") _ _ (text ∷ []) refl (codes "workers") refl rows);
  }

  one_value : (o : Option Sorted) → Agrees o takes (with_more (codes "workers") text rows) from words
      → Agrees (with_value text o) takes rows from words
  one_value None b = b
  one_value (Some sorted) w = record {
    fault = w.fault;
    trailing = w.trailing;
    first = w.first;
    late = w.late;
    left = w.left;
    ends = w.ends;
    words_are =
        w.words_are
        ∙ ap (λ (xs : List Text). xs ++ sorted.0)
        (other_values (codes "workers") _ _ (text ∷ []) refl (codes "word") refl rows);
    values_are =
        w.values_are
        ∙ ap (λ (xs : List Text). xs ++ sorted.1) (own_values (codes "workers") _ _ (text ∷ []) refl rows)
        ∙ append_assoc (values (codes "workers") rows) (text ∷ []) sorted.1;
  }

-- ---- the words behind `--`

whole_end : (takes trailing first : Bool) (late : Late) (rows : List Row)
    → IsWhole takes ([], []) (full takes late rows) (ended trailing first late rows) []
unfolding walk_fault
whole_end takes trailing first late rows = record {
  fault = refl;
  trailing = trailing;
  first = first;
  late = late;
  left = rows;
  ends = refl;
  words_are = sym (append-nil (values (codes "word") (full takes late rows)));
  values_are = sym (append-nil (values (codes "workers") (full takes late rows)));
}

words_behind : (takes first : Bool) (late : Late) (rows : List Row) (words : List Text)
    → IsWhole takes (words, []) (full takes late rows) (behind first late rows) words
words_behind takes first late rows [] = whole_end takes true first late rows
words_behind takes first late rows (word ∷ rest) =
    let base : List Row = full takes late rows in
    one_word takes word base (behind first late rows) (word ∷ rest) (Some (rest, []))
    (onward takes (behind first late rows) (behind false (a_word word) base) word rest (Some (rest, []))
    (with_more (codes "word") word base) (word_behind takes first late rows word)
    (words_behind takes false (a_word word) base rest))

-- ---- how the definition sorts a word

sort_plain : (takes : Bool) (c : ℕ) (cs : Text) (rest : List Text) → (c == 45) ≡ false
    → with_word (c ∷ cs) (sort takes false rest) ≡ sort takes false ((c ∷ cs) ∷ rest)
sort_plain takes c [] rest e = simp e
sort_plain takes c (d ∷ ds) rest e = simp e

other_way : (c d : ℕ) → (c == d) ≡ false → (d == c) ≡ false
other_way c d e = grind (arith, nat_tests)

sort_letters : (takes : Bool) (d : ℕ) (ds : Text) (rest : List Text) → (d == 45) ≡ false
    → None ≡ sort takes false ((45 ∷ d ∷ ds) ∷ rest)
sort_letters true d ds rest e = let f : (45 == d) ≡ false = other_way d 45 e in simp (e, f)
sort_letters false d ds rest e = simp e

value_plain : (c : ℕ) (cs : Text) (rest : List Text) → (c == 45) ≡ false
    → with_value (c ∷ cs) (sort true false rest) ≡ sort true true ((c ∷ cs) ∷ rest)
value_plain c [] rest e = refl
value_plain c (d ∷ ds) rest e = simp e

-- ---- all words

abbrev AllUtf8 : List Text → Type 0
AllUtf8 [] = Unit {0}
AllUtf8 (word ∷ words) = IsUtf8 word × AllUtf8 words

-- What holds of words, from where nothing waits and from where the option waits for its value.
record Sorts (words : List Text) : Type 0 where
  plain : (takes first : Bool) (late : Late) (rows : List Row)
      → Agrees (sort takes false words) takes (full takes late rows) (at first late rows) words
  waiting : (rows : List Row) → Agrees (sort true true words) true rows (waits rows) words

-- a text behind `-` has a first character
first_char : (d : ℕ) (ds : Text) → IsUtf8 (45 ∷ d ∷ ds) → (x : ℕ) × (slice_get (chars (d ∷ ds)) 0 ≡ Some x)
first_char d ds utf8 = by_text (drop 1 (45 ∷ d ∷ ds)) refl inner
  where
    inner : IsUtf8 (drop 1 (45 ∷ d ∷ ds))
    inner =
        IsUtf8-drop (45 ∷ d ∷ ds) 1 utf8
        (IsCharBoundary-after_ascii (45 ∷ d ∷ ds) 0 utf8 (omega arith) (omega arith))

    by_text : (text : Text) → text ≡ d ∷ ds → IsUtf8 text → (x : ℕ) × (slice_get (chars (d ∷ ds)) 0 ≡ Some x)
    by_text text is ([], (ok, spelt)) = absurd cc
    by_text text is (c ∷ cs, (ok, spelt)) =
        let same : chars text ≡ c ∷ cs = ap chars (sym spelt) ∙ chars-encodes (c ∷ cs) ok in
        (c, ap (λ (t : Text). slice_get (chars t) 0) (sym is) ∙ ap (λ (t : Text). slice_get t 0) same)

as_sorted : (o p : Option Sorted) (takes : Bool) (rows : List Row) (from : Walk) (words : List Text) → o ≡ p
    → Agrees o takes rows from words → Agrees p takes rows from words
as_sorted o p takes rows from words e a = subst (λ (x : Option Sorted). Agrees x takes rows from words) e a

-- the option's name has no `=` (61)
lacks_equals : Lacks 61 (codes "workers")
lacks_equals zero lt e = absurd (omega (arith, e))
lacks_equals (suc zero) lt e = absurd (omega (arith, e))
lacks_equals (suc (suc zero)) lt e = absurd (omega (arith, e))
lacks_equals (suc (suc (suc zero))) lt e = absurd (omega (arith, e))
lacks_equals (suc (suc (suc (suc zero)))) lt e = absurd (omega (arith, e))
lacks_equals (suc (suc (suc (suc (suc zero))))) lt e = absurd (omega (arith, e))
lacks_equals (suc (suc (suc (suc (suc (suc zero)))))) lt e = absurd (omega (arith, e))
lacks_equals (suc (suc (suc (suc (suc (suc (suc i))))))) lt e = absurd (omega (arith, lt))

module _ (rest : List Text) (more : Sorts rest) where
  -- where nothing waits
  module _ (takes first : Bool) (late : Late) (rows : List Row) where
    abbrev Plain : Text → Type 0
    Plain word = Agrees (sort takes false (word ∷ rest)) takes (full takes late rows) (at first late rows) (word ∷ rest)

    taken_word : (word : Text) → Turns takes (at first late rows) word (at false (a_word word) (full takes late rows))
        → Agrees (with_word word (sort takes false rest)) takes (full takes late rows) (at first late rows)
        (word ∷ rest)
    taken_word word t =
        let base : List Row = full takes late rows in
        one_word takes word base (at first late rows) (word ∷ rest) (sort takes false rest)
        (onward takes (at first late rows) (at false (a_word word) base) word rest (sort takes false rest)
        (with_more (codes "word") word base) t (more.plain takes false (a_word word) base))

    plain_at : (c : ℕ) (cs : Text) → (c == 45) ≡ false → Plain (c ∷ cs)
    plain_at c cs e =
        as_sorted _ _ takes (full takes late rows) (at first late rows) ((c ∷ cs) ∷ rest) (sort_plain takes c cs rest e)
        (taken_word (c ∷ cs) (plain_word takes first late rows c cs e))

    hyphens_at : Plain (45 ∷ 45 ∷ [])
    hyphens_at =
        onward takes (at first late rows) (behind first late rows) (45 ∷ 45 ∷ []) rest (Some (rest, []))
        (full takes late rows) (hyphens takes first late rows) (words_behind takes first late rows rest)

    letters_at : (d : ℕ) (ds : Text) → (d == 45) ≡ false → IsUtf8 (45 ∷ d ∷ ds) → Plain (45 ∷ d ∷ ds)
    letters_at d ds e utf8 =
        let (x, is) = first_char d ds utf8 in
        as_sorted None _ takes (full takes late rows) (at first late rows) ((45 ∷ d ∷ ds) ∷ rest)
        (sort_letters takes d ds rest e)
        (refused takes (at first late rows) (45 ∷ d ∷ ds) rest (full takes late rows)
        (letters takes first late rows d x ds e is))

  -- an option, where it isn't taken and where it is
  refused_at : (first : Bool) (late : Late) (rows : List Row) (c : ℕ) (cs : Text)
      → Plain false first late rows (45 ∷ 45 ∷ c ∷ cs)
  refused_at first late rows c cs =
      refused false (at first late rows) (45 ∷ 45 ∷ c ∷ cs) rest (full false late rows) (no_option first late rows c cs)

  module _ (first : Bool) (late : Late) (rows : List Row) (c : ℕ) (cs : Text) where
    abbrev Option_at : Option (Option Text) → Type 0
    Option_at o =
        Agrees (by_option true o (sort true false rest) (sort true true rest)) true (full true late rows)
        (at first late rows) ((45 ∷ 45 ∷ c ∷ cs) ∷ rest)

    with_at : (value : Text) → c ∷ cs ≡ codes "workers" ++ 61 ∷ value → Option_at (Some (Some value))
    with_at value is =
        let base : List Row = full true late rows in
        let before : before_first (λ x. x == 61) (c ∷ cs) ≡ codes "workers" =
        ap (before_first (λ x. x == 61)) is ∙ before_first-at 61 (codes "workers") value lacks_equals in
        let has : has_byte 61 (c ∷ cs) ≡ true = ap (has_byte 61) is ∙ list_any-at 61 (codes "workers") value in
        let after : after_first (λ x. x == 61) (c ∷ cs) ≡ value =
        ap (after_first (λ x. x == 61)) is ∙ after_first-at 61 (codes "workers") value lacks_equals in
        one_value true value base (at first late rows) ((45 ∷ 45 ∷ c ∷ cs) ∷ rest) (sort true false rest)
        (onward true (at first late rows) (at true nothing (with_more (codes "workers") value base)) (45 ∷ 45 ∷ c ∷ cs)
        rest (sort true false rest) (with_more (codes "workers") value base)
        (option_with first late rows c cs value before has after)
        (more.plain true true nothing (with_more (codes "workers") value base)))

    alone_at : c ∷ cs ≡ codes "workers" → Option_at (Some None)
    alone_at is =
        let base : List Row = full true late rows in
        let passes : Agrees (sort true true rest) true base (at first late rows) (codes "--workers" ∷ rest) =
        onward true (at first late rows) (waits base) (codes "--workers") rest (sort true true rest) base
        (option_alone first late rows) (more.waiting base) in
        subst (λ (t : Text). Agrees (sort true true rest) true base (at first late rows) ((45 ∷ 45 ∷ t) ∷ rest))
        (sym is) passes

    by_name : (o : Option (Option Text)) → after_name (codes "workers") (c ∷ cs) ≡ o → Option_at o
    by_name None is =
        refused true (at first late rows) (45 ∷ 45 ∷ c ∷ cs) rest (full true late rows)
        (other_option first late rows c cs (renamed (codes "workers") (c ∷ cs) lacks_equals is))
    by_name (Some None) is = alone_at (named (codes "workers") (c ∷ cs) is)
    by_name (Some (Some value)) is = with_at value (valued (codes "workers") (c ∷ cs) value is)

  option_at : (takes first : Bool) (late : Late) (rows : List Row) (c : ℕ) (cs : Text)
      → Plain takes first late rows (45 ∷ 45 ∷ c ∷ cs)
  option_at false first late rows c cs = refused_at first late rows c cs
  option_at true first late rows c cs = by_name first late rows c cs (after_name (codes "workers") (c ∷ cs)) refl

  flag_at : (takes first : Bool) (late : Late) (rows : List Row) (d : ℕ) (ds : Text) → IsUtf8 (45 ∷ d ∷ ds)
      → (b : Bool) → (d == 45) ≡ b → Plain takes first late rows (45 ∷ d ∷ ds)
  flag_at takes first late rows d ds utf8 false is = letters_at takes first late rows d ds is utf8
  flag_at takes first late rows d ds utf8 true is =
      subst (λ (x : ℕ). Plain takes first late rows (45 ∷ x ∷ ds)) (sym (eqb-true d 45 is)) (by_rest ds)
    where
      by_rest : (ds : Text) → Plain takes first late rows (45 ∷ 45 ∷ ds)
      by_rest [] = hyphens_at takes first late rows
      by_rest (c ∷ cs) = option_at takes first late rows c cs

  dashed_at : (takes first : Bool) (late : Late) (rows : List Row) (cs : Text) → IsUtf8 (45 ∷ cs)
      → Plain takes first late rows (45 ∷ cs)
  dashed_at takes first late rows [] utf8 = taken_word takes first late rows (45 ∷ []) (hyphen takes first late rows)
  dashed_at takes first late rows (d ∷ ds) utf8 = flag_at takes first late rows d ds utf8 (d == 45) refl

  word_at : (takes first : Bool) (late : Late) (rows : List Row) (word : Text) → IsUtf8 word
      → Plain takes first late rows word
  word_at takes first late rows [] utf8 = taken_word takes first late rows [] (empty_word takes first late rows)
  word_at takes first late rows (c ∷ cs) utf8 = by_first (c == 45) refl
    where
      by_first : (b : Bool) → (c == 45) ≡ b → Plain takes first late rows (c ∷ cs)
      by_first false is = plain_at takes first late rows c cs is
      by_first true is =
          let e : c ≡ 45 = eqb-true c 45 is in
          subst (λ (x : ℕ). Plain takes first late rows (x ∷ cs)) (sym e)
          (dashed_at takes first late rows cs (subst (λ (x : ℕ). IsUtf8 (x ∷ cs)) e utf8))

  -- where the option waits for its value
  module _ (rows : List Row) where
    abbrev Waiting_at : Text → Type 0
    Waiting_at word = Agrees (sort true true (word ∷ rest)) true rows (waits rows) (word ∷ rest)

    taken_value : (word : Text) → Turns true (waits rows) word (at true (a_value word) rows)
        → Agrees (with_value word (sort true false rest)) true rows (waits rows) (word ∷ rest)
    taken_value word t =
        one_value true word rows (waits rows) (word ∷ rest) (sort true false rest)
        (onward true (waits rows) (at true (a_value word) rows) word rest (sort true false rest)
        (with_more (codes "workers") word rows) t (more.plain true true (a_value word) rows))

    hyphens_wait_at : (words : List Text) → Agrees None true rows (waits rows) ((45 ∷ 45 ∷ []) ∷ words)
    unfolding walk_fault
    hyphens_wait_at [] =
        onward true (waits rows) (waits_behind rows) (45 ∷ 45 ∷ []) [] None rows (hyphens_wait rows)
        (inr (record { fault = refl; taken = refl; trailing = true; left = rows; ends = refl }))
    hyphens_wait_at (word ∷ words) =
        onward true (waits rows) (waits_behind rows) (45 ∷ 45 ∷ []) (word ∷ words) None rows (hyphens_wait rows)
        (refused true (waits_behind rows) word words rows (word_waits rows word))

    flag_waits : (d : ℕ) (ds : Text) → IsUtf8 (45 ∷ d ∷ ds) → (b : Bool) → (d == 45) ≡ b → Waiting_at (45 ∷ d ∷ ds)
    flag_waits d ds utf8 false is =
        let (x, has) = first_char d ds utf8 in
        refused true (waits rows) (45 ∷ d ∷ ds) rest rows (letters_wait rows d x ds is has)
    flag_waits d ds utf8 true is =
        subst (λ (x : ℕ). Waiting_at (45 ∷ x ∷ ds)) (sym (eqb-true d 45 is)) (by_rest ds)
      where
        by_rest : (ds : Text) → Waiting_at (45 ∷ 45 ∷ ds)
        by_rest [] = hyphens_wait_at rest
        by_rest (c ∷ cs) = refused true (waits rows) (45 ∷ 45 ∷ c ∷ cs) rest rows (option_waits rows c cs)

    dashed_waits : (cs : Text) → IsUtf8 (45 ∷ cs) → Waiting_at (45 ∷ cs)
    dashed_waits [] utf8 = taken_value (45 ∷ []) (hyphen_value rows)
    dashed_waits (d ∷ ds) utf8 = flag_waits d ds utf8 (d == 45) refl

    waits_at : (word : Text) → IsUtf8 word → Waiting_at word
    waits_at [] utf8 = taken_value [] (empty_value rows)
    waits_at (c ∷ cs) utf8 = by_first (c == 45) refl
      where
        by_first : (b : Bool) → (c == 45) ≡ b → Waiting_at (c ∷ cs)
        by_first false is =
            as_sorted _ _ true rows (waits rows) ((c ∷ cs) ∷ rest) (value_plain c cs rest is)
            (taken_value (c ∷ cs) (plain_value rows c cs is))
        by_first true is =
            let e : c ≡ 45 = eqb-true c 45 is in
            subst (λ (x : ℕ). Waiting_at (x ∷ cs)) (sym e)
            (dashed_waits cs (subst (λ (x : ℕ). IsUtf8 (x ∷ cs)) e utf8))

open_end : (rows : List Row) → IsOpen true (waits rows) []
unfolding walk_fault
open_end rows = record { fault = refl; taken = refl; trailing = false; left = rows; ends = refl }

sorts : (words : List Text) → AllUtf8 words → Sorts words
sorts [] utf8 = record {
  plain = λ takes first late rows. whole_end takes false first late rows;
  waiting = λ rows. inr (open_end rows);
}
sorts (word ∷ rest) (utf8, others) =
    let more : Sorts rest = sorts rest others in
    record {
      plain = λ takes first late rows. word_at rest more takes first late rows word utf8;
      waiting = λ rows. waits_at rest more rows word utf8;
    }

-- ---- the end of the walk

-- what is wanting of the whole, by what is wanting of the words and where the walk ends
abbrev close : Bool → Kinds → Walk → Kinds
close takes fault last =
    or_else fault
    (or_else (entered_fault (built (app takes)) last.stopped)
    (or_else (settle_fault (rules takes) (shape takes).args_override_self last.held)
    (or_else (defaults_fault (settled (rules takes) last.held).rows (rules takes))
    (check_fault (shape takes) (finished (rules takes) last.held)
    (is_some (entered (built (app takes)) last.stopped))))))

whole_fault : (takes : Bool) (words : List Text)
    → fault_of (app takes) words
    ≡ close takes (walk_fault (shape takes) [] (at true nothing []) words) (over takes (at true nothing []) words)
whole_fault true words = refl
whole_fault false words = refl

whole_rows : (takes : Bool) (words : List Text)
    → matches_of (app takes) words ≡ finished (rules takes) (over takes (at true nothing []) words).held
whole_rows true words = refl
whole_rows false words = refl

-- no argument has a default
no_default : (rows : List Row) (a : Rule) → is_empty a.defaults ≡ true → default_fault rows a ≡ []
no_default rows a e = by_row (has_row a.id rows) refl
  where
    by_row : (b : Bool) → has_row a.id rows ≡ b → default_fault rows a ≡ []
    by_row true is = simp is
    by_row false is = simp (is, e)

as_it_was : (rows : List Row) (a : Rule) → a.defaults ≡ [] → with_default rows a ≡ rows
as_it_was rows a e = by_row (has_row a.id rows) refl
  where
    by_row : (b : Bool) → has_row a.id rows ≡ b → with_default rows a ≡ rows
    by_row true is = simp is
    by_row false is = simp (is, e)

abbrev AreEmpty : List Rule → Type 0
AreEmpty [] = Unit {0}
AreEmpty (a ∷ more) = (a.defaults ≡ []) × AreEmpty more

no_defaults : (more : List Rule) (rows : List Row) → AreEmpty more → defaults_fault rows more ≡ []
unfolding defaults_fault
no_defaults [] rows h = refl
no_defaults (a ∷ more) rows (e, rest) =
    ap (λ (k : Kinds). or_else k (defaults_fault (with_default rows a) more)) (no_default rows a (ap is_empty e))
    ∙ no_defaults more (with_default rows a) rest

as_they_were : (more : List Rule) (rows : List Row) → AreEmpty more → fold with_default rows more ≡ rows
as_they_were [] rows h = refl
as_they_were (a ∷ more) rows (e, rest) =
    as_they_were more (with_default rows a) rest ∙ as_it_was rows a e

are_empty : (takes : Bool) → AreEmpty (rules takes)
are_empty true = (refl, (refl, tt))
are_empty false = (refl, tt)

abbrev then_none : Kinds → Kinds
then_none kinds = or_else kinds []

close_end : (takes trailing first : Bool) (late : Late) (rows : List Row)
    → close takes [] (ended trailing first late rows) ≡ []
close_end true true first nothing rows = ap then_none (no_defaults (rules true) _ (are_empty true))
close_end true true first (a_word text) rows = ap then_none (no_defaults (rules true) _ (are_empty true))
close_end true true first (a_value text) rows = ap then_none (no_defaults (rules true) _ (are_empty true))
close_end true false first nothing rows = ap then_none (no_defaults (rules true) _ (are_empty true))
close_end true false first (a_word text) rows = ap then_none (no_defaults (rules true) _ (are_empty true))
close_end true false first (a_value text) rows = ap then_none (no_defaults (rules true) _ (are_empty true))
close_end false true first nothing rows = ap then_none (no_defaults (rules false) _ (are_empty false))
close_end false true first (a_word text) rows = ap then_none (no_defaults (rules false) _ (are_empty false))
close_end false true first (a_value text) rows = ap then_none (no_defaults (rules false) _ (are_empty false))
close_end false false first nothing rows = ap then_none (no_defaults (rules false) _ (are_empty false))
close_end false false first (a_word text) rows = ap then_none (no_defaults (rules false) _ (are_empty false))
close_end false false first (a_value text) rows = ap then_none (no_defaults (rules false) _ (are_empty false))

end_rows : (takes trailing first : Bool) (late : Late) (rows : List Row)
    → finished (rules takes) (ended trailing first late rows).held ≡ full takes late rows
end_rows true true first nothing rows = as_they_were (rules true) _ (are_empty true)
end_rows true true first (a_word text) rows = as_they_were (rules true) _ (are_empty true)
end_rows true true first (a_value text) rows = as_they_were (rules true) _ (are_empty true)
end_rows true false first nothing rows = as_they_were (rules true) _ (are_empty true)
end_rows true false first (a_word text) rows = as_they_were (rules true) _ (are_empty true)
end_rows true false first (a_value text) rows = as_they_were (rules true) _ (are_empty true)
end_rows false true first nothing rows = as_they_were (rules false) _ (are_empty false)
end_rows false true first (a_word text) rows = as_they_were (rules false) _ (are_empty false)
end_rows false true first (a_value text) rows = as_they_were (rules false) _ (are_empty false)
end_rows false false first nothing rows = as_they_were (rules false) _ (are_empty false)
end_rows false false first (a_word text) rows = as_they_were (rules false) _ (are_empty false)
end_rows false false first (a_value text) rows = as_they_were (rules false) _ (are_empty false)

close_open : (trailing : Bool) (rows : List Row)
    → (k : ErrorKind) × (ks : Kinds) × (close true [] (unfinished trailing rows) ≡ k ∷ ks)
close_open true rows = (InvalidValue, [], refl)
close_open false rows = (InvalidValue, [], refl)

-- ---- what is read

-- What the definition sorts words into is what is found of them, and where it sorts none something is wanting.
abbrev Says : Option Sorted → Kinds → List Row → Type 0
Says None fault rows = (k : ErrorKind) × (ks : Kinds) × (fault ≡ k ∷ ks)
Says (Some sorted) fault rows =
    (fault ≡ []) × ((values (codes "word") rows ≡ sorted.0) × (values (codes "workers") rows ≡ sorted.1))

module _ (takes : Bool) (words : List Text) where
  abbrev last : Walk
  last = over takes (at true nothing []) words

  closed_so : (fault : Kinds) (end : Walk) → walk_fault (shape takes) [] (at true nothing []) words ≡ fault → last ≡ end
      → fault_of (app takes) words ≡ close takes fault end
  closed_so fault end f e =
      whole_fault takes words ∙ ap (λ (k : Kinds). close takes k last) f ∙ ap (close takes fault) e

  says_by : (o : Option Sorted) → Agrees o takes [] (at true nothing []) words
      → Says o (fault_of (app takes) words) (matches_of (app takes) words)
  says_by None (inl b) = (b.kind, b.kinds, closed_so (b.kind ∷ b.kinds) last b.fault refl)
  says_by None (inr b) =
      let Open : Bool → Type 0 =
      λ t. (k : ErrorKind) × (ks : Kinds) × (close t [] (unfinished b.trailing b.left) ≡ k ∷ ks) in
      let (k, ks, e) = subst Open (sym b.taken) (close_open b.trailing b.left) in
      (k, ks, closed_so [] (unfinished b.trailing b.left) b.fault b.ends ∙ e)
  says_by (Some sorted) w =
      let end : Walk = ended w.trailing w.first w.late w.left in
      let found : matches_of (app takes) words ≡ full takes w.late w.left =
      whole_rows takes words ∙ ap (λ (x : Walk). finished (rules takes) x.held) w.ends
      ∙ end_rows takes w.trailing w.first w.late w.left in (
        closed_so [] end w.fault w.ends ∙ close_end takes w.trailing w.first w.late w.left,
        (ap (values (codes "word")) found ∙ w.words_are, ap (values (codes "workers")) found ∙ w.values_are),
      )

  says : AllUtf8 words → Says (sort takes false words) (fault_of (app takes) words) (matches_of (app takes) words)
  says utf8 = says_by (sort takes false words) ((sorts words utf8).plain takes true nothing [])

simple_and_free : (takes : Bool) → is_simple_and_free (app takes) ≡ true
simple_and_free true = refl
simple_and_free false = refl

simple : (takes : Bool) → is_simple (app takes) ≡ true
simple true = refl
simple false = refl

pub all_utf8 : (words : List (String Global)) → AllUtf8 (map string_bytes words)
all_utf8 [] = tt
all_utf8 (word ∷ words) = (IsUtf8-string_bytes word, all_utf8 words)

nothing_wanting : (k : ErrorKind) (ks : Kinds) → (let none : Kinds = [] in none) ≡ k ∷ ks → ⊥
nothing_wanting k ks e = cc

module _ (takes : Bool) (words : List Text) (utf8 : AllUtf8 words) where
  abbrev Fault : Kinds
  Fault = fault_of (app takes) words

  texts_are : (m : ArgMatches) (id : Text) → rows_of (found_of m) ≡ matches_of (app takes) words
      → texts_at id m ≡ values id (matches_of (app takes) words)
  texts_are m id e =
      ap (λ (o : Option (List Text)). unwrap_or o []) (raw_values-rows (found_of m) id) ∙ ap (values id) e

  found_by : (o : Option Sorted) (m : ArgMatches) → Says o Fault (matches_of (app takes) words) → Fault ≡ []
      → rows_of (found_of m) ≡ matches_of (app takes) words → Some (sorted_of m) ≡ o
  found_by None m (k, ks, e) none rows = absurd (nothing_wanting k ks (sym none ∙ e))
  found_by (Some sorted) m (none, (are_words, are_values)) ok rows =
      let first : texts_at (codes "word") m ≡ sorted.0 = texts_are m (codes "word") rows ∙ are_words in
      let second : texts_at (codes "workers") m ≡ sorted.1 = texts_are m (codes "workers") rows ∙ are_values in
      let Both : List Text → List Text → Option Sorted = λ a b. Some (a, b) in
      ap (λ (a : List Text). Both a (texts_at (codes "workers") m)) first ∙ ap (Both sorted.0) second

  missed_by : (o : Option Sorted) (e : Error) → Says o Fault (matches_of (app takes) words) → HasKind Fault e
      → (kind_of e ≡ OutOfMemory → ⊥) → None ≡ o
  missed_by None e is has other = refl
  missed_by (Some sorted) e (none, are) has other =
      let P : Kinds → Type 0 = λ k. HasKind k e in by_kind (subst P none has)
    where
      by_kind : HasKind [] e → None ≡ Some sorted
      by_kind (inl memory) = absurd (other memory)
      by_kind (inr among) = absurd among

  module _ (a : App) (is : a ≡ app takes) where
    pub found : (m : ArgMatches) → (is_simple_and_free a ≡ true → fault_of a words ≡ []) → HasMatchesOf a words m
        → Some (sorted_of m) ≡ sort takes false words
    found m kinds has =
        let K : App → Type 0 = λ x. is_simple_and_free x ≡ true → fault_of x words ≡ [] in
        let M : App → Type 0 = λ x. HasMatchesOf x words m in
        found_by (sort takes false words) m (says takes words utf8) (subst K is kinds (simple_and_free takes))
        ((subst M is has (simple takes)).0)

    pub missed : (e : Error) → (is_simple_and_free a ≡ true → HasKind (fault_of a words) e)
        → (kind_of e ≡ OutOfMemory → ⊥) → None ≡ sort takes false words
    missed e kinds other =
        let K : App → Type 0 = λ x. is_simple_and_free x ≡ true → HasKind (fault_of x words) e in
        missed_by (sort takes false words) e (says takes words utf8) (subst K is kinds (simple_and_free takes)) other
