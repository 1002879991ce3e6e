-- What one word does to the walk of `clap` over the words.
use Rattle.std.proofs.Common.{◌≡◌, ℕ, Bool, true, false, nat_eq, ◌==◌, List, [], ◌∷◌, refl, Option}
use Rattle.std.proofs.Common.{Some, None, codes, slice_get}
use Rattle.std.specs.List.{before_first, after_first}
use Rattle.std.specs.Str.{bytes_eq, chars}
use Rattle.clap.specs.Faults.{turn_fault, flags_fault}
use Rattle.clap.specs.Kinds.{Kinds}
use Rattle.clap.specs.Lexer.{has_byte}
use Rattle.clap.specs.Simple.{Shape, built}
use Rattle.clap.specs.Walk.{Row, Rule, Waiting, idle, option, positional, Walk, walked, bundle_met, with_values}
use Rattle.clap.specs.declared.builder.value_parser.Reading.TheVariants.{AsWritten}
use Rattle.clap.specs.declared.error.kind.ErrorKind.{ErrorKind}
use Rattle.clap.specs.declared.error.kind.ErrorKind.TheVariants.{InvalidValue, UnknownArgument}
use Rattle.clap.specs.declared.parser.matches.ValueSource.TheVariants.{CommandLine}
use Rattle.clap.proofs.OnLiterals.{clap_on_literals}
use Rattle.call_words.specs.CommandLine.{app}
use Rattle.call_words.specs.Request.{Text}

-- the command line as it is built
abbrev pub shape : Bool → Shape
shape takes = (built (app takes)).top

abbrev pub rules : Bool → List Rule
rules takes = (shape takes).rules

-- ---- where the walk stands

-- what was read last and isn't in a row yet
pub data Late : Type 0 where
  nothing : Late
  a_word : Text → Late
  a_value : Text → Late

abbrev pub pend : Late → Option (Text × List Text)
pend nothing = None
pend (a_word text) = Some (codes "word", text ∷ [])
pend (a_value text) = Some (codes "workers", text ∷ [])

-- the rows with one more value of an argument
abbrev pub with_more : Text → Text → List Row → List Row
with_more id text rows = with_values id AsWritten CommandLine (text ∷ []) rows

-- the rows with what was read last
abbrev pub full : Bool → Late → List Row → List Row
full takes nothing rows = rows
full takes (a_word text) rows = with_more (codes "word") text rows
full true (a_value text) rows = with_more (codes "workers") text rows
full false (a_value text) rows = rows

-- whether a word went before, which the walk keeps in mind
abbrev pub still : Bool → Waiting
still true = idle
still false = positional

-- between two words; behind `--`; where the option waits for its value; and behind `--` where it waited
abbrev pub at : Bool → Late → List Row → Walk
at first late rows = record {
  held = record { rows = rows; pending = pend late; skip = 0 };
  waiting = still first;
  position = 1;
  is_trailing = false;
  stopped = None;
}

abbrev pub behind : Bool → Late → List Row → Walk
behind first late rows = record (at first late rows) { is_trailing = true }

abbrev pub waits : List Row → Walk
waits rows = record {
  held = record { rows = rows; pending = Some (codes "workers", []); skip = 0 };
  waiting = option (codes "workers");
  position = 1;
  is_trailing = false;
  stopped = None;
}

abbrev pub waits_behind : List Row → Walk
waits_behind rows = record (waits rows) { is_trailing = true }

-- A word passes, and the walk stands here behind it.
abbrev pub Turns : Bool → Walk → Text → Walk → Type 0
Turns takes from word to = (turn_fault (shape takes) [] from word ≡ []) × (walked (rules takes) [] from word ≡ to)

-- a word is refused
abbrev pub Refuses : Bool → Walk → Text → Type 0
Refuses takes from word = (k : ErrorKind) × (ks : Kinds) × (turn_fault (shape takes) [] from word ≡ k ∷ ks)

-- ---- ordinary words: no bytes, `-` (45), and those that begin with another byte

pub empty_word : (takes first : Bool) (late : Late) (rows : List Row)
    → Turns takes (at first late rows) [] (at false (a_word []) (full takes late rows))
unfolding clap_on_literals
empty_word true true nothing rows = (refl, refl)
empty_word true true (a_word text) rows = (refl, refl)
empty_word true true (a_value text) rows = (refl, refl)
empty_word true false nothing rows = (refl, refl)
empty_word true false (a_word text) rows = (refl, refl)
empty_word true false (a_value text) rows = (refl, refl)
empty_word false true nothing rows = (refl, refl)
empty_word false true (a_word text) rows = (refl, refl)
empty_word false true (a_value text) rows = (refl, refl)
empty_word false false nothing rows = (refl, refl)
empty_word false false (a_word text) rows = (refl, refl)
empty_word false false (a_value text) rows = (refl, refl)

pub hyphen : (takes first : Bool) (late : Late) (rows : List Row)
    → Turns takes (at first late rows) (45 ∷ []) (at false (a_word (45 ∷ [])) (full takes late rows))
unfolding clap_on_literals
hyphen true true nothing rows = (refl, refl)
hyphen true true (a_word text) rows = (refl, refl)
hyphen true true (a_value text) rows = (refl, refl)
hyphen true false nothing rows = (refl, refl)
hyphen true false (a_word text) rows = (refl, refl)
hyphen true false (a_value text) rows = (refl, refl)
hyphen false true nothing rows = (refl, refl)
hyphen false true (a_word text) rows = (refl, refl)
hyphen false true (a_value text) rows = (refl, refl)
hyphen false false nothing rows = (refl, refl)
hyphen false false (a_word text) rows = (refl, refl)
hyphen false false (a_value text) rows = (refl, refl)

pub plain_word : (takes first : Bool) (late : Late) (rows : List Row) (c : ℕ) (rest : Text) → nat_eq c 45 ≡ false
    → Turns takes (at first late rows) (c ∷ rest) (at false (a_word (c ∷ rest)) (full takes late rows))
unfolding clap_on_literals
plain_word true true nothing rows c rest e = (simp e, simp e)
plain_word true true (a_word text) rows c rest e = (simp e, simp e)
plain_word true true (a_value text) rows c rest e = (simp e, simp e)
plain_word true false nothing rows c rest e = (simp e, simp e)
plain_word true false (a_word text) rows c rest e = (simp e, simp e)
plain_word true false (a_value text) rows c rest e = (simp e, simp e)
plain_word false true nothing rows c rest e = (simp e, simp e)
plain_word false true (a_word text) rows c rest e = (simp e, simp e)
plain_word false true (a_value text) rows c rest e = (simp e, simp e)
plain_word false false nothing rows c rest e = (simp e, simp e)
plain_word false false (a_word text) rows c rest e = (simp e, simp e)
plain_word false false (a_value text) rows c rest e = (simp e, simp e)

-- ---- `--`, and the words behind it

pub hyphens : (takes first : Bool) (late : Late) (rows : List Row)
    → Turns takes (at first late rows) (45 ∷ 45 ∷ []) (behind first late rows)
unfolding clap_on_literals
hyphens takes true late rows = (refl, refl)
hyphens takes false late rows = (refl, refl)

pub word_behind : (takes first : Bool) (late : Late) (rows : List Row) (word : Text)
    → Turns takes (behind first late rows) word (behind false (a_word word) (full takes late rows))
unfolding clap_on_literals
word_behind true first nothing rows word = (refl, refl)
word_behind true first (a_word text) rows word = (refl, refl)
word_behind true first (a_value text) rows word = (refl, refl)
word_behind false first nothing rows word = (refl, refl)
word_behind false first (a_word text) rows word = (refl, refl)
word_behind false first (a_value text) rows word = (refl, refl)

-- ---- the option `--workers`

pub option_alone : (first : Bool) (late : Late) (rows : List Row)
    → Turns true (at first late rows) (codes "--workers") (waits (full true late rows))
unfolding clap_on_literals
option_alone true nothing rows = (refl, refl)
option_alone true (a_word text) rows = (refl, refl)
option_alone true (a_value text) rows = (refl, refl)
option_alone false nothing rows = (refl, refl)
option_alone false (a_word text) rows = (refl, refl)
option_alone false (a_value text) rows = (refl, refl)

-- with `=`, by what stands before and behind the first one (61)
pub option_with : (first : Bool) (late : Late) (rows : List Row) (c : ℕ) (rest value : Text)
    → before_first (λ x. x == 61) (c ∷ rest) ≡ codes "workers" → has_byte 61 (c ∷ rest) ≡ true
    → after_first (λ x. x == 61) (c ∷ rest) ≡ value
    → Turns true (at first late rows) (45 ∷ 45 ∷ c ∷ rest)
    (at true nothing (with_more (codes "workers") value (full true late rows)))
unfolding clap_on_literals
option_with true nothing rows c rest value e has v = (simp (e, has, v), simp (e, has, v))
option_with true (a_word text) rows c rest value e has v = (simp (e, has, v), simp (e, has, v))
option_with true (a_value text) rows c rest value e has v = (simp (e, has, v), simp (e, has, v))
option_with false nothing rows c rest value e has v = (simp (e, has, v), simp (e, has, v))
option_with false (a_word text) rows c rest value e has v = (simp (e, has, v), simp (e, has, v))
option_with false (a_value text) rows c rest value e has v = (simp (e, has, v), simp (e, has, v))

-- another name
pub other_option : (first : Bool) (late : Late) (rows : List Row) (c : ℕ) (rest : Text)
    → bytes_eq (codes "workers") (before_first (λ x. x == 61) (c ∷ rest)) ≡ false
    → Refuses true (at first late rows) (45 ∷ 45 ∷ c ∷ rest)
unfolding clap_on_literals
other_option true late rows c rest e = (UnknownArgument, [], simp e)
other_option false late rows c rest e = (UnknownArgument, [], simp e)

pub no_option : (first : Bool) (late : Late) (rows : List Row) (c : ℕ) (rest : Text)
    → Refuses false (at first late rows) (45 ∷ 45 ∷ c ∷ rest)
unfolding clap_on_literals
no_option true late rows c rest = (UnknownArgument, [], refl)
no_option false late rows c rest = (UnknownArgument, [], refl)

-- ---- a word of one `-` and more

pub letters : (takes first : Bool) (late : Late) (rows : List Row) (c x : ℕ) (rest : Text) → nat_eq c 45 ≡ false
    → slice_get (chars (c ∷ rest)) 0 ≡ Some x → Refuses takes (at first late rows) (45 ∷ c ∷ rest)
unfolding flags_fault walked bundle_met
letters true true late rows c x rest e is = (UnknownArgument, [], simp (e, is))
letters true false late rows c x rest e is = (UnknownArgument, [], simp (e, is))
letters false true late rows c x rest e is = (UnknownArgument, [], simp (e, is))
letters false false late rows c x rest e is = (UnknownArgument, [], simp (e, is))

-- ---- where the option waits for its value

pub empty_value : (rows : List Row) → Turns true (waits rows) [] (at true (a_value []) rows)
unfolding clap_on_literals
empty_value rows = (refl, refl)

pub hyphen_value : (rows : List Row) → Turns true (waits rows) (45 ∷ []) (at true (a_value (45 ∷ [])) rows)
unfolding clap_on_literals
hyphen_value rows = (refl, refl)

pub plain_value : (rows : List Row) (c : ℕ) (rest : Text) → nat_eq c 45 ≡ false
    → Turns true (waits rows) (c ∷ rest) (at true (a_value (c ∷ rest)) rows)
unfolding clap_on_literals
plain_value rows c rest e = (simp e, simp e)

-- a flag is no value
pub hyphens_wait : (rows : List Row) → Turns true (waits rows) (45 ∷ 45 ∷ []) (waits_behind rows)
unfolding clap_on_literals
hyphens_wait rows = (refl, refl)

pub word_waits : (rows : List Row) (word : Text) → Refuses true (waits_behind rows) word
unfolding clap_on_literals
word_waits rows word = (InvalidValue, [], refl)

pub letters_wait : (rows : List Row) (c x : ℕ) (rest : Text) → nat_eq c 45 ≡ false
    → slice_get (chars (c ∷ rest)) 0 ≡ Some x → Refuses true (waits rows) (45 ∷ c ∷ rest)
unfolding flags_fault walked bundle_met
letters_wait rows c x rest e is = (UnknownArgument, [], simp (e, is))

pub option_waits : (rows : List Row) (c : ℕ) (rest : Text) → Refuses true (waits rows) (45 ∷ 45 ∷ c ∷ rest)
unfolding clap_on_literals
option_waits rows c rest =
    by_name (bytes_eq (codes "workers") (before_first (λ x. x == 61) (c ∷ rest))) refl (has_byte 61 (c ∷ rest)) refl
  where
    by_name : (b : Bool) → bytes_eq (codes "workers") (before_first (λ x. x == 61) (c ∷ rest)) ≡ b
        → (has : Bool) → has_byte 61 (c ∷ rest) ≡ has → Refuses true (waits rows) (45 ∷ 45 ∷ c ∷ rest)
    by_name false e has h = (UnknownArgument, [], simp e)
    by_name true e true h = (InvalidValue, [], simp (e, h))
    by_name true e false h = (InvalidValue, [], simp (e, h))
