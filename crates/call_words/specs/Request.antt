-- What the words of a command ask for (this project).
use Rattle.std.specs.Prelude.{ℕ, ◌+◌, ◌-◌, ◌*◌, ◌==◌, Bool, true, false, ◌&&◌, nat_le, if◌then◌else◌, List, [], ◌∷◌}
use Rattle.std.specs.Prelude.{map, codes, bytes_eq, Option, Some, None, option_map, option_and_then, String}
use Rattle.std.specs.Char.{is_ascii_digit}
use Rattle.std.specs.String.{string_bytes}
use Rattle.std.specs.declared.alloc.Global.{Global}
use Rattle.call_words.specs.declared.request.Command.{Command}
use Rattle.call_words.specs.declared.request.Command.TheVariants.{Run, Eager}
use Rattle.call_words.specs.declared.request.Request.{Request}

abbrev pub Text : Type 0
Text = List ℕ

-- the words as bytes
abbrev pub texts : List (String Global) → List Text
texts words = map string_bytes words

-- a request: what is to be done, the path of a module, a kernel's name, and items
pub record Asked : Type 0 where
  pub command : Command
  pub source : Text
  pub kernel : Text
  pub items : List Text

-- what a request in the program stands for
abbrev pub meaning : Request → Asked
meaning r = record {
  command = r.command;
  source = r.source.now;
  kernel = r.kernel.now;
  items = map (λ item. item.now) r.items.items;
}

-- ---- ordinary words and options

-- a word that begins with `-` (45) and isn't `-` alone
abbrev pub is_flag : Text → Bool
is_flag [] = false
is_flag (c ∷ []) = false
is_flag (c ∷ d ∷ rest) = c == 45

-- what follows a name in a word: nothing, or `=` (61) and a value; None where the word is another one
abbrev pub after_name : Text → Text → Option (Option Text)
after_name [] [] = Some None
after_name [] (c ∷ rest) = if c == 61 then Some (Some rest) else None
after_name (n ∷ name) [] = None
after_name (n ∷ name) (c ∷ rest) = if n == c then after_name name rest else None

-- the ordinary words, and the values of `--workers`
abbrev pub Sorted : Type 0
Sorted = List Text × List Text

abbrev pub with_word : Text → Option Sorted → Option Sorted
with_word word = option_map (λ sorted. (word ∷ sorted.0, sorted.1))

abbrev pub with_value : Text → Option Sorted → Option Sorted
with_value value = option_map (λ sorted. (sorted.0, value ∷ sorted.1))

-- a word that is a flag: it is refused but where it is the option and that is taken, with its value or without;
-- `plain` is what the words behind it come to, and `waiting` where the first of them is the value
abbrev pub by_option : Bool → Option (Option Text) → Option Sorted → Option Sorted → Option Sorted
by_option false met plain waiting = None
by_option true None plain waiting = None
by_option true (Some None) plain waiting = waiting
by_option true (Some (Some value)) plain waiting = with_value value plain

-- The words behind a command, which takes the option or doesn't; `waits` says that the first one is the option's value.
-- The first `--` is dropped, and the words behind it are ordinary ones. A flag is no value.
abbrev pub sort : Bool → Bool → List Text → Option Sorted
sort takes false [] = Some ([], [])
sort takes true [] = None
sort takes false (word ∷ rest) =
    if bytes_eq word (codes "--") then Some (rest, [])
    else (if is_flag word
    then by_option takes (after_name (codes "--workers") word) (sort takes false rest) (sort takes true rest)
    else with_word word (sort takes false rest))
sort takes true (word ∷ rest) = if is_flag word then None else with_value word (sort takes false rest)

-- ---- numbers of workers

-- a number with one more decimal digit behind it, where it is at most 64
abbrev pub with_digit : ℕ → ℕ → Option ℕ
with_digit n c = if is_ascii_digit c && nat_le (n * 10 + (c - 48)) 64 then Some (n * 10 + (c - 48)) else None

-- the number of these digits behind those of another number
abbrev pub digits_from : ℕ → Text → Option ℕ
digits_from n [] = Some n
digits_from n (c ∷ rest) = option_and_then (λ more. digits_from more rest) (with_digit n c)

-- a number from 1 to 64 in decimal digits, with no sign and no zero (48) in front
abbrev pub number : Text → Option ℕ
number [] = None
number (c ∷ rest) = if c == 48 then None else digits_from 0 (c ∷ rest)

-- one worker, where the option isn't there; it stands once at most
abbrev pub workers : List Text → Option ℕ
workers [] = Some 1
workers (value ∷ []) = number value
workers (value ∷ other ∷ rest) = None

-- ---- requests

abbrev pub of_words : Command → List Text → Option Asked
of_words command (source ∷ kernel ∷ items) =
    Some (record { command = command; source = source; kernel = kernel; items = items })
of_words command _ = None

abbrev pub run_of : Sorted → Option Asked
run_of sorted = option_and_then (λ n. of_words (Run n) sorted.0) (workers sorted.1)

abbrev pub eager_of : Sorted → Option Asked
eager_of sorted = of_words Eager sorted.0

abbrev pub read_run : List Text → Option Asked
read_run words = option_and_then run_of (sort true false words)

abbrev pub read_eager : List Text → Option Asked
read_eager words = option_and_then eager_of (sort false false words)

-- The request that the words make, of which the first one is the command.
abbrev pub request : List Text → Option Asked
request [] = None
request (command ∷ words) =
    if bytes_eq command (codes "run") then read_run words
    else (if bytes_eq command (codes "eager") then read_eager words else None)
