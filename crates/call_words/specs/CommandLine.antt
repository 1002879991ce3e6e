-- The command line that the program hands to `clap`, and what it reads there.
use Rattle.std.specs.Prelude.{Bool, true, false, List, [], map, codes, Option, Some, option_map, unwrap_or}
use Rattle.std.specs.Borrow.{Bor}
use Rattle.clap.specs.Words.{App, Rule, new_app, new_rule, with_rule, found_of, matched_of, raw_values}
use Rattle.clap.specs.Simple.{on_top}
use Rattle.clap.specs.declared.builder.action.ArgAction.TheVariants.{Append}
use Rattle.clap.specs.declared.parser.matches.ArgMatches.{ArgMatches}
use Rattle.call_words.specs.Request.{Text, Sorted}

-- the words, any number of them
abbrev pub word_rule : Rule
word_rule = record (new_rule (codes "word")) { action = Some Append }

-- the option, any number of times
abbrev pub workers_rule : Rule
workers_rule = record (new_rule (codes "workers")) { long = Some (codes "workers"); action = Some Append }

-- a command line of words without the program's name, help and version
abbrev pub words_app : App
words_app =
    with_rule (on_top (λ s. record s { no_binary_name = true; disable_help_flag = true; disable_version_flag = true })
    (new_app (codes "words"))) word_rule

abbrev pub app : Bool → App
app false = words_app
app true = with_rule words_app workers_rule

-- the texts of a list that may be absent
abbrev pub texts_in : Option (Bor (List (Bor Text))) → List Text
texts_in values = unwrap_or (option_map (λ list. map (λ text. text.now) list.now) values) []

abbrev pub texts_at : Text → ArgMatches → List Text
texts_at id matches = unwrap_or (option_map raw_values (matched_of (found_of matches) id)) []

abbrev pub sorted_of : ArgMatches → Sorted
sorted_of matches = (texts_at (codes "word") matches, texts_at (codes "workers") matches)
