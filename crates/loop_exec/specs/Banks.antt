-- What a bank stands for: a state of the loop program.
use Rattle.std.specs.Prelude.{ℤ, List, map, Option, Some, None}
use Rattle.view_places.specs.declared.view.View.{View}
use Rattle.array_ops.specs.Arrays.{array_of}
use Rattle.array_ops.specs.Elements.{Bound, Unbound, WordOf, ArrayOf}
use Rattle.eager_rules.specs.declared.outcome.Counts.{Counts}
use Rattle.loop_prog.specs.State.{State}
use Rattle.loop_exec.specs.declared.bank.Bank.{Bank}

abbrev pub word_bound : Option ℤ → Bound
word_bound None = Unbound
word_bound (Some z) = WordOf z

abbrev pub view_bound : Option View → Bound
view_bound None = Unbound
view_bound (Some v) = ArrayOf (array_of v)

abbrev pub words_bound : List (Option ℤ) → List Bound
words_bound words = map word_bound words

abbrev pub views_bound : List (Option View) → List Bound
views_bound views = map view_bound views

-- the state, with what has been counted so far
abbrev pub state_of : Counts → Bank → State
state_of counts bank = record {
  words = words_bound bank.words;
  views = views_bound bank.views;
  buffers = bank.buffers;
  counts = counts;
}
