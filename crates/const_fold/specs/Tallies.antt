-- How often the names of an instance are bound, as far as that matters.
use Rattle.std.specs.Prelude.{◌≡◌, ◌<◌, ◌==◌, ◌&&◌, ℕ, zero, suc, Bool, true, false, not, List, length, slice_get}
use Rattle.std.specs.Prelude.{Option, Some}
use Rattle.eager_rules.specs.Statements.{binds}
use Rattle.eager_rules.specs.declared.program.Instance.{Instance}
use Rattle.inline.specs.Own.{is_among}
use Rattle.const_fold.specs.Folded.{reduced, times}
use Rattle.const_fold.specs.declared.tallies.Tally.{Tally}
use Rattle.const_fold.specs.declared.tallies.Tally.TheVariants.{Never, Once, More}

abbrev pub one_more : Tally → Tally
one_more Never = Once
one_more Once = More
one_more More = More

abbrev pub after : ℕ → Tally → Tally
after zero tally = tally
after (suc more) tally = after more (one_more tally)

abbrev pub is_once : Option Tally → Bool
is_once (Some Once) = true
is_once _ = false

-- Each name of the instance stands at Once exactly where one statement binds it and it is in no loop's reductions.
abbrev pub AreTallies : Instance → List Tally → Type 0
AreTallies f table = (name : ℕ) → name < length f.names → is_once (slice_get table name) ≡
    ((times name (binds f.body) == 1) && not (is_among name (reduced f.body)))
