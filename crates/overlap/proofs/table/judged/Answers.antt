use Rattle.std.proofs.Common.{sym, ◌∙◌}
use Rattle.overlap.specs.Verdicts.{of_spread}
use Rattle.overlap.proofs.TableLemmas.{some-first}
use Rattle.overlap.proofs.table.judged.Goals as goal

pub rises-requires : goal.rises-requires
rises-requires c = some-first (of_spread c.args.to.now) (of_spread c.args.from.now)
    (sym c.is_apart.ensures ∙ c.if-is_apart.false)
