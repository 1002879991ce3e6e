use Rattle.std.proofs.Common.{sym, subst}
use Rattle.pythran_main.specs.Steps.{TellsOf}
use Rattle.pythran_main.specs.World.{sink_of}
use Rattle.pythran_main.specs.declared.trouble.Trouble.{Trouble}
use Rattle.pythran_main.proofs.deliver.tell_trouble.Goals as goal

pub returns-in-RefusedItem : goal.returns-in-RefusedItem
returns-in-RefusedItem g c =
    let line = c.tell_line-in-RefusedItem in
    let P : Trouble → Type 0 = λ t. TellsOf t (sink_of g.E.Sink c.args.err.now line.new.err) line.result in
    subst P (sym c.in-RefusedItem.is) line.ensures
