use Rattle.call_words.specs.Request.{texts}
use Rattle.pythran_main.specs.World.{world}
use Rattle.pythran_main.proofs.Theorem.{complete_at, done_at, item_at}
use Rattle.pythran_main.proofs.command.pythran.Goals as goal

pub returns-clause-complete : goal.returns-clause-complete
returns-clause-complete g c =
    complete_at (texts c.args.words.now)
    (world g.F.Files c.args.files.now c.end.new.files g.O.Sink c.args.out.now c.end.new.out
    g.E.Sink c.args.err.now c.end.new.err)
    c.end.result c.end.ensures

pub returns-clause-done : goal.returns-clause-done
returns-clause-done g c =
    done_at (texts c.args.words.now)
    (world g.F.Files c.args.files.now c.end.new.files g.O.Sink c.args.out.now c.end.new.out
    g.E.Sink c.args.err.now c.end.new.err)
    c.end.result c.end.ensures

pub returns-clause-item : goal.returns-clause-item
returns-clause-item g c =
    item_at (texts c.args.words.now)
    (world g.F.Files c.args.files.now c.end.new.files g.O.Sink c.args.out.now c.end.new.out
    g.E.Sink c.args.err.now c.end.new.err)
    c.end.result c.end.ensures
