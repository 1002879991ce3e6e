use Rattle.call_words.specs.Request.{texts}
use Rattle.pythran_main.specs.World.{world}
use Rattle.pythran_main.proofs.Theorem.{ended_so}
use Rattle.pythran_main.proofs.command.end.Goals as goal

pub returns-in-Err : goal.returns-in-Err
returns-in-Err g c =
    ended_so (texts c.args.words.now)
    (world g.F.Files c.args.files.now c.serve.new.files g.O.Sink c.args.out.now c.serve.new.out
    g.E.Sink c.args.err.now c.tell_trouble.new.err)
    c.in-Err.trouble c.tell_trouble.result c.in-Err.ensures c.tell_trouble.ensures
