use Rattle.std.proofs.Common.{subst}
use Rattle.call_words.specs.Request.{meaning}
use Rattle.pythran_main.specs.Answer.{Reaches}
use Rattle.pythran_main.specs.Steps.{product, Prepares}
use Rattle.pythran_main.specs.World.{files_of, sink_of}
use Rattle.pythran_main.proofs.Saves.{delivered}
use Rattle.pythran_main.proofs.command.serve_request.Goals as goal

pub returns-in-Ok : goal.returns-in-Ok
returns-in-Ok g c words asks =
    delivered g.F.Files c.args.files.now c.prepare.new.files c.deliver.new.files words (meaning c.args.request.now) asks
    (sink_of g.O.Sink c.args.out.now c.deliver.new.out) (product c.in-Ok.report)
    (subst (Prepares (Reaches (meaning c.args.request.now)) (files_of g.F.Files c.args.files.now c.prepare.new.files))
    c.in-Ok.is
    c.prepare.ensures.prepared)
    c.prepare.ensures.kept c.prepare.ensures.count c.deliver.result c.deliver.ensures
