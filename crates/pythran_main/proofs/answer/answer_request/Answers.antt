use Rattle.std.proofs.Common.{subst}
use Rattle.pythran_main.specs.Reading.{IsOneReading}
use Rattle.call_words.specs.Request.{meaning}
use Rattle.pythran_main.specs.World.{files_of}
use Rattle.pythran_main.proofs.Loads.{called_so, refused_alone}
use Rattle.pythran_main.proofs.answer.answer_request.Goals as goal

pub returns-in-Ok-clause-prepared : goal.returns-in-Ok-clause-prepared
returns-in-Ok-clause-prepared g c =
    called_so (meaning c.args.request.now) c.args.file.now c.in-Ok.found
    (subst (IsOneReading c.args.file.now) c.in-Ok.is c.in_ok-found.ensures.one)
    (files_of g.F.Files c.args.files.now c.answer_program.new.files) c.answer_program.result
    c.answer_program.ensures.prepared

pub returns-in-Err-clause-prepared : goal.returns-in-Err-clause-prepared
returns-in-Err-clause-prepared g c =
    refused_alone (meaning c.args.request.now) c.args.file.now (g.F.Files.held c.args.files.now) c.in-Err.refusal
    (subst (IsOneReading c.args.file.now) c.in-Err.is c.in_ok-found.ensures.one)
