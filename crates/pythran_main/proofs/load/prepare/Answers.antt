use Rattle.std.proofs.Common.{ℕ, List, subst}
use Rattle.pythran_main.specs.Loads.{Whole}
use Rattle.call_words.specs.Request.{meaning}
use Rattle.pythran_main.specs.Steps.{Prepares, LeadsTo}
use Rattle.pythran_main.specs.World.{files_of}
use Rattle.pythran_main.proofs.Loads.{loaded_so, not_loaded}
use Rattle.pythran_main.proofs.load.prepare.Goals as goal

pub returns-in-Ok-clause-prepared : goal.returns-in-Ok-clause-prepared
returns-in-Ok-clause-prepared g c =
    let P : List ℕ → Type 0 = λ file.
    Prepares (LeadsTo (meaning c.args.request.now) (Whole file))
    (files_of g.F.Files c.load_source.new.files c.answer_request.new.files) c.answer_request.result in
    loaded_so g.F.Files c.args.files.now c.load_source.new.files c.answer_request.new.files (meaning c.args.request.now)
    c.load_source.ensures.count c.load_source.ensures.kept c.in-Ok.file.items c.answer_request.result
    c.in-Ok.ensures.content (subst P c.as_slice.ensures.value c.answer_request.ensures.prepared)

pub returns-in-Err-clause-prepared : goal.returns-in-Err-clause-prepared
returns-in-Err-clause-prepared g c =
    not_loaded (meaning c.args.request.now) (files_of g.F.Files c.args.files.now c.load_source.new.files)
    c.in-Err.trouble c.in-Err.ensures.failed
