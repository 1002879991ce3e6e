use Rattle.std.proofs.Common.{Err, ap, sym, subst, ◌∙◌}
use Rattle.call_binding.specs.Binding.{Call, meaning as bound_meaning}
use Rattle.call_binding.specs.Reading.{texts_of}
use Rattle.pythran_main.specs.Answer.{Source, source_of, Makes}
use Rattle.call_words.specs.Request.{meaning}
use Rattle.pythran_main.specs.Steps.{product, Prepared, CallsTo}
use Rattle.pythran_main.specs.declared.trouble.Trouble.{Trouble}
use Rattle.pythran_main.proofs.Buffers.{called}
use Rattle.pythran_main.proofs.Loads.{bound_so, stopped_so}
use Rattle.pythran_main.proofs.answer.answer_program.Goals as goal

pub run_bound-requires-clause-fits : goal.run_bound-requires-clause-fits
run_bound-requires-clause-fits g c =
    called c.args.found.program c.as_slice.result.now c.args.request.now.kernel.now c.in-Ok.bound c.requires.kept.typed
    (c.as_slice.ensures.value ∙ c.in_ok-heads.ensures) c.in-Ok.ensures.fits

pub returns-in-Ok-clause-prepared : goal.returns-in-Ok-clause-prepared
returns-in-Ok-clause-prepared g c =
    let source : Source = source_of c.args.request.now.command c.args.found in
    bound_so (meaning c.args.request.now) source (g.F.Files.held c.args.files.now) c.as_slice.result.now
    (c.as_slice.ensures.value ∙ c.in_ok-heads.ensures) (texts_of c.as_slice-2.result.now)
    (ap texts_of c.as_slice-2.ensures.value) c.bind.ensures.one_answer
    (Call (bound_meaning c.in-Ok.bound)) (Makes (product c.in_ok-run_bound-in-Ok.field-0)) c.in-Ok.ensures.bound tt
    (ap Makes c.in_ok-run_bound-in-Ok.ensures)

pub returns-clause-prepared : goal.returns-clause-prepared
returns-clause-prepared g c =
    let before = g.F.Files.faults c.args.files.now in
    let after = g.F.Files.faults c.bind.new.files in
    let held = g.F.Files.held c.args.files.now in
    let source : Source = source_of c.args.request.now.command c.args.found in
    let P : Trouble → Type 0 = λ t.
    Prepared before after (CallsTo (meaning c.args.request.now) source held) (Err t) in
    subst P (sym c.from.ensures)
    (stopped_so (meaning c.args.request.now) source held c.as_slice.result.now
    (c.as_slice.ensures.value ∙ c.in_ok-heads.ensures) (texts_of c.as_slice-2.result.now)
    (ap texts_of c.as_slice-2.ensures.value) c.bind.ensures.one_answer before after c.bind.result
    c.in-Err.stop c.in-Err.is c.bind.ensures.refused c.bind.ensures.load_failed c.bind.ensures.too_long)
