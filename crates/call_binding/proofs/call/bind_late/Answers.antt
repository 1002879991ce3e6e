use Rattle.std.proofs.Common.{◌∙◌, ap, sym}
use Rattle.std.proofs.lemmas.Result.{IfOk-at_ok, err_from_is_err_and}
use Rattle.call_binding.specs.Binding.{Call, Refused, answer, meaning}
use Rattle.call_binding.specs.Files.{Whole}
use Rattle.call_binding.specs.Outcome.{IsGood}
use Rattle.call_binding.proofs.Outcomes.{comes, by_fault}
use Rattle.call_binding.proofs.call.bind_late.Goals as goal

pub returns-in_err-full-clause-binds : goal.returns-in_err-full-clause-binds
returns-in_err-full-clause-binds g c =
    let p = err_from_is_err_and c.from_residual.result c.from_residual.ensures.1 in
    rw (p.1, p.2)
    (by_fault (g.F.Files.held c.args.files.now) c.args.kernels.now c.args.name.now c.args.items c.requires.early
    (g.F.Files.faults c.args.files.now)
    (g.F.Files.faults c.fill.new.files) c.in_err-full.field-0.0 c.in_err-full.ensures.fills)

pub returns-in-Ok-clause-binds : goal.returns-in-Ok-clause-binds
returns-in-Ok-clause-binds g c =
    comes (g.F.Files.held c.args.files.now) c.args.kernels.now c.args.name.now c.args.items c.requires.early
    (Whole c.in_ok-full.full) (Call (meaning c.in-Ok.bound))
    c.in_ok-full.ensures.fills (sym c.in_ok-bound.ensures.bound ∙ ap answer c.in-Ok.is)

pub returns-in-Ok-clause-good : goal.returns-in-Ok-clause-good
returns-in-Ok-clause-good g c =
    IfOk-at_ok (IsGood c.args.kernels.now c.args.name.now) c.in-Ok.is c.in_ok-bound.ensures.good

pub returns-in-Err-clause-binds : goal.returns-in-Err-clause-binds
returns-in-Err-clause-binds g c =
    comes (g.F.Files.held c.args.files.now) c.args.kernels.now c.args.name.now c.args.items c.requires.early
    (Whole c.in_ok-full.full) (Refused c.in-Err.number)
    c.in_ok-full.ensures.fills (sym c.in_ok-bound.ensures.bound ∙ ap answer c.in-Err.is)
