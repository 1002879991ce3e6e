use Rattle.std.proofs.Common.{◌∙◌, ap, sym}
use Rattle.call_binding.specs.Tests.{early}
use Rattle.call_binding.proofs.Outcomes.{refused_early}
use Rattle.call_binding.proofs.call.bind_items.Goals as goal

pub bind_late-requires-clause-early : goal.bind_late-requires-clause-early
bind_late-requires-clause-early g c =
    ap (early c.args.kernels.now c.args.name.now) (sym c.as_slice.ensures) ∙ (sym c.in_ok-number.ensures ∙ c.in-None.is)

pub returns-in-Some-clause-binds : goal.returns-in-Some-clause-binds
returns-in-Some-clause-binds g c =
    refused_early (g.F.Files.held c.args.files.now) c.args.kernels.now c.args.name.now c.args.items c.in-Some.number
    (ap (early c.args.kernels.now c.args.name.now) (sym c.as_slice.ensures)
    ∙ (sym c.in_ok-number.ensures ∙ c.in-Some.is))
