use Rattle.std.proofs.Common.{◌∙◌}
use Rattle.pythran_main.proofs.Buffers.{as_bound, keeps}
use Rattle.pythran_main.proofs.program.evaluate.Goals as goal

pub returns-clause-outcome : goal.returns-clause-outcome
returns-clause-outcome c =
    c.in_ok-outcome.ensures.outcome ∙ as_bound c.args.program.now c.args.kernel c.args.call.now

pub returns-clause-kept : goal.returns-clause-kept
returns-clause-kept c =
    let call = c.requires.fits in
    keeps c.args.call.now c.in_ok-outcome.outcome
    (c.in_ok-outcome.ensures.buffers call.instance call.is c.requires.typed call.fits)
