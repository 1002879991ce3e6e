use Rattle.std.proofs.Common.{◌∙◌, subst, sym}
use Rattle.eager_rules.specs.Kept as kept
use Rattle.pythran_main.proofs.Buffers.{as_bound, keeps}
use Rattle.pythran_main.proofs.Runs.{gives_eager, fits_loops}
use Rattle.pythran_main.proofs.program.run_loops.Goals as goal

pub run_program-requires : goal.run_program-requires
run_program-requires c =
    let call = c.requires.fits in
    let loops = c.in_ok-loops.ensures in
    record {
      fits = fits_loops c.args.found.now c.in_ok-loops.loops c.args.kernel call.instance call.is c.requires.kept
          loops.sound loops.form c.args.call.now call.fits;
    }

pub returns-clause-kept : goal.returns-clause-kept
returns-clause-kept c =
    let call = c.requires.fits in
    let loops = c.in_ok-loops.ensures in
    keeps c.args.call.now c.in_ok-ran.ran.outcome
    (subst (kept.KeepsBuffers c.args.call.now)
    (sym (gives_eager c.args.found.now c.in_ok-loops.loops c.args.kernel call.instance call.is c.requires.kept
    loops.sound loops.form c.args.call.now call.fits loops.checked loops.outcomes
    c.in_ok-ran.ran.outcome c.in_ok-ran.ran.counts c.in_ok-ran.ensures))
    (c.typed_runs_keep_types.ensures.filled c.args.kernel call.instance call.is c.args.call.now call.fits))

pub returns-clause-outcome : goal.returns-clause-outcome
returns-clause-outcome c =
    let call = c.requires.fits in
    let loops = c.in_ok-loops.ensures in
    gives_eager c.args.found.now c.in_ok-loops.loops c.args.kernel call.instance call.is c.requires.kept
    loops.sound loops.form c.args.call.now call.fits loops.checked loops.outcomes
    c.in_ok-ran.ran.outcome c.in_ok-ran.ran.counts c.in_ok-ran.ensures
    ∙ as_bound c.args.found.now.program c.args.kernel c.args.call.now
