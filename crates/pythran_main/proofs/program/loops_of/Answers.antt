use Rattle.std.proofs.Common.{subst, sym, ◌∙◌}
use Rattle.lazy_expr.specs.Promise.{ProgramKeepsOutcomes}
use Rattle.pythran_main.proofs.Forms.{flat_kernels, keeps_own}
use Rattle.pythran_main.proofs.Loops.{sound_by_test}
use Rattle.pythran_main.proofs.program.loops_of.Goals as goal

pub plain_program-requires-clause-flat : goal.plain_program-requires-clause-flat
plain_program-requires-clause-flat c = flat_kernels c.args.found.now.flat c.requires.kept.no_calls

pub plain_program-requires-clause-sound : goal.plain_program-requires-clause-sound
plain_program-requires-clause-sound c =
    c.requires.kept.sound
    (sound_by_test c.args.found.now.program c.requires.kept.typed
    (sym c.in_ok-all_assigned.ensures ∙ c.if-not-branch.false))

pub returns-in-Ok-clause-outcomes : goal.returns-in-Ok-clause-outcomes
returns-in-Ok-clause-outcomes c =
    subst (ProgramKeepsOutcomes c.args.found.now.program) (sym c.in-Ok.ensures.0)
    (keeps_own c.args.found.now _ c.requires.kept
    (sound_by_test c.args.found.now.program c.requires.kept.typed
    (sym c.in_ok-all_assigned.ensures ∙ c.if-not-branch.false))
    c.in_ok-loops.ensures.outcomes)
