use Rattle.lazy_expr.specs.Promise.{ProgramKeepsOutcomes, plain_program}
use Rattle.lazy_expr.specs.Valid.{ProgramKeepsConditions}
use Rattle.lazy_expr.proofs.Kept.{kept_by}
use Rattle.lazy_expr.proofs.Outcomes.{program_keeps}
use Rattle.lazy_expr.proofs.plain_form.plain_program.Goals as goal

pub returns-clause-outcomes : goal.returns-clause-outcomes
returns-clause-outcomes c =
    kept_by (ProgramKeepsOutcomes c.args.program.now) (plain_program c.args.program.now) c.program_form.result
    (program_keeps c.args.program.now c.requires.sound c.requires.flat c.plain_law.ensures) c.program_form.ensures

pub returns-clause-conditions : goal.returns-clause-conditions
returns-clause-conditions c =
    kept_by (ProgramKeepsConditions c.args.program.now) (plain_program c.args.program.now) c.program_form.result
    (c.condition_law.ensures.whole c.args.program.now c.requires.sound c.requires.flat) c.program_form.ensures
