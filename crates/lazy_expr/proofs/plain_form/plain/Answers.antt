use Rattle.lazy_expr.specs.Plain.{plain_kernel}
use Rattle.lazy_expr.specs.Promise.{KeepsOutcomes}
use Rattle.lazy_expr.specs.Valid.{KeepsConditions}
use Rattle.lazy_expr.proofs.Kept.{kept_by}
use Rattle.lazy_expr.proofs.plain_form.plain.Goals as goal

pub returns-clause-outcomes : goal.returns-clause-outcomes
returns-clause-outcomes c =
    kept_by (KeepsOutcomes c.args.instance.now) (plain_kernel c.args.instance.now) c.form_of.result
    (c.plain_law.ensures c.args.instance.now c.requires.flat) c.form_of.ensures

pub returns-clause-conditions : goal.returns-clause-conditions
returns-clause-conditions c =
    kept_by (KeepsConditions c.args.instance.now) (plain_kernel c.args.instance.now) c.form_of.result
    (c.condition_law.ensures.kernel c.args.instance.now c.requires.flat) c.form_of.ensures
