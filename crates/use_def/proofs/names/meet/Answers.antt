use mathlib.Core.Path.{fun_ext}
use Rattle.std.proofs.Common.{◌∙◌}
use Rattle.use_def.specs.Sets.{marked, outside, common_set}
use Rattle.use_def.proofs.SetLaws.{met_going}
use Rattle.use_def.proofs.names.meet.Goals as goal

pub returns-in_ok-kept : goal.returns-in_ok-kept
returns-in_ok-kept c =
    let names = c.args.names.now in
    c.in_ok-kept.ensures
    ∙ fun_ext (met_going (common_set (outside names) c.args.common.now) (marked names) names.ended
    c.if-not-names.true)
