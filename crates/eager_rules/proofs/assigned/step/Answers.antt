use Rattle.std.proofs.Common.{◌∙◌, sym}
use Rattle.std.specs.List.{list_all}
use Rattle.eager_rules.specs.Assigned.{bindings}
use Rattle.eager_rules.specs.Sound.{names_fit, operand_bound}
use Rattle.eager_rules.proofs.BoundNames.{step_goes}
use Rattle.eager_rules.proofs.assigned.step.Goals as goal

pub returns : goal.returns
returns c =
    let old = c.args.names.now in
    step_goes old c.bind_all.new.names c.args.to.now (list_all (operand_bound (bindings old)) c.args.reads.now)
    (names_fit (bindings old) c.args.to.now) (sym c.are_bound.ensures ∙ c.if-not-are_bound.false)
    (sym c.are_names.ensures ∙ c.if-not-are_names.false) c.in_ok-bind_all.ensures.marks
    c.in_ok-bind_all.ensures.outside c.in_ok-bind_all.ensures.ended
