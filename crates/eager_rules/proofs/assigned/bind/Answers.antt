use Rattle.eager_rules.proofs.BoundNames.{bound_outside}
use Rattle.std.proofs.Common.{◌∙◌, ap, subst, ◌≡◌, Some, false, slice_get, List, Bool}
use Rattle.eager_rules.proofs.assigned.bind.Goals as goal

pub returns-in_ok-push-clause-outside : goal.returns-in_ok-push-clause-outside
returns-in_ok-push-clause-outside c =
    let old = c.args.names.now in
    bound_outside old.fresh c.push.new.self old.marks c.set.new.self c.args.name
    (subst (λ (l : List Bool). slice_get l c.args.name ≡ Some false) c.as_slice.ensures
    (c.is_unmarked.ensures.there c.if-is_unmarked.true)) c.set.ensures c.in_ok-push.ensures.pushed
