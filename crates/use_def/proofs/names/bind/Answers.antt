use mathlib.Core.Path.{fun_ext}
use Rattle.std.proofs.Common.{◌≡◌, false, ◌++◌, ◌∷◌, [], ap, ◌∙◌}
use Rattle.use_def.specs.Sets.{marked, fresh}
use Rattle.use_def.proofs.SetLaws.{bound_assigned, bound_outside, seen, seen_push, not_either}
use Rattle.use_def.proofs.names.bind.Goals as goal

pub returns-in_ok-push-clause-assigned : goal.returns-in_ok-push-clause-assigned
returns-in_ok-push-clause-assigned c =
    let old = c.args.names.now in
    let new = c.set_mark.new.names in
    fun_ext (bound_assigned c.args.text.now old.ended new.ended (marked old) (marked new) c.in_ok-set_mark.ensures.ended
    c.in_ok-set_mark.ensures.marks)

pub returns-in_ok-push-clause-outside : goal.returns-in_ok-push-clause-outside
returns-in_ok-push-clause-outside c =
    let old = c.args.names.now in
    let new = c.set_mark.new.names in
    let un : marked old c.args.text.now ≡ false =
    not_either c.is_bound.result old.ended (marked old c.args.text.now) c.if-not-is_bound.true c.is_bound.ensures in
    fun_ext (bound_outside c.args.text.now (fresh old) (seen c.push.new.self.items) (marked old) (marked new)
    (seen_push new.fresh.items c.push.new.self.items c.args.text c.in_ok-push.ensures.items
    ∙ ap (λ l. seen l ++ c.args.text.now ∷ []) c.in_ok-set_mark.ensures.fresh)
    c.in_ok-set_mark.ensures.marks un)
