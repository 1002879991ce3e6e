use mathlib.Core.Path.{fun_ext}
use Rattle.std.proofs.Common.{sym, ap, ◌∙◌}
use Rattle.std.specs.Option.{option_map}
use Rattle.use_def.specs.Flows.{both}
use Rattle.use_def.specs.Sets.{marked, outside, fresh, is_one_of, set_of}
use Rattle.use_def.proofs.SetLaws.{first_kept, next_kept, seen}
use Rattle.use_def.proofs.Steps.{if_ok_more}
use Rattle.use_def.proofs.names.kept.Goals as goal

pub returns-in-None : goal.returns-in-None
returns-in-None c =
    let names = c.args.names.now in
    if_ok_more c.marked_of.result _ _
    (λ texts is. fun_ext (first_kept (fresh names) (seen texts.items) (marked names)
    (is ∙ ap (λ l. both (is_one_of (seen l)) (marked names)) c.as_slice.ensures.value))
    ∙ sym (ap (λ o. both (set_of (outside names) (option_map (λ v. seen v.items) o)) (marked names)) c.in-None.is))
    c.marked_of.ensures

pub returns-in-Some : goal.returns-in-Some
returns-in-Some c =
    let names = c.args.names.now in
    if_ok_more c.marked_of-in-Some.result _ _
    (λ texts is. fun_ext (next_kept (fresh names) (seen c.in-Some.texts.items) (seen texts.items) (marked names)
    (is ∙ ap (λ l. both (is_one_of (seen l)) (marked names)) c.as_slice-in-Some.ensures.value))
    ∙ sym (ap (λ o. both (set_of (outside names) (option_map (λ v. seen v.items) o)) (marked names)) c.in-Some.is))
    c.marked_of-in-Some.ensures
