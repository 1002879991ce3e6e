use Rattle.std.proofs.Common.{rules, arith, ◌≡◌, List, Some, None, slice_get, ap, ◌∙◌, sym}
use Rattle.std.proofs.lemmas.Grind.{common_steps}
use Rattle.std.proofs.lemmas.Option.{gets}
use Rattle.export_sig.specs.declared.directive.Directive.{Directive}
use Rattle.module_terms.specs.Targets.{number_from}
use Rattle.module_terms.proofs.Places.{reductions_of, by_number, leads}
use Rattle.module_terms.proofs.block.reductions_at.Goals as goal

pub returns-in-None : goal.returns-in-None
returns-in-None c =
    let ds : List Directive = c.args.targets.now.directives.now in
    let none : number_from 0 c.args.at ds ≡ None = search rules in
    ap (by_number ds) (sym none) ∙ leads c.args.at ds

pub returns-in-None-get : goal.returns-in-None-get
returns-in-None-get c =
    let ds : List Directive = c.args.targets.now.directives.now in
    let some : number_from 0 c.args.at ds ≡ Some c.in-Some.n = search rules in
    let gone : slice_get ds c.in-Some.n ≡ None =
    (let l = c.in-None-get.ensures.lookup in grind (arith, common_steps, gets, l)) in
    ap reductions_of (sym gone) ∙ ap (by_number ds) (sym some) ∙ leads c.args.at ds

pub returns-in_ok-copies-in-Some-get : goal.returns-in_ok-copies-in-Some-get
returns-in_ok-copies-in-Some-get c =
    let ds : List Directive = c.args.targets.now.directives.now in
    let some : number_from 0 c.args.at ds ≡ Some c.in-Some.n = search rules in
    let there : slice_get ds c.in-Some.n ≡ Some c.in-Some-get.directive.now =
    (let l = c.in-Some-get.ensures.lookup in grind (arith, common_steps, gets, l)) in
    ap Some (c.in_ok-copies-in-Some-get.ensures ∙ c.as_slice.ensures)
    ∙ ap reductions_of (sym there) ∙ ap (by_number ds) (sym some) ∙ leads c.args.at ds
