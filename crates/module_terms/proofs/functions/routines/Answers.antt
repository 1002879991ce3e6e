use Rattle.std.proofs.Common.{arith, ◌≡◌, ◌<◌, ◌++◌, ◌∷◌, [], List, length, map, refl, ap, ap₂, ◌∙◌}
use Rattle.export_sig.specs.declared.directive.Directive.{Directive}
use Rattle.py_parse.specs.declared.tree.Import.{Import}
use Rattle.module_terms.specs.Lines.{routine}
use Rattle.module_terms.specs.declared.term.Routine.{Routine}
use Rattle.module_terms.proofs.Loops.{item_here, joins}
use Rattle.module_terms.proofs.functions.routines.Goals as goal

pub loop-function-preserved : goal.loop-function-preserved
loop-function-preserved c =
    let at : c.loop-function.function-index < length c.as_slice-function-items.result.now = omega arith in
    let imports : List Import = c.args.«module».now.imports in
    let directives : List Directive = c.args.directives.now in
    let made : c.in_ok-routine.field-0 ≡ routine imports directives c.function-item.result =
    c.in_ok-routine.ensures
    ∙ ap₂ (λ (i : List Import) (d : List Directive). routine i d c.function-item.result)
    (c.in_ok-numpy.ensures ∙ c.as_slice.ensures) c.in_ok-targets.ensures in
    joins (map (routine imports directives)) _ _ c.function-item.result _ _ _ _
    (item_here c.as_slice-function-items.result.now c.loop-function.function-index c.function-item.result at
    c.function-item.is)
    refl c.loop-function.invariant
    (c.in_ok-push.ensures.pushed ∙ ap (λ (r : Routine). c.loop-function.list ++ r ∷ []) made)
