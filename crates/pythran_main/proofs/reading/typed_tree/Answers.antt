use Rattle.std.proofs.Common.{◌∙◌, map}
use Rattle.module_terms.specs.Lines.{routines}
use Rattle.pythran_main.specs.Reading.{numbered}
use Rattle.pythran_main.proofs.Modules.{typed_so}
use Rattle.pythran_main.proofs.reading.typed_tree.Goals as goal

pub returns-clause-one : goal.returns-clause-one
returns-clause-one c =
    typed_so (routines c.args.tree.now c.args.directives.now) c.as_slice.result.now
    (map (numbered c.args.tree.now) c.args.signatures.now) c.as_slice-2.result.now c.typed_terms.result
    (c.as_slice.ensures ∙ c.in_ok-routines.ensures.terms) (c.as_slice-2.ensures ∙ c.in_ok-numbered.ensures)
    c.typed_terms.ensures.program
