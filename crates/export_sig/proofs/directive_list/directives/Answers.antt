use Rattle.std.proofs.Common.{List, ap, ◌∙◌}
use Rattle.std.specs.List.{list_any}
use Rattle.py_parse.specs.declared.tree.Function.{Function}
use Rattle.export_sig.specs.Listing.{is_place}
use Rattle.export_sig.specs.Loops.{all_loops}
use Rattle.export_sig.proofs.Clauses.{directives_answer, directives_ok, directives_refused, directives_only}
use Rattle.export_sig.proofs.Clauses.{directives_place}
use Rattle.export_sig.proofs.directive_list.directives.Goals as goal

pub returns-clause-directives : goal.returns-clause-directives
returns-clause-directives c =
    directives_ok c.args.module.now c.in_ok-loops.loops.keys c.listed.result
    (directives_answer c.args.module.now c.in_ok-loops.loops.keys c.as_slice-2.result.now c.listed.result
    c.as_slice-2.ensures
    (record {
      are = λ at. c.in_ok-loops.ensures at ∙ ap (λ (fs : List Function). list_any (is_place at)
          (all_loops fs)) c.as_slice.ensures;
    }) c.listed.ensures)

pub returns-clause-refused : goal.returns-clause-refused
returns-clause-refused c =
    directives_refused c.args.module.now c.in_ok-loops.loops.keys c.listed.result
    (directives_answer c.args.module.now c.in_ok-loops.loops.keys c.as_slice-2.result.now c.listed.result
    c.as_slice-2.ensures
    (record {
      are = λ at. c.in_ok-loops.ensures at ∙ ap (λ (fs : List Function). list_any (is_place at)
          (all_loops fs)) c.as_slice.ensures;
    }) c.listed.ensures)

pub returns-clause-only : goal.returns-clause-only
returns-clause-only c =
    directives_only c.args.module.now c.in_ok-loops.loops.keys c.listed.result
    (directives_answer c.args.module.now c.in_ok-loops.loops.keys c.as_slice-2.result.now c.listed.result
    c.as_slice-2.ensures
    (record {
      are = λ at. c.in_ok-loops.ensures at ∙ ap (λ (fs : List Function). list_any (is_place at)
          (all_loops fs)) c.as_slice.ensures;
    }) c.listed.ensures)

pub returns-clause-place : goal.returns-clause-place
returns-clause-place c =
    directives_place c.args.module.now c.in_ok-loops.loops.keys c.listed.result
    (directives_answer c.args.module.now c.in_ok-loops.loops.keys c.as_slice-2.result.now c.listed.result
    c.as_slice-2.ensures
    (record {
      are = λ at. c.in_ok-loops.ensures at ∙ ap (λ (fs : List Function). list_any (is_place at)
          (all_loops fs)) c.as_slice.ensures;
    }) c.listed.ensures)
