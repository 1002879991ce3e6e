use Rattle.std.proofs.Common.{ap, ◌∙◌}
use Rattle.module_names.specs.Places.{answer}
use Rattle.module_names.proofs.Firsts.{is_answer, ok_clause, refused_clause, only_clause, place_clause}
use Rattle.module_names.proofs.least.answer_first.Goals as goal

pub returns-clause-ok : goal.returns-clause-ok
returns-clause-ok c = λ marks is.
    ok_clause c.args.rule marks c.answer.result (is_answer c.args.rule marks c.answer.result
    (c.answer.ensures ∙ ap (answer c.args.rule) is))

pub returns-clause-refused : goal.returns-clause-refused
returns-clause-refused c = λ marks is.
    refused_clause c.args.rule marks c.answer.result (is_answer c.args.rule marks c.answer.result
    (c.answer.ensures ∙ ap (answer c.args.rule) is))

pub returns-clause-only : goal.returns-clause-only
returns-clause-only c = λ marks is none.
    only_clause c.args.rule marks c.answer.result (is_answer c.args.rule marks c.answer.result
    (c.answer.ensures ∙ ap (answer c.args.rule) is)) none

pub returns-clause-place : goal.returns-clause-place
returns-clause-place c = λ marks is at here.
    place_clause c.args.rule marks c.answer.result (is_answer c.args.rule marks c.answer.result
    (c.answer.ensures ∙ ap (answer c.args.rule) is)) at here
