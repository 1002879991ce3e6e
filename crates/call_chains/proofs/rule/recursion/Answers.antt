use Rattle.std.proofs.Common.{◌∙◌, subst, List}
use Rattle.krn_base.specs.declared.refusal.Stop.{Stop}
use Rattle.call_chains.specs.Calls.{own_calls}
use Rattle.call_chains.specs.Chains.{Rows}
use Rattle.call_chains.specs.Least.{Answers}
use Rattle.call_chains.proofs.RuleLaws.{ok_clause, only_clause, place_clause, chains_clause}
use Rattle.call_chains.proofs.rule.recursion.Goals as goal

pub returns-clause-ok : goal.returns-clause-ok
returns-clause-ok c =
    ok_clause (own_calls c.args.tree.now) c.args.exported.now c.judged.result
    (subst (λ (r : Rows). Answers r c.args.exported.now c.judged.result) (c.as_slice.ensures ∙ c.in_ok-rows.ensures)
    c.judged.ensures)

pub returns-clause-only : goal.returns-clause-only
returns-clause-only c =
    only_clause (own_calls c.args.tree.now) c.args.exported.now c.judged.result
    (subst (λ (r : Rows). Answers r c.args.exported.now c.judged.result) (c.as_slice.ensures ∙ c.in_ok-rows.ensures)
    c.judged.ensures)

pub returns-clause-place : goal.returns-clause-place
returns-clause-place c =
    place_clause (own_calls c.args.tree.now) c.args.exported.now c.judged.result
    (subst (λ (r : Rows). Answers r c.args.exported.now c.judged.result) (c.as_slice.ensures ∙ c.in_ok-rows.ensures)
    c.judged.ensures)

pub returns-clause-chains : goal.returns-clause-chains
returns-clause-chains c =
    chains_clause (own_calls c.args.tree.now) c.args.exported.now c.judged.result
    (subst (λ (r : Rows). Answers r c.args.exported.now c.judged.result) (c.as_slice.ensures ∙ c.in_ok-rows.ensures)
    c.judged.ensures)
