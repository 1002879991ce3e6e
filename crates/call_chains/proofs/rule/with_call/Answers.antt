use Rattle.std.proofs.Common.{◌≡◌, ◌↔◌, ◌∙◌, sym, true, false, arith, rules}
use Rattle.call_chains.specs.Chains.{IsRefused}
use Rattle.call_chains.specs.Least.{is_sooner}
use Rattle.call_chains.proofs.MarkLaws.{not_true}
use Rattle.call_chains.proofs.RuleLaws.{not_sooner, not_refused, is_sooner_refused}
use Rattle.call_chains.proofs.rule.with_call.Goals as goal

pub returns-then-not-comes_sooner : goal.returns-then-not-comes_sooner
returns-then-not-comes_sooner c = λ before is.
    let chains = c.args.chains.now in
    let later : is_sooner c.args.first c.args.call.at ≡ false = grind (arith) in
    not_sooner chains.rows.now chains.exported.now c.args.caller before c.args.call c.args.first later is

pub returns-then-branch : goal.returns-then-branch
returns-then-branch c = λ before is.
    let chains = c.args.chains.now in
    let sooner : is_sooner c.args.first c.args.call.at ≡ true = grind (arith) in
    is_sooner_refused chains.rows.now chains.exported.now c.args.caller before c.args.call c.args.first
    (c.in_ok-is_refused.ensures.0 c.if-branch.true) sooner is

pub returns-else-branch : goal.returns-else-branch
returns-else-branch c = λ before is.
    let chains = c.args.chains.now in
    not_refused chains.rows.now chains.exported.now c.args.caller before c.args.call c.args.first
    (λ refused. not_true _ (c.in_ok-is_refused.ensures.1 refused) c.if-branch.false) is
