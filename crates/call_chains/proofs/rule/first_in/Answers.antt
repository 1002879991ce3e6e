use Rattle.std.proofs.Common.{◌≡◌, ◌<◌, ◌≤◌, ◌∙◌, sym, subst, arith, rules, take, length, List, refl, ap}
use Rattle.std.proofs.lemmas.List.{take_more, take_all}
use Rattle.call_chains.specs.Chains.{row}
use Rattle.call_chains.specs.Least.{IsLeast, SoFar}
use Rattle.call_chains.specs.declared.graph.OwnCall.{OwnCall}
use Rattle.call_chains.proofs.RuleLaws.{row_begins, row_ends}
use Rattle.call_chains.proofs.rule.first_in.Goals as goal

pub loop-call-init : goal.loop-call-init
loop-call-init c = row_begins c.args.chains.now.rows.now c.args.chains.now.exported.now c.args.caller c.args.first
    c.requires.least

pub loop-call-preserved : goal.loop-call-preserved
loop-call-preserved c =
    let chains = c.args.chains.now in
    let calls = c.row-calls.result.now in
    let i = c.loop-call.call-index in
    let at : i < length calls = omega arith in
    subst (λ (cs : List OwnCall). IsLeast (SoFar chains.rows.now chains.exported.now c.args.caller cs)
    c.in_ok-first.first)
    (sym (take_more calls i _ at)) (c.in_ok-first.ensures (take i calls) c.loop-call.invariant)

pub returns : goal.returns
returns c =
    let chains = c.args.chains.now in
    let calls = c.row-calls.result.now in
    let end : length calls ≤ c.loop-call.call-index = omega arith in
    let all : take c.loop-call.call-index calls ≡ row chains.rows.now c.args.caller =
    take_all c.loop-call.call-index calls end ∙ c.row-calls.ensures in
    row_ends chains.rows.now chains.exported.now c.args.caller c.loop-call.first
    (subst (λ (cs : List OwnCall). IsLeast (SoFar chains.rows.now chains.exported.now c.args.caller cs)
    c.loop-call.first) all c.loop-call.invariant)
