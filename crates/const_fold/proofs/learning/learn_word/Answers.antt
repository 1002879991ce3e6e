use Rattle.std.proofs.Common.{◌∙◌, ap, ap₂, sym, true, false, Option, List}
use Rattle.eager_rules.specs.Types.{Ty}
use Rattle.eager_rules.specs.declared.program.Oper.{Oper}
use Rattle.const_fold.specs.Folded.{Literals, enter, makes}
use Rattle.const_fold.proofs.LearnLaws.{entered, no_literal}
use Rattle.const_fold.proofs.learning.learn_word.Goals as goal

pub returns-in-Some : goal.returns-in-Some
returns-in-Some c =
    c.enter.ensures
    ∙ (ap (λ (l : Option Oper). enter true c.args.to l c.args.table.now.items)
    (sym c.in-Some.is ∙ (c.in_ok-literal.ensures
    ∙ ap₂ (λ (types : List Ty) (table : Literals). makes types table c.args.to c.args.op c.args.args.now)
    c.as_slice.ensures c.as_slice-then-may_fold.ensures.value))
    ∙ entered c.args.f.now c.args.tallies.now c.args.to c.args.op c.args.args.now c.args.table.now.items true
    c.requires (sym c.if-may_fold.true ∙ c.may_fold.ensures))

pub returns-in_default : goal.returns-in_default
returns-in_default c =
    sym (ap (λ (l : Option Oper). enter true c.args.to l c.args.table.now.items)
    (sym (c.in_ok-literal.ensures
    ∙ ap₂ (λ (types : List Ty) (table : Literals). makes types table c.args.to c.args.op c.args.args.now)
    c.as_slice.ensures c.as_slice-then-may_fold.ensures.value)
    ∙ no_literal c.in_ok-literal.literal c.in_default.not-Some))
    ∙ entered c.args.f.now c.args.tallies.now c.args.to c.args.op c.args.args.now c.args.table.now.items true
    c.requires (sym c.if-may_fold.true ∙ c.may_fold.ensures)

pub returns-else-may_fold : goal.returns-else-may_fold
returns-else-may_fold c =
    entered c.args.f.now c.args.tallies.now c.args.to c.args.op c.args.args.now c.args.table.now.items false
    c.requires (sym c.if-may_fold.false ∙ c.may_fold.ensures)
