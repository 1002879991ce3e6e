use Rattle.std.proofs.Common.{subst, List, ℕ, ◌∙◌}
use Rattle.krn_base.specs.declared.refusal.Rule.TheVariants.{Recursion}
use Rattle.call_chains.specs.Calls.{own_calls}
use Rattle.call_chains.specs.Chains.{IsAccepted, IsFirst, Refuses}
use Rattle.pythran_main.specs.Layers.{IsOne}
use Rattle.pythran_main.specs.Reading.{Tests, Answered}
use Rattle.pythran_main.proofs.Modules.{tested}
use Rattle.pythran_main.proofs.reading.test_chains.Goals as goal

pub returns : goal.returns
returns c =
    let rows = own_calls c.args.tree.now in
    let numbers = c.as_slice.result.now in
    let e = c.recursion.ensures in
    subst (λ (ns : List ℕ). Answered (IsOne (Tests Recursion (IsAccepted rows ns) (IsFirst rows ns)))
    c.recursion.result)
    (c.as_slice.ensures.value ∙ c.in_ok-numbers.ensures)
    (tested Recursion (IsAccepted rows numbers) (IsFirst rows numbers) c.recursion.result (Refuses rows numbers)
    (λ r h. h) e.ok e.refused e.only e.place)
