use Rattle.std.proofs.Common.{subst, List, ℕ, ◌∙◌}
use Rattle.krn_base.specs.declared.refusal.Rule.TheVariants.{Unassigned}
use Rattle.use_def.specs.Unassigned.{IsAccepted, IsFirst, Refuses}
use Rattle.pythran_main.specs.Layers.{IsOne}
use Rattle.pythran_main.specs.Reading.{Tests, Answered}
use Rattle.pythran_main.proofs.Modules.{tested}
use Rattle.pythran_main.proofs.reading.test_assigned.Goals as goal

pub returns : goal.returns
returns c =
    let tree = c.args.tree.now in
    let numbers = c.as_slice.result.now in
    let e = c.assigned.ensures in
    subst (λ (ns : List ℕ). Answered (IsOne (Tests Unassigned (IsAccepted tree ns) (IsFirst tree ns)))
    c.assigned.result)
    (c.as_slice.ensures.value ∙ c.in_ok-numbers.ensures)
    (tested Unassigned (IsAccepted tree numbers) (IsFirst tree numbers) c.assigned.result (Refuses tree numbers)
    (λ r h. h) e.ok e.refused e.only e.place)
