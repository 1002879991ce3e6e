use Rattle.std.proofs.Common.{◌≡◌, IfOk, true, List, subst}
use Rattle.std.specs.List.{All}
use Rattle.eager_rules.specs.declared.program.Instance.{Instance}
use Rattle.array_types.specs.Numbering.{IsNumbered}
use Rattle.array_types.proofs.Bindings.{all_first}
use Rattle.array_types.proofs.numbering.are_numbered.Goals as goal

pub returns : goal.returns
returns c =
    subst (λ (instances : List Instance). IfOk c.all_numbered.result (λ b. b ≡ true → All IsNumbered instances))
    c.as_slice.ensures (all_first c.all_numbered.result c.as_slice.result.now c.all_numbered.ensures)
