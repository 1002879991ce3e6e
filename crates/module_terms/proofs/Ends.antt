-- The last of a list, apart from the others.
use Rattle.std.proofs.Common.{◌≡◌, List, [], ◌∷◌, ◌++◌, refl, ap, Option, Some}
use Rattle.module_terms.specs.declared.term.Step.{Step}
use Rattle.module_terms.specs.Lines.{behind, split_last}

pub last_apart : (before : List Step) (last : Step) → split_last (before ++ last ∷ []) ≡ Some (before, last)
last_apart [] last = refl
last_apart (step ∷ before) last = ap (λ (o : Option (List Step × Step)). Some (behind step o)) (last_apart before last)
