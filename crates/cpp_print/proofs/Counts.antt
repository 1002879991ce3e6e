-- Steps are those of one tree where the number of trees that they leave is one.
use Rattle.std.proofs.Common.{arith, ◌≡◌, refl, sym, ◌∙◌, ◌∷◌, [], List, None, true, false, ℕ, ◌+◌}
use Rattle.std.proofs.Common.{◌-◌, ◌<◌, ◌≤◌, length, nat_le, if◌then◌else◌}
use Rattle.std.proofs.lemmas.Bool.Decides.{nat_tests}
use Rattle.loop_prog.specs.Conditions.{depth_after, is_one}
use Rattle.loop_prog.specs.declared.program.TemplateStep.{TemplateStep}
use Rattle.loop_prog.specs.declared.program.TemplateStep.TheVariants as step
use Rattle.cpp_print.specs.Trees.{Tree, Leaf, Word, Un, Bin, Select, grown, is_tree, only_tree}

-- where there are enough trees, and where there are too few
enough : (steps : List TemplateStep) (taken n m : ℕ) → taken ≤ n → m ≡ n - taken + 1 →
    is_one (if nat_le taken n then depth_after steps (n - taken + 1) else None) ≡ is_one (depth_after steps m)
enough steps taken n m le is =
    let fits : nat_le taken n ≡ true = grind (arith, nat_tests, le) in
    rw (fits, sym is) refl

few : (steps : List TemplateStep) (taken n : ℕ) → n < taken →
    is_one (if nat_le taken n then depth_after steps (n - taken + 1) else None) ≡ false
few steps taken n lt = let fits : nat_le taken n ≡ false = grind (arith, nat_tests, lt) in rw fits refl

pub counted : (steps : List TemplateStep) (trees : List Tree) →
    is_one (depth_after steps (length trees)) ≡ is_tree (only_tree (grown steps trees))
counted [] [] = refl
counted [] (t ∷ []) = refl
counted [] (t ∷ u ∷ trees) = grind (arith, nat_tests)
counted (step.Leaf v ∷ steps) trees =
    enough steps 0 (length trees) _ (omega arith) (omega arith) ∙ counted steps (Leaf v ∷ trees)
counted (step.Word x ∷ steps) trees =
    enough steps 0 (length trees) _ (omega arith) (omega arith) ∙ counted steps (Word x ∷ trees)
counted (step.Un op ∷ steps) [] = few steps 1 0 (omega arith)
counted (step.Un op ∷ steps) (t ∷ trees) =
    enough steps 1 (length (t ∷ trees)) _ (omega arith) (omega arith) ∙ counted steps (Un op t ∷ trees)
counted (step.Bin op ∷ steps) [] = few steps 2 0 (omega arith)
counted (step.Bin op ∷ steps) (u ∷ []) = few steps 2 1 (omega arith)
counted (step.Bin op ∷ steps) (u ∷ t ∷ trees) =
    enough steps 2 (length (u ∷ t ∷ trees)) _ (omega arith) (omega arith) ∙ counted steps (Bin op t u ∷ trees)
counted (step.Select ∷ steps) [] = few steps 3 0 (omega arith)
counted (step.Select ∷ steps) (u ∷ []) = few steps 3 1 (omega arith)
counted (step.Select ∷ steps) (u ∷ t ∷ []) = few steps 3 2 (omega arith)
counted (step.Select ∷ steps) (u ∷ t ∷ m ∷ trees) =
    enough steps 3 (length (u ∷ t ∷ m ∷ trees)) _ (omega arith) (omega arith) ∙ counted steps (Select m t u ∷ trees)
