-- The steps of a template that is one tree are those of the tree, and going over them from the last one writes its
-- nested form.
use Rattle.std.proofs.Common.{arith, ℕ, zero, suc, ◌+◌, ◌-◌, ◌<◌, ◌≤◌, length, take, get_or, option_and_then, ◌≡◌}
use Rattle.std.proofs.Common.{refl, sym, ap, ◌∙◌, ◌++◌, ◌∷◌, [], List, Some, None, Option, true, codes}
use Rattle.std.proofs.Common.{arith, ℕ, zero, suc, ◌+◌, ◌-◌, ◌<◌, ◌≤◌, length, take, get_or, option_and_then}
use Rattle.std.proofs.Common.{append_assoc, append-nil}
use Rattle.loop_prog.specs.declared.program.TemplateStep.{TemplateStep}
use Rattle.loop_prog.specs.declared.program.TemplateStep.TheVariants as step
use Rattle.cpp_print.specs.declared.template.Operand.{Operand}
use Rattle.cpp_print.specs.declared.template.Operand.TheVariants as operand
use Rattle.cpp_print.specs.Backwards.{State, all_before, with_step_before, written}
use Rattle.cpp_print.specs.Trees.{Tree, Leaf, Word, Un, Bin, Select, grown, is_tree, nested, only_tree, postfix}
use Rattle.cpp_print.specs.Trees.{nested_or, template_text, tree_of, with_step}
use Rattle.cpp_print.specs.Words.{Text, exponent}

-- the steps of trees, the latest first
abbrev joined : List Tree → List TemplateStep
joined [] = []
joined (t ∷ trees) = joined trees ++ postfix t

-- a step keeps the steps in order
joined_step : (s : TemplateStep) (trees more : List Tree) → with_step s trees ≡ Some more →
    joined more ≡ joined trees ++ s ∷ []
joined_step (step.Leaf v) trees more is = let e : Leaf v ∷ trees ≡ more = cc in ap joined (sym e)
joined_step (step.Word x) trees more is = let e : Word x ∷ trees ≡ more = cc in ap joined (sym e)
joined_step (step.Un op) [] more is = absurd cc
joined_step (step.Un op) (t ∷ trees) more is =
    let e : Un op t ∷ trees ≡ more = cc in simp append_assoc (ap joined (sym e))
joined_step (step.Bin op) [] more is = absurd cc
joined_step (step.Bin op) (u ∷ []) more is = absurd cc
joined_step (step.Bin op) (u ∷ t ∷ trees) more is =
    let e : Bin op t u ∷ trees ≡ more = cc in simp append_assoc (ap joined (sym e))
joined_step step.Select [] more is = absurd cc
joined_step step.Select (u ∷ []) more is = absurd cc
joined_step step.Select (u ∷ t ∷ []) more is = absurd cc
joined_step step.Select (u ∷ t ∷ m ∷ trees) more is =
    let e : Select m t u ∷ trees ≡ more = cc in simp append_assoc (ap joined (sym e))

-- going over two lists of steps
before_both : (a b : List TemplateStep) (s : State) → all_before (a ++ b) s ≡ all_before a (all_before b s)
before_both [] b s = refl
before_both (x ∷ a) b s = ap (with_step_before x) (before_both a b s)

-- the steps of a tree write its nested form, and close
before_tree : (t : Tree) (o : List Operand) (text : Text) →
    all_before (postfix t) (o, text) ≡ written o (nested t ++ text)
before_tree (Leaf v) o text = refl
before_tree (Word x) o text = refl
before_tree (Un op t) o text =
    before_both (postfix t) (step.Un op ∷ []) (o, text) ∙
    (before_tree t (operand.Only op ∷ o) (exponent op ++ (codes ")" ++ text)) ∙
    ap (written o) (simp append_assoc refl))
before_tree (Bin op t u) o text =
    before_both (postfix t) (postfix u ++ step.Bin op ∷ []) (o, text) ∙
    (ap (all_before (postfix t)) (before_both (postfix u) (step.Bin op ∷ []) (o, text) ∙
    before_tree u (operand.Right op ∷ o) (codes ")" ++ text)) ∙
    (before_tree t (operand.Left op ∷ o) (codes ", " ++ (nested u ++ (codes ")" ++ text))) ∙
    ap (written o) (simp append_assoc refl)))
before_tree (Select m t u) o text =
    before_both (postfix m) (postfix t ++ (postfix u ++ step.Select ∷ [])) (o, text) ∙
    (ap (all_before (postfix m)) (before_both (postfix t) (postfix u ++ step.Select ∷ []) (o, text) ∙
    (ap (all_before (postfix t)) (before_both (postfix u) (step.Select ∷ []) (o, text) ∙
    before_tree u (operand.No ∷ o) (codes ")" ++ text)) ∙
    before_tree t (operand.Yes ∷ o) (codes ", " ++ (nested u ++ (codes ")" ++ text))))) ∙
    (before_tree m (operand.Mask ∷ o) (codes ", " ++ (nested t ++ (codes ", " ++ (nested u ++ (codes ")" ++ text))))) ∙
    ap (written o) (simp append_assoc refl)))

-- the steps of what has grown are those that there were, and the new ones
grown_by : (s : TemplateStep) (steps : List TemplateStep) (trees more : List Tree) (found : Option (List Tree)) →
    ((others : List Tree) → grown steps others ≡ Some more → joined more ≡ joined others ++ steps) →
    with_step s trees ≡ found → option_and_then (grown steps) found ≡ Some more →
    joined more ≡ joined trees ++ s ∷ steps
grown_by s steps trees more None again step is = absurd cc
grown_by s steps trees more (Some others) again step is =
    again others is ∙ rw (joined_step s trees others step) (append_assoc (joined trees) (s ∷ []) steps)

joined_grown : (steps : List TemplateStep) (trees more : List Tree) → grown steps trees ≡ Some more →
    joined more ≡ joined trees ++ steps
joined_grown [] trees more is = let e : trees ≡ more = cc in ap joined (sym e) ∙ sym (append-nil (joined trees))
joined_grown (s ∷ steps) trees more is =
    grown_by s steps trees more (with_step s trees) (λ others. joined_grown steps others more) refl is

-- the steps of a template with one tree are those of the tree
of_tree : (steps : List TemplateStep) (trees : Option (List Tree)) (t : Tree) → grown steps [] ≡ trees →
    only_tree trees ≡ Some t → steps ≡ postfix t
of_tree steps (Some (u ∷ [])) t grew is =
    let e : u ≡ t = cc in sym (joined_grown steps [] (u ∷ []) grew) ∙ ap postfix e
of_tree steps None t grew is = absurd cc
of_tree steps (Some []) t grew is = absurd cc
of_tree steps (Some (u ∷ v ∷ trees)) t grew is = absurd cc

template_law : (steps : List TemplateStep) (found : Option Tree) → tree_of steps ≡ found → is_tree found ≡ true →
    all_before steps ([], []) ≡ ([], nested_or found)
template_law steps None is tree = absurd cc
template_law steps (Some t) is tree = ap (λ xs. all_before xs ([], [])) (of_tree steps (grown steps []) t refl is) ∙
    (before_tree t [] [] ∙ ap (λ x. ([], x)) (append-nil (nested t)))

-- the last of so many steps
last_before : (steps : List TemplateStep) (i : ℕ) (s : State) (d : TemplateStep) → i < length steps →
    all_before (take (i + 1) steps) s ≡ all_before (take i steps) (with_step_before (get_or steps i d) s)
last_before [] i s d lt = absurd (omega arith)
last_before (x ∷ steps) zero s d lt = refl
last_before (x ∷ steps) (suc i) s d lt =
    let up : suc i + 1 ≡ suc (i + 1) = omega arith in
    rw up (ap (with_step_before x) (last_before steps i s d (omega arith)))

-- one step less is left
pub next : (steps : List TemplateStep) (k : ℕ) (s t all : State) (d : TemplateStep) → k < length steps →
    t ≡ with_step_before (get_or steps (length steps - 1 - k) d) s →
    all_before (take (length steps - k) steps) s ≡ all → all_before (take (length steps - (k + 1)) steps) t ≡ all
next steps k s t all d lt is kept =
    let at : length steps - 1 - k ≡ length steps - (k + 1) = omega arith in
    let up : length steps - k ≡ length steps - (k + 1) + 1 = omega arith in
    let small : length steps - (k + 1) < length steps = omega arith in
    ap (all_before (take (length steps - (k + 1)) steps)) (is ∙ ap (λ i. with_step_before (get_or steps i d) s) at) ∙
    (sym (last_before steps (length steps - (k + 1)) s d small) ∙
    (ap (λ i. all_before (take i steps) s) (sym up) ∙ kept))

-- where none is left the text is whole
pub whole : (steps : List TemplateStep) (k : ℕ) (o : List Operand) (text : Text) → is_tree (tree_of steps) ≡ true →
    length steps ≤ k → all_before (take (length steps - k) steps) (o, text) ≡ all_before steps ([], []) →
    text ≡ template_text steps
whole steps k o text tree le kept =
    let none : length steps - k ≡ 0 = omega arith in
    let law : (o, text) ≡ ([], template_text steps) = ap (λ i. all_before (take i steps) (o, text)) (sym none) ∙
    (kept ∙ template_law steps (tree_of steps) refl tree) in
    ap (λ s. s.1) law
