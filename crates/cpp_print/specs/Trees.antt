-- Templates as trees: their steps in postfix order, and their nested form.
use Rattle.std.specs.Prelude.{ℕ, Bool, true, false, List, [], ◌∷◌, ◌++◌, codes, Option, Some, None}
use Rattle.std.specs.Prelude.{option_and_then}
use Rattle.krn_base.specs.declared.operation.BinOp.{BinOp}
use Rattle.krn_base.specs.declared.operation.UnOp.{UnOp}
use Rattle.eager_rules.specs.declared.program.Oper.{Oper}
use Rattle.loop_prog.specs.declared.program.TemplateStep.{TemplateStep}
use Rattle.loop_prog.specs.declared.program.TemplateStep.TheVariants as step
use Rattle.cpp_print.specs.Words.{Text, bin_name, exponent, opening, oper_text, un_name, view_reg}

pub data Tree : Type 0 where
  Leaf : ℕ → Tree
  Word : Oper → Tree
  Un : UnOp → Tree → Tree
  Bin : BinOp → Tree → Tree → Tree
  Select : Tree → Tree → Tree → Tree

-- each operation behind its operands
abbrev pub postfix : Tree → List TemplateStep
postfix (Leaf v) = step.Leaf v ∷ []
postfix (Word x) = step.Word x ∷ []
postfix (Un op t) = postfix t ++ step.Un op ∷ []
postfix (Bin op t u) = postfix t ++ (postfix u ++ step.Bin op ∷ [])
postfix (Select m t u) = postfix m ++ (postfix t ++ (postfix u ++ step.Select ∷ []))

abbrev pub nested : Tree → Text
nested (Leaf v) = view_reg v
nested (Word x) = oper_text x
nested (Un op t) = opening (un_name op) ++ (nested t ++ (exponent op ++ codes ")"))
nested (Bin op t u) = opening (bin_name op) ++ (nested t ++ (codes ", " ++ (nested u ++ codes ")")))
nested (Select m t u) =
    opening (codes "select") ++ (nested m ++ (codes ", " ++ (nested t ++ (codes ", " ++ (nested u ++ codes ")")))))

-- a step behind trees, the latest first; nothing where there are too few
abbrev pub with_step : TemplateStep → List Tree → Option (List Tree)
with_step (step.Leaf v) trees = Some (Leaf v ∷ trees)
with_step (step.Word x) trees = Some (Word x ∷ trees)
with_step (step.Un op) (t ∷ trees) = Some (Un op t ∷ trees)
with_step (step.Bin op) (u ∷ t ∷ trees) = Some (Bin op t u ∷ trees)
with_step step.Select (u ∷ t ∷ m ∷ trees) = Some (Select m t u ∷ trees)
with_step _ trees = None

abbrev pub grown : List TemplateStep → List Tree → Option (List Tree)
grown [] trees = Some trees
grown (s ∷ steps) trees = option_and_then (grown steps) (with_step s trees)

-- the tree whose postfix order steps are, where they are that of one
abbrev pub only_tree : Option (List Tree) → Option Tree
only_tree (Some (t ∷ [])) = Some t
only_tree _ = None

abbrev pub tree_of : List TemplateStep → Option Tree
tree_of steps = only_tree (grown steps [])

abbrev pub is_tree : Option Tree → Bool
is_tree (Some t) = true
is_tree None = false

abbrev pub nested_or : Option Tree → Text
nested_or (Some t) = nested t
nested_or None = []

-- the text of a template whose steps are those of one tree
abbrev pub template_text : List TemplateStep → Text
template_text steps = nested_or (tree_of steps)
