-- The nested form of a template, written from its end to its beginning: the steps are gone over from the last one.
use Rattle.std.specs.Prelude.{◌≡◌, List, [], ◌∷◌, ◌++◌, codes, Option, Some, None}
use Rattle.loop_prog.specs.declared.program.TemplateStep.{TemplateStep}
use Rattle.loop_prog.specs.declared.program.TemplateStep.TheVariants as step
use Rattle.cpp_print.specs.declared.template.Operand.{Operand}
use Rattle.cpp_print.specs.declared.template.Operand.TheVariants as operand
use Rattle.cpp_print.specs.Words.{Text, bin_name, exponent, opening, oper_text, un_name, view_reg}

-- the operands that are being written, the innermost first, and the text that stands behind what is yet to come
abbrev pub State : Type 0
State = List Operand × Text

-- the operand to the left of one
abbrev pub before : Operand → Option Operand
before (operand.Right op) = Some (operand.Left op)
before operand.No = Some operand.Yes
before operand.Yes = Some operand.Mask
before _ = None

-- the name of the operation whose operand it is
abbrev pub operation : Operand → Text
operation (operand.Only op) = un_name op
operation (operand.Left op) = bin_name op
operation (operand.Right op) = bin_name op
operation _ = codes "select"

abbrev pub next_or : Option Operand → List Operand → State → Text → State
next_or (Some o) others done text = (o ∷ others, codes ", " ++ text)
next_or None others done text = done

-- Once an operand is written: the one before it is next, or where there is none the operation is an operand that is
-- written.
abbrev pub written : List Operand → Text → State
written [] text = ([], text)
written (o ∷ others) text = next_or (before o) others (written others (opening (operation o) ++ text)) text

-- a step, where all behind it is written
abbrev pub with_step_before : TemplateStep → State → State
with_step_before (step.Leaf v) s = written s.0 (view_reg v ++ s.1)
with_step_before (step.Word x) s = written s.0 (oper_text x ++ s.1)
with_step_before (step.Un op) s = (operand.Only op ∷ s.0, exponent op ++ (codes ")" ++ s.1))
with_step_before (step.Bin op) s = (operand.Right op ∷ s.0, codes ")" ++ s.1)
with_step_before step.Select s = (operand.No ∷ s.0, codes ")" ++ s.1)

abbrev pub all_before : List TemplateStep → State → State
all_before [] s = s
all_before (x ∷ steps) s = with_step_before x (all_before steps s)

-- what taking the innermost operand leaves
abbrev pub IsPopped : List Operand → Option Operand → List Operand → Type 0
IsPopped old (Some o) new = old ≡ o ∷ new
IsPopped old None new = (old ≡ []) × (new ≡ [])
