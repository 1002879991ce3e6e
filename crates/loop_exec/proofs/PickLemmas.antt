-- Subscripts by the values of all operands, one after another, are the subscripts by their own operands.
use Rattle.std.proofs.Common.{◌≡◌, ◌∙◌, ap, refl, List, [], ◌∷◌, ◌++◌, map, Some, None}
use Rattle.std.specs.List.{flat_map}
use Rattle.array_ops.specs.Elements.{Bound}
use Rattle.array_ops.specs.declared.subscript.Subscript.{Subscript}
use Rattle.eager_rules.specs.Works.{next_subscript, sub_operands, subscripts_of}
use Rattle.eager_rules.specs.declared.program.CoreSub.{CoreSub}
use Rattle.eager_rules.specs.declared.program.CoreSub.TheVariants as sub
use Rattle.eager_rules.specs.declared.program.Oper.{Oper}
use Rattle.loop_exec.specs.Subscripts.{subscript_at}
use Rattle.loop_prog.specs.State.{operand_in}

next_is : (words : List Bound) (s : CoreSub) (rest : List Oper) →
    next_subscript s (map (operand_in words) (sub_operands s ++ rest)) ≡
    (subscript_at words s, map (operand_in words) rest)
next_is words (sub.At x) rest = refl
next_is words (sub.Cut None None None) rest = refl
next_is words (sub.Cut None None (Some c)) rest = refl
next_is words (sub.Cut None (Some b) None) rest = refl
next_is words (sub.Cut None (Some b) (Some c)) rest = refl
next_is words (sub.Cut (Some a) None None) rest = refl
next_is words (sub.Cut (Some a) None (Some c)) rest = refl
next_is words (sub.Cut (Some a) (Some b) None) rest = refl
next_is words (sub.Cut (Some a) (Some b) (Some c)) rest = refl

pub subscripts_are : (words : List Bound) (subs : List CoreSub) →
    subscripts_of subs (map (operand_in words) (flat_map sub_operands subs)) ≡ map (subscript_at words) subs
subscripts_are words [] = refl
subscripts_are words (s ∷ subs) =
    ap (λ (p : Subscript × List Bound). p.0 ∷ subscripts_of subs p.1)
    (next_is words s (flat_map sub_operands subs)) ∙
    ap (λ (found : List Subscript). subscript_at words s ∷ found) (subscripts_are words subs)
