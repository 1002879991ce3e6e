-- The part of a slice, by which of its bounds stand.
use Rattle.std.proofs.Common.{◌≡◌, List, ap, sym, ◌∙◌, Option, Some, None}
use Rattle.py_parse.specs.declared.tree.Expr.{Expr}
use Rattle.py_parse.specs.declared.tree.Expr.TheOpen.{Sub-F}
use Rattle.py_parse.specs.declared.tree.Expr.TheFolds.{fold-roll-Sub}
use Rattle.py_parse.specs.declared.tree.Import.{Import}
use Rattle.py_parse.specs.declared.tree.Sub.TheVariants as sub
use Rattle.module_terms.specs.declared.reached.Argument.{Argument}
use Rattle.module_terms.specs.declared.reached.Reached.{Reached}
use Rattle.module_terms.specs.declared.term.Part.{Part}
use Rattle.module_terms.specs.declared.term.Part.TheVariants as p
use Rattle.module_terms.specs.Expressions.{Walk, expr_step, sub_step, trailer_step, arg_step, part, bound_term}

module _ (i : List Import) where
  abbrev Cuts : Option Expr → Option Expr → Option Expr → Type 0
  Cuts a b c = part i (sub.Cut a b c) ≡ p.Cut (bound_term i a) (bound_term i b) (bound_term i c)

  pub in_cut : (a b c : Option Expr) → Cuts a b c
  in_cut None None None =
      ap (part i) (sym (sub.rolls-Cut None None None))
      ∙ fold-roll-Sub Reached Part Walk Argument (expr_step i) (sub_step i) (trailer_step i) (arg_step i)
      (Sub-F.Cut None None None)
  in_cut None None (Some z) =
      ap (part i) (sym (sub.rolls-Cut None None (Some z)))
      ∙ fold-roll-Sub Reached Part Walk Argument (expr_step i) (sub_step i) (trailer_step i) (arg_step i)
      (Sub-F.Cut None None (Some z))
  in_cut None (Some y) None =
      ap (part i) (sym (sub.rolls-Cut None (Some y) None))
      ∙ fold-roll-Sub Reached Part Walk Argument (expr_step i) (sub_step i) (trailer_step i) (arg_step i)
      (Sub-F.Cut None (Some y) None)
  in_cut None (Some y) (Some z) =
      ap (part i) (sym (sub.rolls-Cut None (Some y) (Some z)))
      ∙ fold-roll-Sub Reached Part Walk Argument (expr_step i) (sub_step i) (trailer_step i) (arg_step i)
      (Sub-F.Cut None (Some y) (Some z))
  in_cut (Some x) None None =
      ap (part i) (sym (sub.rolls-Cut (Some x) None None))
      ∙ fold-roll-Sub Reached Part Walk Argument (expr_step i) (sub_step i) (trailer_step i) (arg_step i)
      (Sub-F.Cut (Some x) None None)
  in_cut (Some x) None (Some z) =
      ap (part i) (sym (sub.rolls-Cut (Some x) None (Some z)))
      ∙ fold-roll-Sub Reached Part Walk Argument (expr_step i) (sub_step i) (trailer_step i) (arg_step i)
      (Sub-F.Cut (Some x) None (Some z))
  in_cut (Some x) (Some y) None =
      ap (part i) (sym (sub.rolls-Cut (Some x) (Some y) None))
      ∙ fold-roll-Sub Reached Part Walk Argument (expr_step i) (sub_step i) (trailer_step i) (arg_step i)
      (Sub-F.Cut (Some x) (Some y) None)
  in_cut (Some x) (Some y) (Some z) =
      ap (part i) (sym (sub.rolls-Cut (Some x) (Some y) (Some z)))
      ∙ fold-roll-Sub Reached Part Walk Argument (expr_step i) (sub_step i) (trailer_step i) (arg_step i)
      (Sub-F.Cut (Some x) (Some y) (Some z))
