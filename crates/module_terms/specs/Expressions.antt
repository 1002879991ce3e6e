-- The term of an expression: one line for each form of the tree.
use Rattle.std.specs.Prelude.{if◌then◌else◌, List, [], ◌∷◌, map, flat_map, Option, Some, None}
use Rattle.std.specs.Option.{is_some}
use Rattle.krn_base.specs.declared.operation.BinOp.{BinOp}
use Rattle.krn_base.specs.declared.place.Loc.{Loc}
use Rattle.py_parse.specs.declared.tree.Arg.{Arg}
use Rattle.py_parse.specs.declared.tree.Expr.{Expr}
use Rattle.py_parse.specs.declared.tree.Expr.TheOpen.{Expr-F, Sub-F, Trailer-F, Arg-F}
use Rattle.py_parse.specs.declared.tree.Expr.TheFolds.{fold-Expr, fold-Sub, fold-Trailer, fold-Arg}
use Rattle.py_parse.specs.declared.tree.Import.{Import}
use Rattle.py_parse.specs.declared.tree.Sub.{Sub}
use Rattle.py_parse.specs.declared.tree.Trailer.{Trailer}
use Rattle.module_terms.specs.declared.reached.Argument.{Argument}
use Rattle.module_terms.specs.declared.reached.Reached.{Reached}
use Rattle.module_terms.specs.declared.reached.Reached.TheVariants as r
use Rattle.module_terms.specs.declared.term.Operation.TheVariants as op
use Rattle.module_terms.specs.declared.term.Part.{Part}
use Rattle.module_terms.specs.declared.term.Part.TheVariants as p
use Rattle.module_terms.specs.declared.term.Term.{Term}
use Rattle.module_terms.specs.declared.term.Term.TheVariants as t
use Rattle.module_terms.specs.Calls.{finish, call, pick, ask}
use Rattle.module_terms.specs.Rows.{unary, binary, sign, power}

-- what a trailer does with what stands before it
abbrev pub Walk : Type 0
Walk = Reached → Reached

-- a chain is taken from the left
abbrev pub chained : Term → List (BinOp × Loc × Reached) → Term
chained x [] = x
chained x (l ∷ links) = chained (binary (op.Binary l.0) l.1 x (finish l.2)) links

abbrev pub condition : Loc × Reached → Loc × Term
condition l = (l.0, finish l.1)

-- trailers are taken from the left
abbrev pub trailed : Reached → List Walk → Reached
trailed x [] = x
trailed x (walk ∷ walks) = trailed (walk x) walks

abbrev pub plain_in : Argument → List Reached
plain_in a = if a.keyed then [] else a.value ∷ []

abbrev pub keyed_in : Argument → List Reached
keyed_in a = if a.keyed then a.value ∷ [] else []

abbrev pub bound : Option Reached → Option Term
bound (Some x) = Some (finish x)
bound None = None

module _ (imports : List Import) where
  abbrev pub expr_step : Expr-F Reached Part Walk Argument → Reached
  expr_step (Expr-F.Name name) = r.Named name
  expr_step (Expr-F.Int value at) = r.Value (t.Int value)
  expr_step (Expr-F.Truth value at) = r.Value (t.Truth value)
  expr_step (Expr-F.Tuple at items) = r.Tuple at (map finish items)
  expr_step (Expr-F.Chain first links) = r.Value (chained (finish first) links)
  expr_step (Expr-F.Logic conjunction first links) =
      r.Value (t.Logic conjunction (finish first) (map condition links))
  expr_step (Expr-F.Not at x) = r.Value (unary op.Not at (finish x))
  expr_step (Expr-F.Prefix byte at x) = r.Value (unary (sign byte) at (finish x))
  expr_step (Expr-F.Power x at exponent) = r.Value (unary (power exponent) at (finish x))
  expr_step (Expr-F.Primary head trailers) = trailed head trailers

  abbrev pub sub_step : Sub-F Reached Part Walk Argument → Part
  sub_step (Sub-F.At x) = p.At (finish x)
  sub_step (Sub-F.Cut start stop step) = p.Cut (bound start) (bound stop) (bound step)

  abbrev pub trailer_step : Trailer-F Reached Part Walk Argument → Walk
  trailer_step (Trailer-F.Call at args) x = r.Value (call at (flat_map plain_in args) (flat_map keyed_in args) x)
  trailer_step (Trailer-F.Pick at parts) x = r.Value (pick at parts x)
  trailer_step (Trailer-F.Attr name) x = ask imports name x

  abbrev pub arg_step : Arg-F Reached Part Walk Argument → Argument
  arg_step a = record { keyed = is_some a.key; value = a.value }

  abbrev pub reached : Expr → Reached
  reached = fold-Expr Reached Part Walk Argument expr_step sub_step trailer_step arg_step

  abbrev pub part : Sub → Part
  part = fold-Sub Reached Part Walk Argument expr_step sub_step trailer_step arg_step

  abbrev pub walk : Trailer → Walk
  walk = fold-Trailer Reached Part Walk Argument expr_step sub_step trailer_step arg_step

  abbrev pub argument : Arg → Argument
  argument = fold-Arg Reached Part Walk Argument expr_step sub_step trailer_step arg_step

  -- the term of an expression
  abbrev pub term : Expr → Term
  term x = finish (reached x)

  abbrev pub terms : List Expr → List Term
  terms xs = map finish (map reached xs)

  abbrev pub link : BinOp × Loc × Expr → BinOp × Loc × Reached
  link l = (l.0, l.1, reached l.2)

  abbrev pub operand : Loc × Expr → Loc × Reached
  operand l = (l.0, reached l.1)

  abbrev pub bound_term : Option Expr → Option Term
  bound_term (Some x) = Some (term x)
  bound_term None = None
