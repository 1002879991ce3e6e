-- What stands inside each form of expression and of statement.
use Rattle.std.proofs.Common.{◌≡◌, ℕ, Bool, false, ℤ, List, [], ◌∷◌, ◌++◌, ap, sym, ◌∙◌, Option, Some, None}
use Rattle.std.proofs.Common.{map, flat_map}
use Rattle.std.proofs.lemmas.List.Folds.{flat_map-map}
use Rattle.krn_base.specs.declared.operation.BinOp.{BinOp}
use Rattle.krn_base.specs.declared.place.Loc.{Loc}
use Rattle.py_parse.specs.declared.tree.Arg.{Arg, out-Arg}
use Rattle.py_parse.specs.declared.tree.Expr.{Expr}
use Rattle.py_parse.specs.declared.tree.Expr.TheVariants as e
use Rattle.py_parse.specs.declared.tree.Expr.TheOpen.{Expr-F, Sub-F, Trailer-F}
use Rattle.py_parse.specs.declared.tree.Expr.TheFolds.{para-roll-Expr}
use Rattle.py_parse.specs.declared.tree.Expr.TheFolds.{para-roll-Sub, para-roll-Trailer, para-roll-Arg}
use Rattle.py_parse.specs.declared.tree.Name.{Name}
use Rattle.py_parse.specs.declared.tree.Stmt.{Stmt}
use Rattle.py_parse.specs.declared.tree.Stmt.TheVariants as s
use Rattle.py_parse.specs.declared.tree.Stmt.TheOpen.{Stmt-F}
use Rattle.py_parse.specs.declared.tree.Stmt.TheFolds.{para-roll-Stmt}
use Rattle.py_parse.specs.declared.tree.Sub.{Sub}
use Rattle.py_parse.specs.declared.tree.Sub.TheVariants as sub
use Rattle.py_parse.specs.declared.tree.Trailer.{Trailer}
use Rattle.py_parse.specs.declared.tree.Trailer.TheVariants as t
use Rattle.module_names.specs.Nodes.{Node, Role, Operand, Iterated, Assigned, Updated, Bound, Maker}
use Rattle.module_names.specs.Listing.{Listed, ListedTrailer, ListedArg, ListedStmt, operand, arm_of, expr_step}
use Rattle.module_names.specs.Listing.{sub_step, trailer_step, arg_step, stmt_step, inner_nodes, sub_nodes}
use Rattle.module_names.specs.Listing.{trailer_nodes, arg_nodes, inside_stmt, expr_nodes, head_by, name_in}
use Rattle.module_names.specs.Listing.{trailers_nodes, args_nodes, bound_nodes, paired_trailer, paired_arg, only}
use Rattle.module_names.specs.Listing.{values_by, binding, block_nodes, arm_nodes}

module _ (role : Role) where
  pub in_name : (name : Name) → inner_nodes (e.Name name) role ≡ []
  unfolding inner_nodes
  in_name name =
      ap (λ x. inner_nodes x role) (sym (e.rolls-Name name))
      ∙ ap (λ (f : Listed). f role) (para-roll-Expr Listed (List Node) ListedTrailer ListedArg expr_step sub_step
      trailer_step arg_step (Expr-F.Name name))

  pub in_int : (value : ℤ) (at : Loc) → inner_nodes (e.Int value at) role ≡ []
  unfolding inner_nodes
  in_int value at =
      ap (λ x. inner_nodes x role) (sym (e.rolls-Int value at))
      ∙ ap (λ (f : Listed). f role) (para-roll-Expr Listed (List Node) ListedTrailer ListedArg expr_step sub_step
      trailer_step arg_step (Expr-F.Int value at))

  pub in_truth : (value : Bool) (at : Loc) → inner_nodes (e.Truth value at) role ≡ []
  unfolding inner_nodes
  in_truth value at =
      ap (λ x. inner_nodes x role) (sym (e.rolls-Truth value at))
      ∙ ap (λ (f : Listed). f role) (para-roll-Expr Listed (List Node) ListedTrailer ListedArg expr_step sub_step
      trailer_step arg_step (Expr-F.Truth value at))

  pub in_tuple : (at : Loc) (items : List Expr) → inner_nodes (e.Tuple at items) role ≡ flat_map (expr_nodes Operand)
      items
  unfolding inner_nodes
  in_tuple at items =
      ap (λ x. inner_nodes x role) (sym (e.rolls-Tuple at items))
      ∙ (ap (λ (f : Listed). f role) (para-roll-Expr Listed (List Node) ListedTrailer ListedArg expr_step sub_step
      trailer_step arg_step (Expr-F.Tuple at items))
      ∙ flat_map-map operand _ items)

  pub in_chain : (first : Expr) (links : List (BinOp × Loc × Expr))
      → inner_nodes (e.Chain first links) role ≡ expr_nodes Operand first ++ flat_map (λ l. expr_nodes Operand l.2)
      links
  unfolding inner_nodes
  in_chain first links =
      ap (λ x. inner_nodes x role) (sym (e.rolls-Chain first links))
      ∙ (ap (λ (f : Listed). f role) (para-roll-Expr Listed (List Node) ListedTrailer ListedArg expr_step sub_step
      trailer_step arg_step (Expr-F.Chain first links))
      ∙ ap (λ l. expr_nodes Operand first ++ l) (flat_map-map (λ l. operand l.2) _ links))

  pub in_logic : (conjunction : Bool) (first : Expr) (links : List (Loc × Expr))
      → inner_nodes (e.Logic conjunction first links) role ≡ expr_nodes Operand first
      ++ flat_map (λ l. expr_nodes Operand l.1) links
  unfolding inner_nodes
  in_logic conjunction first links =
      ap (λ x. inner_nodes x role) (sym (e.rolls-Logic conjunction first links))
      ∙ (ap (λ (f : Listed). f role) (para-roll-Expr Listed (List Node) ListedTrailer ListedArg expr_step sub_step
      trailer_step arg_step (Expr-F.Logic conjunction first links))
      ∙ ap (λ l. expr_nodes Operand first ++ l) (flat_map-map (λ l. operand l.1) _ links))

  pub in_not : (at : Loc) (x : Expr) → inner_nodes (e.Not at x) role ≡ expr_nodes Operand x
  unfolding inner_nodes
  in_not at y =
      ap (λ x. inner_nodes x role) (sym (e.rolls-Not at y))
      ∙ ap (λ (f : Listed). f role) (para-roll-Expr Listed (List Node) ListedTrailer ListedArg expr_step sub_step
      trailer_step arg_step (Expr-F.Not at y))

  pub in_prefix : (sign : ℕ) (at : Loc) (x : Expr) → inner_nodes (e.Prefix sign at x) role ≡ expr_nodes Operand x
  unfolding inner_nodes
  in_prefix sign at y =
      ap (λ x. inner_nodes x role) (sym (e.rolls-Prefix sign at y))
      ∙ ap (λ (f : Listed). f role) (para-roll-Expr Listed (List Node) ListedTrailer ListedArg expr_step sub_step
      trailer_step arg_step (Expr-F.Prefix sign at y))

  pub in_power : (x : Expr) (at : Loc) (exponent : ℤ) → inner_nodes (e.Power x at exponent) role ≡ expr_nodes Operand x
  unfolding inner_nodes
  in_power y at exponent =
      ap (λ x. inner_nodes x role) (sym (e.rolls-Power y at exponent))
      ∙ ap (λ (f : Listed). f role) (para-roll-Expr Listed (List Node) ListedTrailer ListedArg expr_step sub_step
      trailer_step arg_step (Expr-F.Power y at exponent))

  pub in_primary : (head : Expr) (trailers : List Trailer) → inner_nodes (e.Primary head trailers) role
      ≡ head_by (name_in head) (expr_nodes Operand head) ++ trailers_nodes role head [] (map paired_trailer trailers)
  unfolding inner_nodes trailer_nodes
  in_primary head trailers =
      ap (λ x. inner_nodes x role) (sym (e.rolls-Primary head trailers))
      ∙ ap (λ (f : Listed). f role) (para-roll-Expr Listed (List Node) ListedTrailer ListedArg expr_step sub_step
      trailer_step arg_step (Expr-F.Primary head trailers))

pub in_at : (x : Expr) → sub_nodes (sub.At x) ≡ expr_nodes Operand x
unfolding sub_nodes inner_nodes
in_at x =
    ap sub_nodes (sym (sub.rolls-At x))
    ∙ para-roll-Sub Listed (List Node) ListedTrailer ListedArg expr_step sub_step trailer_step arg_step (Sub-F.At x)

abbrev Cuts : Option Expr → Option Expr → Option Expr → Type 0
Cuts a b c = sub_nodes (sub.Cut a b c) ≡ bound_nodes a ++ (bound_nodes b ++ bound_nodes c)

pub in_cut : (a b c : Option Expr) → Cuts a b c
unfolding sub_nodes inner_nodes
in_cut None None None =
    ap sub_nodes (sym (sub.rolls-Cut None None None))
    ∙ para-roll-Sub Listed (List Node) ListedTrailer ListedArg expr_step sub_step trailer_step arg_step
    (Sub-F.Cut None None None)
in_cut None None (Some z) =
    ap sub_nodes (sym (sub.rolls-Cut None None (Some z)))
    ∙ para-roll-Sub Listed (List Node) ListedTrailer ListedArg expr_step sub_step trailer_step arg_step
    (Sub-F.Cut None None (Some z))
in_cut None (Some y) None =
    ap sub_nodes (sym (sub.rolls-Cut None (Some y) None))
    ∙ para-roll-Sub Listed (List Node) ListedTrailer ListedArg expr_step sub_step trailer_step arg_step
    (Sub-F.Cut None (Some y) None)
in_cut None (Some y) (Some z) =
    ap sub_nodes (sym (sub.rolls-Cut None (Some y) (Some z)))
    ∙ para-roll-Sub Listed (List Node) ListedTrailer ListedArg expr_step sub_step trailer_step arg_step
    (Sub-F.Cut None (Some y) (Some z))
in_cut (Some x) None None =
    ap sub_nodes (sym (sub.rolls-Cut (Some x) None None))
    ∙ para-roll-Sub Listed (List Node) ListedTrailer ListedArg expr_step sub_step trailer_step arg_step
    (Sub-F.Cut (Some x) None None)
in_cut (Some x) None (Some z) =
    ap sub_nodes (sym (sub.rolls-Cut (Some x) None (Some z)))
    ∙ para-roll-Sub Listed (List Node) ListedTrailer ListedArg expr_step sub_step trailer_step arg_step
    (Sub-F.Cut (Some x) None (Some z))
in_cut (Some x) (Some y) None =
    ap sub_nodes (sym (sub.rolls-Cut (Some x) (Some y) None))
    ∙ para-roll-Sub Listed (List Node) ListedTrailer ListedArg expr_step sub_step trailer_step arg_step
    (Sub-F.Cut (Some x) (Some y) None)
in_cut (Some x) (Some y) (Some z) =
    ap sub_nodes (sym (sub.rolls-Cut (Some x) (Some y) (Some z)))
    ∙ para-roll-Sub Listed (List Node) ListedTrailer ListedArg expr_step sub_step trailer_step arg_step
    (Sub-F.Cut (Some x) (Some y) (Some z))

module _ (m : Option Maker) where
  pub in_call : (at : Loc) (args : List Arg) → trailer_nodes (t.Call at args) m ≡ args_nodes m 0 (map paired_arg args)
  unfolding trailer_nodes arg_nodes
  in_call at args =
      ap (λ x. trailer_nodes x m) (sym (t.rolls-Call at args))
      ∙ ap (λ (f : ListedTrailer). f m) (para-roll-Trailer Listed (List Node) ListedTrailer ListedArg expr_step
      sub_step trailer_step arg_step (Trailer-F.Call at args))

  pub in_pick : (at : Loc) (subs : List Sub) → trailer_nodes (t.Pick at subs) m ≡ flat_map sub_nodes subs
  unfolding trailer_nodes sub_nodes
  in_pick at subs =
      ap (λ x. trailer_nodes x m) (sym (t.rolls-Pick at subs))
      ∙ (ap (λ (f : ListedTrailer). f m) (para-roll-Trailer Listed (List Node) ListedTrailer ListedArg expr_step
      sub_step trailer_step arg_step (Trailer-F.Pick at subs))
      ∙ flat_map-map (λ p. p.1) _ subs)

  pub in_attr : (name : Name) → trailer_nodes (t.Attr name) m ≡ []
  unfolding trailer_nodes
  in_attr name =
      ap (λ x. trailer_nodes x m) (sym (t.rolls-Attr name))
      ∙ ap (λ (f : ListedTrailer). f m) (para-roll-Trailer Listed (List Node) ListedTrailer ListedArg expr_step
      sub_step trailer_step arg_step (Trailer-F.Attr name))

pub in_arg : (a : Arg) (role : Role) → arg_nodes a role ≡ expr_nodes role (out-Arg a).value
unfolding arg_nodes inner_nodes
in_arg a role =
    ap (λ (f : ListedArg). f role) (para-roll-Arg Listed (List Node) ListedTrailer ListedArg expr_step sub_step
    trailer_step arg_step (out-Arg a))

-- ---- statements

module _ (last : Bool) where
  pub in_doc : inside_stmt s.Doc last ≡ []
  unfolding inside_stmt
  in_doc = ap (λ x. inside_stmt x last) (sym s.rolls-Doc) ∙ ap (λ (f : ListedStmt). f last)
      (para-roll-Stmt ListedStmt stmt_step Stmt-F.Doc)

  pub in_pass : inside_stmt s.Pass last ≡ []
  unfolding inside_stmt
  in_pass = ap (λ x. inside_stmt x last) (sym s.rolls-Pass) ∙ ap (λ (f : ListedStmt). f last)
      (para-roll-Stmt ListedStmt stmt_step Stmt-F.Pass)

  pub in_return : (at : Loc) (values : List Expr) → inside_stmt (s.Return at values) last
      ≡ values_by values (only values)
  unfolding inside_stmt
  in_return at values =
      ap (λ x. inside_stmt x last) (sym (s.rolls-Return at values))
      ∙ ap (λ (f : ListedStmt). f last) (para-roll-Stmt ListedStmt stmt_step (Stmt-F.Return at values))

  pub in_alone : (x : Expr) → inside_stmt (s.Alone x) last ≡ expr_nodes Operand x
  unfolding inside_stmt
  in_alone y =
      ap (λ x. inside_stmt x last) (sym (s.rolls-Alone y))
      ∙ ap (λ (f : ListedStmt). f last) (para-roll-Stmt ListedStmt stmt_step (Stmt-F.Alone y))

  pub in_assign : (target : Expr) (at : Loc) (value : Expr) → inside_stmt (s.Assign target at value) last
      ≡ expr_nodes Assigned target ++ (expr_nodes Operand value ++ binding (name_in target))
  unfolding inside_stmt
  in_assign target at value =
      ap (λ x. inside_stmt x last) (sym (s.rolls-Assign target at value))
      ∙ ap (λ (f : ListedStmt). f last) (para-roll-Stmt ListedStmt stmt_step (Stmt-F.Assign target at value))

  pub in_augment : (target : Expr) (op : BinOp) (at : Loc) (value : Expr)
      → inside_stmt (s.Augment target op at value) last
      ≡ expr_nodes Updated target ++ (expr_nodes Operand value ++ binding (name_in target))
  unfolding inside_stmt
  in_augment target op at value =
      ap (λ x. inside_stmt x last) (sym (s.rolls-Augment target op at value))
      ∙ ap (λ (f : ListedStmt). f last) (para-roll-Stmt ListedStmt stmt_step (Stmt-F.Augment target op at value))

  pub in_if : (arms : List (Loc × Expr × List Stmt)) (otherwise : List Stmt)
      → inside_stmt (s.If arms otherwise) last ≡ flat_map (arm_nodes last) arms ++ block_nodes last otherwise
  unfolding inside_stmt
  in_if arms otherwise =
      ap (λ x. inside_stmt x last) (sym (s.rolls-If arms otherwise))
      ∙ (ap (λ (f : ListedStmt). f last) (para-roll-Stmt ListedStmt stmt_step (Stmt-F.If arms otherwise))
      ∙ ap (λ l. l ++ block_nodes last otherwise) (flat_map-map (arm_of last) _ arms))

  pub in_for : (at : Loc) (variable : Name) (over : Expr) (body : List Stmt)
      → inside_stmt (s.For at variable over body) last
      ≡ expr_nodes Iterated over ++ (Bound variable ∷ block_nodes false body)
  unfolding inside_stmt
  in_for at variable over body =
      ap (λ x. inside_stmt x last) (sym (s.rolls-For at variable over body))
      ∙ ap (λ (f : ListedStmt). f last) (para-roll-Stmt ListedStmt stmt_step (Stmt-F.For at variable over body))

pub ruleset inside = (
  in_name,
  in_int,
  in_truth,
  in_tuple,
  in_chain,
  in_logic,
  in_not,
  in_prefix,
  in_power,
  in_primary,
  in_at,
  in_cut,
  in_call,
  in_pick,
  in_attr,
  in_arg,
)

pub ruleset parts = (in_doc, in_pass, in_return, in_alone, in_assign, in_augment, in_if, in_for)
