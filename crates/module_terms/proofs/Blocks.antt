-- An `if` with the parts before it, from the last one to the first.
use Rattle.std.proofs.Common.{◌≡◌, ℕ, ◌+◌, ◌-◌, ◌<◌, List, [], ◌∷◌, ap, sym, ◌∙◌, map, length, drop, get_or, arith}
use Rattle.std.proofs.lemmas.List.{drop_all}
use Rattle.export_sig.specs.declared.directive.Directive.{Directive}
use Rattle.krn_base.specs.declared.place.Loc.{Loc}
use Rattle.py_parse.specs.declared.tree.Expr.{Expr}
use Rattle.py_parse.specs.declared.tree.Import.{Import}
use Rattle.py_parse.specs.declared.tree.Stmt.{Stmt}
use Rattle.module_terms.specs.declared.term.Line.{Line}
use Rattle.module_terms.specs.declared.term.Line.TheVariants as l
use Rattle.module_terms.specs.Expressions.{term}
use Rattle.module_terms.specs.Lines.{branches, arm, block}
use Rattle.module_terms.proofs.Loops.{item_here}

module _ (i : List Import) (ds : List Directive) (arms : List (Loc × Expr × List Stmt)) (otherwise : List Line) where
  abbrev from : ℕ → List Line
  from n = branches i (map (arm i ds) (drop n arms)) otherwise

  pub none_behind : from (length arms - 0) ≡ otherwise
  none_behind = ap (λ rest. branches i (map (arm i ds) rest) otherwise) (drop_all (length arms - 0) arms (omega arith))

  pub one_more : (back : ℕ) (x : Loc × Expr × List Stmt) (old new : List Line) → back < length arms
      → x ≡ get_or arms (length arms - 1 - back) x → from (length arms - back) ≡ old
      → new ≡ l.If x.0 (term i x.1) (block i ds x.2) old ∷ [] → from (length arms - (back + 1)) ≡ new
  one_more back x old new lt is so_far made =
      let at : length arms - 1 - back < length arms = omega arith in
      let here : length arms - (back + 1) ≡ length arms - 1 - back = omega arith in
      let next : length arms - 1 - back + 1 ≡ length arms - back = omega arith in
      let first : List Line → List Line = λ rest. l.If x.0 (term i x.1) (block i ds x.2) rest ∷ [] in
      ap from here
      ∙ (ap (λ rest. branches i (map (arm i ds) rest) otherwise) (item_here arms (length arms - 1 - back) x at is)
      ∙ (ap (λ n. first (from n)) next ∙ (ap first so_far ∙ sym made)))
