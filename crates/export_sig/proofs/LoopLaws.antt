-- The loops of a choice: those of its arms, and those of what stands behind its `else`.
use Rattle.std.proofs.Common.{◌≡◌, List, ◌++◌, Result, Ok, Err, OnOk, sym, ap, ◌∙◌, append_assoc, rules}
use Rattle.krn_base.specs.declared.place.Loc.{Loc}
use Rattle.py_parse.specs.declared.tree.Expr.{Expr}
use Rattle.py_parse.specs.declared.tree.Stmt.{Stmt, the_lemmas}
use Rattle.py_parse.specs.declared.tree.Stmt.TheVariants as s
use Rattle.export_sig.specs.Loops.{loops_of, block_loops, arm_loops}

if_loops : (arms : List (Loc × Expr × List Stmt)) (other : List Stmt) → loops_of
    (s.If arms other) ≡ arm_loops arms ++ block_loops other
if_loops arms other = search (rules, the_lemmas)

on_ok : {A E : Type 0} (r : Result A E) (P Q : Type 0) → (P → Q) → OnOk r P → OnOk r Q
on_ok (Ok x) P Q f h = f h
on_ok (Err e) P Q f h = h

pub choice_pushed : {A E : Type 0} (r : Result A E) (found middle last : List Loc) (statement : Stmt)
    (arms : List (Loc × Expr × List Stmt)) (other : List Stmt)
    → statement ≡ s.If arms other → middle ≡ found ++ arm_loops arms → (block : List Stmt) → block ≡ other → OnOk r
    (last ≡ middle ++ block_loops block) → OnOk r (last ≡ found ++ loops_of statement)
choice_pushed r found middle last statement arms other is first block same h =
    on_ok r (last ≡ middle ++ block_loops block) (last ≡ found ++ loops_of statement)
    (λ e. e ∙ ap (λ (x : List Stmt). middle ++ block_loops x) same ∙ ap
    (λ (x : List Loc). x ++ block_loops other) first ∙ append_assoc found (arm_loops arms) (block_loops other)
    ∙ ap (λ (x : List Loc). found ++ x) (sym (ap loops_of is ∙ if_loops arms other))) h
