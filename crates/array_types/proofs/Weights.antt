-- The weight of each form of statement.
use Rattle.std.proofs.Common.{arith, ◌≡◌, ◌+◌, ◌-◌, ◌*◌, ◌≤◌, ◌<◌, ℕ, zero, suc, max, List, [], ◌∷◌, length, get_or}
use Rattle.std.proofs.Common.{ap, ◌∙◌, sym, refl, subst, suc-mul}
use denote.Param.Weighed.{most}
use Rattle.krn_base.specs.declared.operation.BinOp.{BinOp}
use Rattle.krn_base.specs.declared.place.Loc.{Loc}
use Rattle.module_terms.specs.declared.term.Line.{Line}
use Rattle.module_terms.specs.declared.term.Line.TheOpen as f
use Rattle.module_terms.specs.declared.term.Line.TheVariants as v
use Rattle.module_terms.specs.declared.term.Line.TheFolds.{fold-roll-Line}
use Rattle.module_terms.specs.declared.term.Loop.{Loop}
use Rattle.module_terms.specs.declared.term.Part.{Part, size-Part}
use Rattle.module_terms.specs.declared.term.Term.{Term, size-Term}
use Rattle.py_parse.specs.declared.tree.Name.{Name}
use Rattle.array_types.specs.Weights.{line_step, line_weight, block_weight}

pub weighs_Return : (at : Loc) (args : List Term) → line_weight (v.Return at args) ≡ most size-Term args
weighs_Return at args = ap line_weight (sym (v.rolls-Return at args)) ∙ fold-roll-Line ℕ line_step (f.Return at args)

pub weighs_Alone : (name : Name) (args : List Term) → line_weight (v.Alone name args) ≡ most size-Term args
weighs_Alone name args = ap line_weight (sym (v.rolls-Alone name args)) ∙ fold-roll-Line ℕ line_step (f.Alone name args)

pub weighs_Assign : (name : Name) (eq : Loc) (x : Term) → line_weight (v.Assign name eq x) ≡ size-Term x
weighs_Assign name eq x = ap line_weight (sym (v.rolls-Assign name eq x))
    ∙ fold-roll-Line ℕ line_step (f.Assign name eq x)

pub weighs_Store : (x : Term) (bracket : Loc) (parts : List Part) (eq : Loc) (y : Term) →
    line_weight (v.Store x bracket parts eq y) ≡ max (size-Term x) (max (most size-Part parts) (size-Term y))
weighs_Store x bracket parts eq y =
    ap line_weight (sym (v.rolls-Store x bracket parts eq y))
    ∙ fold-roll-Line ℕ line_step (f.Store x bracket parts eq y)

pub weighs_AugmentName : (name : Name) (op : BinOp) (at : Loc) (y : Term) →
    line_weight (v.AugmentName name op at y) ≡ size-Term y
weighs_AugmentName name op at y =
    ap line_weight (sym (v.rolls-AugmentName name op at y)) ∙ fold-roll-Line ℕ line_step (f.AugmentName name op at y)

pub weighs_AugmentPick : (x : Term) (bracket : Loc) (parts : List Part) (op : BinOp) (at : Loc) (y : Term) →
    line_weight (v.AugmentPick x bracket parts op at y) ≡ max (size-Term x) (max (most size-Part parts) (size-Term y))
weighs_AugmentPick x bracket parts op at y =
    ap line_weight (sym (v.rolls-AugmentPick x bracket parts op at y))
    ∙ fold-roll-Line ℕ line_step (f.AugmentPick x bracket parts op at y)

pub weighs_If : (at : Loc) (cond : Term) (part other : List Line) → line_weight (v.If at cond part other) ≡
    1 + max (size-Term cond) (max (block_weight part) (block_weight other))
weighs_If at cond part other =
    ap line_weight (sym (v.rolls-If at cond part other)) ∙ fold-roll-Line ℕ line_step (f.If at cond part other)

pub weighs_For : (head : Loop) (body : List Line) →
    line_weight (v.For head body) ≡ 1 + max (most size-Term head.args) (block_weight body)
weighs_For head body = ap line_weight (sym (v.rolls-For head body)) ∙ fold-roll-Line ℕ line_step (f.For head body)

-- a statement of a block
pub line_below : (body : List Line) (i : ℕ) (d : Line) → i < length body →
    line_weight (get_or body i d) ≤ block_weight body
line_below [] i d h = absurd (omega arith)
line_below (x ∷ body) zero d h = omega arith
line_below (x ∷ body) (suc i) d h =
    let below : line_weight (get_or body i d) ≤ block_weight body = line_below body i d (omega arith) in omega arith

pub line_here : (body : List Line) (i : ℕ) (x : Line) → i < length body → x ≡ get_or body i x →
    line_weight x ≤ block_weight body
line_here body i x lt is = subst (λ y. line_weight y ≤ block_weight body) (sym is) (line_below body i x lt)

-- a level further down
pub level_below : (depth per : ℕ) → (depth ≡ 0 → ⊥) → depth * per ≡ (depth - 1) * per + per
level_below zero per h = absurd (h refl)
level_below (suc depth) per h =
    let same : depth ≡ suc depth - 1 = omega arith in suc-mul depth per ∙ ap (λ (d : ℕ). d * per + per) same
