-- One turn of the loops over lists.
use Rattle.std.proofs.Common.{◌≡◌, ℕ, ◌+◌, ◌<◌, suc, Bool, List, [], ◌∷◌, ◌++◌}
use Rattle.std.proofs.Common.{refl, ap, ap₂, sym, ◌∙◌, Option, length, drop, get_or, add-one, map}
use Rattle.std.proofs.Common.{append_assoc, Result, Ok, Err}
use Rattle.std.proofs.Math.Seq.{drop-cons}
use Rattle.std.specs.Result.{OnOk, IfOk}
use Rattle.krn_base.specs.declared.place.Loc.{Loc}
use Rattle.module_names.specs.Nodes.{Operand}
use Rattle.module_names.specs.Places.{sooner, soonest}
use Rattle.call_chains.specs.Sets.{marked}
use Rattle.py_parse.specs.declared.tree.Expr.{Expr}
use Rattle.py_parse.specs.declared.tree.Function.{Function}
use Rattle.py_parse.specs.declared.tree.Module.{Module}
use Rattle.py_parse.specs.declared.tree.Stmt.{Stmt}
use Rattle.py_parse.specs.declared.tree.Stmt.TheVariants as s
use Rattle.use_def.specs.Flows.{Set, Flow, both, flow, parts, arm_flows, block_flow, reads_marks, marks_where}
use Rattle.use_def.specs.Flows.{marks_from, flow_step, parts_flow}
use Rattle.use_def.proofs.Folds.{fold_if}
use Rattle.use_def.proofs.SetLaws.{both_assoc}

pub item_here : {A : Type 0} (xs : List A) (at : ℕ) (x : A) → at < length xs → x ≡ get_or xs at x → drop at xs ≡ x
    ∷ drop (at + 1) xs
item_here xs at x lt is = rw add-one (drop-cons xs at x lt ∙ ap (λ y. y ∷ drop (suc at) xs) (sym is))

pub soonest_append : (a : List (Option Loc)) (first : Option Loc) (b : List (Option Loc)) → soonest first (a ++ b)
    ≡ soonest (soonest first a) b
soonest_append [] first b = refl
soonest_append (x ∷ a) first b = soonest_append a (sooner first x) b

-- one part and the rest, from the mark so far
pub nears : (a b whole_marks : List (Option Loc)) (first new whole : Option Loc) → whole_marks ≡ a ++ b
    → soonest first whole_marks ≡ whole → new ≡ soonest first a → soonest new b ≡ whole
nears a b whole_marks first new whole parts so_far is =
    ap (λ o. soonest o b) is
    ∙ (sym (soonest_append a first b) ∙ (sym (ap (soonest first) parts) ∙ so_far))

module _ (m : Module) where
  pub row_marks : (rest more : List Stmt) (x : Stmt) (s t : Set) (first new whole : Option Loc) → rest ≡ x ∷ more
      → t ≡ (flow m x s).0 → soonest first (block_flow m rest s).1 ≡ whole → new ≡ soonest first (flow m x s).1
      → soonest new (block_flow m more t).1 ≡ whole
  row_marks rest more x s t first new whole here set so_far is =
      ap (λ u. soonest new (block_flow m more u).1) set
      ∙ nears (flow m x s).1 (block_flow m more (flow m x s).0).1 (block_flow m rest s).1 first new whole
      (ap (λ l. (block_flow m l s).1) here) so_far is

  pub row_set : (rest more : List Stmt) (x : Stmt) (s t whole : Set) → rest ≡ x ∷ more → t ≡ (flow m x s).0
      → (block_flow m rest s).0 ≡ whole → (block_flow m more t).0 ≡ whole
  row_set rest more x s t whole here set so_far =
      ap (λ u. (block_flow m more u).0) set ∙ (sym (ap (λ l. (block_flow m l s).0) here) ∙ so_far)

  -- one function more
  pub one_function : (reached : List Bool) (at : ℕ) (rest more : List Function) (f : Function)
      (first new whole : Option Loc) → rest ≡ f ∷ more → soonest first (marks_from m reached at rest) ≡ whole
      → new ≡ soonest first (marks_where m (marked reached at) f)
      → soonest new (marks_from m reached (at + 1) more) ≡ whole
  one_function reached at rest more f first new whole here so_far is =
      nears (marks_where m (marked reached at) f) (marks_from m reached (at + 1) more) (marks_from m reached at rest)
      first new whole (ap (marks_from m reached at) here) so_far is

-- two parts in a row
pub then_marks : (a b : List (Option Loc)) (first mid new : Option Loc) → mid ≡ soonest first a → new ≡ soonest mid b
    → new ≡ soonest first (a ++ b)
then_marks a b first mid new one two = two ∙ (ap (λ o. soonest o b) one ∙ sym (soonest_append a first b))

-- ---- the parts of an `if`

module _ (m : Module) (other : Flow) (s : Set) where
  abbrev rest_of : List (Loc × Expr × List Stmt) → Set × List (Option Loc)
  rest_of arms = parts m (map (arm_flows m) arms) other s

  pub arms_marks : (rest more : List (Loc × Expr × List Stmt)) (arm : Loc × Expr × List Stmt)
      (first mid new whole : Option Loc) → rest ≡ arm ∷ more → soonest first (rest_of rest).1 ≡ whole
      → mid ≡ soonest first (reads_marks m s Operand arm.1) → new ≡ soonest mid (block_flow m arm.2 s).1
      → soonest new (rest_of more).1 ≡ whole
  arms_marks rest more arm first mid new whole here so_far one two =
      let reads : List (Option Loc) = reads_marks m s Operand arm.1 in
      let body : List (Option Loc) = (block_flow m arm.2 s).1 in
      nears (reads ++ body) (rest_of more).1 (rest_of rest).1 first new whole
      (ap (λ l. (rest_of l).1) here ∙ sym (append_assoc reads body (rest_of more).1)) so_far
      (then_marks reads body first mid new one two)

  pub arms_common : (rest more : List (Loc × Expr × List Stmt)) (arm : Loc × Expr × List Stmt) (c d whole : Set)
      → rest ≡ arm ∷ more → both c (rest_of rest).0 ≡ whole → d ≡ both c (block_flow m arm.2 s).0
      → both d (rest_of more).0 ≡ whole
  arms_common rest more arm c d whole here so_far is =
      ap (λ (u : Set). both u (rest_of more).0) is
      ∙ (both_assoc c (block_flow m arm.2 s).0 (rest_of more).0
      ∙ (sym (ap (λ l. both c (rest_of l).0) here) ∙ so_far))

-- ---- results

pub if_ok_more : {A E : Type 0} (r : Result A E) (P Q : A → Type 0) → ((x : A) → P x → Q x) → IfOk r P → IfOk r Q
if_ok_more (Ok x) P Q f p = f x p
if_ok_more (Err e) P Q f p = tt

pub on_ok_more : {A E : Type 0} (r : Result A E) (P Q : Type 0) → (P → Q) → OnOk r P → OnOk r Q
on_ok_more (Ok x) P Q f p = f p
on_ok_more (Err e) P Q f p = tt

pub if_flow : (m : Module) (x : Stmt) (arms arms_of : List (Loc × Expr × List Stmt)) (otherwise other_of : List Stmt)
    → x ≡ s.If arms otherwise → arms_of ≡ arms → other_of ≡ otherwise → flow m x ≡ parts_flow m arms_of other_of
if_flow m x arms arms_of otherwise other_of is same equal =
    ap (flow m) is
    ∙ (fold_if Flow (flow_step m) arms otherwise ∙ sym (ap₂ (parts_flow m) same equal))
