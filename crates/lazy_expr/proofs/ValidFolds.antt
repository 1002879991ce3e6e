-- The rules on registers, kinds, ranks and templates for a reduction's fold.
use Rattle.std.proofs.Common.{◌≡◌, ◌∙◌, ap₂, refl, ℕ, true, List, [], ◌∷◌}
use Rattle.std.proofs.lemmas.List.Folds.{list_all-append}
use Rattle.krn_base.specs.declared.kind.Kind.{Kind}
use Rattle.krn_base.specs.declared.kind.Kind.TheVariants.{Int64, Bool as Boolean}
use Rattle.krn_base.specs.declared.operation.Join.{Join}
use Rattle.krn_base.specs.declared.operation.UnOp.TheVariants as un
use Rattle.krn_base.specs.declared.place.Loc.{Loc}
use Rattle.array_ops.specs.declared.operation.RedOp.{RedOp}
use Rattle.array_ops.specs.declared.operation.RedOp.TheVariants as red
use Rattle.eager_rules.specs.Sound.{array_named, given_types, has_type}
use Rattle.eager_rules.specs.Types.{Ty, is_array, reduce_kind, reduce_type}
use Rattle.lazy_expr.specs.Lowered.{reduced}
use Rattle.lazy_expr.specs.Plain.{fold_steps, join_of, some_before, template}
use Rattle.lazy_expr.specs.Table.{number, table_of}
use Rattle.lazy_expr.proofs.ValidRules.{all_local, is_local}
use Rattle.lazy_expr.proofs.Operands.{array_named_given, typed_name}
use Rattle.lazy_expr.proofs.Reductions.{reduce_given}
use Rattle.lazy_expr.proofs.ValidNames.{Holds, both}
use Rattle.lazy_expr.proofs.ValidStatements.{check_local, local_by}
use Rattle.lazy_expr.proofs.ValidTemplates.{Makes, leaf_step, makes_one, makes_some, makes_un}
use Rattle.loop_prog.specs.Conditions.{Kinds, Stack, fold_takes, is_there, may_join}
use Rattle.loop_prog.specs.Conditions.{view_type, word_kind}
use Rattle.loop_prog.specs.declared.program.Kernel.{Kernel}
use Rattle.loop_prog.specs.declared.program.Reg.TheVariants as reg
use Rattle.loop_prog.specs.declared.program.Statement.TheOpen as l
use Rattle.loop_prog.specs.declared.program.Statement.TheVariants as v
use Rattle.loop_prog.specs.declared.program.TemplateStep.{TemplateStep}
use Rattle.loop_prog.specs.declared.program.TemplateStep.TheVariants as step
use Rattle.loop_prog.specs.declared.program.Test.TheVariants.{Filled}

joins_itself : (k : Kind) → may_join (join_of red.Min) k k ≡ true
joins_itself Int64 = refl
joins_itself Boolean = refl

joins_greatest : (k : Kind) → may_join (join_of red.Max) k k ≡ true
joins_greatest Int64 = refl
joins_greatest Boolean = refl

takes_kind : (join : Join) (k a : Kind) → may_join join k a ≡ true → fold_takes join k (Kinds (a ∷ [])) ≡ true
unfolding fold_takes
takes_kind join k a h = h

-- the kind of a fold's elements
abbrev element_kind : RedOp → Kind → Kind
element_kind red.Any kind = Boolean
element_kind red.All kind = Boolean
element_kind _ kind = kind

element_joins : (op : RedOp) (kind : Kind) → may_join (join_of op) (reduce_kind op kind) (element_kind op kind) ≡ true
element_joins red.Sum kind = refl
element_joins red.Prod kind = refl
element_joins red.Min kind = joins_itself kind
element_joins red.Max kind = joins_greatest kind
element_joins red.Any kind = refl
element_joins red.All kind = refl

module _ (kernel : Kernel) (view : ℕ) (t : Ty) (there : is_there kernel (reg.View view) ≡ true)
    (type : view_type kernel view ≡ t) where
  fold_makes : (op : RedOp) → Makes kernel (element_kind op t.0, t.1) (fold_steps op view)
  fold_makes red.Sum = makes_one kernel t (step.Leaf view) (leaf_step kernel view t there type)
  fold_makes red.Prod = makes_one kernel t (step.Leaf view) (leaf_step kernel view t there type)
  fold_makes red.Min = makes_one kernel t (step.Leaf view) (leaf_step kernel view t there type)
  fold_makes red.Max = makes_one kernel t (step.Leaf view) (leaf_step kernel view t there type)
  fold_makes red.Any =
      makes_un kernel t (step.Leaf view) (leaf_step kernel view t there type) un.Test Boolean refl refl
  fold_makes red.All =
      makes_un kernel t (step.Leaf view) (leaf_step kernel view t there type) un.Test Boolean refl refl

  before_local : (op : RedOp) (at : Loc) → all_local kernel (some_before op view at) ≡ true
  before_local red.Sum at = refl
  before_local red.Prod at = refl
  before_local red.Min at = both (check_local kernel (view ∷ []) Filled at (both there refl)) refl
  before_local red.Max at = both (check_local kernel (view ∷ []) Filled at (both there refl)) refl
  before_local red.Any at = refl
  before_local red.All at = refl

  reduced_local : (op : RedOp) (to : ℕ) (at : Loc) → is_array t ≡ true → is_there kernel (reg.Word to) ≡ true →
      word_kind kernel to ≡ reduce_kind op t.0 → all_local kernel (reduced to op view at) ≡ true
  reduced_local op to at array has kind =
      let makes = fold_makes op in
      let steps : List TemplateStep = fold_steps op view in
      list_all-append (is_local kernel) (some_before op view at) (v.Fold to (join_of op) (template steps) at ∷ []) ∙
      both (before_local op at)
      (both (local_by kernel (l.Fold to (join_of op) (template steps) at) _
      (v.rolls-Fold to (join_of op) (template steps) at)
      (both (both (both (both makes.reads (both (both has refl) refl))
      (ap₂ (λ (k : Kind) (s : Stack). fold_takes (join_of op) k s) kind makes.stack ∙
      takes_kind (join_of op) (reduce_kind op t.0) (element_kind op t.0) (element_joins op t.0)))
      (both refl (both (makes_some kernel (element_kind op t.0, t.1) steps makes array) makes.fit))) refl)) refl)

pub reduce_local : (kernel : Kernel) (names : List Ty) → Holds names kernel → (to : ℕ) (op : RedOp) (of : ℕ) (at :
    Loc) →
    given_types (array_named names of) (λ t. has_type names to (reduce_type op t)) ≡ true →
    all_local kernel (reduced (number (table_of names) to) op (number (table_of names) of) at) ≡ true
reduce_local kernel names held to op of at f =
    let array = array_named_given names of (λ t. has_type names to (reduce_type op t)) f in
    let is = held.view of array.0 array.1 array.2 in
    let named = typed_name names to (reduce_type op array.0) array.3 in
    let given = reduce_given op array.0 named.0 named.1 in
    let to_is = held.word to named.0 named.2 given.1 in
    reduced_local kernel (number (table_of names) of) array.0 is.there is.type op (number (table_of names) to) at
    array.2
    to_is.there (to_is.kind ∙ given.0)
