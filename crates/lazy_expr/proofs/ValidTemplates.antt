-- Templates of plain kernels: their registers are there, and they make one value of the right kind and rank.
use Rattle.std.proofs.Common.{◌≡◌, ◌∙◌, ap, ap₂, sym, subst, refl, arith, ℕ, zero, suc, ◌+◌, ◌-◌, ◌<◌, ◌≤◌, max, Bool}
use Rattle.std.proofs.Common.{true, false, not, List, [], ◌∷◌, ◌++◌, map, Option, Some, None}
use Rattle.std.specs.Prelude.{slice_get, nat_le, if◌then◌else◌}
use Rattle.std.specs.List.{flat_map, list_all}
use Rattle.std.proofs.Math.Dec.{eqb-suc-zero}
use Rattle.std.proofs.Math.Nat.{le-max_left, le-max_right, max-zero, zero-max}
use Rattle.std.proofs.lemmas.Bool.{le-leb}
use Rattle.std.proofs.lemmas.List.{map-append}
use Rattle.std.proofs.lemmas.List.Folds.{list_all-append}
use Rattle.krn_base.specs.declared.kind.Kind.{Kind}
use Rattle.krn_base.specs.declared.kind.Kind.TheVariants.{Int64, Bool as Boolean}
use Rattle.krn_base.specs.declared.operation.BinOp.{BinOp}
use Rattle.krn_base.specs.declared.operation.UnOp.{UnOp}
use Rattle.krn_base.specs.declared.operation.UnOp.TheVariants as un
use Rattle.array_ops.specs.declared.operation.MapOp.{MapOp}
use Rattle.array_ops.specs.declared.operation.MapOp.TheVariants as map_op
use Rattle.eager_rules.specs.Types.{Ty, bin_kind, is_array, map_type, only, select_kind, type_of, un_kind}
use Rattle.eager_rules.specs.Types.{with_array_rank}
use Rattle.eager_rules.specs.declared.program.Oper.{Oper}
use Rattle.eager_rules.specs.declared.program.Oper.TheVariants as oper
use Rattle.lazy_expr.specs.Plain.{leaf_or_word, map_steps, operand_step}
use Rattle.lazy_expr.specs.Table.{number, register, table_of}
use Rattle.lazy_expr.proofs.Binds.{not_both}
use Rattle.lazy_expr.proofs.Operands.{OfTypes, none_some, some_same}
use Rattle.lazy_expr.proofs.ValidNames.{Holds, both}
use Rattle.loop_prog.specs.Conditions.{Kinds, Stack, greatest, is_one, depth_after, is_there, oper_kind, push_kind}
use Rattle.loop_prog.specs.Conditions.{push_kinds, small_power, small_step, some_views, steps_fit, template_stack}
use Rattle.loop_prog.specs.Conditions.{unary_kind, view_rank, view_type, with_kind}
use Rattle.loop_prog.specs.Statements.{step_regs}
use Rattle.loop_prog.specs.Templates.{leaf_of_step, leaves}
use Rattle.loop_prog.specs.declared.program.Kernel.{Kernel}
use Rattle.loop_prog.specs.declared.program.Reg.{Reg}
use Rattle.loop_prog.specs.declared.program.Reg.TheVariants as reg
use Rattle.loop_prog.specs.declared.program.TemplateStep.{TemplateStep}
use Rattle.loop_prog.specs.declared.program.TemplateStep.TheVariants as step

-- ---- an operation that has a kind has it whatever its exponent, which is small
pub un_small : (op : UnOp) (a k : Kind) → un_kind op a ≡ Some k → (unary_kind op a ≡ Some k) × (small_power op ≡ true)
un_small un.Neg a k h = (h, refl)
un_small un.Inv a k h = (h, refl)
un_small un.Abs a k h = (h, refl)
un_small (un.Pow n) a k h = by_test (nat_le n 62) h
  where
    by_test : (test : Bool) → (if test then only Int64 a else None) ≡ Some k →
        (only Int64 a ≡ Some k) × (test ≡ true)
    by_test true e = (e, refl)
    by_test false e = none_some k e
un_small un.Flip a k h = (h, refl)
un_small un.Test a k h = (h, refl)
un_small un.Copy a k h = (h, refl)

pub array_ranked : (rank : ℕ) (o : Option Kind) (u : Ty) → with_array_rank rank o ≡ Some u →
    (o ≡ Some u.0) × (rank ≡ u.1) × (0 < rank)
array_ranked zero o u h = none_some u h
array_ranked (suc n) None u h = none_some u h
array_ranked (suc n) (Some kind) u h = (
  ap (λ (t : Ty). Some t.0) (some_same (kind, suc n) u h),
  ap (λ (t : Ty). t.1) (some_same (kind, suc n) u h),
  omega arith,
)

-- ---- the greatest of ranks
module _ (f : ℕ → ℕ) where
  pub some_by : (vs : List ℕ) → 0 < greatest (map f vs) → some_views vs ≡ true
  some_by [] h = absurd (omega (arith, h))
  some_by (v ∷ vs) h = refl

  all_below : (vs : List ℕ) (r : ℕ) → greatest (map f vs) ≤ r → list_all (λ v. nat_le (f v) r) vs ≡ true
  all_below [] r h = refl
  all_below (v ∷ vs) r h =
      let first : f v ≤ max (f v) (greatest (map f vs)) = le-max_left (f v) (greatest (map f vs)) in
      let rest : greatest (map f vs) ≤ max (f v) (greatest (map f vs)) = le-max_right (f v) (greatest (map f vs)) in
      both (le-leb (f v) r (omega (arith, first, h))) (all_below vs r (omega (arith, rest, h)))

module _ (kernel : Kernel) where
  abbrev there : List Reg → Bool
  there regs = list_all (is_there kernel) regs

  abbrev rank_of : ℕ → ℕ
  rank_of v = view_rank kernel v

  -- ---- a step that gives a value of a type
  pub record IsStep (u : Ty) (s : TemplateStep) : Type 0 where
    pub reads : there (step_regs s) ≡ true
    pub views : there (map reg.View (leaf_of_step s)) ≡ true
    pub kind : (stack : List Kind) → push_kind kernel s stack ≡ Kinds (u.0 ∷ stack)
    pub rank : (vs : List ℕ) → greatest (map rank_of (leaf_of_step s ++ vs)) ≡ max u.1 (greatest (map rank_of vs))
    pub depth : (rest : List TemplateStep) (n : ℕ) → depth_after (s ∷ rest) n ≡ depth_after rest (suc n)
    pub small : small_step s ≡ true

  leaf_depth : (rest : List TemplateStep) (v n : ℕ) → depth_after (step.Leaf v ∷ rest) n ≡ depth_after rest (suc n)
  leaf_depth rest v n =
      let below : nat_le 0 n ≡ true = le-leb 0 n (omega arith) in
      let next : (n - 0) + 1 ≡ suc n = omega arith in
      ap (λ (test : Bool). if test then depth_after rest ((n - 0) + 1) else None) below ∙ ap (depth_after rest) next

  pub leaf_step : (v : ℕ) (u : Ty) → is_there kernel (reg.View v) ≡ true → view_type kernel v ≡ u →
      IsStep u (step.Leaf v)
  leaf_step v u h e = record {
    reads = both h refl;
    views = both h refl;
    kind = λ stack. ap (λ (t : Ty). Kinds (t.0 ∷ stack)) e;
    rank = λ vs. ap (λ (t : Ty). max t.1 (greatest (map rank_of vs))) e;
    depth = λ rest n. leaf_depth rest v n;
    small = refl;
  }

  word_depth : (rest : List TemplateStep) (x : Oper) (n : ℕ) →
      depth_after (step.Word x ∷ rest) n ≡ depth_after rest (suc n)
  word_depth rest x n =
      let below : nat_le 0 n ≡ true = le-leb 0 n (omega arith) in
      let next : (n - 0) + 1 ≡ suc n = omega arith in
      ap (λ (test : Bool). if test then depth_after rest ((n - 0) + 1) else None) below ∙ ap (depth_after rest) next

  no_rank : (u : Ty) (n : ℕ) → is_array u ≡ false → n ≡ max u.1 n
  no_rank (kind, zero) n e = sym (zero-max n)
  no_rank (kind, suc m) n e = not_both (sym (ap not (eqb-suc-zero m)) ∙ e)

  word_step : (x : Oper) (u : Ty) → there (step_regs (step.Word x)) ≡ true → oper_kind kernel x ≡ u.0 →
      is_array u ≡ false → IsStep u (step.Word x)
  word_step x u h e a = record {
    reads = h;
    views = refl;
    kind = λ stack. ap (λ (kind : Kind). Kinds (kind ∷ stack)) e;
    rank = λ vs. no_rank u (greatest (map rank_of vs)) a;
    depth = λ rest n. word_depth rest x n;
    small = refl;
  }

  -- ---- what a template for a type makes
  pub record Makes (u : Ty) (steps : List TemplateStep) : Type 0 where
    pub reads : there (flat_map step_regs steps) ≡ true
    pub views : there (map reg.View (leaves steps)) ≡ true
    pub stack : template_stack kernel steps ≡ Kinds (u.0 ∷ [])
    pub rank : greatest (map rank_of (leaves steps)) ≡ u.1
    pub fit : steps_fit steps ≡ true

  pub makes_some : (u : Ty) (steps : List TemplateStep) → Makes u steps → is_array u ≡ true →
      some_views (leaves steps) ≡ true
  makes_some (kind, zero) steps h a = not_both (sym a)
  makes_some (kind, suc n) steps h a = some_by rank_of (leaves steps) (omega (arith, h.rank))

  pub leaves_below : (u : Ty) (steps : List TemplateStep) (r : ℕ) → Makes u steps → u.1 ≤ r →
      list_all (λ v. nat_le (rank_of v) r) (leaves steps) ≡ true
  leaves_below u steps r h b = all_below rank_of (leaves steps) r (omega (arith, h.rank, b))

  reads_more : (xs ys : List Reg) → there xs ≡ true → there ys ≡ true → there (xs ++ ys) ≡ true
  reads_more xs ys p q = list_all-append (is_there kernel) xs ys ∙ both p q

  views_more : (xs ys : List ℕ) → there (map reg.View xs) ≡ true → there (map reg.View ys) ≡ true →
      there (map reg.View (xs ++ ys)) ≡ true
  views_more xs ys p q =
      ap (λ (regs : List Reg). there regs) (map-append reg.View xs ys) ∙
      reads_more (map reg.View xs) (map reg.View ys) p q

  module _ (t : Ty) (a : TemplateStep) (p : IsStep t a) where
    -- one value
    pub makes_one : Makes t (a ∷ [])
    makes_one = record {
      reads = reads_more (step_regs a) [] p.reads refl;
      views = views_more (leaf_of_step a) [] p.views refl;
      stack = ap (λ (s : Stack). push_kinds kernel s []) (p.kind []);
      rank = p.rank [] ∙ max-zero t.1;
      fit = both (ap is_one (p.depth [] 0)) (both (both p.small refl) refl);
    }

    -- an operation on one value
    pub makes_un : (op : UnOp) (k : Kind) → unary_kind op t.0 ≡ Some k → small_power op ≡ true →
        Makes (k, t.1) (a ∷ step.Un op ∷ [])
    makes_un op k e s = record {
      reads = reads_more (step_regs a) [] p.reads refl;
      views = views_more (leaf_of_step a) [] p.views refl;
      stack = ap (λ (s : Stack). push_kinds kernel s (step.Un op ∷ [])) (p.kind []) ∙
          ap (λ (o : Option Kind). push_kinds kernel (with_kind o []) []) e;
      rank = p.rank [] ∙ max-zero t.1;
      fit = both (ap is_one (p.depth (step.Un op ∷ []) 0)) (both (both p.small (both s refl)) refl);
    }

    module _ (u : Ty) (b : TemplateStep) (q : IsStep u b) where
      makes_bin : (op : BinOp) (k : Kind) → bin_kind op t.0 u.0 ≡ Some k →
          Makes (k, max t.1 u.1) (a ∷ b ∷ step.Bin op ∷ [])
      makes_bin op k e = record {
        reads = reads_more (step_regs a) (step_regs b ++ []) p.reads (reads_more (step_regs b) [] q.reads refl);
        views = views_more (leaf_of_step a) (leaf_of_step b ++ []) p.views
            (views_more (leaf_of_step b) [] q.views refl);
        stack = ap (λ (s : Stack). push_kinds kernel s (b ∷ step.Bin op ∷ [])) (p.kind []) ∙
            ap (λ (s : Stack). push_kinds kernel s (step.Bin op ∷ [])) (q.kind (t.0 ∷ [])) ∙
            ap (λ (o : Option Kind). push_kinds kernel (with_kind o []) []) e;
        rank = p.rank (leaf_of_step b ++ []) ∙ ap (max t.1) (q.rank [] ∙ max-zero u.1);
        fit = both (ap is_one (p.depth (b ∷ step.Bin op ∷ []) 0 ∙ q.depth (step.Bin op ∷ []) 1))
            (both (both p.small (both q.small refl)) refl);
      }

      module _ (v : Ty) (c : TemplateStep) (r : IsStep v c) where
        makes_select : (k : Kind) → select_kind t.0 u.0 v.0 ≡ Some k →
            Makes (k, max t.1 (max u.1 v.1)) (a ∷ b ∷ c ∷ step.Select ∷ [])
        makes_select k e = record {
          reads = reads_more (step_regs a) (step_regs b ++ (step_regs c ++ [])) p.reads
              (reads_more (step_regs b) (step_regs c ++ []) q.reads (reads_more (step_regs c) [] r.reads refl));
          views = views_more (leaf_of_step a) (leaf_of_step b ++ (leaf_of_step c ++ [])) p.views
              (views_more (leaf_of_step b) (leaf_of_step c ++ []) q.views
              (views_more (leaf_of_step c) [] r.views refl));
          stack = ap (λ (s : Stack). push_kinds kernel s (b ∷ c ∷ step.Select ∷ [])) (p.kind []) ∙
              ap (λ (s : Stack). push_kinds kernel s (c ∷ step.Select ∷ [])) (q.kind (t.0 ∷ [])) ∙
              ap (λ (s : Stack). push_kinds kernel s (step.Select ∷ [])) (r.kind (u.0 ∷ t.0 ∷ [])) ∙
              ap (λ (o : Option Kind). push_kinds kernel (with_kind o []) []) e;
          rank = p.rank (leaf_of_step b ++ (leaf_of_step c ++ [])) ∙
              ap (max t.1) (q.rank (leaf_of_step c ++ []) ∙ ap (max u.1) (r.rank [] ∙ max-zero v.1));
          fit = both (ap is_one (p.depth (b ∷ c ∷ step.Select ∷ []) 0 ∙ q.depth (c ∷ step.Select ∷ []) 1 ∙
              r.depth (step.Select ∷ []) 2)) (both (both p.small (both q.small (both r.small refl))) refl);
        }

  -- ---- operands of names
  module _ (names : List Ty) (held : Holds names kernel) where
    abbrev regs : List Reg
    regs = table_of names

    named_step : (n : ℕ) (u : Ty) (class : Bool) → slice_get names n ≡ Some u → is_array u ≡ class →
        IsStep u (leaf_or_word (register regs n))
    named_step n u true h a =
        let is = held.view n u h a in
        subst (λ (r : Reg). IsStep u (leaf_or_word r)) (sym is.register)
        (leaf_step (number regs n) u is.there is.type)
    named_step n u false h a =
        let is = held.word n u h a in
        subst (λ (r : Reg). IsStep u (leaf_or_word r)) (sym is.register)
        (word_step (oper.Name (number regs n)) u (both is.there refl) is.kind a)

    pub step_is : (x : Oper) (u : Ty) → type_of names x ≡ Some u → IsStep u (operand_step regs x)
    step_is (oper.Int z) u h =
        subst (λ (t : Ty). IsStep t (step.Word (oper.Int z))) (some_same _ u h)
        (word_step (oper.Int z) (Int64, 0) refl refl refl)
    step_is (oper.Truth b) u h =
        subst (λ (t : Ty). IsStep t (step.Word (oper.Truth b))) (some_same _ u h)
        (word_step (oper.Truth b) (Boolean, 0) refl refl refl)
    step_is (oper.Name n) u h = named_step n u (is_array u) h refl

    as_type : (u : Ty) (kind : Kind) (rank : ℕ) (steps : List TemplateStep) → kind ≡ u.0 → rank ≡ u.1 →
        Makes (kind, rank) steps → Makes u steps
    as_type u kind rank steps e f h =
        subst (λ (t : Ty). Makes t steps) (ap₂ (λ (k : Kind) (n : ℕ). (k, n)) e f) h

    -- an element operation makes a value of its type
    pub makes_map : (op : MapOp) (args : List Oper) (types : List Ty) (u : Ty) → OfTypes names args types →
        map_type op types ≡ Some u → Makes u (map_steps regs op args)
    makes_map (map_op.Un op) (x ∷ []) (t ∷ []) u h e =
        let found = array_ranked t.1 (un_kind op t.0) u e in
        let small = un_small op t.0 u.0 found.0 in
        as_type u u.0 t.1 _ refl found.1
        (makes_un t (operand_step regs x) (step_is x t h.0) op u.0 small.0 small.1)
    makes_map (map_op.Bin op) (x ∷ y ∷ []) (t ∷ s ∷ []) u h e =
        let found = array_ranked (max t.1 s.1) (bin_kind op t.0 s.0) u e in
        as_type u u.0 (max t.1 s.1) _ refl found.1
        (makes_bin t (operand_step regs x) (step_is x t h.0) s (operand_step regs y) (step_is y s h.1.0) op u.0 found.0)
    makes_map map_op.Select (x ∷ y ∷ z ∷ []) (t ∷ s ∷ v ∷ []) u h e =
        let found = array_ranked (max t.1 (max s.1 v.1)) (select_kind t.0 s.0 v.0) u e in
        as_type u u.0 (max t.1 (max s.1 v.1)) _ refl found.1
        (makes_select t (operand_step regs x) (step_is x t h.0) s (operand_step regs y) (step_is y s h.1.0) v
        (operand_step regs z) (step_is z v h.1.1.0) u.0 found.0)
    makes_map (map_op.Un op) args [] u h e = none_some u e
    makes_map (map_op.Un op) [] (t ∷ types) u h e = absurd h
    makes_map (map_op.Un op) (x ∷ y ∷ args) (t ∷ []) u h e = absurd h.1
    makes_map (map_op.Un op) args (t ∷ s ∷ types) u h e = none_some u e
    makes_map (map_op.Bin op) args [] u h e = none_some u e
    makes_map (map_op.Bin op) args (t ∷ []) u h e = none_some u e
    makes_map (map_op.Bin op) [] (t ∷ s ∷ types) u h e = absurd h
    makes_map (map_op.Bin op) (x ∷ []) (t ∷ s ∷ types) u h e = absurd h.1
    makes_map (map_op.Bin op) (x ∷ y ∷ z ∷ args) (t ∷ s ∷ []) u h e = absurd h.1.1
    makes_map (map_op.Bin op) args (t ∷ s ∷ v ∷ types) u h e = none_some u e
    makes_map map_op.Select args [] u h e = none_some u e
    makes_map map_op.Select args (t ∷ []) u h e = none_some u e
    makes_map map_op.Select args (t ∷ s ∷ []) u h e = none_some u e
    makes_map map_op.Select [] (t ∷ s ∷ v ∷ types) u h e = absurd h
    makes_map map_op.Select (x ∷ []) (t ∷ s ∷ v ∷ types) u h e = absurd h.1
    makes_map map_op.Select (x ∷ y ∷ []) (t ∷ s ∷ v ∷ types) u h e = absurd h.1.1
    makes_map map_op.Select (x ∷ y ∷ z ∷ w ∷ args) (t ∷ s ∷ v ∷ []) u h e = absurd h.1.1.1
    makes_map map_op.Select args (t ∷ s ∷ v ∷ w ∷ types) u h e = none_some u e
