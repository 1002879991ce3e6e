-- Lowered statements keep the rules on registers, kinds, ranks and templates: one case for each kind of statement, and
-- the induction over blocks.
use Rattle.std.proofs.Common.{◌≡◌, ◌∙◌, ap, sym, subst, refl, ℕ, ◌+◌, Bool, true, ◌&&◌, List, [], ◌∷◌, ◌++◌, map}
use Rattle.std.proofs.Common.{length, Option, Some, None, arith, zero, suc, false}
use Rattle.std.specs.Prelude.{slice_get, slice_index_or, nat_le, nat_lt}
use Rattle.std.specs.List.{flat_map, list_all, list_any}
use Rattle.std.proofs.lemmas.Bool.{lt-ltb}
use Rattle.std.proofs.lemmas.Option.{get_or_from_slice_get}
use Rattle.std.proofs.lemmas.Grind.{flat_map-append}
use Rattle.std.proofs.lemmas.List.Folds.{list_all-append}
use Rattle.krn_base.specs.declared.kind.Kind.{Kind}
use Rattle.krn_base.specs.declared.kind.Kind.TheVariants.{Int64, Bool as Boolean}
use Rattle.krn_base.specs.declared.operation.Join.{Join}
use Rattle.krn_base.specs.declared.place.Loc.{Loc}
use Rattle.array_ops.specs.declared.operation.MapOp.{MapOp}
use Rattle.eager_rules.specs.Sound.{given_types}
use Rattle.eager_rules.specs.Sound.{Head, all_fit, all_numbers, fits, fits_step, has_type, reduction_fits}
use Rattle.eager_rules.specs.Statements.{calls_step}
use Rattle.eager_rules.specs.Types.{Ty, is_array, is_truth, map_type, same_kind, type_of, types_of}
use Rattle.eager_rules.specs.declared.program.Core.{Core}
use Rattle.eager_rules.specs.declared.program.Core.TheOpen as c
use Rattle.eager_rules.specs.declared.program.Core.TheFolds.{fold-Core, fold-roll-Core, map-Core}
use Rattle.eager_rules.specs.declared.program.Core.TheViews.{roll-Core}
use Rattle.eager_rules.specs.declared.program.Oper.{Oper}
use Rattle.lazy_expr.specs.Plain.{lower_map, map_into, map_steps, names_it}
use Rattle.lazy_expr.specs.Plain.{Lowering, empty_guard, in_turn, loop_of, lowered, plain_of, plain_step, reduction_of}
use Rattle.lazy_expr.specs.Table.{number, oper_of, table_of, view_types}
use Rattle.lazy_expr.proofs.ValidRules.{all_local, is_local}
use Rattle.lazy_expr.proofs.Binds.{and_left, and_right, not_both}
use Rattle.lazy_expr.proofs.Operands.{none_some, some_given, some_same, truth_scalar, truth_type, typed_name}
use Rattle.lazy_expr.proofs.Templates.{map_given}
use Rattle.lazy_expr.proofs.Trees.{Good, by_layers, fused}
use Rattle.lazy_expr.proofs.ValidFolds.{reduce_local}
use Rattle.lazy_expr.proofs.ValidNames.{Holds, Stands, both, numbers_there, scalar_kind, scalar_there, stands_split}
use Rattle.lazy_expr.proofs.ValidStatements.{alias_local, extent_local, flip_local, fresh_local, get_local, local_by}
use Rattle.lazy_expr.proofs.ValidStatements.{lower_map_local, number_kind, pick_local, put_local, return_local}
use Rattle.lazy_expr.proofs.ValidStatements.{store_local, word_local}
use Rattle.loop_prog.specs.Conditions.{is_there}
use Rattle.loop_prog.specs.Check.{is_rank}
use Rattle.loop_prog.specs.declared.program.Kernel.{Kernel}
use Rattle.loop_prog.specs.declared.program.Reg.{Reg}
use Rattle.loop_prog.specs.declared.program.Reg.TheVariants as reg
use Rattle.loop_prog.specs.declared.program.Statement.{Statement}
use Rattle.loop_prog.specs.declared.program.Statement.TheOpen as l
use Rattle.loop_prog.specs.declared.program.Statement.TheVariants as v
use Rattle.loop_prog.specs.declared.program.TemplateStep.{TemplateStep}

pub none_left : (xs ys : List ℕ) → xs ++ ys ≡ [] → (xs ≡ []) × (ys ≡ [])
none_left [] ys h = (refl, h)
none_left (x ∷ xs) ys h = absurd (let e : x ∷ (xs ++ ys) ≡ [] = h in cc)

-- the tests of statements, one by one
pub mapped_all : (f : Statement → Bool) (xs : List Statement) → list_all (λ b. b) (map f xs) ≡ list_all f xs
mapped_all f [] = refl
mapped_all f (x ∷ xs) = ap (λ (b : Bool). f x && b) (mapped_all f xs)

module _ (kernel : Kernel) where
  pub all_joined : (xs ys : List Statement) → all_local kernel xs ≡ true → all_local kernel ys ≡ true →
      all_local kernel (xs ++ ys) ≡ true
  all_joined xs ys p q = list_all-append (is_local kernel) xs ys ∙ both p q

  inner_local : (xs : List Statement) → all_local kernel xs ≡ true →
      list_all (λ b. b) (map (is_local kernel) xs) ≡ true
  inner_local xs h = mapped_all (is_local kernel) xs ∙ h

abbrev pub all_ranked : List Ty → Bool
all_ranked types = list_all (λ t. is_rank t.1) types

ranked_joined : (xs ys : List Ty) → all_ranked xs ≡ true → all_ranked ys ≡ true → all_ranked (xs ++ ys) ≡ true
ranked_joined xs ys p q = list_all-append (λ (t : Ty). is_rank t.1) xs ys ∙ both p q

-- an array of a name has a rank within the limits
pub name_ranked : (names : List Ty) (n : ℕ) (u : Ty) → list_all (λ t. nat_le t.1 4) names ≡ true →
    slice_get names n ≡ Some u → is_array u ≡ true → is_rank u.1 ≡ true
name_ranked [] n u h e a = none_some u e
name_ranked (t ∷ names) zero u h e a =
    subst (λ (x : Ty). is_rank x.1 ≡ true) (some_same t u e)
    (both (some_rank t (ap is_array (some_same t u e) ∙ a))
    (and_left (nat_le t.1 4) (list_all (λ t. nat_le t.1 4) names) h))
  where
    some_rank : (x : Ty) → is_array x ≡ true → nat_lt 0 x.1 ≡ true
    some_rank (kind, zero) b = not_both (sym b)
    some_rank (kind, suc m) b = lt-ltb 0 (suc m) (omega arith)
name_ranked (t ∷ names) (suc n) u h e a =
    name_ranked names n u (and_right (nat_le t.1 4) (list_all (λ t. nat_le t.1 4) names) h) e a

module _ (heads : List Head) (names : List Ty) (limits : list_all (λ t. nat_le t.1 4) names ≡ true) (kernel : Kernel)
    (held : Holds names kernel) where
  abbrev regs : List Reg
  regs = table_of names

  -- ---- statements with blocks
  if_local : (cond : Oper) (part other : List Statement) → is_truth (type_of names cond) ≡ true →
      all_local kernel part ≡ true → all_local kernel other ≡ true →
      all_local kernel (v.If (oper_of regs cond) part other ∷ []) ≡ true
  if_local cond part other truth p q =
      both (local_by kernel (l.If (oper_of regs cond) part other) _ (v.rolls-If (oper_of regs cond) part other)
      (both (both (both (both (scalar_there names kernel held cond (truth_scalar names cond truth)) refl)
      (ap (λ (k : Kind). same_kind k Boolean)
      (scalar_kind names kernel held cond (Boolean, 0) (truth_type (type_of names cond) truth) refl)))
      refl)
      (list_all-append (λ b. b) (map (is_local kernel) part) (map (is_local kernel) other) ∙
      both (inner_local kernel part p) (inner_local kernel other q)))) refl

  reductions_there : (pairs : List (Join × ℕ)) →
      list_all (λ p. has_type names p.1 (Some (Int64, 0))) pairs ≡ true →
      list_all (is_there kernel) (map (λ (p : Join × ℕ). reg.Word p.1) (map (reduction_of regs) pairs) ++ []) ≡ true
  reductions_there [] h = refl
  reductions_there ((join, n) ∷ pairs) h =
      both (number_kind kernel names held n Int64 (and_left (has_type names n (Some (Int64, 0)))
      (list_all (λ p. has_type names p.1 (Some (Int64, 0))) pairs) h)).0
      (reductions_there pairs (and_right (has_type names n (Some (Int64, 0)))
      (list_all (λ p. has_type names p.1 (Some (Int64, 0))) pairs) h))

  for_local : (var : ℕ) (lo hi by : Oper) (at : Loc) (omp : Option (List (Join × ℕ))) (body : List Statement) →
      all_numbers names (lo ∷ hi ∷ by ∷ []) ≡ true → has_type names var (Some (Int64, 0)) ≡ true →
      reduction_fits names omp ≡ true → all_local kernel body ≡ true →
      all_local kernel (loop_of regs (number regs var) (oper_of regs lo) (oper_of regs hi) (oper_of regs by) at omp body
      ∷ []) ≡ true
  for_local var lo hi by at None body numbers variable pairs h =
      let is = number_kind kernel names held var Int64 variable in
      both (local_by kernel (l.For (number regs var) (oper_of regs lo) (oper_of regs hi) (oper_of regs by) at body) _
      (v.rolls-For (number regs var) (oper_of regs lo) (oper_of regs hi) (oper_of regs by) at body)
      (both (both (both (both (numbers_there names kernel held (lo ∷ hi ∷ by ∷ []) numbers) (both (both is.0 refl)
      refl))
      (ap (λ (k : Kind). same_kind k Int64) is.1)) refl) (inner_local kernel body h))) refl
  for_local var lo hi by at (Some given) body numbers variable pairs h =
      let is = number_kind kernel names held var Int64 variable in
      both (local_by kernel (l.ParFor (number regs var) (oper_of regs lo) (oper_of regs hi) (oper_of regs by) at
      empty_guard (map (reduction_of regs) given) [] body) _
      (v.rolls-ParFor (number regs var) (oper_of regs lo) (oper_of regs hi) (oper_of regs by) at
      empty_guard (map (reduction_of regs) given) [] body)
      (both (both (both (both (numbers_there names kernel held (lo ∷ hi ∷ by ∷ []) numbers)
      (both (both is.0 refl) (reductions_there given pairs)))
      (ap (λ (k : Kind). same_kind k Int64) is.1)) refl) (inner_local kernel body h))) refl

  -- ---- what is proved of a statement, by its test, the calls in it and its plain form
  abbrev DoneBy : Bool → List ℕ → Lowering → Type 0
  DoneBy test called low =
      test ≡ true → called ≡ [] → (k : ℕ) → Stands kernel k (low k).fresh →
      (all_local kernel (low k).body ≡ true) × (all_ranked (low k).fresh ≡ true)

  abbrev Fine : Core → Type 0
  Fine x = DoneBy (fits heads kernel.rets names x) (fold-Core (List ℕ) calls_step x) (plain_of names regs x)

  module _ {X : Type 0} (core : X → Core) (good : (x : X) → Fine (core x)) where
    abbrev each_fits : List X → Bool
    each_fits xs = list_all (λ fit. fit) (map (λ (x : X). fits heads kernel.rets names (core x)) xs)

    abbrev each_calls : List X → List ℕ
    each_calls xs = flat_map (λ names. names) (map (λ (x : X). fold-Core (List ℕ) calls_step (core x)) xs)

    abbrev each_low : List X → List Lowering
    each_low xs = map (λ (x : X). plain_of names regs (core x)) xs

    blocks_local : (xs : List X) → each_fits xs ≡ true → each_calls xs ≡ [] → (k : ℕ) →
        Stands kernel k (in_turn (each_low xs) k).fresh →
        (all_local kernel (in_turn (each_low xs) k).body ≡ true) ×
        (all_ranked (in_turn (each_low xs) k).fresh ≡ true)
    blocks_local [] f n k new = (refl, refl)
    blocks_local (x ∷ xs) f n k new =
        let first : Lowering = plain_of names regs (core x) in
        let own : ℕ = length (first k).fresh in
        let split = stands_split kernel k (first k).fresh (in_turn (each_low xs) (k + own)).fresh new in
        let none = none_left (fold-Core (List ℕ) calls_step (core x)) (each_calls xs) n in
        let here = good x (and_left (fits heads kernel.rets names (core x)) (each_fits xs) f) none.0 k split.0 in
        let rest = blocks_local xs (and_right (fits heads kernel.rets names (core x)) (each_fits xs) f) none.1 (k + own)
        split.1 in (
          all_joined kernel (first k).body (in_turn (each_low xs) (k + own)).body here.0 rest.0,
          ranked_joined (first k).fresh (in_turn (each_low xs) (k + own)).fresh here.1 rest.1,
        )

  abbrev first_of : Good Fine → Core
  first_of g = g.0

  abbrev is_good : (g : Good Fine) → Fine g.0
  is_good g = g.1

  abbrev parts_fit : List (Good Fine) → Bool
  parts_fit gs = each_fits first_of is_good gs

  parts_local : (cond : Oper) (part other : List (Good Fine)) →
      (is_truth (type_of names cond) && (parts_fit part && parts_fit other)) ≡ true →
      flat_map (λ names. names) (map (λ (g : Good Fine). fold-Core (List ℕ) calls_step g.0) part ++
      map (λ (g : Good Fine). fold-Core (List ℕ) calls_step g.0) other) ≡ [] →
      (k : ℕ) → Stands kernel k ((in_turn (each_low first_of is_good part) k).fresh ++
      (in_turn (each_low first_of is_good other)
      (k + length (in_turn (each_low first_of is_good part) k).fresh)).fresh) →
      (all_local kernel (v.If (oper_of regs cond) (in_turn (each_low first_of is_good part) k).body
      (in_turn (each_low first_of is_good other)
      (k + length (in_turn (each_low first_of is_good part) k).fresh)).body ∷ []) ≡ true) ×
      (all_ranked ((in_turn (each_low first_of is_good part) k).fresh ++ (in_turn (each_low first_of is_good other)
      (k + length (in_turn (each_low first_of is_good part) k).fresh)).fresh) ≡ true)
  parts_local cond part other f n k new =
      let own : ℕ = length (in_turn (each_low first_of is_good part) k).fresh in
      let split = stands_split kernel k (in_turn (each_low first_of is_good part) k).fresh
      (in_turn (each_low first_of is_good other) (k + own)).fresh new in
      let fit = and_right (is_truth (type_of names cond)) (parts_fit part && parts_fit other) f in
      let none = none_left (each_calls first_of is_good part) (each_calls first_of is_good other)
      (sym (flat_map-append (λ (names : List ℕ). names)
      (map (λ (g : Good Fine). fold-Core (List ℕ) calls_step g.0) part)
      (map (λ (g : Good Fine). fold-Core (List ℕ) calls_step g.0) other)) ∙ n) in
      let first = blocks_local first_of is_good part (and_left (parts_fit part) (parts_fit other) fit) none.0 k
      split.0 in
      let second = blocks_local first_of is_good other (and_right (parts_fit part) (parts_fit other) fit) none.1
      (k + own) split.1 in (
        if_local cond (in_turn (each_low first_of is_good part) k).body
            (in_turn (each_low first_of is_good other) (k + own)).body
            (and_left (is_truth (type_of names cond)) (parts_fit part && parts_fit other) f) first.0 second.0,
        ranked_joined (in_turn (each_low first_of is_good part) k).fresh
            (in_turn (each_low first_of is_good other) (k + own)).fresh first.1 second.1,
      )

  -- the new register of an element operation has its name's type
  map_ranked : (own : Bool) (u : Ty) (to : ℕ) (steps : List TemplateStep) (at : Loc) (k : ℕ) → is_rank u.1 ≡ true →
      all_ranked (map_into own u to steps at k).fresh ≡ true
  map_ranked false u to steps at k h = refl
  map_ranked true u to steps at k h = both h refl

  lower_map_ranked : (to : ℕ) (op : MapOp) (args : List Oper) (at : Loc) →
      given_types (types_of names args) (λ types. has_type names to (map_type op types)) ≡ true → (k : ℕ) →
      all_ranked (lower_map names regs to op args at k).fresh ≡ true
  lower_map_ranked to op args at f k =
      let taken = some_given (types_of names args) (λ types. has_type names to (map_type op types)) f in
      let named = typed_name names to (map_type op taken.0) taken.2 in
      let type : slice_index_or names to (Int64, 0) ≡ named.0 =
      get_or_from_slice_get names to named.0 (Int64, 0) named.2 in
      map_ranked (list_any (names_it to) args) (slice_index_or names to (Int64, 0)) (number regs to)
      (map_steps regs op args) at k
      (ap (λ (t : Ty). is_rank t.1) type ∙
      name_ranked names to named.0 limits named.2 (map_given op taken.0 named.0 named.1).1)

  by_case : (y : c.Core-F (Good Fine)) →
      DoneBy (fits_step heads kernel.rets names (map-Core (Good Fine) Bool (λ g. fits heads kernel.rets names g.0) y))
      (calls_step (map-Core (Good Fine) (List ℕ) (λ g. fold-Core (List ℕ) calls_step g.0) y))
      (plain_step names regs (map-Core (Good Fine) Lowering (λ g. plain_of names regs g.0) y))
  by_case (c.Word to op args at) f n k new = (word_local kernel names held to op args at f, refl)
  by_case (c.Extent to of axis) f n k new = (extent_local kernel names held to of axis f, refl)
  by_case (c.Get to of index at) f n k new = (get_local kernel names held to of index at f, refl)
  by_case (c.Put of index value at) f n k new = (put_local kernel names held of index value at f, refl)
  by_case (c.Pick to of subs at) f n k new = (pick_local kernel names held to of subs at f, refl)
  by_case (c.Flip to of) f n k new = (flip_local kernel names held to of f, refl)
  by_case (c.Alias to of) f n k new = (alias_local kernel names held to of f, refl)
  by_case (c.Fresh to dims fill at) f n k new = (fresh_local kernel names held to dims fill at f, refl)
  by_case (c.Map to op args at) f n k new =
      (lower_map_local kernel names held to op args at f k new, lower_map_ranked to op args at f k)
  by_case (c.Reduce to op of at) f n k new = (reduce_local kernel names held to op of at f, refl)
  by_case (c.Store of value at) f n k new = (store_local kernel names held of value at f, refl)
  by_case (c.Call to instance args) f n k new = absurd (let e : instance ∷ [] ≡ [] = n in cc)
  by_case (c.If cond part other) f n k new = parts_local cond part other f n k new
  by_case (c.For var lo hi by at omp body) f n k new =
      let numbers : Bool = all_numbers names (lo ∷ hi ∷ by ∷ []) in
      let variable : Bool = has_type names var (Some (Int64, 0)) in
      let head = and_left ((numbers && variable) && reduction_fits names omp) (parts_fit body) f in
      let two = and_left (numbers && variable) (reduction_fits names omp) head in
      let inner = blocks_local first_of is_good body
      (and_right ((numbers && variable) && reduction_fits names omp) (parts_fit body) f) n k new in (
        for_local var lo hi by at omp (in_turn (each_low first_of is_good body) k).body (and_left numbers variable two)
            (and_right numbers variable two) (and_right (numbers && variable) (reduction_fits names omp) head) inner.0,
        inner.1,
      )
  by_case (c.Return values) f n k new = (return_local kernel names held values f, refl)

  layer : (y : c.Core-F (Good Fine)) → Fine (roll-Core (map-Core (Good Fine) Core (λ g. g.0) y))
  layer y =
      let x : c.Core-F Core = map-Core (Good Fine) Core (λ g. g.0) y in
      let same_fits : fits_step heads kernel.rets names
      (map-Core (Good Fine) Bool (λ g. fits heads kernel.rets names g.0) y) ≡
      fits heads kernel.rets names (roll-Core x) =
      ap (fits_step heads kernel.rets names) (fused Fine Bool (fits heads kernel.rets names) y) ∙
      sym (fold-roll-Core Bool (fits_step heads kernel.rets names) x) in
      let same_calls : calls_step (map-Core (Good Fine) (List ℕ) (λ g. fold-Core (List ℕ) calls_step g.0) y) ≡
      fold-Core (List ℕ) calls_step (roll-Core x) =
      ap calls_step (fused Fine (List ℕ) (fold-Core (List ℕ) calls_step) y) ∙
      sym (fold-roll-Core (List ℕ) calls_step x) in
      let same_low : plain_step names regs (map-Core (Good Fine) Lowering (λ g. plain_of names regs g.0) y) ≡
      plain_of names regs (roll-Core x) =
      ap (plain_step names regs) (fused Fine Lowering (plain_of names regs) y) ∙
      sym (fold-roll-Core Lowering (plain_step names regs) x) in
      subst (λ (low : Lowering). DoneBy (fits heads kernel.rets names (roll-Core x))
      (fold-Core (List ℕ) calls_step (roll-Core x)) low) same_low
      (subst (λ (called : List ℕ). DoneBy (fits heads kernel.rets names (roll-Core x)) called
      (plain_step names regs (map-Core (Good Fine) Lowering (λ g. plain_of names regs g.0) y))) same_calls
      (subst (λ (test : Bool). DoneBy test
      (calls_step (map-Core (Good Fine) (List ℕ) (λ g. fold-Core (List ℕ) calls_step g.0) y))
      (plain_step names regs (map-Core (Good Fine) Lowering (λ g. plain_of names regs g.0) y))) same_fits (by_case y)))

  pub body_local : (body : List Core) → all_fit heads kernel.rets names body ≡ true →
      flat_map (λ names. names) (map (fold-Core (List ℕ) calls_step) body) ≡ [] →
      Stands kernel (length (view_types names)) (lowered names body).fresh →
      (all_local kernel (lowered names body).body ≡ true) × (all_ranked (lowered names body).fresh ≡ true)
  body_local body f n new =
      blocks_local (λ x. x) (by_layers Fine layer) body f n (length (view_types names)) new
