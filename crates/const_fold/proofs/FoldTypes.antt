-- A folded body is well typed, and calls no more.
use Rattle.std.proofs.Common.{◌≡◌, ◌∙◌, ap, ap₂, sym, subst, refl, ℕ, ◌+◌, Bool, true, false, ◌&&◌, ◌==◌, cond}
use Rattle.std.proofs.Common.{List, [], ◌∷◌, ◌++◌, map, length, slice_get, Option, Some, None, append-nil, option_map}
use Rattle.std.proofs.lemmas.Grind.{flat_map-append}
use Rattle.std.proofs.lemmas.List.{length-map}
use Rattle.std.proofs.lemmas.List.Sums.{sum_by-cons}
use Rattle.std.specs.Prelude.{if◌then◌else◌, nat_le, nat_lt, ◌-◌}
use Rattle.std.specs.List.{AllByRecursion, flat_map, list_all}
use Rattle.krn_base.specs.declared.kind.Kind.TheVariants.{Int64}
use Rattle.krn_base.specs.declared.operation.Join.{Join}
use Rattle.krn_base.specs.declared.place.Loc.{Loc}
use Rattle.eager_rules.specs.Sound.{Head, all_fit, all_numbers, array_named, call_fits, fits, fits_step, given_types}
use Rattle.eager_rules.specs.Sound.{has_type, reduction_fits, takes_values}
use Rattle.eager_rules.specs.Statements.{calls_of, calls_step}
use Rattle.eager_rules.specs.Types.{Ty, add_type, fresh_fits, is_index, is_number, is_number_part, is_truth, map_type}
use Rattle.eager_rules.specs.Types.{pick_type, put_fits, removed, same_types, store_fits, sub_fits, type_of, types_of}
use Rattle.eager_rules.specs.Types.{word_type}
use Rattle.eager_rules.specs.declared.program.Core.{Core}
use Rattle.eager_rules.specs.declared.program.Core.TheOpen as c
use Rattle.eager_rules.specs.declared.program.Core.TheFolds.{fold-Core, fold-roll-Core}
use Rattle.eager_rules.specs.declared.program.Core.TheViews.{roll-Core}
use Rattle.eager_rules.specs.declared.program.CoreSub.{CoreSub}
use Rattle.eager_rules.specs.declared.program.CoreSub.TheVariants as sub
use Rattle.eager_rules.specs.declared.program.Oper.{Oper}
use Rattle.eager_rules.specs.declared.program.Oper.TheVariants as oper
use Rattle.const_fold.specs.Folded.{Literals, folded, folded_block, folded_sub, known, literal_or}
use Rattle.const_fold.proofs.FoldTests.{and_left, and_right, both_true}
use Rattle.const_fold.proofs.FoldTrees.{Stands, all_bodies, fold_one, if_cores, same_layer, with_literals}
use Rattle.const_fold.proofs.Right.{IsLiteral, literal_type}

module _ (table : Literals) (names : List Ty)
    (literal : (name : ℕ) (l : Oper) → known table name ≡ Some l → IsLiteral (slice_get names name) l)
  where
    pub type_same : (x : Oper) → type_of names (folded table x) ≡ type_of names x
    type_same (oper.Int z) = refl
    type_same (oper.Truth b) = refl
    type_same (oper.Name name) = by_entry (known table name) refl
      where
        by_entry : (o : Option Oper) → known table name ≡ o →
            type_of names (literal_or (oper.Name name) o) ≡ slice_get names name
        by_entry None e = refl
        by_entry (Some l) e = literal_type names (slice_get names name) l (literal name l e)

    types_same : (xs : List Oper) → types_of names (map (folded table) xs) ≡ types_of names xs
    types_same [] = refl
    types_same (x ∷ xs) = ap₂ add_type (type_same x) (types_same xs)

    numbers_same : (xs : List Oper) → all_numbers names (map (folded table) xs) ≡ all_numbers names xs
    numbers_same [] = refl
    numbers_same (x ∷ xs) =
        ap₂ (λ (o : Option Ty) (b : Bool). is_number o && b) (type_same x) (numbers_same xs)

    part_same : (o : Option Oper) → is_number_part names (option_map (folded table) o) ≡ is_number_part names o
    part_same None = refl
    part_same (Some x) = ap is_number (type_same x)

    sub_same : (s : CoreSub) → sub_fits names (folded_sub table s) ≡ sub_fits names s
    sub_same (sub.At x) = ap is_number (type_same x)
    sub_same (sub.Cut start stop step) =
        ap₂ (λ (a b : Bool). a && b) (ap₂ (λ (a b : Bool). a && b) (part_same start) (part_same stop)) (part_same step)

    subs_same : (subs : List CoreSub) →
        list_all (sub_fits names) (map (folded_sub table) subs) ≡ list_all (sub_fits names) subs
    subs_same [] = refl
    subs_same (s ∷ subs) = ap₂ (λ (a b : Bool). a && b) (sub_same s) (subs_same subs)

    index_same : (s : CoreSub) → is_index (folded_sub table s) ≡ is_index s
    index_same (sub.At x) = refl
    index_same (sub.Cut start stop step) = refl

    removed_same : (subs : List CoreSub) → removed (map (folded_sub table) subs) ≡ removed subs
    removed_same [] = refl
    removed_same (s ∷ subs) =
        sum_by-cons (λ (t : CoreSub). cond (is_index t) 1 0) (folded_sub table s) (map (folded_sub table) subs) ∙
        (ap₂ (λ (b : Bool) (n : ℕ). cond b 1 0 + n) (index_same s) (removed_same subs) ∙
        sym (sum_by-cons (λ (t : CoreSub). cond (is_index t) 1 0) s subs))

    pick_same : (t : Ty) (subs : List CoreSub) → pick_type t (map (folded_sub table) subs) ≡ pick_type t subs
    pick_same (kind, rank) subs =
        ap₂ (λ (m n : ℕ). let t : Option Ty =
        if nat_le m rank then (if nat_lt n rank then Some (kind, rank - n) else None) else None in t)
        (length-map subs (folded_sub table)) (removed_same subs)

    call_same : (o : Option Head) (to : List ℕ) (args : List Oper) →
        call_fits names o to (map (folded table) args) ≡ call_fits names o to args
    call_same None to args = refl
    call_same (Some head) to args =
        ap (λ (o : Option (List Ty)). given_types o (λ types. same_types types head.0) &&
        takes_values names to head.1) (types_same args)

    step_same : (heads : List Head) (rets : List Ty) (y : c.Core-F Bool) →
        fits_step heads rets names (with_literals table y) ≡ fits_step heads rets names y
    step_same heads rets (c.Word to op args at) =
        ap (λ (o : Option (List Ty)). given_types o (λ types. has_type names to (word_type op types)))
        (types_same args)
    step_same heads rets (c.Extent to of axis) = refl
    step_same heads rets (c.Get to of index at) =
        ap₂ (λ (n : ℕ) (b : Bool). given_types (array_named names of)
        (λ t. (n == t.1) && has_type names to (Some (t.0, 0))) && b)
        (length-map index (folded table)) (numbers_same index)
    step_same heads rets (c.Put of index value at) =
        ap₂ (λ (n : ℕ) (b : Bool). given_types (array_named names of) (λ t. (n == t.1) &&
        given_types (type_of names (folded table value)) (λ v. put_fits t v)) && b)
        (length-map index (folded table)) (numbers_same index) ∙
        ap (λ (o : Option Ty). given_types (array_named names of) (λ t. (length index == t.1) &&
        given_types o (λ v. put_fits t v)) && all_numbers names index) (type_same value)
    step_same heads rets (c.Pick to of subs at) =
        ap₂ (λ (a b : Bool). a && b)
        (λ i. given_types (array_named names of) (λ t. has_type names to (pick_same t subs i))) (subs_same subs)
    step_same heads rets (c.Flip to of) = refl
    step_same heads rets (c.Alias to of) = refl
    step_same heads rets (c.Fresh to dims fill at) =
        ap₂ (λ (n : ℕ) (b : Bool). given_types (slice_get names to) (fresh_fits fill n) && b)
        (length-map dims (folded table)) (numbers_same dims)
    step_same heads rets (c.Map to op args at) =
        ap (λ (o : Option (List Ty)). given_types o (λ types. has_type names to (map_type op types))) (types_same args)
    step_same heads rets (c.Reduce to op of at) = refl
    step_same heads rets (c.Store of value at) =
        ap (λ (o : Option Ty). given_types (slice_get names of) (λ t. given_types o (λ v. store_fits t v)))
        (type_same value)
    step_same heads rets (c.Call to instance args) = call_same (slice_get heads instance) to args
    step_same heads rets (c.If cond part other) =
        ap (λ (o : Option Ty). is_truth o && (list_all (λ fits. fits) part && list_all (λ fits. fits) other))
        (type_same cond)
    step_same heads rets (c.For var lo hi by at omp body) =
        ap (λ (b : Bool). ((b && has_type names var (Some (Int64, 0))) && reduction_fits names omp) &&
        list_all (λ fits. fits) body) (numbers_same (lo ∷ hi ∷ by ∷ []))
    step_same heads rets (c.Return values) =
        ap (λ (o : Option (List Ty)). given_types o (λ types. same_types types rets)) (types_same values)

    module _ (heads : List Head) (rets : List Ty) where
      abbrev pub fit : Core → Bool
      fit = fits heads rets names

      abbrev Fitting : Core → List Core → Type 0
      Fitting x xs = fit x ≡ true → all_fit heads rets names xs ≡ true

      fit_same : (y : c.Core-F Core) → fit (roll-Core (with_literals table y)) ≡ fit (roll-Core y)
      fit_same = same_layer table Bool (fits_step heads rets names) (step_same heads rets)

      append_fits : (xs ys : List Core) → all_fit heads rets names xs ≡ true → all_fit heads rets names ys ≡ true →
          all_fit heads rets names (xs ++ ys) ≡ true
      append_fits [] ys f g = g
      append_fits (x ∷ xs) ys f g =
          both_true (fit x) (all_fit heads rets names (xs ++ ys)) (and_left (fit x) (all_fit heads rets names xs) f)
          (append_fits xs ys (and_right (fit x) (all_fit heads rets names xs) f) g)

      block_fits : (xs : List Core) → AllByRecursion (Stands table Fitting) xs → all_fit heads rets names xs ≡ true →
          all_fit heads rets names (folded_block table xs) ≡ true
      block_fits [] h e = refl
      block_fits (x ∷ xs) h e =
          append_fits (fold_one table x) (folded_block table xs)
          (h.0 (and_left (fit x) (all_fit heads rets names xs) e))
          (block_fits xs h.1 (and_right (fit x) (all_fit heads rets names xs) e))

      one_fits : (x : Core) → fit x ≡ true → all_fit heads rets names (x ∷ []) ≡ true
      one_fits x e = both_true (fit x) true e refl

      -- what the parts of a statement with blocks are
      pub record IfFits (cond : Oper) (part other : List Core) : Type 0 where
        pub test : is_truth (type_of names cond) ≡ true
        pub first : all_fit heads rets names part ≡ true
        pub second : all_fit heads rets names other ≡ true

      pub if_given : (cond : Oper) (part other : List Core) → fit (roll-Core (c.If cond part other)) ≡ true →
          IfFits cond part other
      if_given cond part other e =
          let h : is_truth (type_of names cond) && (all_fit heads rets names part && all_fit heads rets names other) ≡
          true = sym (fold-roll-Core Bool (fits_step heads rets names) (c.If cond part other)) ∙ e in
          let k : all_fit heads rets names part && all_fit heads rets names other ≡ true =
          and_right (is_truth (type_of names cond)) _ h in
          record {
            test = and_left (is_truth (type_of names cond)) _ h;
            first = and_left (all_fit heads rets names part) (all_fit heads rets names other) k;
            second = and_right (all_fit heads rets names part) (all_fit heads rets names other) k;
          }

      if_made : (cond : Oper) (part other : List Core) → IfFits cond part other →
          fit (roll-Core (c.If cond part other)) ≡ true
      if_made cond part other f =
          fold-roll-Core Bool (fits_step heads rets names) (c.If cond part other) ∙
          both_true (is_truth (type_of names cond)) (all_fit heads rets names part && all_fit heads rets names other)
          f.test (both_true (all_fit heads rets names part) (all_fit heads rets names other) f.first f.second)

      cores_fit : (x : Oper) (part other : List Core) → IfFits x part other →
          all_fit heads rets names (if_cores table x part other) ≡ true
      cores_fit (oper.Truth true) part other f = f.first
      cores_fit (oper.Truth false) part other f = f.second
      cores_fit (oper.Int z) part other f =
          one_fits (roll-Core (c.If (oper.Int z) part other)) (if_made (oper.Int z) part other f)
      cores_fit (oper.Name name) part other f =
          one_fits (roll-Core (c.If (oper.Name name) part other)) (if_made (oper.Name name) part other f)

      for_first : (var : ℕ) (lo hi by : Oper) (omp : Option (List (Join × ℕ))) → Bool
      for_first var lo hi by omp =
          (all_numbers names (lo ∷ hi ∷ by ∷ []) && has_type names var (Some (Int64, 0))) && reduction_fits names omp

      pub for_given : (var : ℕ) (lo hi by : Oper) (at : Loc) (omp : Option (List (Join × ℕ))) (body : List Core) →
          fit (roll-Core (c.For var lo hi by at omp body)) ≡ true → all_fit heads rets names body ≡ true
      unfolding for_first
      for_given var lo hi by at omp body e =
          and_right (for_first var lo hi by omp) (all_fit heads rets names body)
          (sym (fold-roll-Core Bool (fits_step heads rets names) (c.For var lo hi by at omp body)) ∙ e)

      for_made : (var : ℕ) (lo hi by : Oper) (at : Loc) (omp : Option (List (Join × ℕ))) (body new : List Core) →
          all_fit heads rets names new ≡ true → fit (roll-Core (c.For var lo hi by at omp body)) ≡ true →
          fit (roll-Core (c.For var lo hi by at omp new)) ≡ true
      unfolding for_first
      for_made var lo hi by at omp body new f e =
          fold-roll-Core Bool (fits_step heads rets names) (c.For var lo hi by at omp new) ∙
          both_true (for_first var lo hi by omp) (all_fit heads rets names new)
          (and_left (for_first var lo hi by omp) (all_fit heads rets names body)
          (sym (fold-roll-Core Bool (fits_step heads rets names) (c.For var lo hi by at omp body)) ∙ e)) f

      pub body_fits : (body : List Core) → all_fit heads rets names body ≡ true →
          all_fit heads rets names (folded_block table body) ≡ true
      body_fits body =
          block_fits body (all_bodies table Fitting
          (λ y is stays e. one_fits (roll-Core (with_literals table y)) (fit_same y ∙ e))
          (λ to op args at l is e. refl)
          (λ cond part other f g e. let h = if_given cond part other e in
          cores_fit (folded table cond) (folded_block table part) (folded_block table other) (record {
            test = ap is_truth (type_same cond) ∙ h.test;
            first = block_fits part f h.first;
            second = block_fits other g h.second;
          }))
          (λ var lo hi by at omp inside f e.
          one_fits (roll-Core (with_literals table (c.For var lo hi by at omp (folded_block table inside))))
          (fit_same (c.For var lo hi by at omp (folded_block table inside)) ∙
          for_made var lo hi by at omp inside (folded_block table inside)
          (block_fits inside f (for_given var lo hi by at omp inside e)) e))
          body)

-- ---- calls
module _ (R : ℕ → Type 0) (table : Literals) where
  abbrev AllR : List ℕ → Type 0
  AllR = AllByRecursion R

  abbrev calls_in : Core → List ℕ
  calls_in = fold-Core (List ℕ) calls_step

  abbrev Below : Core → List Core → Type 0
  Below x xs = AllR (calls_in x) → AllR (calls_of xs)

  all_append : (xs ys : List ℕ) → AllR xs → AllR ys → AllR (xs ++ ys)
  all_append [] ys f g = g
  all_append (x ∷ xs) ys f g = (f.0, all_append xs ys f.1 g)

  all_first : (xs ys : List ℕ) → AllR (xs ++ ys) → AllR xs
  all_first [] ys f = tt
  all_first (x ∷ xs) ys f = (f.0, all_first xs ys f.1)

  all_second : (xs ys : List ℕ) → AllR (xs ++ ys) → AllR ys
  all_second [] ys f = f
  all_second (x ∷ xs) ys f = all_second xs ys f.1

  one_below : (x : Core) → Below x (x ∷ [])
  one_below x f = subst AllR (sym (append-nil (calls_in x))) f

  block_below : (xs : List Core) → AllByRecursion (Stands table Below) xs → AllR (calls_of xs) →
      AllR (calls_of (folded_block table xs))
  block_below [] h f = tt
  block_below (x ∷ xs) h f =
      subst AllR (sym (flat_map-append calls_in (fold_one table x) (folded_block table xs)))
      (all_append (calls_of (fold_one table x)) (calls_of (folded_block table xs))
      (h.0 (all_first (calls_in x) (calls_of xs) f))
      (block_below xs h.1 (all_second (calls_in x) (calls_of xs) f)))

  gathered : (xs : List Core) → flat_map (λ (calls : List ℕ). calls) (map calls_in xs) ≡ calls_of xs
  gathered [] = refl
  gathered (x ∷ xs) = ap (λ (rest : List ℕ). calls_in x ++ rest) (gathered xs)

  if_calls : (cond : Oper) (part other : List Core) →
      calls_in (roll-Core (c.If cond part other)) ≡ calls_of part ++ calls_of other
  if_calls cond part other =
      fold-roll-Core (List ℕ) calls_step (c.If cond part other) ∙
      (flat_map-append (λ (calls : List ℕ). calls) (map calls_in part) (map calls_in other) ∙
      ap₂ (λ (a b : List ℕ). a ++ b) (gathered part) (gathered other))

  for_calls : (var : ℕ) (lo hi by : Oper) (at : Loc) (omp : Option (List (Join × ℕ))) (body : List Core) →
      calls_in (roll-Core (c.For var lo hi by at omp body)) ≡ calls_of body
  for_calls var lo hi by at omp body =
      fold-roll-Core (List ℕ) calls_step (c.For var lo hi by at omp body) ∙ gathered body

  call_step_same : (y : c.Core-F (List ℕ)) → calls_step (with_literals table y) ≡ calls_step y
  call_step_same (c.Word to op args at) = refl
  call_step_same (c.Extent to of axis) = refl
  call_step_same (c.Get to of index at) = refl
  call_step_same (c.Put of index value at) = refl
  call_step_same (c.Pick to of subs at) = refl
  call_step_same (c.Flip to of) = refl
  call_step_same (c.Alias to of) = refl
  call_step_same (c.Fresh to dims fill at) = refl
  call_step_same (c.Map to op args at) = refl
  call_step_same (c.Reduce to op of at) = refl
  call_step_same (c.Store of value at) = refl
  call_step_same (c.Call to instance args) = refl
  call_step_same (c.If cond part other) = refl
  call_step_same (c.For var lo hi by at omp body) = refl
  call_step_same (c.Return values) = refl

  leaf_below : (y : c.Core-F Core) → Below (roll-Core y) (roll-Core (with_literals table y) ∷ [])
  leaf_below y f =
      one_below (roll-Core (with_literals table y))
      (subst AllR (sym (same_layer table (List ℕ) calls_step call_step_same y)) f)

  cores_below : (x : Oper) (part other : List Core) → AllR (calls_of part) → AllR (calls_of other) →
      AllR (calls_of (if_cores table x part other))
  cores_below (oper.Truth true) part other f g = f
  cores_below (oper.Truth false) part other f g = g
  cores_below (oper.Int z) part other f g =
      one_below (roll-Core (c.If (oper.Int z) part other)) (subst AllR (sym (if_calls (oper.Int z) part other))
      (all_append (calls_of part) (calls_of other) f g))
  cores_below (oper.Name name) part other f g =
      one_below (roll-Core (c.If (oper.Name name) part other)) (subst AllR (sym (if_calls (oper.Name name) part other))
      (all_append (calls_of part) (calls_of other) f g))

  if_below : (cond : Oper) (part other : List Core) → AllByRecursion (Stands table Below) part →
      AllByRecursion (Stands table Below) other → Below (roll-Core (c.If cond part other))
      (if_cores table (folded table cond) (folded_block table part) (folded_block table other))
  if_below cond part other f g h =
      let all : AllR (calls_of part ++ calls_of other) = subst AllR (if_calls cond part other) h in
      cores_below (folded table cond) (folded_block table part) (folded_block table other)
      (block_below part f (all_first (calls_of part) (calls_of other) all))
      (block_below other g (all_second (calls_of part) (calls_of other) all))

  for_below : (var : ℕ) (lo hi by : Oper) (at : Loc) (omp : Option (List (Join × ℕ))) (body : List Core) →
      AllByRecursion (Stands table Below) body → Below (roll-Core (c.For var lo hi by at omp body))
      (roll-Core (with_literals table (c.For var lo hi by at omp (folded_block table body))) ∷ [])
  for_below var lo hi by at omp body f h =
      leaf_below (c.For var lo hi by at omp (folded_block table body))
      (subst AllR (sym (for_calls var lo hi by at omp (folded_block table body)))
      (block_below body f (subst AllR (for_calls var lo hi by at omp body) h)))

  pub body_below : (body : List Core) → AllR (calls_of body) → AllR (calls_of (folded_block table body))
  body_below body =
      block_below body (all_bodies table Below (λ y is stays. leaf_below y) (λ to op args at l is f. tt) if_below
      for_below
      body)
