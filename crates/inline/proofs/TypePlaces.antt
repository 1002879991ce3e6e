-- Statements whose names stand elsewhere, with the types that they had, fit as before.
use Rattle.std.proofs.Common.{◌≡◌, ◌∙◌, ap, ap₂, sym, refl, ℕ, Bool, true, false, ◌&&◌, ◌+◌, cond, List, [], ◌∷◌}
use Rattle.std.proofs.Common.{map, length, slice_get, Option, Some, None}
use Rattle.std.proofs.lemmas.List.{length-map}
use Rattle.std.proofs.lemmas.List.Sums.{sum_by-cons}
use Rattle.std.specs.Prelude.{◌==◌, nat_lt, nat_le, ◌-◌, if◌then◌else◌, option_map}
use Rattle.std.specs.List.{list_all}
use Rattle.krn_base.specs.declared.kind.Kind.TheVariants.{Int64}
use Rattle.krn_base.specs.declared.operation.Join.{Join}
use Rattle.krn_base.specs.declared.place.Loc.{Loc}
use Rattle.array_ops.specs.declared.operation.Fill.{Fill}
use Rattle.array_ops.specs.declared.operation.MapOp.{MapOp}
use Rattle.array_ops.specs.declared.operation.RedOp.{RedOp}
use Rattle.eager_rules.specs.Sound.{Head, all_numbers, array_named, axis_fits, call_fits, fits_step, given_types}
use Rattle.eager_rules.specs.Sound.{has_type, keep_array, named_types, one_type, reduction_fits, takes_values}
use Rattle.eager_rules.specs.Types.{Ty, add_type, fresh_fits, is_index, is_number, is_number_part, is_truth, map_type}
use Rattle.eager_rules.specs.Types.{pick_type, put_fits, reduce_type, removed, same_types, store_fits, sub_fits}
use Rattle.eager_rules.specs.Types.{type_of, types_of, word_type}
use Rattle.eager_rules.specs.declared.program.Core.TheOpen as c
use Rattle.eager_rules.specs.declared.program.CoreSub.{CoreSub}
use Rattle.eager_rules.specs.declared.program.CoreSub.TheVariants as sub
use Rattle.eager_rules.specs.declared.program.Oper.{Oper}
use Rattle.eager_rules.specs.declared.program.Oper.TheVariants as oper
use Rattle.eager_rules.specs.declared.program.WordOp.{WordOp}
use Rattle.inline.specs.Places.{placed, renamed, renamed_pair, renamed_pairs, renamed_sub}
use Rattle.inline.specs.declared.places.Place.{Place}
use Rattle.inline.proofs.Frames.{and_both}
use Rattle.inline.proofs.TypeTests.{add_given, and_left, and_right, not_true}

given_kept : {A : Type 0} (o q : Option A) (f g : A → Bool) → given_types o f ≡ true →
    ((x : A) → o ≡ Some x → q ≡ Some x) → ((x : A) → f x ≡ true → g x ≡ true) → given_types q g ≡ true
given_kept None q f g h k l = not_true h
given_kept (Some x) q f g h k l = ap (λ (r : Option _). given_types r g) (k x refl) ∙ l x h

pub and_kept : (a b d e : Bool) → a && b ≡ true → (a ≡ true → d ≡ true) → (b ≡ true → e ≡ true) → d && e ≡ true
and_kept a b d e h f g = and_both d e (f (and_left a b h)) (g (and_right a b h))

tested_kept : (o q : Option Ty) (test : Option Ty → Bool) → (test None ≡ false) → test o ≡ true →
    ((t : Ty) → o ≡ Some t → q ≡ Some t) → test q ≡ true
tested_kept None q test none h k = not_true (sym none ∙ h)
tested_kept (Some t) q test none h k = ap test (k t refl) ∙ h

keep_kept : (o q : Option Ty) → ((t : Ty) → o ≡ Some t → q ≡ Some t) → (t : Ty) → keep_array o ≡ Some t →
    keep_array q ≡ Some t
keep_kept None q k t h = absurd (let e = h in cc)
keep_kept (Some u) q k t h = ap keep_array (k u refl) ∙ h

-- an instance's names have their types at their places in a table
module _ (names table : List Ty) (p : Place)
    (stands : (n : ℕ) (t : Ty) → slice_get names n ≡ Some t → slice_get table (placed p n) ≡ Some t) where
  type_kept : (x : Oper) (t : Ty) → type_of names x ≡ Some t → type_of table (renamed p x) ≡ Some t
  type_kept (oper.Int z) t h = h
  type_kept (oper.Truth b) t h = h
  type_kept (oper.Name n) t h = stands n t h

  pub types_kept : (xs : List Oper) (types : List Ty) → types_of names xs ≡ Some types →
      types_of table (map (renamed p) xs) ≡ Some types
  types_kept [] types h = h
  types_kept (x ∷ xs) types h =
      let found = add_given (type_of names x) (types_of names xs) types h in
      ap₂ (λ (o : Option Ty) (os : Option (List Ty)). add_type o os) (type_kept x found.0 found.2)
      (types_kept xs found.1 found.3) ∙ ap (λ (ts : List Ty). Some ts) found.4

  named_kept : (to : List ℕ) (types : List Ty) → named_types names to ≡ Some types →
      named_types table (map (placed p) to) ≡ Some types
  named_kept [] types h = h
  named_kept (n ∷ to) types h =
      let found = add_given (slice_get names n) (named_types names to) types h in
      ap₂ (λ (o : Option Ty) (os : Option (List Ty)). add_type o os) (stands n found.0 found.2)
      (named_kept to found.1 found.3) ∙ ap (λ (ts : List Ty). Some ts) found.4

  pub has_kept : (n : ℕ) (o : Option Ty) → has_type names n o ≡ true → has_type table (placed p n) o ≡ true
  has_kept n None h = not_true h
  has_kept n (Some t) h =
      tested_kept (slice_get names n) (slice_get table (placed p n)) (λ u. one_type u t) refl h (stands n)

  array_kept : (of : ℕ) (t : Ty) → array_named names of ≡ Some t → array_named table (placed p of) ≡ Some t
  array_kept of = keep_kept (slice_get names of) (slice_get table (placed p of)) (stands of)

  number_kept : (x : Oper) → is_number (type_of names x) ≡ true → is_number (type_of table (renamed p x)) ≡ true
  number_kept x h = tested_kept (type_of names x) (type_of table (renamed p x)) is_number refl h (type_kept x)

  pub truth_kept : (x : Oper) → is_truth (type_of names x) ≡ true → is_truth (type_of table (renamed p x)) ≡ true
  truth_kept x h = tested_kept (type_of names x) (type_of table (renamed p x)) is_truth refl h (type_kept x)

  pub numbers_kept : (xs : List Oper) → all_numbers names xs ≡ true → all_numbers table (map (renamed p) xs) ≡ true
  numbers_kept [] h = refl
  numbers_kept (x ∷ xs) h =
      and_kept (is_number (type_of names x)) (all_numbers names xs) (is_number (type_of table (renamed p x)))
      (all_numbers table (map (renamed p) xs)) h (number_kept x) (numbers_kept xs)

  part_kept : (o : Option Oper) → is_number_part names o ≡ true →
      is_number_part table (option_map (renamed p) o) ≡ true
  part_kept None h = refl
  part_kept (Some x) h = number_kept x h

  sub_kept : (s : CoreSub) → sub_fits names s ≡ true → sub_fits table (renamed_sub p s) ≡ true
  sub_kept (sub.At x) h = number_kept x h
  sub_kept (sub.Cut a b e) h =
      and_kept (is_number_part names a && is_number_part names b) (is_number_part names e)
      (is_number_part table (option_map (renamed p) a) && is_number_part table (option_map (renamed p) b))
      (is_number_part table (option_map (renamed p) e)) h
      (λ k. and_kept (is_number_part names a) (is_number_part names b)
      (is_number_part table (option_map (renamed p) a)) (is_number_part table (option_map (renamed p) b)) k
      (part_kept a) (part_kept b))
      (part_kept e)

  subs_kept : (subs : List CoreSub) → list_all (sub_fits names) subs ≡ true →
      list_all (sub_fits table) (map (renamed_sub p) subs) ≡ true
  subs_kept [] h = refl
  subs_kept (s ∷ subs) h =
      and_kept (sub_fits names s) (list_all (sub_fits names) subs) (sub_fits table (renamed_sub p s))
      (list_all (sub_fits table) (map (renamed_sub p) subs)) h (sub_kept s) (subs_kept subs)

  same_index : (s : CoreSub) → is_index (renamed_sub p s) ≡ is_index s
  same_index (sub.At x) = refl
  same_index (sub.Cut a b e) = refl

  counting : (s : CoreSub) (subs : List CoreSub) → removed (s ∷ subs) ≡ cond (is_index s) 1 0 + removed subs
  counting s subs = sum_by-cons (λ u. cond (is_index u) 1 0) s subs

  same_removed : (subs : List CoreSub) → removed (map (renamed_sub p) subs) ≡ removed subs
  same_removed [] = refl
  same_removed (s ∷ subs) =
      counting (renamed_sub p s) (map (renamed_sub p) subs)
      ∙ (ap₂ (λ (b : Bool) (n : ℕ). cond b 1 0 + n) (same_index s) (same_removed subs)
      ∙ sym (counting s subs))

  same_pick : (t : Ty) (subs : List CoreSub) → pick_type t (map (renamed_sub p) subs) ≡ pick_type t subs
  same_pick (kind, rank) subs =
      ap₂ (λ (m n : ℕ). if nat_le m rank
      then (if nat_lt n rank then Some (let t : Ty = (kind, rank - n) in t) else None)
      else None) (length-map subs (renamed_sub p)) (same_removed subs)

  pair_kept : (pairs : List (Join × ℕ)) →
      list_all (λ (q : Join × ℕ). has_type names q.1 (Some (Int64, 0))) pairs ≡ true →
      list_all (λ (q : Join × ℕ). has_type table q.1 (Some (Int64, 0))) (map (renamed_pair p) pairs) ≡ true
  pair_kept [] h = refl
  pair_kept ((join, n) ∷ pairs) h =
      and_kept (has_type names n (Some (Int64, 0)))
      (list_all (λ (q : Join × ℕ). has_type names q.1 (Some (Int64, 0))) pairs)
      (has_type table (placed p n) (Some (Int64, 0)))
      (list_all (λ (q : Join × ℕ). has_type table q.1 (Some (Int64, 0))) (map (renamed_pair p) pairs)) h
      (has_kept n (Some (Int64, 0))) (pair_kept pairs)

  pub reduction_kept : (omp : Option (List (Join × ℕ))) → reduction_fits names omp ≡ true →
      reduction_fits table (renamed_pairs p omp) ≡ true
  reduction_kept None h = refl
  reduction_kept (Some pairs) h = pair_kept pairs h

  takes_kept : (to : List ℕ) (rets : List Ty) → takes_values names to rets ≡ true →
      takes_values table (map (placed p) to) rets ≡ true
  takes_kept [] rets h = refl
  takes_kept (n ∷ to) rets h =
      given_kept (named_types names (n ∷ to)) (named_types table (map (placed p) (n ∷ to)))
      (λ types. same_types types rets) (λ types. same_types types rets) h (named_kept (n ∷ to)) (λ types e. e)

  pub call_kept : (o : Option Head) (to : List ℕ) (args : List Oper) → call_fits names o to args ≡ true →
      call_fits table o (map (placed p) to) (map (renamed p) args) ≡ true
  call_kept None to args h = not_true h
  call_kept (Some head) to args h =
      and_kept (given_types (types_of names args) (λ types. same_types types head.0)) (takes_values names to head.1)
      (given_types (types_of table (map (renamed p) args)) (λ types. same_types types head.0))
      (takes_values table (map (placed p) to) head.1) h
      (λ e. given_kept (types_of names args) (types_of table (map (renamed p) args))
      (λ types. same_types types head.0) (λ types. same_types types head.0) e (types_kept args) (λ types d. d))
      (takes_kept to head.1)

  -- ---- statements without blocks
  module _ (heads others : List Head) (rets backs : List Ty) where
    abbrev pub Fits : c.Core-F Bool → Type 0
    Fits y = fits_step heads rets names y ≡ true

    abbrev pub FitsThere : c.Core-F Bool → Type 0
    FitsThere y = fits_step others backs table y ≡ true

    pub word_kept : (to : ℕ) (op : WordOp) (args : List Oper) (at : Loc) → Fits (c.Word to op args at) →
        FitsThere (c.Word (placed p to) op (map (renamed p) args) at)
    word_kept to op args at h =
        given_kept (types_of names args) (types_of table (map (renamed p) args))
        (λ types. has_type names to (word_type op types)) (λ types. has_type table (placed p to) (word_type op types)) h
        (types_kept args) (λ types. has_kept to (word_type op types))

    pub extent_kept : (to of : ℕ) (axis : Option ℕ) → Fits (c.Extent to of axis) →
        FitsThere (c.Extent (placed p to) (placed p of) axis)
    extent_kept to of axis h =
        and_kept (given_types (array_named names of) (λ t. axis_fits axis t.1)) (has_type names to (Some (Int64, 0)))
        (given_types (array_named table (placed p of)) (λ t. axis_fits axis t.1))
        (has_type table (placed p to) (Some (Int64, 0))) h
        (λ e. given_kept (array_named names of) (array_named table (placed p of)) (λ t. axis_fits axis t.1)
        (λ t. axis_fits axis t.1) e (array_kept of) (λ t d. d))
        (has_kept to (Some (Int64, 0)))

    long_kept : (xs : List Oper) (n : ℕ) → (length xs == n) ≡ true → (length (map (renamed p) xs) == n) ≡ true
    long_kept xs n h = ap (λ (m : ℕ). m == n) (length-map xs (renamed p)) ∙ h

    pub get_kept : (to of : ℕ) (index : List Oper) (at : Loc) → Fits (c.Get to of index at) →
        FitsThere (c.Get (placed p to) (placed p of) (map (renamed p) index) at)
    get_kept to of index at h =
        let there : List Oper = map (renamed p) index in
        let f : Ty → Bool = λ t. (length index == t.1) && has_type names to (Some (t.0, 0)) in
        let g : Ty → Bool = λ t. (length there == t.1) && has_type table (placed p to) (Some (t.0, 0)) in
        and_kept (given_types (array_named names of) f) (all_numbers names index)
        (given_types (array_named table (placed p of)) g) (all_numbers table there) h
        (λ e. given_kept (array_named names of) (array_named table (placed p of)) f g e (array_kept of)
        (λ t d. and_kept (length index == t.1) (has_type names to (Some (t.0, 0))) (length there == t.1)
        (has_type table (placed p to) (Some (t.0, 0))) d (long_kept index t.1) (has_kept to (Some (t.0, 0)))))
        (numbers_kept index)

    pub put_kept : (of : ℕ) (index : List Oper) (value : Oper) (at : Loc) → Fits (c.Put of index value at) →
        FitsThere (c.Put (placed p of) (map (renamed p) index) (renamed p value) at)
    put_kept of index value at h =
        let there : List Oper = map (renamed p) index in
        let f : Ty → Bool = λ t. (length index == t.1) && given_types (type_of names value) (λ v. put_fits t v) in
        let g : Ty → Bool = λ t. (length there == t.1) &&
        given_types (type_of table (renamed p value)) (λ v. put_fits t v) in
        and_kept (given_types (array_named names of) f) (all_numbers names index)
        (given_types (array_named table (placed p of)) g) (all_numbers table there) h
        (λ e. given_kept (array_named names of) (array_named table (placed p of)) f g e (array_kept of)
        (λ t d. and_kept (length index == t.1) (given_types (type_of names value) (λ v. put_fits t v))
        (length there == t.1) (given_types (type_of table (renamed p value)) (λ v. put_fits t v)) d
        (long_kept index t.1)
        (λ b. given_kept (type_of names value) (type_of table (renamed p value)) (λ v. put_fits t v)
        (λ v. put_fits t v) b (type_kept value) (λ v a. a))))
        (numbers_kept index)

    pub pick_kept : (to of : ℕ) (subs : List CoreSub) (at : Loc) → Fits (c.Pick to of subs at) →
        FitsThere (c.Pick (placed p to) (placed p of) (map (renamed_sub p) subs) at)
    pick_kept to of subs at h =
        let there : List CoreSub = map (renamed_sub p) subs in
        and_kept (given_types (array_named names of) (λ t. has_type names to (pick_type t subs)))
        (list_all (sub_fits names) subs)
        (given_types (array_named table (placed p of)) (λ t. has_type table (placed p to) (pick_type t there)))
        (list_all (sub_fits table) there) h
        (λ e. given_kept (array_named names of) (array_named table (placed p of))
        (λ t. has_type names to (pick_type t subs)) (λ t. has_type table (placed p to) (pick_type t there)) e
        (array_kept of)
        (λ t d. ap (has_type table (placed p to)) (same_pick t subs) ∙ has_kept to (pick_type t subs) d))
        (subs_kept subs)

    pub alias_kept : (to of : ℕ) → given_types (array_named names of) (λ t. has_type names to (Some t)) ≡ true →
        given_types (array_named table (placed p of)) (λ t. has_type table (placed p to) (Some t)) ≡ true
    alias_kept to of h =
        given_kept (array_named names of) (array_named table (placed p of)) (λ t. has_type names to (Some t))
        (λ t. has_type table (placed p to) (Some t)) h (array_kept of) (λ t. has_kept to (Some t))

    pub fresh_kept : (to : ℕ) (dims : List Oper) (fill : Fill) (at : Loc) → Fits (c.Fresh to dims fill at) →
        FitsThere (c.Fresh (placed p to) (map (renamed p) dims) fill at)
    fresh_kept to dims fill at h =
        let there : List Oper = map (renamed p) dims in
        and_kept (given_types (slice_get names to) (fresh_fits fill (length dims))) (all_numbers names dims)
        (given_types (slice_get table (placed p to)) (fresh_fits fill (length there))) (all_numbers table there) h
        (λ e. given_kept (slice_get names to) (slice_get table (placed p to)) (fresh_fits fill (length dims))
        (fresh_fits fill (length there)) e (stands to)
        (λ t d. ap (λ (n : ℕ). fresh_fits fill n t) (length-map dims (renamed p)) ∙ d))
        (numbers_kept dims)

    pub map_kept : (to : ℕ) (op : MapOp) (args : List Oper) (at : Loc) → Fits (c.Map to op args at) →
        FitsThere (c.Map (placed p to) op (map (renamed p) args) at)
    map_kept to op args at h =
        given_kept (types_of names args) (types_of table (map (renamed p) args))
        (λ types. has_type names to (map_type op types)) (λ types. has_type table (placed p to) (map_type op types)) h
        (types_kept args) (λ types. has_kept to (map_type op types))

    pub reduce_kept : (to : ℕ) (op : RedOp) (of : ℕ) (at : Loc) → Fits (c.Reduce to op of at) →
        FitsThere (c.Reduce (placed p to) op (placed p of) at)
    reduce_kept to op of at h =
        given_kept (array_named names of) (array_named table (placed p of))
        (λ t. has_type names to (reduce_type op t)) (λ t. has_type table (placed p to) (reduce_type op t)) h
        (array_kept of) (λ t. has_kept to (reduce_type op t))

    pub store_kept : (of : ℕ) (value : Oper) (at : Loc) → Fits (c.Store of value at) →
        FitsThere (c.Store (placed p of) (renamed p value) at)
    store_kept of value at h =
        given_kept (slice_get names of) (slice_get table (placed p of))
        (λ t. given_types (type_of names value) (λ v. store_fits t v))
        (λ t. given_types (type_of table (renamed p value)) (λ v. store_fits t v)) h (stands of)
        (λ t e. given_kept (type_of names value) (type_of table (renamed p value)) (λ v. store_fits t v)
        (λ v. store_fits t v) e (type_kept value) (λ v a. a))
