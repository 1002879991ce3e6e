-- Statements, blocks, loops and calls of a well-typed program keep what names and buffers hold.
use Rattle.std.proofs.Common.{◌≡◌, ◌∙◌, ap, sym, subst, refl, ℕ, zero, suc, ℤ, Bool, true, false, ◌&&◌}
use Rattle.std.proofs.Common.{List, [], ◌∷◌, map, length, slice_index_or, slice_get, Option, Some, None}
use Rattle.std.proofs.Common.{pos, negsuc}
use Rattle.std.specs.Prelude.{nat_le, nat_lt, ◌==◌, if◌then◌else◌}
use Rattle.std.specs.List.{flat_map, list_all}
use Rattle.krn_base.specs.declared.kind.Kind.TheVariants.{Int64, Bool as Boolean}
use Rattle.krn_base.specs.declared.place.Loc.{Loc}
use Rattle.array_ops.specs.Elements.{Bound, Unbound, WordOf, ArrayOf}
use Rattle.eager_rules.proofs.Each.{each_get, each_set, each_more, extends_refl, extends_trans}
use Rattle.eager_rules.proofs.Each.{none_some, some_same}
use Rattle.eager_rules.proofs.KindLaws.{truth_of}
use Rattle.eager_rules.proofs.ListTests.{and_left, and_right}
use Rattle.eager_rules.proofs.Trees.{Good, by_layers, fused}
use Rattle.eager_rules.proofs.Typed.{Named, Reads, DoneOf, later_name}
use Rattle.eager_rules.proofs.Typed.{to_name}
use Rattle.eager_rules.proofs.TypedWorks.{WorkOf, not_true, moved, extents_given, got, written, viewed, turned, made}
use Rattle.eager_rules.proofs.TypedWorks.{computed, elementwise, joined, stored, same_one, same_all}
use Rattle.eager_rules.specs.Blocks.{Meaning, End, GoesOn, Returned, Faulted, Stuck, then_do, in_order, for_each}
use Rattle.eager_rules.specs.Blocks.{loop_over, choice}
use Rattle.eager_rules.specs.Eager.{Calls, bind_all, ready, where_ready, finish, step, statement, meaning, block}
use Rattle.eager_rules.specs.Eager.{set_variable}
use Rattle.eager_rules.specs.Sound.{Head, has_type, one_type, given_types, array_named, keep_array, all_numbers}
use Rattle.eager_rules.specs.Sound.{named_types, takes_values, call_fits, fits_step, fits, all_fit}
use Rattle.eager_rules.specs.Sound.{reduction_fits}
use Rattle.eager_rules.specs.State.{State, operand, is_bound, bind, with_buffers, truth_word}
use Rattle.eager_rules.specs.TypedStates.{Extends, Row, HoldAll, OfType, OfName, StateOf, Given, EndOf, MeaningOf}
use Rattle.eager_rules.specs.Types.{Ty, is_array, type_of, types_of, add_type, same_types}
use Rattle.eager_rules.specs.Types.{word_type, map_type, reduce_type, pick_type, put_fits, store_fits, may_store}
use Rattle.eager_rules.specs.Types.{is_truth}
use Rattle.eager_rules.specs.Types.{fresh_fits, is_scalar, sub_fits}
use Rattle.eager_rules.specs.Works.{Done, Made, Failed, Blocked, Work, word_of, range_values, sub_operands}
use Rattle.eager_rules.specs.declared.program.Core.{Core}
use Rattle.eager_rules.specs.declared.program.Core.TheOpen as c
use Rattle.eager_rules.specs.declared.program.Core.TheFolds.{map-Core, fold-roll-Core}
use Rattle.eager_rules.specs.declared.program.Core.TheViews.{roll-Core}
use Rattle.eager_rules.specs.declared.program.Oper.{Oper}
use Rattle.eager_rules.specs.declared.program.Oper.TheVariants as oper

widened : (rows more : List Row) (names rets : List Ty) (q : State × End) → Extends rows more →
    EndOf more names rets q → EndOf rows names rets q
widened rows more names rets (s, GoesOn) e (last, f, h) = (last, extends_trans rows more last e f, h)
widened rows more names rets (s, Returned values) e (last, f, h, g) = (last, extends_trans rows more last e f, h, g)
widened rows more names rets (s, Faulted fault at) e (last, f, h) = (last, extends_trans rows more last e f, h)
widened rows more names rets (s, Stuck) e (last, f, h) = (last, extends_trans rows more last e f, h)

-- Values of operands.
from_name : (rows : List Row) (t : Ty) (v : Bound) → OfName rows t v → is_bound v ≡ true → OfType rows t v
from_name rows t Unbound h b = not_true b
from_name rows t (WordOf z) h b = h
from_name rows t (ArrayOf a) h b = h

truth_fits : (b : Bool) (rows : List Row) → OfType rows (Boolean, 0) (WordOf (truth_word b))
truth_fits true rows = (refl, truth_of Boolean true)
truth_fits false rows = (refl, truth_of Boolean false)

read_one : (rows : List Row) (names : List Ty) (s : State) (x : Oper) (t : Ty) → StateOf rows names s →
    type_of names x ≡ Some t → is_bound (operand s x) ≡ true → OfType rows t (operand s x)
read_one rows names s (oper.Int z) t h e b =
    subst (λ (u : Ty). OfType rows u (WordOf z)) (some_same (Int64, 0) t e) (refl, tt)
read_one rows names s (oper.Truth b) t h e bound =
    subst (λ (u : Ty). OfType rows u (WordOf (truth_word b))) (some_same (Boolean, 0) t e) (truth_fits b rows)
read_one rows names s (oper.Name name) t h e b =
    from_name rows t (slice_index_or s.names name Unbound)
    (each_get (OfName rows) names s.names name t Unbound h.names e) b

read_all : (rows : List Row) (names : List Ty) (s : State) (xs : List Oper) (types : List Ty) → StateOf rows names s →
    Reads names xs types → list_all (λ x. is_bound (operand s x)) xs ≡ true →
    Given rows types (map (operand s) xs)
read_all rows names s [] types h r b = tt
read_all rows names s (x ∷ xs) [] h r b = tt
read_all rows names s (x ∷ xs) (t ∷ types) h r b =
    let first : is_bound (operand s x) ≡ true =
    and_left (is_bound (operand s x)) (list_all (λ y. is_bound (operand s y)) xs) b in
    let rest : list_all (λ y. is_bound (operand s y)) xs ≡ true =
    and_right (is_bound (operand s x)) (list_all (λ y. is_bound (operand s y)) xs) b in
    (read_one rows names s x t h r.0 first, read_all rows names s xs types h r.1 rest)

-- Values that are bound to names.
pub bound_typed : (rows : List Row) (names : List Ty) (name : ℕ) (t : Ty) (v : Bound) (s : State) →
    StateOf rows names s →
    slice_get names name ≡ Some t → OfType rows t v → StateOf rows names (bind name v s)
bound_typed rows names name t v s h e o = record {
  buffers = h.buffers;
  names = each_set (OfName rows) names s.names name t v h.names e (to_name rows t v o);
}

pub all_bound : (rows : List Row) (names : List Ty) (to : List ℕ) (types : List Ty) (values : List Bound) (s : State) →
    StateOf rows names s → Named names to types → Given rows types values → StateOf rows names (bind_all to values s)
all_bound rows names to types [] s h n g = h
all_bound rows names [] types (v ∷ values) s h n g = h
all_bound rows names (name ∷ to) [] (v ∷ values) s h n g = absurd n
all_bound rows names (name ∷ to) (t ∷ types) (v ∷ values) s h n g =
    all_bound rows names to types values (bind name v s) (bound_typed rows names name t v s h n.0 g.0) n.1 g.1

-- the state with the buffers that work leaves
later_state : (rows more : List Row) (names : List Ty) (buffers : List (List ℤ)) (s : State) → Extends rows more →
    HoldAll more buffers → StateOf rows names s → StateOf more names (with_buffers buffers s)
later_state rows more names buffers s e held h = record {
  buffers = held;
  names = each_more (OfName rows) (OfName more) (later_name rows more e) names s.names h.names;
}

finish_typed : (rows : List Row) (names rets gives : List Ty) (to : List ℕ) (d : Done) (s : State) →
    StateOf rows names s → Named names to gives → DoneOf rows gives d → EndOf rows names rets (finish to d s)
finish_typed rows names rets gives to (Made buffers values) s h n (more, e, held, given) = (
  more,
  e,
  all_bound more names to gives values (with_buffers buffers s)
      (later_state rows more names buffers s e held h) n given,
)
finish_typed rows names rets gives to (Failed buffers fault at) s h n (more, e, held) = (more, e, held)
finish_typed rows names rets gives to (Blocked buffers) s h n (more, e, held) = (more, e, held)

stays : (rows : List Row) (names : List Ty) (s : State) → StateOf rows names s →
    (more : List Row) × Extends rows more × HoldAll more s.buffers
stays rows names s h = (rows, extends_refl rows, h.buffers)

when_ready : (test : Bool) (rows : List Row) (names rets : List Ty) (q : State × End) (s : State) →
    StateOf rows names s → (test ≡ true → EndOf rows names rets q) → EndOf rows names rets (where_ready test q s)
when_ready true rows names rets q s h k = k refl
when_ready false rows names rets q s h k = stays rows names s h

-- a statement without blocks
pub step_typed : (names rets takes gives : List Ty) (reads : List Oper) (to : List ℕ) (work : Work) →
    Reads names reads takes → Named names to gives → WorkOf takes gives work → MeaningOf names rets (step reads to work)
step_typed names rets takes gives reads to work r n w rows s h =
    when_ready (ready s reads to) rows names rets (finish to (work (map (operand s) reads) s.buffers) s) s h
    (λ b. finish_typed rows names rets gives to (work (map (operand s) reads) s.buffers) s h n
    (w rows (map (operand s) reads) s.buffers h.buffers
    (read_all rows names s reads takes h r
    (and_left (list_all (λ x. is_bound (operand s x)) reads)
    (list_all (λ name. nat_lt name (length s.names)) to) b))))

-- Blocks and loops.
then_typed : (rows : List Row) (names rets : List Ty) (q : State × End) (next : Meaning State) →
    EndOf rows names rets q → MeaningOf names rets next → EndOf rows names rets (then_do q next)
then_typed rows names rets (s, GoesOn) next (more, e, h) k = widened rows more names rets (next s) e (k more s h)
then_typed rows names rets (s, Returned values) next h k = h
then_typed rows names rets (s, Faulted fault at) next h k = h
then_typed rows names rets (s, Stuck) next h k = h

for_each_typed : (names rets : List Ty) (var : ℕ) (body : Meaning State) → slice_get names var ≡ Some (Int64, 0) →
    MeaningOf names rets body → (xs : List ℤ) → MeaningOf names rets (for_each (set_variable var) body xs)
for_each_typed names rets var body e m [] rows s h = (rows, extends_refl rows, h)
for_each_typed names rets var body e m (z ∷ xs) rows s h =
    then_typed rows names rets (body (set_variable var z s)) (for_each (set_variable var) body xs)
    (m rows (set_variable var z s) (bound_typed rows names var (Int64, 0) (WordOf z) s h e (refl, tt)))
    (for_each_typed names rets var body e m xs)

loop_typed : (names rets : List Ty) (var : ℕ) (body : Meaning State) (at : Loc) →
    slice_get names var ≡ Some (Int64, 0) →
    MeaningOf names rets body → (turns : Option (List ℤ)) →
    MeaningOf names rets (loop_over (set_variable var) body at turns)
loop_typed names rets var body at e m None rows s h = stays rows names s h
loop_typed names rets var body at e m (Some xs) rows s h = for_each_typed names rets var body e m xs rows s h

choice_typed : (names rets : List Ty) (z : ℤ) (part other : Meaning State) → MeaningOf names rets part →
    MeaningOf names rets other → MeaningOf names rets (choice z part other)
choice_typed names rets (pos zero) part other m n = n
choice_typed names rets (pos (suc k)) part other m n = m
choice_typed names rets (negsuc k) part other m n = m

-- What the tests of types say.
pub some_given : {A : Type 0} (o : Option A) (test : A → Bool) → given_types o test ≡ true →
    (x : A) × (o ≡ Some x) × (test x ≡ true)
some_given None test h = not_true h
some_given (Some x) test h = (x, refl, h)

one_given : (o : Option Ty) (t : Ty) → one_type o t ≡ true → o ≡ Some t
one_given None t h = not_true h
one_given (Some u) t h = ap (λ (x : Ty). Some x) (same_one u t h)

typed_name : (names : List Ty) (name : ℕ) (o : Option Ty) → has_type names name o ≡ true →
    (t : Ty) × (o ≡ Some t) × (slice_get names name ≡ Some t)
typed_name names name None h = not_true h
typed_name names name (Some t) h = (t, refl, one_given (slice_get names name) t h)

kept_by : (test : Bool) (t u : Ty) → (if test then Some t else None) ≡ Some u → (t ≡ u) × (test ≡ true)
kept_by true t u h = (some_same t u h, refl)
kept_by false t u h = none_some u h

array_given : (o : Option Ty) (t : Ty) → keep_array o ≡ Some t → (o ≡ Some t) × (is_array t ≡ true)
array_given None t h = none_some t h
array_given (Some u) t h =
    let found = kept_by (is_array u) u t h in
    (ap (λ (x : Ty). Some x) found.0, subst (λ (x : Ty). is_array x ≡ true) found.0 found.1)

pub add_given : (o : Option Ty) (os : Option (List Ty)) (types : List Ty) → add_type o os ≡ Some types →
    (t : Ty) × (rest : List Ty) × (o ≡ Some t) × (os ≡ Some rest) × (t ∷ rest ≡ types)
add_given None os types h = none_some types h
add_given (Some t) None types h = none_some types h
add_given (Some t) (Some rest) types h = (t, rest, refl, refl, some_same (t ∷ rest) types h)

reads_given : (names : List Ty) (xs : List Oper) (types : List Ty) → types_of names xs ≡ Some types →
    Reads names xs types
reads_given names [] [] h = tt
reads_given names [] (t ∷ types) h = tt
reads_given names (x ∷ xs) types h =
    let found = add_given (type_of names x) (types_of names xs) types h in
    subst (λ (ts : List Ty). Reads names (x ∷ xs) ts) found.4
    (found.2, reads_given names xs found.1 found.3)

pub names_given : (names : List Ty) (to : List ℕ) (types : List Ty) → named_types names to ≡ Some types →
    Named names to types
names_given names [] types h = tt
names_given names (name ∷ to) types h =
    let found = add_given (slice_get names name) (named_types names to) types h in
    subst (λ (ts : List Ty). Named names (name ∷ to) ts) found.4
    (found.2, names_given names to found.1 found.3)

-- The statements, where those of their blocks keep what they hold.
abbrev pub CallsOf : List Head → Calls → Type 0
CallsOf heads calls =
    (i : ℕ) (head : Head) → slice_get heads i ≡ Some head → WorkOf head.0 head.1 (calls i)

one_name : (names : List Ty) (name : ℕ) (t : Ty) → slice_get names name ≡ Some t → Named names (name ∷ []) (t ∷ [])
one_name names name t e = (e, tt)

pick_kind : (t u : Ty) (test inner : Bool) (rank : ℕ) →
    (if test then (if inner then Some (t.0, rank) else None) else None) ≡ Some u → t.0 ≡ u.0
pick_kind t u true true rank h = ap (λ (x : Ty). x.0) (some_same (t.0, rank) u h)
pick_kind t u true false rank h = none_some u h
pick_kind t u false inner rank h = none_some u h

module _ (heads : List Head) (rets names : List Ty) (calls : Calls) (called_typed : CallsOf heads calls) where
  abbrev Fine : Core → Type 0
  Fine x = fits heads rets names x ≡ true → MeaningOf names rets (meaning calls x)

  abbrev each_fits : List (Good Fine) → Bool
  each_fits gs = list_all (λ fit. fit) (map (λ (g : Good Fine). fits heads rets names g.0) gs)

  abbrev each_meaning : List (Good Fine) → List (Meaning State)
  each_meaning gs = map (λ (g : Good Fine). meaning calls g.0) gs

  in_order_typed : (gs : List (Good Fine)) → each_fits gs ≡ true → MeaningOf names rets (in_order (each_meaning gs))
  in_order_typed [] f rows s h = (rows, extends_refl rows, h)
  in_order_typed (g ∷ gs) f rows s h =
      then_typed rows names rets (meaning calls g.0 s) (in_order (each_meaning gs))
      (g.1 (and_left (fits heads rets names g.0) (each_fits gs) f) rows s h)
      (in_order_typed gs (and_right (fits heads rets names g.0) (each_fits gs) f))

  call_typed : (o : Option Head) (to : List ℕ) (instance : ℕ) (args : List Oper) → slice_get heads instance ≡ o →
      call_fits names o to args ≡ true → MeaningOf names rets (step args to (calls instance))
  call_typed None to instance args e f = not_true f
  call_typed (Some head) to instance args e f =
      let taken = some_given (types_of names args) (λ types. same_types types head.0)
      (and_left (given_types (types_of names args) (λ types. same_types types head.0)) (takes_values names to head.1) f)
      in
      step_typed names rets head.0 head.1 args to (calls instance)
      (subst (λ (ts : List Ty). Reads names args ts) (same_all taken.0 head.0 taken.2)
      (reads_given names args taken.0 taken.1))
      (by_names to (and_right (given_types (types_of names args) (λ types. same_types types head.0))
      (takes_values names to head.1) f))
      (called_typed instance head e)
    where
      by_names : (to : List ℕ) → takes_values names to head.1 ≡ true → Named names to head.1
      by_names [] f = tt
      by_names (name ∷ to) f =
          let found = some_given (named_types names (name ∷ to)) (λ types. same_types types head.1) f in
          subst (λ (ts : List Ty). Named names (name ∷ to) ts) (same_all found.0 head.1 found.2)
          (names_given names (name ∷ to) found.0 found.1)

  array_named_given : (of : ℕ) (test : Ty → Bool) → given_types (array_named names of) test ≡ true →
      (t : Ty) × (slice_get names of ≡ Some t) × (is_array t ≡ true) × (test t ≡ true)
  array_named_given of test f =
      let found = some_given (array_named names of) test f in
      let array = array_given (slice_get names of) found.0 found.1 in
      (found.0, array.0, array.1, found.2)

  by_case : (y : c.Core-F (Good Fine)) →
      fits_step heads rets names (map-Core (Good Fine) Bool (λ g. fits heads rets names g.0) y) ≡ true →
      MeaningOf names rets (statement calls (map-Core (Good Fine) (Meaning State) (λ g. meaning calls g.0) y))
  by_case (c.Word to op args at) f =
      let taken = some_given (types_of names args) (λ types. has_type names to (word_type op types)) f in
      let made_of = typed_name names to (word_type op taken.0) taken.2 in
      step_typed names rets taken.0 (made_of.0 ∷ []) args (to ∷ []) _ (reads_given names args taken.0 taken.1)
      (one_name names to made_of.0 made_of.2) (computed op taken.0 made_of.0 at made_of.1)
  by_case (c.Extent to of axis) f =
      let a = array_named_given of _ (and_left (given_types (array_named names of) _)
      (has_type names to (Some (Int64, 0))) f) in
      step_typed names rets (a.0 ∷ []) ((Int64, 0) ∷ []) (oper.Name of ∷ []) (to ∷ []) _ (a.1, tt)
      (one_name names to (Int64, 0) (one_given (slice_get names to) (Int64, 0)
      (and_right (given_types (array_named names of) _) (has_type names to (Some (Int64, 0))) f)))
      (extents_given a.0 axis)
  by_case (c.Get to of index at) f =
      let a = array_named_given of _ (and_left (given_types (array_named names of) _) (all_numbers names index) f) in
      step_typed names rets (a.0 ∷ []) ((a.0.0, 0) ∷ []) (oper.Name of ∷ index) (to ∷ []) _ (a.1, tt)
      (one_name names to (a.0.0, 0) (one_given (slice_get names to) (a.0.0, 0)
      (and_right (length index == a.0.1) (has_type names to (Some (a.0.0, 0))) a.3)))
      (got a.0 at a.2)
  by_case (c.Put of index value at) f =
      let a = array_named_given of _ (and_left (given_types (array_named names of) _) (all_numbers names index) f) in
      let v = some_given (type_of names value) (λ v. put_fits a.0 v)
      (and_right (length index == a.0.1) (given_types (type_of names value) (λ v. put_fits a.0 v)) a.3) in
      step_typed names rets (a.0 ∷ v.0 ∷ []) [] (oper.Name of ∷ value ∷ index) [] _ (a.1, (v.1, tt)) tt
      (written a.0 v.0 at a.2 (and_right (is_array a.0 && is_scalar v.0) (may_store a.0.0 v.0.0) v.2))
  by_case (c.Pick to of subs at) f =
      let a = array_named_given of _ (and_left (given_types (array_named names of) _) (list_all (sub_fits names) subs)
      f)
      in
      let u = typed_name names to (pick_type a.0 subs) a.3 in
      step_typed names rets (a.0 ∷ []) (u.0 ∷ []) (oper.Name of ∷ flat_map sub_operands subs) (to ∷ []) _
      (a.1, tt) (one_name names to u.0 u.2)
      (viewed a.0 u.0 subs at a.2 (pick_kind a.0 u.0 _ _ _ u.1))
  by_case (c.Flip to of) f =
      let a = array_named_given of _ f in
      step_typed names rets (a.0 ∷ []) (a.0 ∷ []) (oper.Name of ∷ []) (to ∷ []) _ (a.1, tt)
      (one_name names to a.0 (one_given (slice_get names to) a.0 a.3)) (turned a.0 a.2)
  by_case (c.Alias to of) f =
      let a = array_named_given of _ f in
      step_typed names rets (a.0 ∷ []) (a.0 ∷ []) (oper.Name of ∷ []) (to ∷ []) _ (a.1, tt)
      (one_name names to a.0 (one_given (slice_get names to) a.0 a.3)) (moved a.0)
  by_case (c.Fresh to dims fill at) f =
      let t = some_given (slice_get names to) (fresh_fits fill (length dims))
      (and_left (given_types (slice_get names to) (fresh_fits fill (length dims))) (all_numbers names dims) f) in
      step_typed names rets [] (t.0 ∷ []) dims (to ∷ []) _ tt (one_name names to t.0 t.1)
      (made fill (length dims) t.0 at t.2)
  by_case (c.Map to op args at) f =
      let taken = some_given (types_of names args) (λ types. has_type names to (map_type op types)) f in
      let made_of = typed_name names to (map_type op taken.0) taken.2 in
      step_typed names rets taken.0 (made_of.0 ∷ []) args (to ∷ []) _ (reads_given names args taken.0 taken.1)
      (one_name names to made_of.0 made_of.2) (elementwise op taken.0 made_of.0 at made_of.1)
  by_case (c.Reduce to op of at) f =
      let a = array_named_given of _ f in
      let u = typed_name names to (reduce_type op a.0) a.3 in
      step_typed names rets (a.0 ∷ []) (u.0 ∷ []) (oper.Name of ∷ []) (to ∷ []) _ (a.1, tt) (one_name names to u.0 u.2)
      (joined op a.0 u.0 at a.2 u.1)
  by_case (c.Store of value at) f =
      let t = some_given (slice_get names of) _ f in
      let v = some_given (type_of names value) (λ v. store_fits t.0 v) t.2 in
      let size = and_left (is_array t.0 && nat_le v.0.1 t.0.1) (may_store t.0.0 v.0.0) v.2 in
      step_typed names rets (t.0 ∷ v.0 ∷ []) [] (oper.Name of ∷ value ∷ []) [] _ (t.1, (v.1, tt)) tt
      (stored t.0 v.0 at (and_left (is_array t.0) (nat_le v.0.1 t.0.1) size)
      (and_right (is_array t.0 && nat_le v.0.1 t.0.1) (may_store t.0.0 v.0.0) v.2))
  by_case (c.Call to instance args) f = call_typed (slice_get heads instance) to instance args refl f
  by_case (c.If cond part other) f = λ rows s h.
      let parts : each_fits part && each_fits other ≡ true =
      and_right (is_truth (type_of names cond)) (each_fits part && each_fits other) f in
      when_ready (ready s (cond ∷ []) []) rows names rets _ s h
      (λ b. choice_typed names rets (word_of (operand s cond)) (in_order (each_meaning part))
      (in_order (each_meaning other))
      (in_order_typed part (and_left (each_fits part) (each_fits other) parts))
      (in_order_typed other (and_right (each_fits part) (each_fits other) parts)) rows s h)
  by_case (c.For var lo hi by at omp body) f = λ rows s h.
      let head = and_left ((all_numbers names (lo ∷ hi ∷ by ∷ []) && has_type names var (Some (Int64, 0)))
      && reduction_fits names omp) (each_fits body) f in
      let numbers = and_left (all_numbers names (lo ∷ hi ∷ by ∷ []) && has_type names var (Some (Int64, 0)))
      (reduction_fits names omp) head in
      let variable : slice_get names var ≡ Some (Int64, 0) = one_given (slice_get names var) (Int64, 0)
      (and_right (all_numbers names (lo ∷ hi ∷ by ∷ [])) (has_type names var (Some (Int64, 0))) numbers) in
      when_ready (ready s (lo ∷ hi ∷ by ∷ []) (var ∷ [])) rows names rets _ s h
      (λ b. loop_typed names rets var (in_order (each_meaning body)) at variable
      (in_order_typed body (and_right ((all_numbers names (lo ∷ hi ∷ by ∷ [])
      && has_type names var (Some (Int64, 0))) && reduction_fits names omp) (each_fits body) f))
      (range_values (word_of (operand s lo)) (word_of (operand s hi)) (word_of (operand s by))) rows s h)
  by_case (c.Return values) f = λ rows s h.
      let taken = some_given (types_of names values) (λ types. same_types types rets) f in
      when_ready (ready s values []) rows names rets (s, Returned (map (operand s) values)) s h
      (λ b. (
        rows,
        extends_refl rows,
        h.buffers,
        read_all rows names s values rets h
            (subst (λ (ts : List Ty). Reads names values ts) (same_all taken.0 rets taken.2)
            (reads_given names values taken.0 taken.1))
            (and_left (list_all (λ x. is_bound (operand s x)) values) true b),
      ))

  layer : (y : c.Core-F (Good Fine)) → Fine (roll-Core (map-Core (Good Fine) Core (λ g. g.0) y))
  layer y f =
      let x : c.Core-F Core = map-Core (Good Fine) Core (λ g. g.0) y in
      let same_fits : fits_step heads rets names (map-Core (Good Fine) Bool (λ g. fits heads rets names g.0) y) ≡
      fits heads rets names (roll-Core x) =
      ap (fits_step heads rets names) (fused Fine Bool (fits heads rets names) y) ∙
      sym (fold-roll-Core Bool (fits_step heads rets names) x) in
      let same_meaning : statement calls (map-Core (Good Fine) (Meaning State) (λ g. meaning calls g.0) y) ≡
      meaning calls (roll-Core x) =
      ap (statement calls) (fused Fine (Meaning State) (meaning calls) y) ∙
      sym (fold-roll-Core (Meaning State) (statement calls) x) in
      subst (MeaningOf names rets) same_meaning (by_case y (same_fits ∙ f))

  pub core_typed : (x : Core) → Fine x
  core_typed = by_layers Fine layer

  pub block_typed : (body : List Core) → all_fit heads rets names body ≡ true → MeaningOf names rets (block calls body)
  block_typed [] f rows s h = (rows, extends_refl rows, h)
  block_typed (x ∷ body) f rows s h =
      then_typed rows names rets (meaning calls x s) (block calls body)
      (core_typed x (and_left (fits heads rets names x) (all_fit heads rets names body) f) rows s h)
      (block_typed body (and_right (fits heads rets names x) (all_fit heads rets names body) f))
