-- Operands of a well-typed statement stand for the same on both sides. A scalar operand is a literal or a scalar name.
use Rattle.std.proofs.Common.{◌≡◌, ◌∙◌, ap, ap₂, sym, subst, refl, ℕ, zero, suc, ◌<◌, ℤ, Bool, true, false, ◌&&◌}
use Rattle.std.proofs.Common.{List, [], ◌∷◌, ◌++◌, map, length, Option, Some, None}
use Rattle.std.specs.Prelude.{slice_get, unwrap_or, option_map, ◌==◌, if◌then◌else◌}
use Rattle.std.specs.List.{AllByRecursion, list_all, flat_map}
use Rattle.std.proofs.lemmas.Bool.{eqb-true}
use Rattle.std.proofs.lemmas.List.{map-append}
use Rattle.krn_base.specs.declared.kind.Kind.{Kind}
use Rattle.krn_base.specs.declared.kind.Kind.TheVariants.{Int64, Bool as Boolean}
use Rattle.array_ops.specs.Elements.{Bound, extents_of}
use Rattle.eager_rules.specs.Sound.{one_type, has_type, given_types, keep_array, array_named, all_numbers}
use Rattle.eager_rules.specs.State.{State as Eager}
use Rattle.eager_rules.specs.State.{bound_of}
use Rattle.eager_rules.specs.State.{operand as eager_operand}
use Rattle.eager_rules.specs.Types.{Ty, is_array, same_kind, same_type, type_of, types_of, add_type, is_number}
use Rattle.eager_rules.specs.Types.{is_truth, word_type, with_rank, sub_fits, is_number_part, bin_kind, un_kind}
use Rattle.eager_rules.specs.Works.{sub_operands, given_part, subscripts_of, next_subscript, part_from, index_of}
use Rattle.eager_rules.specs.Works.{slice_of}
use Rattle.eager_rules.specs.declared.program.CoreSub.{CoreSub}
use Rattle.eager_rules.specs.declared.program.CoreSub.TheVariants as sub
use Rattle.eager_rules.specs.declared.program.Oper.{Oper}
use Rattle.eager_rules.specs.declared.program.Oper.TheVariants as oper
use Rattle.eager_rules.specs.declared.program.WordOp.{WordOp}
use Rattle.eager_rules.specs.declared.program.WordOp.TheVariants as word_op
use Rattle.lazy_expr.specs.Table.{back_in, back_of, number, oper_of, opers_of, register, sub_of}
use Rattle.lazy_expr.specs.Table.{table_of}
use Rattle.lazy_expr.proofs.Binds.{and_left, and_right, inside, is_array_by, not_both}
use Rattle.lazy_expr.proofs.Relation.{Agree, IsArrayOrNothing, IsTable}
use Rattle.loop_prog.specs.State.{State, back_value, look, operand, view}
use Rattle.loop_prog.specs.declared.program.Reg.{Reg}
use Rattle.loop_prog.specs.declared.program.Reg.TheVariants as reg

-- ---- what the tests of types say
pub none_some : {A B : Type 0} (a : A) → ◌≡◌ {A = Option A} None (Some a) → B
none_some a e = absurd (let h = e in cc)

pub some_same : {A : Type 0} (a b : A) → Some a ≡ Some b → a ≡ b
some_same a b e = ap (λ (o : Option _). unwrap_or o a) e

pub some_given : {A : Type 0} (o : Option A) (test : A → Bool) → given_types o test ≡ true →
    (x : A) × (o ≡ Some x) × (test x ≡ true)
some_given None test h = not_both (sym h)
some_given (Some x) test h = (x, refl, h)

same_one_kind : (a b : Kind) → same_kind a b ≡ true → a ≡ b
same_one_kind Int64 Int64 h = refl
same_one_kind Int64 Boolean h = not_both (sym h)
same_one_kind Boolean Int64 h = not_both (sym h)
same_one_kind Boolean Boolean h = refl

pub same_one : (t u : Ty) → same_type t u ≡ true → t ≡ u
same_one t u h = ap₂ (λ (a : Kind) (n : ℕ). (a, n))
    (same_one_kind t.0 u.0 (and_left (same_kind t.0 u.0) (t.1 == u.1) h))
    (eqb-true t.1 u.1 (and_right (same_kind t.0 u.0) (t.1 == u.1) h))

pub one_given : (o : Option Ty) (t : Ty) → one_type o t ≡ true → o ≡ Some t
one_given None t h = not_both (sym h)
one_given (Some u) t h = ap (λ (x : Ty). Some x) (same_one u t h)

pub typed_name : (names : List Ty) (name : ℕ) (o : Option Ty) → has_type names name o ≡ true →
    (t : Ty) × (o ≡ Some t) × (slice_get names name ≡ Some t)
typed_name names name None h = not_both (sym h)
typed_name names name (Some t) h = (t, refl, one_given (slice_get names name) t h)

array_kept : (test : Bool) (t u : Ty) → (if test then Some t else None) ≡ Some u → (t ≡ u) × (test ≡ true)
array_kept true t u h = (some_same t u h, refl)
array_kept false t u h = none_some u h

array_given : (o : Option Ty) (t : Ty) → keep_array o ≡ Some t → (o ≡ Some t) × (is_array t ≡ true)
array_given None t h = none_some t h
array_given (Some u) t h =
    let found = array_kept (is_array u) u t h in
    (ap (λ (x : Ty). Some x) found.0, subst (λ (x : Ty). is_array x ≡ true) found.0 found.1)

pub array_named_given : (names : List Ty) (of : ℕ) (test : Ty → Bool) →
    given_types (array_named names of) test ≡ true →
    (t : Ty) × (slice_get names of ≡ Some t) × (is_array t ≡ true) × (test t ≡ true)
array_named_given names of test f =
    let found = some_given (array_named names of) test f in
    let array = array_given (slice_get names of) found.0 found.1 in
    (found.0, array.0, array.1, found.2)

-- ---- scalar operands
pub record IsScalar (names : List Ty) (x : Oper) : Type 0 where
  pub type : Ty
  pub is_type : type_of names x ≡ Some type
  pub scalar : is_array type ≡ false

pub number_type : (o : Option Ty) → is_number o ≡ true → o ≡ Some (Int64, 0)
number_type None h = not_both (sym h)
number_type (Some (Int64, zero)) h = refl
number_type (Some (Int64, suc n)) h = not_both (sym h)
number_type (Some (Boolean, n)) h = not_both (sym h)

pub truth_type : (o : Option Ty) → is_truth o ≡ true → o ≡ Some (Boolean, 0)
truth_type None h = not_both (sym h)
truth_type (Some (Boolean, zero)) h = refl
truth_type (Some (Boolean, suc n)) h = not_both (sym h)
truth_type (Some (Int64, n)) h = not_both (sym h)

pub number_scalar : (names : List Ty) (x : Oper) → is_number (type_of names x) ≡ true → IsScalar names x
number_scalar names x h = record { type = (Int64, 0); is_type = number_type (type_of names x) h; scalar = refl }

pub truth_scalar : (names : List Ty) (x : Oper) → is_truth (type_of names x) ≡ true → IsScalar names x
truth_scalar names x h = record { type = (Boolean, 0); is_type = truth_type (type_of names x) h; scalar = refl }

abbrev pub AreScalar : List Ty → List Oper → Type 0
AreScalar names xs = AllByRecursion (IsScalar names) xs

pub numbers_scalar : (names : List Ty) (xs : List Oper) → all_numbers names xs ≡ true → AreScalar names xs
numbers_scalar names [] h = tt
numbers_scalar names (x ∷ xs) h = (
  number_scalar names x (and_left (is_number (type_of names x)) (all_numbers names xs) h),
  numbers_scalar names xs (and_right (is_number (type_of names x)) (all_numbers names xs) h),
)

-- the types of operands, one by one
pub add_given : (o : Option Ty) (os : Option (List Ty)) (types : List Ty) → add_type o os ≡ Some types →
    (t : Ty) × (rest : List Ty) × (o ≡ Some t) × (os ≡ Some rest) × (t ∷ rest ≡ types)
add_given None os types h = none_some types h
add_given (Some t) None types h = none_some types h
add_given (Some t) (Some rest) types h = (t, rest, refl, refl, some_same (t ∷ rest) types h)

abbrev pub OfTypes : List Ty → List Oper → List Ty → Type 0
OfTypes names [] [] = Unit {0}
OfTypes names [] (t ∷ types) = ⊥
OfTypes names (x ∷ xs) [] = ⊥
OfTypes names (x ∷ xs) (t ∷ types) = (type_of names x ≡ Some t) × OfTypes names xs types

pub of_types : (names : List Ty) (xs : List Oper) (types : List Ty) → types_of names xs ≡ Some types →
    OfTypes names xs types
of_types names [] types h = subst (λ (ts : List Ty). OfTypes names [] ts) (some_same [] types h) tt
of_types names (x ∷ xs) types h =
    let found = add_given (type_of names x) (types_of names xs) types h in
    subst (λ (ts : List Ty). OfTypes names (x ∷ xs) ts) found.4 (found.2, of_types names xs found.1 found.3)

abbrev pub NoArrays : List Ty → Type 0
NoArrays types = AllByRecursion (λ t. is_array t ≡ false) types

pub types_scalar : (names : List Ty) (xs : List Oper) (types : List Ty) → OfTypes names xs types → NoArrays types →
    AreScalar names xs
types_scalar names [] types h n = tt
types_scalar names (x ∷ xs) [] h n = absurd h
types_scalar names (x ∷ xs) (t ∷ types) h n =
    (record { type = t; is_type = h.0; scalar = n.0 }, types_scalar names xs types h.1 n.1)

ranked : (rank : ℕ) (o : Option Kind) (u : Ty) → with_rank rank o ≡ Some u → u.1 ≡ rank
ranked rank None u h = none_some u h
ranked rank (Some kind) u h = sym (ap (λ (t : Ty). t.1) (some_same (kind, rank) u h))

pub scalar_rank : (u : Ty) → u.1 ≡ 0 → is_array u ≡ false
scalar_rank u e = subst (λ (n : ℕ). is_array (u.0, n) ≡ false) (sym e) refl

-- a scalar operation takes scalars and gives one
pub word_scalars : (op : WordOp) (types : List Ty) (u : Ty) → word_type op types ≡ Some u →
    NoArrays types × (is_array u ≡ false)
word_scalars (word_op.Bin op) [] u h = none_some u h
word_scalars (word_op.Bin op) ((a, zero) ∷ []) u h = none_some u h
word_scalars (word_op.Bin op) ((a, suc n) ∷ []) u h = none_some u h
word_scalars (word_op.Bin op) ((a, zero) ∷ (b, zero) ∷ []) u h =
    ((refl, (refl, tt)), scalar_rank u (ranked 0 (bin_kind op a b) u h))
word_scalars (word_op.Bin op) ((a, zero) ∷ (b, suc n) ∷ types) u h = none_some u h
word_scalars (word_op.Bin op) ((a, suc n) ∷ t ∷ types) u h = none_some u h
word_scalars (word_op.Bin op) ((a, zero) ∷ (b, zero) ∷ t ∷ types) u h = none_some u h
word_scalars (word_op.Un op) [] u h = none_some u h
word_scalars (word_op.Un op) ((a, zero) ∷ []) u h = ((refl, tt), scalar_rank u (ranked 0 (un_kind op a) u h))
word_scalars (word_op.Un op) ((a, suc n) ∷ types) u h = none_some u h
word_scalars (word_op.Un op) ((a, zero) ∷ t ∷ types) u h = none_some u h
word_scalars word_op.Move [] u h = none_some u h
word_scalars word_op.Move ((a, zero) ∷ []) u h =
    ((refl, tt), scalar_rank u (sym (ap (λ (t : Ty). t.1) (some_same (a, 0) u h))))
word_scalars word_op.Move ((a, suc n) ∷ types) u h = none_some u h
word_scalars word_op.Move ((a, zero) ∷ t ∷ types) u h = none_some u h

-- ---- subscripts
parts_given : (table : List Reg) (x : Option Oper) →
    given_part (option_map (oper_of table) x) ≡ map (oper_of table) (given_part x)
parts_given table None = refl
parts_given table (Some x) = refl

sub_given : (table : List Reg) (s : CoreSub) → sub_operands (sub_of table s) ≡ map (oper_of table) (sub_operands s)
sub_given table (sub.At x) = refl
sub_given table (sub.Cut None None None) = refl
sub_given table (sub.Cut None None (Some z)) = refl
sub_given table (sub.Cut None (Some y) None) = refl
sub_given table (sub.Cut None (Some y) (Some z)) = refl
sub_given table (sub.Cut (Some x) None None) = refl
sub_given table (sub.Cut (Some x) None (Some z)) = refl
sub_given table (sub.Cut (Some x) (Some y) None) = refl
sub_given table (sub.Cut (Some x) (Some y) (Some z)) = refl

pub subs_given : (table : List Reg) (subs : List CoreSub) →
    flat_map sub_operands (map (sub_of table) subs) ≡ map (oper_of table) (flat_map sub_operands subs)
subs_given table [] = refl
subs_given table (s ∷ subs) =
    ap₂ (λ (xs ys : List Oper). xs ++ ys) (sub_given table s) (subs_given table subs) ∙
    sym (map-append (oper_of table) (sub_operands s) (flat_map sub_operands subs))

part_same : (table : List Reg) (x : Option Oper) (values : List Bound) →
    part_from (option_map (oper_of table) x) values ≡ part_from x values
part_same table None values = refl
part_same table (Some x) [] = refl
part_same table (Some x) (v ∷ values) = refl

next_same : (table : List Reg) (s : CoreSub) (values : List Bound) →
    next_subscript (sub_of table s) values ≡ next_subscript s values
next_same table (sub.At x) values = ap index_of (part_same table (Some x) values)
next_same table (sub.Cut start stop step) values =
    let f : Option Oper → Option Oper = option_map (oper_of table) in
    ap (λ (p : Option ℤ × List Bound).
    slice_of (
      record {
        start = p.0;
        stop = (part_from (f stop) p.1).0;
        step = (part_from (f step) (part_from (f stop) p.1).1).0;
      },
      (part_from (f step) (part_from (f stop) p.1).1).1,
    ))
    (part_same table start values) ∙
    ap (λ (p : Option ℤ × List Bound).
    slice_of (
      record { start = (part_from start values).0; stop = p.0; step = (part_from (f step) p.1).0 },
      (part_from (f step) p.1).1,
    ))
    (part_same table stop (part_from start values).1) ∙
    ap (λ (p : Option ℤ × List Bound).
    slice_of (
      record {
        start = (part_from start values).0;
        stop = (part_from stop (part_from start values).1).0;
        step = p.0;
      },
      p.1,
    ))
    (part_same table step (part_from stop (part_from start values).1).1)

pub subscripts_same : (table : List Reg) (subs : List CoreSub) (values : List Bound) →
    subscripts_of (map (sub_of table) subs) values ≡ subscripts_of subs values
subscripts_same table [] values = refl
subscripts_same table (s ∷ subs) values =
    ap (λ p. p.0 ∷ subscripts_of (map (sub_of table) subs) p.1) (next_same table s values) ∙
    ap (λ rest. (next_subscript s values).0 ∷ rest) (subscripts_same table subs (next_subscript s values).1)

part_scalar : (names : List Ty) (x : Option Oper) → is_number_part names x ≡ true → AreScalar names (given_part x)
part_scalar names None h = tt
part_scalar names (Some x) h = (number_scalar names x h, tt)

joined_scalar : (names : List Ty) (xs ys : List Oper) → AreScalar names xs → AreScalar names ys →
    AreScalar names (xs ++ ys)
joined_scalar names [] ys p q = q
joined_scalar names (x ∷ xs) ys p q = (p.0, joined_scalar names xs ys p.1 q)

sub_scalar : (names : List Ty) (s : CoreSub) → sub_fits names s ≡ true → AreScalar names (sub_operands s)
sub_scalar names (sub.At x) h = (number_scalar names x h, tt)
sub_scalar names (sub.Cut start stop step) h =
    let first = and_left (is_number_part names start && is_number_part names stop) (is_number_part names step) h in
    joined_scalar names (given_part start) (given_part stop ++ given_part step)
    (part_scalar names start (and_left (is_number_part names start) (is_number_part names stop) first))
    (joined_scalar names (given_part stop) (given_part step)
    (part_scalar names stop (and_right (is_number_part names start) (is_number_part names stop) first))
    (part_scalar names step
    (and_right (is_number_part names start && is_number_part names stop) (is_number_part names step) h)))

pub subs_scalar : (names : List Ty) (subs : List CoreSub) → list_all (sub_fits names) subs ≡ true →
    AreScalar names (flat_map sub_operands subs)
subs_scalar names [] h = tt
subs_scalar names (s ∷ subs) h =
    joined_scalar names (sub_operands s) (flat_map sub_operands subs)
    (sub_scalar names s (and_left (sub_fits names s) (list_all (sub_fits names) subs) h))
    (subs_scalar names subs (and_right (sub_fits names s) (list_all (sub_fits names) subs) h))

-- ---- what operands stand for
back_look : (t : State) (a : Reg) → look t a ≡ back_value t (back_in a)
back_look t (reg.Word r) = refl
back_look t (reg.View v) = refl

module _ (names : List Ty) (views : ℕ) (table : IsTable names) (s : Eager) (t : State)
    (r : Agree names views s t) where
  pub scalar_same : (x : Oper) → IsScalar names x → eager_operand s x ≡ operand t (oper_of (table_of names) x)
  scalar_same (oper.Int z) h = refl
  scalar_same (oper.Truth b) h = refl
  scalar_same (oper.Name n) h =
      let within : n < length names = inside names n h.type h.is_type in
      r.named n within ∙
      ap (look t) (table.word n within (is_array_by names n h.type h.is_type ∙ h.scalar))

  pub scalars_same : (xs : List Oper) → AreScalar names xs →
      map (eager_operand s) xs ≡ map (operand t) (opers_of (table_of names) xs)
  scalars_same [] h = refl
  scalars_same (x ∷ xs) h = ap₂ (λ (v : Bound) (vs : List Bound). v ∷ vs) (scalar_same x h.0) (scalars_same xs h.1)

  pub view_same : (n : ℕ) (u : Ty) → slice_get names n ≡ Some u → is_array u ≡ true →
      bound_of s n ≡ view t (number (table_of names) n)
  view_same n u e a =
      let within : n < length names = inside names n u e in
      r.named n within ∙ ap (look t) (table.view n within (is_array_by names n u e ∙ a))

  pub scalar_extents : (x : Oper) → IsScalar names x → extents_of (eager_operand s x) ≡ []
  scalar_extents (oper.Int z) h = refl
  scalar_extents (oper.Truth b) h = refl
  scalar_extents (oper.Name n) h = (r.fitting n).0 (is_array_by names n h.type h.is_type ∙ h.scalar)

  pub array_proper : (n : ℕ) (u : Ty) → slice_get names n ≡ Some u → is_array u ≡ true →
      IsArrayOrNothing (bound_of s n)
  array_proper n u e a = (r.fitting n).1 (is_array_by names n u e ∙ a)

  back_same : (x : Oper) (u : Ty) → type_of names x ≡ Some u →
      eager_operand s x ≡ back_value t (back_of (table_of names) x)
  back_same (oper.Int z) u h = refl
  back_same (oper.Truth b) u h = refl
  back_same (oper.Name n) u h = r.named n (inside names n u h) ∙ back_look t (register (table_of names) n)

  pub backs_same : (xs : List Oper) (types : List Ty) → OfTypes names xs types →
      map (eager_operand s) xs ≡ map (back_value t) (map (back_of (table_of names)) xs)
  backs_same [] types h = refl
  backs_same (x ∷ xs) [] h = absurd h
  backs_same (x ∷ xs) (u ∷ types) h =
      ap₂ (λ (v : Bound) (vs : List Bound). v ∷ vs) (back_same x u h.0) (backs_same xs types h.1)
