-- What the tests of types say of kinds, ranks and subscripts.
use Rattle.std.proofs.Common.{◌≡◌, ◌∙◌, ap, ap₂, sym, refl, ℕ, zero, suc, ◌+◌, ◌-◌, Bool}
use Rattle.std.proofs.Common.{true, false, not, ◌&&◌, ◌||◌, List, [], ◌∷◌, map, length, Option, Some, None}
use Rattle.std.proofs.Common.{eq-eqb, eqb-true}
use Rattle.std.specs.Prelude.{nat_lt, nat_le, ◌==◌, if◌then◌else◌}
use Rattle.std.specs.List.{fold}
use Rattle.std.proofs.lemmas.List.{length-map}
use Rattle.krn_base.specs.declared.kind.Kind.{Kind}
use Rattle.krn_base.specs.declared.kind.Kind.TheVariants.{Int64, Bool as Boolean}
use Rattle.array_ops.specs.declared.operation.Fill.{Fill}
use Rattle.array_ops.specs.declared.operation.Fill.TheVariants as fills
use Rattle.eager_rules.specs.Sound.{axis_fits as core_axis_fits}
use Rattle.eager_rules.specs.Types.{Ty, fresh_fits, is_array, is_index, is_scalar, may_store, pick_type}
use Rattle.eager_rules.specs.Types.{removed, same_kind, same_type}
use Rattle.eager_rules.specs.Types.{un_kind, with_rank, word_type, bin_kind}
use Rattle.eager_rules.specs.declared.program.CoreSub.{CoreSub}
use Rattle.eager_rules.specs.declared.program.CoreSub.TheVariants as sub
use Rattle.eager_rules.specs.declared.program.WordOp.{WordOp}
use Rattle.eager_rules.specs.declared.program.WordOp.TheVariants as word_op
use Rattle.lazy_expr.specs.Table.{sub_of}
use Rattle.lazy_expr.proofs.Binds.{and_left, and_right}
use Rattle.lazy_expr.proofs.Operands.{none_some}
use Rattle.lazy_expr.proofs.Operands.{some_same}
use Rattle.lazy_expr.proofs.ValidNames.{both}
use Rattle.lazy_expr.proofs.ValidTemplates.{un_small}
use Rattle.loop_prog.specs.Conditions.{axis_fits, is_count, is_kind}
use Rattle.loop_prog.specs.Conditions.{set_kind, small_word}
use Rattle.loop_prog.specs.Conditions.{subs_fit}
use Rattle.loop_prog.specs.declared.program.Reg.{Reg}

pub kind_itself : (k : Kind) → same_kind k k ≡ true
kind_itself Int64 = refl
kind_itself Boolean = refl

pub ranked_kind : (rank : ℕ) (o : Option Kind) (u : Ty) → with_rank rank o ≡ Some u → o ≡ Some u.0
ranked_kind rank None u h = none_some u h
ranked_kind rank (Some kind) u h = ap (λ (t : Ty). Some t.0) (some_same (kind, rank) u h)

pub word_made : (op : WordOp) (types : List Ty) (u : Ty) → word_type op types ≡ Some u →
    (is_kind (set_kind op (map (λ (t : Ty). t.0) types)) u.0 ≡ true) × (small_word op ≡ true)
word_made (word_op.Bin op) [] u h = none_some u h
word_made (word_op.Bin op) ((a, zero) ∷ []) u h = none_some u h
word_made (word_op.Bin op) ((a, suc n) ∷ []) u h = none_some u h
word_made (word_op.Bin op) ((a, zero) ∷ (b, zero) ∷ []) u h =
    (ap (λ (o : Option Kind). is_kind o u.0) (ranked_kind 0 (bin_kind op a b) u h) ∙ kind_itself u.0, refl)
word_made (word_op.Bin op) ((a, zero) ∷ (b, suc n) ∷ types) u h = none_some u h
word_made (word_op.Bin op) ((a, suc n) ∷ t ∷ types) u h = none_some u h
word_made (word_op.Bin op) ((a, zero) ∷ (b, zero) ∷ t ∷ types) u h = none_some u h
word_made (word_op.Un op) [] u h = none_some u h
word_made (word_op.Un op) ((a, zero) ∷ []) u h =
    let found = un_small op a u.0 (ranked_kind 0 (un_kind op a) u h) in
    (ap (λ (o : Option Kind). is_kind o u.0) found.0 ∙ kind_itself u.0, found.1)
word_made (word_op.Un op) ((a, suc n) ∷ types) u h = none_some u h
word_made (word_op.Un op) ((a, zero) ∷ t ∷ types) u h = none_some u h
word_made word_op.Move [] u h = none_some u h
word_made word_op.Move ((a, zero) ∷ []) u h =
    (ap (same_kind a) (sym (ap (λ (t : Ty). t.0) (some_same (a, 0) u h))) ∙ kind_itself a, refl)
word_made word_op.Move ((a, suc n) ∷ types) u h = none_some u h
word_made word_op.Move ((a, zero) ∷ t ∷ types) u h = none_some u h

pub axis_same : (axis : Option ℕ) (rank : ℕ) → core_axis_fits axis rank ≡ true → axis_fits axis rank ≡ true
axis_same None rank h = refl
axis_same (Some axis) rank h = h

pub index_same : (table : List Reg) (s : CoreSub) → is_index (sub_of table s) ≡ is_index s
index_same table (sub.At x) = refl
index_same table (sub.Cut start stop step) = refl

abbrev counted : ℕ → CoreSub → ℕ
counted n s = n + (if is_index s then 1 else 0)

pub removed_from : (table : List Reg) (n : ℕ) (subs : List CoreSub) →
    fold counted n (map (sub_of table) subs) ≡ fold counted n subs
removed_from table n [] = refl
removed_from table n (sub.At x ∷ subs) = removed_from table (n + 1) subs
removed_from table n (sub.Cut start stop step ∷ subs) = removed_from table (n + 0) subs

pub removed_same : (table : List Reg) (subs : List CoreSub) → removed (map (sub_of table) subs) ≡ removed subs
removed_same table subs = removed_from table 0 subs

pub picked_type : (t u : Ty) (subs : List CoreSub) → pick_type t subs ≡ Some u →
    (u.0 ≡ t.0) × (subs_fit u.1 t.1 subs ≡ true)
picked_type t u subs h = by_tests (nat_le (length subs) t.1) (nat_lt (removed subs) t.1) h
  where
    by_tests : (below within : Bool) →
        (if below then (if within then Some (t.0, t.1 - removed subs) else None) else None) ≡ Some u →
        (u.0 ≡ t.0) × ((below && (within && (u.1 == t.1 - removed subs))) ≡ true)
    by_tests true true e =
        let same : (t.0, t.1 - removed subs) ≡ u = some_same (t.0, t.1 - removed subs) u e in
        (sym (ap (λ (x : Ty). x.0) same), eq-eqb u.1 (t.1 - removed subs) (sym (ap (λ (x : Ty). x.1) same)))
    by_tests true false e = none_some u e
    by_tests false within e = none_some u e

pub subs_moved : (table : List Reg) (to of : ℕ) (subs : List CoreSub) → subs_fit to of subs ≡ true →
    subs_fit to of (map (sub_of table) subs) ≡ true
subs_moved table to of subs h =
    ap₂ (λ (count gone : ℕ). nat_le count of && (nat_lt gone of && (to == of - gone)))
    (length-map subs (sub_of table)) (removed_same table subs) ∙ h

-- a kind that a fill doesn't ask for, or the one that it does
pub fill_kind : (fill : Fill) (dims : ℕ) (t : Ty) → fresh_fits fill dims t ≡ true →
    (not (is_count fill) || same_kind t.0 Int64) ≡ true
fill_kind fills.Zero dims t h = refl
fill_kind fills.One dims t h = refl
fill_kind fills.Count dims t h =
    and_left (same_kind t.0 Int64) (t.1 == 1) (and_right (dims == 1) (same_type t (Int64, 1)) h)

pub fill_rank : (fill : Fill) (dims : ℕ) (t : Ty) → fresh_fits fill dims t ≡ true →
    ((t.1 == dims) && (not (is_count fill) || (dims == 1))) ≡ true
fill_rank fills.Zero dims t h = both (and_right (nat_lt 0 dims && nat_le dims 4) (t.1 == dims) h) refl
fill_rank fills.One dims t h = both (and_right (nat_lt 0 dims && nat_le dims 4) (t.1 == dims) h) refl
fill_rank fills.Count dims t h =
    let one : dims ≡ 1 = eqb-true dims 1 (and_left (dims == 1) (same_type t (Int64, 1)) h) in
    let rank : t.1 ≡ 1 = eqb-true t.1 1 (and_right (same_kind t.0 Int64) (t.1 == 1)
    (and_right (dims == 1) (same_type t (Int64, 1)) h)) in
    both (eq-eqb t.1 dims (rank ∙ sym one)) (and_left (dims == 1) (same_type t (Int64, 1)) h)

pub stores_itself : (k : Kind) → may_store k k ≡ true
stores_itself Int64 = refl
stores_itself Boolean = refl

pub no_array : (t : Ty) → is_scalar t ≡ true → is_array t ≡ false
no_array t h = ap not h
