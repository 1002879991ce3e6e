-- A call that fits an instance begins in states that agree.
use Rattle.std.proofs.Common.{◌≡◌, ◌∙◌, ap, ap₂, sym, subst, refl, arith, ℕ, zero, suc, ◌+◌, ◌*◌, ◌<◌, ◌≤◌, ℤ, not}
use Rattle.std.proofs.Common.{Bool, true, false, List, [], ◌∷◌, ◌++◌, map, length, take, replicate}
use Rattle.std.proofs.Common.{eqb, eqb-true, ltb-true}
use Rattle.std.proofs.Common.{length-append}
use Rattle.std.specs.Prelude.{nat_lt, slice_index_or}
use Rattle.std.specs.List.{flat_map, list_all, range_with_len}
use Rattle.std.proofs.lemmas.List.{length-map, length-replicate}
use Rattle.krn_base.specs.declared.kind.Kind.TheVariants.{Int64}
use Rattle.krn_base.specs.declared.kind.ParamType.{ParamType}
use Rattle.krn_base.specs.declared.kind.ParamType.TheVariants.{Scalar, Flat, Strided}
use Rattle.view_places.specs.Arrays.{element_count, indices}
use Rattle.view_places.specs.Strides.{place_at}
use Rattle.view_places.specs.View.{extents}
use Rattle.view_places.specs.declared.shape.Array.{Array}
use Rattle.view_places.specs.declared.view.View.{View}
use Rattle.array_ops.specs.Arrays.{array_of}
use Rattle.array_ops.specs.Elements.{Bound, Unbound, WordOf, ArrayOf}
use Rattle.eager_rules.specs.Eager.{bind_all}
use Rattle.eager_rules.specs.Fits.{AreTaken}
use Rattle.eager_rules.specs.Outcome.{buffers_of}
use Rattle.eager_rules.specs.State.{bind, bound_to}
use Rattle.eager_rules.specs.State.{State as Eager}
use Rattle.eager_rules.specs.Types.{Ty, is_array, same_kind, same_type, same_types, type_of_param}
use Rattle.eager_rules.specs.declared.call.Arg.{Arg}
use Rattle.eager_rules.specs.declared.call.Arg.TheVariants as arg
use Rattle.eager_rules.specs.declared.program.Instance.{Instance}
use Rattle.lazy_expr.specs.Plain.{plain_kernel, lowered}
use Rattle.lazy_expr.specs.Promise.{is_ranked}
use Rattle.lazy_expr.specs.Table.{is_array_name, register, table_from, table_of, view_types, word_kinds}
use Rattle.lazy_expr.proofs.Binds.{and_left, and_right, bind_agrees, not_both}
use Rattle.lazy_expr.proofs.Relation.{Agree, Fitting, IsProper, StartsAlike}
use Rattle.lazy_expr.proofs.Table.{is_table, table_view, table_word}
use Rattle.loop_prog.specs.Serial.{no_counts, param_regs}
use Rattle.loop_prog.specs.Serial.{entered as entered_kernel}
use Rattle.loop_prog.specs.State.{State, look}
use Rattle.loop_prog.specs.State.{bind as bind_register, bind_all as bind_registers}
use Rattle.loop_prog.specs.declared.program.Reg.{Reg}
use Rattle.loop_prog.specs.declared.program.Reg.TheVariants as reg

-- ---- nothing is bound
unbound_at : (n i : ℕ) → slice_index_or (replicate n Unbound) i Unbound ≡ Unbound
unbound_at zero i = refl
unbound_at (suc n) zero = refl
unbound_at (suc n) (suc i) = unbound_at n i

fits_nothing : (names : List Ty) (n : ℕ) → Fitting names n Unbound
fits_nothing names n = (λ e. refl, λ e. tt)

module _ (names : List Ty) (views : ℕ) (buffers : List (List ℤ)) where
  abbrev empty_state : Eager
  empty_state = record { buffers = buffers; names = replicate (length names) Unbound }

  abbrev empty_bank : State
  empty_bank = record {
    words = replicate (length (word_kinds names)) Unbound;
    views = replicate views Unbound;
    buffers = buffers;
    counts = no_counts;
  }

  nothing_there : (a : Reg) → look empty_bank a ≡ Unbound
  nothing_there (reg.Word r) = unbound_at (length (word_kinds names)) r
  nothing_there (reg.View v) = unbound_at views v

  empty_agree : Agree names views empty_state empty_bank
  empty_agree = record {
    buffers = refl;
    named = λ n below. unbound_at (length names) n ∙ sym (nothing_there (register (table_of names) n));
    fitting = λ n. subst (λ (v : Bound). Fitting names n v) (sym (unbound_at (length names) n)) (fits_nothing names n);
    size = length-replicate (length names) Unbound;
    words_size = length-replicate (length (word_kinds names)) Unbound;
    views_size = length-replicate views Unbound;
  }

-- ---- arguments
count_rows : (ns : List ℕ) (a n : ℕ) → length (indices ns) ≡ element_count ns →
    length (flat_map (λ i. map (λ (index : List ℕ). i ∷ index) (indices ns)) (range_with_len a n)) ≡
    n * element_count ns
count_rows ns a zero e = omega arith
count_rows ns a (suc n) e =
    omega (
      arith,
      length-append (map (λ (index : List ℕ). a ∷ index) (indices ns))
          (flat_map (λ i. map (λ (index : List ℕ). i ∷ index) (indices ns)) (range_with_len (a + 1) n)),
      length-map (indices ns) (λ (index : List ℕ). a ∷ index),
      count_rows ns (a + 1) n e,
      e,
    )

count_indices : (ns : List ℕ) → length (indices ns) ≡ element_count ns
count_indices [] = refl
count_indices (n ∷ ns) = count_rows ns 0 n (count_indices ns)

-- a view stands for an array with a place for each element
proper_view : (v : View) → IsProper (array_of v)
proper_view v = record {
  count = length-map (indices (extents v)) (place_at v.offset v.stride) ∙ count_indices (extents v);
  small = v.shape.small;
}

word_fits : (names : List Ty) (n : ℕ) (z : ℤ) → is_array_name names n ≡ false → Fitting names n (WordOf z)
word_fits names n z e = (λ scalar. refl, λ array. not_both (sym array ∙ e))

view_fits : (names : List Ty) (n : ℕ) (v : View) → is_array_name names n ≡ true → Fitting names n (ArrayOf (array_of v))
view_fits names n v e = (λ scalar. not_both (sym e ∙ scalar), λ array. proper_view v)

-- ---- parameters
-- the parameters' registers are those of the names from here on
abbrev pub Placed : List Ty → ℕ → ℕ → ℕ → List ParamType → Type 0
Placed all k words views [] = Unit {0}
Placed all k words views (Scalar kind ∷ types) =
    (k < length all) × (is_array_name all k ≡ false) × (register (table_of all) k ≡ reg.Word words) ×
    Placed all (k + 1) (words + 1) views types
Placed all k words views (Flat kind rank ∷ types) =
    (k < length all) × (is_array_name all k ≡ true) × (register (table_of all) k ≡ reg.View views) ×
    Placed all (k + 1) words (views + 1) types
Placed all k words views (Strided kind rank ∷ types) =
    (k < length all) × (is_array_name all k ≡ true) × (register (table_of all) k ≡ reg.View views) ×
    Placed all (k + 1) words (views + 1) types

-- what is left of the names, and of their registers
pub record Left (all : List Ty) (k words views : ℕ) (names : List Ty) : Type 0 where
  size : (n j : ℕ) → j ≡ k + n → n < length names → j < length all
  kind : (n j : ℕ) → j ≡ k + n → slice_index_or all j (Int64, 0) ≡ slice_index_or names n (Int64, 0)
  place : (n j : ℕ) → j ≡ k + n → register (table_of all) j ≡ register (table_from words views names) n

pub whole : (all : List Ty) → Left all 0 0 0 all
whole all = record {
  size = λ n j e below. omega (arith, e, below);
  kind = λ n j e. ap (λ (i : ℕ). slice_index_or all i (Int64, 0)) (let same : j ≡ n = omega (arith, e) in same);
  place = λ n j e. ap (λ (i : ℕ). register (table_of all) i) (let same : j ≡ n = omega (arith, e) in same);
}

module _ (all : List Ty) (k words views : ℕ) (t : Ty) (names : List Ty)
    (left : Left all k words views (t ∷ names)) where
  here : k < length all
  here = left.size 0 k (omega arith) (omega arith)

  class_here : is_array_name all k ≡ is_array t
  class_here = ap is_array (left.kind 0 k (omega arith))

  word_here : is_array t ≡ false → register (table_of all) k ≡ reg.Word words
  word_here e = left.place 0 k (omega arith) ∙
      ap (λ (table : List Reg). register table 0) (table_word words views t names e)

  view_here : is_array t ≡ true → register (table_of all) k ≡ reg.View views
  view_here e = left.place 0 k (omega arith) ∙
      ap (λ (table : List Reg). register table 0) (table_view words views t names e)

  after_word : is_array t ≡ false → Left all (k + 1) (words + 1) views names
  after_word e = record {
    size = λ n j is below. left.size (suc n) j (omega (arith, is)) (omega (arith, below));
    kind = λ n j is. left.kind (suc n) j (omega (arith, is));
    place = λ n j is. left.place (suc n) j (omega (arith, is)) ∙
        ap (λ (table : List Reg). register table (suc n)) (table_word words views t names e);
  }

  after_view : is_array t ≡ true → Left all (k + 1) words (views + 1) names
  after_view e = record {
    size = λ n j is below. left.size (suc n) j (omega (arith, is)) (omega (arith, below));
    kind = λ n j is. left.kind (suc n) j (omega (arith, is));
    place = λ n j is. left.place (suc n) j (omega (arith, is)) ∙
        ap (λ (table : List Reg). register table (suc n)) (table_view words views t names e);
  }

same_class : (t u : Ty) → same_type t u ≡ true → is_array t ≡ is_array u
same_class t u e = ap (λ (n : ℕ). not (eqb n 0)) (eqb-true t.1 u.1 (and_right (same_kind t.0 u.0) (eqb t.1 u.1) e))

-- a positive rank is that of an array
pub ranked : (n : ℕ) → nat_lt 0 n ≡ true → not (eqb n 0) ≡ true
ranked n e = by_test (eqb n 0) refl
  where
    by_test : (b : Bool) → eqb n 0 ≡ b → not (eqb n 0) ≡ true
    by_test false q = ap not q
    by_test true q = absurd (omega (arith, eqb-true n 0 q, ltb-true 0 n e))

pub placed : (all : List Ty) (k words views : ℕ) (names : List Ty) (types : List ParamType) → Left all k words views
    names →
    same_types (take (length types) names) (map type_of_param types) ≡ true → list_all is_ranked types ≡ true →
    Placed all k words views types
placed all k words views names [] left same ranks = tt
placed all k words views [] (Scalar kind ∷ types) left same ranks = not_both (sym same)
placed all k words views [] (Flat kind n ∷ types) left same ranks = not_both (sym same)
placed all k words views [] (Strided kind n ∷ types) left same ranks = not_both (sym same)
placed all k words views (t ∷ names) (Scalar kind ∷ types) left same ranks =
    let class : is_array t ≡ false = same_class t (kind, 0) (and_left (same_type t (kind, 0)) _ same) in (
      here all k words views t names left,
      class_here all k words views t names left ∙ class,
      word_here all k words views t names left class,
      placed all (k + 1) (words + 1) views names types (after_word all k words views t names left class)
          (and_right (same_type t (kind, 0)) _ same) (and_right true _ ranks),
    )
placed all k words views (t ∷ names) (Flat kind n ∷ types) left same ranks =
    let class : is_array t ≡ true =
    same_class t (kind, n) (and_left (same_type t (kind, n)) _ same) ∙ ranked n (and_left (nat_lt 0 n) _ ranks) in (
      here all k words views t names left,
      class_here all k words views t names left ∙ class,
      view_here all k words views t names left class,
      placed all (k + 1) words (views + 1) names types (after_view all k words views t names left class)
          (and_right (same_type t (kind, n)) _ same) (and_right (nat_lt 0 n) _ ranks),
    )
placed all k words views (t ∷ names) (Strided kind n ∷ types) left same ranks =
    let class : is_array t ≡ true =
    same_class t (kind, n) (and_left (same_type t (kind, n)) _ same) ∙ ranked n (and_left (nat_lt 0 n) _ ranks) in (
      here all k words views t names left,
      class_here all k words views t names left ∙ class,
      view_here all k words views t names left class,
      placed all (k + 1) words (views + 1) names types (after_view all k words views t names left class)
          (and_right (same_type t (kind, n)) _ same) (and_right (nat_lt 0 n) _ ranks),
    )

-- ---- the start
module _ (all : List Ty) (count : ℕ) (room : length (view_types all) ≤ count) (buffers : List Array) where
  abbrev Alike : Eager → State → Type 0
  Alike = Agree all count

  -- one more argument
  one_bound : (k : ℕ) (a : Reg) (v : Bound) (s : Eager) (t : State) → k < length all →
      register (table_of all) k ≡ a → Fitting all k v → Alike s t → Alike (bind k v s) (bind_register a v t)
  one_bound k a v s t below e f r =
      subst (λ (b : Reg). Alike (bind k v s) (bind_register b v t)) e
      (bind_agrees all count (is_table all) room k v s t below f r)

  all_bound : (k words views : ℕ) (types : List ParamType) (args : List Arg) (s : Eager) (t : State) →
      Placed all k words views types → AreTaken buffers types args → Alike s t →
      Alike (bind_all (range_with_len k (length types)) (map bound_to args) s)
      (bind_registers (param_regs words views types) (map bound_to args) t)
  all_bound k words views [] [] s t p taken r = r
  all_bound k words views [] (x ∷ args) s t p taken r = absurd taken
  all_bound k words views (Scalar kind ∷ types) [] s t p taken r = absurd taken
  all_bound k words views (Flat kind n ∷ types) [] s t p taken r = absurd taken
  all_bound k words views (Strided kind n ∷ types) [] s t p taken r = absurd taken
  all_bound k words views (Scalar kind ∷ types) (arg.Word z ∷ args) s t p taken r =
      all_bound (k + 1) (words + 1) views types args (bind k (WordOf z) s) (bind_register (reg.Word words) (WordOf z) t)
      p.3 taken.1 (one_bound k (reg.Word words) (WordOf z) s t p.0 p.2 (word_fits all k z p.1) r)
  all_bound k words views (Scalar kind ∷ types) (arg.Array v ∷ args) s t p taken r = absurd taken.0
  all_bound k words views (Flat kind n ∷ types) (arg.Word z ∷ args) s t p taken r = absurd taken.0
  all_bound k words views (Flat kind n ∷ types) (arg.Array v ∷ args) s t p taken r =
      all_bound (k + 1) words (views + 1) types args (bind k (ArrayOf (array_of v)) s)
      (bind_register (reg.View views) (ArrayOf (array_of v)) t)
      p.3 taken.1 (one_bound k (reg.View views) (ArrayOf (array_of v)) s t p.0 p.2 (view_fits all k v p.1) r)
  all_bound k words views (Strided kind n ∷ types) (arg.Word z ∷ args) s t p taken r = absurd taken.0
  all_bound k words views (Strided kind n ∷ types) (arg.Array v ∷ args) s t p taken r =
      all_bound (k + 1) words (views + 1) types args (bind k (ArrayOf (array_of v)) s)
      (bind_register (reg.View views) (ArrayOf (array_of v)) t)
      p.3 taken.1 (one_bound k (reg.View views) (ArrayOf (array_of v)) s t p.0 p.2 (view_fits all k v p.1) r)

pub typed_params : (params : List (List ℕ × ParamType)) →
    map type_of_param (map (λ (p : List ℕ × ParamType). p.1) params) ≡
    map (λ (p : List ℕ × ParamType). type_of_param p.1) params
typed_params [] = refl
typed_params (p ∷ params) = ap (λ (ts : List Ty). type_of_param p.1 ∷ ts) (typed_params params)

pub starts_alike : (f : Instance) → StartsAlike f
starts_alike f heads typed ranks call fits =
    let types : List ParamType = map (λ (p : List ℕ × ParamType). p.1) f.params in
    let size : length types ≡ length f.params = length-map f.params (λ (p : List ℕ × ParamType). p.1) in
    let fresh : List Ty = (lowered f.names f.body).fresh in
    let views : ℕ = length (view_types f.names ++ fresh) in
    let room : length (view_types f.names) ≤ views = omega (arith, length-append (view_types f.names) fresh) in
    let same : same_types (take (length types) f.names) (map type_of_param types) ≡ true =
    ap₂ (λ (n : ℕ) (ts : List Ty). same_types (take n f.names) ts) size (typed_params f.params) ∙ typed.params in
    subst (λ (n : ℕ). Agree f.names views
    (bind_all (range_with_len 0 n) (map bound_to call.args) (empty_state f.names views (buffers_of call)))
    (entered_kernel (plain_kernel f) call)) size
    (all_bound f.names views room call.buffers 0 0 0 types call.args
    (empty_state f.names views (buffers_of call)) (empty_bank f.names views (buffers_of call))
    (placed f.names 0 0 0 f.names types (whole f.names) same ranks) fits.args
    (empty_agree f.names views (buffers_of call)))
