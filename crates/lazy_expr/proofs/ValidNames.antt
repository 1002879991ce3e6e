-- Registers of a plain kernel: those of names are there, and have their names' kinds and ranks.
use Rattle.std.proofs.Common.{◌≡◌, ◌∙◌, ap, ap₂, sym, subst, refl, arith, ℕ, zero, suc, ◌+◌, ◌<◌, Bool, true, false}
use Rattle.std.proofs.Common.{◌&&◌, List, [], ◌∷◌, ◌++◌, map, length, Some, length-append}
use Rattle.std.proofs.Math.Dec.{eqb-suc-zero}
use Rattle.std.specs.Prelude.{not, slice_get, slice_index_or, nat_lt}
use Rattle.std.specs.List.{flat_map, list_all}
use Rattle.std.proofs.lemmas.Bool.{lt-ltb}
use Rattle.std.proofs.lemmas.List.{get_or_append_left}
use Rattle.std.proofs.lemmas.List.Folds.{list_all-append}
use Rattle.std.proofs.lemmas.Option.{get_or_from_slice_get}
use Rattle.krn_base.specs.declared.kind.Kind.{Kind}
use Rattle.krn_base.specs.declared.kind.Kind.TheVariants.{Int64}
use Rattle.eager_rules.specs.Sound.{all_numbers}
use Rattle.eager_rules.specs.Types.{Ty, is_array, sub_fits, type_of}
use Rattle.eager_rules.specs.Works.{sub_operands}
use Rattle.eager_rules.specs.declared.program.CoreSub.{CoreSub}
use Rattle.eager_rules.specs.declared.program.Oper.{Oper}
use Rattle.eager_rules.specs.declared.program.Oper.TheVariants as oper
use Rattle.lazy_expr.specs.Table.{back_in, back_of, number, oper_of, opers_of, register, sub_of, table_of}
use Rattle.lazy_expr.specs.Table.{view_types, word_kinds}
use Rattle.lazy_expr.proofs.Binds.{inside, is_array_by, not_both}
use Rattle.lazy_expr.proofs.Operands.{AreScalar, IsScalar, NoArrays, OfTypes, numbers_scalar, some_same, subs_given}
use Rattle.lazy_expr.proofs.Operands.{subs_scalar}
use Rattle.lazy_expr.proofs.Table.{is_table, view_type as table_type}
use Rattle.loop_prog.specs.Conditions.{back_type, is_there, oper_kind, view_type, word_kind}
use Rattle.loop_prog.specs.Statements.{back_regs, oper_regs, opers_regs}
use Rattle.loop_prog.specs.declared.program.Kernel.{Kernel}
use Rattle.loop_prog.specs.declared.program.Reg.{Reg}
use Rattle.loop_prog.specs.declared.program.Reg.TheVariants as reg

pub both : {a b : Bool} → a ≡ true → b ≡ true → (a && b) ≡ true
both p q = ap₂ (λ (x y : Bool). x && y) p q

-- what stands for a name in a kernel
pub record IsWord (kernel : Kernel) (table : List Reg) (n : ℕ) (u : Ty) : Type 0 where
  pub register : register table n ≡ reg.Word (number table n)
  pub there : is_there kernel (reg.Word (number table n)) ≡ true
  pub kind : word_kind kernel (number table n) ≡ u.0

pub record IsView (kernel : Kernel) (table : List Reg) (n : ℕ) (u : Ty) : Type 0 where
  pub register : register table n ≡ reg.View (number table n)
  pub there : is_there kernel (reg.View (number table n)) ≡ true
  pub type : view_type kernel (number table n) ≡ u

pub record Holds (names : List Ty) (kernel : Kernel) : Type 0 where
  pub word : (n : ℕ) (u : Ty) → slice_get names n ≡ Some u → is_array u ≡ false →
      IsWord kernel (table_of names) n u
  pub view : (n : ℕ) (u : Ty) → slice_get names n ≡ Some u → is_array u ≡ true →
      IsView kernel (table_of names) n u

-- new view registers that stand from a number on
abbrev pub Stands : Kernel → ℕ → List Ty → Type 0
Stands kernel k [] = Unit {0}
Stands kernel k (t ∷ types) =
    ((is_there kernel (reg.View k) ≡ true) × (view_type kernel k ≡ t)) × Stands kernel (k + 1) types

pub stands_split : (kernel : Kernel) (k : ℕ) (xs ys : List Ty) → Stands kernel k (xs ++ ys) →
    Stands kernel k xs × Stands kernel (k + length xs) ys
stands_split kernel k [] ys h =
    let e : k ≡ k + 0 = omega arith in (tt, subst (λ (m : ℕ). Stands kernel m ys) e h)
stands_split kernel k (x ∷ xs) ys h =
    let found = stands_split kernel (k + 1) xs ys h.1 in
    let e : (k + 1) + length xs ≡ k + length (x ∷ xs) = omega arith in
    ((h.0, found.0), subst (λ (m : ℕ). Stands kernel m ys) e found.1)

-- a kernel with the registers of a plain one
module _ (names fresh : List Ty) (kernel : Kernel) (words : kernel.regs ≡ word_kinds names)
    (views : kernel.views ≡ view_types names ++ fresh) where
  word_there : (r : ℕ) → r < length (word_kinds names) → is_there kernel (reg.Word r) ≡ true
  word_there r h =
      ap (λ (kinds : List Kind). nat_lt r (length kinds)) words ∙ lt-ltb r (length (word_kinds names)) h

  view_there : (v : ℕ) → v < length (view_types names) + length fresh → is_there kernel (reg.View v) ≡ true
  view_there v h =
      let size : length (view_types names ++ fresh) ≡ length (view_types names) + length fresh =
      length-append (view_types names) fresh in
      ap (λ (types : List Ty). nat_lt v (length types)) views ∙
      lt-ltb v (length (view_types names ++ fresh)) (omega (arith, size, h))

  pub holds : Holds names kernel
  holds = record {
    word = λ n u e a. record {
      register = (is_table names).word n (inside names n u e) (is_array_by names n u e ∙ a);
      there = word_there (number (table_of names) n)
          ((is_table names).word_below n (inside names n u e) (is_array_by names n u e ∙ a));
      kind = ap (λ (kinds : List Kind). slice_index_or kinds (number (table_of names) n) Int64) words ∙
          (is_table names).kind n (inside names n u e) (is_array_by names n u e ∙ a) ∙
          ap (λ (t : Ty). t.0) (get_or_from_slice_get names n u (Int64, 0) e);
    };
    view = λ n u e a.
        let below : number (table_of names) n < length (view_types names) =
        (is_table names).view_below n (inside names n u e) (is_array_by names n u e ∙ a) in record {
          register = (is_table names).view n (inside names n u e) (is_array_by names n u e ∙ a);
          there = view_there (number (table_of names) n) (omega (arith, below));
          type = ap (λ (types : List Ty). slice_index_or types (number (table_of names) n) (Int64, 0)) views ∙
              get_or_append_left (view_types names) fresh (Int64, 0) (number (table_of names) n) below ∙
              table_type names n (inside names n u e) (is_array_by names n u e ∙ a) ∙
              get_or_from_slice_get names n u (Int64, 0) e;
        };
  }

pub stands_from : (kernel : Kernel) (before fresh : List Ty) → kernel.views ≡ before ++ fresh →
    Stands kernel (length before) fresh
stands_from kernel before [] views = tt
stands_from kernel before (t ∷ fresh) views =
    let more : kernel.views ≡ (before ++ t ∷ []) ++ fresh = views ∙ regrouped before t fresh in
    let size : length (before ++ t ∷ []) ≡ length before + 1 = length-append before (t ∷ []) in
    let whole : length (before ++ t ∷ fresh) ≡ length before + length (t ∷ fresh) = length-append before (t ∷ fresh)
    in (
      (
        ap (λ (types : List Ty). nat_lt (length before) (length types)) views ∙
            lt-ltb (length before) (length (before ++ t ∷ fresh)) (omega (arith, whole)),
        ap (λ (types : List Ty). slice_index_or types (length before) (Int64, 0)) views ∙ seam before,
      ),
      subst (λ (k : ℕ). Stands kernel k fresh) size (stands_from kernel (before ++ t ∷ []) fresh more),
    )
  where
    regrouped : (xs : List Ty) (y : Ty) (ys : List Ty) → xs ++ y ∷ ys ≡ (xs ++ y ∷ []) ++ ys
    regrouped [] y ys = refl
    regrouped (x ∷ xs) y ys = ap (λ (zs : List Ty). x ∷ zs) (regrouped xs y ys)

    seam : (xs : List Ty) → slice_index_or (xs ++ t ∷ fresh) (length xs) (Int64, 0) ≡ t
    seam [] = refl
    seam (x ∷ xs) = seam xs

pub stands : (names fresh : List Ty) (kernel : Kernel) → kernel.views ≡ view_types names ++ fresh →
    Stands kernel (length (view_types names)) fresh
stands names fresh kernel views = stands_from kernel (view_types names) fresh views

scalar_is : (u : Ty) → is_array u ≡ false → (u.0, 0) ≡ u
scalar_is (kind, zero) e = refl
scalar_is (kind, suc n) e = not_both (sym (ap not (eqb-suc-zero n)) ∙ e)

-- ---- operands
module _ (names : List Ty) (kernel : Kernel) (held : Holds names kernel) where
  abbrev regs : List Reg
  regs = table_of names

  pub scalar_there : (x : Oper) → IsScalar names x →
      list_all (is_there kernel) (oper_regs (oper_of regs x)) ≡ true
  scalar_there (oper.Int z) h = refl
  scalar_there (oper.Truth b) h = refl
  scalar_there (oper.Name n) h = both (held.word n h.type h.is_type h.scalar).there refl

  pub scalars_there : (xs : List Oper) → AreScalar names xs →
      list_all (is_there kernel) (opers_regs (opers_of regs xs)) ≡ true
  scalars_there [] h = refl
  scalars_there (x ∷ xs) h =
      list_all-append (is_there kernel) (oper_regs (oper_of regs x)) (opers_regs (opers_of regs xs)) ∙
      both (scalar_there x h.0) (scalars_there xs h.1)

  pub numbers_there : (xs : List Oper) → all_numbers names xs ≡ true →
      list_all (is_there kernel) (opers_regs (opers_of regs xs)) ≡ true
  numbers_there xs h = scalars_there xs (numbers_scalar names xs h)

  pub subs_there : (subs : List CoreSub) → list_all (sub_fits names) subs ≡ true →
      list_all (is_there kernel) (opers_regs (flat_map sub_operands (map (sub_of regs) subs))) ≡ true
  subs_there subs h =
      ap (λ (xs : List Oper). list_all (is_there kernel) (opers_regs xs)) (subs_given regs subs) ∙
      scalars_there (flat_map sub_operands subs) (subs_scalar names subs h)

  pub scalar_kind : (x : Oper) (u : Ty) → type_of names x ≡ Some u → is_array u ≡ false →
      oper_kind kernel (oper_of regs x) ≡ u.0
  scalar_kind (oper.Int z) u h a = ap (λ (t : Ty). t.0) (some_same _ u h)
  scalar_kind (oper.Truth b) u h a = ap (λ (t : Ty). t.0) (some_same _ u h)
  scalar_kind (oper.Name n) u h a = (held.word n u h a).kind

  pub scalar_kinds : (xs : List Oper) (types : List Ty) → OfTypes names xs types → NoArrays types →
      map (oper_kind kernel) (opers_of regs xs) ≡ map (λ (t : Ty). t.0) types
  scalar_kinds [] [] h a = refl
  scalar_kinds [] (t ∷ types) h a = absurd h
  scalar_kinds (x ∷ xs) [] h a = absurd h
  scalar_kinds (x ∷ xs) (t ∷ types) h a =
      ap₂ (λ (kind : Kind) (kinds : List Kind). kind ∷ kinds) (scalar_kind x t h.0 a.0) (scalar_kinds xs types h.1 a.1)

  -- ---- returned values
  module _ (n : ℕ) (u : Ty) (h : slice_get names n ≡ Some u) where
    back_named : (class : Bool) → is_array u ≡ class →
        (list_all (is_there kernel) (back_regs (back_in (register regs n))) ≡ true) ×
        (back_type kernel (back_in (register regs n)) ≡ u)
    back_named false a =
        let is = held.word n u h a in
        subst (λ (r : Reg). (list_all (is_there kernel) (back_regs (back_in r)) ≡ true) ×
        (back_type kernel (back_in r) ≡ u)) (sym is.register)
        (both is.there refl, ap (λ (kind : Kind). (kind, 0)) is.kind ∙ scalar_is u a)
    back_named true a =
        let is = held.view n u h a in
        subst (λ (r : Reg). (list_all (is_there kernel) (back_regs (back_in r)) ≡ true) ×
        (back_type kernel (back_in r) ≡ u)) (sym is.register) (both is.there refl, is.type)

  back_fits : (x : Oper) (u : Ty) → type_of names x ≡ Some u →
      (list_all (is_there kernel) (back_regs (back_of regs x)) ≡ true) × (back_type kernel (back_of regs x) ≡ u)
  back_fits (oper.Int z) u h = (refl, some_same _ u h)
  back_fits (oper.Truth b) u h = (refl, some_same _ u h)
  back_fits (oper.Name n) u h = back_named n u h (is_array u) refl

  pub backs_fit : (xs : List Oper) (types : List Ty) → OfTypes names xs types →
      (list_all (is_there kernel) (flat_map back_regs (map (back_of regs) xs)) ≡ true) ×
      (map (back_type kernel) (map (back_of regs) xs) ≡ types)
  backs_fit [] [] h = (refl, refl)
  backs_fit [] (t ∷ types) h = absurd h
  backs_fit (x ∷ xs) [] h = absurd h
  backs_fit (x ∷ xs) (t ∷ types) h =
      let first = back_fits x t h.0 in
      let rest = backs_fit xs types h.1 in (
        list_all-append (is_there kernel) (back_regs (back_of regs x)) (flat_map back_regs (map (back_of regs) xs)) ∙
            both first.0 rest.0,
        ap₂ (λ (u : Ty) (us : List Ty). u ∷ us) first.1 rest.1,
      )
