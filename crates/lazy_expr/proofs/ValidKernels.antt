-- Plain kernels keep the rules on registers, kinds, ranks and templates: their parameters, their registers' ranks and
-- their statements.
use Rattle.std.proofs.Common.{◌≡◌, ◌∙◌, ap, ap₂, sym, subst, refl, arith, ℕ, zero, suc, ◌+◌, Bool, true, false, not}
use Rattle.std.proofs.Common.{◌&&◌, List, [], ◌∷◌, ◌++◌, map, length, take, eq-eqb}
use Rattle.std.proofs.Common.{length-append}
use Rattle.std.proofs.lemmas.List.{length-map}
use Rattle.std.specs.Prelude.{slice_index_or, nat_le, nat_lt, ◌==◌, if◌then◌else◌}
use Rattle.std.specs.List.{list_all, list_any, zip}
use Rattle.std.proofs.lemmas.Bool.{lt-ltb}
use Rattle.std.proofs.lemmas.List.Folds.{flat_map-map, list_all-append}
use Rattle.krn_base.specs.declared.kind.Kind.{Kind}
use Rattle.krn_base.specs.declared.kind.Kind.TheVariants.{Int64}
use Rattle.krn_base.specs.declared.kind.ParamType.{ParamType}
use Rattle.krn_base.specs.declared.kind.ParamType.TheVariants.{Scalar, Flat, Strided}
use Rattle.eager_rules.specs.Sound.{Head, IsWellTyped}
use Rattle.eager_rules.specs.Statements.{calls_of, calls_step}
use Rattle.eager_rules.specs.Types.{Ty, is_array, same_kind, same_type, same_types, type_of_param}
use Rattle.eager_rules.specs.declared.program.Core.TheFolds.{fold-Core}
use Rattle.eager_rules.specs.declared.program.Instance.{Instance}
use Rattle.lazy_expr.specs.Plain.{lowered, plain_kernel}
use Rattle.lazy_expr.specs.Promise.{has_ranked_params, is_flat, is_ranked}
use Rattle.lazy_expr.specs.Table.{view_types, word_kinds}
use Rattle.lazy_expr.proofs.ValidRules.{all_local, keeps_local}
use Rattle.lazy_expr.proofs.Binds.{and_left, and_right, not_both}
use Rattle.lazy_expr.proofs.Operands.{same_one}
use Rattle.lazy_expr.proofs.Outcomes.{no_item}
use Rattle.lazy_expr.proofs.Start.{ranked, typed_params}
use Rattle.lazy_expr.proofs.ValidBodies.{all_ranked, body_local}
use Rattle.lazy_expr.proofs.ValidEnds.{closed_for_local, found_local}
use Rattle.lazy_expr.proofs.ValidNames.{Stands, both, holds, stands, stands_from, stands_split}
use Rattle.lazy_expr.proofs.ValidTypes.{kind_itself}
use Rattle.loop_prog.specs.Check.{is_rank, kernel_findings, kernel_keeps, param_is_ranked, param_kind, same_head}
use Rattle.loop_prog.specs.Check.{body_findings, param_rank, with_own}
use Rattle.loop_prog.specs.Conditions.{is_there, view_type, word_kind}
use Rattle.loop_prog.specs.Paths.{at_start}
use Rattle.loop_prog.specs.Serial.{param_regs}
use Rattle.loop_prog.specs.declared.kept.Kept.{Kept}
use Rattle.loop_prog.specs.declared.program.Kernel.{Kernel}
use Rattle.loop_prog.specs.declared.program.Reg.{Reg}
use Rattle.loop_prog.specs.declared.program.Reg.TheVariants as reg

abbrev within : List Ty → Bool
within types = list_all (λ t. nat_le t.1 4) types

-- scalar registers that stand from a number on
abbrev WordsStand : Kernel → ℕ → List Kind → Type 0
WordsStand kernel r [] = Unit {0}
WordsStand kernel r (kind ∷ kinds) =
    ((is_there kernel (reg.Word r) ≡ true) × (word_kind kernel r ≡ kind)) × WordsStand kernel (r + 1) kinds

words_from : (kernel : Kernel) (before kinds : List Kind) → kernel.regs ≡ before ++ kinds →
    WordsStand kernel (length before) kinds
words_from kernel before [] words = tt
words_from kernel before (k ∷ kinds) words =
    let size : length (before ++ k ∷ []) ≡ length before + 1 = length-append before (k ∷ []) in
    let whole : length (before ++ k ∷ kinds) ≡ length before + length (k ∷ kinds) = length-append before (k ∷ kinds)
    in (
      (
        ap (λ (ks : List Kind). nat_lt (length before) (length ks)) words ∙
            lt-ltb (length before) (length (before ++ k ∷ kinds)) (omega (arith, whole)),
        ap (λ (ks : List Kind). slice_index_or ks (length before) Int64) words ∙ seam before,
      ),
      subst (λ (r : ℕ). WordsStand kernel r kinds) size
          (words_from kernel (before ++ k ∷ []) kinds (words ∙ regrouped before k kinds)),
    )
  where
    regrouped : (xs : List Kind) (y : Kind) (ys : List Kind) → xs ++ y ∷ ys ≡ (xs ++ y ∷ []) ++ ys
    regrouped [] y ys = refl
    regrouped (x ∷ xs) y ys = ap (λ (zs : List Kind). x ∷ zs) (regrouped xs y ys)

    seam : (xs : List Kind) → slice_index_or (xs ++ k ∷ kinds) (length xs) Int64 ≡ k
    seam [] = refl
    seam (x ∷ xs) = seam xs

-- ---- parameters
pub record Fitting (kernel : Kernel) (regs : List Reg) (types : List ParamType) : Type 0 where
  pub there : list_all (is_there kernel) regs ≡ true
  pub kinds : list_all (param_kind kernel) (zip regs types) ≡ true
  pub ranks : list_all (param_rank kernel) (zip regs types) ≡ true
  pub ranked : list_all param_is_ranked types ≡ true

module _ (kernel : Kernel) where
  word_more : (r : ℕ) (kind : Kind) (regs : List Reg) (types : List ParamType) → is_there kernel (reg.Word r) ≡ true →
      word_kind kernel r ≡ kind → Fitting kernel regs types → Fitting kernel (reg.Word r ∷ regs) (Scalar kind ∷ types)
  word_more r kind regs types there is rest = record {
    there = both there rest.there;
    kinds = both (ap (λ (k : Kind). same_kind k kind) is ∙ kind_itself kind) rest.kinds;
    ranks = rest.ranks;
    ranked = rest.ranked;
  }

  -- a view's type as one of both kinds of array parameters
  module _ (v : ℕ) (kind : Kind) (n : ℕ) (there : is_there kernel (reg.View v) ≡ true)
      (is : view_type kernel v ≡ (kind, n)) (rank : is_rank n ≡ true) (regs : List Reg) (types : List ParamType)
      (rest : Fitting kernel regs types) where
    same_kinds : same_kind (view_type kernel v).0 kind ≡ true
    same_kinds = ap (λ (t : Ty). same_kind t.0 kind) is ∙ kind_itself kind

    same_ranks : ((view_type kernel v).1 == n) ≡ true
    same_ranks = eq-eqb (view_type kernel v).1 n (ap (λ (t : Ty). t.1) is)

    flat_more : Fitting kernel (reg.View v ∷ regs) (Flat kind n ∷ types)
    flat_more = record {
      there = both there rest.there;
      kinds = both same_kinds rest.kinds;
      ranks = both same_ranks rest.ranks;
      ranked = both rank rest.ranked;
    }

    strided_more : Fitting kernel (reg.View v ∷ regs) (Strided kind n ∷ types)
    strided_more = record {
      there = both there rest.there;
      kinds = both same_kinds rest.kinds;
      ranks = both same_ranks rest.ranks;
      ranked = both rank rest.ranked;
    }

  -- the first register of an array, and those behind it
  module _ (kind : Kind) (n : ℕ) (t : Ty) (names : List Ty) (e : t ≡ (kind, n)) where
    after_view : (words views : ℕ) → is_array (kind, n) ≡ true → WordsStand kernel words (word_kinds (t ∷ names)) →
        Stands kernel views (view_types (t ∷ names)) →
        WordsStand kernel words (word_kinds names) × Stands kernel views ((kind, n) ∷ view_types names)
    after_view words views a w s = (
      subst (WordsStand kernel words) (ap (λ (x : Ty). word_kinds (x ∷ names)) e ∙
          ap (λ (b : Bool). if b then word_kinds names else kind ∷ word_kinds names) a) w,
      subst (Stands kernel views) (ap (λ (x : Ty). view_types (x ∷ names)) e ∙
          ap (λ (b : Bool). if b then (kind, n) ∷ view_types names else view_types names) a) s,
    )

  rank_of : (t : Ty) (n : ℕ) → t.1 ≡ n → nat_lt 0 n ≡ true → nat_le t.1 4 ≡ true → is_rank n ≡ true
  rank_of t n e positive limit = both positive (ap (λ (m : ℕ). nat_le m 4) (sym e) ∙ limit)

  params_fit : (words views : ℕ) (names : List Ty) (types : List ParamType) →
      WordsStand kernel words (word_kinds names) → Stands kernel views (view_types names) →
      same_types (take (length types) names) (map type_of_param types) ≡ true → list_all is_ranked types ≡ true →
      within names ≡ true → Fitting kernel (param_regs words views types) types
  params_fit words views names [] w s same ranks limits =
      record { there = refl; kinds = refl; ranks = refl; ranked = refl }
  params_fit words views [] (Scalar kind ∷ types) w s same ranks limits = not_both (sym same)
  params_fit words views [] (Flat kind n ∷ types) w s same ranks limits = not_both (sym same)
  params_fit words views [] (Strided kind n ∷ types) w s same ranks limits = not_both (sym same)
  params_fit words views (t ∷ names) (Scalar kind ∷ types) w s same ranks limits =
      let e : t ≡ (kind, 0) = same_one t (kind, 0) (and_left (same_type t (kind, 0)) _ same) in
      let stand : WordsStand kernel words (kind ∷ word_kinds names) =
      subst (λ (x : Ty). WordsStand kernel words (word_kinds (x ∷ names))) e w in
      let behind : Stands kernel views (view_types names) =
      subst (λ (x : Ty). Stands kernel views (view_types (x ∷ names))) e s in
      word_more words kind (param_regs (words + 1) views types) types stand.0.0 stand.0.1
      (params_fit (words + 1) views names types stand.1 behind (and_right (same_type t (kind, 0)) _ same)
      (and_right true _ ranks) (and_right (nat_le t.1 4) (within names) limits))
  params_fit words views (t ∷ names) (Flat kind n ∷ types) w s same ranks limits =
      let e : t ≡ (kind, n) = same_one t (kind, n) (and_left (same_type t (kind, n)) _ same) in
      let positive : nat_lt 0 n ≡ true = and_left (nat_lt 0 n) _ ranks in
      let stand = after_view kind n t names e words views (ranked n positive) w s in
      flat_more views kind n stand.1.0.0 stand.1.0.1
      (rank_of t n (ap (λ (x : Ty). x.1) e) positive (and_left (nat_le t.1 4) (within names) limits))
      (param_regs words (views + 1) types) types
      (params_fit words (views + 1) names types stand.0 stand.1.1 (and_right (same_type t (kind, n)) _ same)
      (and_right (nat_lt 0 n) _ ranks) (and_right (nat_le t.1 4) (within names) limits))
  params_fit words views (t ∷ names) (Strided kind n ∷ types) w s same ranks limits =
      let e : t ≡ (kind, n) = same_one t (kind, n) (and_left (same_type t (kind, n)) _ same) in
      let positive : nat_lt 0 n ≡ true = and_left (nat_lt 0 n) _ ranks in
      let stand = after_view kind n t names e words views (ranked n positive) w s in
      strided_more views kind n stand.1.0.0 stand.1.0.1
      (rank_of t n (ap (λ (x : Ty). x.1) e) positive (and_left (nat_le t.1 4) (within names) limits))
      (param_regs words (views + 1) types) types
      (params_fit words (views + 1) names types stand.0 stand.1.1 (and_right (same_type t (kind, n)) _ same)
      (and_right (nat_lt 0 n) _ ranks) (and_right (nat_le t.1 4) (within names) limits))

-- ---- ranks of the names' registers
array_types_ranked : (names : List Ty) → within names ≡ true → all_ranked (view_types names) ≡ true
array_types_ranked [] h = refl
array_types_ranked (t ∷ names) h = by_class (is_array t) refl
    (array_types_ranked names (and_right (nat_le t.1 4) (within names) h))
  where
    some_rank : (x : Ty) → is_array x ≡ true → nat_lt 0 x.1 ≡ true
    some_rank (kind, zero) b = not_both (sym b)
    some_rank (kind, suc m) b = lt-ltb 0 (suc m) (omega arith)

    by_class : (b : Bool) → is_array t ≡ b → all_ranked (view_types names) ≡ true →
        all_ranked (if b then t ∷ view_types names else view_types names) ≡ true
    by_class true e rest = both (both (some_rank t e) (and_left (nat_le t.1 4) (within names) h)) rest
    by_class false e rest = rest

-- ---- a kernel's entries
own_kept : (own : Kept) (found : List Kept) → keeps_local own ≡ true → list_all keeps_local found ≡ true →
    list_all keeps_local (with_own own found) ≡ true
own_kept own [] p q = both p refl
own_kept own (k ∷ found) p q =
    let k_kept = and_left (keeps_local k) (list_all keeps_local found) q in
    let first = and_left (own.register && own.kind) (own.rank && own.template) p in
    let second = and_right (own.register && own.kind) (own.rank && own.template) p in
    let one = and_left (k.register && k.kind) (k.rank && k.template) k_kept in
    let two = and_right (k.register && k.kind) (k.rank && k.template) k_kept in
    both (both (both (both (and_left own.register own.kind first) (and_left k.register k.kind one))
    (both (and_right own.register own.kind first) (and_right k.register k.kind one)))
    (both (both (and_left own.rank own.template second) (and_left k.rank k.template two))
    (both (and_right own.rank own.template second) (and_right k.rank k.template two))))
    (and_right (keeps_local k) (list_all keeps_local found) q)

module _ (f : Instance) (heads : List Head) (typed : IsWellTyped heads f) (ranks : has_ranked_params f ≡ true)
    (flat : is_flat f ≡ true) where
  abbrev kernel : Kernel
  kernel = plain_kernel f

  abbrev fresh : List Ty
  fresh = (lowered f.names f.body).fresh

  abbrev pub types : List ParamType
  types = map (λ (p : List ℕ × ParamType). p.1) f.params

  names_within : within f.names ≡ true
  names_within =
      and_left (within f.names) (within f.rets)
      (sym (list_all-append (λ (t : Ty). nat_le t.1 4) f.names f.rets) ∙ typed.ranks)

  rets_within : within f.rets ≡ true
  rets_within =
      and_right (within f.names) (within f.rets)
      (sym (list_all-append (λ (t : Ty). nat_le t.1 4) f.names f.rets) ∙ typed.ranks)

  body_kept : (all_local kernel (lowered f.names f.body).body ≡ true) × (all_ranked fresh ≡ true)
  body_kept =
      body_local heads f.names names_within kernel (holds f.names fresh kernel refl refl) f.body typed.body
      (flat_map-map (λ (names : List ℕ). names) (fold-Core (List ℕ) calls_step) f.body ∙ no_item (calls_of f.body) flat)
      (stands f.names fresh kernel refl)

  pub same_params : same_types (take (length types) f.names) (map type_of_param types) ≡ true
  same_params =
      ap₂ (λ (n : ℕ) (given : List Ty). same_types (take n f.names) given)
      (length-map f.params (λ (p : List ℕ × ParamType). p.1)) (typed_params f.params) ∙ typed.params

  pub params_kept : Fitting kernel (param_regs 0 0 types) types
  params_kept =
      params_fit kernel 0 0 f.names types (words_from kernel [] (word_kinds f.names) refl)
      (stands_split kernel 0 (view_types f.names) fresh (stands_from kernel [] (view_types f.names ++ fresh) refl)).0
      same_params ranks names_within

  -- behind kernels with other heads
  module _ (earlier : List Kernel) (apart : list_any (same_head kernel) earlier ≡ false) where
    own : keeps_local (kernel_keeps earlier kernel) ≡ true
    own =
        both (both (both params_kept.there (ap not apart)) params_kept.kinds)
        (both (both params_kept.ranked (both (list_all-append (λ (t : Ty). is_rank t.1) (view_types f.names) fresh ∙
        both (array_types_ranked f.names names_within) body_kept.1) (both rets_within params_kept.ranks))) refl)

    pub kernel_local : list_all keeps_local (kernel_findings earlier kernel) ≡ true
    kernel_local =
        own_kept (kernel_keeps earlier kernel) (body_findings kernel) own
        (found_local kernel kernel.body
        (closed_for_local kernel f.rets refl (lowered f.names f.body).body body_kept.0)
        (record { depth = 0; ends = true }) (at_start kernel))
