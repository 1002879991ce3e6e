-- The kernels of a loop program that the check takes have array parameters of one dimension at least.
use Rattle.std.proofs.Common.{arith, ◌≡◌, refl, subst, ℕ, zero, suc, ◌+◌, Bool, true, false, ◌&&◌}
use Rattle.std.proofs.Common.{List, [], ◌∷◌, ◌++◌, length, map, slice_get, Option, Some, None}
use Rattle.std.specs.Prelude.{nat_le, nat_lt}
use Rattle.std.specs.List.{list_all}
use Rattle.eager_rules.specs.declared.program.Instance.{Instance}
use Rattle.krn_base.specs.declared.kind.ParamType.{ParamType}
use Rattle.krn_base.specs.declared.kind.ParamType.TheVariants.{Scalar, Flat, Strided}
use Rattle.krn_base.specs.declared.place.Loc.{Loc}
use Rattle.lazy_expr.specs.Plain.{plain_kernel}
use Rattle.lazy_expr.specs.Promise.{has_ranked_params, is_ranked}
use Rattle.loop_prog.specs.Check.{body_findings, both_keep, broken_or, first_broken, first_flaw, flaw_of, flaw_or}
use Rattle.loop_prog.specs.Check.{kernel_findings, kernel_keeps, kernels_findings, param_is_ranked, with_own}
use Rattle.loop_prog.specs.Serial.{types_of_params}
use Rattle.loop_prog.specs.declared.invalid.InvalidRule.{InvalidRule}
use Rattle.loop_prog.specs.declared.invalid.InvalidRule.TheVariants as rule
use Rattle.loop_prog.specs.declared.kept.Kept.{Kept}
use Rattle.loop_prog.specs.declared.program.Kernel.{Kernel}
use Rattle.loop_prog.specs.declared.program.LoopProgram.{LoopProgram}
use Rattle.omp_loops.specs.Valid.{flaw_or_loop}
use Rattle.pythran_main.proofs.Loops.{and_left, and_right}

some_none : {A B : Type 0} (x : A) → Some x ≡ None → B
some_none x h = absurd (let e = h in cc)

none_some : {A B : Type 0} (x : A) → ◌≡◌ {A = Option A} None (Some x) → B
none_some x h = absurd (let e = h in cc)

abbrev Flaw : Type 0
Flaw = ℕ × InvalidRule

-- an entry that breaks no rule, and none behind it does
apart : (n : ℕ) (o : Option InvalidRule) (rest : Option Flaw) → flaw_or n o rest ≡ None → (o ≡ None) × (rest ≡ None)
apart n None rest h = (refl, h)
apart n (Some r) rest h = some_none (n, r) h

joined : (n : ℕ) (o : Option InvalidRule) (rest : Option Flaw) → o ≡ None → rest ≡ None → flaw_or n o rest ≡ None
joined n None rest e h = h
joined n (Some r) rest e h = some_none r e

kept : (b : Bool) (r : InvalidRule) (rest : Option InvalidRule) → broken_or b r rest ≡ None → (b ≡ true) × (rest ≡ None)
kept true r rest h = (refl, h)
kept false r rest h = some_none r h

rank_kept : (k : Kept) → first_broken k ≡ None → k.rank ≡ true
rank_kept k h = (kept k.rank rule.Rank _ (kept k.kind rule.Kind _ (kept k.register rule.Register _ h).1).1).0

own_rank : (own : Kept) (rest : List Kept) (n : ℕ) → first_flaw n (with_own own rest) ≡ None → own.rank ≡ true
own_rank own [] n h = rank_kept own (apart n (first_broken own) (first_flaw (n + 1) []) h).0
own_rank own (first ∷ rest) n h =
    and_left own.rank first.rank
    (rank_kept (both_keep own first) (apart n (first_broken (both_keep own first)) (first_flaw (n + 1) rest) h).0)

front : (n : ℕ) (xs ys : List Kept) → first_flaw n (xs ++ ys) ≡ None → first_flaw n xs ≡ None
front n [] ys h = refl
front n (k ∷ xs) ys h =
    let parts = apart n (first_broken k) (first_flaw (n + 1) (xs ++ ys)) h in
    joined n (first_broken k) (first_flaw (n + 1) xs) parts.0 (front (n + 1) xs ys parts.1)

behind : (n : ℕ) (xs ys : List Kept) → first_flaw n (xs ++ ys) ≡ None → first_flaw (n + length xs) ys ≡ None
behind n [] ys h =
    let same : n ≡ n + 0 = omega arith in
    subst (λ (m : ℕ). first_flaw m ys ≡ None) same h
behind n (k ∷ xs) ys h =
    let parts = apart n (first_broken k) (first_flaw (n + 1) (xs ++ ys)) h in
    let same : (n + 1) + length xs ≡ n + suc (length xs) = omega arith in
    subst (λ (m : ℕ). first_flaw m ys ≡ None) same (behind (n + 1) xs ys parts.1)

some_same : {A : Type 0} (x y : A) → Some x ≡ Some y → x ≡ y
some_same x y h = cc

kernel_ranked : (earlier kernels : List Kernel) (n k : ℕ) (kernel : Kernel)
    → first_flaw n (kernels_findings earlier kernels) ≡ None → slice_get kernels k ≡ Some kernel
    → list_all param_is_ranked (types_of_params kernel) ≡ true
kernel_ranked earlier [] n k kernel h e = none_some kernel e
kernel_ranked earlier (first ∷ rest) n zero kernel h e =
    subst (λ (x : Kernel). list_all param_is_ranked (types_of_params x) ≡ true) (some_same first kernel e)
    (and_left (list_all param_is_ranked (types_of_params first)) _
    (own_rank (kernel_keeps earlier first) (body_findings first) n
    (front n (kernel_findings earlier first) (kernels_findings (earlier ++ first ∷ []) rest) h)))
kernel_ranked earlier (first ∷ rest) n (suc k) kernel h e =
    kernel_ranked (earlier ++ first ∷ []) rest (n + length (kernel_findings earlier first)) k kernel
    (behind n (kernel_findings earlier first) (kernels_findings (earlier ++ first ∷ []) rest) h) e

one_ranked : (t : ParamType) → param_is_ranked t ≡ true → is_ranked t ≡ true
one_ranked (Scalar kind) h = refl
one_ranked (Flat kind rank) h = and_left (nat_lt 0 rank) (nat_le rank 4) h
one_ranked (Strided kind rank) h = and_left (nat_lt 0 rank) (nat_le rank 4) h

both_true : (a b : Bool) → a ≡ true → b ≡ true → a && b ≡ true
both_true true b e h = h
both_true false b e h = e

all_ranked : (ts : List ParamType) → list_all param_is_ranked ts ≡ true → list_all is_ranked ts ≡ true
all_ranked [] h = refl
all_ranked (t ∷ ts) h =
    both_true (is_ranked t) (list_all is_ranked ts)
    (one_ranked t (and_left (param_is_ranked t) (list_all param_is_ranked ts) h))
    (all_ranked ts (and_right (param_is_ranked t) (list_all param_is_ranked ts) h))

-- of a kernel that is an instance's plain form
pub plain_ranked : (loops : LoopProgram) (k : ℕ) (f : Instance) → flaw_of loops ≡ None
    → slice_get loops.kernels k ≡ Some (plain_kernel f) → has_ranked_params f ≡ true
plain_ranked loops k f h e =
    all_ranked (map (λ p. p.1) f.params) (kernel_ranked [] loops.kernels 0 k (plain_kernel f) h e)

-- what validation leaves is what the check takes
pub no_flaw : (flaw : Option Flaw) (loop : Option (ℕ × Loc)) → flaw_or_loop flaw loop ≡ None → flaw ≡ None
no_flaw None loop h = refl
no_flaw (Some x) loop h = some_none x h
