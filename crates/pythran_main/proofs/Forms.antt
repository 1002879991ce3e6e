-- The plain form of a program's flat form has the outcomes of the program.
use Rattle.std.proofs.Common.{◌≡◌, ◌∙◌, ap, refl, sym, subst, ℕ, zero, suc, Bool, true, List, [], ◌∷◌, map, slice_get}
use Rattle.std.proofs.Math.Path.{fun_ext}
use Rattle.std.proofs.lemmas.List.Elements.{All-head, All-tail}
use Rattle.std.specs.List.{All, list_all}
use Rattle.eager_rules.specs.Sound.{IsSound}
use Rattle.eager_rules.specs.Statements.{calls_of}
use Rattle.eager_rules.specs.declared.program.Instance.{Instance}
use Rattle.eager_rules.specs.declared.program.Program.{Program}
use Rattle.inline.specs.Flattened.{HasNoCalls}
use Rattle.inline.specs.Heads.{HasHead}
use Rattle.inline.specs.Kept as kept
use Rattle.krn_base.specs.declared.kind.ParamType.{ParamType}
use Rattle.krn_base.specs.declared.kind.ParamType.TheVariants.{Scalar, Flat, Strided}
use Rattle.lazy_expr.specs.Promise.{ProgramKeepsOutcomes, has_flat_kernels, has_ranked_params, is_flat_at}
use Rattle.lazy_expr.specs.Promise.{is_flat_number, is_none, is_ranked}
use Rattle.loop_prog.specs.declared.program.LoopProgram.{LoopProgram}
use Rattle.pythran_main.specs.Flattening.{IsKept}
use Rattle.pythran_main.specs.declared.flattening.Flattened.{Flattened}
use Rattle.pythran_main.proofs.Flats.{fits_head}

-- ---- no kernel calls an own function

abbrev CallsNone : Instance → Type 0
CallsNone f = calls_of f.body ≡ []

flat_at : (instances : List Instance) (number : ℕ) → All CallsNone instances
    → is_flat_at (slice_get instances number) ≡ true
flat_at [] number none = refl
flat_at (f ∷ instances) zero none = ap is_none (All-head CallsNone f instances none)
flat_at (f ∷ instances) (suc number) none = flat_at instances number (All-tail CallsNone f instances none)

all_true : {A : Type 0} (test : A → Bool) (xs : List A) → ((x : A) → test x ≡ true) → list_all test xs ≡ true
all_true test [] h = refl
all_true test (x ∷ xs) h = rw (h x) (all_true test xs h)

pub flat_kernels : (program : Program) → HasNoCalls program → has_flat_kernels program ≡ true
flat_kernels program none =
    all_true (is_flat_number program) program.kernels (λ number. flat_at program.instances number none)

-- ---- parameters that are arrays have dimensions, in the words of both crates

same_rank : (t : ParamType) → is_ranked t ≡ kept.is_ranked t
same_rank (Scalar kind) = refl
same_rank (Flat kind rank) = refl
same_rank (Strided kind rank) = refl

ranked_as : (f : Instance) → has_ranked_params f ≡ true → kept.has_ranked_params f ≡ true
ranked_as f h =
    ap (λ (test : ParamType → Bool). list_all test (map (λ p. p.1) f.params)) (sym (fun_ext same_rank)) ∙ h

abbrev RankedParams : List (List ℕ × ParamType) → Type 0
RankedParams params = list_all is_ranked (map (λ p. p.1) params) ≡ true

pub ranked_head : (f g : Instance) → HasHead f g → has_ranked_params f ≡ true → has_ranked_params g ≡ true
ranked_head f g head h = subst RankedParams (sym head.params) h

pub ranked_back : (f g : Instance) → HasHead f g → has_ranked_params g ≡ true → has_ranked_params f ≡ true
ranked_back f g head h = subst RankedParams head.params h

-- ---- the outcomes of the program

pub keeps_own : (found : Flattened) (loops : LoopProgram) → IsKept found → IsSound found.program
    → ProgramKeepsOutcomes found.flat loops → ProgramKeepsOutcomes found.program loops
keeps_own found loops is_kept sound outcomes kernel f is ranked call fits =
    let (g, (at, head)) = is_kept.kernels.kernels is_kept.typed kernel f is in
    outcomes kernel g at (ranked_head f g head ranked) call (fits_head f g call head fits)
    ∙ is_kept.outcomes sound kernel f is (ranked_as f ranked) call fits
