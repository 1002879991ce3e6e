-- A program has one flat form, and what flattening and folding keep is kept by both.
use Rattle.std.proofs.Common.{◌≡◌, ◌∙◌, ap, refl, sym, ℕ, Bool, true, false, not, ◌&&◌, List, length, map}
use Rattle.std.proofs.Common.{Option, Some, None, Result, Ok, Err, subst}
use Rattle.std.proofs.Math.Path.{fun_ext}
use Rattle.std.specs.List.{list_all, range_with_len}
use Rattle.const_fold.specs.Folded.{folded_program}
use Rattle.eager_rules.specs.Fits.{Fits}
use Rattle.eager_rules.specs.Kept.{FitsInstance, IsKernel}
use Rattle.eager_rules.specs.Sound.{IsSound, IsTyped}
use Rattle.eager_rules.specs.declared.call.Call.{Call}
use Rattle.eager_rules.specs.declared.program.Instance.{Instance}
use Rattle.eager_rules.specs.declared.program.Program.{Program}
use Rattle.export_sig.specs.declared.signature.Signature.{Signature}
use Rattle.inline.specs.Flat.{flat_program}
use Rattle.inline.specs.Flattened.{HasNoCalls, IsStop}
use Rattle.inline.specs.Heads.{HasHead, HasKernels}
use Rattle.inline.specs.Idle.{calm_by}
use Rattle.inline.specs.Kept.{HasOutcomes, RankedOutcomes}
use Rattle.inline.specs.Limits.{refusal}
use Rattle.krn_base.specs.declared.refusal.Refusal.{Refusal}
use Rattle.krn_base.specs.declared.refusal.Stop.{Stop}
use Rattle.krn_base.specs.declared.refusal.Stop.TheVariants as stop
use Rattle.purity.specs.Answers.{AreEffects, may_fault_in, may_write_in}
use Rattle.purity.specs.declared.answers.Effects.{Effects}
use Rattle.pythran_main.specs.Flattening.{Flattens, IsFlatForm, IsFlattened, IsKept}
use Rattle.pythran_main.specs.Layers.{IsOne}
use Rattle.pythran_main.specs.Reading.{Answered}
use Rattle.pythran_main.specs.declared.flattening.Flattened.{Flattened}

none_some : {A : Type 0} (o : Option A) (x : A) → o ≡ None → o ≡ Some x → ⊥
none_some o x e f = cc

some_same : {A : Type 0} (x y : A) → Some x ≡ Some y → x ≡ y
some_same x y h = cc

-- ---- one form

same_test : (a b : Bool) → (a ≡ true → b ≡ true) → (b ≡ true → a ≡ true) → a ≡ b
same_test true b f g = sym (f refl)
same_test false true f g = g refl
same_test false false f g = refl

module _ (program : Program) (e d : Effects) (one : AreEffects program e) (other : AreEffects program d) where
  same_writes : (number param : ℕ) → may_write_in e number param ≡ may_write_in d number param
  same_writes number param =
      same_test (may_write_in e number param) (may_write_in d number param)
      (λ h. other.writes number param (one.written number param h))
      (λ h. one.writes number param (other.written number param h))

  same_faults : (number : ℕ) → may_fault_in e number ≡ may_fault_in d number
  same_faults number =
      same_test (may_fault_in e number) (may_fault_in d number) (λ h. other.faults number (one.faulty number h))
      (λ h. one.faults number (other.faulty number h))

  same_calm : (number : ℕ) (o : Option Instance) → calm_by e number o ≡ calm_by d number o
  same_calm number None = refl
  same_calm number (Some f) =
      let params : List ℕ = range_with_len 0 (length f.params) in
      ap (λ (b : Bool). not b && list_all (λ param. not (may_write_in e number param)) params) (same_faults number)
      ∙ ap (λ (test : ℕ → Bool). not (may_fault_in d number) && list_all (λ param. not (test param)) params)
      (fun_ext (same_writes number))

one_form : (program flat form : Program) → IsFlatForm program flat → IsFlatForm program form → flat ≡ form
one_form program flat form one other =
    one.form
    ∙ ap (λ (calm : ℕ → Bool). folded_program (flat_program program calm))
    (fun_ext (λ number. same_calm program one.effects other.effects one.exact other.exact number _))
    ∙ sym other.form

same_found : (x y : Flattened) → x.program ≡ y.program → x.flat ≡ y.flat → x ≡ y
same_found x y e f =
    ap (λ (p : Program). let made : Flattened = record { program = p; flat = x.flat } in made) e
    ∙ ap (λ (p : Program). let made : Flattened = record { program = y.program; flat = p } in made) f

module _ (signatures : List Signature) (program : Program) where
  pub flattened_so : (found : Flattened) → IsFlattened signatures program found
      → IsOne (Flattens signatures program) (Ok found)
  flattened_so found is = record { gives = is; alone = alone }
    where
      alone : (other : Result Flattened Refusal) → Flattens signatures program other → other ≡ Ok found
      alone (Ok x) h =
          ap (λ (y : Flattened). Ok y)
          (same_found x found (h.is_same ∙ sym is.is_same)
          (one_form program x.flat found.flat h.flat_form is.flat_form))
      alone (Err r) h = absurd (none_some (refusal program signatures) r is.accepted h)

  pub refused_so : (s : Stop) → IsStop (refusal program signatures) s
      → Answered (IsOne (Flattens signatures program)) (Err s)
  refused_so (stop.Refused r) is = record { gives = is; alone = alone }
    where
      alone : (other : Result Flattened Refusal) → Flattens signatures program other → other ≡ Err r
      alone (Ok x) h = absurd (none_some (refusal program signatures) r h.accepted is)
      alone (Err q) h = ap (λ (x : Refusal). Err x) (some_same q r (sym h ∙ is))
  refused_so stop.Memory is = tt

-- ---- what is kept

same_head : (f g h : Instance) → HasHead f g → HasHead g h → HasHead f h
same_head f g h one two = record {
  name = two.name ∙ one.name;
  params = two.params ∙ one.params;
  rets = two.rets ∙ one.rets;
}

pub fits_head : (f g : Instance) (call : Call) → HasHead f g → FitsInstance f call → FitsInstance g call
fits_head f g call head fits = subst (λ ps. Fits (map (λ p. p.1) ps) call) (sym head.params) fits

abbrev HasHeads : Program → Program → Type 0
HasHeads flat folded =
    (kernel : ℕ) (f : Instance) → IsKernel flat kernel f → (g : Instance) × (IsKernel folded kernel g × HasHead f g)

module _ (program flat folded : Program) (heads : HasHeads flat folded) (kernels : HasKernels program flat) where
  both_kernels : HasKernels program folded
  both_kernels = record { kernels = both }
    where
      both : IsTyped program → HasHeads program folded
      both typed kernel f is =
          let (g, (at, head)) = kernels.kernels typed kernel f is in
          let (h, (there, as_head)) = heads kernel g at in
          (h, (there, same_head f g h head as_head))

  both_outcomes : IsTyped program → RankedOutcomes program flat → HasOutcomes flat folded
      → RankedOutcomes program folded
  both_outcomes typed one two kernel f is ranked call fits =
      let (g, (at, head)) = kernels.kernels typed kernel f is in
      two kernel g at call (fits_head f g call head fits) ∙ one kernel f is ranked call fits

  pub kept_so : IsTyped program → HasNoCalls flat → (HasNoCalls flat → HasNoCalls folded)
      → (IsSound program → IsSound flat) → (IsSound flat → IsSound folded)
      → (IsSound program → RankedOutcomes program flat) → (IsSound flat → HasNoCalls flat → HasOutcomes flat folded)
      → IsKept (let made : Flattened = record { program = program; flat = folded } in made)
  kept_so typed none still sound more outcomes more_outcomes = record {
    typed = typed;
    no_calls = still none;
    kernels = both_kernels;
    sound = λ s. more (sound s);
    outcomes = λ s. both_outcomes typed (outcomes s) (more_outcomes (sound s) none);
  }
