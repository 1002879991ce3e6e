-- What effects say of calls holds.
use Rattle.std.proofs.Common.{◌≡◌, ap, sym, subst, refl, inl, inr, ◌⊎◌, ◌<◌, ℕ, zero, suc, ℤ, true, List, [], ◌∷◌}
use Rattle.std.proofs.Common.{map, length}
use Rattle.std.proofs.Common.{slice_get, Some}
use Rattle.array_ops.specs.Arrays.{words_of}
use Rattle.array_ops.specs.Elements.{Bound, Unbound, WordOf, ArrayOf}
use Rattle.eager_rules.specs.Eager.{calls_at}
use Rattle.eager_rules.specs.Laws.{buffers_after}
use Rattle.eager_rules.specs.Sound.{IsSound}
use Rattle.eager_rules.specs.Types.{Ty, type_of_param}
use Rattle.eager_rules.specs.Works.{Done, Made, Failed, Blocked}
use Rattle.eager_rules.specs.declared.program.Instance.{Instance}
use Rattle.eager_rules.specs.declared.program.Program.{Program}
use Rattle.purity.specs.Answers.{AreEffects, may_fault_in, may_write_in}
use Rattle.purity.specs.Effects.{Faults, Writes}
use Rattle.purity.specs.Knowledge.{KnowsAll}
use Rattle.purity.specs.Soundness.{AreArguments, AreOfRanks, FaultsNever, IsNoFault, IsOfRank, LiesIn, WritesNoOthers}
use Rattle.purity.specs.declared.answers.Effects.{Effects}
use Rattle.purity.proofs.Holding.{Keeps, Kinds, MayChange, OfKind, Respects, Sized, Sizes}
use Rattle.purity.proofs.KeptRuns.{Quiet, callable_at}
use Rattle.purity.proofs.Learned.{all_known}

kind_is : (rank : ℕ) (v : Bound) → IsOfRank rank v → OfKind rank v
kind_is rank Unbound h = h
kind_is zero (WordOf z) h = h
kind_is zero (ArrayOf a) h = h
kind_is (suc rank) (WordOf z) h = h
kind_is (suc rank) (ArrayOf a) h = tt

size_is : (rank : ℕ) (v : Bound) → IsOfRank rank v → Sized rank v
size_is rank Unbound h = tt
size_is rank (WordOf z) h = tt
size_is zero (ArrayOf a) h = absurd h
size_is (suc rank) (ArrayOf a) h = h

kinds_are : (types : List Ty) (args : List Bound) → AreOfRanks types args → Kinds types args
kinds_are [] [] h = tt
kinds_are [] (v ∷ args) h = h
kinds_are (t ∷ types) [] h = h
kinds_are (t ∷ types) (v ∷ args) h = (kind_is t.1 v h.0, kinds_are types args h.1)

sizes_are : (types : List Ty) (args : List Bound) → AreOfRanks types args → Sizes types args
sizes_are [] [] h = tt
sizes_are [] (v ∷ args) h = h
sizes_are (t ∷ types) [] h = h
sizes_are (t ∷ types) (v ∷ args) h = (size_is t.1 v h.0, sizes_are types args h.1)

module _ (program : Program) (effects : Effects) (exact : AreEffects program effects) (sound : IsSound program) where
  abbrev Comes_to : ℕ → Instance → List Bound → List (List ℤ) → Done → Type 0
  Comes_to number f args buffers d =
      Respects program.instances number f.rets args buffers (Quiet program.instances number f args) d

  run : (number : ℕ) (f : Instance) → slice_get program.instances number ≡ Some f → (depth : ℕ) (args : List Bound)
      (buffers : List (List ℤ)) → AreArguments f args →
      Comes_to number f args buffers (calls_at program.instances depth number args buffers)
  run number f there depth args buffers are =
      callable_at program.instances sound.typed.instances depth number f there args buffers
      (kinds_are (map (λ p. type_of_param p.1) f.params) args are)

  kept_by : (number : ℕ) (f : Instance) (args : List Bound) (buffers : List (List ℤ)) (d : Done) →
      Comes_to number f args buffers d → Keeps program.instances number args buffers (buffers_after d)
  kept_by number f args buffers (Made last values) h = h.0
  kept_by number f args buffers (Failed last fault at) h = h.0
  kept_by number f args buffers (Blocked last) h = h

  pub writes_no_others : WritesNoOthers program effects
  writes_no_others number f there depth args buffers are b less =
      by_case ((kept_by number f args buffers (calls_at program.instances depth number args buffers)
      (run number f there depth args buffers are)).same b less)
    where
      after : List (List ℤ)
      after = buffers_after (calls_at program.instances depth number args buffers)

      by_case : (words_of after b ≡ words_of buffers b) ⊎ MayChange program.instances number args b →
          (words_of after b ≡ words_of buffers b)
          ⊎ ((param : ℕ) × LiesIn args param b × (may_write_in effects number param ≡ true))
      by_case (inl e) = inl e
      by_case (inr (p, lies, writes)) = inr (p, lies, exact.writes number p writes)

  pub faults_never : FaultsNever program effects
  faults_never number f there calm depth args buffers are =
      by_done (calls_at program.instances depth number args buffers) (run number f there depth args buffers are)
    where
      quiet : Quiet program.instances number f args
      quiet = (λ faults. calm (exact.faults number faults), sizes_are (map (λ p. type_of_param p.1) f.params) args are)

      by_done : (d : Done) → Comes_to number f args buffers d → IsNoFault d
      by_done (Made last values) h = tt
      by_done (Failed last fault at) h = h.1 quiet
      by_done (Blocked last) h = tt

pub effects_exact : (program : Program) (effects : Effects) → KnowsAll program.instances effects.known →
    AreEffects program effects
effects_exact program effects knows = record {
  written = λ number param e. (all_known program.instances effects.known knows number).written param e;
  writes = λ number param w. (all_known program.instances effects.known knows number).writes param w;
  faulty = λ number e. (all_known program.instances effects.known knows number).faulty e;
  faults = λ number h. (all_known program.instances effects.known knows number).faults h;
}
