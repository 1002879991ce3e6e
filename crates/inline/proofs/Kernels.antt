-- Each kernel of a program is one of its flat form, with the same head.
use Rattle.std.proofs.Common.{◌≡◌, ◌∙◌, ap, sym, refl, arith, ℕ, zero, suc, ◌+◌, ◌<◌, Bool, List, [], ◌∷◌, ◌++◌}
use Rattle.std.proofs.Common.{length, Option, Some}
use Rattle.std.proofs.lemmas.List.FromFn.{get_or-range_with_len, length-range_with_len}
use Rattle.std.proofs.lemmas.Option.{slice_get-get_or, slice_get_read, slice_get_within}
use Rattle.std.specs.Prelude.{slice_get}
use Rattle.std.specs.List.{All, flat_map, range_with_len}
use Rattle.eager_rules.specs.declared.program.Instance.{Instance}
use Rattle.eager_rules.specs.declared.program.Program.{Program}
use Rattle.inline.specs.Flat.{flat_body, flat_program, kernel_at, kernel_of}
use Rattle.inline.specs.Heads.{HasKernels}
use Rattle.inline.proofs.Takes.{none_some, some_same}

-- each number is an instance's, so kernels stand where their numbers do
pub kernel_there : (instances : List Instance) (calm : ℕ → Bool) (numbers : List ℕ) (k number : ℕ) (f : Instance) →
    All (λ n. n < length instances) numbers → slice_get numbers k ≡ Some number →
    slice_get instances number ≡ Some f →
    slice_get (flat_map (λ n. kernel_at instances calm (slice_get instances n)) numbers) k ≡
    Some (kernel_of f (flat_body instances calm f))
kernel_there instances calm [] k number f all e h = none_some number e
kernel_there instances calm (n ∷ numbers) zero number f all e h =
    ap (λ (o : Option Instance). slice_get (kernel_at instances calm o
    ++ flat_map (λ m. kernel_at instances calm (slice_get instances m)) numbers) 0)
    (ap (slice_get instances) (some_same n number e) ∙ h)
kernel_there instances calm (n ∷ numbers) (suc k) number f all e h =
    let within : n < length instances = all 0 0 (omega arith) in
    ap (λ (o : Option Instance). slice_get (kernel_at instances calm o
    ++ flat_map (λ m. kernel_at instances calm (slice_get instances m)) numbers) (suc k))
    (slice_get-get_or instances n f within) ∙
    kernel_there instances calm numbers k number f (λ i d inside. all (suc i) d (omega (arith, inside))) e h

pub counted_there : (n k : ℕ) → k < n → slice_get (range_with_len 0 n) k ≡ Some k
counted_there n k lt =
    let place : 0 + k ≡ k = omega arith in
    slice_get_read (range_with_len 0 n) n k k (sym (length-range_with_len 0 n)) lt
    (sym (get_or-range_with_len 0 n k k lt ∙ place))

pub has_kernels : (program : Program) (calm : ℕ → Bool) → HasKernels program (flat_program program calm)
has_kernels program calm = record {
  kernels = λ typed k f is.
      let flat : Program = flat_program program calm in
      let kernel : Instance = kernel_of f (flat_body program.instances calm f) in
      let there : slice_get flat.instances k ≡ Some kernel =
      kernel_there program.instances calm program.kernels k is.number f typed.kernels is.numbered is.there in
      let within : k < length flat.instances = slice_get_within flat.instances k kernel there in (
        kernel,
        (
          record { number = k; numbered = counted_there (length flat.instances) k within; there = there },
          record { name = refl; params = refl; rets = refl },
        ),
      );
}
