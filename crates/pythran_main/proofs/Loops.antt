-- What a loop program counts has no strides either, and a call that fits a kernel fits its plain form.
use Rattle.std.proofs.Common.{arith, ◌≡◌, ◌∙◌, ap, map, refl, subst, sym, ℕ, zero, suc, ◌<◌, length, Option, Some, None}
use Rattle.std.proofs.Common.{slice_get, List, [], ◌∷◌, ◌++◌, Bool, true, false, ◌&&◌}
use Rattle.std.proofs.lemmas.List.Elements.{All-nil, All-cons, All-head, All-tail}
use Rattle.std.specs.List.{All, flat_map, list_all}
use Rattle.eager_rules.specs.Fits.{Fits}
use Rattle.eager_rules.specs.Kept.{FitsInstance}
use Rattle.eager_rules.specs.Sound.{IsSound, IsTyped, is_assigned}
use Rattle.eager_rules.specs.State.{bound_to}
use Rattle.eager_rules.specs.declared.call.Call.{Call}
use Rattle.eager_rules.specs.declared.program.Instance.{Instance}
use Rattle.eager_rules.specs.declared.program.Program.{Program}
use Rattle.lazy_expr.specs.Plain.{plain_kernel}
use Rattle.lazy_expr.specs.Promise.{kernel_at}
use Rattle.loop_prog.specs.Serial.{outcome_by, serial, types_of_params}
use Rattle.loop_prog.specs.declared.program.Kernel.{Kernel}
use Rattle.loop_prog.specs.declared.program.LoopProgram.{LoopProgram}
use Rattle.pythran_main.specs.Kernel.{counts_in, counts_on}

by_kernel : (call : Call) (o : Option Kernel)
    → (outcome_by call o).1 ≡ counts_in call.buffers (map bound_to call.args) o
by_kernel call None = refl
by_kernel call (Some kernel) = refl

pub and_left : (a b : Bool) → a && b ≡ true → a ≡ true
and_left true b h = refl
and_left false b h = h

pub and_right : (a b : Bool) → a && b ≡ true → b ≡ true
and_right true b h = h
and_right false b h = absurd (let e : false ≡ true = h in cc)

pub counts_as_bound : (loops : LoopProgram) (kernel : ℕ) (call : Call)
    → (serial loops kernel call).1 ≡ counts_on loops kernel call.buffers (map bound_to call.args)
counts_as_bound loops kernel call = by_kernel call (slice_get loops.kernels kernel)

some_same : {A : Type 0} (x y : A) → Some x ≡ Some y → x ≡ y
some_same x y h = cc

none_some : {A : Type 0} (x : A) → None ≡ Some x → ⊥
none_some x h = cc

there_is : (xs : List Instance) (j : ℕ) → j < length xs → (x : Instance) × (slice_get xs j ≡ Some x)
there_is [] j lt = absurd (omega (arith, lt))
there_is (x ∷ xs) zero lt = (x, refl)
there_is (x ∷ xs) (suc j) lt = there_is xs j (omega (arith, lt))

-- each kernel of a program whose kernels are numbers of instances has its plain form at its number
abbrev plain_of : List Instance → List ℕ → List Kernel
plain_of instances kernels = flat_map (λ n. kernel_at (slice_get instances n)) kernels

pub plain_there : (instances : List Instance) (kernels : List ℕ) → All (λ n. n < length instances) kernels
    → (k number : ℕ) (f : Instance) → slice_get kernels k ≡ Some number → slice_get instances number ≡ Some f
    → slice_get (plain_of instances kernels) k ≡ Some (plain_kernel f)
plain_there instances [] all k number f is there = absurd (none_some number is)
plain_there instances (n ∷ kernels) all zero number f is there =
    let found : (x : Instance) × (slice_get instances n ≡ Some x) =
    there_is instances n (All-head (λ m. m < length instances) n kernels all) in
    let same : n ≡ number = some_same n number is in
    let one : found.0 ≡ f = some_same found.0 f (sym found.1 ∙ ap (slice_get instances) same ∙ there) in
    ap (λ (o : Option Instance). slice_get (kernel_at o ++ plain_of instances kernels) 0) found.1
    ∙ ap (λ (x : Instance). Some (plain_kernel x)) one
plain_there instances (n ∷ kernels) all (suc k) number f is there =
    let found : (x : Instance) × (slice_get instances n ≡ Some x) =
    there_is instances n (All-head (λ m. m < length instances) n kernels all) in
    ap (λ (o : Option Instance). slice_get (kernel_at o ++ plain_of instances kernels) (suc k)) found.1
    ∙ plain_there instances kernels (All-tail (λ m. m < length instances) n kernels all) k number f is there

pub fits_plain : (loops : LoopProgram) (kernel : ℕ) (call : Call) (f : Instance) → FitsInstance f call
    → slice_get loops.kernels kernel ≡ Some (plain_kernel f) → (k : Kernel)
    → slice_get loops.kernels kernel ≡ Some k → Fits (types_of_params k) call
fits_plain loops kernel call f fits is k there =
    let same : plain_kernel f ≡ k = some_same (plain_kernel f) k (sym is ∙ there) in
    subst (λ (x : Kernel). Fits (types_of_params x) call) same fits

-- a test of all items holds of each
pub each_test : {A : Type 0} (test : A → Bool) (xs : List A) → list_all test xs ≡ true → All (λ x. test x ≡ true) xs
each_test test [] h = All-nil (λ x. test x ≡ true)
each_test test (x ∷ xs) h =
    All-cons (λ y. test y ≡ true) x xs (and_left (test x) (list_all test xs) h)
    (each_test test xs (and_right (test x) (list_all test xs) h))

-- a typed program that reads nothing unbound is sound
pub sound_by_test : (program : Program) → IsTyped program → list_all is_assigned program.instances ≡ true
    → IsSound program
sound_by_test program typed test =
    record { typed = typed; assigned = each_test is_assigned program.instances test }
