-- What the buffers of a call hold in the end, and what is stored of them.
use Rattle.std.proofs.Common.{◌≡◌, ◌∙◌, ℕ, zero, suc, arith, ◌<◌, ℤ, Bool, List, [], ◌∷◌, map, length, Option, Some}
use Rattle.std.proofs.Common.{None, slice_get, is_some, refl, sym, ap, subst}
use Rattle.std.proofs.lemmas.List.Elements.{All-nil, All-cons, All-head, All-tail, All-weaker}
use Rattle.std.specs.List.{All, AllByRecursion}
use Rattle.array_ops.specs.Arrays.{words_of}
use Rattle.call_binding.specs.Binding.{BoundMeaning}
use Rattle.call_binding.specs.Fitting.{IsFitting, IsSave}
use Rattle.call_binding.specs.Sound.{IsArray}
use Rattle.call_binding.specs.declared.head.BoundCall.{BoundCall}
use Rattle.call_binding.specs.declared.head.KernelHead.{KernelHead}
use Rattle.call_binding.specs.declared.head.Save as bound_save
use Rattle.call_report.specs.Report.{report_of}
use Rattle.eager_rules.specs.Fits.{Fits, IsFilled, IsOfKind}
use Rattle.eager_rules.specs.Kept.{holding, IsKernel}
use Rattle.eager_rules.specs.Kept as kept
use Rattle.eager_rules.specs.Outcome.{outcome_of, outcome_by}
use Rattle.eager_rules.specs.Outcome as outcome
use Rattle.eager_rules.specs.Sound.{IsTyped}
use Rattle.eager_rules.specs.State.{bound_to}
use Rattle.eager_rules.specs.declared.call.Call.{Call}
use Rattle.eager_rules.specs.declared.outcome.Counts.{Counts}
use Rattle.eager_rules.specs.declared.outcome.Outcome.{Outcome}
use Rattle.eager_rules.specs.declared.program.Instance.{Instance}
use Rattle.eager_rules.specs.declared.program.Program.{Program}
use Rattle.krn_base.specs.declared.kind.Kind.{Kind}
use Rattle.krn_base.specs.declared.kind.Kind.TheVariants.{Int64, Bool as BoolKind}
use Rattle.krn_base.specs.declared.kind.ParamType.{ParamType}
use Rattle.np_file.specs.Npy.{IsWritable, IsTruth, AreWords}
use Rattle.view_places.specs.declared.shape.Array.{Array}
use Rattle.pythran_main.specs.Answer.{with_words, final_arrays, saved_of, buffer_heads, Run}
use Rattle.pythran_main.specs.Answer.{head_by, head_of, heads_of, Product, product_of}
use Rattle.pythran_main.specs.Kernel.{outcome_in, outcome_at, outcome_on}
use Rattle.pythran_main.specs.Saves.{Save}
use Rattle.pythran_main.specs.Steps.{IsCall, KeepsBuffers}

none_some : {A : Type 0} (x : A) → None ≡ Some x → ⊥
none_some x h = cc

some_same : {A : Type 0} (x y : A) → Some x ≡ Some y → x ≡ y
some_same x y h = cc

-- ---- arrays that may be written

truths : (zs : List ℤ) → All (IsOfKind BoolKind) zs → AllByRecursion IsTruth zs
truths [] h = tt
truths (z ∷ zs) h = (All-head (IsOfKind BoolKind) z zs h, truths zs (All-tail (IsOfKind BoolKind) z zs h))

are_words : (kind : Kind) (zs : List ℤ) → All (IsOfKind kind) zs → AreWords kind zs
are_words Int64 zs h = tt
are_words BoolKind zs h = truths zs h

writable : (a : Array) (words : List ℤ) → IsArray a → IsFilled (with_words (a, words))
    → IsWritable (with_words (a, words))
writable a words is filled = record {
  shape = is.shape;
  rank = is.rank;
  small = is.small;
  count = filled.size;
  words = are_words a.kind words filled.words;
}

pub all_writable : (arrays : List Array) (words : List (List ℤ)) → All IsArray arrays
    → All IsFilled (final_arrays arrays words) → All IsWritable (final_arrays arrays words)
all_writable [] words h f = All-nil IsWritable
all_writable (a ∷ arrays) [] h f = All-nil IsWritable
all_writable (a ∷ arrays) (w ∷ words) h f =
    let one : Array = with_words (a, w) in
    let rest : List Array = final_arrays arrays words in
    All-cons IsWritable one rest
    (writable a w (All-head IsArray a arrays h) (All-head IsFilled one rest f))
    (all_writable arrays words (All-tail IsArray a arrays h) (All-tail IsFilled one rest f))

count_of : (arrays : List Array) (words : List (List ℤ)) → length words ≡ length arrays
    → length (final_arrays arrays words) ≡ length arrays
count_of [] words e = refl
count_of (a ∷ arrays) [] e = e
count_of (a ∷ arrays) (w ∷ words) e =
    let less : length words ≡ length arrays = omega (arith, e) in ap suc (count_of arrays words less)

-- saved buffers are among the final ones
pub saves_there : (arrays : List Array) (words : List (List ℤ)) (saves : List bound_save.Save)
    → length words ≡ length arrays → All (IsSave arrays) saves → All (IsSave (final_arrays arrays words)) saves
saves_there arrays words saves e h =
    All-weaker (IsSave arrays) (IsSave (final_arrays arrays words))
    (λ save is. record {
      buffer = subst (λ (n : ℕ). save.buffer < n) (sym (count_of arrays words e)) is.buffer;
      path = is.path;
    }) saves h

-- what a run makes
pub product_so : (b : BoundMeaning) (run : Run) (text : List ℕ) (fault : Bool) (files : List Save)
    → text ≡ report_of (buffer_heads b.names b.arrays) run.outcome run.counts → fault ≡ is_some run.outcome.fault
    → files ≡ map (saved_of (final_arrays b.arrays run.outcome.buffers)) b.saves
    → (let made : Product = record { output = text; has_fault = fault; saves = files } in made) ≡ product_of b run
product_so b run text fault files e f g =
    let p : Product = product_of b run in
    ap (λ (t : List ℕ). let made : Product = record { output = t; has_fault = fault; saves = files } in made) e
    ∙ ap (λ (t : Bool). let made : Product = record { output = p.output; has_fault = t; saves = files } in made) f
    ∙ ap (λ (t : List Save).
    let made : Product = record { output = p.output; has_fault = p.has_fault; saves = t } in made) g

-- a run by what it gives and what it counts
pub run_so : (o other : Outcome) (counts others : Option Counts) → o ≡ other → counts ≡ others
    → (let R : Run = record { outcome = o; counts = counts } in R)
    ≡ (let R : Run = record { outcome = other; counts = others } in R)
run_so o other counts others e f =
    ap (λ (x : Outcome). let R : Run = record { outcome = x; counts = counts } in R) e
    ∙ ap (λ (x : Option Counts). let R : Run = record { outcome = other; counts = x } in R) f

-- ---- what a run leaves

-- each buffer's words fill its array, one after another
all_filled : (arrays : List Array) (words : List (List ℤ)) → length words ≡ length arrays
    → ((number : ℕ) (a : Array) → slice_get arrays number ≡ Some a → IsFilled (holding (words_of words number) a))
    → All IsFilled (final_arrays arrays words)
all_filled [] words count each = All-nil IsFilled
all_filled (a ∷ arrays) [] count each = All-nil IsFilled
all_filled (a ∷ arrays) (w ∷ words) count each =
    let less : length words ≡ length arrays = omega (arith, count) in
    All-cons IsFilled (with_words (a, w)) (final_arrays arrays words) (each 0 a refl)
    (all_filled arrays words less (λ number b is. each (suc number) b is))

pub keeps : (call : Call) (o : Outcome) → kept.KeepsBuffers call o → KeepsBuffers call.buffers o.buffers
keeps call o k = record { count = k.count; filled = all_filled call.buffers o.buffers k.count k.filled }

-- ---- what a call gives has no strides

by_instance : (program : Program) (call : Call) (o : Option Instance)
    → outcome_by program.instances call o ≡ outcome_in program.instances call.buffers (map bound_to call.args) o
by_instance program call None = refl
by_instance program call (Some f) = refl

pub as_bound : (program : Program) (kernel : ℕ) (call : Call)
    → outcome_of program kernel call ≡ outcome_on program kernel call.buffers (map bound_to call.args)
as_bound program kernel call = by_number (slice_get program.kernels kernel)
  where
    by_number : (o : Option ℕ)
        → outcome.outcome_at program o call ≡ outcome_at program.instances call.buffers (map bound_to call.args) o
    by_number None = refl
    by_number (Some number) = by_instance program call (slice_get program.instances number)

-- ---- a bound call is one of the program's

mapped : {A B : Type 0} (f : A → B) (xs : List A) (k : ℕ) (y : B) → slice_get (map f xs) k ≡ Some y
    → (x : A) × (slice_get xs k ≡ Some x) × (f x ≡ y)
mapped f [] k y is = absurd (none_some y is)
mapped f (x ∷ xs) zero y is = (x, refl, some_same (f x) y is)
mapped f (x ∷ xs) (suc k) y is = mapped f xs k y is

each_one : {A : Type 0} (P : A → Type 0) (xs : List A) (k : ℕ) (x : A) → All P xs → slice_get xs k ≡ Some x → P x
each_one P [] k x h is = absurd (none_some x is)
each_one P (y ∷ ys) zero x h is = subst P (some_same y x is) (All-head P y ys h)
each_one P (y ∷ ys) (suc k) x h is = each_one P ys k x (All-tail P y ys h) is

is_there : {A : Type 0} (xs : List A) (k : ℕ) → k < length xs → (x : A) × (slice_get xs k ≡ Some x)
is_there [] k lt = absurd (omega (arith, lt))
is_there (x ∷ xs) zero lt = (x, refl)
is_there (x ∷ xs) (suc k) lt = is_there xs k (omega (arith, lt))

-- what binding relies on holds of the call of a bound kernel
pub called : (program : Program) (heads : List KernelHead) (name : List ℕ) (bound : BoundCall) → IsTyped program
    → heads ≡ heads_of program → IsFitting heads name bound → IsCall program bound.kernel bound.call
called program heads name bound typed same fitting =
    let At : List KernelHead → Type 0 = λ hs. slice_get hs bound.kernel ≡ Some fitting.head in
    let (number, numbered, head_is) = mapped (head_of program.instances) program.kernels bound.kernel fitting.head
    (subst At same fitting.is_there) in
    let within : number < length program.instances = each_one (λ n. n < length program.instances) program.kernels
    bound.kernel number typed.kernels numbered in
    let (f, there) = is_there program.instances number within in
    let params : fitting.head.params ≡ f.params =
    ap (λ (h : KernelHead). h.params) (sym head_is) ∙ ap (λ (o : Option Instance). (head_by o).params) there in
    let Fit : List (List ℕ × ParamType) → Type 0 = λ ps. Fits (map (λ p. p.1) ps) bound.call in
    record {
      instance = f;
      is = record { number = number; numbered = numbered; there = there };
      fits = subst Fit params fitting.fits;
    }
