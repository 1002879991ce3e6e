use Rattle.std.proofs.Common.{rules, ◌≡◌, ◌<◌, ◌∙◌, ap, subst, ℕ, ◌+◌, List, ◌∷◌, drop, length, slice_index_or}
use Rattle.std.proofs.Common.{Option, Some, None, Ok}
use Rattle.std.proofs.lemmas.List.{drop_more}
use Rattle.krn_base.specs.declared.place.Loc.{Loc}
use Rattle.loop_prog.specs.Statements.{statements}
use Rattle.loop_prog.specs.declared.program.Kernel.{Kernel}
use Rattle.loop_prog.specs.declared.program.Statement.{Statement}
use Rattle.omp_loops.specs.Seeking.{Sought}
use Rattle.omp_loops.specs.Serial.{all_serial}
use Rattle.omp_loops.proofs.Seeks.{in_kernel, kernels_further, next_kernel}
use Rattle.omp_loops.proofs.seek.seek.Goals as goal

pub returns-in-Some : goal.returns-in-Some
returns-in-Some c =
    let i : ℕ = c.loop-kernel.kernel-index in
    let kernels : List Kernel = c.args.kernels.now in
    let k : Kernel = c.kernel-item.result in
    let lt : i < length kernels = search rules in
    let found : slice_index_or kernels i k ≡ k = search rules in
    let is : drop i kernels ≡ k ∷ drop (i + 1) kernels =
    drop_more kernels i k lt ∙ ap (λ (x : Kernel). x ∷ drop (i + 1) kernels) found in
    let loop = subst (λ (o : Option Loc). Sought (Ok o) c.loop-kernel.number c.seek_in.new.number
    (statements c.as_slice.result.now) (all_serial c.as_slice.result.now)) c.in-Some.is c.in_ok-at.ensures in
    in_kernel kernels (drop (i + 1) kernels) k (drop i kernels) c.args.number.now c.loop-kernel.number is
    c.loop-kernel.invariant.0 (c.seek_in.new.number, c.in-Some.at)
    (subst (λ (b : List Statement). Sought (Ok (Some c.in-Some.at)) c.loop-kernel.number c.seek_in.new.number
    (statements b) (all_serial b)) c.as_slice.ensures loop)

pub loop-kernel-preserved : goal.loop-kernel-preserved
loop-kernel-preserved c =
    let i : ℕ = c.loop-kernel.kernel-index in
    let kernels : List Kernel = c.args.kernels.now in
    let k : Kernel = c.kernel-item.result in
    let lt : i < length kernels = search rules in
    let found : slice_index_or kernels i k ≡ k = search rules in
    let is : drop i kernels ≡ k ∷ drop (i + 1) kernels =
    drop_more kernels i k lt ∙ ap (λ (x : Kernel). x ∷ drop (i + 1) kernels) found in
    let passed = subst (λ (o : Option Loc). Sought (Ok o) c.loop-kernel.number c.seek_in.new.number
    (statements c.as_slice.result.now) (all_serial c.as_slice.result.now)) c.in_default.is c.in_ok-at.ensures in
    let clear = subst (λ (b : List Statement). Sought (Ok None) c.loop-kernel.number c.seek_in.new.number
    (statements b) (all_serial b)) c.as_slice.ensures passed in (
      next_kernel kernels (drop (i + 1) kernels) k (drop i kernels) c.args.number.now c.loop-kernel.number is
          c.loop-kernel.invariant.0 c.seek_in.new.number clear.0 clear.1.0,
      kernels_further kernels (drop (i + 1) kernels) (drop i kernels) k is c.loop-kernel.invariant.1 clear.1.1,
    )
