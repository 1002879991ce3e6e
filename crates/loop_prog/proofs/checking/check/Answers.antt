use Rattle.std.proofs.Common.{◌≡◌, ◌∙◌, ap, sym, subst, ◌+◌, List, [], ◌∷◌, ◌++◌, drop, length, take, None, Err}
use Rattle.std.specs.List.{list_any}
use Rattle.std.proofs.lemmas.List.{drop_more, take_more}
use Rattle.loop_prog.proofs.KernelWalks.{flaw_by, kernel_goes, kernel_stops}
use Rattle.loop_prog.specs.Check.{first_flaw, kernel_findings, kernels_findings, same_head}
use Rattle.loop_prog.specs.Heads.{HoldsHeads}
use Rattle.loop_prog.specs.Judging.{IsFlaw}
use Rattle.loop_prog.specs.declared.kept.Kept.{Kept}
use Rattle.loop_prog.specs.declared.program.Kernel.{Kernel}
use Rattle.loop_prog.proofs.checking.check.Goals as goal

pub returns-in-Err : goal.returns-in-Err
returns-in-Err c =
    let kernels : List Kernel = c.as_slice-kernels.result.now in
    let kernel : Kernel = c.index-kernels-k.result in
    let all : List Kept = kernels_findings [] kernels in
    let is : drop c.loop-k.k kernels ≡ kernel ∷ drop (c.loop-k.k + 1) kernels =
    drop_more kernels c.loop-k.k kernel c.loop-k-test.true ∙
    ap (λ (x : Kernel). x ∷ drop (c.loop-k.k + 1) kernels) (sym c.index-kernels-k.is) in
    let before : take c.loop-k.k kernels ++ kernel ∷ [] ≡ take (c.loop-k.k + 1) kernels =
    sym (take_more kernels c.loop-k.k kernel c.loop-k-test.true ∙
    ap (λ (x : Kernel). take c.loop-k.k kernels ++ x ∷ []) (sym c.index-kernels-k.is)) in
    let earlier : List Kernel = take c.loop-k.k kernels in
    let known : c.in-Ok.repeated ≡ list_any (same_head kernel) earlier =
    c.in-Ok.ensures.known earlier c.loop-k.invariant.1 in
    subst (λ (ks : List Kernel). IsFlaw (Err c.in-Err.stop) (first_flaw 0 (kernels_findings [] ks)))
    c.as_slice-kernels.ensures
    (flaw_by c.in-Err.stop c.check_kernel.new.number all
    (kernel_stops kernels kernel c.loop-k.k c.loop-k.number all is before c.loop-k.invariant.0
    c.in-Err.stop c.check_kernel.new.number c.check_kernel.new.number (c.in-Err.ensures earlier known)))

pub loop-k-preserved : goal.loop-k-preserved
loop-k-preserved c =
    let kernels : List Kernel = c.as_slice-kernels.result.now in
    let kernel : Kernel = c.index-kernels-k.result in
    let all : List Kept = kernels_findings [] kernels in
    let is : drop c.loop-k.k kernels ≡ kernel ∷ drop (c.loop-k.k + 1) kernels =
    drop_more kernels c.loop-k.k kernel c.loop-k-test.true ∙
    ap (λ (x : Kernel). x ∷ drop (c.loop-k.k + 1) kernels) (sym c.index-kernels-k.is) in
    let before : take c.loop-k.k kernels ++ kernel ∷ [] ≡ take (c.loop-k.k + 1) kernels =
    sym (take_more kernels c.loop-k.k kernel c.loop-k-test.true ∙
    ap (λ (x : Kernel). take c.loop-k.k kernels ++ x ∷ []) (sym c.index-kernels-k.is)) in
    let earlier : List Kernel = take c.loop-k.k kernels in
    let known : c.in-Ok.repeated ≡ list_any (same_head kernel) earlier =
    c.in-Ok.ensures.known earlier c.loop-k.invariant.1 in
    let flawless : (c.check_kernel.new.number ≡ c.loop-k.number + length (kernel_findings earlier kernel)) ×
    (first_flaw c.loop-k.number (kernel_findings earlier kernel) ≡ None) =
    c.in_default-check_kernel.ensures earlier known in (
      kernel_goes kernels kernel c.loop-k.k c.loop-k.number all is before c.loop-k.invariant.0
          c.check_kernel.new.number flawless.0 flawless.1,
      subst (HoldsHeads c.note.new.self) before (c.in-Ok.ensures.heads earlier c.loop-k.invariant.1),
    )
