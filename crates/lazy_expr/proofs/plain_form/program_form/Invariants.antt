use Rattle.std.proofs.Common.{◌≡◌, ◌++◌, drop, slice_get}
use Rattle.std.specs.List.{flat_map}
use Rattle.lazy_expr.specs.Promise.{kernel_at}
use Rattle.lazy_expr.proofs.plain_form.program_form.Given as goal

-- the kernels of the numbers that are left stand behind those so far
abbrev pub invariant-loop-number : goal.invariant-loop-number
invariant-loop-number l =
    l.kernels ++ flat_map (λ number. kernel_at (slice_get l.program.instances number))
    (drop l.number-index l.program.kernels) ≡
    flat_map (λ number. kernel_at (slice_get l.program.instances number)) l.program.kernels
