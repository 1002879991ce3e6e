use Rattle.std.proofs.Common.{◌≡◌, ◌++◌, drop, slice_get}
use Rattle.std.specs.List.{flat_map}
use Rattle.inline.specs.Flat.{kernel_at}
use Rattle.inline.specs.Idle.{calm_in}
use Rattle.inline.proofs.flat_form.flat_kernels.Given as goal

-- the kernels of the numbers that are left stand behind those so far
abbrev pub invariant-loop-number : goal.invariant-loop-number
invariant-loop-number l =
    l.kernels ++ flat_map (λ number. kernel_at l.program.instances (calm_in l.program l.effects)
    (slice_get l.program.instances number)) (drop l.number-index l.program.kernels) ≡
    flat_map (λ number. kernel_at l.program.instances (calm_in l.program l.effects)
    (slice_get l.program.instances number)) l.program.kernels
