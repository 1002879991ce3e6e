use Rattle.std.proofs.Common.{◌≡◌, drop, nat_lt}
use Rattle.std.specs.List.{list_all}
use Rattle.array_types.proofs.checked.are_there.Given as goal

abbrev pub invariant-loop-kernel : goal.invariant-loop-kernel
invariant-loop-kernel l =
    list_all (λ kernel. nat_lt kernel l.fn.instances) (drop l.kernel-index l.kernels) ≡
    list_all (λ kernel. nat_lt kernel l.fn.instances) l.kernels
