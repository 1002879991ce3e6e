use Rattle.std.proofs.Common.{◌≡◌, drop}
use Rattle.omp_loops.specs.Loops.{all_statements}
use Rattle.omp_loops.specs.Seeking.{Left}
use Rattle.omp_loops.specs.Serial.{kernels_serial}
use Rattle.omp_loops.proofs.seek.seek.Given as goal

-- the first loop of the kernels that are left, from here, is that of all, and so is the test
abbrev pub invariant-loop-kernel : goal.invariant-loop-kernel
invariant-loop-kernel l =
    Left l.number (all_statements (drop l.kernel-index l.kernels)) l.fn.number (all_statements l.kernels)
    × (kernels_serial (drop l.kernel-index l.kernels) ≡ kernels_serial l.kernels)
