use Rattle.std.proofs.Common.{◌≡◌, map}
use Rattle.call_binding.specs.Views.{buffers}
use Rattle.call_binding.proofs.call.take_apart.Given as goal

abbrev pub invariant-loop-item : goal.invariant-loop-item
invariant-loop-item l =
    record {
      names : l.names.items ≡ map (λ buffer. buffer.0) (buffers l.yielded);
      arrays : l.arrays.items ≡ map (λ buffer. buffer.1) (buffers l.yielded);
    }
