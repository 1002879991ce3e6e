use Rattle.std.proofs.Common.{◌≡◌, ◌||◌, ◌<◌, length, take, ℕ}
use Rattle.call_chains.specs.Chains.{has_callee}
use Rattle.call_chains.specs.Sets.{marked}
use Rattle.call_chains.proofs.layers.mark_callees.Given as goal

abbrev pub invariant-loop-call : goal.invariant-loop-call
invariant-loop-call l = record {
  count : length l.marks ≡ length l.fn.marks;
  marks : (g : ℕ) → g < length l.fn.marks → marked l.marks g
      ≡ (marked l.fn.marks g || has_callee g (take l.call-index l.calls));
}
