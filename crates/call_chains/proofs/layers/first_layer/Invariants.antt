use Rattle.std.proofs.Common.{◌≡◌, ◌==◌, ◌<◌, length, take, ℕ}
use Rattle.std.specs.List.{list_any}
use Rattle.call_chains.specs.Sets.{marked}
use Rattle.call_chains.proofs.layers.first_layer.Given as goal

abbrev pub invariant-loop-f : goal.invariant-loop-f
invariant-loop-f l = record {
  count : length l.marks.items ≡ length l.rows;
  marks : (g : ℕ) → g < length l.rows → marked l.marks.items g ≡ list_any (λ f. f == g) (take l.f-index l.exported);
}
