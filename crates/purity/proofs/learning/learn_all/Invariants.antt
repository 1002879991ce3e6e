use Rattle.std.proofs.Common.{◌≡◌, ◌<◌, ℕ, true}
use Rattle.purity.specs.Knowledge.{IsKnowledge, is_known}
use Rattle.purity.proofs.learning.learn_all.Given as goal

abbrev pub invariant-loop-number : goal.invariant-loop-number
invariant-loop-number l = record {
  knowledge : IsKnowledge l.instances l.known.items;
  all : (k : ℕ) → k < l.number → is_known l.known.items k ≡ true;
}
