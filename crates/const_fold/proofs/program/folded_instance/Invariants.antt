use Rattle.std.proofs.Common.{◌≡◌, ◌+◌}
use Rattle.eager_rules.specs.declared.program.Instance.{Instance}
use Rattle.const_fold.specs.Folded.{bindings, folded_instance, round, rounds}
use Rattle.const_fold.proofs.program.folded_instance.Given as goal

-- what is left of the rounds
abbrev pub invariant-loop-after : goal.invariant-loop-after
invariant-loop-after l = record {
  last : (last : Instance) × (l.folded ≡ round last) × (l.before ≡ bindings last) ×
      (rounds (l.before + 1) last ≡ folded_instance l.f);
  after : l.after ≡ bindings l.folded;
}

abbrev pub decreases-loop-after : goal.decreases-loop-after
decreases-loop-after l = l.before
