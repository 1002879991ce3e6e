use Rattle.std.proofs.Common.{◌≡◌}
use Rattle.export_sig.specs.Reading.{joined_names}
use Rattle.export_sig.proofs.clause.joined_names.Given as goal

abbrev pub invariant-loop-name : goal.invariant-loop-name
invariant-loop-name l = l.pairs.items ≡ joined_names l.join l.yielded
