use Rattle.std.proofs.Common.{◌≡◌}
use Rattle.krn_base.specs.Numbers.{power, wrap}
use Rattle.const_fold.proofs.literals.wrapped_power.Given as goal

abbrev pub invariant-loop-factor : goal.invariant-loop-factor
invariant-loop-factor l = l.word ≡ wrap (power l.a l._factor)
