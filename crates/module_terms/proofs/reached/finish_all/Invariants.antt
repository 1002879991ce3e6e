use Rattle.std.proofs.Common.{◌≡◌, map}
use Rattle.module_terms.specs.Calls.{finish}
use Rattle.module_terms.proofs.reached.finish_all.Given as goal

abbrev pub invariant-loop-reached : goal.invariant-loop-reached
invariant-loop-reached l = l.terms ≡ map finish l.yielded
