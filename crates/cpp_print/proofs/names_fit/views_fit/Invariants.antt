use Rattle.std.proofs.Common.{◌≡◌, length, map}
use Rattle.cpp_print.specs.Printable.{views_fit}
use Rattle.cpp_print.proofs.names_fit.views_fit.Given as goal

abbrev pub decreases-loop-left : goal.decreases-loop-left
decreases-loop-left l = length l.left

abbrev pub invariant-loop-left : goal.invariant-loop-left
invariant-loop-left l = views_fit (map (λ p. p.1) l.left) l.free ≡ views_fit (map (λ p. p.1) l.params) l.views
