use Rattle.std.proofs.Common.{◌≡◌, drop, Some}
use Rattle.krn_base.specs.declared.kind.Kind.TheVariants.{Int64}
use Rattle.std.specs.List.{list_all}
use Rattle.eager_rules.specs.Sound.{has_type}
use Rattle.array_types.proofs.fitting.pairs_fit.Given as goal

abbrev pub invariant-loop-pair : goal.invariant-loop-pair
invariant-loop-pair l =
    list_all (λ p. has_type l.names p.1 (Some (Int64, 0))) (drop l.pair-index l.pairs) ≡
    list_all (λ p. has_type l.names p.1 (Some (Int64, 0))) l.pairs
