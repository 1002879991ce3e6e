use Rattle.std.proofs.Common.{◌≡◌, drop, map}
use Rattle.eager_rules.specs.Sound.{all_fit, head_of}
use Rattle.array_types.proofs.fitting.+fits.Given as goal

abbrev pub invariant-all_fit-loop-core : goal.invariant-all_fit-loop-core
invariant-all_fit-loop-core l =
    all_fit (map head_of l.instances) l.rets l.names (drop l.core-index l.block) ≡
    all_fit (map head_of l.instances) l.rets l.names l.block
