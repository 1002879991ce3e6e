use Rattle.std.proofs.Common.{◌≡◌, ◌++◌, length, map}
use Rattle.loop_prog.specs.Heads.{key}
use Rattle.loop_prog.proofs.known.head_key.Given as goal

abbrev pub invariant-loop-rest : goal.invariant-loop-rest
invariant-loop-rest l =
    l.key.items ++ key (map (λ p. p.1) l.rest) l.name ≡ key (map (λ p. p.1) l.params) l.name

abbrev pub decreases-loop-rest : goal.decreases-loop-rest
decreases-loop-rest l = length l.rest
