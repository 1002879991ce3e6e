use Rattle.std.proofs.Common.{◌≡◌, ◌++◌, drop}
use Rattle.eager_rules.specs.Running.{meanings}
use Rattle.eager_rules.specs.Works.{subscripts_of}
use Rattle.eager_rules.proofs.subscripts.subscripts.Given as goal

-- those found so far, and what is left of the subscripts by the values that are left
abbrev pub invariant-loop-sub : goal.invariant-loop-sub
invariant-loop-sub l =
    l.found ++ subscripts_of (drop l.sub-index l.subs) (meanings l.left) ≡ subscripts_of l.subs (meanings l.values)
