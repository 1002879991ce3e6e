use Rattle.std.proofs.Common.{◌≡◌, subst, arith, length, ℕ}
use Rattle.call_chains.specs.Least.{IsLeastBelow}
use Rattle.call_chains.proofs.rule.first_of.Goals as goal

pub returns : goal.returns
returns c =
    let chains = c.args.chains.now in
    let end : c.loop-caller.caller ≡ length chains.rows.now = omega arith in
    subst (λ n. IsLeastBelow chains.rows.now chains.exported.now n c.loop-caller.first) end c.loop-caller.invariant
