use Rattle.std.proofs.Common.{refl, rules}
use Rattle.call_chains.proofs.RuleLaws.{accepted_so, first_so}
use Rattle.call_chains.proofs.rule.judged.Goals as goal

pub returns-in-None : goal.returns-in-None
returns-in-None c =
    let chains = c.in_ok-chains.chains in
    accepted_so c.args.rows.now chains.rows.now c.args.exported.now chains.exported.now c.in_ok-first_of.field-0
    c.in_ok-chains.ensures.rows c.in_ok-chains.ensures.exported c.in-None.is c.in_ok-first_of.ensures

pub returns : goal.returns
returns c =
    let chains = c.in_ok-chains.chains in (
      refl,
      first_so c.args.rows.now chains.rows.now c.args.exported.now chains.exported.now c.in_ok-first_of.field-0
          c.in-Some.loc c.in_ok-chains.ensures.rows c.in_ok-chains.ensures.exported c.in-Some.is
          c.in_ok-first_of.ensures,
    )
