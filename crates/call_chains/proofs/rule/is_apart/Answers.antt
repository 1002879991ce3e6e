use Rattle.std.proofs.Common.{◌<◌, ◌≡◌, arith, true, rules}
use Rattle.std.proofs.lemmas.Bool.Decides.{nat_tests}
use Rattle.call_chains.specs.Sets.{rank_of}
use Rattle.call_chains.proofs.RuleLaws.{not_back}
use Rattle.call_chains.proofs.rule.is_apart.Goals as goal

pub returns-then-chains : goal.returns-then-chains
returns-then-chains c = λ less.
    let chains = c.args.chains.now in
    let falls : rank_of chains.ranks.items c.args.callee < rank_of chains.ranks.items c.args.caller =
    grind (arith, nat_tests, less, c.rank_at.ensures, c.rank_at-then-chains.ensures) in
    not_back chains.rows.now chains.ranks.items c.args.callee c.args.caller (c.requires.falls c.if-chains.true) falls
