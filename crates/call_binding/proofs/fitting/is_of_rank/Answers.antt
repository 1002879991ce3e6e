use Rattle.std.proofs.Common.{◌≡◌, sym, ap, length, rules, eqb}
use Rattle.call_binding.proofs.ViewLaws.{rank_is}
use Rattle.call_binding.proofs.fitting.is_of_rank.Goals as goal

pub returns : goal.returns
returns c =
    let four : length c.args.view.now.extent ≡ 4 = search rules in
    sym (ap (λ n. eqb n c.args.rank) (rank_is c.args.view.now four))
