use Rattle.std.proofs.Common.{ap, ◌∙◌, length, false, rules}
use Rattle.std.proofs.lemmas.List.{length-replicate}
use Rattle.call_chains.proofs.WalkLaws.{spread_begun}
use Rattle.call_chains.proofs.reach.begun.Goals as goal

pub returns : goal.returns
returns c =
    spread_begun c.args.rows.now c.args.starts.now c.in_ok-walk.walk c.begin.new.self c.in_ok-walk.ensures.marks
    (ap length c.in_ok-walk.ensures.marks ∙ length-replicate _ false) c.in_ok-walk.ensures.work
    (search (rules, c.in_ok-begin.ensures))
