use Rattle.std.proofs.Common.{ap, ◌∙◌, length, false, rules}
use Rattle.std.proofs.lemmas.List.{length-replicate}
use Rattle.purity.proofs.WalkLaws.{spread_begun}
use Rattle.purity.proofs.reach.begun.Goals as goal

pub returns : goal.returns
returns c =
    spread_begun c.args.rows.now c.args.ends.now c.in_ok-walk.walk c.meet_all.new.self c.in_ok-walk.ensures.marks
    (ap length c.in_ok-walk.ensures.marks ∙ length-replicate _ false) c.in_ok-walk.ensures.work
    (search (rules, c.in_ok-meet_all.ensures))
