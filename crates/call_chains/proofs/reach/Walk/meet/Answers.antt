use Rattle.std.proofs.Common.{refl, ◌<◌, ◌≡◌, ◌∙◌, sym, false, arith, length, rules}
use Rattle.call_chains.specs.Sets.{marked}
use Rattle.call_chains.specs.Walks.{marks_of}
use Rattle.call_chains.proofs.WalkLaws.{grows_by_one}
use Rattle.call_chains.proofs.reach.Walk.meet.Goals as goal

pub returns-in_ok-push : goal.returns-in_ok-push
returns-in_ok-push c =
    let there : c.args.f < length (marks_of c.args.self.now) =
    omega (arith, c.if-f-len.true, c.len.ensures, c.args.self.now.marks.ok) in
    let new : marked (marks_of c.args.self.now) c.args.f ≡ false = grind (arith) in
    grows_by_one c.args.f c.args.self.now _ refl c.in_ok-push.ensures.items there new
