use Rattle.std.proofs.Common.{refl, ◌<◌, ◌≡◌, ◌∙◌, sym, false, arith, length, rules}
use Rattle.purity.specs.Marks.{marked, marks_of}
use Rattle.purity.proofs.WalkLaws.{grows_by_one}
use Rattle.purity.proofs.reach.Walk.meet.Goals as goal

pub returns-in_ok-push : goal.returns-in_ok-push
returns-in_ok-push c =
    let there : c.args.number < length (marks_of c.args.self.now) =
    omega (arith, c.if-at-len.true, c.len.ensures, c.args.self.now.marks.ok) in
    let new : marked (marks_of c.args.self.now) c.args.number ≡ false = grind (arith) in
    grows_by_one c.args.number c.args.self.now _ refl c.in_ok-push.ensures.items there new
