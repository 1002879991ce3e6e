use Rattle.std.proofs.Common.{◌≡◌, ◌∙◌, codes, rules}
use Rattle.std.proofs.lemmas.Result.{IfOk-weaker}
use Rattle.call_binding.specs.Reading.{after, by_buf, item}
use Rattle.call_binding.proofs.Soundness.{read_sound}
use Rattle.call_binding.proofs.read.read_item.Goals as goal

pub returns-in-Some-clause-sound : goal.returns-in-Some-clause-sound
returns-in-Some-clause-sound c =
    let left = c.in-Some.left.now in
    let is : by_buf left c.in-Some.right.now (after (codes "buf:") left) ≡ item c.args.text.now = search rules in
    IfOk-weaker c.read_sides.result _ _ (λ read e. read_sound c.args.text.now read c.utf8.text (e ∙ is))
    c.read_sides.ensures
