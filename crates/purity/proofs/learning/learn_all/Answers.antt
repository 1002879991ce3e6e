use Rattle.std.proofs.Common.{arith, ◌≡◌, ◌∙◌, ◌<◌, ap, length, None, replicate}
use Rattle.std.proofs.lemmas.List.{length-replicate}
use Rattle.purity.proofs.Learned.{known_more, nothing_known}
use Rattle.purity.proofs.learning.learn_all.Goals as goal

pub loop-number-init : goal.loop-number-init
loop-number-init c =
    let e : c.in_ok-known.known.items ≡ replicate (length c.args.instances.now) None = c.in_ok-known.ensures in
    record {
      knowledge = nothing_known c.args.instances.now c.in_ok-known.known.items e
          (ap length e ∙ length-replicate (length c.args.instances.now) None);
      all = λ k less. absurd (omega (arith, less));
    }

pub loop-number-preserved : goal.loop-number-preserved
loop-number-preserved c =
    let at : c.loop-number.number < length c.args.instances.now = omega arith in
    record {
      knowledge = c.in_ok-visit.ensures.knowledge;
      all = known_more c.args.instances.now c.loop-number.number c.loop-number.known.items c.visit.new.known.items at
          c.loop-number.invariant.all c.in_ok-visit.ensures;
    }

pub returns : goal.returns
returns c = record {
  knowledge = c.loop-number.invariant.knowledge;
  all = λ k less. c.loop-number.invariant.all k (omega (arith, less));
}
