use Rattle.const_fold.specs.Folded.{folded_instance}
use Rattle.const_fold.proofs.RoundLaws.{another_round}
use Rattle.const_fold.proofs.program.folded_instance.Goals as goal

pub loop-after-preserved : goal.loop-after-preserved
loop-after-preserved c = record {
  last = (
    c.loop-after.folded,
    c.in_ok-folded-2.ensures,
    c.loop-after.invariant.after,
    another_round c.loop-after.before c.loop-after.after c.loop-after.invariant.last.0 c.loop-after.folded
        c.args.f.now (folded_instance c.args.f.now) c.loop-after.invariant.last.1 c.loop-after.invariant.last.2
        c.loop-after.invariant.after c.loop-after.invariant.last.3 c.loop-after-test.true,
  );
  after = c.in_ok-after-2.ensures;
}
