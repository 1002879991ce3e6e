use Rattle.std.proofs.Common.{arith, rules, ◌≡◌, ◌∙◌, FitsSigned, w64, to_z, of_z}
use Rattle.loop_exec.specs.Elements.{each_of}
use Rattle.loop_exec.proofs.ListLemmas.{made_more}
use Rattle.loop_exec.proofs.Words.{word_kept}
use Rattle.loop_exec.proofs.walks.make_some.Goals as goal

pub loop-done-preserved : goal.loop-done-preserved
loop-done-preserved c =
    let number : c.advance.new.walk.odometer.number ≡ c.loop-done._done =
    (let before = c.loop-done.invariant.1.0 in let next = c.advance.ensures.number in omega (arith, before, next)) in
    let fits : FitsSigned w64 c.value-in-loop-done.result = search rules in (
      made_more (each_of c.args.e.now c.args.buffers.now) c.push-in-loop-done.new.self c.loop-done.words
          c.advance.new.walk.odometer.number c.loop-done._done (to_z w64 (of_z w64 c.value-in-loop-done.result))
          c.in_ok-push-2.ensures.pushed c.loop-done.invariant.0
          (word_kept c.value-in-loop-done.result fits ∙ c.value-in-loop-done.ensures) number,
      (omega (arith, number), c.advance.ensures.stands),
    )
