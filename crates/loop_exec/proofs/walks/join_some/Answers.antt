use Rattle.std.proofs.Common.{arith, rules, ◌≡◌, ◌∙◌, FitsSigned, w64, to_z, of_z}
use Rattle.loop_exec.specs.Elements.{each_of}
use Rattle.loop_exec.proofs.ListLemmas.{joined_more}
use Rattle.loop_exec.proofs.Words.{word_kept}
use Rattle.loop_exec.proofs.walks.join_some.Goals as goal

pub loop-done-preserved : goal.loop-done-preserved
loop-done-preserved c =
    let number : c.advance.new.walk.odometer.number ≡ c.loop-done._done =
    (let before = c.loop-done.invariant.1.0 in let next = c.advance.ensures.number in omega (arith, before, next)) in
    let fits : FitsSigned w64 c.join-total-in-loop-done.result = search rules in
    let value_fits : FitsSigned w64 c.value-in-loop-done.result = search rules in (
      word_kept c.join-total-in-loop-done.result fits ∙ c.join-total-in-loop-done.ensures ∙
          joined_more c.args.op (each_of c.args.e.now c.args.buffers.now) (to_z w64 c.loop-done.total-bits)
          (to_z w64 (of_z w64 c.value-in-loop-done.result)) c.advance.new.walk.odometer.number c.loop-done._done
          c.loop-done.invariant.0
          (word_kept c.value-in-loop-done.result value_fits ∙ c.value-in-loop-done.ensures) number,
      (omega (arith, number), c.advance.ensures.stands),
    )
