use Rattle.std.proofs.Common.{arith, rules, ◌≡◌, ◌<◌, ◌∙◌, ap, sym, ℕ, List, ℤ, length, FitsSigned, w64, to_z, of_z}
use Rattle.std.proofs.Common.{drop}
use Rattle.std.specs.Prelude.{slice_index}
use Rattle.overlap.specs.Walks.{in_place}
use Rattle.view_places.specs.Spread.{places as places_read}
use Rattle.view_places.specs.View.{places}
use Rattle.loop_exec.specs.Elements.{each_of}
use Rattle.loop_exec.proofs.ListLemmas.{stored_more}
use Rattle.loop_exec.proofs.Words.{word_kept}
use Rattle.loop_exec.proofs.walks.store_some.Goals as goal

pub loop-done-preserved : goal.loop-done-preserved
loop-done-preserved c =
    let number : c.advance-axis.new.walk.odometer.number ≡ c.loop-done._done =
    (let before = c.loop-done.invariant.1.0 in let next = c.advance-axis.ensures.number in
    omega (arith, before, next)) in
    let same : places_read c.leaf_of.result.spread ≡ places c.args.e.now.frame.now =
    ap places_read c.leaf_of.ensures ∙ c.as_spread.ensures.places in
    let next : c.next_place-place.result ≡
    slice_index (places_read c.leaf_of.result.spread) c.advance-axis.new.walk.odometer.number =
    c.next_place-place.ensures ∙
    ap (slice_index (places_read c.leaf_of.result.spread)) (sym c.advance-axis.ensures.number) in
    let below : c.advance-axis.new.walk.odometer.number < length (places c.args.e.now.frame.now) =
    (let count = c.requires.count in let test = c.loop-done-test.true in omega (arith, number, count, test)) in
    let fits : FitsSigned w64 c.value-z.result = search rules in
    let so_far : in_place (each_of c.args.e.now) c.args.e.now.frame.now.buffer c.advance-axis.new.walk.odometer.number
    (drop c.advance-axis.new.walk.odometer.number (places c.args.e.now.frame.now)) c.loop-done.buffers ≡
    in_place (each_of c.args.e.now) c.args.e.now.frame.now.buffer 0 (places c.args.e.now.frame.now)
    c.args.buffers.now =
    ap (λ (k : ℕ). in_place (each_of c.args.e.now) c.args.e.now.frame.now.buffer k
    (drop k (places c.args.e.now.frame.now)) c.loop-done.buffers) c.advance-axis.ensures.number ∙
    c.loop-done.invariant.0 in (
      stored_more (each_of c.args.e.now) c.args.e.now.frame.now.buffer (places c.args.e.now.frame.now)
          c.args.buffers.now c.loop-done.buffers c.set_word-in-loop-done.new.buffers
          c.advance-axis.new.walk.odometer.number c.next_place-place.result
          (to_z w64 (of_z w64 c.value-z.result)) so_far below
          (next ∙ ap (λ (ps : List ℕ). slice_index ps c.advance-axis.new.walk.odometer.number) same)
          (word_kept c.value-z.result fits ∙ c.value-z.ensures ∙
          ap (λ (bs : List (List ℤ)). each_of c.args.e.now bs c.advance-axis.new.walk.odometer.number)
          c.as_slice-in-loop-done.ensures) c.set_word-in-loop-done.ensures,
      (omega (arith, number), (c.advance-axis.ensures.stands, next)),
    )
