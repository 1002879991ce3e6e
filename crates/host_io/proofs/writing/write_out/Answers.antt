use Rattle.std.proofs.Common.{arith, length-drop}
use Rattle.std.proofs.lemmas.List.{take_rest}
use Rattle.host_io.proofs.StreamLemmas.{appends_more}
use Rattle.host_io.proofs.writing.write_out.Goals as goal

pub loop-preserved : goal.loop-preserved
loop-preserved g c =
    let short = rw take_rest at c.in-Passed.ensures.within in
    let wrote = rw take_rest at c.in-Passed.ensures.bytes in
    record {
      within = omega (arith, short, length-drop c.loop.at c.args.bytes.now);
      written = appends_more _ _ _ c.args.bytes.now c.loop.at c.in-Passed.count c.loop.invariant.written wrote;
      counted = omega (arith, c.in-Passed.ensures.count);
    }
