use Rattle.std.proofs.Common.{arith, List, drop, sym, subst, length, ap}
use Rattle.py_parse.specs.declared.tree.Function.{Function}
use Rattle.export_sig.specs.Counts.{HoldsNumbers}
use Rattle.export_sig.proofs.Numbers.{holds_one_more, drop_before}
use Rattle.export_sig.proofs.functions.count_parameters.Goals as goal

pub loop-left-preserved : goal.loop-left-preserved
loop-left-preserved c = (
  omega arith,
  subst (λ (fs : List Function). HoldsNumbers fs c.insert.new.self)
      (sym (drop_before c.args.functions.now c.loop-left.left c.index-functions-left.result c.loop-left-test.true
      c.loop-left.invariant.0 c.index-functions-left.is))
      (holds_one_more c.index-functions-left.result (drop c.loop-left.left c.args.functions.now)
      c.as_slice.result.now (length c.as_slice-in-loop-left.result.now) c.loop-left.map c.insert.new.self
      c.as_slice.ensures (ap length c.as_slice-in-loop-left.ensures)
      c.loop-left.invariant.1 c.in_ok-insert.ensures.updates),
)
