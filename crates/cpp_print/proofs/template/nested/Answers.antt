use Rattle.std.proofs.Common.{◌∙◌}
use Rattle.cpp_print.proofs.Trees.{next, whole}
use Rattle.cpp_print.proofs.template.nested.Goals as goal

pub loop-k-preserved : goal.loop-k-preserved
loop-k-preserved c = next _ _ _ _ _ _ c.loop-k-test.true c.in_ok-put_step.ensures c.loop-k.invariant

pub returns : goal.returns
returns c = c.into_bytes.ensures ∙ whole _ _ _ _ c.requires c.loop-k-test.false c.loop-k.invariant
