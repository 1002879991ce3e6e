use Rattle.std.proofs.Common.{◌∙◌, sym}
use Rattle.loop_exec.proofs.CallFits.{filled}
use Rattle.loop_exec.proofs.fitting.is_filled.Goals as goal

pub returns-in-Int64 : goal.returns-in-Int64
returns-in-Int64 c = λ h. filled c.args.array.now c.in-Int64.is (sym c.len.ensures ∙ c.is_row.ensures h)
