use Rattle.std.proofs.Common.{rules}
use Rattle.loop_prog.proofs.heads.kernel_keeps.Goals as goal

pub returns : goal.returns
returns c = λ earlier is. search (rules, is)
