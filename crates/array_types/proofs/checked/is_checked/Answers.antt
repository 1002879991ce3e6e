use Rattle.array_types.proofs.Checks.{passed}
use Rattle.array_types.proofs.checked.is_checked.Goals as goal

pub returns : goal.returns
returns c = passed c.passes.result c.as_slice-2.result.now c.args.program.now c.passes.ensures
