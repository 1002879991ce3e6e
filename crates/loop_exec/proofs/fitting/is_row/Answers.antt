use Rattle.std.proofs.Common.{arith, rules, ◌≡◌, ◌<◌, length, slice_index_or}
use Rattle.loop_exec.proofs.CallFits.{row_count}
use Rattle.loop_exec.proofs.fitting.is_row.Goals as goal

pub returns : goal.returns
returns c = λ h.
    let one : c.args.shape.rank ≡ 1 = omega arith in
    let four : 0 < length c.args.shape.extent = search rules in
    let is : c.args.count ≡ slice_index_or c.args.shape.extent 0 0 = omega arith in
    row_count c.args.shape.rank c.args.count c.args.shape.extent one four is
