use Rattle.std.proofs.Common.{arith}
use Rattle.np_file.proofs.Elements.{transposed_empty, transposed_up}
use Rattle.np_file.proofs.reading.+transposed_place.Goals as goal

pub returns-in-empty-clause-value : goal.returns-in-empty-clause-value
returns-in-empty-clause-value t c = transposed_empty c.args.extents.now c.args.k (omega arith)

pub returns-in-len1-up-clause-value : goal.returns-in-len1-up-clause-value
returns-in-len1-up-clause-value t c =
    transposed_up c.args.extents.now c.args.k c.args.count c.transposed_place.result c.in-len1-up.len_at_least
    c.requires.counted c.requires.within c.transposed_place.ensures.value
