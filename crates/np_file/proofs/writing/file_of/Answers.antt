use Rattle.std.proofs.Common.{◌≡◌, ◌<◌, ◌^◌, length, ap, arith}
use Rattle.np_file.specs.Npy.{header_text}
use Rattle.np_file.proofs.Printed.{are_small, length-dictionary, length-header}
use Rattle.np_file.proofs.writing.file_of.Goals as goal

pub header_of-requires : goal.header_of-requires
header_of-requires c = length-dictionary c.args.kind c.args.extents.now c.requires.rank
    (are_small c.args.extents.now c.requires.small)

pub overflow_cast-len : goal.overflow_cast-len
overflow_cast-len c =
    let small : length (header_text c.args.kind c.args.extents.now) < 2 ^ 10 =
    length-header c.args.kind c.args.extents.now c.requires.rank (are_small c.args.extents.now c.requires.small) in
    let same : length c.in_ok-header.header.items ≡ length (header_text c.args.kind c.args.extents.now) =
    ap length c.in_ok-header.ensures in
    let ok = c.in_ok-header.header.ok in
    record { fits = omega (arith, ok) }
