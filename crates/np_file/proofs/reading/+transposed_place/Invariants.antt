use Rattle.std.proofs.Common.{length}
use Rattle.np_file.proofs.reading.+transposed_place.Given as goal

abbrev pub decreases-transposed_place : goal.decreases-transposed_place
decreases-transposed_place l = length l.extents.now
