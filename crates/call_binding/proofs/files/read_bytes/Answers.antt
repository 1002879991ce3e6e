use Rattle.call_binding.proofs.ArrayFiles.{array_is}
use Rattle.call_binding.proofs.files.read_bytes.Goals as goal

pub returns-in-Ok-clause-array : goal.returns-in-Ok-clause-array
returns-in-Ok-clause-array c =
    array_is c.in-Ok.array (c.file_laws.ensures.writable c.args.bytes.now c.in-Ok.array c.in-Ok.ensures.array)
