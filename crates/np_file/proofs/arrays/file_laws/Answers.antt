use Rattle.np_file.proofs.Laws.{one_array, not_both}
use Rattle.np_file.proofs.Writable.{writable}
use Rattle.np_file.proofs.arrays.file_laws.Goals as goal

pub returns-clause-one_array : goal.returns-clause-one_array
returns-clause-one_array c = one_array

pub returns-clause-not_both : goal.returns-clause-not_both
returns-clause-not_both c = not_both

pub returns-clause-writable : goal.returns-clause-writable
returns-clause-writable c = writable
