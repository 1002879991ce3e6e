use Rattle.np_file.proofs.Laws.{is_array, is_refusal, is_only, is_shown, one_array, one_refusal, not_both, either_one}
use Rattle.np_file.proofs.reading.read_npy.Goals as goal

pub returns-clause-array : goal.returns-clause-array
returns-clause-array c = is_array c.args.bytes.now c.load.result c.load.ensures

pub returns-clause-only : goal.returns-clause-only
returns-clause-only c = λ a is. is_only c.args.bytes.now c.load.result a is c.load.ensures

pub returns-clause-refused : goal.returns-clause-refused
returns-clause-refused c = is_refusal c.args.bytes.now c.load.result c.load.ensures

pub returns-clause-shown : goal.returns-clause-shown
returns-clause-shown c = λ f shown. is_shown c.args.bytes.now c.load.result f shown c.load.ensures

pub returns-clause-one_array : goal.returns-clause-one_array
returns-clause-one_array c = one_array c.args.bytes.now

pub returns-clause-one_refusal : goal.returns-clause-one_refusal
returns-clause-one_refusal c = one_refusal c.args.bytes.now

pub returns-clause-not_both : goal.returns-clause-not_both
returns-clause-not_both c = not_both c.args.bytes.now

pub returns-clause-either : goal.returns-clause-either
returns-clause-either c = either_one c.args.bytes.now
