use Rattle.std.proofs.Common.{map}
use Rattle.call_binding.specs.Reading.{read_from, texts_of}
use Rattle.call_binding.proofs.OneAnswer.{one_answer}
use Rattle.call_binding.proofs.Outcomes.{bound, refused, load_failed, too_long, good_fits, good_arrays, good_saves}
use Rattle.call_binding.proofs.call.bind.Goals as goal

pub returns-clause-bound : goal.returns-clause-bound
returns-clause-bound g c =
    bound (g.F.Files.held c.args.files.now) (g.F.Files.faults c.args.files.now)
    (g.F.Files.faults c.bind_words.new.files) c.args.kernels.now c.args.kernel.now
    (read_from 1 (texts_of c.args.items.now)) c.bind_words.result c.bind_words.ensures.binds

pub returns-clause-refused : goal.returns-clause-refused
returns-clause-refused g c =
    refused (g.F.Files.held c.args.files.now) (g.F.Files.faults c.args.files.now)
    (g.F.Files.faults c.bind_words.new.files) c.args.kernels.now c.args.kernel.now
    (read_from 1 (texts_of c.args.items.now)) c.bind_words.result c.bind_words.ensures.binds

pub returns-clause-load_failed : goal.returns-clause-load_failed
returns-clause-load_failed g c =
    load_failed (g.F.Files.held c.args.files.now) (g.F.Files.faults c.args.files.now)
    (g.F.Files.faults c.bind_words.new.files) c.args.kernels.now c.args.kernel.now
    (read_from 1 (texts_of c.args.items.now)) c.bind_words.result c.bind_words.ensures.binds

pub returns-clause-too_long : goal.returns-clause-too_long
returns-clause-too_long g c =
    too_long (g.F.Files.held c.args.files.now) (g.F.Files.faults c.args.files.now)
    (g.F.Files.faults c.bind_words.new.files) c.args.kernels.now c.args.kernel.now
    (read_from 1 (texts_of c.args.items.now)) c.bind_words.result c.bind_words.ensures.binds

pub returns-clause-one_answer : goal.returns-clause-one_answer
returns-clause-one_answer g c = λ told a b p q.
    one_answer c.file_laws.ensures.one_array c.file_laws.ensures.not_both (g.F.Files.held c.args.files.now)
    c.args.kernels.now c.args.kernel.now
    (read_from 1 (texts_of c.args.items.now)) a b told p.comes p.ends q.comes q.ends

pub returns-clause-fits : goal.returns-clause-fits
returns-clause-fits g c = good_fits c.args.kernels.now c.args.kernel.now c.bind_words.result c.bind_words.ensures.good

pub returns-clause-arrays : goal.returns-clause-arrays
returns-clause-arrays g c =
    good_arrays c.args.kernels.now c.args.kernel.now c.bind_words.result c.bind_words.ensures.good

pub returns-clause-saves : goal.returns-clause-saves
returns-clause-saves g c = good_saves c.args.kernels.now c.args.kernel.now c.bind_words.result c.bind_words.ensures.good
