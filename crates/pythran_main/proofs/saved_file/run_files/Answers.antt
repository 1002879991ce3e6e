use Rattle.std.proofs.Common.{List, sym, subst, ◌∙◌}
use Rattle.std.specs.List.{All}
use Rattle.call_binding.specs.Fitting.{IsSave}
use Rattle.np_file.specs.Npy.{IsWritable}
use Rattle.view_places.specs.declared.shape.Array.{Array}
use Rattle.pythran_main.proofs.Buffers.{all_writable, saves_there}
use Rattle.pythran_main.proofs.saved_file.run_files.Goals as goal

pub saved_files-requires-clause-arrays : goal.saved_files-requires-clause-arrays
saved_files-requires-clause-arrays c =
    subst (All IsWritable) (sym (c.as_slice.ensures.value ∙ c.in_ok-finals.ensures))
    (all_writable c.args.arrays c.args.words c.requires.arrays c.requires.kept.filled)

pub saved_files-requires-clause-saves : goal.saved_files-requires-clause-saves
saved_files-requires-clause-saves c =
    subst (λ (l : List Array). All (IsSave l) c.args.saves.now)
    (sym (c.as_slice.ensures.value ∙ c.in_ok-finals.ensures))
    (saves_there c.args.arrays c.args.words c.args.saves.now c.requires.kept.count c.requires.saves)
