use Rattle.std.proofs.Common.{◌≡◌}
use Rattle.np_file.specs.Loading.{first_words}
use Rattle.np_file.specs.Views.{view_layout}
use Rattle.np_file.proofs.reading.words.Given as goal

abbrev pub invariant-loop-k : goal.invariant-loop-k
invariant-loop-k l = l.words.items ≡ first_words (view_layout l.layout) l.k
