use Rattle.std.specs.Int.{w64}
use Rattle.std.proofs.lemmas.Int.{SFits-int_wrap}
use Rattle.krn_base.proofs.Ranges.{wrap-multiple}
use Rattle.krn_base.proofs.laws.wrap_laws.Goals as goal

pub returns-clause-in_range : goal.returns-clause-in_range
returns-clause-in_range c = λ n. SFits-int_wrap w64 n

pub returns-clause-multiple : goal.returns-clause-multiple
returns-clause-multiple c = wrap-multiple
