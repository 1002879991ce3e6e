use Rattle.krn_base.specs.BitLaws.{and_by_bits, or_by_bits, xor_by_bits}
use Rattle.krn_base.proofs.laws.bit_laws.Goals as goal

pub returns-clause-and_bits : goal.returns-clause-and_bits
returns-clause-and_bits c = λ a b k f g h. and_by_bits a b k f g h

pub returns-clause-or_bits : goal.returns-clause-or_bits
returns-clause-or_bits c = λ a b k f g h. or_by_bits a b k f g h

pub returns-clause-xor_bits : goal.returns-clause-xor_bits
returns-clause-xor_bits c = λ a b k f g h. xor_by_bits a b k f g h
