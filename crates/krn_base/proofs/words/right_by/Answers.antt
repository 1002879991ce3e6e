use Rattle.std.proofs.Common.{◌∙◌, ap, to_z, of_z}
use Rattle.std.specs.Int.{w64, int_shr}
use Rattle.std.proofs.lemmas.Int.{to_z-of_z}
use Rattle.krn_base.proofs.Wrapping.{shr-floor_div, fits-shr}
use Rattle.krn_base.proofs.words.right_by.Goals as goal

pub returns : goal.returns
returns c =
    ap (λ z. to_z w64 (of_z w64 (int_shr z c.args.count))) (to_z-of_z w64 c.args.a c.ranges.a)
    ∙ to_z-of_z w64 (int_shr c.args.a c.args.count) (fits-shr c.args.a c.args.count c.ranges.a) ∙
    shr-floor_div c.args.a c.args.count
