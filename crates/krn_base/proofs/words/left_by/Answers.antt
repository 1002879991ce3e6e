use Rattle.std.proofs.Common.{FitsSigned, rules, ◌∙◌, ◌≡◌, ◌%◌}
use Rattle.std.specs.Int.{w64, int_shl}
use Rattle.std.proofs.lemmas.Int.{to_z-of_z}
use Rattle.krn_base.proofs.Wrapping.{wrap-shl}
use Rattle.std.proofs.Math.Nat.{mod-eq_of_lt}
use Rattle.krn_base.proofs.words.left_by.Goals as goal

pub returns : goal.returns
returns c =
    let fits : FitsSigned w64 c.wrapping_shl.result = search rules in
    let whole : c.args.count % 64 ≡ c.args.count = mod-eq_of_lt c.requires in
    to_z-of_z w64 c.wrapping_shl.result fits ∙ c.wrapping_shl.ensures
    ∙ (λ i. int_shl w64 (to_z-of_z w64 c.args.a c.ranges.a i) (whole i)) ∙ wrap-shl c.args.a c.args.count c.ranges.a
