use Rattle.std.proofs.Common.{take, rules, sym, subst, ℤ, SFits, w64, to_z-of_z}
use Rattle.view_places.specs.Strides.{LeadsWithin}
use Rattle.view_places.proofs.Settled.{strided_same}
use Rattle.view_places.proofs.Shapes.{within-same}
use Rattle.view_places.proofs.strided.Strided.spread.Goals as goal

pub invariant_of-result-clause-within : goal.invariant_of-result-clause-within
invariant_of-result-clause-within c =
    let fits : SFits w64 c.settled-offset.result.offset = search rules in
    subst (λ (o : ℤ). LeadsWithin c.args.length
    (take c.args.self.now.rank c.args.self.now.extent) o c.settled-offset.result.stride) (sym (to_z-of_z fits))
    (within-same c.args.length (take c.args.self.now.rank c.args.self.now.extent) c.args.self.now.offset
    c.settled-offset.result.offset c.args.self.now.stride c.settled-offset.result.stride
    c.settled-offset.ensures.same c.requires.within)

pub returns-clause-places : goal.returns-clause-places
returns-clause-places c =
    let fits : SFits w64 c.settled-offset.result.offset = search rules in
    simp to_z-of_z (strided_same (take c.args.self.now.rank c.args.self.now.extent) c.settled-offset.result.offset
    c.args.self.now.offset c.settled-offset.result.stride c.args.self.now.stride c.settled-offset.ensures.same)
