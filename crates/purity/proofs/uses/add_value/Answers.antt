use Rattle.std.proofs.Common.{arith, ◌≡◌, ◌++◌, ℕ, sym, subst, append-nil, Option, None, slice_get}
use Rattle.std.proofs.lemmas.Grind.{common_steps}
use Rattle.std.proofs.lemmas.Option.{gets}
use Rattle.purity.specs.Marks.{row}
use Rattle.purity.specs.Uses.{flows_by}
use Rattle.purity.proofs.uses.add_value.Goals as goal

pub returns-in-None : goal.returns-in-None
returns-in-None c =
    let found : slice_get c.args.to.now c.args.value ≡ None =
    (let l = c.in-None.ensures.lookup in grind (arith, common_steps, gets, l)) in
    subst (λ (o : Option ℕ). c.args.uses.now ≡
    c.args.uses.now ++ flows_by c.args.args.now (row c.args.gives.now c.args.value) o)
    (sym found) (sym (append-nil c.args.uses.now))
