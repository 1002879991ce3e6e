use Rattle.std.proofs.Common.{◌≡◌, []}
use Rattle.krn_base.specs.declared.refusal.Rule.TheVariants.{Profile}
use Rattle.module_names.specs.Places.{IsFirst, RefusesAt}
use Rattle.module_names.specs.Profile.{profile_places}
use Rattle.pythran_main.proofs.Modules.{tested}
use Rattle.pythran_main.proofs.reading.test_forms.Goals as goal

pub returns : goal.returns
returns c =
    let places = profile_places c.args.tree.now in
    let e = c.profile.ensures in
    tested Profile (places ≡ []) (λ at. IsFirst at places) c.profile.result (RefusesAt Profile places) (λ r h. h)
    e.ok e.refused e.only e.place
