use Rattle.std.proofs.Common.{◌≡◌, []}
use Rattle.krn_base.specs.declared.refusal.Rule.TheVariants.{Name}
use Rattle.module_names.specs.Places.{IsFirst, RefusesAt}
use Rattle.module_names.specs.Names.{name_places}
use Rattle.pythran_main.proofs.Modules.{tested}
use Rattle.pythran_main.proofs.reading.test_names.Goals as goal

pub returns : goal.returns
returns c =
    let places = name_places c.args.tree.now in
    let e = c.names.ensures in
    tested Name (places ≡ []) (λ at. IsFirst at places) c.names.result (RefusesAt Name places) (λ r h. h)
    e.ok e.refused e.only e.place
