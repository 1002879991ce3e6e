use Rattle.std.proofs.lemmas.Option.{gets}
use Rattle.std.proofs.lemmas.Grind.{common_steps}
use Rattle.std.proofs.Common.{arith, ◌≡◌, ◌-◌, ◌∙◌, ◌++◌, ap, sym, subst, append-nil, ℕ, List, length, OnOk}
use Rattle.std.proofs.Common.{None, slice_get, take}
use Rattle.eager_rules.specs.Types.{Ty}
use Rattle.eager_rules.specs.declared.program.Core.{Core}
use Rattle.eager_rules.specs.declared.program.Oper.{Oper}
use Rattle.inline.specs.Flat.{Lowering, in_place_of}
use Rattle.inline.specs.Flattened.{inline_at}
use Rattle.inline.specs.Idle.{calm_in}
use Rattle.inline.specs.Own.{own_of}
use Rattle.inline.specs.Places.{moves, numbered, place_for}
use Rattle.inline.proofs.FlatLaws.{body_put, flat_below, names_put}
use Rattle.inline.proofs.lower.+lower.Goals as goal

abbrev Form : Type 0
Form = List ℕ → List Oper → Lowering

pub in_line-returns-in-None-clause-body : goal.in_line-returns-in-None-clause-body
in_line-returns-in-None-clause-body t c =
    let found : slice_get c.args.program.now.instances c.args.instance ≡ None =
    (let l = c.in-None.ensures.lookup in grind (arith, common_steps, gets, l)) in
    let same : inline_at c.args.program.now c.args.effects.now c.args.depth c.args.instance ≡
    in_place_of (calm_in c.args.program.now c.args.effects.now)
    (inline_at c.args.program.now c.args.effects.now (c.args.depth - 1)) None =
    flat_below c.args.program.now.instances (calm_in c.args.program.now c.args.effects.now) c.args.depth
    c.args.instance c.if-depth-eq0.false
    ∙ ap (in_place_of (calm_in c.args.program.now c.args.effects.now)
    (inline_at c.args.program.now c.args.effects.now (c.args.depth - 1))) found in
    sym (ap (λ (form : Form). c.args.body.now ++
    (form c.args.to.now c.args.args.now (length c.args.names.now)).body) same ∙ append-nil c.args.body.now)

pub in_line-returns-in-None-clause-names : goal.in_line-returns-in-None-clause-names
in_line-returns-in-None-clause-names t c =
    let found : slice_get c.args.program.now.instances c.args.instance ≡ None =
    (let l = c.in-None.ensures.lookup in grind (arith, common_steps, gets, l)) in
    let same : inline_at c.args.program.now c.args.effects.now c.args.depth c.args.instance ≡
    in_place_of (calm_in c.args.program.now c.args.effects.now)
    (inline_at c.args.program.now c.args.effects.now (c.args.depth - 1)) None =
    flat_below c.args.program.now.instances (calm_in c.args.program.now c.args.effects.now) c.args.depth
    c.args.instance c.if-depth-eq0.false
    ∙ ap (in_place_of (calm_in c.args.program.now c.args.effects.now)
    (inline_at c.args.program.now c.args.effects.now (c.args.depth - 1))) found in
    sym (ap (λ (form : Form). c.args.names.now ++
    (form c.args.to.now c.args.args.now (length c.args.names.now)).fresh) same ∙ append-nil c.args.names.now)

pub put_body-returns-clause-body : goal.put_body-returns-clause-body
put_body-returns-clause-body t c =
    let first : c.in_ok-first.first ≡ length c.args.names.now =
    c.in_ok-first.ensures ∙ ap length c.as_slice.ensures in
    subst (λ (l : List Core). OnOk c.lower_all.result (c.lower_all.new.body ≡ l))
    (body_put (calm_in c.args.program.now c.args.effects.now)
    (inline_at c.args.program.now c.args.effects.now c.args.depth) c.args.f.now c.args.to.now c.args.args.now
    c.args.names.now c.args.body.now c.begin_body.new.body c.in_ok-out.out c.in_ok-place.place
    c.as_slice-2.result.now c.begin_body.new.names c.in_ok-out.ensures
    (c.in_ok-place.ensures ∙ ap (place_for (own_of c.args.f.now) c.args.to.now) first) c.as_slice-2.ensures
    c.in_ok-begin_body.ensures.names
    (c.in_ok-begin_body.ensures.body ∙ ap (λ (n : ℕ). c.args.body.now ++
    moves (numbered n (take (length c.args.f.now.params) c.args.f.now.names)) c.args.args.now) first))
    c.lower_all.ensures.body

pub put_body-returns-clause-names : goal.put_body-returns-clause-names
put_body-returns-clause-names t c =
    let first : c.in_ok-first.first ≡ length c.args.names.now =
    c.in_ok-first.ensures ∙ ap length c.as_slice.ensures in
    subst (λ (l : List Ty). OnOk c.lower_all.result (c.lower_all.new.names ≡ l))
    (names_put (calm_in c.args.program.now c.args.effects.now)
    (inline_at c.args.program.now c.args.effects.now c.args.depth) c.args.f.now c.args.to.now c.args.args.now
    c.args.names.now c.in_ok-out.out c.in_ok-place.place c.as_slice-2.result.now c.begin_body.new.names
    c.in_ok-out.ensures (c.in_ok-place.ensures ∙ ap (place_for (own_of c.args.f.now) c.args.to.now) first)
    c.as_slice-2.ensures c.in_ok-begin_body.ensures.names)
    c.lower_all.ensures.names
