use Rattle.std.proofs.Common.{rules, arith, ◌≡◌, ◌<◌, ◌+◌, ◌&&◌, Bool, true, false, length, map, drop, ap, ◌∙◌, sym}
use Rattle.std.specs.List.{list_all}
use Rattle.eager_rules.specs.Sound.{head_of}
use Rattle.eager_rules.specs.declared.program.Instance.{Instance}
use Rattle.array_types.specs.Checked.{is_well_typed}
use Rattle.array_types.proofs.Checks.{all_from}
use Rattle.array_types.proofs.checked.are_well_typed.Goals as goal

pub returns-then-not-branch : goal.returns-then-not-branch
returns-then-not-branch c =
    let test : Instance → Bool = is_well_typed (map head_of c.args.instances.now) in
    let rest : Bool = list_all test (drop (c.loop-f.f-index + 1) c.args.some.now) in
    let at : c.loop-f.f-index < length c.args.some.now = omega arith in
    let given : c.in_ok-is_well_typed.field-0 ≡ false = search rules in
    let no : test c.f-item.result ≡ false = sym c.in_ok-is_well_typed.ensures ∙ given in
    sym (sym c.loop-f.invariant ∙ all_from test c.args.some.now c.loop-f.f-index c.f-item.result at c.f-item.is
    ∙ ap (λ (b : Bool). b && rest) no)

pub loop-f-preserved : goal.loop-f-preserved
loop-f-preserved c =
    let test : Instance → Bool = is_well_typed (map head_of c.args.instances.now) in
    let rest : Bool = list_all test (drop (c.loop-f.f-index + 1) c.args.some.now) in
    let at : c.loop-f.f-index < length c.args.some.now = omega arith in
    let given : c.in_ok-is_well_typed.field-0 ≡ true = search rules in
    let yes : test c.f-item.result ≡ true = sym c.in_ok-is_well_typed.ensures ∙ given in
    sym (all_from test c.args.some.now c.loop-f.f-index c.f-item.result at c.f-item.is
    ∙ ap (λ (b : Bool). b && rest) yes) ∙ c.loop-f.invariant
