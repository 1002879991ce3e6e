use Rattle.std.proofs.Common.{◌≡◌, ◌&&◌, ℕ, Bool, List, length, map, take, ap, ap₂, ◌∙◌}
use Rattle.std.specs.List.{list_all}
use Rattle.krn_base.specs.declared.kind.ParamType.{ParamType}
use Rattle.eager_rules.specs.Sound.{Head, head_of, all_fit, returns_values, shape_of_body}
use Rattle.eager_rules.specs.Types.{Ty, same_types, type_of_param}
use Rattle.eager_rules.specs.declared.program.Core.{Core}
use Rattle.eager_rules.specs.declared.program.Instance.{Instance}
use Rattle.array_types.specs.Checked.{is_small, param_types}
use Rattle.array_types.proofs.checked.is_well_typed.Goals as goal

pub returns : goal.returns
returns c =
    let f : Instance = c.args.f.now in
    let heads : List Head = map head_of c.args.instances.now in
    let body : c.in_ok-body.body ≡ all_fit heads f.rets f.names f.body =
    c.in_ok-body.ensures
    ∙ ap (λ (r : List Ty). all_fit heads r c.as_slice-names.result.now c.as_slice.result.now) c.as_slice-rets.ensures
    ∙ ap (λ (n : List Ty). all_fit heads f.rets n c.as_slice.result.now) c.as_slice-names.ensures
    ∙ ap (λ (b : List Core). all_fit heads f.rets f.names b) c.as_slice.ensures in
    let first : c.first_names.result.now ≡ take (length f.params) f.names =
    c.first_names.ensures ∙ ap₂ (λ (n : ℕ) (ts : List Ty). take n ts) c.len.ensures c.as_slice-names.ensures in
    let types : c.as_slice-3.result.now ≡ param_types f =
    c.as_slice-3.ensures ∙ c.in_ok-types.ensures
    ∙ ap (map (λ (p : List ℕ × ParamType). type_of_param p.1)) c.as_slice-2.ensures in
    let params : c.same_types-params.result ≡ same_types (take (length f.params) f.names) (param_types f) =
    c.same_types-params.ensures ∙ ap₂ (λ (ts us : List Ty). same_types ts us) first types in
    let names : c.all_small.result ≡ list_all is_small f.names =
    c.all_small.ensures ∙ ap (λ (ts : List Ty). list_all is_small ts) c.as_slice-names.ensures in
    let rets : c.all_small-2.result ≡ list_all is_small f.rets =
    c.all_small-2.ensures ∙ ap (λ (ts : List Ty). list_all is_small ts) c.as_slice-rets.ensures in
    let ends : c.ends_well-returns.result ≡ returns_values f.rets (shape_of_body f.body) =
    c.ends_well-returns.ensures
    ∙ ap₂ (λ (ts : List Ty) (b : List Core). returns_values ts (shape_of_body b)) c.as_slice-rets.ensures
    c.as_slice-4.ensures in
    c.all_hold.ensures
    ∙ ap₂ (λ (a b : Bool). a && b) (ap₂ (λ (a b : Bool). a && b) body params)
    (ap₂ (λ (a b : Bool). a && b) (ap₂ (λ (a b : Bool). a && b) names rets) ends)
