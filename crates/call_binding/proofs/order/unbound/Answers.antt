use Rattle.std.proofs.Common.{◌≡◌, ◌∙◌, ap, map, List, ℕ, Bor}
use Rattle.std.specs.List.{position}
use Rattle.call_binding.specs.Tests.{numbered, is_unbound, buffer_names}
use Rattle.call_binding.proofs.order.unbound.Goals as goal

pub returns : goal.returns
returns c =
    let names : map (λ (name : Bor (List ℕ)). name.now) c.as_slice.result.now ≡ buffer_names c.args.items.now =
    ap (map (λ (name : Bor (List ℕ)). name.now)) c.as_slice.ensures.value ∙ c.in_ok-names.ensures in
    c.numbered.ensures ∙ ap numbered (c.find_unbound.ensures
    ∙ ap (λ (held : List (List ℕ)). position (is_unbound held) c.args.items.now) names)
