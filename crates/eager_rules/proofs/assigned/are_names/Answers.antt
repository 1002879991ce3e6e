use Rattle.std.proofs.Common.{◌∙◌, ap, sym, ℕ, nat_lt}
use Rattle.std.specs.List.{list_all}
use Rattle.eager_rules.proofs.BoundNames.{length_bindings}
use Rattle.eager_rules.proofs.assigned.are_names.Goals as goal

pub returns : goal.returns
returns c =
    c.are_below.ensures ∙ ap (λ (n : ℕ). list_all (λ (name : ℕ). nat_lt name n) c.args.to.now)
    (c.len.ensures ∙ sym (length_bindings c.args.names.now))
