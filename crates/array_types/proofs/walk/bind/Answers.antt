use Rattle.std.proofs.Common.{◌≡◌, ℕ, List, Option, ap, ◌∙◌, sym, subst}
use Rattle.array_types.specs.Walk.{Outcome, Walks, bind, bind_text, find}
use Rattle.array_types.specs.declared.state.Target.{Target}
use Rattle.array_types.proofs.walk.bind.Goals as goal

pub returns-in-Into : goal.returns-in-Into
returns-in-Into c =
    let found : c.number_for-found.result ≡ find c.in-Into.text c.args.state.now.known =
    c.number_for-found.ensures ∙ ap (λ (t : List ℕ). find t c.args.state.now.known) c.as_slice.ensures in
    subst (λ (o : Outcome ℕ). Walks o c.bind_text.result c.bind_text.new.state)
    (ap (λ (n : Option ℕ). bind_text c.in-Into.text c.in-Into.first c.args.ty n c.args.state.now) found
    ∙ sym (ap (λ (t : Target). bind t c.args.ty c.args.state.now) c.in-Into.is)) c.bind_text.ensures
