use Rattle.std.proofs.Common.{◌≡◌, ◌∙◌, ap, sym, subst, map, List, ℕ, Result, Ok, Err}
use Rattle.std.specs.Result.{IfOk}
use Rattle.call_binding.specs.Binding.{ComesBy, Refused}
use Rattle.call_binding.specs.Outcome.{Binds, IsGood}
use Rattle.call_binding.specs.Reading.{read_from, texts_of}
use Rattle.call_binding.specs.declared.items.Item.{Item}
use Rattle.call_binding.proofs.Outcomes.{misspelled}
use Rattle.call_binding.proofs.call.bind_words.Goals as goal

pub returns-in-Ok-clause-binds : goal.returns-in-Ok-clause-binds
returns-in-Ok-clause-binds g c =
    let held = g.F.Files.held c.args.files.now in
    let before = g.F.Files.faults c.args.files.now in
    let after = g.F.Files.faults c.bind_items.new.files in
    let read : Ok c.in-Ok.items ≡ read_from 1 (texts_of c.args.items.now) =
    sym c.in-Ok.is ∙ c.in_ok-items.ensures.items in
    subst (λ (r : Result (List Item) ℕ). Binds held before after c.args.kernels.now c.args.kernel.now r
    c.bind_items.result) read
    (subst (λ (name : List ℕ). Binds held before after c.args.kernels.now name (Ok c.in-Ok.items) c.bind_items.result)
    c.as_bytes.ensures.value c.bind_items.ensures.binds)

pub returns-in-Ok-clause-good : goal.returns-in-Ok-clause-good
returns-in-Ok-clause-good g c =
    subst (λ (name : List ℕ). IfOk c.bind_items.result (IsGood c.args.kernels.now name)) c.as_bytes.ensures.value
    c.bind_items.ensures.good

pub returns-in-Err-clause-binds : goal.returns-in-Err-clause-binds
returns-in-Err-clause-binds g c =
    let held = g.F.Files.held c.args.files.now in
    let read : Err c.in-Err.number ≡ read_from 1 (texts_of c.args.items.now) =
    sym c.in-Err.is ∙ c.in_ok-items.ensures.items in
    subst (λ (r : Result (List Item) ℕ). ComesBy held c.args.kernels.now c.args.kernel.now r
    (Refused c.in-Err.number)) read
    (misspelled held c.args.kernels.now c.args.kernel.now c.in-Err.number)
