use Rattle.std.proofs.Common.{◌≡◌, ℕ, Option, Some, None, cond, sym, ◌∙◌, ap, arith, length}
use Rattle.std.specs.Str.{bytes_eq}
use Rattle.std.proofs.lemmas.Map.Text.{hash_map_updates_str}
use Rattle.call_chains.specs.Numbers.{found}
use Rattle.call_chains.proofs.NumberLaws.{added, known}
use Rattle.call_chains.proofs.graph.add_function.Goals as goal

pub returns-in_ok-insert-in-None : goal.returns-in_ok-insert-in-None
returns-in_ok-insert-in-None c = λ before count are.
    let f = c.args.function.now in
    let old = c.args.numbers.now in
    let name = c.as_slice-name.result.now in
    let none : found old f.name.text ≡ None = grind (arith) in
    added old (record { map = c.insert.new.self }) before f are none
    (λ text. hash_map_updates_str name old.map c.insert.new.self (Some c.args.number)
    c.in_ok-insert-in-None.ensures.updates text
    ∙ (ap (λ n. cond (bytes_eq n text) (Some c.args.number) (found old text)) c.as_slice-name.ensures
    ∙ ap (λ n. cond (bytes_eq f.name.text text) (Some n) (found old text)) (sym count)))

pub returns-in-Some : goal.returns-in-Some
returns-in-Some c = λ before count are.
    let f = c.args.function.now in
    known c.args.numbers.now c.args.numbers.now before f are c.in-Some._known
    (sym (c.number_of.ensures ∙ ap (found c.args.numbers.now) c.as_slice-name.ensures) ∙ c.in-Some.is)
