use Rattle.std.proofs.Common.{◌≡◌, ◌∙◌, ap, ap₂, refl, ℕ, ℤ, List, map, replicate, length}
use Rattle.view_places.specs.declared.shape.Array.{Array}
use Rattle.array_ops.specs.Elements.{Bound, Unbound}
use Rattle.eager_rules.specs.State.{bound_to}
use Rattle.eager_rules.specs.declared.call.Arg.{Arg}
use Rattle.loop_prog.specs.Serial.{no_counts, param_regs, types_of_params}
use Rattle.loop_prog.specs.State.{State, bind_all}
use Rattle.loop_exec.specs.Banks.{view_bound, views_bound, word_bound, words_bound}
use Rattle.loop_exec.specs.Starts.{are_alike}
use Rattle.loop_exec.proofs.StartLemmas.{alike, none_bound}
use Rattle.loop_exec.proofs.bank.Bank.start.Goals as goal

abbrev state : List Bound → List Bound → List (List ℤ) → State
state words views buffers = record { words = words; views = views; buffers = buffers; counts = no_counts }

pub enter-requires : goal.enter-requires
enter-requires c =
    ap₂ (λ ps (xs : List Arg). are_alike (map (λ p. p.1) ps) xs) c.as_slice-2.ensures c.as_slice-3.ensures ∙
    alike c.args.call.now.buffers (types_of_params c.args.kernel.now) c.args.call.now.args c.requires.args

pub returns-clause-state : goal.returns-clause-state
returns-clause-state c =
    let words : words_bound c.in_ok-unassigned.field-0 ≡ replicate (length c.args.kernel.now.regs) Unbound =
    ap words_bound c.in_ok-unassigned.ensures ∙ none_bound word_bound c.len.result refl ∙
    ap (λ (n : ℕ). replicate n Unbound) c.len.ensures in
    let views : views_bound c.in_ok-unassigned-2.field-0 ≡ replicate (length c.args.kernel.now.views) Unbound =
    ap views_bound c.in_ok-unassigned-2.ensures ∙ none_bound view_bound c.len-2.result refl ∙
    ap (λ (n : ℕ). replicate n Unbound) c.len-2.ensures in
    let buffers : c.in_ok-words_of.field-0 ≡ map (λ a. a.words) c.args.call.now.buffers =
    c.in_ok-words_of.ensures ∙ ap (λ (arrays : List Array). map (λ a. a.words) arrays) c.as_slice.ensures in
    c.enter.ensures.state no_counts ∙
    ap₂ (λ ps (xs : List Arg). bind_all (param_regs 0 0 (map (λ p. p.1) ps)) (map bound_to xs)
    (state (words_bound c.in_ok-unassigned.field-0) (views_bound c.in_ok-unassigned-2.field-0)
    c.in_ok-words_of.field-0)) c.as_slice-2.ensures c.as_slice-3.ensures ∙
    ap (λ (t : State). bind_all (param_regs 0 0 (types_of_params c.args.kernel.now))
    (map bound_to c.args.call.now.args) t)
    (ap (λ (ws : List Bound). state ws (views_bound c.in_ok-unassigned-2.field-0) c.in_ok-words_of.field-0) words ∙
    ap (λ (vs : List Bound). state (replicate (length c.args.kernel.now.regs) Unbound) vs c.in_ok-words_of.field-0)
    views ∙
    ap (state (replicate (length c.args.kernel.now.regs) Unbound)
    (replicate (length c.args.kernel.now.views) Unbound)) buffers)
