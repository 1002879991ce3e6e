use Rattle.std.proofs.Common.{◌≡◌, ◌∙◌, ap, sym, ℕ, ◌+◌, List, ◌∷◌, drop, map, true}
use Rattle.std.proofs.lemmas.List.{drop_more, drop-drop}
use Rattle.krn_base.specs.declared.kind.ParamType.{ParamType}
use Rattle.eager_rules.specs.State.{bound_to}
use Rattle.eager_rules.specs.declared.call.Arg.{Arg}
use Rattle.loop_prog.specs.Serial.{param_regs}
use Rattle.loop_prog.specs.State.{bind_all}
use Rattle.loop_exec.specs.Banks.{state_of}
use Rattle.loop_exec.specs.Starts.{are_alike}
use Rattle.loop_exec.proofs.StartLemmas.{alike_more}
use Rattle.loop_exec.proofs.bank_calls.enter.Goals as goal

pub loop-arg-preserved : goal.loop-arg-preserved
loop-arg-preserved c =
    let i : ℕ = c.loop-arg.arg-index in
    let args : List Arg = c.args.args.now in
    let types : List ParamType = map (λ p. p.1) c.args.params.now in
    let a : Arg = c.arg-item.result in
    let rest : List Arg = drop (i + 1) args in
    let here : drop i args ≡ a ∷ rest =
    drop_more args i a c.loop-arg-test.true ∙ ap (λ (x : Arg). x ∷ rest) (sym c.arg-item.is) in
    let alike : are_alike (drop i types) (a ∷ rest) ≡ true =
    ap (are_alike (drop i types)) (sym here) ∙ c.loop-arg.invariant.1.0 in
    let behind : drop 1 (drop i types) ≡ drop (i + 1) types = drop-drop 1 i types in (
      λ counts.
          ap (λ (ts : List ParamType). bind_all (param_regs c.enter_one.new.words c.enter_one.new.views ts)
          (map bound_to rest) (state_of counts c.enter_one.new.bank)) (sym behind) ∙
          sym (c.enter_one.ensures.state (drop i types) rest counts alike) ∙
          ap (λ (xs : List Arg). bind_all (param_regs c.loop-arg.words c.loop-arg.views (drop i types))
          (map bound_to xs) (state_of counts c.loop-arg.bank)) (sym here) ∙ c.loop-arg.invariant.0 counts,
      (
        ap (λ (ts : List ParamType). are_alike ts rest) (sym behind) ∙ alike_more (drop i types) a rest alike,
        (
          c.enter_one.ensures.count ∙ ap (λ (k : ℕ). k + 1) c.loop-arg.invariant.1.1.0,
          c.enter_one.ensures.given ∙ c.loop-arg.invariant.1.1.1,
        ),
      ),
    )
