use Rattle.std.proofs.Common.{◌≡◌, ◌+◌, drop, map, true}
use Rattle.eager_rules.specs.State.{bound_to}
use Rattle.eager_rules.specs.declared.outcome.Counts.{Counts}
use Rattle.loop_prog.specs.Serial.{param_regs}
use Rattle.loop_prog.specs.State.{bind_all}
use Rattle.loop_exec.specs.Banks.{state_of}
use Rattle.loop_exec.specs.Starts.{are_alike}
use Rattle.loop_exec.proofs.bank_calls.enter.Given as goal

-- the arguments that are left, from the registers that are left, leave what all of them leave
abbrev pub invariant-loop-arg : goal.invariant-loop-arg
invariant-loop-arg l =
    ((counts : Counts) →
    bind_all (param_regs l.words l.views (drop l.arg-index (map (λ p. p.1) l.params)))
    (map bound_to (drop l.arg-index l.args)) (state_of counts l.bank) ≡
    bind_all (param_regs 0 0 (map (λ p. p.1) l.params)) (map bound_to l.args) (state_of counts l.fn.bank))
    × ((are_alike (drop l.arg-index (map (λ p. p.1) l.params)) (drop l.arg-index l.args) ≡ true)
    × ((l.words + l.views ≡ l.arg-index) × (l.bank.given ≡ l.fn.bank.given)))
