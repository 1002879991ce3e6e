-- The flat form by effects, as the functions of the pass make it.
use Rattle.std.specs.Prelude.{◌≡◌, ℕ, List, [], map, Option, Some}
use Rattle.std.specs.List.{All}
use Rattle.krn_base.specs.declared.refusal.Refusal.{Refusal}
use Rattle.krn_base.specs.declared.refusal.Stop.{Stop}
use Rattle.krn_base.specs.declared.refusal.Stop.TheVariants as stop
use Rattle.eager_rules.specs.Statements.{calls_of}
use Rattle.eager_rules.specs.declared.program.Core.{Core}
use Rattle.eager_rules.specs.declared.program.Core.TheFolds.{fold-Core}
use Rattle.eager_rules.specs.declared.program.Oper.{Oper}
use Rattle.eager_rules.specs.declared.program.Program.{Program}
use Rattle.purity.specs.declared.answers.Effects.{Effects}
use Rattle.inline.specs.Flat.{Inline, Lowering, flat_at, flat_block, flat_if, flat_step}
use Rattle.inline.specs.Idle.{calm_in}
use Rattle.inline.specs.Places.{renamed}
use Rattle.inline.specs.declared.moves.Out.{Out}
use Rattle.inline.specs.declared.places.Place.{Place}

abbrev pub inline_at : Program → Effects → ℕ → Inline
inline_at program effects depth = flat_at program.instances (calm_in program effects) depth

abbrev pub core_form : Program → Effects → ℕ → Out → Place → Core → Lowering
core_form program effects depth out p =
    fold-Core Lowering (flat_step (calm_in program effects) (inline_at program effects depth) out p)

abbrev pub block_form : Program → Effects → ℕ → Out → Place → List Core → Lowering
block_form program effects depth out p body =
    flat_block (calm_in program effects) (inline_at program effects depth) out p body

abbrev pub if_form : Program → Effects → ℕ → Out → Place → Oper → List Core → List Core → Lowering
if_form program effects depth out p cond part other =
    flat_if (renamed p cond) (map (core_form program effects depth out p) part)
    (map (core_form program effects depth out p) other)

-- what stands where the flat form is refused; or memory was wanting
abbrev pub IsStop : Option Refusal → Stop → Type 0
IsStop refusal (stop.Refused r) = refusal ≡ Some r
IsStop refusal stop.Memory = Unit {0}

-- no instance of a program calls one
abbrev pub HasNoCalls : Program → Type 0
HasNoCalls program = All (λ f. calls_of f.body ≡ []) program.instances
