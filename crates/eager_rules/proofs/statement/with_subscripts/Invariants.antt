use Rattle.std.proofs.Common.{◌≡◌, ◌∷◌, take}
use Rattle.std.specs.List.{flat_map}
use Rattle.eager_rules.specs.Works.{sub_operands}
use Rattle.eager_rules.specs.declared.program.Oper.TheVariants.{Name}
use Rattle.eager_rules.proofs.statement.with_subscripts.Given as goal

-- the operands of the subscripts so far
abbrev pub invariant-loop-sub : goal.invariant-loop-sub
invariant-loop-sub l = l.opers ≡ Name l.of ∷ flat_map sub_operands (take l.sub-index l.subs)
