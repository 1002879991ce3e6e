-- Subscripts by what their operands stand for.
use Rattle.std.specs.Prelude.{ℤ, List, Option, Some, None}
use Rattle.array_ops.specs.Elements.{Bound}
use Rattle.array_ops.specs.declared.subscript.Subscript.{Subscript}
use Rattle.array_ops.specs.declared.subscript.Subscript.TheVariants as subscript
use Rattle.eager_rules.specs.Works.{word_of}
use Rattle.eager_rules.specs.declared.program.CoreSub.{CoreSub}
use Rattle.eager_rules.specs.declared.program.CoreSub.TheVariants as sub
use Rattle.eager_rules.specs.declared.program.Oper.{Oper}
use Rattle.loop_prog.specs.State.{operand_in}

abbrev pub part_at : List Bound → Option Oper → Option ℤ
part_at words None = None
part_at words (Some x) = Some (word_of (operand_in words x))

abbrev pub subscript_at : List Bound → CoreSub → Subscript
subscript_at words (sub.At x) = subscript.At (word_of (operand_in words x))
subscript_at words (sub.Cut start stop step) = subscript.Cut (record {
  start = part_at words start;
  stop = part_at words stop;
  step = part_at words step;
})
