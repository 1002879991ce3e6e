use Rattle.std.proofs.Common.{◌≡◌, ◌∙◌, ap, [], ◌∷◌, List, ℤ, Option, map}
use Rattle.std.specs.List.{flat_map}
use Rattle.view_places.specs.declared.view.View.{View}
use Rattle.array_ops.specs.Arrays.{ArrayRef, array_of}
use Rattle.array_ops.specs.Subscripts.{picked}
use Rattle.eager_rules.specs.Works.{Done, array_in, as_array, sub_operands, subscripts_of, valued}
use Rattle.loop_exec.specs.Banks.{views_bound, words_bound}
use Rattle.loop_exec.specs.Running.{reached}
use Rattle.loop_prog.specs.Serial.{finish, operands}
use Rattle.loop_prog.specs.State.{operand_in, view_in}
use Rattle.loop_prog.specs.declared.program.Reg.TheVariants as reg
use Rattle.loop_exec.proofs.statements.view_of.Goals as goal

pub returns : goal.returns
returns c =
    let words : valued c.args.run.now.bank.buffers c.args.at (as_array (picked (subscripts_of c.args.subs.now
    (map (operand_in (words_bound c.as_slice-words.result.now)) (flat_map sub_operands c.args.subs.now)))
    (array_of c.array-from.result))) ≡
    valued c.args.run.now.bank.buffers c.args.at (as_array (picked (subscripts_of c.args.subs.now
    (operands (reached c.args.run.now) (flat_map sub_operands c.args.subs.now))) (array_of c.array-from.result))) =
    ap (λ (ws : List (Option ℤ)). valued c.args.run.now.bank.buffers c.args.at (as_array (picked
    (subscripts_of c.args.subs.now (map (operand_in (words_bound ws)) (flat_map sub_operands c.args.subs.now)))
    (array_of c.array-from.result)))) c.as_slice-words.ensures in
    c.finish_view.ensures ∙
    ap (λ (d : Done). finish (reg.View c.args.to ∷ []) d (reached c.args.run.now))
    (c.in_ok-made.ensures c.args.run.now.bank.buffers ∙ words ∙
    ap (λ (a : ArrayRef). valued c.args.run.now.bank.buffers c.args.at (as_array (picked
    (subscripts_of c.args.subs.now (operands (reached c.args.run.now) (flat_map sub_operands c.args.subs.now))) a)))
    (c.array-from.ensures ∙
    ap (λ (vs : List (Option View)). array_in (view_in (views_bound vs) c.args.of)) c.as_slice.ensures))
