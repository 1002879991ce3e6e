use Rattle.std.proofs.Common.{◌∙◌, ap, [], ◌∷◌, List, ℤ, Option, map}
use Rattle.eager_rules.specs.Works.{Done, fresh_work}
use Rattle.loop_exec.specs.Banks.{words_bound}
use Rattle.loop_exec.specs.Running.{reached}
use Rattle.loop_prog.specs.Serial.{finish}
use Rattle.loop_prog.specs.State.{operand_in}
use Rattle.loop_prog.specs.declared.program.Reg.TheVariants as reg
use Rattle.loop_exec.proofs.NestLemmas.{finish_kept}
use Rattle.loop_exec.proofs.statements.fresh.Goals as goal

pub returns : goal.returns
returns c =
    c.finish_view.ensures ∙
    finish_kept (reg.View c.args.to ∷ []) c.fresh.new.buffers c.in_ok-made.made (reached c.args.run.now) ∙
    ap (λ (d : Done). finish (reg.View c.args.to ∷ []) d (reached c.args.run.now))
    (c.in_ok-made.ensures ∙
    ap (λ (ws : List (Option ℤ)). fresh_work c.args.fill c.args.at
    (map (operand_in (words_bound ws)) c.args.dims.now) c.args.run.now.bank.buffers) c.as_slice.ensures)
