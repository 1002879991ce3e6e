use Rattle.std.proofs.Common.{◌∙◌, ap, ap₂, ℕ, List, length}
use Rattle.std.proofs.lemmas.Result.{IfOk-weaker}
use Rattle.krn_base.specs.declared.kind.Kind.{Kind}
use Rattle.eager_rules.specs.Blocks.{End}
use Rattle.loop_exec.specs.Banks.{state_of}
use Rattle.loop_exec.specs.Running.{end_of, reached}
use Rattle.loop_prog.specs.Serial.{block, ended, no_counts}
use Rattle.loop_prog.specs.State.{State}
use Rattle.loop_prog.specs.declared.program.Statement.{Statement}
use Rattle.loop_exec.proofs.evaluation.run_kernel.Goals as goal

pub returns : goal.returns
returns c =
    let last : State × End = (reached c.run_block.new.run, end_of c.in_ok-end.end) in
    IfOk-weaker c.ran.result _ _ (λ r is.
    is ∙ ap (λ (rets : List (Kind × ℕ)). ended rets c.len.result last) c.as_slice-3.ensures ∙
    ap (λ (n : ℕ). ended c.args.kernel.now.rets n last) c.len.ensures ∙
    ap (ended c.args.kernel.now.rets (length c.args.call.now.buffers))
    (c.in_ok-end.ensures ∙
    ap₂ (λ (kinds : List Kind) (body : List Statement). block kinds body (state_of no_counts c.in_ok-bank.bank))
    c.as_slice-2.ensures c.as_slice.ensures ∙
    ap (block c.args.kernel.now.regs c.args.kernel.now.body) c.in_ok-bank.ensures.state)) c.ran.ensures
