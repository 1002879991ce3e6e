use Rattle.std.proofs.Common.{◌≡◌, ◌∙◌, ap, sym, List, Option, Some, slice_get}
use Rattle.std.proofs.lemmas.Result.{IfOk-weaker}
use Rattle.loop_exec.specs.Banks.{state_of}
use Rattle.loop_exec.specs.Numbered.{does, statement_at}
use Rattle.loop_exec.proofs.FindLemmas.{past}
use Rattle.loop_prog.specs.Serial.{no_counts}
use Rattle.loop_prog.specs.Statements.{statements}
use Rattle.loop_prog.specs.declared.program.Statement.{Statement}
use Rattle.loop_exec.proofs.numbered.run_nest.Goals as goal

pub returns-in-Some-clause-meaning : goal.returns-in-Some-clause-meaning
returns-in-Some-clause-meaning c =
    let found : statement_at c.args.kernel.now c.args.at ≡ Some c.in-Some.statement.now =
    ap (λ (body : List Statement). slice_get (statements body) c.args.at) (sym c.as_slice.ensures) ∙
    c.in-Some.ensures.found in
    IfOk-weaker c.run_statement.result _ _ (λ used meaning counts.
    ap (λ (s : Option Statement). does c.args.kernel.now s (state_of counts c.args.bank.now)) found ∙
    meaning c.args.kernel.now.regs counts) c.run_statement.ensures.meaning

pub returns-in-None-clause-meaning : goal.returns-in-None-clause-meaning
returns-in-None-clause-meaning c =
    absurd (past c.args.kernel.now c.as_slice.result.now c.args.at c.find_in.new.number
    (state_of no_counts c.args.bank.now) c.as_slice.ensures c.in-None.ensures.none c.requires)

pub returns-in-None-clause-clash : goal.returns-in-None-clause-clash
returns-in-None-clause-clash c =
    absurd (past c.args.kernel.now c.as_slice.result.now c.args.at c.find_in.new.number
    (state_of no_counts c.args.bank.now) c.as_slice.ensures c.in-None.ensures.none c.requires)
