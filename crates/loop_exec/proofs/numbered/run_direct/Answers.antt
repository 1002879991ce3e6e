use Rattle.std.proofs.Common.{◌≡◌, ◌∙◌, ap, sym, List, Option, Some, slice_get}
use Rattle.loop_exec.specs.Banks.{state_of}
use Rattle.loop_exec.specs.Numbered.{does, statement_at}
use Rattle.loop_exec.proofs.FindLemmas.{past}
use Rattle.loop_prog.specs.Serial.{no_counts}
use Rattle.loop_prog.specs.Statements.{statements}
use Rattle.loop_prog.specs.declared.program.Statement.{Statement}
use Rattle.loop_exec.proofs.numbered.run_direct.Goals as goal

pub returns-in-Some-clause-meaning : goal.returns-in-Some-clause-meaning
returns-in-Some-clause-meaning c counts =
    let found : statement_at c.args.kernel.now c.args.at ≡ Some c.in-Some.statement.now =
    ap (λ (body : List Statement). slice_get (statements body) c.args.at) (sym c.as_slice.ensures) ∙
    c.in-Some.ensures.found in
    ap (λ (s : Option Statement). does c.args.kernel.now s (state_of counts c.args.bank.now)) found ∙
    c.run_statement_direct.ensures.meaning c.args.kernel.now.regs counts

pub returns-in_default-clause-meaning : goal.returns-in_default-clause-meaning
returns-in_default-clause-meaning c =
    absurd (past c.args.kernel.now c.as_slice.result.now c.args.at c.find_in.new.number
    (state_of no_counts c.args.bank.now) c.as_slice.ensures c.in_default.ensures.none c.requires.nest)
