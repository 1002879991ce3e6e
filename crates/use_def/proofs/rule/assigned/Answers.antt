use Rattle.std.proofs.Common.{◌≡◌, sym, ◌∙◌, subst, List, ℕ, Bool}
use Rattle.call_chains.specs.Calls.{own_calls}
use Rattle.call_chains.specs.Chains.{Rows}
use Rattle.call_chains.specs.Sets.{AreReached}
use Rattle.py_parse.specs.declared.tree.Module.{Module}
use Rattle.use_def.specs.Flows.{all_marks}
use Rattle.use_def.proofs.Modules.{ok_clause, refused_clause, none_marked, first_marked, settled_clause}
use Rattle.use_def.proofs.rule.assigned.Goals as goal

-- the marks are those of the module's own calls
of_module : (m : Module) (exported : List ℕ) (rows shown : Rows) (marks seen : List Bool) → rows ≡ own_calls m
    → shown ≡ rows → seen ≡ marks → AreReached shown exported marks → AreReached (own_calls m) exported seen
of_module m exported rows shown marks seen is same equal are =
    subst (λ (r : Rows). AreReached r exported seen) (same ∙ is)
    (subst (λ (l : List Bool). AreReached shown exported l) (sym equal) are)

pub returns-clause-ok : goal.returns-clause-ok
returns-clause-ok c =
    let m = c.args.tree.now in
    let exported = c.args.exported.now in
    let reached = c.as_slice-2.result.now in
    let are = of_module m exported _ _ _ reached c.in_ok-rows.ensures c.as_slice.ensures c.as_slice-2.ensures.value
    c.in_ok-marks.ensures in
    ok_clause m exported reached are c.answer_first.result
    (c.answer_first.ensures.ok (all_marks m reached) c.in_ok-first.ensures)

pub returns-clause-refused : goal.returns-clause-refused
returns-clause-refused c =
    let m = c.args.tree.now in
    let exported = c.args.exported.now in
    let reached = c.as_slice-2.result.now in
    let are = of_module m exported _ _ _ reached c.in_ok-rows.ensures c.as_slice.ensures c.as_slice-2.ensures.value
    c.in_ok-marks.ensures in
    refused_clause m exported reached are c.answer_first.result
    (c.answer_first.ensures.refused (all_marks m reached) c.in_ok-first.ensures)

pub returns-clause-only : goal.returns-clause-only
returns-clause-only c = λ accepted.
    let m = c.args.tree.now in
    let exported = c.args.exported.now in
    let reached = c.as_slice-2.result.now in
    let are = of_module m exported _ _ _ reached c.in_ok-rows.ensures c.as_slice.ensures c.as_slice-2.ensures.value
    c.in_ok-marks.ensures in
    c.answer_first.ensures.only (all_marks m reached) c.in_ok-first.ensures
    (none_marked m exported reached are accepted)

pub returns-clause-place : goal.returns-clause-place
returns-clause-place c = λ at first.
    let m = c.args.tree.now in
    let exported = c.args.exported.now in
    let reached = c.as_slice-2.result.now in
    let are = of_module m exported _ _ _ reached c.in_ok-rows.ensures c.as_slice.ensures c.as_slice-2.ensures.value
    c.in_ok-marks.ensures in
    c.answer_first.ensures.place (all_marks m reached) c.in_ok-first.ensures at
    (first_marked m exported reached are at first)

pub returns-clause-settled : goal.returns-clause-settled
returns-clause-settled c =
    settled_clause c.args.tree.now c.args.exported.now c.answer_first.result (returns-clause-ok c)
