use Rattle.std.proofs.Common.{◌∙◌, ap, sym, Bool, true}
use Rattle.eager_rules.specs.Blocks.{GoesOn}
use Rattle.loop_prog.specs.State.{count_nest, with_buffers, with_counts}
use Rattle.loop_exec.specs.Banks.{state_of}
use Rattle.loop_exec.specs.Nests.{nested_by}
use Rattle.krn_base.specs.declared.place.Loc.{Loc}
use Rattle.loop_prog.specs.Serial.{no_counts}
use Rattle.loop_exec.proofs.NestLemmas.{nest_ran, told}
use Rattle.loop_exec.proofs.nest.nest.Goals as goal

pub returns-then-branch-clause-meaning : goal.returns-then-branch-clause-meaning
returns-then-branch-clause-meaning c at counts =
    ap (λ (used : Bool). (
      with_counts (count_nest used counts)
          (with_buffers c.store.new.buffers (state_of counts c.args.bank.now)),
      GoesOn,
    )) (sym c.if-branch.true) ∙
    nest_ran c.args.bank.now counts c.args.to c.args.steps.now at c.array-frame.result c.as_slice.result.now
    c.as_slice-2.result.now c.as_slice-4.result.now c.as_slice-3.result.now c.in_ok-store.field-0 c.store.new.buffers
    c.as_slice.ensures c.as_slice-2.ensures c.as_slice-4.ensures c.as_slice-3.ensures c.array-frame.ensures
    c.if-not-spread_leaves.ensures.fits c.in_ok-store.ensures.clash c.in_ok-store.ensures.stored

pub returns-else-branch-clause-meaning : goal.returns-else-branch-clause-meaning
returns-else-branch-clause-meaning c at counts =
    ap (λ (used : Bool). (
      with_counts (count_nest used counts)
          (with_buffers c.store.new.buffers (state_of counts c.args.bank.now)),
      GoesOn,
    )) (sym c.if-branch.false) ∙
    nest_ran c.args.bank.now counts c.args.to c.args.steps.now at c.array-frame.result c.as_slice.result.now
    c.as_slice-2.result.now c.as_slice-4.result.now c.as_slice-3.result.now c.in_ok-store.field-0 c.store.new.buffers
    c.as_slice.ensures c.as_slice-2.ensures c.as_slice-4.ensures c.as_slice-3.ensures c.array-frame.ensures
    c.if-not-spread_leaves.ensures.fits c.in_ok-store.ensures.clash c.in_ok-store.ensures.stored

here : Loc
here = record { line = 1; col = 1 }

pub returns-then-branch-clause-told : goal.returns-then-branch-clause-told
returns-then-branch-clause-told c =
    ap (nested_by true) (sym c.if-branch.true) ∙
    told c.args.bank.now no_counts c.args.to c.args.steps.now here c.array-frame.result c.as_slice.result.now
    c.as_slice-2.result.now c.as_slice-4.result.now c.as_slice-3.result.now c.in_ok-store.field-0 c.store.new.buffers
    c.as_slice.ensures c.as_slice-2.ensures c.as_slice-4.ensures c.as_slice-3.ensures c.array-frame.ensures
    c.if-not-spread_leaves.ensures.fits c.in_ok-store.ensures.clash c.in_ok-store.ensures.stored

pub returns-else-branch-clause-told : goal.returns-else-branch-clause-told
returns-else-branch-clause-told c =
    ap (nested_by true) (sym c.if-branch.false) ∙
    told c.args.bank.now no_counts c.args.to c.args.steps.now here c.array-frame.result c.as_slice.result.now
    c.as_slice-2.result.now c.as_slice-4.result.now c.as_slice-3.result.now c.in_ok-store.field-0 c.store.new.buffers
    c.as_slice.ensures c.as_slice-2.ensures c.as_slice-4.ensures c.as_slice-3.ensures c.array-frame.ensures
    c.if-not-spread_leaves.ensures.fits c.in_ok-store.ensures.clash c.in_ok-store.ensures.stored
