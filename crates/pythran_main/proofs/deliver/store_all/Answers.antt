use Rattle.std.proofs.Common.{ℕ, ◌+◌, ◌≤◌, map, take, drop, suc, arith}
use Rattle.pythran_main.specs.Steps.{save_of}
use Rattle.pythran_main.proofs.Saves.{taken, parted, stored_one, broke_off}
use Rattle.pythran_main.proofs.deliver.store_all.Goals as goal

pub loop-save-preserved : goal.loop-save-preserved
loop-save-preserved g c =
    let at : ℕ = c.loop-save.save-index in
    let before : g.F.Files.faults c.args.files.now ≤ g.F.Files.faults c.loop-save.files = c.loop-save.invariant.more in
    let here : g.F.Files.faults c.loop-save.files ≤ g.F.Files.faults c.store.new.self = c.store.ensures.count in
    record {
      more = omega (arith, before, here);
      stored = stored_one g.F.Files c.args.files.now c.loop-save.files c.store.new.self
          (map save_of (take at c.args.saves.now)) (save_of c.save-item.result) c.as_str.result.now
          c.as_slice.result.now c.as_str.ensures.value c.as_slice.ensures c.loop-save.invariant.stored
          c.store.ensures.others c.in_default.ensures.ok (map save_of (take (at + 1) c.args.saves.now))
          (taken save_of c.args.saves.now at c.save-item.result c.loop-save-test.true c.save-item.is);
    }

pub returns-in-Err-clause-failed : goal.returns-in-Err-clause-failed
returns-in-Err-clause-failed g c =
    let at : ℕ = c.loop-save.save-index in
    broke_off g.F.Files c.args.files.now c.loop-save.files c.store.new.self (map save_of (take at c.args.saves.now))
    (save_of c.save-item.result) c.as_str.result.now c.as_slice.result.now c.as_str.ensures.value c.as_slice.ensures
    c.loop-save.invariant.stored c.store.ensures.others c.loop-save.invariant.more c.in-Err.ensures.failed
    (map save_of (drop (suc at) c.args.saves.now)) (map save_of c.args.saves.now)
    (parted save_of c.args.saves.now at c.save-item.result c.loop-save-test.true c.save-item.is)
