use Rattle.std.proofs.Common.{◌≡◌, ◌<◌, ◌+◌, ◌∙◌, ap, sym, subst, length, List, ℕ, Result, Ok, Err, arith, length-set}
use Rattle.std.proofs.lemmas.List.{drop-set-lt}
use Rattle.std.proofs.lemmas.List.Elements.{All-set}
use Rattle.std.proofs.lemmas.Result.{err_from_is_err_and}
use Rattle.host_io.specs.Files.{Held}
use Rattle.call_binding.specs.Files.{Whole}
use Rattle.call_binding.specs.Filling.{FillsItem, FillsTo, IsLoaded}
use Rattle.call_binding.specs.Sound.{IsSound}
use Rattle.call_binding.specs.declared.items.Item.{Item}
use Rattle.call_binding.proofs.FillLaws.{tails, loaded_turn, fault_turn, loaded_sound, all_turns}
use Rattle.call_binding.proofs.files.fill.Goals as goal

pub returns-in_err-buffer-in-Loaded-clause-fills : goal.returns-in_err-buffer-in-Loaded-clause-fills
returns-in_err-buffer-in-Loaded-clause-fills g c =
    let held = g.F.Files.held c.args.files.now in
    let inv = c.loop-at.invariant in
    let path = c.in-Loaded.path in
    let fault = c.in_err-buffer-in-Loaded.field-0.0 in
    let before = g.F.Files.faults c.args.files.now in
    let mid = g.F.Files.faults c.loop-at.files in
    let after = g.F.Files.faults c.fill_file.new.files in
    let all : length c.into_vec-full.result.items ≡ length c.args.items =
    ap (λ (xs : List Item). length xs) c.into_vec-full.ensures in
    let lt : c.loop-at.at < length c.loop-at.full.items = omega (arith, all) in
    let filled : FillsItem (held path) mid after (c.loop-at.at + 1) c.in-Loaded.name (Err fault) =
    subst (λ (file : Held). FillsItem file mid after (c.loop-at.at + 1) c.in-Loaded.name (Err fault)) (inv.kept path)
    c.in_err-buffer-in-Loaded.ensures.fills in
    let p = err_from_is_err_and c.from_residual.result c.from_residual.ensures.1 in
    rw (p.1, p.2)
    (fault_turn held c.args.items c.loop-at.full.items c.loop-at.at c.index.result.now lt inv.length c.index.ensures
    inv.rest inv.so_far c.in-Loaded.name path c.in-Loaded.is
    before mid after inv.count fault filled)

pub loop-at-preserved : goal.loop-at-preserved
loop-at-preserved g c =
    let held = g.F.Files.held c.args.files.now in
    let inv = c.loop-at.invariant in
    let full = c.loop-at.full.items in
    let path = c.in-Loaded.path in
    let b = c.in_ok-buffer-in-Loaded.buffer in
    let all : length c.into_vec-full.result.items ≡ length c.args.items =
    ap (λ (xs : List Item). length xs) c.into_vec-full.ensures in
    let lt : c.loop-at.at < length full = omega (arith, all) in
    let loaded : IsLoaded (held path) c.in-Loaded.name b =
    subst (λ (file : Held). IsLoaded file c.in-Loaded.name b) (inv.kept path) c.in_ok-buffer-in-Loaded.ensures.fills in
    record {
      length = rw length-set inv.length;
      rest = drop-set-lt (c.loop-at.at + 1) full c.loop-at.at b (omega arith)
          ∙ tails held c.args.items full c.loop-at.at c.index.result.now lt inv.length c.index.ensures inv.rest
          inv.so_far;
      sound = All-set IsSound full c.loop-at.at b (loaded_sound (held path) c.in-Loaded.name b loaded) inv.sound;
      so_far = loaded_turn held c.args.items full c.loop-at.at c.index.result.now lt inv.length c.index.ensures
          inv.rest inv.so_far c.in-Loaded.name path c.in-Loaded.is b loaded;
      count = omega (arith, inv.count, c.fill_file.ensures.count);
      kept = λ other. c.fill_file.ensures.kept other ∙ inv.kept other;
    }

pub returns-clause-fills : goal.returns-clause-fills
returns-clause-fills g c =
    let inv = c.loop-at.invariant in
    let all : length c.into_vec-full.result.items ≡ length c.args.items =
    ap (λ (xs : List Item). length xs) c.into_vec-full.ensures in
    let end : c.loop-at.at ≡ length c.loop-at.full.items = omega (arith, all) in
    subst (λ (xs : List Item). FillsTo (g.F.Files.held c.args.files.now) c.args.items (Whole xs))
    (sym c.from_vec.ensures)
    (all_turns (g.F.Files.held c.args.files.now) c.args.items c.loop-at.full.items c.loop-at.at end inv.length
    inv.so_far)
