use Rattle.std.proofs.Common.{◌∙◌, ◌+◌, ap, sym, ℕ, List, drop, get_or, option_map, slice_get}
use Rattle.std.proofs.lemmas.List.{drop_more}
use Rattle.const_fold.specs.Folded.{times}
use Rattle.const_fold.specs.Tallies.{after}
use Rattle.const_fold.proofs.TallyLaws.{after_more}
use Rattle.const_fold.proofs.tallies.count_all.Goals as goal

pub loop-name-preserved : goal.loop-name-preserved
loop-name-preserved c k =
    ap (option_map (after (times k (drop (c.loop-name.name-index + 1) c.args.names.now)))) (c.count.ensures k)
    ∙ (after_more k (get_or c.args.names.now c.loop-name.name-index 0)
    (drop (c.loop-name.name-index + 1) c.args.names.now) (slice_get c.loop-name.table.items k)
    ∙ (ap (λ (l : List ℕ). option_map (after (times k l)) (slice_get c.loop-name.table.items k))
    (sym (drop_more c.args.names.now c.loop-name.name-index 0 c.loop-name-test.true))
    ∙ c.loop-name.invariant k))
