use Rattle.std.proofs.Common.{rules, ◌∙◌, ap, sym, subst, List, replicate}
use Rattle.const_fold.specs.Tallies.{AreTallies}
use Rattle.const_fold.specs.declared.tallies.Tally.{Tally}
use Rattle.const_fold.specs.declared.tallies.Tally.TheVariants.{Never}
use Rattle.const_fold.proofs.TallyLaws.{tallied}
use Rattle.const_fold.proofs.tallies.tallies.Goals as goal

pub returns : goal.returns
returns c =
    subst (λ (l : List Tally). AreTallies c.args.f.now l) (sym c.from_vec.ensures)
    (tallied c.args.f.now c.in_ok-table.table.items c.count_all.new.table.items c.count_all-2.new.table.items
    c.count_all-3.new.table.items c.as_slice-3.result.now c.as_slice-4.result.now c.as_slice-5.result.now
    (c.in_ok-table.ensures ∙ ap (λ n. replicate n Never) c.len.ensures)
    (search rules) (search rules) (search rules)
    c.count_all.ensures c.count_all-2.ensures c.count_all-3.ensures)
