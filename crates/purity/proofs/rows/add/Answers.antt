use Rattle.std.proofs.Common.{◌≡◌, ◌∙◌, ◌++◌, ap, ℕ, List}
use Rattle.purity.specs.Marks.{row}
use Rattle.purity.specs.Uses.{only_at}
use Rattle.purity.proofs.RowLaws.{row_added}
use Rattle.purity.proofs.rows.add.Goals as goal

pub returns-clause-rows : goal.returns-clause-rows
returns-clause-rows c = λ k.
    ap (λ (rs : List (List ℕ)). row rs k) c.in_ok-push_at.ensures ∙
    (row_added c.grow.new.rows.items c.args.number k c.args.item c.in_ok-grow.ensures.there ∙
    ap (λ (xs : List ℕ). xs ++ only_at c.args.number k c.args.item) (c.in_ok-grow.ensures.same k))
