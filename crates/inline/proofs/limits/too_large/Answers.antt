use Rattle.std.proofs.Common.{◌≡◌, ◌∙◌, ap, ap₂, List, ℕ, length, map}
use Rattle.eager_rules.specs.declared.program.Instance.{Instance}
use Rattle.inline.specs.Limits.{first_above}
use Rattle.inline.specs.Tables.{held_sums, in_table, rounds}
use Rattle.inline.specs.declared.counts.Measure.TheVariants.{Weight}
use Rattle.inline.proofs.LimitLaws.{large}
use Rattle.inline.proofs.limits.too_large.Goals as goal

pub returns : goal.returns
returns c =
    let table : c.in_ok-table.table ≡
    rounds Weight c.args.program.now.instances (length c.args.program.now.instances) =
    c.in_ok-table.ensures
    ∙ ap (λ (is : List Instance). rounds Weight is (length is)) c.as_slice.ensures in
    let counts : c.in_ok-weights.weights ≡
    map (in_table (rounds Weight c.args.program.now.instances (length c.args.program.now.instances)))
    c.args.program.now.kernels =
    c.in_ok-weights.ensures
    ∙ ap₂ (λ (kernels row : List ℕ). map (in_table row) kernels) c.as_slice-2.ensures
    (c.as_slice-3.ensures ∙ table) in
    c.first_above.ensures
    ∙ (ap (first_above 20000) (c.as_slice-5.ensures ∙ c.in_ok-sums.ensures
    ∙ ap (held_sums 0) (c.as_slice-4.ensures ∙ counts))
    ∙ large c.args.program.now)
