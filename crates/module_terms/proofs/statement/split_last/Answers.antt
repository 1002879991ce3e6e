use Rattle.std.proofs.Common.{rules, ◌≡◌, ◌∷◌, ◌++◌, [], ap, sym, ◌∙◌}
use Rattle.module_terms.specs.Lines.{split_last}
use Rattle.module_terms.proofs.Ends.{last_apart}
use Rattle.module_terms.proofs.statement.split_last.Goals as goal

pub returns-in-Some : goal.returns-in-Some
returns-in-Some c =
    let whole : c.args.steps ≡ c.from_vec.result ++ c.in-Some.last ∷ [] = search rules in
    sym (ap split_last whole ∙ last_apart c.from_vec.result c.in-Some.last)
