use Rattle.std.proofs.Common.{◌≡◌, ◌∙◌, ap, sym, subst, List, [], ◌∷◌, ◌++◌, IfOk}
use Rattle.lazy_expr.specs.Lowered.{closing_in}
use Rattle.lazy_expr.specs.Plain.{closed}
use Rattle.lazy_expr.proofs.TailEnds.{closed_last}
use Rattle.loop_prog.specs.declared.program.Statement.{Statement, out-Statement}
use Rattle.lazy_expr.proofs.closing.+close.Goals as goal

pub close-returns-in-Some : goal.close-returns-in-Some
close-returns-in-Some t c =
    let last : Statement = c.in-Some.last in
    let before : List Statement = c.pop.new.self.items in
    let items : c.args.body ≡ before ++ last ∷ [] = sym c.into_vec-items.ensures ∙ c.in-Some.ensures.items in
    let whole : closed c.args.body ≡ c.from_vec.result ++ closing_in last (out-Statement last) =
    ap closed items ∙ closed_last before last ∙
    ap (λ (b : List Statement). b ++ closing_in last (out-Statement last)) (sym c.from_vec.ensures) in
    subst (λ (list : List Statement). IfOk c.close_last.result (λ l. l ≡ list)) (sym whole) c.close_last.ensures
