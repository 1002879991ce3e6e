use Rattle.lazy_expr.specs.Plain.{lowered}
use Rattle.lazy_expr.specs.Table.{word_kinds}
use Rattle.lazy_expr.proofs.Outcomes.{keeps_outcomes}
use Rattle.lazy_expr.proofs.ShapeLaws.{flips_proper, picks_proper, spreads_by}
use Rattle.lazy_expr.proofs.Start.{starts_alike}
use Rattle.lazy_expr.proofs.Table.{is_table}
use Rattle.lazy_expr.proofs.TailEnds.{closes_alike}
use Rattle.lazy_expr.proofs.laws.plain_law.Goals as goal

pub returns : goal.returns
returns c f flat =
    keeps_outcomes c.laws_of_all_programs.ensures.ends c.laws_of_all_programs.ensures.keeps
    c.laws_of_all_programs.ensures.begins c.walk_law.ensures (spreads_by c.broadcast_law.ensures.each)
    c.broadcast_law.ensures.alone c.broadcast_law.ensures.itself picks_proper flips_proper f (is_table f.names)
    (starts_alike f) (closes_alike f.rets (word_kinds f.names) (lowered f.names f.body).body) flat
