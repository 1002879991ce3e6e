use Rattle.krn_base.specs.declared.refusal.Rule.TheVariants.{Name}
use Rattle.module_names.specs.Names.{module_marks}
use Rattle.module_names.proofs.Firsts.{ok_clause, refused_clause, only_clause, place_clause}
use Rattle.module_names.proofs.naming.names.Goals as goal

pub returns-clause-ok : goal.returns-clause-ok
returns-clause-ok c = ok_clause Name (module_marks c.args.tree.now) c.judged.result c.judged.ensures

pub returns-clause-refused : goal.returns-clause-refused
returns-clause-refused c = refused_clause Name (module_marks c.args.tree.now) c.judged.result c.judged.ensures

pub returns-clause-only : goal.returns-clause-only
returns-clause-only c = only_clause Name (module_marks c.args.tree.now) c.judged.result c.judged.ensures

pub returns-clause-place : goal.returns-clause-place
returns-clause-place c = place_clause Name (module_marks c.args.tree.now) c.judged.result c.judged.ensures
