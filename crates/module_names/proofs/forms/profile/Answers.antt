use Rattle.krn_base.specs.declared.refusal.Rule.TheVariants.{Profile}
use Rattle.module_names.specs.Profile.{module_marks}
use Rattle.module_names.proofs.Firsts.{ok_clause, refused_clause, only_clause, place_clause}
use Rattle.module_names.proofs.forms.profile.Goals as goal

pub returns-clause-ok : goal.returns-clause-ok
returns-clause-ok c = ok_clause Profile (module_marks c.args.tree.now) c.judged.result c.judged.ensures

pub returns-clause-refused : goal.returns-clause-refused
returns-clause-refused c = refused_clause Profile (module_marks c.args.tree.now) c.judged.result c.judged.ensures

pub returns-clause-only : goal.returns-clause-only
returns-clause-only c = only_clause Profile (module_marks c.args.tree.now) c.judged.result c.judged.ensures

pub returns-clause-place : goal.returns-clause-place
returns-clause-place c = place_clause Profile (module_marks c.args.tree.now) c.judged.result c.judged.ensures
