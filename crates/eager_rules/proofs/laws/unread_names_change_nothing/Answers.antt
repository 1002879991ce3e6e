use Rattle.eager_rules.proofs.ReadNames.{reads_no_others}
use Rattle.eager_rules.proofs.laws.unread_names_change_nothing.Goals as goal

pub returns : goal.returns
returns c = reads_no_others
