use Rattle.inline.proofs.DropForm.{same_form}
use Rattle.inline.proofs.dropping.dropped_form_law.Goals as goal

pub returns : goal.returns
returns c program calm = same_form program calm
