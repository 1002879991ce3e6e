use mathlib.Core.Path.{fun_ext}
use Rattle.std.proofs.Common.{ap, ◌∙◌, Some, unwrap_or, false}
use Rattle.std.proofs.lemmas.Map.Text.{hash_map_updates_str}
use Rattle.std.specs.Str.{bytes_eq}
use Rattle.indexmap.specs.IndexMap.{get_by}
use Rattle.use_def.proofs.SetLaws.{mark_is}
use Rattle.use_def.proofs.names.set_mark.Goals as goal

pub returns-clause-marks : goal.returns-clause-marks
returns-clause-marks c =
    let text = c.args.text.now in
    let old = c.args.names.now.marks in
    fun_ext (λ other.
    ap (λ o. unwrap_or o false) (hash_map_updates_str text old c.insert.new.self (Some c.args.value)
    c.in_ok-insert.ensures.updates other)
    ∙ mark_is (bytes_eq text other) c.args.value (get_by (λ k. bytes_eq other k.now) old))
