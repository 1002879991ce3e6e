use Rattle.std.proofs.Common.{◌≡◌, drop}
use Rattle.eager_rules.specs.Assigned.{outside}
use Rattle.eager_rules.specs.Sound.{put_all}
use Rattle.eager_rules.proofs.assigned.bind_all.Given as goal

abbrev pub invariant-loop-name : goal.invariant-loop-name
invariant-loop-name l = record {
  marks : put_all (drop l.name-index l.to) l.names.marks ≡ put_all l.to l.fn.names.marks;
  outside : outside l.names ≡ outside l.fn.names;
  ended : l.names.ended ≡ l.fn.names.ended;
}
