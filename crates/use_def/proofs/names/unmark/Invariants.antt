use Rattle.std.proofs.Common.{◌≡◌, take, map}
use Rattle.use_def.specs.Sets.{marked, without}
use Rattle.use_def.proofs.names.unmark.Given as goal

abbrev pub invariant-loop-text : goal.invariant-loop-text
invariant-loop-text l = record {
  marks : marked l.names ≡ without (map (λ t. t.now) (take l.text-index l.texts)) (marked l.fn.names);
  fresh : l.names.fresh.items ≡ l.fn.names.fresh.items;
  ended : l.names.ended ≡ l.fn.names.ended;
}
