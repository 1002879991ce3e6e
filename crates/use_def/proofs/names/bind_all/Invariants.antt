use Rattle.std.proofs.Common.{◌≡◌, take, map}
use Rattle.use_def.specs.Sets.{assigned, outside, with_texts}
use Rattle.use_def.proofs.names.bind_all.Given as goal

abbrev pub invariant-loop-text : goal.invariant-loop-text
invariant-loop-text l = record {
  assigned : assigned l.names ≡ with_texts (map (λ t. t.now) (take l.text-index l.texts)) (assigned l.fn.names);
  outside : outside l.names ≡ outside l.fn.names;
}
