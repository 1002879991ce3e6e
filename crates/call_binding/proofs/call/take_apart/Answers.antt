use Rattle.std.proofs.Common.{◌≡◌, ◌∙◌, sym, List, ℕ, Option, Some, None}
use Rattle.view_places.specs.declared.shape.Array.{Array}
use Rattle.call_binding.specs.Views.{buffer_of}
use Rattle.call_binding.proofs.Lists.{made_more, made_none, not_some}
use Rattle.call_binding.proofs.call.take_apart.Goals as goal

pub loop-item-preserved-in-Continue-branch-2 : goal.loop-item-preserved-in-Continue-branch-2
loop-item-preserved-in-Continue-branch-2 c =
    let buffer = c.in-Some-into_buffer.buffer in
    let e : buffer_of c.in-Some.item ≡ Some buffer = sym c.in-Some-into_buffer.ensures in
    record {
      names = c.in_ok-push.ensures.items
          ∙ made_more buffer_of (λ (b : List ℕ × Array). b.0) c.loop-item.yielded c.in-Some.item
          c.loop-item.names.items c.loop-item.invariant.names buffer e;
      arrays = c.in_ok-push-2.ensures.items
          ∙ made_more buffer_of (λ (b : List ℕ × Array). b.1) c.loop-item.yielded c.in-Some.item
          c.loop-item.arrays.items c.loop-item.invariant.arrays buffer e;
    }

pub loop-item-preserved : goal.loop-item-preserved
loop-item-preserved c =
    let e : buffer_of c.in-Some.item ≡ None =
    sym c.into_buffer.ensures ∙ not_some c.into_buffer.result c.in_default.not-Some in
    record {
      names = made_none buffer_of (λ (b : List ℕ × Array). b.0) c.loop-item.yielded c.in-Some.item
          c.loop-item.names.items c.loop-item.invariant.names e;
      arrays = made_none buffer_of (λ (b : List ℕ × Array). b.1) c.loop-item.yielded c.in-Some.item
          c.loop-item.arrays.items c.loop-item.invariant.arrays e;
    }
