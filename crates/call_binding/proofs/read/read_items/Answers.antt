use Rattle.std.proofs.Common.{◌≡◌, ◌∙◌, ap, sym, ◌+◌, ◌<◌, ℕ, [], length, drop, get_or, arith, subst, Some, rules, List}
use Rattle.std.proofs.Common.{Option, IfSome}
use Rattle.std.proofs.lemmas.List.{get_or_default}
use Rattle.std.proofs.lemmas.List.Elements.{All-push}
use Rattle.std.specs.Borrow.{Bor}
use Rattle.std.specs.List.{All}
use Rattle.call_binding.specs.declared.items.Item.{Item}
use Rattle.call_binding.specs.Reading.{read_from, texts_of, item}
use Rattle.call_binding.specs.Sound.{IsSound}
use Rattle.call_binding.proofs.Turns.{following, item_here, read_more}
use Rattle.call_binding.proofs.read.read_items.Goals as goal

pub loop-at-preserved : goal.loop-at-preserved
loop-at-preserved c =
    let texts : List (Bor (List ℕ)) = c.args.texts.now in
    let at : ℕ = c.loop-at.at in
    let lt : at < length texts = omega arith in
    let word : Bor (List ℕ) = get_or texts at (record { ref_ptr = (0, 0); now = [] }) in
    let x : Item = c.in-Some.item in
    let e : Some x ≡ item word.now = sym c.in-Some.is ∙ c.in_ok-item.ensures.item in
    let sound : IsSound x = subst (λ (o : Option Item). IfSome o IsSound) c.in-Some.is c.in_ok-item.ensures.sound in (
      subst (λ (items : List Item). following items (read_from (at + 1 + 1) (texts_of (drop (at + 1) texts)))
          ≡ read_from 1 (texts_of texts))
          (sym c.in_ok-push-in-Some.ensures.items)
          (read_more c.loop-at.items.items (texts_of (drop (at + 1) texts)) at word.now x (read_from 1 (texts_of texts))
          (ap (λ (left : List (Bor (List ℕ))). following c.loop-at.items.items (read_from (at + 1) (texts_of left)))
          (sym (item_here texts at word lt (get_or_default texts at _ word lt)))
          ∙ c.loop-at.invariant.0)
          e),
      subst (All IsSound) (sym c.in_ok-push-in-Some.ensures.items)
          (All-push IsSound c.loop-at.items.items x c.loop-at.invariant.1 sound),
      search rules,
    )
