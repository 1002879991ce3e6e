use Rattle.std.proofs.Common.{◌≡◌, ℕ, Bool, ◌||◌, List, ap, ap₂, sym, ◌∙◌, Vec, Global, [], ◌∷◌}
use Rattle.std.proofs.lemmas.List.Folds.{list_any-append}
use Rattle.std.specs.List.{list_any}
use Rattle.std.specs.Str.{bytes_eq}
use Rattle.export_sig.specs.declared.signature.Signature.{Signature}
use Rattle.export_sig.specs.Keys.{key_of}
use Rattle.export_sig.specs.Listing.{is_repeated}
use Rattle.export_sig.proofs.KeyLaws.{one_key}
use Rattle.export_sig.proofs.Sets.{inserted, or_end}
use Rattle.export_sig.proofs.Tools.{text_is}
use Rattle.export_sig.proofs.found.Found.add.Goals as goal

pub returns-clause-keys : goal.returns-clause-keys
returns-clause-keys c = λ q.
    let has : Vec ℕ Global → Bool = λ k. bytes_eq (key_of q) k.items in
    let key : Vec ℕ Global = c.in_ok-key.key in
    let here : has key ≡ is_repeated q c.args.s = ap (bytes_eq (key_of q)) c.in_ok-key.ensures ∙ one_key q c.args.s in
    ap (list_any has) c.in_ok-insert.ensures.keys
    ∙ inserted _ has key c.args.self.now.keys.keys
    (λ x e. sym (ap (bytes_eq (key_of q)) (text_is key.items x.items e)))
    ∙ ap₂ (λ (a b : Bool). a || b) (c.requires q) here
    ∙ sym (or_end (list_any (is_repeated q) c.args.self.now.list.items) (is_repeated q c.args.s))
    ∙ sym (list_any-append (is_repeated q) c.args.self.now.list.items (c.args.s ∷ []))
    ∙ sym (ap (list_any (is_repeated q)) c.in_ok-push.ensures.items)
