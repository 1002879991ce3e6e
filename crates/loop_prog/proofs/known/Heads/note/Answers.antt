use Rattle.std.proofs.Common.{◌≡◌, ℕ, Bool, ◌||◌, List, map, ap, ap₂, sym, ◌∙◌, Vec, Global, [], ◌∷◌}
use Rattle.std.proofs.lemmas.List.Folds.{list_any-append}
use Rattle.std.specs.List.{list_any}
use Rattle.std.specs.Str.{bytes_eq}
use Rattle.krn_base.specs.declared.kind.ParamType.{ParamType}
use Rattle.loop_prog.specs.Check.{same_head}
use Rattle.loop_prog.specs.Heads.{head_key, key}
use Rattle.loop_prog.proofs.HeadKeys.{inserted, one_key, or_end, text_is}
use Rattle.loop_prog.proofs.known.Heads.note.Goals as goal

pub returns-clause-known : goal.returns-clause-known
returns-clause-known c = λ earlier holds.
    let text : c.in_ok-key.key.items ≡ head_key c.args.kernel.now =
    c.in_ok-key.ensures ∙ ap₂ (λ (params : List (List ℕ × ParamType)) (name : List ℕ). key (map (λ p. p.1) params) name)
    c.as_slice-2.ensures c.as_slice.ensures in
    c.contains-known.ensures
    ∙ ap (λ (t : List ℕ). list_any (λ (k : Vec ℕ Global). bytes_eq t k.items) c.args.self.now.keys.keys)
    (c.as_slice-3.ensures.value ∙ text)
    ∙ holds c.args.kernel.now

pub returns-clause-heads : goal.returns-clause-heads
returns-clause-heads c = λ earlier holds q.
    let has : Vec ℕ Global → Bool = λ k. bytes_eq (head_key q) k.items in
    let own : Vec ℕ Global = c.in_ok-key.key in
    let text : own.items ≡ head_key c.args.kernel.now =
    c.in_ok-key.ensures ∙ ap₂ (λ (params : List (List ℕ × ParamType)) (name : List ℕ). key (map (λ p. p.1) params) name)
    c.as_slice-2.ensures c.as_slice.ensures in
    let here : has own ≡ same_head q c.args.kernel.now =
    ap (bytes_eq (head_key q)) text ∙ one_key q c.args.kernel.now in
    ap (list_any has) c.in_ok-insert.ensures.keys
    ∙ inserted _ has own c.args.self.now.keys.keys
    (λ x e. sym (ap (bytes_eq (head_key q)) (text_is own.items x.items e)))
    ∙ ap₂ (λ (a b : Bool). a || b) (holds q) here
    ∙ sym (or_end (list_any (same_head q) earlier) (same_head q c.args.kernel.now))
    ∙ sym (list_any-append (same_head q) earlier (c.args.kernel.now ∷ []))
