use Rattle.std.proofs.Common.{rules, ◌≡◌, ◌++◌, ◌∷◌, [], List, ℕ, Bool, true, false, length}
use Rattle.std.proofs.Common.{Some, None, Option, ap, ◌∙◌, sym, subst}
use Rattle.std.specs.Option.{is_some}
use Rattle.std.specs.HashMap.{get_by}
use Rattle.std.specs.Str.{bytes_eq}
use Rattle.std.specs.Global.{Vec}
use Rattle.std.specs.Map.{lookup}
use Rattle.std.specs.Result.{OnOk}
use Rattle.indexmap.proofs.CallerLemmas.{insert_entry-new}
use Rattle.array_types.specs.Keys.{code, Leads}
use Rattle.array_types.specs.declared.state.Key.TheVariants.{Called}
use Rattle.array_types.proofs.Calls.{call_kept, call_behind}
use Rattle.array_types.proofs.Indexing.{absent}
use Rattle.array_types.proofs.keys.note_call.Goals.{in-Ok, in-Err}
use Rattle.array_types.proofs.keys.note_call.Goals as goal

pub returns-then-contains_key : goal.returns-then-contains_key
returns-then-contains_key c =
    let look : List ℕ → Option ℕ = λ q. get_by (λ k. bytes_eq q k.items) c.args.index.now in
    let same : c.as_slice.result.now ≡ code c.args.function c.args.types.now = search rules in
    let there : is_some (look c.as_slice.result.now) ≡ true = search rules in
    call_kept look c.args.keys.now c.requires c.args.function c.args.types.now
    (subst (λ (q : List ℕ). is_some (look q) ≡ true) same there)

pub returns : goal.returns
returns c =
    let look : List ℕ → Option ℕ = λ q. get_by (λ k. bytes_eq q k.items) c.args.index.now in
    let none : is_some (look c.as_slice.result.now) ≡ false = search rules in
    elim c.match-insert.branch [
      | in-Ok w ↦
          let is : c.in_ok-code.code.items ≡ code c.args.function c.args.types.now = search rules in
          let free : look c.in_ok-code.code.items ≡ None =
          ap look (sym c.as_slice.ensures.value) ∙ absent (look c.as_slice.result.now) none in
          let entries : c.insert.new.self.entries ≡
          c.args.index.now.entries ++ (c.in_ok-code.code, length c.args.keys.now) ∷ [] =
          w.in-Ok.ensures.entries ∙ insert_entry-new (λ (a b : Vec ℕ). bytes_eq a.items b.items) c.args.index.now
          c.in_ok-code.code (length c.args.keys.now) free in
          subst (λ r. OnOk r (Leads c.insert.new.self (c.args.keys.now ++ Called c.args.function c.args.types.now ∷ [])))
          (sym w.result-is) (λ f ts.
          ap (lookup (λ k. bytes_eq (code f ts) k.items)) entries
          ∙ call_behind c.args.index.now.entries c.args.keys.now c.in_ok-code.code c.args.function c.args.types.now is f
          ts (c.requires f ts))
      | in-Err w ↦
          subst (λ r. OnOk r (Leads c.insert.new.self (c.args.keys.now ++ Called c.args.function c.args.types.now ∷ [])))
          (sym w.result-is) tt
    ]
