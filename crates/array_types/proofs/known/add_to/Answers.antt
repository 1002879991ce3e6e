use Rattle.std.proofs.Common.{rules, ◌≡◌, ◌++◌, ◌∷◌, [], List, ℕ, Bool, true, false}
use Rattle.std.proofs.Common.{Some, None, take, length, ap, ap₂, ◌∙◌, sym, subst}
use Rattle.std.proofs.Math.Seq.{take-append_seam}
use Rattle.std.specs.Option.{is_some}
use Rattle.std.specs.HashMap.{get_by}
use Rattle.std.specs.Str.{bytes_eq}
use Rattle.array_types.specs.Find.{find, Held}
use Rattle.std.specs.Global.{Vec}
use Rattle.std.specs.Map.{lookup}
use Rattle.indexmap.proofs.CallerLemmas.{insert_entry-new}
use Rattle.array_types.proofs.Indexing.{kept, last, absent}
use Rattle.array_types.proofs.known.add_to.Goals.{in-Ok, in-Err}
use Rattle.array_types.proofs.known.add_to.Goals as goal

pub returns-then-is_there-clause-held : goal.returns-then-is_there-clause-held
returns-then-is_there-clause-held c =
    let there : is_some (find c.args.text c.args.list.now.items) ≡ true = search rules in
    let grown : c.push.new.self.items ≡ c.args.list.now.items ++ (c.args.text, c.args.n) ∷ [] = search rules in
    λ q. c.requires q ∙ kept c.args.list.now.items c.args.text c.args.n there q ∙ sym (ap (find q) grown)

pub returns-clause-held : goal.returns-clause-held
returns-clause-held c =
    let none : is_some (find c.args.text c.args.list.now.items) ≡ false = search rules in
    let grown : c.push.new.self.items ≡ c.args.list.now.items ++ (c.args.text, c.args.n) ∷ [] = search rules in
    let key : c.into_vec-key.result.items ≡ c.args.text = search rules in
    elim c.match-insert.branch [
      | in-Ok w ↦ λ q.
          let same : c.match-insert.list.items ≡ c.push.new.self.items = search rules in
          let free : get_by (λ k. bytes_eq c.into_vec-key.result.items k.items) c.args.index.now ≡ None =
          ap (λ (t : List ℕ). get_by (λ k. bytes_eq t k.items) c.args.index.now) key
          ∙ c.requires c.args.text ∙ absent (find c.args.text c.args.list.now.items) none in
          let entries : c.insert.new.self.entries ≡ c.args.index.now.entries ++ (c.into_vec-key.result, c.args.n) ∷ [] =
          w.in-Ok.ensures.entries ∙ insert_entry-new (λ (a b : Vec ℕ). bytes_eq a.items b.items) c.args.index.now
          c.into_vec-key.result c.args.n free in
          ap (lookup (λ k. bytes_eq q k.items)) entries
          ∙ last c.args.index.now.entries c.args.list.now.items c.into_vec-key.result c.args.n q (c.requires q)
          ∙ ap (λ (t : List ℕ). find q (c.args.list.now.items ++ (t, c.args.n) ∷ [])) key
          ∙ sym (ap (find q) (same ∙ grown))
      | in-Err w ↦ λ q.
          let here : c.match-insert.list.items ≡ w.truncate.new.self.items = search rules in
          let cut : w.truncate.new.self.items ≡ take c.len-count.result c.push.new.self.items = search rules in
          let count : c.len-count.result ≡ length c.args.list.now.items = search rules in
          let back : c.match-insert.list.items ≡ c.args.list.now.items =
          here ∙ cut ∙ ap₂ (λ (n : ℕ) (xs : List (List ℕ × ℕ)). take n xs) count grown
          ∙ take-append_seam c.args.list.now.items ((c.args.text, c.args.n) ∷ []) in
          let still : get_by (λ k. bytes_eq q k.items) c.insert.new.self ≡
          get_by (λ k. bytes_eq q k.items) c.args.index.now = search rules in
          still ∙ c.requires q ∙ sym (ap (find q) back)
    ]
