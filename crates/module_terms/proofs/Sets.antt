-- A set of names with one more name.
use Rattle.std.proofs.Common.{◌≡◌, ℕ, Bool, true, false, cond, ◌||◌, List, refl, ap, ◌∙◌, Option, Some, None}
use Rattle.std.specs.Borrow.{Bor}
use Rattle.std.specs.HashMap.{HashMap, get_by, UpdatesBy}
use Rattle.std.specs.Option.{is_some}
use Rattle.std.specs.Str.{bytes_eq}
use Rattle.std.proofs.lemmas.Map.Text.{hash_map_updates_str}

met : {A : Type 0} (b : Bool) (x : A) (o : Option A) → is_some (cond b (Some x) o) ≡ (is_some o || b)
met true x None = refl
met true x (Some y) = refl
met false x None = refl
met false x (Some y) = refl

pub has_more : {A S : Type 0} (name : List ℕ) (x : A) (old new : HashMap (Bor (List ℕ)) A S)
    → UpdatesBy (λ a b. bytes_eq a.now b.now) (λ k. bytes_eq name k.now) old new (Some x)
    → (other : List ℕ) → is_some (get_by (λ k. bytes_eq other k.now) new)
    ≡ (is_some (get_by (λ k. bytes_eq other k.now) old) || bytes_eq name other)
has_more name x old new h other =
    ap is_some (hash_map_updates_str name old new (Some x) h other) ∙ met (bytes_eq name other) x
    (get_by (λ k. bytes_eq other k.now) old)
