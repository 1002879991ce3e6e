-- The maps in which the names that were met are kept.
use Rattle.std.specs.Prelude.{◌≡◌, ℕ, Bool, false, List, Option, Some, None}
use Rattle.std.specs.Borrow.{Bor}
use Rattle.std.specs.BTreeMap.{BTreeMap, get_by}
use Rattle.std.specs.Cmp.Lexicographic.{slice_cmp}
use Rattle.std.specs.Ordering.{nat_cmp}
use Rattle.std.specs.List.{list_any}
use Rattle.std.specs.Option.{is_some}
use Rattle.call_binding.specs.Tests.{is_same}
use Rattle.call_binding.specs.declared.items.Item.{Item}

-- a text is one of the keys
abbrev pub has : {A : Type 0} → BTreeMap (Bor (List ℕ)) A → List ℕ → Bool
has map q = is_some (get_by (λ k. slice_cmp nat_cmp q k.now) map)

-- there is a text, and it is one of the keys
abbrev pub has_name : {A : Type 0} → BTreeMap (Bor (List ℕ)) A → Option (List ℕ) → Bool
has_name map None = false
has_name map (Some q) = has map q

-- the keys are the names of one sort that the items have
abbrev pub HasNames : {A : Type 0} → (Item → Option (List ℕ)) → BTreeMap (Bor (List ℕ)) A → List Item → Type 0
HasNames name_of map items = (q : List ℕ) → has map q ≡ list_any (λ x. is_same (name_of x) q) items
