-- What is found under the names of slots.
use Rattle.std.proofs.Common.{◌≡◌, ℕ, zero, suc, Bool, true, false, not, ◌&&◌, ◌||◌, if◌then◌else◌, List, [], ◌∷◌}
use Rattle.std.proofs.Common.{Some, slice_get, bytes_eq, refl, sym, subst}
use Rattle.std.specs.List.{list_any}
use Rattle.std.proofs.lemmas.Slice.Eq.{bytes_eq-Decides}
use Rattle.host_io.specs.declared.slot.Slot.{Slot}
use Rattle.host_io.specs.Files.{Held, Missing}
use Rattle.host_io.specs.Shelves.{held_in, slot_files, slot_names, are_distinct, content, slot_file}

either_left : (a b : Bool) → (a || b) ≡ false → a ≡ false
either_left false b h = refl
either_left true b h = h

either_right : (a b : Bool) → (a || b) ≡ false → b ≡ false
either_right false b h = h
either_right true b h = cc

both_left : (a b : Bool) → (not a && b) ≡ true → a ≡ false
both_left false b h = refl
both_left true b h = cc

both_right : (a b : Bool) → (a && b) ≡ true → b ≡ true
both_right true b h = h
both_right false b h = cc

picks_first : (b : Bool) (x y : Held) → b ≡ true → (if b then x else y) ≡ x
picks_first true x y h = refl
picks_first false x y h = cc

picks_second : (b : Bool) (x y : Held) → b ≡ false → (if b then x else y) ≡ y
picks_second false x y h = refl
picks_second true x y h = cc

-- a name that is not among the slots' is not that of one of them
apart : (name : List ℕ) (slots : List Slot) (k : ℕ) (slot : Slot)
    → list_any (bytes_eq name) (slot_names slots) ≡ false → slice_get slots k ≡ Some slot
    → bytes_eq name slot.name ≡ false
apart name [] k slot none here = cc
apart name (s ∷ rest) zero slot none here =
    let same : s ≡ slot = cc in
    subst (λ (v : Slot). bytes_eq name v.name ≡ false) same (either_left (bytes_eq name s.name) _ none)
apart name (s ∷ rest) (suc k) slot none here =
    apart name rest k slot (either_right (bytes_eq name s.name) (list_any (bytes_eq name) (slot_names rest)) none) here

-- each slot's content is found under its name
pub held_in-slot : (slots : List Slot) (k : ℕ) (slot : Slot) → are_distinct (slot_names slots) ≡ true
    → slice_get slots k ≡ Some slot → held_in (slot_files slots) slot.name ≡ content (slot_file slot)
held_in-slot [] k slot distinct here = cc
held_in-slot (s ∷ rest) zero slot distinct here =
    let same : s ≡ slot = cc in
    let found : bytes_eq s.name s.name ≡ true = (bytes_eq-Decides s.name s.name).1 refl in
    subst (λ (v : Slot). held_in (slot_files (s ∷ rest)) v.name ≡ content (slot_file v)) same
    (picks_first (bytes_eq s.name s.name) (content (slot_file s)) (held_in (slot_files rest) s.name) found)
held_in-slot (s ∷ rest) (suc k) slot distinct here =
    let others : are_distinct (slot_names rest) ≡ true =
    both_right (not (list_any (bytes_eq s.name) (slot_names rest))) (are_distinct (slot_names rest)) distinct in
    let none : list_any (bytes_eq s.name) (slot_names rest) ≡ false =
    both_left (list_any (bytes_eq s.name) (slot_names rest)) (are_distinct (slot_names rest)) distinct in
    let left : held_in (slot_files rest) slot.name ≡ content (slot_file slot) = held_in-slot rest k slot others here in
    let no : bytes_eq s.name slot.name ≡ false = apart s.name rest k slot none here in
    subst (λ (v : Held). held_in (slot_files (s ∷ rest)) slot.name ≡ v) left
    (picks_second (bytes_eq s.name slot.name) (content (slot_file s)) (held_in (slot_files rest) slot.name) no)

-- nothing is found under another name
pub held_in-other : (slots : List Slot) (name : List ℕ) → list_any (bytes_eq name) (slot_names slots) ≡ false
    → held_in (slot_files slots) name ≡ Missing
held_in-other [] name none = refl
held_in-other (s ∷ rest) name none =
    let left : held_in (slot_files rest) name ≡ Missing =
    held_in-other rest name (either_right (bytes_eq name s.name) (list_any (bytes_eq name) (slot_names rest)) none) in
    let no : bytes_eq s.name name ≡ false =
    unequal (bytes_eq name s.name) (bytes_eq s.name name)
    (λ e. (bytes_eq-Decides name s.name).1 (sym ((bytes_eq-Decides s.name name).0 e)))
    (either_left (bytes_eq name s.name) _ none) in
    subst (λ (v : Held). held_in (slot_files (s ∷ rest)) name ≡ v) left
    (picks_second (bytes_eq s.name name) (content (slot_file s)) (held_in (slot_files rest) name) no)
  where
    unequal : (a b : Bool) → (b ≡ true → a ≡ true) → a ≡ false → b ≡ false
    unequal a false up h = refl
    unequal a true up h = cc (up refl)
