-- What names hold once the file of one name was written.
use Rattle.std.proofs.Common.{◌≡◌, ◌≢◌, ℕ, zero, suc, ◌+◌, ◌<◌, Bool, true, false, cond, if◌then◌else◌, List, [], ◌∷◌}
use Rattle.std.proofs.Common.{Option, Some, None, length, get_or, set, refl, sym, ap, ◌∙◌, subst, position, bytes_eq}
use Rattle.std.proofs.Common.{arith, length-set, get_or-set_same, get_or-set_other}
use Rattle.std.specs.List.{position_from}
use Rattle.std.proofs.lemmas.List.Quantifiers.{position-Some}
use Rattle.std.proofs.lemmas.List.Recursion.{found_at, found_set_other}
use Rattle.std.proofs.lemmas.Slice.Eq.{bytes_eq-Decides}
use Rattle.std.proofs.lemmas.Iterator.Adapters.{position_from-zero}
use Rattle.host_io.specs.declared.shelf.Shelf.{Shelf}
use Rattle.host_io.specs.Files.{Held, Missing, Bytes, stored}
use Rattle.host_io.specs.Shelves.{File, content, shelf_file, shelf_files, held_in, rooms, room_in}

-- whether a shelf has this name
abbrev pub named : List ℕ → Shelf → Bool
named name shelf = bytes_eq shelf.name name

-- the room under a name is that of the first shelf of this name
pub room_at : (shelves : List Shelf) (name : List ℕ) (place : ℕ) (d : Shelf)
    → Some place ≡ position (named name) shelves
    → room_in (rooms (shelf_files shelves)) name ≡ Some (get_or shelves place d).limit
room_at shelves name place d here =
    let first = position-Some (named name) shelves place d (sym here) in
    found_at (λ xs. room_in (rooms (shelf_files xs)) name) (named name) (λ shelf. Some shelf.limit) None refl
    (λ _ _. refl) shelves place d first.0 first.2 first.1

-- the first shelf of the name, in place of which another one of the name is put, has what the name then holds
pub held_at : (shelves : List Shelf) (name : List ℕ) (place : ℕ) (new d : Shelf)
    → Some place ≡ position (named name) shelves → new.name ≡ (get_or shelves place d).name
    → held_in (shelf_files (set shelves place new)) name ≡ content (shelf_file new)
held_at shelves name place new d here same =
    let first = position-Some (named name) shelves place d (sym here) in
    let inside : place < length shelves = first.0 in
    let within : place < length (set shelves place new) = omega (arith, length-set shelves place new) in
    let there : get_or (set shelves place new) place d ≡ new = get_or-set_same shelves place new d inside in
    let is : named name new ≡ true = subst (λ (n : List ℕ). bytes_eq n name ≡ true) (sym same) first.1 in
    let others : (k : ℕ) → k < place → named name (get_or (set shelves place new) k d) ≡ false =
    λ k before. let apart : k ≢ place = omega arith in rw get_or-set_other (first.2 k before) in
    found_at (λ xs. held_in (shelf_files xs) name) (named name) (λ shelf. content (shelf_file shelf)) Missing refl
    (λ _ _. refl) (set shelves place new) place d within others
    (subst (λ (s : Shelf). named name s ≡ true) (sym there) is)
    ∙ ap (λ (s : Shelf). content (shelf_file s)) there

is_false : (b : Bool) → (b ≡ true → ⊥) → b ≡ false
is_false true never = absurd (never refl)
is_false false never = refl

-- what every other name holds stays
pub held_other : (shelves : List Shelf) (name other : List ℕ) (place : ℕ) (new d : Shelf)
    → Some place ≡ position (named name) shelves → new.name ≡ (get_or shelves place d).name → other ≢ name
    → held_in (shelf_files (set shelves place new)) other ≡ held_in (shelf_files shelves) other
held_other shelves name other place new d here same apart =
    let first = position-Some (named name) shelves place d (sym here) in
    let is : (get_or shelves place d).name ≡ name = (bytes_eq-Decides (get_or shelves place d).name name).0 first.1 in
    let before : named other (get_or shelves place d) ≡ false =
    is_false _ (λ e. apart (sym ((bytes_eq-Decides (get_or shelves place d).name other).0 e) ∙ is)) in
    let after : named other new ≡ false = subst (λ (n : List ℕ). bytes_eq n other ≡ false) (sym same) before in
    found_set_other (λ xs. held_in (shelf_files xs) other) (named other) (λ shelf. content (shelf_file shelf))
    Missing refl (λ _ _. refl) shelves place new d before after

-- the names and their room stay
pub rooms_set : (shelves : List Shelf) (place : ℕ) (new d : Shelf) → new.name ≡ (get_or shelves place d).name
    → new.limit ≡ (get_or shelves place d).limit
    → rooms (shelf_files (set shelves place new)) ≡ rooms (shelf_files shelves)
rooms_set [] place new d name limit = refl
rooms_set (s ∷ rest) zero new d name limit = cc
rooms_set (s ∷ rest) (suc place) new d name limit =
    ap (λ l. (s.name, s.limit) ∷ l) (rooms_set rest place new d name limit)

past : (b : Bool) (i : ℕ) (found : ℕ) (next left : Option ℕ) → None ≡ cond b (Some i) next
    → (None ≡ next → left ≡ None) → cond b (Some found) left ≡ None
past true i found next left none h = cc
past false i found next left none h = h none

nowhere_from : (shelves : List Shelf) (name : List ℕ) (i : ℕ) → None ≡ position_from (named name) i shelves
    → room_in (rooms (shelf_files shelves)) name ≡ None
nowhere_from [] name i none = refl
nowhere_from (s ∷ rest) name i none = past (named name s) i s.limit _ _ none (nowhere_from rest name (i + 1))

-- there is no room under a name that no shelf has
pub room_nowhere : (shelves : List Shelf) (name : List ℕ) → None ≡ position (named name) shelves
    → room_in (rooms (shelf_files shelves)) name ≡ None
room_nowhere shelves name none = nowhere_from shelves name 0 (none ∙ position_from-zero (named name) shelves)

content_is : (there : Bool) (has bytes : List ℕ) → there ≡ true → has ≡ bytes
    → (if there then Bytes has else Missing) ≡ Bytes bytes
content_is true has bytes is e = ap Bytes e
content_is false has bytes is e = cc

-- a shelf that was filled has the bytes
pub filled_content : (result : Bool) (new old : Shelf) (bytes : List ℕ) → result ≡ true
    → new.bytes.items ≡ (if result then bytes else old.bytes.items)
    → new.there ≡ (if result then true else old.there) → content (shelf_file new) ≡ Bytes bytes
filled_content true new old bytes done e there = content_is new.there new.bytes.items bytes there e
filled_content false new old bytes done e there = cc

abbrev file_of : List ℕ → List ℕ → Bool → ℕ → File
file_of name bytes there limit = record { name = name; bytes = bytes; there = there; limit = limit }

file_is : (n m b c : List ℕ) (t u : Bool) (l k : ℕ) → n ≡ m → b ≡ c → t ≡ u → l ≡ k → file_of n b t l ≡ file_of m c u k
file_is n m b c t u l k name bytes there limit = rw (name, bytes, there, limit)

-- a shelf that was not filled has what it had
pub kept_file : (result : Bool) (new old : Shelf) (bytes : List ℕ) → result ≡ false
    → new.bytes.items ≡ (if result then bytes else old.bytes.items)
    → new.there ≡ (if result then true else old.there) → new.name ≡ old.name → new.limit ≡ old.limit
    → shelf_file new ≡ shelf_file old
kept_file true new old bytes unmet e there name limit = cc
kept_file false new old bytes unmet e there name limit =
    file_is new.name old.name new.bytes.items old.bytes.items new.there old.there new.limit old.limit name e there limit

stored_one : (b there : Bool) (file bytes : List ℕ) (left : Held) → stored left bytes ≡ Bytes bytes
    → stored (if b then (if there then Bytes file else Missing) else left) bytes ≡ Bytes bytes
stored_one true true file bytes left h = refl
stored_one true false file bytes left h = refl
stored_one false there file bytes left h = h

-- it is told what each name holds, so that stored bytes are what it then holds
pub stored_told : (files : List File) (name bytes : List ℕ) → stored (held_in files name) bytes ≡ Bytes bytes
stored_told [] name bytes = refl
stored_told (file ∷ rest) name bytes =
    stored_one (bytes_eq file.name name) file.there file.bytes bytes (held_in rest name) (stored_told rest name bytes)
