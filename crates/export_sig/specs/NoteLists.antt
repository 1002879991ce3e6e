-- Lists of notes each of which has a value or has none, and the first that has none.
use Rattle.std.specs.Prelude.{◌≡◌, List, [], ◌∷◌, ◌++◌, Result, Ok, Err}
use Rattle.krn_base.specs.declared.refusal.Refusal.{Refusal}
use Rattle.krn_base.specs.declared.refusal.Rule.{Rule}
use Rattle.krn_base.specs.declared.refusal.Stop.{Stop}
use Rattle.krn_base.specs.declared.refusal.Stop.TheVariants as stop
use Rattle.py_parse.specs.declared.tree.Note.{Note}

-- which value a note has, between the notes before it and those behind it
abbrev pub Reading : Type 0 → Type 1
Reading X = List Note → Note → List Note → X → Type 0

-- behind the notes `before`, each of these has its value
abbrev pub AllHave : {X : Type 0} → Reading X → List Note → List Note → List X → Type 0
AllHave R before [] [] = Unit {0}
AllHave R before [] (x ∷ xs) = ⊥
AllHave R before (n ∷ ns) [] = ⊥
AllHave R before (n ∷ ns) (x ∷ xs) = R before n ns x × AllHave R (before ++ n ∷ []) ns xs

-- the first of these notes that has no value
pub record IsFirstWithout {X : Type 0} (R : Reading X) (notes : List Note) (n : Note) : Type 0 where
  pub before : List Note
  pub after : List Note
  pub parts : notes ≡ before ++ n ∷ after
  pub earlier : (a b : List Note) (k : Note) → before ≡ a ++ k ∷ b → (x : X) × R a k (b ++ n ∷ after) x
  pub none : (x : X) → R before n after x → ⊥

-- a refusal comes under this rule, at the place of the first note that has no value
abbrev pub IsRefusal : {X : Type 0} → Reading X → List Note → Rule → Stop → Type 0
IsRefusal R notes rule (stop.Refused r) = (r.rule ≡ rule) × (n : Note) × (r.loc ≡ n.loc) × IsFirstWithout R notes n
IsRefusal R notes rule stop.Memory = Unit {0}

-- an answer other than this list is want of memory alone
abbrev pub IsOnly : {X : Type 0} → List X → Result (List X) Stop → Type 0
IsOnly xs (Ok ys) = ys ≡ xs
IsOnly xs (Err (stop.Refused r)) = ⊥
IsOnly xs (Err stop.Memory) = Unit {0}

-- an answer other than this refusal is want of memory alone
abbrev pub IsOnlyRefusal : {X : Type 0} → Refusal → Result (List X) Stop → Type 0
IsOnlyRefusal r (Ok xs) = ⊥
IsOnlyRefusal r (Err (stop.Refused q)) = q ≡ r
IsOnlyRefusal r (Err stop.Memory) = Unit {0}
