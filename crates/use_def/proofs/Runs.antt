-- Events in a row: the first reads of a name at a place, and rows that settle nothing about a name.
use Rattle.std.proofs.Common.{◌≡◌, Bool, true, false, ◌||◌, ◌⊎◌, inl, inr, List, [], ◌∷◌, ◌++◌, refl, ap, sym, ◌∙◌}
use Rattle.std.proofs.Common.{subst}
use Rattle.std.specs.List.{list_any}
use Rattle.krn_base.specs.declared.place.Loc.{Loc}
use Rattle.module_names.specs.Words.{Bytes}
use Rattle.use_def.specs.Paths.{Event, Reads, Binds, Leaves}
use Rattle.use_def.specs.Unassigned.{settles, ReadsUnassigned}

abbrev pub IsRead : Loc → Bytes → Event → Type 0
IsRead at x (Reads name) = (name.text ≡ x) × (name.loc ≡ at)
IsRead at x (Binds name) = ⊥
IsRead at x Leaves = ⊥

-- some read of the name at the place, with nothing before it that settles the name
abbrev pub ReadsFirst : Loc → Bytes → List Event → Type 0
ReadsFirst at x [] = ⊥
ReadsFirst at x (e ∷ es) = IsRead at x e ⊎ ((settles x e ≡ false) × ReadsFirst at x es)

abbrev pub Passes : Bytes → List Event → Type 0
Passes x [] = Unit {0}
Passes x (e ∷ es) = (settles x e ≡ false) × Passes x es

module _ (at : Loc) (x : Bytes) where
  pub read_left : (a b : List Event) → ReadsFirst at x a → ReadsFirst at x (a ++ b)
  read_left [] b r = absurd r
  read_left (e ∷ es) b (inl here) = inl here
  read_left (e ∷ es) b (inr later) = inr (later.0, read_left es b later.1)

  pub read_right : (a b : List Event) → Passes x a → ReadsFirst at x b → ReadsFirst at x (a ++ b)
  read_right [] b p r = r
  read_right (e ∷ es) b p r = inr (p.0, read_right es b p.1 r)

  abbrev pub Split : List Event → List Event → Type 0
  Split a b = ReadsFirst at x a ⊎ (Passes x a × ReadsFirst at x b)

  later_split : (e : Event) (es b : List Event) → settles x e ≡ false → Split es b → Split (e ∷ es) b
  later_split e es b un (inl r) = inl (inr (un, r))
  later_split e es b un (inr r) = inr ((un, r.0), r.1)

  pub read_split : (a b : List Event) → ReadsFirst at x (a ++ b) → Split a b
  read_split [] b r = inr (tt, r)
  read_split (e ∷ es) b (inl here) = inl (inl here)
  read_split (e ∷ es) b (inr later) = later_split e es b later.0 (read_split es b later.1)

pub pass_join : (x : Bytes) (a b : List Event) → Passes x a → Passes x b → Passes x (a ++ b)
pass_join x [] b p q = q
pass_join x (e ∷ es) b p q = (p.0, pass_join x es b p.1 q)

pub pass_split : (x : Bytes) (a b : List Event) → Passes x (a ++ b) → Passes x a × Passes x b
pass_split x [] b p = (tt, p)
pass_split x (e ∷ es) b p =
    let (q, r) = pass_split x es b p.1 in
    ((p.0, q), r)

-- ---- the rule's own words

pub or_false : (a b : Bool) → (a || b) ≡ false → (a ≡ false) × (b ≡ false)
or_false true b h = absurd cc
or_false false b h = (refl, h)

pub both_false : (a b : Bool) → a ≡ false → b ≡ false → (a || b) ≡ false
both_false true b h k = absurd cc
both_false false b h k = k

unsettled_passes : (x : Bytes) (es : List Event) → list_any (settles x) es ≡ false → Passes x es
unsettled_passes x [] h = tt
unsettled_passes x (e ∷ es) h =
    let (here, later) = or_false (settles x e) (list_any (settles x) es) h in
    (here, unsettled_passes x es later)

pub read_is : (at : Loc) (es : List Event) → ReadsUnassigned es at → (x : Bytes) × ReadsFirst at x es
read_is at es r = (
  r.name.text,
  subst (ReadsFirst at r.name.text) (sym r.parts) (read_right at r.name.text r.before (Reads r.name ∷ r.after)
      (unsettled_passes r.name.text r.before r.unsettled) (inl (refl, r.place))),
)

module _ (at : Loc) (x : Bytes) where
  abbrev Named : List Event → Type 0
  Named es = (r : ReadsUnassigned es at) × (r.name.text ≡ x)

  named_here : (e : Event) (es : List Event) → IsRead at x e → Named (e ∷ es)
  named_here (Reads name) es h =
      (record { before = []; name = name; after = es; parts = refl; place = h.1; unsettled = refl }, h.0)
  named_here (Binds name) es h = absurd h
  named_here Leaves es h = absurd h

  named_later : (e : Event) (es : List Event) → settles x e ≡ false → Named es → Named (e ∷ es)
  named_later e es un (r, is) = (
    record {
      before = e ∷ r.before;
      name = r.name;
      after = r.after;
      parts = ap (λ l. e ∷ l) r.parts;
      place = r.place;
      unsettled = both_false (settles r.name.text e) (list_any (settles r.name.text) r.before)
          (ap (λ t. settles t e) is ∙ un) r.unsettled;
    },
    is,
  )

  named : (es : List Event) → ReadsFirst at x es → Named es
  named [] r = absurd r
  named (e ∷ es) (inl here) = named_here e es here
  named (e ∷ es) (inr later) = named_later e es later.0 (named es later.1)

  pub is_read : (es : List Event) → ReadsFirst at x es → ReadsUnassigned es at
  is_read es r = (named es r).0
