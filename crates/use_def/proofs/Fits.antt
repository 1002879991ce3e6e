-- Sets of names against paths: a walk fits a flow where the flow marks exactly the reads that some path makes of a name
-- outside the set, and leaves outside exactly what some path to the end does.
use mathlib.Core.Path.{fun_ext}
use Rattle.std.proofs.Common.{◌≡◌, zero, suc, Bool, true, false, not, ◌&&◌, ◌||◌, ◌⊎◌, inl, inr, List, [], ◌∷◌, ◌++◌}
use Rattle.std.proofs.Common.{Option, Some, None, refl, ap, sym, ◌∙◌, subst}
use Rattle.std.specs.Str.{bytes_eq}
use Rattle.krn_base.specs.declared.place.Loc.{Loc}
use Rattle.module_names.specs.Places.{given, Among, mark}
use Rattle.module_names.specs.Words.{Bytes}
use Rattle.py_parse.specs.declared.tree.Name.{Name}
use Rattle.use_def.specs.Flows.{Set, Flow, everything, with_name, with_target, both, read_mark}
use Rattle.use_def.specs.Paths.{Event, Reads, Binds, Leaves, Choice, Any, Pick, Walk, left, right, in_order, one_of}
use Rattle.use_def.specs.Paths.{turns, read_event, binds}
use Rattle.use_def.proofs.Runs.{ReadsFirst, Passes, read_left, read_right, read_split, pass_join, pass_split}
use Rattle.use_def.proofs.Runs.{or_false, both_false}

-- ---- places among marks

pub given_left : (at : Loc) (a b : List (Option Loc)) → Among at (given a) → Among at (given (a ++ b))
given_left at [] b h = absurd h
given_left at (None ∷ a) b h = given_left at a b h
given_left at (Some x ∷ a) b (inl h) = inl h
given_left at (Some x ∷ a) b (inr h) = inr (given_left at a b h)

pub given_right : (at : Loc) (a b : List (Option Loc)) → Among at (given b) → Among at (given (a ++ b))
given_right at [] b h = h
given_right at (None ∷ a) b h = given_right at a b h
given_right at (Some x ∷ a) b h = inr (given_right at a b h)

one_more : (at x : Loc) (a b : List (Option Loc)) → Among at (given a) ⊎ Among at (given b)
    → Among at (given (Some x ∷ a)) ⊎ Among at (given b)
one_more at x a b (inl h) = inl (inr h)
one_more at x a b (inr h) = inr h

pub given_split : (at : Loc) (a b : List (Option Loc)) → Among at (given (a ++ b))
    → Among at (given a) ⊎ Among at (given b)
given_split at [] b h = inr h
given_split at (None ∷ a) b h = given_split at a b h
given_split at (Some x ∷ a) b (inl h) = inl (inl h)
given_split at (Some x ∷ a) b (inr h) = one_more at x a b (given_split at a b h)

-- ---- walks and flows

pub record Fits (w : Walk) (f : Flow) : Type 0 where
  pub marked : (s : Set) (at : Loc) → Among at (given (f s).1)
      → (x : Bytes) × (o : Choice) × (s x ≡ false) × ReadsFirst at x (w o)
  pub marks : (s : Set) (at : Loc) (x : Bytes) (o : Choice) → s x ≡ false → ReadsFirst at x (w o)
      → Among at (given (f s).1)
  pub spares : (s : Set) (x : Bytes) → (f s).0 x ≡ false → (s x ≡ false) × (o : Choice) × Passes x (w o)
  pub spared : (s : Set) (x : Bytes) (o : Choice) → s x ≡ false → Passes x (w o) → (f s).0 x ≡ false

pub same_flow : (w : Walk) (f g : Flow) → ((s : Set) → f s ≡ g s) → Fits w f → Fits w g
same_flow w f g same = subst (Fits w) (fun_ext same)

pub nothing_fits : Fits (λ o. []) (λ s. (s, []))
nothing_fits = record {
  marked = λ s at h. absurd h;
  marks = λ s at x o un r. absurd r;
  spares = λ s x un. (un, Any, tt);
  spared = λ s x o un p. un;
}

abbrev pub in_turn : Flow → Flow → Flow
in_turn f g s = ((g (f s).0).0, (f s).1 ++ (g (f s).0).1)

-- paths that are one after another: each two make one
pub record AreJoined (a b w : Walk) : Type 0 where
  pub join : (p q : Choice) → (o : Choice) × (w o ≡ a p ++ b q)
  pub split : (o : Choice) → (p : Choice) × (q : Choice) × (w o ≡ a p ++ b q)

module _ (a b w : Walk) (f g : Flow) (are : AreJoined a b w) (fits : Fits a f) (next : Fits b g) where
  abbrev Marked : Set → Loc → Type 0
  Marked s at = (x : Bytes) × (o : Choice) × (s x ≡ false) × ReadsFirst at x (w o)

  by_first : (s : Set) (at : Loc) → Among at (given (f s).1) → Marked s at
  by_first s at h =
      let (x, p, un, r) = fits.marked s at h in
      let (o, is) = are.join p Any in
      (x, o, un, subst (ReadsFirst at x) (sym is) (read_left at x (a p) (b Any) r))

  by_next : (s : Set) (at : Loc) → Among at (given (g (f s).0).1) → Marked s at
  by_next s at h =
      let (x, q, un, r) = next.marked (f s).0 at h in
      let (first, p, pass) = fits.spares s x un in
      let (o, is) = are.join p q in
      (x, o, first, subst (ReadsFirst at x) (sym is) (read_right at x (a p) (b q) pass r))

  by_either : (s : Set) (at : Loc) → Among at (given (f s).1) ⊎ Among at (given (g (f s).0).1) → Marked s at
  by_either s at (inl h) = by_first s at h
  by_either s at (inr h) = by_next s at h

  by_parts : (s : Set) (at : Loc) (x : Bytes) (p q : Choice) → s x ≡ false
      → ReadsFirst at x (a p) ⊎ (Passes x (a p) × ReadsFirst at x (b q))
      → Among at (given ((f s).1 ++ (g (f s).0).1))
  by_parts s at x p q un (inl r) = given_left at (f s).1 (g (f s).0).1 (fits.marks s at x p un r)
  by_parts s at x p q un (inr r) =
      given_right at (f s).1 (g (f s).0).1 (next.marks (f s).0 at x q (fits.spared s x p un r.0) r.1)

  pub joined_fits : Fits w (in_turn f g)
  joined_fits = record {
    marked = λ s at h. by_either s at (given_split at (f s).1 (g (f s).0).1 h);
    marks = λ s at x o un r.
        let (p, q, is) = are.split o in
        by_parts s at x p q un (read_split at x (a p) (b q) (subst (ReadsFirst at x) is r));
    spares = λ s x un.
        let (mid, q, later) = next.spares (f s).0 x un in
        let (first, p, pass) = fits.spares s x mid in
        let (o, is) = are.join p q in
        (first, o, subst (Passes x) (sym is) (pass_join x (a p) (b q) pass later));
    spared = λ s x o un pass.
        let (p, q, is) = are.split o in
        let (here, later) = pass_split x (a p) (b q) (subst (Passes x) is pass) in
        next.spared (f s).0 x q (fits.spared s x p un here) later;
  }

-- a path without a choice, and one behind it
pub behind_fits : (events : List Event) (w : Walk) (f g : Flow) → Fits (λ o. events) f → Fits w g
    → Fits (λ o. events ++ w o) (in_turn f g)
behind_fits events w f g =
    joined_fits (λ o. events) w (λ o. events ++ w o) f g (record {
      join = λ p q. (q, refl);
      split = λ o. (Any, o, refl);
    })

pub row_fits : (first : Walk) (rest : List Walk) (f : Flow) (g : Flow) → Fits first f → Fits (in_order rest) g
    → Fits (in_order (first ∷ rest)) (in_turn f g)
row_fits first rest f g =
    joined_fits first (in_order rest) (in_order (first ∷ rest)) f g (record {
      join = λ p q. (Pick p zero q, refl);
      split = λ o. (left o, right o, refl);
    })

-- ---- one of two

abbrev pub either_of : Flow → Flow → Flow
either_of f g s = (both (f s).0 (g s).0, (f s).1 ++ (g s).1)

and_false : (a b : Bool) → (a && b) ≡ false → (a ≡ false) ⊎ (b ≡ false)
and_false true b h = inr h
and_false false b h = inl refl

false_left : (a b : Bool) → a ≡ false → (a && b) ≡ false
false_left true b h = absurd cc
false_left false b h = refl

false_right : (a b : Bool) → b ≡ false → (a && b) ≡ false
false_right true b h = h
false_right false b h = refl

module _ (a b : Walk) (f g : Flow) (part : Fits a f) (other : Fits b g) where
  one_marked : (s : Set) (at : Loc) → Among at (given (f s).1) ⊎ Among at (given (g s).1)
      → (x : Bytes) × (o : Choice) × (s x ≡ false) × ReadsFirst at x (one_of a b o)
  one_marked s at (inl h) =
      let (x, o, un, r) = part.marked s at h in
      (x, Pick o zero Any, un, r)
  one_marked s at (inr h) =
      let (x, o, un, r) = other.marked s at h in
      (x, Pick Any (suc zero) o, un, r)

  one_marks : (s : Set) (at : Loc) (x : Bytes) (o : Choice) → s x ≡ false → ReadsFirst at x (one_of a b o)
      → Among at (given ((f s).1 ++ (g s).1))
  one_marks s at x Any un r = given_left at (f s).1 (g s).1 (part.marks s at x Any un r)
  one_marks s at x (Pick p zero q) un r = given_left at (f s).1 (g s).1 (part.marks s at x p un r)
  one_marks s at x (Pick p (suc n) q) un r = given_right at (f s).1 (g s).1 (other.marks s at x q un r)

  one_spares : (s : Set) (x : Bytes) → ((f s).0 x ≡ false) ⊎ ((g s).0 x ≡ false)
      → (s x ≡ false) × (o : Choice) × Passes x (one_of a b o)
  one_spares s x (inl h) =
      let (un, o, pass) = part.spares s x h in
      (un, Pick o zero Any, pass)
  one_spares s x (inr h) =
      let (un, o, pass) = other.spares s x h in
      (un, Pick Any (suc zero) o, pass)

  one_spared : (s : Set) (x : Bytes) (o : Choice) → s x ≡ false → Passes x (one_of a b o)
      → both (f s).0 (g s).0 x ≡ false
  one_spared s x Any un pass = false_left ((f s).0 x) ((g s).0 x) (part.spared s x Any un pass)
  one_spared s x (Pick p zero q) un pass = false_left ((f s).0 x) ((g s).0 x) (part.spared s x p un pass)
  one_spared s x (Pick p (suc n) q) un pass = false_right ((f s).0 x) ((g s).0 x) (other.spared s x q un pass)

  pub one_fits : Fits (one_of a b) (either_of f g)
  one_fits = record {
    marked = λ s at h. one_marked s at (given_split at (f s).1 (g s).1 h);
    marks = one_marks;
    spares = λ s x h. one_spares s x (and_false ((f s).0 x) ((g s).0 x) h);
    spared = one_spared;
  }

-- ---- any number of turns

module _ (turn : Walk) (f : Flow) (fits : Fits turn f) where
  by_turn : (s : Set) (at : Loc) (x : Bytes) (p : Choice) (es : List Event) → s x ≡ false
      → (ReadsFirst at x es → Among at (given (f s).1))
      → ReadsFirst at x (turn p) ⊎ (Passes x (turn p) × ReadsFirst at x es) → Among at (given (f s).1)
  by_turn s at x p es un later (inl r) = fits.marks s at x p un r
  by_turn s at x p es un later (inr r) = later r.1

  turns_marks : (s : Set) (at : Loc) (x : Bytes) (o : Choice) → s x ≡ false → ReadsFirst at x (turns turn o)
      → Among at (given (f s).1)
  turns_marks s at x Any un r = absurd r
  turns_marks s at x (Pick p zero q) un r = absurd r
  turns_marks s at x (Pick p (suc n) q) un r =
      by_turn s at x p (turns turn q) un (λ l. turns_marks s at x q un l)
      (read_split at x (turn p) (turns turn q) r)

  pub turns_fit : Fits (turns turn) (λ s. (s, (f s).1))
  turns_fit = record {
    marked = λ s at h.
        let (x, o, un, r) = fits.marked s at h in
        (x, Pick o (suc zero) Any, un, read_left at x (turn o) [] r);
    marks = turns_marks;
    spares = λ s x un. (un, Any, tt);
    spared = λ s x o un pass. un;
  }

-- ---- reads, a binding, and the end of a path

when_unset : (b : Bool) (at : Loc) (name : Name) → Among at (given (mark (not b) name.loc ∷ [])) → (b ≡ false)
    × (name.loc ≡ at)
when_unset true at name h = absurd h
when_unset false at name (inl is) = (refl, sym is)
when_unset false at name (inr none) = absurd none

unset_among : (b : Bool) (at : Loc) (name : Name) → b ≡ false → name.loc ≡ at
    → Among at (given (mark (not b) name.loc ∷ []))
unset_among true at name e is = absurd cc
unset_among false at name e is = inl (sym is)

read_marks : (s : Set) (at : Loc) (x : Bytes) (name : Name) → s x ≡ false → ReadsFirst at x (Reads name ∷ [])
    → Among at (given (mark (not (s name.text)) name.loc ∷ []))
read_marks s at x name un (inl h) = unset_among (s name.text) at name (ap s h.0 ∙ un) h.1
read_marks s at x name un (inr h) = absurd h.1

pub read_fits : (name : Option Name) → Fits (λ o. read_event name) (λ s. (s, read_mark s name ∷ []))
read_fits None = record {
  marked = λ s at h. absurd h;
  marks = λ s at x o un r. absurd r;
  spares = λ s x un. (un, Any, tt);
  spared = λ s x o un p. un;
}
read_fits (Some name) = record {
  marked = λ s at h.
      let (un, is) = when_unset (s name.text) at name h in
      (name.text, Any, un, inl (refl, is));
  marks = λ s at x o un r. read_marks s at x name un r;
  spares = λ s x un. (un, Any, (refl, tt));
  spared = λ s x o un p. un;
}

bind_reads : (at : Loc) (x : Bytes) (name : Name) → ReadsFirst at x (Binds name ∷ []) → ⊥
bind_reads at x name (inl h) = h
bind_reads at x name (inr h) = h.1

pub bind_fits : (name : Name) → Fits (λ o. Binds name ∷ []) (λ s. (with_name name s, []))
bind_fits name = record {
  marked = λ s at h. absurd h;
  marks = λ s at x o un r. absurd (bind_reads at x name r);
  spares = λ s x h.
      let (un, other) = or_false (s x) (bytes_eq name.text x) h in
      (un, Any, (other, tt));
  spared = λ s x o un p. both_false (s x) (bytes_eq name.text x) un p.0;
}

pub target_fits : (name : Option Name) → Fits (λ o. binds name) (λ s. (with_target name s, []))
target_fits None = nothing_fits
target_fits (Some name) = bind_fits name

leave_reads : (at : Loc) (x : Bytes) → ReadsFirst at x (Leaves ∷ []) → ⊥
leave_reads at x (inl h) = h
leave_reads at x (inr h) = h.1

pub leave_fits : Fits (λ o. Leaves ∷ []) (λ s. (everything, []))
leave_fits = record {
  marked = λ s at h. absurd h;
  marks = λ s at x o un r. absurd (leave_reads at x r);
  spares = λ s x h. absurd (let h : true ≡ false = h in cc);
  spared = λ s x o un p. absurd (let p : true ≡ false = p.0 in cc);
}
