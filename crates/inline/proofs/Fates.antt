-- What a run of the flat form comes to, by how the run that it follows ends.
use Rattle.std.proofs.Common.{◌≡◌, sym, subst, refl, ℕ, zero, suc, ◌&&◌, ◌||◌, ℤ, pos, negsuc, Bool, true}
use Rattle.std.proofs.Common.{false, List, [], ◌∷◌, Option, Some, None}
use Rattle.krn_base.specs.declared.place.Loc.{Loc}
use Rattle.array_ops.specs.Elements.{Bound}
use Rattle.eager_rules.specs.Blocks.{Meaning, End, GoesOn, Returned, Faulted, Stuck, then_do, in_order, for_each}
use Rattle.eager_rules.specs.Blocks.{loop_over, choice}
use Rattle.eager_rules.specs.Eager.{where_ready}
use Rattle.eager_rules.specs.Sound.{Shape, block_shape, both_shapes, simple}
use Rattle.eager_rules.specs.State.{State}
use Rattle.inline.specs.declared.places.Place.{Place}
use Rattle.inline.proofs.Frames.{Held, and_left, and_right}

pub or_false : (a : Bool) → (a || false) ≡ true → a ≡ true
or_false true h = refl
or_false false h = h

or_left : (a b c : Bool) → (a || (b && c)) ≡ true → (a || b) ≡ true
or_left true b c h = refl
or_left false b c h = and_left b c h

or_right : (a b c : Bool) → (a || (b && c)) ≡ true → (a || c) ≡ true
or_right true b c h = refl
or_right false b c h = and_right b c h

-- Whether a block stands last in its body; whether a body may end without a Return; and what comes of a Return.
module _ (p : Place) (size : ℕ) (t0 : State) (free : Bool) (Back : List Bound → State → State × End → Type 0) where
  abbrev pub On : Bool → Type 0
  On false = Unit {0}
  On true = free ≡ true

  abbrev pub BackAt : Bool → List Bound → State → State × End → Type 0
  BackAt false values s q = ⊥
  BackAt true values s q = Back values s q

  abbrev pub Fate : Bool → State × End → State × End → Type 0
  Fate last (s, GoesOn) q = (Held p size t0 s q.0 × (q.1 ≡ GoesOn)) × On last
  Fate last (s, Returned values) q = BackAt last values s q
  Fate last (s, Faulted fault at) q = (s.buffers ≡ q.0.buffers) × (q.1 ≡ Faulted fault at)
  Fate last (s, Stuck) q = Unit {0}

  abbrev pub Follows : Bool → Meaning State → Meaning State → Type 0
  Follows last m n = (s t : State) → Held p size t0 s t → Fate last (m s) (n t)

  abbrev pub Closed : Bool → Shape → Type 0
  Closed false shape = shape.plain ≡ true
  Closed true shape = (shape.tail ≡ true) × ((free || shape.shut) ≡ true)

  pub on_simple : (last : Bool) → Closed last simple → On last
  on_simple false h = tt
  on_simple true h = or_false free h.1

  -- a statement that may stand last, as one that never returns
  pub at_last : (last : Bool) (p q : State × End) → On last → Fate false p q → Fate last p q
  at_last last (s, GoesOn) q o f = (f.0, o)
  at_last last (s, Returned values) q o f = absurd f
  at_last last (s, Faulted fault at) q o f = f
  at_last last (s, Stuck) q o f = tt

  pub then_follows : (last : Bool) (p q : State × End) (m n : Meaning State) → Fate false p q → Follows last m n →
      Fate last (then_do p m) (then_do q n)
  then_follows last (s, GoesOn) (t, end) m n f g =
      subst (λ (x : End). Fate last (m s) (then_do (t, x) n)) (sym f.0.1) (g s t f.0.0)
  then_follows last (s, Returned values) (t, end) m n f g = absurd f
  then_follows last (s, Faulted fault at) (t, end) m n f g =
      subst (λ (x : End). Fate last (s, Faulted fault at) (then_do (t, x) n)) (sym f.1) (f.0, refl)
  then_follows last (s, Stuck) (t, end) m n f g = tt

  pub turns_follow : (f g : ℤ → State → State) (m n : Meaning State) →
      ((i : ℤ) (s t : State) → Held p size t0 s t → Held p size t0 (f i s) (g i t)) → Follows false m n →
      (xs : List ℤ) → Follows false (for_each f m xs) (for_each g n xs)
  turns_follow f g m n set follows [] s t h = ((h, refl), tt)
  turns_follow f g m n set follows (i ∷ xs) s t h =
      then_follows false (m (f i s)) (n (g i t)) (for_each f m xs) (for_each g n xs)
      (follows (f i s) (g i t) (set i s t h)) (turns_follow f g m n set follows xs)

  pub loop_follows : (f g : ℤ → State → State) (m n : Meaning State) (at : Loc) →
      ((i : ℤ) (s t : State) → Held p size t0 s t → Held p size t0 (f i s) (g i t)) → Follows false m n →
      (turns : Option (List ℤ)) → Follows false (loop_over f m at turns) (loop_over g n at turns)
  loop_follows f g m n at set follows None s t h = (h.buffers, refl)
  loop_follows f g m n at set follows (Some xs) s t h = turns_follow f g m n set follows xs s t h

  pub choice_follows : (last : Bool) (z : ℤ) (part other first second : Meaning State) → Follows last part first →
      Follows last other second → Follows last (choice z part other) (choice z first second)
  choice_follows last (pos zero) part other first second f g = g
  choice_follows last (pos (suc k)) part other first second f g = f
  choice_follows last (negsuc k) part other first second f g = f

  -- what isn't ready is stuck
  pub ready_follows : (last : Bool) (test : Bool) (p : State × End) (s : State) (q : State × End) →
      (test ≡ true → Fate last p q) → Fate last (where_ready test p s) q
  ready_follows last true p s q k = k refl
  ready_follows last false p s q k = tt

  -- nothing follows
  pub nothing_follows : (last : Bool) (p q : State × End) → Fate last p q → Fate last (then_do p (in_order [])) q
  nothing_follows last (s, GoesOn) q f = f
  nothing_follows last (s, Returned values) q f = f
  nothing_follows last (s, Faulted fault at) q f = f
  nothing_follows last (s, Stuck) q f = f

  -- ---- shapes
  pub first_closed : (last : Bool) (a b : Shape) (rest : List Shape) → Closed last (block_shape (a ∷ b ∷ rest)) →
      Closed false a
  first_closed false a b rest h = and_left a.plain (block_shape (b ∷ rest)).plain h
  first_closed true a b rest h = and_left a.plain (block_shape (b ∷ rest)).tail h.0

  pub rest_closed : (last : Bool) (a b : Shape) (rest : List Shape) → Closed last (block_shape (a ∷ b ∷ rest)) →
      Closed last (block_shape (b ∷ rest))
  rest_closed false a b rest h = and_right a.plain (block_shape (b ∷ rest)).plain h
  rest_closed true a b rest h = (
    and_right a.plain (block_shape (b ∷ rest)).tail h.0,
    or_right free a.plain (block_shape (b ∷ rest)).shut h.1,
  )

  pub part_closed : (last : Bool) (a b : Shape) → Closed last (both_shapes a b) → Closed last a
  part_closed false a b h = and_left a.plain b.plain h
  part_closed true a b h = (and_left a.tail b.tail h.0, or_left free a.shut b.shut h.1)

  pub other_closed : (last : Bool) (a b : Shape) → Closed last (both_shapes a b) → Closed last b
  other_closed false a b h = and_right a.plain b.plain h
  other_closed true a b h = (and_right a.tail b.tail h.0, or_right free a.shut b.shut h.1)
