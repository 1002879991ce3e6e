-- The walk backwards.
use Rattle.std.proofs.Common.{◌≡◌, ℕ, ◌+◌, ◌<◌, ◌≤◌, ◌==◌, ◌⊎◌, Bool, true, false, not, ◌||◌, List, [], ◌∷◌, ◌++◌}
use Rattle.std.proofs.Common.{length, set, replicate, refl, ap, sym, ◌∙◌, subst, inl, inr, arith, length-append}
use Rattle.std.proofs.Common.{length-set}
use Rattle.std.proofs.lemmas.List.Elements.{Contains-append_left, Contains-push, Contains-push_cases}
use Rattle.std.specs.List.{Contains, list_any, count_by}
use Rattle.purity.specs.Marks.{row, has, leads, IsWay, marked, AreLeading, marks_of, work_of, left, Grows, IsSpread}
use Rattle.purity.specs.declared.reach.Walk.{Walk}
use Rattle.purity.proofs.MarkLaws.{not_true, or_cases, or_left, or_right, or_assoc, or_false, same_number}
use Rattle.purity.proofs.MarkLaws.{number_itself, marked_within, marked_set, none_marked, set_unmarked}
use Rattle.purity.proofs.MarkLaws.{leads_within}
use Rattle.purity.proofs.MarkLaws.{number_among, among_number}

none_in : (f : ℕ) → Contains [] f → ⊥
none_in f (k, lt, is) = omega arith

pub grows_none : (w : Walk) → Grows (λ g. false) w w
grows_none w = record {
  count_is = refl;
  marks = λ g lt. sym (or_false (marked (marks_of w) g));
  kept = λ f h. h;
  fresh = λ f h. inl h;
  within = λ f h. inl h;
  less = omega arith;
}

pub grows_by_one : (f : ℕ) (old new : Walk) → marks_of new ≡ set (marks_of old) f true
    → work_of new ≡ work_of old ++ f ∷ [] → f < length (marks_of old) → marked (marks_of old) f ≡ false
    → Grows (λ g. f == g) old new
grows_by_one f old new marks work lt un = record {
  count_is = count;
  marks = met;
  kept = λ g h. subst (λ w. Contains w g) (sym work) (Contains-append_left (work_of old) (f ∷ []) g h);
  fresh = fresh;
  within = within;
  less = less;
}
  where
    count : length (marks_of new) ≡ length (marks_of old)
    count = ap length marks ∙ length-set (marks_of old) f true

    met : (g : ℕ) → g < length (marks_of old) → marked (marks_of new) g ≡ (marked (marks_of old) g || (f == g))
    met g h = ap (λ m. marked m g) marks ∙ marked_set (marks_of old) f g h

    fresh : (g : ℕ) → marked (marks_of new) g ≡ true → (marked (marks_of old) g ≡ true) ⊎ Contains (work_of new) g
    fresh g h =
        let there : g < length (marks_of old) =
        subst (λ n. g < n) count (marked_within (marks_of new) g h) in
        elim (or_cases (marked (marks_of old) g) (f == g) (sym (met g there) ∙ h)) [
          | inl e ↦ inl e
          | inr e ↦ inr (subst (λ n. Contains (work_of new) n) (same_number f g e)
              (subst (λ w. Contains w f) (sym work) (Contains-push (work_of old) f)))
        ]

    within : (g : ℕ) → Contains (work_of new) g → Contains (work_of old) g ⊎ (marked (marks_of new) g ≡ true)
    within g h = elim (Contains-push_cases (work_of old) f g (subst (λ w. Contains w g) work h)) [
      | inl c ↦ inl c
      | inr e ↦ inr (subst (λ n. marked (marks_of new) n ≡ true) e
          (met f lt ∙ or_right (marked (marks_of old) f) (f == f) (number_itself f)))
    ]

    less : left new ≤ left old
    less =
        let one : count_by not (marks_of new) + 1 ≡ count_by not (marks_of old) =
        ap (λ m. count_by not m + 1) marks ∙ set_unmarked (marks_of old) f lt un in
        let more : length (work_of new) ≡ length (work_of old) + 1 =
        ap length work ∙ length-append (work_of old) (f ∷ []) in
        omega (arith, one, more)

pub grows_then : (p q r : ℕ → Bool) (a b c : Walk) → Grows p a b → Grows q b c → ((g : ℕ) → r g ≡ (p g || q g))
    → Grows r a c
grows_then p q r a b c one two is = record {
  count_is = two.count_is ∙ one.count_is;
  marks = λ g lt.
      two.marks g (subst (λ n. g < n) (sym one.count_is) lt)
      ∙ (ap (λ t. t || q g) (one.marks g lt)
      ∙ (or_assoc (marked (marks_of a) g) (p g) (q g) ∙ ap (λ t. marked (marks_of a) g || t) (sym (is g))));
  kept = λ f h. two.kept f (one.kept f h);
  fresh = λ f h. elim (two.fresh f h) [
    | inl e ↦ elim (one.fresh f e) [ inl d ↦ inl d | inr w ↦ inr (two.kept f w) ]
    | inr w ↦ inr w
  ];
  within = λ f h. elim (two.within f h) [
    | inl w ↦ elim (one.within f w) [ inl v ↦ inl v | inr e ↦ inr (stays f e) ]
    | inr e ↦ inr e
  ];
  less = let x : left b ≤ left a = one.less in let y : left c ≤ left b = two.less in omega (arith, x, y);
}
  where
    stays : (f : ℕ) → marked (marks_of b) f ≡ true → marked (marks_of c) f ≡ true
    stays f e =
        let there : f < length (marks_of b) = marked_within (marks_of b) f e in
        two.marks f there ∙ or_left (marked (marks_of b) f) (q f) e

module _ (rows : List (List ℕ)) (ends : List ℕ) where
  pub spread_begun : (old new : Walk) → marks_of old ≡ replicate (length rows) false → length (marks_of old)
      ≡ length rows → work_of old ≡ []
      → Grows (λ g. has g ends) old new → IsSpread rows ends new
  spread_begun old new marks count work grows = record {
    count_is = grows.count_is ∙ count;
    sound = sound;
    begun = λ g lt c.
        grows.marks g (subst (λ n. g < n) (sym count) lt)
        ∙ or_right (marked (marks_of old) g) (has g ends) (among_number ends g c);
    closed = λ f g h c lt. elim (grows.fresh f h) [ inl e ↦ absurd (none f e) | inr w ↦ inr w ];
    within = λ f h. elim (grows.within f h) [
      | inl w ↦ absurd (none_in f (subst (λ x. Contains x f) work w))
      | inr e ↦ e
    ];
  }
    where
      unmarked : (f : ℕ) → marked (marks_of old) f ≡ false
      unmarked f = ap (λ m. marked m f) marks ∙ none_marked (length rows) f

      none : (f : ℕ) → marked (marks_of old) f ≡ true → ⊥
      none f e = not_true (marked (marks_of old) f) e (unmarked f)

      sound : (g : ℕ) → marked (marks_of new) g ≡ true → (behind : List ℕ) × IsWay rows ends g behind
      sound g h =
          let there : g < length (marks_of old) =
          subst (λ n. g < n) grows.count_is (marked_within (marks_of new) g h) in
          elim (or_cases (marked (marks_of old) g) (has g ends) (sym (grows.marks g there) ∙ h)) [
            | inl e ↦ absurd (none g e)
            | inr e ↦ ([], number_among ends g e)
          ]

  pub spread_next : (old mid new : Walk) (f : ℕ) → IsSpread rows ends old → work_of old ≡ work_of mid ++ f ∷ []
      → marks_of mid ≡ marks_of old → Grows (λ g. has g (row rows f)) mid new → IsSpread rows ends new
  spread_next old mid new f is work marks grows = record {
    count_is = grows.count_is ∙ (ap length marks ∙ is.count_is);
    sound = sound;
    begun = λ g lt c. stays g (is.begun g lt c);
    closed = closed;
    within = within;
  }
    where
      back : (g : ℕ) → marked (marks_of mid) g ≡ true → marked (marks_of old) g ≡ true
      back g e = sym (ap (λ m. marked m g) marks) ∙ e

      forth : (g : ℕ) → marked (marks_of old) g ≡ true → marked (marks_of mid) g ≡ true
      forth g e = ap (λ m. marked m g) marks ∙ e

      stays : (g : ℕ) → marked (marks_of old) g ≡ true → marked (marks_of new) g ≡ true
      stays g e =
          let there : g < length (marks_of mid) = marked_within (marks_of mid) g (forth g e) in
          grows.marks g there ∙ or_left (marked (marks_of mid) g) (has g (row rows f)) (forth g e)

      met : marked (marks_of old) f ≡ true
      met = is.within f (subst (λ w. Contains w f) (sym work) (Contains-push (work_of mid) f))

      sound : (g : ℕ) → marked (marks_of new) g ≡ true → (behind : List ℕ) × IsWay rows ends g behind
      sound g h =
          let there : g < length (marks_of mid) =
          subst (λ n. g < n) grows.count_is (marked_within (marks_of new) g h) in
          elim (or_cases (marked (marks_of mid) g) (has g (row rows f)) (sym (grows.marks g there) ∙ h)) [
            | inl e ↦ is.sound g (back g e)
            | inr e ↦ let (behind, way) = is.sound f met in (f ∷ behind, (e, way))
          ]

      followed : (g : ℕ) → leads rows f g ≡ true → g < length rows → marked (marks_of new) g ≡ true
      followed g c lt =
          let there : g < length (marks_of mid) = subst (λ n. g < n) (sym (ap length marks ∙ is.count_is)) lt in
          grows.marks g there ∙ or_right (marked (marks_of mid) g) (has g (row rows f)) c

      waiting : (h g : ℕ) → Contains (work_of old) h → leads rows h g ≡ true → g < length rows
          → (marked (marks_of new) g ≡ true) ⊎ Contains (work_of new) h
      waiting h g w c lt = elim (Contains-push_cases (work_of mid) f h (subst (λ x. Contains x h) work w)) [
        | inl v ↦ inr (grows.kept h v)
        | inr e ↦ inl (followed g (subst (λ n. leads rows n g ≡ true) (sym e) c) lt)
      ]

      closed : (h g : ℕ) → marked (marks_of new) h ≡ true → leads rows h g ≡ true → g < length rows
          → (marked (marks_of new) g ≡ true) ⊎ Contains (work_of new) h
      closed h g m c lt = elim (grows.fresh h m) [
        | inl e ↦ elim (is.closed h g (back h e) c lt) [ inl d ↦ inl (stays g d) | inr w ↦ waiting h g w c lt ]
        | inr w ↦ inr w
      ]

      within : (h : ℕ) → Contains (work_of new) h → marked (marks_of new) h ≡ true
      within h w = elim (grows.within h w) [
        | inl v ↦ stays h (is.within h (subst (λ x. Contains x h) (sym work) (Contains-append_left (work_of mid)
            (f ∷ []) h v)))
        | inr e ↦ e
      ]

  pub all_reached : (w : Walk) → IsSpread rows ends w → work_of w ≡ [] → AreLeading rows ends (marks_of w)
  all_reached w is work = record { count_is = is.count_is; sound = is.sound; whole = whole }
    where
      whole : (g : ℕ) (behind : List ℕ) → g < length rows → IsWay rows ends g behind
          → marked (marks_of w) g ≡ true
      whole g [] lt c = is.begun g lt c
      whole g (f ∷ behind) lt c =
          let there : f < length rows = leads_within rows f g (c.0) in
          elim (is.closed f g (whole f behind there (c.1)) (c.0) lt) [
            | inl e ↦ e
            | inr h ↦ absurd (none_in f (subst (λ x. Contains x f) work h))
          ]

pub left_less : (old mid new : Walk) (f : ℕ) (test : ℕ → Bool) → work_of old ≡ work_of mid ++ f ∷ []
    → marks_of mid ≡ marks_of old → Grows test mid new → left new < left old
left_less old mid new f test work marks grows =
    let count : length (work_of old) ≡ length (work_of mid) + 1 = ap length work ∙ length-append (work_of mid) (f
    ∷ []) in
    let same : count_by not (marks_of mid) ≡ count_by not (marks_of old) = ap (count_by not) marks in
    let less : left new ≤ left mid = grows.less in
    omega (arith, count, same, less)
