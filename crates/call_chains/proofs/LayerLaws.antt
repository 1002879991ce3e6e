-- Layers: the functions to which chains of a certain number of calls lead.
use Rattle.std.proofs.Common.{◌≡◌, ℕ, suc, ◌+◌, ◌<◌, ◌≤◌, ◌==◌, ◌⊎◌, Bool, true, false, ◌||◌, List, [], ◌∷◌, length}
use Rattle.std.proofs.Common.{replicate, refl, ap, sym, ◌∙◌, subst, inl, inr, arith}
use Rattle.std.specs.List.{Contains, list_any}
use Rattle.call_chains.specs.Chains.{Rows, row, has_callee, calls, IsChain}
use Rattle.call_chains.specs.Sets.{marked, IsLayer, CalledBelow, AreCalled}
use Rattle.call_chains.proofs.MarkLaws.{not_true, or_cases, or_left, or_right, marked_within, none_marked, calls_within}
use Rattle.call_chains.proofs.MarkLaws.{number_among, among_number}

before_or_here : (f end : ℕ) → f < end + 1 → (f < end) ⊎ (f ≡ end)
before_or_here f end h = grind arith

module _ (rows : Rows) (marks : List Bool) where
  pub called_none : (out : List Bool) → out ≡ replicate (length rows) false → length out ≡ length rows
      → AreCalled rows marks 0 out
  called_none out is count = record {
    count_is = count;
    sound = λ g h. absurd (not_true (marked out g) h (ap (λ m. marked m g) is ∙ none_marked (length rows) g));
    whole = λ g lt c. absurd (none c.0 (c.1));
  }
    where
      none : (f : ℕ) → f < 0 → ⊥
      none f h = omega arith

  further : (end g : ℕ) → CalledBelow rows marks end g → CalledBelow rows marks (end + 1) g
  further end g (f, lt, m, c) = (f, omega arith, m, c)

  pub called_yes : (end : ℕ) (old new : List Bool) → AreCalled rows marks end old → marked marks end ≡ true
      → length new ≡ length old
      → ((g : ℕ) → g < length old → marked new g ≡ (marked old g || has_callee g (row rows end)))
      → AreCalled rows marks (end + 1) new
  called_yes end old new is here count met = record {
    count_is = count ∙ is.count_is;
    sound = sound;
    whole = whole;
  }
    where
      sound : (g : ℕ) → marked new g ≡ true → CalledBelow rows marks (end + 1) g
      sound g h =
          let there : g < length old = subst (λ n. g < n) count (marked_within new g h) in
          elim (or_cases (marked old g) (has_callee g (row rows end)) (sym (met g there) ∙ h)) [
            | inl e ↦ further end g (is.sound g e)
            | inr e ↦ (end, omega arith, here, e)
          ]

      whole : (g : ℕ) → g < length rows → CalledBelow rows marks (end + 1) g → marked new g ≡ true
      whole g lt (f, below, m, c) =
          let there : g < length old = subst (λ n. g < n) (sym is.count_is) lt in
          met g there ∙ elim (before_or_here f end below) [
            | inl less ↦ or_left (marked old g) (has_callee g (row rows end)) (is.whole g lt (f, less, m, c))
            | inr same ↦ or_right (marked old g) (has_callee g (row rows end))
                (subst (λ n. calls rows n g ≡ true) same c)
          ]

  pub called_no : (end : ℕ) (out : List Bool) → AreCalled rows marks end out → marked marks end ≡ false
      → AreCalled rows marks (end + 1) out
  called_no end out is here = record {
    count_is = is.count_is;
    sound = λ g h. further end g (is.sound g h);
    whole = whole;
  }
    where
      whole : (g : ℕ) → g < length rows → CalledBelow rows marks (end + 1) g → marked out g ≡ true
      whole g lt (f, below, m, c) = elim (before_or_here f end below) [
        | inl less ↦ is.whole g lt (f, less, m, c)
        | inr same ↦ absurd (not_true (marked marks end) (subst (λ n. marked marks n ≡ true) same m) here)
      ]

module _ (rows : Rows) (exported : List ℕ) where
  pub layer_first : (marks : List Bool) → length marks ≡ length rows
      → ((g : ℕ) → g < length rows → marked marks g ≡ list_any (λ f. f == g) exported) → IsLayer rows exported 0 marks
  layer_first marks count met = record { count_is = count; sound = sound; whole = whole }
    where
      sound : (g : ℕ) → marked marks g ≡ true → (before : List ℕ) × (length before ≡ 0) × IsChain rows exported g before
      sound g h =
          let there : g < length rows = subst (λ n. g < n) count (marked_within marks g h) in
          ([], refl, number_among exported g (sym (met g there) ∙ h))

      whole : (g : ℕ) (before : List ℕ) → g < length rows → length before ≡ 0 → IsChain rows exported g before
          → marked marks g ≡ true
      whole g [] lt len chain = met g lt ∙ among_number exported g chain
      whole g (f ∷ before) lt len chain = absurd (omega arith)

  pub layer_more : (count : ℕ) (old new : List Bool) → IsLayer rows exported count old
      → AreCalled rows old (length rows) new
      → IsLayer rows exported (count + 1) new
  layer_more count old new is next = record { count_is = next.count_is; sound = sound; whole = whole }
    where
      sound : (g : ℕ) → marked new g ≡ true → (before : List ℕ) × (length before ≡ count + 1)
          × IsChain rows exported g before
      sound g h =
          let (f, below, m, c) = next.sound g h in
          let (before, len, chain) = is.sound f m in (f ∷ before, omega (arith, len), (c, chain))

      whole : (g : ℕ) (before : List ℕ) → g < length rows → length before ≡ count + 1 → IsChain rows exported g before
          → marked new g ≡ true
      whole g [] lt len chain = absurd (omega arith)
      whole g (f ∷ before) lt len chain =
          let there : f < length rows = calls_within rows f g (chain.0) in
          next.whole g lt (f, there, is.whole f before there (omega (arith, len)) (chain.1), chain.0)
