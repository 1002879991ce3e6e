-- Lists by number.
use Rattle.std.proofs.Common.{arith, ◌≡◌, ◌∙◌, ap, sym, subst, refl, inl, inr, ◌⊎◌, ◌+◌, ◌<◌, ◌≤◌, ◌==◌, ℕ, zero}
use Rattle.std.proofs.Common.{suc, Bool}
use Rattle.std.proofs.Common.{true, false, List, [], ◌∷◌, ◌++◌, length, replicate, take, get_or, append-nil}
use Rattle.std.proofs.lemmas.Bool.{cases_lt}
use Rattle.std.proofs.lemmas.Bool.Decides.{nat_tests}
use Rattle.std.specs.Prelude.{slice_set}
use Rattle.std.specs.List.{Contains, flat_map, list_any, range_with_len}
use Rattle.purity.specs.Effects.{Among}
use Rattle.purity.specs.Knowledge.{AreFlows, AreSources, IsLeading, LeadsTo, Summarizes, number_when}
use Rattle.purity.specs.Marks.{AreLeading, IsWay, leads, marked, row}
use Rattle.purity.specs.Uses.{given_as, is_fault, only_at, only_by, written}
use Rattle.purity.specs.declared.summary.Summary.{Summary}
use Rattle.purity.specs.declared.uses.Use.{Use}
use Rattle.purity.proofs.Amongs.{among_flat, below_range, in_flat, in_range, only_when, when_only}
use Rattle.purity.proofs.MarkLaws.{not_true, number_itself}

pub row_empty : (n k : ℕ) → row (replicate n []) k ≡ []
row_empty zero k = refl
row_empty (suc n) zero = refl
row_empty (suc n) (suc k) = row_empty n k

pub row_grown : (rows : List (List ℕ)) (k : ℕ) → row (rows ++ [] ∷ []) k ≡ row rows k
row_grown [] zero = refl
row_grown [] (suc k) = refl
row_grown (r ∷ rows) zero = refl
row_grown (r ∷ rows) (suc k) = row_grown rows k

same_number_no : (n k : ℕ) → (suc n == suc k) ≡ (n == k)
same_number_no n k = grind (arith, nat_tests)

apart_left : (k : ℕ) → (0 == suc k) ≡ false
apart_left k = grind (arith, nat_tests)

apart_right : (n : ℕ) → (suc n == 0) ≡ false
apart_right n = grind (arith, nat_tests)

none_at : (b : Bool) (xs : List ℕ) (item : ℕ) → b ≡ false → xs ≡ xs ++ only_by b item
none_at true xs item e = absurd (not_true true refl e)
none_at false xs item e = sym (append-nil xs)

pub row_added : (rows : List (List ℕ)) (number k item : ℕ) → number < length rows →
    row (slice_set rows number (row rows number ++ item ∷ [])) k ≡ row rows k ++ only_at number k item
row_added [] number k item less = absurd (omega (arith, less))
row_added (r ∷ rows) zero zero item less =
    ap (λ (b : Bool). r ++ only_by b item) (sym (number_itself 0))
row_added (r ∷ rows) zero (suc k) item less = none_at (0 == suc k) (row rows k) item (apart_left k)
row_added (r ∷ rows) (suc number) zero item less = none_at (suc number == 0) r item (apart_right number)
row_added (r ∷ rows) (suc number) (suc k) item less =
    row_added rows number k item (omega (arith, less)) ∙
    ap (λ (b : Bool). row rows k ++ only_by b item) (sym (same_number_no number k))

pub row_behind : (rows : List (List ℕ)) (last : List ℕ) (k : ℕ) →
    ((k < length rows) × (row (rows ++ last ∷ []) k ≡ row rows k)) ⊎
    ((k ≡ length rows) × (row (rows ++ last ∷ []) k ≡ last)) ⊎ (length rows < k)
row_behind [] last zero = inr (inl (refl, refl))
row_behind [] last (suc k) = inr (inr (omega arith))
row_behind (r ∷ rows) last zero = inl (omega arith, refl)
row_behind (r ∷ rows) last (suc k) = elim (row_behind rows last k) [
  | inl e ↦ inl (let less : k < length rows = e.0 in omega (arith, less), e.1)
  | inr o ↦ elim o [
    | inl e ↦ inr (inl (ap suc e.0, e.1))
    | inr more ↦ inr (inr (omega (arith, more)))
  ]
]

pub row_past : (rows : List (List ℕ)) (k : ℕ) → length rows ≤ k → row rows k ≡ []
row_past [] k h = refl
row_past (r ∷ rows) zero h = absurd (omega (arith, h))
row_past (r ∷ rows) (suc k) h = row_past rows k (omega (arith, h))

-- the marks of the first numbers
taken_mark : (marks : List Bool) (n p : ℕ) → marked (take n marks) p ≡ true → (p < n) × (marked marks p ≡ true)
taken_mark [] zero p h = absurd (not_true false h refl)
taken_mark [] (suc n) p h = absurd (not_true false h refl)
taken_mark (m ∷ marks) zero p h = absurd (not_true false h refl)
taken_mark (m ∷ marks) (suc n) zero h = (omega arith, h)
taken_mark (m ∷ marks) (suc n) (suc p) h =
    let (less, e) = taken_mark marks n p h in (omega (arith, less), e)

mark_taken : (marks : List Bool) (n p : ℕ) → p < n → marked marks p ≡ true → marked (take n marks) p ≡ true
mark_taken [] n p less h = absurd (not_true false h refl)
mark_taken (m ∷ marks) zero p less h = absurd (omega (arith, less))
mark_taken (m ∷ marks) (suc n) zero less h = h
mark_taken (m ∷ marks) (suc n) (suc p) less h = mark_taken marks n p (omega (arith, less)) h

pub leading_taken : (rows : List (List ℕ)) (ends : List ℕ) (params : ℕ) (marks : List Bool) → params ≤ length rows →
    AreLeading rows ends marks → IsLeading rows ends params (take params marks)
leading_taken rows ends params marks room are = record {
  sound = λ p h. let (less, e) = taken_mark marks params p h in (less, are.sound p e);
  whole = λ p less way.
      mark_taken marks params p less (are.whole p way.0 (omega (arith, less, room)) way.1);
}

pub sources_marked : (rows : List (List ℕ)) (ends : List ℕ) (params : ℕ) (marks : List Bool) →
    IsLeading rows ends params marks →
    AreSources rows ends params (flat_map (number_when marks) (range_with_len 0 params))
sources_marked rows ends params marks is = record {
  sound = λ p m.
      let (n, inside, at) = among_flat (number_when marks) (range_with_len 0 params) p m in
      let (test, same) = only_when (marked marks n) n p at in
      is.sound p (subst (λ (x : ℕ). marked marks x ≡ true) same test);
  whole = λ p less way.
      in_flat (number_when marks) (range_with_len 0 params) p p (in_range params p less)
      (when_only (marked marks p) p (is.whole p less way));
}

-- no way leads to an end that isn't there
no_way : {A : Type 0} (rows : List (List ℕ)) (n : ℕ) (behind : List ℕ) → IsWay rows [] n behind → A
no_way rows n [] way = absurd (none way)
  where
    none : Contains [] n → ⊥
    none (k, less, is) = omega (arith, less)
no_way rows n (next ∷ behind) way = no_way rows next behind way.1

pub all_sources_are : (rows values sources : List (List ℕ)) (params : ℕ) → length sources ≡ length values →
    ((k : ℕ) → k < length values → AreSources rows (row values k) params (row sources k)) → (k : ℕ) →
    AreSources rows (row values k) params (row sources k)
all_sources_are rows values sources params count each k = by_place (cases_lt k (length values))
  where
    by_place : (k < length values) ⊎ (length values ≤ k) → AreSources rows (row values k) params (row sources k)
    by_place (inl less) = each k less
    by_place (inr more) =
        subst (λ (ends : List ℕ). AreSources rows ends params (row sources k)) (sym (row_past values k more))
        (subst (λ (numbers : List ℕ). AreSources rows [] params numbers)
        (sym (row_past sources k (omega (arith, count, more)))) none)
      where
        none : AreSources rows [] params []
        none = record { sound = λ p m. absurd m; whole = λ p less way. no_way rows p way.0 way.1 }

pub sources_more : (rows values : List (List ℕ)) (params at : ℕ) (old : List (List ℕ)) (last : List ℕ) →
    length old ≡ at → ((k : ℕ) → k < at → AreSources rows (row values k) params (row old k)) →
    AreSources rows (row values at) params last → (k : ℕ) → k < at + 1 →
    AreSources rows (row values k) params (row (old ++ last ∷ []) k)
sources_more rows values params at old last count each one k less = elim (row_behind old last k) [
  | inl e ↦
      subst (λ (xs : List ℕ). AreSources rows (row values k) params xs) (sym e.1)
      (each k (let inside : k < length old = e.0 in omega (arith, inside, count)))
  | inr o ↦ elim o [
    | inl e ↦
        let same : at ≡ k = sym (e.0 ∙ count) in
        subst (λ (xs : List ℕ). AreSources rows (row values k) params xs) (sym e.1)
        (subst (λ (n : ℕ). AreSources rows (row values n) params last) same one)
    | inr more ↦ absurd (omega (arith, more, count, less))
  ]
]

pub row_item : (values : List (List ℕ)) (at : ℕ) (x : List ℕ) → at < length values → x ≡ get_or values at x →
    row values at ≡ x
row_item [] at x less e = absurd (omega (arith, less))
row_item (v ∷ values) zero x less e = sym e
row_item (v ∷ values) (suc at) x less e = row_item values at x (omega (arith, less)) e

pub summarized : (uses : List Use) (params : ℕ) (rows flowing values returned : List (List ℕ)) (names ends : List ℕ)
    (s : Summary) → AreFlows uses rows → names ≡ flat_map written uses →
    ((k : ℕ) → row values k ≡ flat_map (given_as k) uses) → flowing ≡ rows → ends ≡ names → returned ≡ values →
    IsLeading flowing ends params s.writes → length s.gives ≡ length returned →
    ((k : ℕ) → k < length returned → AreSources flowing (row returned k) params (row s.gives k)) →
    s.faults ≡ list_any is_fault uses → Summarizes uses params s
summarized uses params rows flowing values returned names ends s flows stores gives same_rows same_ends same_values
    leads count each faults = record {
      rows = flowing;
      flows = λ k. ap (λ (rs : List (List ℕ)). row rs k) same_rows ∙ flows k;
      writes = subst (λ (es : List ℕ). IsLeading flowing es params s.writes) (same_ends ∙ stores) leads;
      gives = λ k.
          subst (λ (es : List ℕ). AreSources flowing es params (row s.gives k))
          (ap (λ (rs : List (List ℕ)). row rs k) same_values ∙ gives k)
          (all_sources_are flowing returned s.gives params count each k);
      faults = faults;
    }
