-- The first of several places: it is what the marks in a row come to, and there is one at the most.
use Rattle.std.proofs.Common.{◌≡◌, Bool, true, false, cond, List, [], ◌∷◌, Option, Some, None, Result, Ok}
use Rattle.std.proofs.Common.{Err, refl, sym, subst, inl, inr, arith}
use Rattle.std.proofs.lemmas.Bool.Decides.{nat_tests}
use Rattle.std.specs.Result.{OnOk, IfErr}
use Rattle.krn_base.specs.declared.place.Loc.{Loc}
use Rattle.krn_base.specs.declared.refusal.Refusal.{Refusal}
use Rattle.krn_base.specs.declared.refusal.Rule.{Rule}
use Rattle.krn_base.specs.declared.refusal.Stop.{Stop}
use Rattle.krn_base.specs.declared.refusal.Stop.TheVariants as stop
use Rattle.module_names.specs.Places.{is_before, given, Among, IsFirst, RefusesAt, IsOnlyYes, IsOnlyAt, IsAnswer}
use Rattle.module_names.specs.Places.{sooner_of, soonest, answer}

not_itself : (a : Loc) → is_before a a ≡ false
not_itself a = grind (arith, nat_tests)

-- what stands behind a place that isn't before another isn't before it either
behind : (x y at : Loc) → is_before y x ≡ true → is_before y at ≡ false → is_before x at ≡ false
behind x y at h k = grind (arith, nat_tests)

not_before : (x y at : Loc) → is_before y x ≡ false → is_before x at ≡ false → is_before y at ≡ false
not_before x y at h k = grind (arith, nat_tests)

same_line : (a b : Loc) → is_before a b ≡ false → is_before b a ≡ false → a.line ≡ b.line
same_line a b h k = grind (arith, nat_tests)

same_col : (a b : Loc) → is_before a b ≡ false → is_before b a ≡ false → a.col ≡ b.col
same_col a b h k = grind (arith, nat_tests)

same_place : (a b : Loc) → is_before a b ≡ false → is_before b a ≡ false → a ≡ b
same_place a b h k =
    let p : a.line ≡ b.line = same_line a b h k in
    let q : a.col ≡ b.col = same_col a b h k in
    λ i. record { line = p i; col = q i }

pub one_first : (a b : Loc) (places : List Loc) → IsFirst a places → IsFirst b places → a ≡ b
one_first a b places f g = same_place a b (g.first a f.among) (f.first b g.among)

-- a place that is there already, before others
abbrev held : Option Loc → List Loc → List Loc
held None places = places
held (Some x) places = x ∷ places

earlier : (x y at : Loc) (places : List Loc) → is_before y x ≡ true → IsFirst at (y ∷ places) → IsFirst at (x ∷ y
    ∷ places)
earlier x y at places h f = record {
  among = inr f.among;
  first = λ w is. elim is [
    | inl e ↦ subst (λ (v : Loc). is_before v at ≡ false) (sym e) (behind x y at h (f.first y (inl refl)))
    | inr more ↦ f.first w more
  ];
}

kept : (x y at : Loc) (places : List Loc) → is_before y x ≡ false → IsFirst at (x ∷ places) → IsFirst at (x ∷ y
    ∷ places)
kept x y at places h f = record {
  among = elim f.among [ inl e ↦ inl e | inr more ↦ inr (inr more) ];
  first = λ w is. elim is [
    | inl e ↦ f.first w (inl e)
    | inr more ↦ elim more [
      | inl e ↦ subst (λ (v : Loc). is_before v at ≡ false) (sym e) (not_before x y at h (f.first x (inl refl)))
      | inr most ↦ f.first w (inr most)
    ]
  ];
}

chosen : (b : Bool) (x y at : Loc) (places : List Loc) → is_before y x ≡ b → IsFirst at (cond b y x ∷ places)
    → IsFirst at (x ∷ y ∷ places)
chosen true x y at places h f = earlier x y at places h f
chosen false x y at places h f = kept x y at places h f

first_of_two : (first : Option Loc) (y at : Loc) (places : List Loc) → IsFirst at (sooner_of first y ∷ places)
    → IsFirst at (held first (y ∷ places))
first_of_two None y at places f = f
first_of_two (Some x) y at places f = chosen (is_before y x) x y at places refl f

some_same : (first : Option Loc) (at : Loc) → first ≡ Some at → IsFirst at (held first [])
some_same None at e = absurd cc
some_same (Some x) at e =
    let same : x ≡ at = cc in
    subst (λ (v : Loc). IsFirst at (v ∷ [])) (sym same) (record {
      among = inl refl;
      first = λ w is. elim is [
        | inl e ↦ subst (λ (v : Loc). is_before v at ≡ false) (sym e) (not_itself at)
        | inr
            none ↦ absurd none
      ];
    })

first_is : (marks : List (Option Loc)) (first : Option Loc) (at : Loc) → soonest first marks ≡ Some at
    → IsFirst at (held first (given marks))
first_is [] first at e = some_same first at e
first_is (None ∷ marks) first at e = first_is marks first at e
first_is (Some y ∷ marks) first at e = first_of_two first y at (given marks) (first_is marks
    (Some (sooner_of first y)) at e)

none_is : (marks : List (Option Loc)) (first : Option Loc) → soonest first marks ≡ None → (first ≡ None)
    × (given marks ≡ [])
none_is [] first e = (e, refl)
none_is (None ∷ marks) first e = none_is marks first e
none_is (Some y ∷ marks) first e =
    let h : Some (sooner_of first y) ≡ None = (none_is marks (Some (sooner_of first y)) e).0 in
    absurd cc

-- ---- the clauses of a test

module _ (rule : Rule) (marks : List (Option Loc)) where
  by_ok : (o : Option Loc) → soonest None marks ≡ o → answer rule o ≡ Ok tt → given marks ≡ []
  by_ok None e is = (none_is marks None e).1
  by_ok (Some at) e is = absurd cc

  by_err : (o : Option Loc) (r : Refusal) → soonest None marks ≡ o → answer rule o ≡ Err (stop.Refused r)
      → (r.rule ≡ rule) × IsFirst r.loc (given marks)
  by_err None r e is = absurd cc
  by_err (Some at) r e is =
      let same : record { rule = rule; loc = at } ≡ r = cc in
      subst (λ (q : Refusal). (q.rule ≡ rule) × IsFirst q.loc (given marks)) same (refl, first_is marks None at e)

  pub is_answer : (result : Result (Unit {0}) Stop) → result ≡ answer rule (soonest None marks)
      → IsAnswer rule marks result
  is_answer (Ok x) e = sym e
  is_answer (Err stop.Memory) e = tt
  is_answer (Err (stop.Refused r)) e = sym e

  pub ok_clause : (result : Result (Unit {0}) Stop) → IsAnswer rule marks result → OnOk result (given marks ≡ [])
  ok_clause (Ok x) is = by_ok (soonest None marks) refl is
  ok_clause (Err stop.Memory) is = tt
  ok_clause (Err (stop.Refused r)) is = tt

  pub refused_clause : (result : Result (Unit {0}) Stop) → IsAnswer rule marks result
      → IfErr result (RefusesAt rule (given marks))
  refused_clause (Ok x) is = tt
  refused_clause (Err stop.Memory) is = tt
  refused_clause (Err (stop.Refused r)) is = by_err (soonest None marks) r refl is

  none_first : (at : Loc) → given marks ≡ [] → IsFirst at (given marks) → ⊥
  none_first at e f = subst (λ places. Among at places) e f.among

  pub only_clause : (result : Result (Unit {0}) Stop) → IsAnswer rule marks result → given marks ≡ [] → IsOnlyYes result
  only_clause (Ok x) is e = tt
  only_clause (Err stop.Memory) is e = tt
  only_clause (Err (stop.Refused r)) is e = none_first r.loc e (by_err (soonest None marks) r refl is).1

  at_first : (r : Refusal) (at : Loc) → (r.rule ≡ rule) × IsFirst r.loc (given marks) → IsFirst at (given marks) → r
      ≡ record { rule = rule; loc = at }
  at_first r at h f =
      let p : r.rule ≡ rule = h.0 in
      let q : r.loc ≡ at = one_first r.loc at (given marks) h.1 f in
      λ i. record { rule = p i; loc = q i }

  pub place_clause : (result : Result (Unit {0}) Stop) → IsAnswer rule marks result → (at : Loc)
      → IsFirst at (given marks) → IsOnlyAt rule at result
  place_clause (Ok x) is at f = none_first at (by_ok (soonest None marks) refl is) f
  place_clause (Err stop.Memory) is at f = tt
  place_clause (Err (stop.Refused r)) is at f = at_first r at (by_err (soonest None marks) r refl is) f
