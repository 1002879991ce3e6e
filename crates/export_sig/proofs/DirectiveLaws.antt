-- What one pass gives a directive note is its directive by the rules.
use Rattle.std.proofs.Common.{◌≡◌, ◌≢◌, ℕ, Bool, true, false, cond, not, ◌||◌, List, [], ◌∷◌, ◌++◌}
use Rattle.std.proofs.Common.{Some, None, refl, sym, ap, subst, ◌∙◌}
use Rattle.std.specs.Prelude.{nat_eq, Contains}
use Rattle.std.specs.List.{list_any, AllByRecursion}
use Rattle.std.specs.Str.{bytes_eq}
use Rattle.std.proofs.lemmas.Bool.{eqb-true, eq-eqb}
use Rattle.std.proofs.lemmas.List.Folds.{list_any-append, list_any_at}
use Rattle.indexmap.proofs.CallerLemmas.{Contains-list_any}
use Rattle.krn_base.specs.declared.operation.Join.{Join}
use Rattle.krn_base.specs.declared.place.Loc.{Loc}
use Rattle.py_parse.specs.declared.tree.Module.{Module}
use Rattle.py_parse.specs.declared.tree.Name.{Name}
use Rattle.py_parse.specs.declared.tree.Note.{Note}
use Rattle.export_sig.specs.declared.directive.Directive.{Directive}
use Rattle.export_sig.specs.Directives.{AreApart, IsAlone, IsDirective}
use Rattle.export_sig.specs.Loops.{all_loops}
use Rattle.export_sig.specs.Listing.{are_apart, texts, is_place, Places, is_among, is_alone, is_directed}
use Rattle.export_sig.specs.Listing.{directive_with, directed, directive_from, directive_given}
use Rattle.export_sig.specs.Reading.{reductions_of}
use Rattle.export_sig.proofs.Tools.{bind_some, seq, some_is, chosen_some, both_true, both, text_is, same_text}
use Rattle.export_sig.proofs.ClauseTexts.{reductions_took, reductions_read, one_reading}

-- ---- names apart

not_true : (t : Bool) → not t ≡ true → t ≡ false
not_true true e = absurd cc
not_true false e = refl

not_by : (t : Bool) → t ≡ false → not t ≡ true
not_by t e = ap not e

or_false : (a b : Bool) → (a || b) ≡ false → (a ≡ false) × (b ≡ false)
or_false true b e = absurd cc
or_false false b e = (refl, e)

both_false : (a b : Bool) → a ≡ false → b ≡ false → (a || b) ≡ false
both_false a b e f = ap (λ (x : Bool). x || b) e ∙ f

false_true : (t : Bool) → t ≡ true → t ≡ false → ⊥
false_true t e f = cc

abbrev Unseen : List (List ℕ) → List (List ℕ) → Type 0
Unseen seen names = AllByRecursion (λ n. list_any (bytes_eq n) seen ≡ false) names

differ : (n k : List ℕ) → bytes_eq k n ≡ false → n ≢ k
differ n k e h = false_true (bytes_eq k n) (ap (bytes_eq k) h ∙ same_text k) e

differ_by : (n k : List ℕ) (t : Bool) → bytes_eq k n ≡ t → n ≢ k → t ≡ false
differ_by n k true e h = absurd (h (sym (text_is k n e)))
differ_by n k false e h = refl

one_less : (seen : List (List ℕ)) (n : List ℕ) (names : List (List ℕ)) → Unseen (seen ++ n ∷ []) names
    → AllByRecursion (λ other. n ≢ other) names × Unseen seen names
one_less seen n [] h = (tt, tt)
one_less seen n (k ∷ names) h =
    let p = or_false (list_any (bytes_eq k) seen) (bytes_eq k n || false)
    (sym (list_any-append (bytes_eq k) seen (n ∷ [])) ∙ h.0) in
    let q = or_false (bytes_eq k n) false p.1 in
    let r = one_less seen n names h.1 in
    ((differ n k q.0, r.0), (p.0, r.1))

one_more : (seen : List (List ℕ)) (n : List ℕ) (names : List (List ℕ)) → AllByRecursion (λ other. n ≢ other) names
    → Unseen seen names → Unseen (seen ++ n ∷ []) names
one_more seen n [] h g = tt
one_more seen n (k ∷ names) h g = (
  list_any-append (bytes_eq k) seen (n ∷ []) ∙ both_false (list_any (bytes_eq k) seen) (bytes_eq k n || false) g.0
      (both_false (bytes_eq k n) false (differ_by n k (bytes_eq k n) refl h.0) refl),
  one_more seen n names h.1 g.1,
)

apart_took : (seen names : List (List ℕ)) → are_apart seen names ≡ true → AreApart names × Unseen seen names
apart_took seen [] e = (tt, tt)
apart_took seen (n ∷ names) e =
    let p = both_true (not (list_any (bytes_eq n) seen)) (are_apart (seen ++ n ∷ []) names) e in
    let r = apart_took (seen ++ n ∷ []) names p.1 in
    let q = one_less seen n names r.1 in
    ((q.0, r.0), (not_true (list_any (bytes_eq n) seen) p.0, q.1))

apart_read : (seen names : List (List ℕ)) → AreApart names → Unseen seen names → are_apart seen names ≡ true
apart_read seen [] h g = refl
apart_read seen (n ∷ names) h g =
    both (not (list_any (bytes_eq n) seen)) (are_apart (seen ++ n ∷ []) names) (not_by (list_any (bytes_eq n) seen) g.0)
    (apart_read (seen ++ n ∷ []) names h.1 (one_more seen n names h.0 g.1))

none_seen : (names : List (List ℕ)) → Unseen [] names
none_seen [] = tt
none_seen (n ∷ names) = (refl, none_seen names)

-- ---- places

same_place : (a b : Loc) → is_place a b ≡ true → a ≡ b
same_place a b e =
    let p = both_true (nat_eq a.line b.line) (nat_eq a.col b.col) e in
    ap (λ (x : ℕ). record { line = x; col = a.col }) (eqb-true a.line b.line p.0) ∙ ap
    (λ (x : ℕ). record { line = b.line; col = x }) (eqb-true a.col b.col p.1)

own_place : (a : Loc) → is_place a a ≡ true
own_place a = both (nat_eq a.line a.line) (nat_eq a.col a.col) (eq-eqb a.line a.line refl) (eq-eqb a.col a.col refl)

loop_took : (at : Loc) (loops : List Loc) → list_any (is_place at) loops ≡ true → Contains loops at
loop_took at loops e = Contains-list_any is_place same_place loops at e

loop_read : (at : Loc) (loops : List Loc) → Contains loops at → list_any (is_place at) loops ≡ true
loop_read at loops h = list_any_at (is_place at) loops h.0 at h.1 (ap (is_place at) h.2 ∙ own_place at)

alone_took : (n : Note) (after : List Note) → is_alone n after ≡ true → IsAlone n after
alone_took n [] e = tt
alone_took n (k ∷ after) e = λ h. false_true (is_place k.next.loc n.next.loc)
    (ap (λ (x : Loc). is_place x n.next.loc) h ∙ own_place n.next.loc) (not_true (is_place k.next.loc n.next.loc) e)

apart_by : (a b : Loc) (t : Bool) → is_place a b ≡ t → a ≢ b → t ≡ false
apart_by a b true e h = absurd (h (same_place a b e))
apart_by a b false e h = refl

alone_read : (n : Note) (after : List Note) → IsAlone n after → is_alone n after ≡ true
alone_read n [] h = refl
alone_read n (k ∷ after) h = not_by (is_place k.next.loc n.next.loc)
    (apart_by k.next.loc n.next.loc (is_place k.next.loc n.next.loc) refl h)

-- ---- one note

record Directed (loops : Places) (n : Note) (after : List Note) (pairs : List (Join × Name)) : Type 0 where
  pub apart : are_apart [] (texts pairs) ≡ true
  pub loop : is_among loops n.next.loc ≡ true
  pub alone : is_alone n after ≡ true

directed_is : (loops : Places) (n : Note) (after : List Note) (pairs : List (Join × Name))
    → is_directed loops n after pairs ≡ true → Directed loops n after pairs
unfolding is_directed
directed_is loops n after pairs e =
    let a = both_true (are_apart [] (texts pairs)) _ e in
    let b = both_true (is_among loops n.next.loc) (is_alone n after) a.1 in
    record { apart = a.0; loop = b.0; alone = b.1 }

directed_by : (loops : Places) (n : Note) (after : List Note) (pairs : List (Join × Name))
    → Directed loops n after pairs → is_directed loops n after pairs ≡ true
unfolding is_directed
directed_by loops n after pairs h = both _ _ h.apart (both _ _ h.loop h.alone)

same_directive : (d : Directive) (target loc : Loc) → d.target ≡ target → d.loc ≡ loc
    → record { loc = loc; target = target; reductions = d.reductions } ≡ d
same_directive d target loc e f =
    ap (λ (x : Loc). record { loc = loc; target = x; reductions = d.reductions }) (sym e) ∙ ap
    (λ (x : Loc). record { loc = x; target = d.target; reductions = d.reductions }) (sym f)

-- these are the places of the loops
pub record ArePlaces (m : Module) (loops : Places) : Type 0 where
  pub are : (at : Loc) → is_among loops at ≡ list_any (is_place at) (all_loops m.functions)

module _ (m : Module) (loops : Places) (places : ArePlaces m loops) where
  pub directive_right : (before : List Note) (found : List Directive) (n : Note) (after : List Note) (d : Directive)
      → Unit {0} → directive_given loops found n after ≡ Some d → IsDirective m before n after d
  unfolding directive_from
  directive_right before found n after d so e =
      let x = bind_some (reductions_of n) (directed loops n after) d e in
      let t = chosen_some (is_directed loops n after x.0) (Some (directive_with n x.0)) d x.2 in
      let a = directed_is loops n after x.0 t.0 in
      subst (IsDirective m before n after) (some_is (directive_with n x.0) d t.1) (record {
        text = reductions_took n x.0 x.1;
        apart = (apart_took [] (texts x.0) a.apart).0;
        target_is = refl;
        loop = loop_took n.next.loc (all_loops m.functions) (sym (places.are n.next.loc) ∙ a.loop);
        alone = alone_took n after a.alone;
        loc_is = refl;
      })

  pub directive_whole : (before : List Note) (found : List Directive) (n : Note) (after : List Note) (d : Directive)
      → Unit {0} → IsDirective m before n after d → directive_given loops found n after ≡ Some d
  unfolding directive_from
  directive_whole before found n after d so h =
      let a : is_directed loops n after d.reductions ≡ true = directed_by loops n after d.reductions (record {
        apart = apart_read [] (texts d.reductions) h.apart (none_seen (texts d.reductions));
        loop = places.are n.next.loc ∙ loop_read n.next.loc (all_loops m.functions) h.loop;
        alone = alone_read n after h.alone;
      }) in
      seq (reductions_of n) (directed loops n after) d.reductions (Some d) (reductions_read n d.reductions h.text)
      (ap (λ (t : Bool). cond t (Some (directive_with n d.reductions)) None) a ∙ ap (λ (x : Directive). Some x)
      (same_directive d n.next.loc n.loc h.target_is h.loc_is))

pub one_directive : (m : Module) (before : List Note) (n : Note) (after : List Note) (d e : Directive)
    → IsDirective m before n after d → IsDirective m before n after e → d ≡ e
one_directive m before n after d e h g =
    let r : d.reductions ≡ e.reductions = one_reading n d.reductions e.reductions h.text g.text in
    let t : d.target ≡ e.target = h.target_is ∙ sym g.target_is in
    let l : d.loc ≡ e.loc = h.loc_is ∙ sym g.loc_is in
    ap (λ (x : Loc). record { loc = x; target = d.target; reductions = d.reductions }) l ∙ ap
    (λ (x : Loc). record { loc = e.loc; target = x; reductions = d.reductions }) t
    ∙ ap (λ (x : List (Join × Name)). record { loc = e.loc; target = e.target; reductions = x }) r
