-- Each layer has one reading.
use Rattle.std.proofs.Common.{◌≡◌, ℕ, List, refl, sym, ◌∙◌, ap, subst, Result, Ok, Err}
use Rattle.std.specs.Result.{OnOk, IfErr}
use Rattle.krn_base.specs.declared.place.Loc.{Loc}
use Rattle.krn_base.specs.declared.refusal.Refusal.{Refusal}
use Rattle.krn_base.specs.declared.refusal.Rule.{Rule}
use Rattle.krn_base.specs.declared.refusal.Stop.{Stop}
use Rattle.krn_base.specs.declared.refusal.Stop.TheVariants as stop
use Rattle.array_types.specs.Modules.{program_of, IsProgramOf}
use Rattle.array_types.specs.declared.state.Signature.{Signature as Numbered}
use Rattle.eager_rules.specs.declared.program.Program.{Program}
use Rattle.export_sig.specs.NoteLists as notes
use Rattle.module_names.specs.Places.{IsOnlyYes, IsOnlyAt}
use Rattle.module_terms.specs.declared.term.Routine.{Routine}
use Rattle.py_lex.specs.Lexed as lexed
use Rattle.py_lex.specs.declared.token.Tokens.{Tokens}
use Rattle.py_parse.specs.Parsed as parsed
use Rattle.py_parse.specs.declared.tree.Module.{Module}
use Rattle.pythran_main.specs.Layers.{IsOne}
use Rattle.pythran_main.specs.Reading.{Lexes, Parses, Lists, Tests, Answered}

-- ---- each layer has one reading

ok_same : (x y : Tokens) → (let P : Result Tokens Loc = Ok x in P) ≡ Ok y → x ≡ y
ok_same x y h = cc

err_same : (x y : Loc) → (let P : Result Tokens Loc = Err x in P) ≡ Err y → x ≡ y
err_same x y h = cc

ok_err : (x : Tokens) (y : Loc) → Ok x ≡ Err y → ⊥
ok_err x y h = cc

refusal_same : (q r : Refusal) → q.rule ≡ r.rule → q.loc ≡ r.loc → q ≡ r
refusal_same q r a b =
    let R : Rule → Loc → Refusal = λ x y. record { rule = x; loc = y } in
    ap (λ (x : Rule). R x q.loc) a ∙ ap (R r.rule) b

pub lexed_as : (file : List ℕ) (ts : Tokens) → lexed.IsLexed file ts → IsOne (Lexes file) (Ok ts)
lexed_as file ts is = record { gives = is; alone = alone }
  where
    alone : (other : Result Tokens Refusal) → Lexes file other → other ≡ Ok ts
    alone (Ok us) l = ap (λ (x : Tokens). Ok x) (ok_same us ts (sym l.is_list ∙ is.is_list))
    alone (Err q) h = absurd (ok_err ts q.loc (sym is.is_list ∙ h.1))

pub not_lexed : (file : List ℕ) (r : Refusal) → lexed.IsRefusal file (stop.Refused r) → IsOne (Lexes file) (Err r)
not_lexed file r is = record { gives = is; alone = alone }
  where
    alone : (other : Result Tokens Refusal) → Lexes file other → other ≡ Err r
    alone (Ok us) l = absurd (ok_err us r.loc (sym l.is_list ∙ is.1))
    alone (Err q) h =
        ap (λ (x : Refusal). Err x) (refusal_same q r (h.0 ∙ sym (is.0)) (err_same q.loc r.loc (sym (h.1) ∙ is.1)))

module _ (file : List ℕ) (ts : Tokens) where
  pub parsed_as : (m : Module) → parsed.IsTree file ts m
      → ((n : Module) → parsed.IsTree file ts n → parsed.IsOnly n (Ok m))
      → ((q : Refusal) → parsed.IsRefusal file ts (stop.Refused q) → parsed.IsOnlyRefusal q (Ok m))
      → IsOne (Parses file ts) (Ok m)
  parsed_as m tree one_tree no_refusal = record { gives = tree; alone = alone }
    where
      alone : (other : Result Module Refusal) → Parses file ts other → other ≡ Ok m
      alone (Ok n) has = ap (λ (x : Module). Ok x) (sym (one_tree n has))
      alone (Err q) has = absurd (no_refusal q has)

  not_parsed : (r : Refusal) → parsed.IsRefusal file ts (stop.Refused r)
      → ((n : Module) → parsed.IsTree file ts n → parsed.IsOnly n (Err (stop.Refused r)))
      → ((q : Refusal) → parsed.IsRefusal file ts (stop.Refused q) → parsed.IsOnlyRefusal q (Err (stop.Refused r)))
      → IsOne (Parses file ts) (Err r)
  not_parsed r refused no_tree place = record { gives = refused; alone = alone }
    where
      alone : (other : Result Module Refusal) → Parses file ts other → other ≡ Err r
      alone (Ok n) has = absurd (no_tree n has)
      alone (Err q) has = ap (λ (x : Refusal). Err x) (sym (place q has))

  pub not_parsed_at : (s : Stop) (r : Refusal) → s ≡ stop.Refused r → parsed.IsRefusal file ts s
      → ((n : Module) → parsed.IsTree file ts n → parsed.IsOnly n (Err s))
      → ((q : Refusal) → parsed.IsRefusal file ts (stop.Refused q) → parsed.IsOnlyRefusal q (Err s))
      → IsOne (Parses file ts) (Err r)
  not_parsed_at s r is refused no_tree place =
      not_parsed r (subst (λ (x : Stop). parsed.IsRefusal file ts x) is refused)
      (λ n t. subst (λ (x : Stop). parsed.IsOnly n (Err x)) is (no_tree n t))
      (λ q h. subst (λ (x : Stop). parsed.IsOnlyRefusal q (Err x)) is (place q h))

-- a list that is the only one, and the refusal that is the only one where there is no list
module _ {X : Type 0} (is_list : List X → Type 0) (is_refusal : Stop → Type 0) where
  pub listed_as : (xs : List X) → is_list xs → ((ys : List X) → is_list ys → notes.IsOnly ys (Ok xs))
      → ((q : Refusal) → is_refusal (stop.Refused q)
      → notes.IsOnlyRefusal q (let P : Result (List X) Stop = Ok xs in P))
      → IsOne (Lists is_list is_refusal) (Ok xs)
  listed_as xs is one_list no_refusal = record { gives = is; alone = alone }
    where
      alone : (other : Result (List X) Refusal) → Lists is_list is_refusal other → other ≡ Ok xs
      alone (Ok ys) has = ap (λ (x : List X). Ok x) (sym (one_list ys has))
      alone (Err q) has = absurd (no_refusal q has)

  not_listed : (r : Refusal) → is_refusal (stop.Refused r)
      → ((ys : List X) → is_list ys → notes.IsOnly ys (Err (stop.Refused r)))
      → ((q : Refusal) → is_refusal (stop.Refused q)
      → notes.IsOnlyRefusal q (let P : Result (List X) Stop = Err (stop.Refused r) in P))
      → IsOne (Lists is_list is_refusal) (Err r)
  not_listed r refused no_list place = record { gives = refused; alone = alone }
    where
      alone : (other : Result (List X) Refusal) → Lists is_list is_refusal other → other ≡ Err r
      alone (Ok ys) has = absurd (no_list ys has)
      alone (Err q) has = ap (λ (x : Refusal). Err x) (sym (place q has))

  pub not_listed_at : (s : Stop) (r : Refusal) → s ≡ stop.Refused r → is_refusal s
      → ((ys : List X) → is_list ys → notes.IsOnly ys (Err s))
      → ((q : Refusal) → is_refusal (stop.Refused q)
      → notes.IsOnlyRefusal q (let P : Result (List X) Stop = Err s in P))
      → IsOne (Lists is_list is_refusal) (Err r)
  not_listed_at s r is refused no_list place =
      not_listed r (subst is_refusal is refused)
      (λ ys h. subst (λ (x : Stop). notes.IsOnly ys (Err x)) is (no_list ys h))
      (λ q h. subst (λ (x : Stop). notes.IsOnlyRefusal q (let P : Result (List X) Stop = Err x in P)) is (place q h))

-- a rule by its clauses
module _ (rule : Rule) (accepts : Type 0) (is_first : Loc → Type 0) where
  pub tested : (result : Result (Unit {0}) Stop) (refuses : Stop → Type 0)
      → ((r : Refusal) → refuses (stop.Refused r) → (r.rule ≡ rule) × is_first r.loc) → OnOk result accepts
      → IfErr result refuses → (accepts → IsOnlyYes result) → ((at : Loc) → is_first at → IsOnlyAt rule at result)
      → Answered (IsOne (Tests rule accepts is_first)) result
  tested (Ok x) refuses says ok refused only place = record { gives = ok; alone = alone }
    where
      alone : (other : Result (Unit {0}) Refusal) → Tests rule accepts is_first other → other ≡ Ok x
      alone (Ok y) h = refl
      alone (Err q) h = absurd (place q.loc (h.1))
  tested (Err (stop.Refused r)) refuses says ok refused only place = record { gives = says r refused; alone = alone }
    where
      alone : (other : Result (Unit {0}) Refusal) → Tests rule accepts is_first other → other ≡ Err r
      alone (Ok y) h = absurd (only h)
      alone (Err q) h =
          let at : Refusal = record { rule = rule; loc = q.loc } in
          ap (λ (x : Refusal). Err x) (refusal_same q at (h.0) refl ∙ sym (place q.loc (h.1)))
  tested (Err stop.Memory) refuses says ok refused only place = tt

-- what a function gives is its only value
pub is_value : {A : Type 0} (value found : Result A Refusal) → value ≡ found → IsOne (λ other. value ≡ other) found
is_value value found is = record { gives = is; alone = λ other h. sym h ∙ is }

module _ (routines : List Routine) (signatures : List Numbered) where
  typed : (result : Result Program Stop) → IsProgramOf routines signatures result
      → Answered (IsOne (λ found. program_of routines signatures ≡ found)) result
  typed (Ok program) is = is_value (program_of routines signatures) (Ok program) is
  typed (Err (stop.Refused r)) is = is_value (program_of routines signatures) (Err r) is
  typed (Err stop.Memory) is = tt

pub typed_so : (routines same : List Routine) (signatures alike : List Numbered) (result : Result Program Stop)
    → same ≡ routines → alike ≡ signatures → IsProgramOf same alike result
    → Answered (IsOne (λ found. program_of routines signatures ≡ found)) result
typed_so routines same signatures alike result e k is =
    let P : List Routine → Type 0 = λ r. IsProgramOf r alike result in
    let Q : List Numbered → Type 0 = λ s. IsProgramOf routines s result in
    typed routines signatures result (subst Q k (subst P e is))
