-- The text of a directive note is read as its reductions exactly where they are its.
use Rattle.std.proofs.Common.{◌≡◌, ℕ, zero, suc, ◌+◌, ◌-◌, ◌≤◌, ◌<◌, Bool, true, false, cond, eqb, List, []}
use Rattle.std.proofs.Common.{◌∷◌, ◌++◌, length, Option, Some, None, refl, sym, ap, subst, ◌∙◌}
use Rattle.std.proofs.Common.{append_assoc, length-append, arith}
use Rattle.std.specs.Prelude.{codes}
use Rattle.std.specs.List.{AllByRecursion}
use Rattle.std.proofs.lemmas.Bool.{eqb-true}
use Rattle.std.proofs.lemmas.List.{append-nil, nil_from_length}
use Rattle.krn_base.specs.declared.operation.Join.{Join}
use Rattle.krn_base.specs.declared.operation.Join.TheVariants.{Sum, Prod, And, Or, Xor, Max, Min}
use Rattle.krn_base.specs.declared.place.Loc.{Loc}
use Rattle.py_lex.specs.Words.{is_name}
use Rattle.py_parse.specs.declared.tree.Name.{Name}
use Rattle.py_parse.specs.declared.tree.Note.{Note}
use Rattle.export_sig.specs.Blanks.{AreSomeBlanks, after_blanks}
use Rattle.export_sig.specs.Clauses.{Clause, sign, names_text, opening, clause_text, AreNames, IsFine}
use Rattle.export_sig.specs.Clauses.{clauses_text, names_at, reductions_at, all_reductions, IsDirectiveHead}
use Rattle.export_sig.specs.Clauses.{AreReductions}
use Rattle.export_sig.specs.Clauses.Clause.{Reduction, Private, Schedule, Default}
use Rattle.export_sig.specs.Reading.{◌>>=◌, behind_byte, behind_text, behind_blanks, name_in, by_sign, join_at}
use Rattle.export_sig.specs.Reading.{by_close, behind_name, name_moved, name_with, names_from, names_in, joined_names}
use Rattle.export_sig.specs.Reading.{reduction_at, private_at, by_reduction, by_private, named_at, by_default}
use Rattle.export_sig.specs.Reading.{by_schedule, clause_at, spaced_clause, clauses_from, behind_directive}
use Rattle.export_sig.specs.Reading.{reductions_of}
use Rattle.export_sig.proofs.Tools.{bind_some, seq, some_is, chosen_some}
use Rattle.export_sig.proofs.WordTexts.{split_blanks, skip, blanks_took, blanks_read, byte_took, text_took}
use Rattle.export_sig.proofs.WordTexts.{text_read, name_took, name_read}

-- ---- the operation

abbrev SignTook : List ℕ → Join × List ℕ → Type 0
SignTook ts p = ts ≡ (sign p.0 ++ 58 ∷ []) ++ p.1

sign_by : (j : Join) (ts : List ℕ) (o : Option (List ℕ)) (rest : Option (Join × List ℕ)) (p : Join × List ℕ)
    → behind_text (sign j ++ 58 ∷ []) ts ≡ o → (rest ≡ Some p → SignTook ts p) → by_sign j o rest ≡ Some p
    → SignTook ts p
sign_by j ts (Some us) rest p e again h = subst (SignTook ts) (some_is (j, us) p h)
    (text_took (sign j ++ 58 ∷ []) ts us e)
sign_by j ts None rest p e again h = again h

no_sign : (ts : List ℕ) (p : Join × List ℕ) → None ≡ Some p → SignTook ts p
no_sign ts p e = absurd cc

join_took : (ts : List ℕ) (p : Join × List ℕ) → join_at ts ≡ Some p → SignTook ts p
unfolding join_at
join_took ts p e =
    sign_by Sum ts _ _ p refl (sign_by Prod ts _ _ p refl (sign_by And ts _ _ p refl (sign_by Or ts _ _ p refl
    (sign_by Xor ts _ _ p refl (sign_by Max ts _ _ p refl (sign_by Min ts _ _ p refl (no_sign ts p))))))) e

join_read : (j : Join) (rest : List ℕ) → join_at ((sign j ++ 58 ∷ []) ++ rest) ≡ Some (j, rest)
unfolding join_at behind_text
join_read Sum rest = refl
join_read Prod rest = refl
join_read And rest = refl
join_read Or rest = refl
join_read Xor rest = refl
join_read Max rest = refl
join_read Min rest = refl

-- ---- names

record NamesTook (start : Loc) (before : ℕ) (found : List Name) (ts : List ℕ) (all : List Name)
    (rest : List ℕ) : Type 0 where
  pub first : List ℕ
  pub more : List (List ℕ)
  pub parts : ts ≡ names_text (first ∷ more) ++ rest
  pub fine : AllByRecursion (λ n. is_name n ≡ true) (first ∷ more)
  pub all_is : all ≡ found ++ names_at start before (first ∷ more)

abbrev Names : Type 0
Names = List Name × List ℕ

last_name : (start : Loc) (before : ℕ) (found : List Name) (ts w us rest : List ℕ) (p : Names) → ts ≡ w ++ us
    → is_name w ≡ true → us ≡ 41 ∷ rest
    → (found ++ name_moved start before w ∷ [], rest) ≡ p → NamesTook start before found ts p.0 p.1
last_name start before found ts w us rest p e h close q =
    record {
      first = w;
      more = [];
      parts = e ∙ ap (λ (x : List ℕ). w ++ x) close ∙ sym (append_assoc w (41 ∷ []) rest) ∙ ap
          (λ (x : List Name × List ℕ). (w ++ 41 ∷ []) ++ x.1) q;
      fine = (h, tt);
      all_is = sym (ap (λ (x : List Name × List ℕ). x.0) q);
    }

next_name : (start : Loc) (before : ℕ) (found : List Name) (ts w us vs : List ℕ) (p : Names) → ts ≡ w ++ us
    → is_name w ≡ true → us ≡ 44 ∷ vs
    → NamesTook start (before + length w + 1) (found ++ name_moved start before w ∷ []) vs p.0 p.1
    → NamesTook start before found ts p.0 p.1
next_name start before found ts w us vs p e h comma t =
    record {
      first = w;
      more = t.first ∷ t.more;
      parts = e ∙ ap (λ (x : List ℕ). w ++ x) (comma ∙ ap (λ (x : List ℕ). 44 ∷ x) t.parts) ∙ sym
          (append_assoc w (44 ∷ names_text (t.first ∷ t.more)) p.1);
      fine = (h, t.fine);
      all_is = t.all_is ∙ append_assoc found (name_moved start before w ∷ [])
          (names_at start (before + length w + 1) (t.first ∷ t.more));
    }

names_by : (start : Loc) (whole n : ℕ) (found : List Name) (ts w us : List ℕ) (p : Names) (o : Option (List ℕ))
    → length ts ≤ whole → ts ≡ w ++ us → is_name w ≡ true → behind_byte 41 us ≡ o
    → ((f : List Name) (vs : List ℕ) → length vs ≤ whole → names_from start whole n f vs ≡ Some p → NamesTook start
    (whole - length vs) f vs p.0 p.1)
    → by_close (names_from start whole n) (found ++ name_moved start (whole - length ts) w ∷ []) us o ≡ Some p
    → NamesTook start (whole - length ts) found ts p.0 p.1
names_by start whole n found ts w us p (Some rest) fits e h close again q =
    last_name start (whole - length ts) found ts w us rest p e h (byte_took 41 us rest close) (some_is _ p q)
names_by start whole n found ts w us p None fits e h close again q =
    let c = bind_some (behind_byte 44 us) (names_from start whole n
    (found ++ name_moved start (whole - length ts) w ∷ [])) p q in
    let comma = byte_took 44 us c.0 c.1 in
    let l : length ts ≡ length w + length us = ap length e ∙ length-append w us in
    let m : length us ≡ suc (length c.0) = ap length comma in
    let at : whole - length c.0 ≡ (whole - length ts) + length w + 1 = omega arith in
    next_name start (whole - length ts) found ts w us c.0 p e h comma
    (subst (λ (k : ℕ). NamesTook start k (found ++ name_moved start (whole - length ts) w ∷ []) c.0 p.0 p.1) at
    (again (found ++ name_moved start (whole - length ts) w ∷ []) c.0 (omega arith) c.2))

names_took : (start : Loc) (whole n : ℕ) (found : List Name) (ts : List ℕ) (p : Names) → length ts ≤ whole
    → names_from start whole n found ts ≡ Some p → NamesTook start (whole - length ts) found ts p.0 p.1
unfolding names_from
names_took start whole zero found ts p fits e = absurd cc
names_took start whole (suc n) found ts p fits e =
    let w = bind_some (name_in ts) (λ w. behind_name (names_from start whole n)
    (found ++ name_with start whole ts w.0 ∷ []) w.1) p e in
    let h = name_took ts w.0 w.1 in
    names_by start whole n found ts w.0.0 w.0.1 p (behind_byte 41 w.0.1) fits h.0 h.1 refl
    (λ f vs fits' e'. names_took start whole n f vs p fits' e') w.2

last_read : (start : Loc) (whole n : ℕ) (found : List Name) (ts w rest : List ℕ) → name_in ts ≡ Some (w, 41 ∷ rest)
    → names_from start whole (suc n) found ts ≡ Some (found ++ name_moved start (whole - length ts) w ∷ [], rest)
unfolding names_from
last_read start whole n found ts w rest e = rw e refl

next_read : (start : Loc) (whole n : ℕ) (found : List Name) (ts w us : List ℕ) (o : Option Names) → name_in ts ≡ Some
    (w, 44 ∷ us) → names_from start whole n (found ++ name_moved start (whole - length ts) w ∷ []) us ≡ o
    → names_from start whole (suc n) found ts ≡ o
unfolding names_from
next_read start whole n found ts w us o e h = rw e h

names_read : (start : Loc) (whole n : ℕ) (found : List Name) (first : List ℕ) (more : List (List ℕ))
    (ts rest : List ℕ) → length ts ≤ n → length ts ≤ whole → AllByRecursion (λ n. is_name n ≡ true) (first ∷ more)
    → ts ≡ names_text (first ∷ more) ++ rest
    → names_from start whole n found ts ≡ Some (found ++ names_at start (whole - length ts) (first ∷ more), rest)
names_read start whole zero found w [] ts rest few fits fine e =
    let l : length ts ≡ length w + suc (length rest) = ap length (e ∙ append_assoc w (41 ∷ []) rest)
    ∙ length-append w (41 ∷ rest) in absurd (omega arith)
names_read start whole zero found w (v ∷ more) ts rest few fits fine e =
    let l : length ts ≡ length w + suc (length (names_text (v ∷ more) ++ rest)) = ap length
    (e ∙ append_assoc w (44 ∷ names_text (v ∷ more)) rest) ∙ length-append w
    (44 ∷ (names_text (v ∷ more) ++ rest)) in absurd (omega arith)
names_read start whole (suc n) found w [] ts rest few fits fine e =
    last_read start whole n found ts w rest (ap name_in (e ∙ append_assoc w (41 ∷ []) rest) ∙ name_read w
    (41 ∷ rest) fine.0 refl)
names_read start whole (suc n) found w (v ∷ more) ts rest few fits fine e =
    let us = names_text (v ∷ more) ++ rest in
    let is : ts ≡ w ++ 44 ∷ us = e ∙ append_assoc w (44 ∷ names_text (v ∷ more)) rest in
    let l : length ts ≡ length w + suc (length us) = ap length is ∙ length-append w (44 ∷ us) in
    let at : whole - length us ≡ (whole - length ts) + length w + 1 = omega arith in
    next_read start whole n found ts w us _ (ap name_in is ∙ name_read w (44 ∷ us) fine.0 refl)
    (names_read start whole n (found ++ name_moved start (whole - length ts) w ∷ []) v more us rest (omega arith)
    (omega arith) fine.1 refl
    ∙ ap (λ (k : ℕ). Some (
      (found ++ name_moved start (whole - length ts) w ∷ []) ++ names_at start k (v ∷ more),
      rest,
    )) at
    ∙ ap (λ (x : List Name). Some (x, rest)) (append_assoc found (name_moved start (whole - length ts) w ∷ [])
    (names_at start ((whole - length ts) + length w + 1) (v ∷ more))))

all_names_took : (start : Loc) (whole : ℕ) (ts : List ℕ) (p : Names) → length ts ≤ whole
    → names_in start whole ts ≡ Some p → NamesTook start (whole - length ts) [] ts p.0 p.1
all_names_took start whole ts p fits e = names_took start whole (length ts) [] ts p fits e

-- the names of a clause are not none
first_of : (names : List (List ℕ)) → AreNames names → (first : List ℕ) × (more : List (List ℕ)) × (names ≡ first ∷ more)
first_of [] h = absurd (h.0 refl)
first_of (first ∷ more) h = (first, more, refl)

all_names_read : (start : Loc) (whole : ℕ) (names : List (List ℕ)) (ts rest : List ℕ) → length ts ≤ whole
    → AreNames names → ts ≡ names_text names ++ rest → names_in start whole ts ≡ Some
    (names_at start (whole - length ts) names, rest)
all_names_read start whole [] ts rest fits fine e = absurd (fine.0 refl)
all_names_read start whole (w ∷ more) ts rest fits fine e = names_read start whole (length ts) [] w more ts rest
    (omega arith) fits fine.1 e

-- ---- clauses

abbrev Pairs : Type 0
Pairs = List (Join × Name)

record ClauseTook (start : Loc) (before : ℕ) (ts : List ℕ) (pairs : Pairs) (rest : List ℕ) : Type 0 where
  pub clause : Clause
  pub parts : ts ≡ clause_text clause ++ rest
  pub fine : IsFine clause
  pub pairs_are : pairs ≡ reductions_at start before clause

cons_not_nil : (w : List ℕ) (ws : List (List ℕ)) → w ∷ ws ≡ [] → ⊥
cons_not_nil w ws e = cc

module _ (start : Loc) (whole : ℕ) where
  reduction_took : (ts us : List ℕ) (p : Pairs × List ℕ) → length ts ≤ whole → ts ≡ codes "reduction(" ++ us
      → reduction_at start whole us ≡ Some p → ClauseTook start (whole - length ts) ts p.0 p.1
  unfolding reduction_at
  reduction_took ts us p fits e h =
      let j = bind_some (join_at us) (λ j. names_in start whole j.1 >>= λ names. Some
      (joined_names j.0 names.0, names.1)) p h in
      let names = bind_some (names_in start whole j.0.1) (λ names. Some (joined_names j.0.0 names.0, names.1)) p j.2 in
      let signed : us ≡ (sign j.0.0 ++ 58 ∷ []) ++ j.0.1 = join_took us j.0 j.1 in
      let is : ts ≡ opening j.0.0 ++ j.0.1 = e ∙ ap (λ (x : List ℕ). codes "reduction(" ++ x) signed in
      let l : length ts ≡ length (opening j.0.0) + length j.0.1 = ap length is ∙ length-append (opening j.0.0) j.0.1 in
      let at : whole - length j.0.1 ≡ (whole - length ts) + length (opening j.0.0) = omega arith in
      let t = all_names_took start whole j.0.1 names.0 (omega arith) names.1 in
      let q : (joined_names j.0.0 names.0.0, names.0.1) ≡ p = some_is _ p names.2 in
      record {
        clause = Reduction j.0.0 (t.first ∷ t.more);
        parts = is ∙ ap (λ (x : List ℕ). opening j.0.0 ++ x) t.parts ∙ sym
            (append_assoc (opening j.0.0) (names_text (t.first ∷ t.more)) names.0.1)
            ∙ ap (λ (x : Pairs × List ℕ). (opening j.0.0 ++ names_text (t.first ∷ t.more)) ++ x.1) q;
        fine = (cons_not_nil t.first t.more, t.fine);
        pairs_are = sym (ap (λ (x : Pairs × List ℕ). x.0) q) ∙ ap (joined_names j.0.0) t.all_is ∙ ap
            (λ (k : ℕ). joined_names j.0.0 (names_at start k (t.first ∷ t.more))) at;
      }

  private_took : (ts us : List ℕ) (p : Pairs × List ℕ) → length ts ≤ whole → ts ≡ codes "private(" ++ us
      → private_at start whole us ≡ Some p → ClauseTook start (whole - length ts) ts p.0 p.1
  unfolding private_at
  private_took ts us p fits e h =
      let names = bind_some (names_in start whole us) (λ names. Some ([], names.1)) p h in
      let l : length ts ≡ length (codes "private(") + length us = ap length e ∙ length-append (codes "private(") us in
      let t = all_names_took start whole us names.0 (omega arith) names.1 in
      let q : ([], names.0.1) ≡ p = some_is _ p names.2 in
      record {
        clause = Private (t.first ∷ t.more);
        parts = e ∙ ap (λ (x : List ℕ). codes "private(" ++ x) t.parts ∙ ap
            (λ (x : Pairs × List ℕ). codes "private(" ++ (names_text (t.first ∷ t.more) ++ x.1)) q;
        fine = (cons_not_nil t.first t.more, t.fine);
        pairs_are = sym (ap (λ (x : Pairs × List ℕ). x.0) q);
      }

  fixed : (c : Clause) (ts us : List ℕ) (p : Pairs × List ℕ) → IsFine c → reductions_at start
      (whole - length ts) c ≡ [] → ts ≡ clause_text c ++ us → Some ([], us) ≡ Some p → ClauseTook start
      (whole - length ts) ts p.0 p.1
  fixed c ts us p fine none e h =
      let q : ([], us) ≡ p = some_is _ p h in
      record {
        clause = c;
        parts = e ∙ ap (λ (x : Pairs × List ℕ). clause_text c ++ x.1) q;
        fine = fine;
        pairs_are =
            sym (ap (λ (x : Pairs × List ℕ). x.0) q) ∙ sym none;
      }

  reduction_by : (ts : List ℕ) (p : Pairs × List ℕ) (o : Option (List ℕ)) → length ts ≤ whole → behind_text
      (codes "reduction(") ts ≡ o → by_reduction start whole o ≡ Some p → ClauseTook start
      (whole - length ts) ts p.0 p.1
  reduction_by ts p None fits e h = absurd cc
  reduction_by ts p (Some us) fits e h = reduction_took ts us p fits (text_took (codes "reduction(") ts us e) h

  private_by : (ts : List ℕ) (p : Pairs × List ℕ) (o : Option (List ℕ)) → length ts ≤ whole → behind_text
      (codes "private(") ts ≡ o → by_private start whole ts o ≡ Some p → ClauseTook start (whole - length ts) ts p.0 p.1
  private_by ts p (Some us) fits e h = private_took ts us p fits (text_took (codes "private(") ts us e) h
  private_by ts p None fits e h = reduction_by ts p (behind_text (codes "reduction(") ts) fits refl h

  named_took : (ts : List ℕ) (p : Pairs × List ℕ) → length ts ≤ whole → named_at start whole ts ≡ Some p
      → ClauseTook start (whole - length ts) ts p.0 p.1
  unfolding named_at
  named_took ts p fits h = private_by ts p (behind_text (codes "private(") ts) fits refl h

  default_by : (ts : List ℕ) (p : Pairs × List ℕ) (o : Option (List ℕ)) → length ts ≤ whole → behind_text
      (codes "default(shared)") ts ≡ o → by_default start whole ts o ≡ Some p → ClauseTook start
      (whole - length ts) ts p.0 p.1
  default_by ts p (Some us) fits e h = fixed Default ts us p tt refl (text_took (codes "default(shared)") ts us e) h
  default_by ts p None fits e h = named_took ts p fits h

  schedule_by : (ts : List ℕ) (p : Pairs × List ℕ) (o : Option (List ℕ)) → length ts ≤ whole → behind_text
      (codes "schedule(static)") ts ≡ o → by_schedule start whole ts o ≡ Some p → ClauseTook start
      (whole - length ts) ts p.0 p.1
  schedule_by ts p (Some us) fits e h = fixed Schedule ts us p tt refl (text_took (codes "schedule(static)") ts us e) h
  schedule_by ts p None fits e h = default_by ts p (behind_text (codes "default(shared)") ts) fits refl h

  clause_took : (ts : List ℕ) (p : Pairs × List ℕ) → length ts ≤ whole → clause_at start whole ts ≡ Some p
      → ClauseTook start (whole - length ts) ts p.0 p.1
  unfolding clause_at
  clause_took ts p fits h = schedule_by ts p (behind_text (codes "schedule(static)") ts) fits refl h

  -- what a clause is read as
  as_schedule : (us : List ℕ) → clause_at start whole (codes "schedule(static)" ++ us) ≡ Some ([], us)
  unfolding clause_at behind_text
  as_schedule us = refl

  as_default : (us : List ℕ) → clause_at start whole (codes "default(shared)" ++ us) ≡ Some ([], us)
  unfolding clause_at behind_text
  as_default us = refl

  as_private : (us : List ℕ) → clause_at start whole (codes "private(" ++ us) ≡ private_at start whole us
  unfolding clause_at named_at behind_text
  as_private us = refl

  as_reduction : (us : List ℕ) → clause_at start whole (codes "reduction(" ++ us) ≡ reduction_at start whole us
  unfolding clause_at named_at behind_text
  as_reduction us = refl

  private_read : (names : List (List ℕ)) (us rest : List ℕ) → length us ≤ whole → AreNames names
      → us ≡ names_text names ++ rest → private_at start whole us ≡ Some ([], rest)
  unfolding private_at
  private_read names us rest fits fine e =
      seq (names_in start whole us) (λ names. Some ([], names.1)) (names_at start (whole - length us) names, rest)
      (Some ([], rest)) (all_names_read start whole names us rest fits fine e) refl

  reduction_read : (j : Join) (names : List (List ℕ)) (us rest : List ℕ) → length us ≤ whole → AreNames names
      → us ≡ names_text names ++ rest → reduction_at start whole ((sign j ++ 58 ∷ []) ++ us) ≡ Some
      (joined_names j (names_at start (whole - length us) names), rest)
  unfolding reduction_at
  reduction_read j names us rest fits fine e =
      seq (join_at ((sign j ++ 58 ∷ []) ++ us)) (λ j. names_in start whole j.1 >>= λ names. Some
      (joined_names j.0 names.0, names.1)) (j, us) _ (join_read j us)
      (seq (names_in start whole us) (λ names. Some (joined_names j names.0, names.1))
      (names_at start (whole - length us) names, rest) _
      (all_names_read start whole names us rest fits fine e) refl)

  clause_read : (c : Clause) (ts rest : List ℕ) → length ts ≤ whole → IsFine c → ts ≡ clause_text c ++ rest
      → clause_at start whole ts ≡ Some (reductions_at start (whole - length ts) c, rest)
  clause_read Schedule ts rest fits fine e = ap (clause_at start whole) e ∙ as_schedule rest
  clause_read Default ts rest fits fine e = ap (clause_at start whole) e ∙ as_default rest
  clause_read (Private names) ts rest fits fine e =
      let us = names_text names ++ rest in
      let is : ts ≡ codes "private(" ++ us = e in
      let l : length ts ≡ length (codes "private(") + length us = ap length is ∙ length-append (codes "private(") us in
      ap (clause_at start whole) is ∙ as_private us ∙ private_read names us rest (omega arith) fine refl
  clause_read (Reduction j names) ts rest fits fine e =
      let us = names_text names ++ rest in
      let is : ts ≡ opening j ++ us = e ∙ append_assoc (opening j) (names_text names) rest in
      let l : length ts ≡ length (opening j) + length us = ap length is ∙ length-append (opening j) us in
      let at : whole - length us ≡ (whole - length ts) + length (opening j) = omega arith in
      ap (clause_at start whole) is ∙ as_reduction ((sign j ++ 58 ∷ []) ++ us) ∙ reduction_read j names us rest
      (omega arith) fine refl
      ∙ ap (λ (k : ℕ). Some (joined_names j (names_at start k names), rest)) at

  -- ---- all clauses

  abbrev AreApartAndFine : List (List ℕ × Clause) → Type 0
  AreApartAndFine clauses = AllByRecursion (λ c. AreSomeBlanks c.0 × IsFine c.1) clauses

  record ClausesTook (before : ℕ) (found : Pairs) (ts : List ℕ) (all : Pairs) : Type 0 where
    pub clauses : List (List ℕ × Clause)
    pub parts : ts ≡ clauses_text clauses
    pub fine : AreApartAndFine clauses
    pub all_is : all ≡ found ++ all_reductions start before clauses

  no_clause : (before : ℕ) (found : Pairs) (ts : List ℕ) (all : Pairs) → eqb (length ts) 0 ≡ true
      → Some found ≡ Some all → ClausesTook before found ts all
  no_clause before found ts all e h =
      record {
        clauses = [];
        parts = nil_from_length ts (eqb-true (length ts) 0 e);
        fine = tt;
        all_is = sym
            (some_is found all h) ∙ sym (append-nil found);
      }

  one_clause : (found : Pairs) (ts us : List ℕ) (bs : List ℕ) (p : Pairs × List ℕ) (all : Pairs) → length ts ≤ whole
      → ts ≡ bs ++ us → AreSomeBlanks bs → ClauseTook start (whole - length us) us p.0 p.1
      → ClausesTook (whole - length p.1) (found ++ p.0) p.1 all → ClausesTook (whole - length ts) found ts all
  one_clause found ts us bs p all fits e h c t =
      let l : length ts ≡ length bs + length us = ap length e ∙ length-append bs us in
      let m : length us ≡ length (clause_text c.clause) + length p.1 = ap length c.parts ∙ length-append
      (clause_text c.clause) p.1 in
      let at : whole - length us ≡ (whole - length ts) + length bs = omega arith in
      let behind : whole - length p.1 ≡ (whole - length ts) + length bs + length (clause_text c.clause) = omega arith in
      record {
        clauses = (bs, c.clause) ∷ t.clauses;
        parts = e ∙ ap (λ (x : List ℕ). bs ++ x) (c.parts ∙ ap (λ (x : List ℕ). clause_text c.clause ++ x) t.parts);
        fine = ((h, c.fine), t.fine);
        all_is = t.all_is ∙ append_assoc found p.0 (all_reductions start (whole - length p.1) t.clauses)
            ∙ ap (λ (x : Pairs). found ++ (x ++ all_reductions start (whole - length p.1) t.clauses))
            (c.pairs_are ∙ ap (λ (k : ℕ). reductions_at start k c.clause) at)
            ∙ ap (λ (k : ℕ). found ++ (reductions_at start
            ((whole - length ts) + length bs) c.clause ++ all_reductions start k t.clauses)) behind;
      }

  more_by : (n : ℕ) (found : Pairs) (ts : List ℕ) (all : Pairs) (b : Bool) → length ts ≤ whole → eqb (length ts) 0 ≡ b
      → ((f : Pairs) (us : List ℕ) → length us ≤ whole → clauses_from start whole n f us ≡ Some all → ClausesTook
      (whole - length us) f us all)
      → cond b (Some found) (spaced_clause start whole ts >>= λ c. clauses_from start whole n
      (found ++ c.0) c.1) ≡ Some all → ClausesTook (whole - length ts) found ts all
  unfolding spaced_clause
  more_by n found ts all true fits e again h = no_clause (whole - length ts) found ts all e h
  more_by n found ts all false fits e again h =
      let c = bind_some (behind_blanks ts >>= clause_at start whole)
      (λ c. clauses_from start whole n (found ++ c.0) c.1) all h in
      let us = bind_some (behind_blanks ts) (clause_at start whole) c.0 c.1 in
      let s = blanks_took ts us.0 us.1 in
      let l : length ts ≡ length s.0 + length us.0 = ap length s.1 ∙ length-append s.0 us.0 in
      let t = clause_took us.0 c.0 (omega arith) us.2 in
      let m : length us.0 ≡ length (clause_text t.clause) + length c.0.1 = ap length t.parts ∙ length-append
      (clause_text t.clause) c.0.1 in
      one_clause found ts us.0 s.0 c.0 all fits s.1 s.2 t (again (found ++ c.0.0) c.0.1 (omega arith) c.2)

  clauses_took : (n : ℕ) (found : Pairs) (ts : List ℕ) (all : Pairs) → length ts ≤ whole
      → clauses_from start whole n found ts ≡ Some all → ClausesTook (whole - length ts) found ts all
  unfolding clauses_from
  clauses_took zero found ts all fits e = let t = chosen_some (eqb (length ts) 0) (Some found) all e in
      no_clause (whole - length ts) found ts all t.0 t.1
  clauses_took (suc n) found ts all fits e = more_by n found ts all (eqb (length ts) 0) fits refl
      (λ f us fits' e'. clauses_took n f us all fits' e') e

  -- a clause begins with no blank
  clause_stays : (c : Clause) (rest : List ℕ) → after_blanks (clause_text c ++ rest) ≡ clause_text c ++ rest
  clause_stays (Reduction j names) rest = refl
  clause_stays (Private names) rest = refl
  clause_stays Schedule rest = refl
  clause_stays Default rest = refl

  end_read : (n : ℕ) (found : Pairs) (ts : List ℕ) → ts ≡ [] → clauses_from start whole n found ts ≡ Some found
  unfolding clauses_from
  end_read zero found ts e = ap (clauses_from start whole zero found) e
  end_read (suc n) found ts e = ap (clauses_from start whole (suc n) found) e

  turn_read : (n : ℕ) (found : Pairs) (ts : List ℕ) (p : Pairs × List ℕ) (o : Option Pairs) → eqb
      (length ts) 0 ≡ false → spaced_clause start whole ts ≡ Some p → clauses_from start whole n
      (found ++ p.0) p.1 ≡ o → clauses_from start whole (suc n) found ts ≡ o
  unfolding clauses_from
  turn_read n found ts p o e s h = rw (e, s) h

  spaced_read : (bs us : List ℕ) (p : Pairs × List ℕ) → AreSomeBlanks bs → after_blanks us ≡ us
      → clause_at start whole us ≡ Some p → spaced_clause start whole (bs ++ us) ≡ Some p
  unfolding spaced_clause
  spaced_read bs us p h e c = seq (behind_blanks (bs ++ us)) (clause_at start whole) us (Some p)
      (blanks_read bs us h ∙ ap (λ (x : List ℕ). Some x) e) c

  some_bytes : (n : ℕ) → 0 < n → eqb n 0 ≡ false
  some_bytes n h = by (eqb n 0) refl
    where
      by : (t : Bool) → eqb n 0 ≡ t → t ≡ false
      by true e = let z : n ≡ 0 = eqb-true n 0 e in absurd (omega arith)
      by false e = refl

  clauses_read : (n : ℕ) (found : Pairs) (clauses : List (List ℕ × Clause)) (ts : List ℕ) → length ts ≤ n
      → length ts ≤ whole → AreApartAndFine clauses → ts ≡ clauses_text clauses
      → clauses_from start whole n found ts ≡ Some (found ++ all_reductions start (whole - length ts) clauses)
  clauses_read n found [] ts few fits fine e = end_read n found ts e ∙ ap (λ (x : Pairs). Some x)
      (sym (append-nil found))
  clauses_read zero found (c ∷ cs) ts few fits fine e =
      let l : length ts ≡ length c.0 + length (clause_text c.1 ++ clauses_text cs) = ap length e ∙ length-append c.0
      (clause_text c.1 ++ clauses_text cs) in
      let some : 0 < length c.0 = fine.0.0.0 in absurd (omega arith)
  clauses_read (suc n) found (c ∷ cs) ts few fits fine e =
      let vs = clauses_text cs in
      let us = clause_text c.1 ++ vs in
      let l : length ts ≡ length c.0 + length us = ap length e ∙ length-append c.0 us in
      let m : length us ≡ length (clause_text c.1) + length vs = length-append (clause_text c.1) vs in
      let some : 0 < length c.0 = fine.0.0.0 in
      let at : whole - length us ≡ (whole - length ts) + length c.0 = omega arith in
      let behind : whole - length vs ≡ (whole - length ts) + length c.0 + length (clause_text c.1) = omega arith in
      let pairs = reductions_at start (whole - length us) c.1 in
      turn_read n found ts (pairs, vs) _ (some_bytes (length ts) (omega arith))
      (ap (spaced_clause start whole) e ∙ spaced_read c.0 us (pairs, vs) fine.0.0 (clause_stays c.1 vs)
      (clause_read c.1 us vs (omega arith) fine.0.1 refl))
      (clauses_read n (found ++ pairs) cs vs (omega arith) (omega arith) fine.1 refl
      ∙ ap (λ (x : Pairs). Some x) (append_assoc found pairs (all_reductions start (whole - length vs) cs))
      ∙ ap (λ (k : ℕ). Some (found ++ (reductions_at start k c.1 ++ all_reductions start
      (whole - length vs) cs))) at
      ∙ ap (λ (k : ℕ). Some (found ++ (reductions_at start
      ((whole - length ts) + length c.0) c.1 ++ all_reductions start k cs))) behind)

-- ---- directive notes

record HeadTook (ts rest : List ℕ) : Type 0 where
  pub front : List ℕ
  pub parts : ts ≡ front ++ rest
  pub head : IsDirectiveHead front

six : (a b c d e f : List ℕ) → a ++ (b ++ (c ++ (d ++ (e ++ f)))) ≡ (a ++ (b ++ (c ++ (d ++ e)))) ++ f
six a b c d e f =
    sym (append_assoc a (b ++ (c ++ (d ++ e))) f ∙ ap (λ (x : List ℕ). a ++ x) (append_assoc b (c ++ (d ++ e)) f
    ∙ ap (λ (x : List ℕ). b ++ x) (append_assoc c (d ++ e) f ∙ ap (λ (x : List ℕ). c ++ x) (append_assoc d e f))))

seven : (a b c d e f g : List ℕ) → a ++ (b ++ (c ++ (d ++ (e ++ (f ++ g))))) ≡ (a ++ (b ++ (c ++ (d ++ (e ++ f))))) ++ g
seven a b c d e f g = six a b c d e (f ++ g) ∙ sym (append_assoc (a ++ (b ++ (c ++ (d ++ e)))) f g) ∙ ap
    (λ (x : List ℕ). x ++ g) (sym (six a b c d e f))

head_took : (ts rest : List ℕ) → behind_directive ts ≡ Some rest → HeadTook ts rest
unfolding behind_directive
head_took ts rest e =
    let a = bind_some (behind_byte 35 ts) (λ a. behind_text (codes "omp")
    (after_blanks a) >>= λ b. behind_blanks b >>= λ c. behind_text
    (codes "parallel") c >>= λ d. behind_blanks d >>= λ e. behind_text (codes "for") e) rest e in
    let b = bind_some (behind_text (codes "omp") (after_blanks a.0))
    (λ b. behind_blanks b >>= λ c. behind_text (codes "parallel") c >>= λ d. behind_blanks d >>= λ e. behind_text
    (codes "for") e) rest a.2 in
    let c = bind_some (behind_blanks b.0) (λ c. behind_text
    (codes "parallel") c >>= λ d. behind_blanks d >>= λ e. behind_text (codes "for") e) rest b.2 in
    let d = bind_some (behind_text (codes "parallel") c.0) (λ d. behind_blanks d >>= λ e. behind_text
    (codes "for") e) rest c.2 in
    let f = bind_some (behind_blanks d.0) (λ e. behind_text (codes "for") e) rest d.2 in
    let s = split_blanks a.0 in
    let first = byte_took 35 ts a.0 a.1 in
    let second = text_took (codes "omp") (after_blanks a.0) b.0 b.1 in
    let third = blanks_took b.0 c.0 c.1 in
    let fourth = text_took (codes "parallel") c.0 d.0 d.1 in
    let fifth = blanks_took d.0 f.0 f.1 in
    let sixth = text_took (codes "for") f.0 rest f.2 in
    let all : a.0 ≡ s.0 ++ (codes "omp" ++ (third.0 ++ (codes "parallel" ++ (fifth.0 ++ (codes "for" ++ rest))))) =
    s.1 ∙ ap (λ (x : List ℕ). s.0 ++ x) (second ∙ ap (λ (x : List ℕ). codes "omp" ++ x)
    (third.1 ∙ ap (λ (x : List ℕ). third.0 ++ x) (fourth
    ∙ ap (λ (x : List ℕ). codes "parallel" ++ x) (fifth.1 ∙ ap (λ (x : List ℕ). fifth.0 ++ x) sixth)))) in
    record {
      front = 35 ∷ (s.0 ++ (codes "omp" ++ (third.0 ++ (codes "parallel" ++ (fifth.0 ++ codes "for")))));
      parts = first ∙ ap (λ (x : List ℕ). 35 ∷ x) (all ∙ seven s.0 (codes "omp") third.0 (codes "parallel") fifth.0
          (codes "for") rest);
      head = record {
        first = s.0;
        second = third.0;
        third = fifth.0;
        text_is = refl;
        blanks =
            (s.2, third.2, fifth.2);
      };
    }

head_read : (front rest : List ℕ) → IsDirectiveHead front → behind_directive (front ++ rest) ≡ Some rest
unfolding behind_directive
head_read front rest h =
    let end = codes "for" ++ rest in
    let a = h.first ++ (codes "omp" ++ (h.second ++ (codes "parallel" ++ (h.third ++ end)))) in
    let start : front ++ rest ≡ 35 ∷ a = ap (λ (x : List ℕ). x ++ rest) h.text_is ∙ ap (λ (x : List ℕ). 35 ∷ x)
    (sym (seven h.first (codes "omp") h.second (codes "parallel") h.third (codes "for") rest)) in
    rw (
      start,
      skip h.first (codes "omp" ++ (h.second ++ (codes "parallel" ++ (h.third ++ end)))) h.blanks.0,
      text_read (codes "omp") (h.second ++ (codes "parallel" ++ (h.third ++ end))),
      blanks_read h.second
          (codes "parallel" ++ (h.third ++ end)) h.blanks.1,
      text_read (codes "parallel") (h.third ++ end),
      blanks_read h.third end h.blanks.2,
    ) (text_read (codes "for") rest)

offset : (text front rest : List ℕ) → text ≡ front ++ rest → length text - length rest ≡ length front
offset text front rest e = let l : length text ≡ length front + length rest = ap length e
    ∙ length-append front rest in omega arith

pub reductions_took : (note : Note) (pairs : Pairs) → reductions_of note ≡ Some pairs → AreReductions note pairs
unfolding reductions_of
reductions_took note pairs e =
    let from = bind_some (behind_directive note.text) (λ from. clauses_from note.loc (length note.text)
    (length from) [] from) pairs e in
    let head = head_took note.text from.0 from.1 in
    let l : length note.text ≡ length head.front + length from.0 = ap length head.parts
    ∙ length-append head.front from.0 in
    let t = clauses_took note.loc (length note.text) (length from.0) [] from.0 pairs (omega arith) from.2 in
    record {
      front = head.front;
      clauses = t.clauses;
      text_is = head.parts ∙ ap (λ (x : List ℕ). head.front ++ x) t.parts;
      head = head.head;
      apart = t.fine;
      reductions_are = t.all_is ∙ ap (λ (k : ℕ). all_reductions note.loc k t.clauses)
          (offset note.text head.front from.0 head.parts);
    }

pub reductions_read : (note : Note) (pairs : Pairs) → AreReductions note pairs → reductions_of note ≡ Some pairs
unfolding reductions_of
reductions_read note pairs h =
    let from = clauses_text h.clauses in
    let l : length note.text ≡ length h.front + length from = ap length h.text_is ∙ length-append h.front from in
    seq (behind_directive note.text) (λ from. clauses_from note.loc (length note.text) (length from) [] from) from
    (Some pairs)
    (ap behind_directive h.text_is ∙ head_read h.front from h.head)
    (clauses_read note.loc (length note.text) (length from) [] h.clauses from (omega arith)
    (omega arith) h.apart refl
    ∙ ap (λ (k : ℕ). Some (all_reductions note.loc k h.clauses)) (offset note.text h.front from h.text_is) ∙ ap
    (λ (x : Pairs). Some x) (sym h.reductions_are))

pub one_reading : (note : Note) (p q : Pairs) → AreReductions note p → AreReductions note q → p ≡ q
one_reading note p q h g = some_is p q (sym (reductions_read note p h) ∙ reductions_read note q g)
