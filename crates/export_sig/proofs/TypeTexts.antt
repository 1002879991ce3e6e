-- A text is read as a type exactly where it stands for one.
use Rattle.std.proofs.Common.{◌≡◌, ℕ, zero, suc, Bool, true, false, cond, not, ◌&&◌, ◌||◌, eqb, List, []}
use Rattle.std.proofs.Common.{◌∷◌, ◌++◌, length, take, drop, Option, Some, None, refl, sym, ap, subst, ◌∙◌}
use Rattle.std.proofs.Common.{append_assoc, arith, inl, inr, ◌⊎◌}
use Rattle.std.specs.Prelude.{codes}
use Rattle.std.specs.List.{list_all}
use Rattle.std.specs.Str.{bytes_eq}
use Rattle.std.proofs.lemmas.Bool.{eqb-true}
use Rattle.std.proofs.lemmas.List.{append-nil, nil_from_length, take-append-drop, take_at, drop_at}
use Rattle.krn_base.specs.declared.kind.Kind.{Kind}
use Rattle.krn_base.specs.declared.kind.Kind.TheVariants.{Int64, Bool as Truth}
use Rattle.krn_base.specs.declared.kind.ParamType.{ParamType}
use Rattle.krn_base.specs.declared.kind.ParamType.TheVariants.{Scalar, Flat, Strided}
use Rattle.export_sig.specs.Blanks.{is_blank, solid, after_blanks}
use Rattle.export_sig.specs.Types.{IsKind, IsRank, chained, listed, bracketed, IsSpelled, IsTypeText}
use Rattle.export_sig.specs.Reading.{◌>>=◌, is_of_word, word_len, kind_of, flat_rank, strided_rank, strided_of}
use Rattle.export_sig.specs.Reading.{array_of, param_of, is_end, goes_inside, gathered, typed, bare_type, type_at}
use Rattle.export_sig.proofs.Tools.{bind_some, some_is, chosen_some, chosen_or, both_true, either_true, text_is}
use Rattle.export_sig.proofs.WordTexts.{split_blanks, skip, stays, word_at, word_ends, blank_ends}

-- ---- the word

kind_found : (w : List ℕ) (k : Kind) → (bytes_eq w (codes "int") ≡ true) ⊎ (bytes_eq w (codes "int64") ≡ true)
    → Int64 ≡ k → IsKind k w
kind_found w k (inl h) e = subst (λ (x : Kind). IsKind x w) e (inl (text_is w (codes "int") h))
kind_found w k (inr h) e = subst (λ (x : Kind). IsKind x w) e (inr (text_is w (codes "int64") h))

truth_found : (w : List ℕ) (k : Kind) → (bytes_eq w (codes "bool") ≡ true) × (Truth ≡ k) → IsKind k w
truth_found w k h = subst (λ (x : Kind). IsKind x w) h.1 (text_is w (codes "bool") h.0)

truth_by : (w : List ℕ) (k : Kind) → cond (bytes_eq w (codes "bool")) (Some Truth) None ≡ Some k → IsKind k w
truth_by w k e = let t = chosen_some (bytes_eq w (codes "bool")) (Some Truth) k e in
    truth_found w k (t.0, some_is Truth k t.1)

kind_by : (w : List ℕ) (k : Kind) → (((bytes_eq w (codes "int") || bytes_eq w (codes "int64")) ≡ true) × (Int64 ≡ k))
    ⊎ (cond (bytes_eq w (codes "bool")) (Some Truth) None ≡ Some k) → IsKind k w
kind_by w k (inl h) = kind_found w k (either_true _ _ h.0) h.1
kind_by w k (inr e) = truth_by w k e

pub kind_took : (w : List ℕ) (k : Kind) → kind_of w ≡ Some k → IsKind k w
unfolding kind_of
kind_took w k e = kind_by w k (chosen_or (bytes_eq w (codes "int") || bytes_eq w (codes "int64")) Int64
    (cond (bytes_eq w (codes "bool")) (Some Truth) None) k e)

pub kind_read : (k : Kind) (w : List ℕ) → IsKind k w → kind_of w ≡ Some k
unfolding kind_of
kind_read Int64 w (inl e) = ap kind_of e
kind_read Int64 w (inr e) = ap kind_of e
kind_read Truth w e = ap kind_of e

-- ---- the brackets

abbrev IsFlat : ℕ → List ℕ → Type 0
IsFlat n own = IsRank n × ((own ≡ chained [] n) ⊎ (own ≡ bracketed (listed (codes ":") n)))

abbrev IsStrided : ℕ → List ℕ → Type 0
IsStrided n own = IsRank n × ((own ≡ chained (codes "::") n) ⊎ (own ≡ bracketed (listed (codes "::") n)))

one_of : (own a b : List ℕ) → (bytes_eq own a ≡ true) ⊎ (bytes_eq own b ≡ true) → (own ≡ a) ⊎ (own ≡ b)
one_of own a b (inl h) = inl (text_is own a h)
one_of own a b (inr h) = inr (text_is own b h)

flat_found : (k n : ℕ) (own : List ℕ) → IsRank k →
    ((bytes_eq own (chained [] k) || bytes_eq own (bracketed (listed (codes ":") k))) ≡ true) × (k ≡ n) → IsFlat n own
flat_found k n own r h = subst (λ (x : ℕ). IsFlat x own) h.1
    (r, one_of own (chained [] k) (bracketed (listed (codes ":") k)) (either_true _ _ h.0))

strided_found : (k n : ℕ) (own : List ℕ) → IsRank k →
    ((bytes_eq own (chained (codes "::") k) || bytes_eq own (bracketed (listed (codes "::") k))) ≡ true) × (k ≡ n)
    → IsStrided n own
strided_found k n own r h = subst (λ (x : ℕ). IsStrided x own) h.1
    (r, one_of own (chained (codes "::") k) (bracketed (listed (codes "::") k)) (either_true _ _ h.0))

rank_one : IsRank 1
rank_one = (omega arith, omega arith)

rank_two : IsRank 2
rank_two = (omega arith, omega arith)

rank_three : IsRank 3
rank_three = (omega arith, omega arith)

rank_four : IsRank 4
rank_four = (omega arith, omega arith)

-- one of four ranks, by a test each
module _ (P : ℕ → Type 0) (n : ℕ) (a b c d : Bool)
    (one : (a ≡ true) × (1 ≡ n) → P n) (two : (b ≡ true) × (2 ≡ n) → P n) (three : (c ≡ true) × (3 ≡ n) → P n)
    (four : (d ≡ true) × (4 ≡ n) → P n) where
  by_four : ((d ≡ true) × (4 ≡ n)) ⊎ (None ≡ Some n) → P n
  by_four (inl h) = four h
  by_four (inr e) = absurd cc

  by_three : ((c ≡ true) × (3 ≡ n)) ⊎ (cond d (Some 4) None ≡ Some n) → P n
  by_three (inl h) = three h
  by_three (inr e) = by_four (chosen_or d 4 None n e)

  by_two : ((b ≡ true) × (2 ≡ n)) ⊎ (cond c (Some 3) (cond d (Some 4) None) ≡ Some n) → P n
  by_two (inl h) = two h
  by_two (inr e) = by_three (chosen_or c 3 (cond d (Some 4) None) n e)

  by_one : ((a ≡ true) × (1 ≡ n)) ⊎ (cond b (Some 2) (cond c (Some 3) (cond d (Some 4) None)) ≡ Some n) → P n
  by_one (inl h) = one h
  by_one (inr e) = by_two (chosen_or b 2 (cond c (Some 3) (cond d (Some 4) None)) n e)

  of_ranks : cond a (Some 1) (cond b (Some 2) (cond c (Some 3) (cond d (Some 4) None))) ≡ Some n → P n
  of_ranks e = by_one (chosen_or a 1 (cond b (Some 2) (cond c (Some 3) (cond d (Some 4) None))) n e)

flat_took : (own : List ℕ) (n : ℕ) → flat_rank own ≡ Some n → IsFlat n own
unfolding flat_rank
flat_took own n e =
    of_ranks (λ (x : ℕ). IsFlat x own) n _ _ _ _ (flat_found 1 n own rank_one) (flat_found 2 n own rank_two)
    (flat_found 3 n own rank_three) (flat_found 4 n own rank_four) e

strided_one : (n : ℕ) (own : List ℕ) → (bytes_eq own (codes "[::]") ≡ true) × (1 ≡ n) → IsStrided n own
strided_one n own h = subst (λ (x : ℕ). IsStrided x own) h.1 (rank_one, inl (text_is own (codes "[::]") h.0))

strided_took : (own : List ℕ) (n : ℕ) → strided_rank own ≡ Some n → IsStrided n own
unfolding strided_rank
strided_took own n e =
    of_ranks (λ (x : ℕ). IsStrided x own) n _ _ _ _ (strided_one n own) (strided_found 2 n own rank_two)
    (strided_found 3 n own rank_three) (strided_found 4 n own rank_four) e

strided_type : (k : Kind) (own w : List ℕ) (t : ParamType) (o : Option ℕ) → IsKind k w → strided_rank own ≡ o
    → strided_of k o ≡ Some t → IsSpelled t w own
strided_type k own w t (Some n) h o_is e = let s = strided_took own n o_is in
    subst (λ (x : ParamType). IsSpelled x w own) (some_is (Strided k n) t e) (h, s.0, s.1)
strided_type k own w t None h o_is e = absurd cc

array_type : (k : Kind) (own w : List ℕ) (t : ParamType) (o : Option ℕ) → IsKind k w → flat_rank own ≡ o
    → array_of k own o ≡ Some t → IsSpelled t w own
array_type k own w t (Some n) h o_is e = let s = flat_took own n o_is in
    subst (λ (x : ParamType). IsSpelled x w own) (some_is (Flat k n) t e) (h, s.0, s.1)
array_type k own w t None h o_is e = strided_type k own w t (strided_rank own) h refl e

type_by : (k : Kind) (own w : List ℕ) (t : ParamType) → IsKind k w → ((eqb (length own) 0 ≡ true) × (Scalar k ≡ t)) ⊎
    (array_of k own (flat_rank own) ≡ Some t) → IsSpelled t w own
type_by k own w t h (inl p) = subst (λ (x : ParamType). IsSpelled x w own) p.1
    (h, nil_from_length own (eqb-true (length own) 0 p.0))
type_by k own w t h (inr e) = array_type k own w t (flat_rank own) h refl e

pub param_took : (k : Kind) (own w : List ℕ) (t : ParamType) → IsKind k w → param_of k own ≡ Some t → IsSpelled t w own
unfolding param_of
param_took k own w t h e = type_by k own w t h (chosen_or (eqb (length own) 0) (Scalar k)
    (array_of k own (flat_rank own)) t e)

-- the kind of a type, and its brackets
abbrev pub kind_in : ParamType → Kind
kind_in (Scalar k) = k
kind_in (Flat k n) = k
kind_in (Strided k n) = k

pub kind_is : (t : ParamType) (w own : List ℕ) → IsSpelled t w own → IsKind (kind_in t) w
kind_is (Scalar k) w own h = h.0
kind_is (Flat k n) w own h = h.0
kind_is (Strided k n) w own h = h.0

-- the brackets of an array close each other, and no comma stands outside them
abbrev closes : Bool → List ℕ → Bool
closes inside [] = not inside
closes inside (b ∷ own) = not (not inside && is_end b) && closes (goes_inside b inside) own

-- what the brackets of a type are like: nothing, or from `[` on
abbrev pub Opens : List ℕ → Type 0
Opens own = (own ≡ []) ⊎ ((more : List ℕ) × (own ≡ 91 ∷ more))

record Own (k : Kind) (t : ParamType) (own : List ℕ) : Type 0 where
  pub read : param_of k own ≡ Some t
  pub closed : closes false own ≡ true
  pub opens : Opens own

flat_own : (k : Kind) (n : ℕ) (own : List ℕ) → IsRank n → (own ≡ chained [] n) ⊎
    (own ≡ bracketed (listed (codes ":") n)) → Own k (Flat k n) own
unfolding param_of flat_rank strided_rank
flat_own k zero own r h = absurd (omega arith)
flat_own k (suc zero) own r (inl e) = record {
  read = ap (param_of k) e;
  closed = ap (closes false) e;
  opens = inr
      (_, e);
}
flat_own k (suc zero) own r (inr e) = record {
  read = ap (param_of k) e;
  closed = ap (closes false) e;
  opens = inr
      (_, e);
}
flat_own k (suc (suc zero)) own r (inl e) = record {
  read = ap (param_of k) e;
  closed = ap (closes false) e;
  opens =
      inr (_, e);
}
flat_own k (suc (suc zero)) own r (inr e) = record {
  read = ap (param_of k) e;
  closed = ap (closes false) e;
  opens =
      inr (_, e);
}
flat_own k (suc (suc (suc zero))) own r (inl e) = record {
  read = ap (param_of k) e;
  closed = ap (closes false) e;
  opens = inr (_, e);
}
flat_own k (suc (suc (suc zero))) own r (inr e) = record {
  read = ap (param_of k) e;
  closed = ap (closes false) e;
  opens = inr (_, e);
}
flat_own k (suc (suc (suc (suc zero)))) own r (inl e) = record {
  read = ap (param_of k) e;
  closed = ap
      (closes false) e;
  opens = inr (_, e);
}
flat_own k (suc (suc (suc (suc zero)))) own r (inr e) = record {
  read = ap (param_of k) e;
  closed = ap
      (closes false) e;
  opens = inr (_, e);
}
flat_own k (suc (suc (suc (suc (suc n))))) own r h = absurd (omega arith)

strided_own : (k : Kind) (n : ℕ) (own : List ℕ) → IsRank n → (own ≡ chained (codes "::") n) ⊎
    (own ≡ bracketed (listed (codes "::") n)) → Own k (Strided k n) own
unfolding param_of flat_rank strided_rank
strided_own k zero own r h = absurd (omega arith)
strided_own k (suc zero) own r (inl e) = record {
  read = ap (param_of k) e;
  closed = ap (closes false) e;
  opens = inr
      (_, e);
}
strided_own k (suc zero) own r (inr e) = record {
  read = ap (param_of k) e;
  closed = ap (closes false) e;
  opens = inr
      (_, e);
}
strided_own k (suc (suc zero)) own r (inl e) = record {
  read = ap (param_of k) e;
  closed = ap (closes false) e;
  opens = inr (_, e);
}
strided_own k (suc (suc zero)) own r (inr e) = record {
  read = ap (param_of k) e;
  closed = ap (closes false) e;
  opens = inr (_, e);
}
strided_own k (suc (suc (suc zero))) own r (inl e) = record {
  read = ap (param_of k) e;
  closed = ap (closes false) e;
  opens = inr (_, e);
}
strided_own k (suc (suc (suc zero))) own r (inr e) = record {
  read = ap (param_of k) e;
  closed = ap (closes false) e;
  opens = inr (_, e);
}
strided_own k (suc (suc (suc (suc zero)))) own r (inl e) = record {
  read = ap (param_of k) e;
  closed = ap
      (closes false) e;
  opens = inr (_, e);
}
strided_own k (suc (suc (suc (suc zero)))) own r (inr e) = record {
  read = ap (param_of k) e;
  closed = ap
      (closes false) e;
  opens = inr (_, e);
}
strided_own k (suc (suc (suc (suc (suc n))))) own r h = absurd (omega arith)

own_is : (t : ParamType) (w own : List ℕ) → IsSpelled t w own → Own (kind_in t) t own
unfolding param_of
own_is (Scalar k) w own h = record { read = ap (param_of k) h.1; closed = ap (closes false) h.1; opens = inl h.1 }
own_is (Flat k n) w own h = flat_own k n own h.1 h.2
own_is (Strided k n) w own h = strided_own k n own h.1 h.2

-- ---- the bytes of the brackets

-- a text that begins with the end of a type
pub record Ended (rest : List ℕ) : Type 0 where
  pub byte : ℕ
  pub more : List ℕ
  pub is : rest ≡ byte ∷ more
  pub ends : is_end byte ≡ true

pub record Gathered (found ts own rest : List ℕ) : Type 0 where
  pub tail : List ℕ
  pub parts : ts ≡ tail ++ rest
  pub own_is : own ≡ found ++ solid tail
  pub ended : Ended rest

solid_blank : (b : ℕ) (ts : List ℕ) → is_blank b ≡ true → solid (b ∷ ts) ≡ solid ts
solid_blank b ts e = ap (λ (t : Bool). cond (not t) (b ∷ solid ts) (solid ts)) e

solid_other : (b : ℕ) (ts : List ℕ) → is_blank b ≡ false → solid (b ∷ ts) ≡ b ∷ solid ts
solid_other b ts e = ap (λ (t : Bool). cond (not t) (b ∷ solid ts) (solid ts)) e

gathered_by : (inside : Bool) (found : List ℕ) (b : ℕ) (ts own rest : List ℕ) (blank stops : Bool)
    → is_blank b ≡ blank → (not inside && is_end b) ≡ stops
    → ((i : Bool) (f : List ℕ) → gathered i f ts ≡ Some (own, rest) → Gathered f ts own rest)
    → cond blank (gathered inside found ts) (cond stops (Some (found, b ∷ ts))
    (gathered (goes_inside b inside) (found ++ b ∷ []) ts)) ≡ Some (own, rest) → Gathered found (b ∷ ts) own rest
gathered_by inside found b ts own rest true stops eb es again e =
    let g = again inside found e in
    record {
      tail = b ∷ g.tail;
      parts = ap (λ (us : List ℕ). b ∷ us) g.parts;
      own_is = g.own_is ∙ ap
          (λ (us : List ℕ). found ++ us) (sym (solid_blank b g.tail eb));
      ended = g.ended;
    }
gathered_by inside found b ts own rest false true eb es again e =
    let pair : (found, b ∷ ts) ≡ (own, rest) = some_is _ _ e in
    let end : is_end b ≡ true = (both_true (not inside) (is_end b) es).1 in
    record {
      tail = [];
      parts = ap (λ (p : List ℕ × List ℕ). p.1) pair;
      own_is = sym (ap (λ (p : List ℕ × List ℕ). p.0) pair) ∙ sym (append-nil found);
      ended = record { byte = b; more = ts; is = sym (ap (λ (p : List ℕ × List ℕ). p.1) pair); ends = end };
    }
gathered_by inside found b ts own rest false false eb es again e =
    let g = again (goes_inside b inside) (found ++ b ∷ []) e in
    record {
      tail = b ∷ g.tail;
      parts = ap (λ (us : List ℕ). b ∷ us) g.parts;
      own_is = g.own_is ∙ append_assoc found (b ∷ []) (solid g.tail) ∙ ap (λ (us : List ℕ). found ++ us)
          (sym (solid_other b g.tail eb));
      ended = g.ended;
    }

pub gathered_took : (inside : Bool) (found ts own rest : List ℕ) → gathered inside found ts ≡ Some (own, rest)
    → Gathered found ts own rest
unfolding gathered
gathered_took inside found [] own rest e = absurd cc
gathered_took inside found (b ∷ ts) own rest e =
    gathered_by inside found b ts own rest (is_blank b) (not inside && is_end b) refl refl
    (λ i f. gathered_took i f ts own rest) e

gather_blank : (inside : Bool) (found : List ℕ) (b : ℕ) (ts : List ℕ) (o : Option (List ℕ × List ℕ))
    → is_blank b ≡ true → gathered inside found ts ≡ o → gathered inside found (b ∷ ts) ≡ o
unfolding gathered
gather_blank inside found b ts o e h = rw e h

gather_other : (inside : Bool) (found : List ℕ) (b : ℕ) (ts : List ℕ) (o : Option (List ℕ × List ℕ))
    → is_blank b ≡ false → (not inside && is_end b) ≡ false → gathered (goes_inside b inside)
    (found ++ b ∷ []) ts ≡ o → gathered inside found (b ∷ ts) ≡ o
unfolding gathered
gather_other inside found b ts o e s h = rw (e, s) h

gather_end : (inside : Bool) (found : List ℕ) (b : ℕ) (ts : List ℕ) → is_blank b ≡ false → inside ≡ false
    → is_end b ≡ true → gathered inside found (b ∷ ts) ≡ Some (found, b ∷ ts)
unfolding gathered
gather_end inside found b ts e i s = rw (e, i, s) refl

not_true : (t : Bool) → not t ≡ true → t ≡ false
not_true true e = absurd cc
not_true false e = refl

module _ (c : ℕ) (r : List ℕ) (c_end : is_end c ≡ true) (c_blank : is_blank c ≡ false) where
  gather_by : (inside : Bool) (found : List ℕ) (b : ℕ) (tail : List ℕ) (t : Bool) → is_blank b ≡ t
      → ((i : Bool) (f : List ℕ) → closes i (solid tail) ≡ true → gathered i f (tail ++ c ∷ r) ≡ Some
      (f ++ solid tail, c ∷ r))
      → closes inside (solid (b ∷ tail)) ≡ true → gathered inside found (b ∷ (tail ++ c ∷ r)) ≡ Some
      (found ++ solid (b ∷ tail), c ∷ r)
  gather_by inside found b tail true e again h =
      let s : solid (b ∷ tail) ≡ solid tail = solid_blank b tail e in
      gather_blank inside found b (tail ++ c ∷ r) _ e (again inside found (sym (ap (closes inside) s) ∙ h) ∙ ap
      (λ (us : List ℕ). Some (found ++ us, c ∷ r)) (sym s))
  gather_by inside found b tail false e again h =
      let s : solid (b ∷ tail) ≡ b ∷ solid tail = solid_other b tail e in
      let p = both_true (not (not inside && is_end b)) (closes (goes_inside b inside) (solid tail))
      (sym (ap (closes inside) s) ∙ h) in
      gather_other inside found b (tail ++ c ∷ r) _ e (not_true (not inside && is_end b) p.0)
      (again (goes_inside b inside) (found ++ b ∷ []) p.1 ∙ ap (λ (us : List ℕ). Some (us, c ∷ r))
      (append_assoc found (b ∷ []) (solid tail) ∙ ap (λ (us : List ℕ). found ++ us) (sym s)))

  gather_read : (inside : Bool) (found tail : List ℕ) → closes inside (solid tail) ≡ true → gathered inside found
      (tail ++ c ∷ r) ≡ Some (found ++ solid tail, c ∷ r)
  gather_read inside found [] h = gather_end inside found c r c_blank (not_true inside h) c_end ∙ ap
      (λ (us : List ℕ). Some (us, c ∷ r)) (sym (append-nil found))
  gather_read inside found (b ∷ tail) h = gather_by inside found b tail (is_blank b) refl
      (λ i f. gather_read i f tail) h

-- ---- types

pub record TypeTook (t : ParamType) (ts rest : List ℕ) : Type 0 where
  pub used : List ℕ
  pub parts : ts ≡ used ++ rest
  pub is : IsTypeText t used
  pub ended : Ended rest

typed_some : (o : Option ParamType) (rest : List ℕ) (p : ParamType × List ℕ) → typed o rest ≡ Some p → (o ≡ Some p.0)
    × (rest ≡ p.1)
typed_some None rest p e = absurd cc
typed_some (Some t) rest p e = let q : (t, rest) ≡ p = some_is _ p e in
    (ap (λ (x : ParamType × List ℕ). Some x.0) q, ap (λ (x : ParamType × List ℕ). x.1) q)

pub type_took : (ts : List ℕ) (p : ParamType × List ℕ) → type_at ts ≡ Some p → TypeTook p.0 ts p.1
unfolding type_at bare_type
type_took ts p e =
    let us = after_blanks ts in
    let s = split_blanks ts in
    let k = bind_some (kind_of (take (word_len us) us)) (λ k. gathered false []
    (drop (word_len us) us) >>= λ own. typed (param_of k own.0) own.1) p e in
    let o = bind_some (gathered false [] (drop (word_len us) us)) (λ own. typed (param_of k.0 own.0) own.1) p k.2 in
    let t = typed_some (param_of k.0 o.0.0) o.0.1 p o.2 in
    let g = gathered_took false [] (drop (word_len us) us) o.0.0 o.0.1 o.1 in
    let w = take (word_len us) us in
    let is_us : us ≡ w ++ (g.tail ++ p.1) = sym (take-append-drop (word_len us) us) ∙ ap (λ (x : List ℕ). w ++ x)
    (g.parts ∙ ap (λ (x : List ℕ). g.tail ++ x) t.1) in
    record {
      used = s.0 ++ (w ++ g.tail);
      parts = s.1 ∙ ap (λ (x : List ℕ). s.0 ++ x) (is_us ∙ sym (append_assoc w g.tail p.1)) ∙ sym
          (append_assoc s.0 (w ++ g.tail) p.1);
      is = record {
        blanks = s.0;
        word = w;
        tail = g.tail;
        text_is = refl;
        are_blanks = s.2;
        spelled = param_took k.0
            (solid g.tail) w p.0 (kind_took w k.0 k.1) (sym (ap (param_of k.0) g.own_is) ∙ t.0);
      };
      ended = subst Ended t.1 g.ended;
    }

-- a word of a kind: its bytes are of words, and its first is no blank
record KindWord (w : List ℕ) : Type 0 where
  pub first : ℕ
  pub more : List ℕ
  pub is : w ≡ first ∷ more
  pub blank : is_blank first ≡ false
  pub apart : eqb first 41 ≡ false
  pub all : list_all is_of_word w ≡ true

kind_word : (k : Kind) (w : List ℕ) → IsKind k w → KindWord w
kind_word Int64 w (inl e) = record {
  first = 105;
  more = _;
  is = e;
  blank = refl;
  apart = refl;
  all = ap
      (list_all is_of_word) e;
}
kind_word Int64 w (inr e) = record {
  first = 105;
  more = _;
  is = e;
  blank = refl;
  apart = refl;
  all = ap
      (list_all is_of_word) e;
}
kind_word Truth w e = record {
  first = 98;
  more = _;
  is = e;
  blank = refl;
  apart = refl;
  all = ap
      (list_all is_of_word) e;
}

bracket_first : (b : ℕ) (us : List ℕ) → Opens (b ∷ us) → b ≡ 91
bracket_first b us (inl e) = absurd cc
bracket_first b us (inr h) = let e : b ∷ us ≡ 91 ∷ h.0 = h.1 in cc

stops_by : (b : ℕ) (tail : List ℕ) (t : Bool) → is_blank b ≡ t → Opens (solid (b ∷ tail)) → is_of_word b ≡ false
stops_by b tail true e h = blank_ends b e
stops_by b tail false e h = ap is_of_word (bracket_first b (solid tail) (subst Opens (solid_other b tail e) h))

-- a word ends at its brackets, and at what ends the type where there are none
stops : (tail : List ℕ) (c : ℕ) (r : List ℕ) → Opens (solid tail) → is_of_word c ≡ false → word_len (tail ++ c ∷ r) ≡ 0
stops [] c r h e = word_ends c r e
stops (b ∷ tail) c r h e = word_ends b (tail ++ c ∷ r) (stops_by b tail (is_blank b) refl h)

-- the text of a type from its word on, with what stands behind it
pub type_starts : (t : ParamType) (a rest : List ℕ) → IsTypeText t a → (b : ℕ) × (more : List ℕ) ×
    (after_blanks (a ++ rest) ≡ b ∷ more) × (eqb b 41 ≡ false)
type_starts t a rest h =
    let w = kind_word (kind_in t) h.word (kind_is t h.word (solid h.tail) h.spelled) in (
      w.first,
      w.more ++ (h.tail ++ rest),
      (
          ap (λ (x : List ℕ). after_blanks (x ++ rest)) h.text_is ∙ ap after_blanks
          (append_assoc h.blanks (h.word ++ h.tail) rest)
          ∙ skip h.blanks ((h.word ++ h.tail) ++ rest) h.are_blanks ∙ ap after_blanks (append_assoc h.word h.tail rest)
          ∙ ap (λ (x : List ℕ). after_blanks (x ++ (h.tail ++ rest))) w.is ∙ stays w.first
          (w.more ++ (h.tail ++ rest)) w.blank),
      w.apart,
    )

bare_read : (t : ParamType) (w tail : List ℕ) (c : ℕ) (r : List ℕ) → IsSpelled t w (solid tail) → is_end c ≡ true
    → is_blank c ≡ false → is_of_word c ≡ false → bare_type (w ++ (tail ++ c ∷ r)) ≡ Some (t, c ∷ r)
unfolding bare_type
bare_read t w tail c r h ends blank word =
    let own = own_is t w (solid tail) h in
    let kind = kind_is t w (solid tail) h in
    let n : word_len (w ++ (tail ++ c ∷ r)) ≡ length w = word_at w (tail ++ c ∷ r) (kind_word (kind_in t) w kind).all
    (stops tail c r own.opens word) in
    rw (
      n,
      take_at w (tail ++ c ∷ r) (length w) refl,
      drop_at w (tail ++ c ∷ r) (length w) refl,
      kind_read
          (kind_in t) w kind,
      gather_read c r ends blank false [] tail own.closed,
      own.read,
    ) refl

pub type_read : (t : ParamType) (a : List ℕ) (c : ℕ) (r : List ℕ) → IsTypeText t a → is_end c ≡ true
    → is_blank c ≡ false → is_of_word c ≡ false → type_at (a ++ c ∷ r) ≡ Some (t, c ∷ r)
unfolding type_at
type_read t a c r h ends blank word =
    let w = kind_word (kind_in t) h.word (kind_is t h.word (solid h.tail) h.spelled) in
    let rest = c ∷ r in
    ap bare_type (ap (λ (x : List ℕ). after_blanks (x ++ rest)) h.text_is ∙ ap after_blanks
    (append_assoc h.blanks (h.word ++ h.tail) rest)
    ∙ skip h.blanks ((h.word ++ h.tail) ++ rest) h.are_blanks ∙ ap after_blanks (append_assoc h.word h.tail rest)
    ∙ ap (λ (x : List ℕ). after_blanks (x ++ (h.tail ++ rest))) w.is ∙ stays w.first
    (w.more ++ (h.tail ++ rest)) w.blank
    ∙ ap (λ (x : List ℕ). x ++ (h.tail ++ rest)) (sym w.is))
    ∙ bare_read t h.word h.tail c r h.spelled ends blank word
