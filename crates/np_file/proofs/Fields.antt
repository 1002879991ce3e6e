-- A header is read as what it says, and only as that.
use Rattle.std.proofs.Common.{◌≡◌, ℕ, zero, suc, ◌<◌, Bool, true, false, cond, eqb, leb, List, [], ◌∷◌, ◌++◌, length}
use Rattle.std.proofs.Common.{replicate, Option, Some, None, refl, sym, ap, subst, ◌∙◌, append_assoc, arith, inl, inr}
use Rattle.std.proofs.Common.{◌⊎◌}
use Rattle.std.specs.Prelude.{codes}
use Rattle.std.specs.Str.{bytes_eq}
use Rattle.std.proofs.lemmas.Bool.{eqb-true, leb-true, le-leb}
use Rattle.std.proofs.lemmas.List.{append-nil, length-append, nil_from_length}
use Rattle.std.proofs.lemmas.Slice.Eq.{bytes_eq-Decides}
use Rattle.np_file.specs.Header.{◌▷◌, Heading, Field, arranged, spaced, sign, quoted, number, numbers_after, tuple, key}
use Rattle.np_file.specs.Header.{truth, value, field, closing, ending, fields, IsHeader}
use Rattle.np_file.specs.Header.Field.{Descr, Order, Shape}
use Rattle.np_file.specs.Reading.{◌>>=◌, after_spaces, first_is, sign_at, word_at, quoted_at, number_at, Step}
use Rattle.np_file.specs.Reading.{number_or_end, short_end, by_comma, step_at, by_step, numbers_at, tuple_at}
use Rattle.np_file.specs.Reading.{other_truth, truth_at, descr_at, order_at, shape_at, value_at, field_at, is_line_end}
use Rattle.np_file.specs.Reading.{ended, ends_at, ending_of, fields_at, header_at}
use Rattle.np_file.specs.Reading.Step.{Next, End}
use Rattle.np_file.proofs.Pieces.{bind_some, chosen_some, some_is, both_true, Took, then, split_spaces, skip, skip_all}
use Rattle.np_file.proofs.Pieces.{sign_took, sign_read, other_sign, word_took, word_read, other_word, quoted_took}
use Rattle.np_file.proofs.Pieces.{quoted_read, number_took, Stops, number_read, sign_stops, number_no_sign}

-- a step that gave a value
pub seq : {A B : Type 0} (o : Option A) (f : A → Option B) (x : A) (r : Option B) → o ≡ Some x → f x ≡ r → (o >>= f) ≡ r
seq o f x r e g = ap (λ (p : Option _). p >>= f) e ∙ g

pub regroup : (used a b rest : List ℕ) → used ≡ a ++ b → used ++ rest ≡ a ++ (b ++ rest)
regroup used a b rest e = ap (λ (x : List ℕ). x ++ rest) e ∙ append_assoc a b rest

-- ---- the numbers of a shape, as they are read

abbrev StepTook : ℕ → List ℕ → Step → Type 0
StepTook k ts (End rest) = Took (numbers_after k []) ts rest
StepTook k ts (Next n rest) = Took (sign 44 ▷ number n) ts rest

to_end : (k : ℕ) (ts rest : List ℕ) → Took (sign 44 ▷ sign 41) ts rest → Took (numbers_after k []) ts rest
to_end k ts rest t = record { used = t.used; parts = t.parts; is = inl t.is }

end_took : (k : ℕ) (ts us : List ℕ) (o : Option (List ℕ)) (s : Step) → Took (sign 44) ts us → sign_at 41 us ≡ o →
    number_or_end us o ≡ Some s → StepTook k ts s
end_took k ts us (Some rest) s comma o_is e =
    subst (λ (x : Step). StepTook k ts x) (some_is (End rest) s e)
    (to_end k ts rest (then ts us rest comma (sign_took 41 us rest o_is)))
end_took k ts us None s comma o_is e =
    let b = bind_some (number_at us) (λ n. Some (Next n.0 n.1)) s e in
    subst (λ (x : Step). StepTook k ts x) (some_is (Next b.0.0 b.0.1) s b.2)
    (then ts us b.0.1 comma (number_took us b.0.1 b.0.0 b.1))

short_took : (k : ℕ) (ts : List ℕ) (o : Option (List ℕ)) (s : Step) → sign_at 41 ts ≡ o → short_end k o ≡ Some s →
    StepTook k ts s
short_took k ts None s o_is e = absurd cc
short_took k ts (Some rest) s o_is e =
    let t = chosen_some (leb 2 k) (Some (End rest)) s e in
    let b = sign_took 41 ts rest o_is in
    subst (λ (x : Step). StepTook k ts x) (some_is (End rest) s t.1)
    (record { used = b.used; parts = b.parts; is = inr (leb-true 2 k t.0, b.is) })

comma_took : (k : ℕ) (ts : List ℕ) (o : Option (List ℕ)) (s : Step) → sign_at 44 ts ≡ o → by_comma k ts o ≡ Some s →
    StepTook k ts s
comma_took k ts (Some us) s o_is e = end_took k ts us (sign_at 41 us) s (sign_took 44 ts us o_is) refl e
comma_took k ts None s o_is e = short_took k ts (sign_at 41 ts) s refl e

step_took : (k : ℕ) (ts : List ℕ) (s : Step) → step_at k ts ≡ Some s → StepTook k ts s
unfolding step_at
step_took k ts s e = comma_took k ts (sign_at 44 ts) s refl e

-- the numbers behind those that were found
record More (left : ℕ) (found : List ℕ) (ts ns rest : List ℕ) : Type 0 where
  pub more : List ℕ
  pub all : ns ≡ found ++ more
  pub few : length more < left
  pub took : Took (numbers_after (length found) more) ts rest

one_more : (k n : ℕ) (more ts us rest : List ℕ) → Took (sign 44 ▷ number n) ts us →
    Took (numbers_after (suc k) more) us rest → Took (numbers_after k (n ∷ more)) ts rest
one_more k n more ts us rest a b = record {
  used = a.used ++ b.used;
  parts = a.parts ∙ ap (λ (x : List ℕ). a.used ++ x) b.parts ∙ sym (append_assoc a.used b.used rest);
  is = by a.used a.is;
}
  where
    by : (used : List ℕ) → (sign 44 ▷ number n) used →
        (sign 44 ▷ number n ▷ numbers_after (suc k) more) (used ++ b.used)
    by used (c, d, e, is_c, is_d) = (
      c,
      d ++ b.used,
      ap (λ (x : List ℕ). x ++ b.used) e ∙
          append_assoc c d b.used,
      is_c,
      (d, b.used, refl, is_d, b.is),
    )

by_step_took : (left : ℕ) (found ts ns rest : List ℕ) (s : Step) →
    ((found' us : List ℕ) → numbers_at left found' us ≡ Some (ns, rest) → More left found' us ns rest) →
    StepTook (length found) ts s → by_step (numbers_at left) found s ≡ Some (ns, rest) →
    More (suc left) found ts ns rest
by_step_took left found ts ns rest (End us) again took e =
    let pair = some_is (found, us) (ns, rest) e in
    record {
      more = [];
      all = sym (ap (λ (p : List ℕ × List ℕ). p.0) pair) ∙
          sym (append-nil found);
      few = omega arith;
      took =
          subst (λ (x : List ℕ). Took (numbers_after (length found) []) ts x)
          (ap (λ (p : List ℕ × List ℕ). p.1) pair) took;
    }
by_step_took left found ts ns rest (Next n us) again took e =
    let m = again (found ++ n ∷ []) us e in
    let len : length (found ++ n ∷ []) ≡ suc (length found) = omega (arith, length-append found (n ∷ [])) in
    record {
      more = n ∷ m.more;
      all = m.all ∙ append_assoc found (n ∷ []) m.more;
      few = omega (arith, m.few);
      took = one_more (length found) n m.more ts us rest took
          (subst (λ (x : ℕ). Took (numbers_after x m.more) us rest) len m.took);
    }

numbers_took : (left : ℕ) (found ts ns rest : List ℕ) → numbers_at left found ts ≡ Some (ns, rest) →
    More left found ts ns rest
unfolding numbers_at
numbers_took zero found ts ns rest e = absurd cc
numbers_took (suc left) found ts ns rest e =
    let b = bind_some (step_at (length found) ts) (by_step (numbers_at left) found) (ns, rest) e in
    by_step_took left found ts ns rest b.0 (λ found' us g. numbers_took left found' us ns rest g)
    (step_took (length found) ts b.0 b.1) b.2

tuple_took : (ts ns rest : List ℕ) → tuple_at ts ≡ Some (ns, rest) → Took (tuple ns) ts rest
unfolding tuple_at
tuple_took ts ns rest e =
    let a = bind_some (sign_at 40 ts) (λ inner. number_at inner >>= λ n. numbers_at 4 (n.0 ∷ []) n.1) (ns, rest) e in
    let b = bind_some (number_at a.0) (λ n. numbers_at 4 (n.0 ∷ []) n.1) (ns, rest) a.2 in
    let m = numbers_took 4 (b.0.0 ∷ []) b.0.1 ns rest b.2 in
    let t = then ts a.0 rest (sign_took 40 ts a.0 a.1) (then a.0 b.0.1 rest (number_took a.0 b.0.1 b.0.0 b.1) m.took) in
    let whole : Took (tuple (b.0.0 ∷ m.more)) ts rest = record { used = t.used; parts = t.parts; is = (m.few, t.is) } in
    subst (λ (x : List ℕ). Took (tuple x) ts rest) (sym m.all) whole

-- ---- the entries, as they are read

other_truth_took : (ts : List ℕ) (o : Option (List ℕ)) (f : Bool) (rest : List ℕ) → word_at (codes "True") ts ≡ o →
    other_truth ts o ≡ Some (f, rest) → Took (spaced (truth f)) ts rest
other_truth_took ts (Some us) f rest o_is e =
    let pair = some_is (true, us) (f, rest) e in
    subst (λ (p : Bool × List ℕ). Took (spaced (truth p.0)) ts p.1) pair (word_took (codes "True") ts us o_is)
other_truth_took ts None f rest o_is e =
    let b = bind_some (word_at (codes "False") ts) (λ us. Some (false, us)) (f, rest) e in
    subst (λ (p : Bool × List ℕ). Took (spaced (truth p.0)) ts p.1) (some_is (false, b.0) (f, rest) b.2)
    (word_took (codes "False") ts b.0 b.1)

truth_took : (ts : List ℕ) (f : Bool) (rest : List ℕ) → truth_at ts ≡ Some (f, rest) → Took (spaced (truth f)) ts rest
unfolding truth_at
truth_took ts f rest e = other_truth_took ts (word_at (codes "True") ts) f rest refl e

-- what was read is the value of an entry with this key
record ValueTook (name ts : List ℕ) (x : Field) (rest : List ℕ) : Type 0 where
  pub name_is : name ≡ key x
  pub took : Took (value x) ts rest

same_value : (name ts : List ℕ) (p q : Field × List ℕ) → p ≡ q → ValueTook name ts p.0 p.1 → ValueTook name ts q.0 q.1
same_value name ts p q e t = subst (λ (r : Field × List ℕ). ValueTook name ts r.0 r.1) e t

descr_took : (name ts : List ℕ) (x : Field) (rest : List ℕ) → name ≡ codes "descr" → descr_at ts ≡ Some (x, rest) →
    ValueTook name ts x rest
unfolding descr_at
descr_took name ts x rest is e =
    let b = bind_some (quoted_at ts) (λ d. Some (Descr d.0, d.1)) (x, rest) e in
    same_value name ts (Descr b.0.0, b.0.1) (x, rest) (some_is (Descr b.0.0, b.0.1) (x, rest) b.2)
    (record { name_is = is; took = quoted_took ts b.0.0 b.0.1 b.1 })

order_took : (name ts : List ℕ) (x : Field) (rest : List ℕ) → name ≡ codes "fortran_order" →
    order_at ts ≡ Some (x, rest) → ValueTook name ts x rest
unfolding order_at
order_took name ts x rest is e =
    let b = bind_some (truth_at ts) (λ f. Some (Order f.0, f.1)) (x, rest) e in
    same_value name ts (Order b.0.0, b.0.1) (x, rest) (some_is (Order b.0.0, b.0.1) (x, rest) b.2)
    (record { name_is = is; took = truth_took ts b.0.0 b.0.1 b.1 })

shape_took : (name ts : List ℕ) (x : Field) (rest : List ℕ) → name ≡ codes "shape" → shape_at ts ≡ Some (x, rest) →
    ValueTook name ts x rest
unfolding shape_at
shape_took name ts x rest is e =
    let b = bind_some (tuple_at ts) (λ ns. Some (Shape ns.0, ns.1)) (x, rest) e in
    same_value name ts (Shape b.0.0, b.0.1) (x, rest) (some_is (Shape b.0.0, b.0.1) (x, rest) b.2)
    (record { name_is = is; took = tuple_took ts b.0.0 b.0.1 b.1 })

is_text : (xs ys : List ℕ) → bytes_eq xs ys ≡ true → xs ≡ ys
is_text xs ys e = (bytes_eq-Decides xs ys).0 e

chain_took : (name ts : List ℕ) (x : Field) (rest : List ℕ) (a b c : Bool) → bytes_eq name (codes "descr") ≡ a →
    bytes_eq name (codes "fortran_order") ≡ b → bytes_eq name (codes "shape") ≡ c
    → cond a (descr_at ts) (cond b (order_at ts) (cond c (shape_at ts) None)) ≡ Some (x, rest) →
    ValueTook name ts x rest
chain_took name ts x rest true b c is_a is_b is_c e = descr_took name ts x rest (is_text name (codes "descr") is_a) e
chain_took name ts x rest false true c is_a is_b is_c e =
    order_took name ts x rest (is_text name (codes "fortran_order") is_b) e
chain_took name ts x rest false false true is_a is_b is_c e =
    shape_took name ts x rest (is_text name (codes "shape") is_c) e
chain_took name ts x rest false false false is_a is_b is_c e = absurd cc

value_took : (name ts : List ℕ) (x : Field) (rest : List ℕ) → value_at name ts ≡ Some (x, rest) →
    ValueTook name ts x rest
unfolding value_at
value_took name ts x rest e = chain_took name ts x rest (bytes_eq name (codes "descr"))
    (bytes_eq name (codes "fortran_order")) (bytes_eq name (codes "shape")) refl refl refl e

field_took : (ts : List ℕ) (x : Field) (rest : List ℕ) → field_at ts ≡ Some (x, rest) → Took (field x) ts rest
unfolding field_at
field_took ts x rest e =
    let a = bind_some (quoted_at ts) (λ name. sign_at 58 name.1 >>= λ us. value_at name.0 us) (x, rest) e in
    let b = bind_some (sign_at 58 a.0.1) (λ us. value_at a.0.0 us) (x, rest) a.2 in
    let v = value_took a.0.0 b.0 x rest b.2 in
    let k = subst (λ (name : List ℕ). Took (quoted name) ts a.0.1) v.name_is (quoted_took ts a.0.0 a.0.1 a.1) in
    then ts a.0.1 rest k (then a.0.1 b.0 rest (sign_took 58 a.0.1 b.0 b.1) v.took)

closing_took : (ts : List ℕ) (o : Option (List ℕ)) (rest : List ℕ) → sign_at 44 ts ≡ o → ended ts o ≡ Some rest →
    Took closing ts rest
closing_took ts (Some us) rest o_is e =
    let t = then ts us rest (sign_took 44 ts us o_is) (sign_took 125 us rest e) in
    record { used = t.used; parts = t.parts; is = inr t.is }
closing_took ts None rest o_is e =
    let t = sign_took 125 ts rest e in
    record { used = t.used; parts = t.parts; is = inl t.is }

line_end_is : (us : List ℕ) → is_line_end us ≡ true → (us ≡ []) ⊎ (us ≡ 10 ∷ [])
line_end_is [] e = inl refl
line_end_is (b ∷ us) e =
    let k = both_true (eqb b 10) (eqb (length us) 0) e in
    let b_is : b ≡ 10 = eqb-true b 10 k.0 in
    let us_is : us ≡ [] = nil_from_length us (eqb-true (length us) 0 k.1) in
    inr cc

ends_took : (ts : List ℕ) → ends_at ts ≡ true → ending ts
unfolding ends_at
ends_took ts e =
    let s = split_spaces ts in
    elim (line_end_is (after_spaces ts) e) [
      | inl nothing ↦ (
        s.0,
        inl (s.1 ∙ ap (λ (x : List ℕ). replicate s.0 32 ++ x) nothing ∙
            append-nil (replicate s.0 32)),
      )
      | inr line ↦ (s.0, inr (s.1 ∙ ap (λ (x : List ℕ). replicate s.0 32 ++ x) line))
    ]

ending_took : (o : Option Heading) (t : Bool) (h : Heading) → ending_of o t ≡ Some h → (o ≡ Some h) × (t ≡ true)
ending_took o true h e = (e, refl)
ending_took o false h e = absurd cc

brace_took : (text rest : List ℕ) → first_is 123 text ≡ Some rest → text ≡ (123 ∷ []) ++ rest
brace_took [] rest e = absurd cc
brace_took (c ∷ us) rest e =
    let t = chosen_some (eqb c 123) (Some us) rest e in
    let c_is : c ≡ 123 = eqb-true c 123 t.0 in
    let us_is : us ≡ rest = some_is us rest t.1 in cc

fields_took : (text ts : List ℕ) (h : Heading) → text ≡ (123 ∷ []) ++ ts → fields_at ts ≡ Some h → IsHeader h text
unfolding fields_at
fields_took text ts h start e =
    let a = bind_some (field_at ts) (λ x. sign_at 44 x.1 >>= λ bx. field_at bx >>= λ y. sign_at 44 y.1 >>= λ by.
    field_at by >>= λ z. ended z.1 (sign_at 44 z.1) >>= λ rest. ending_of (arranged x.0 y.0 z.0) (ends_at rest)) h
    e in
    let b = bind_some (sign_at 44 a.0.1)
    (λ bx. field_at bx >>= λ y. sign_at 44 y.1 >>= λ by. field_at by >>= λ z. ended z.1
    (sign_at 44 z.1) >>= λ rest. ending_of (arranged a.0.0 y.0 z.0) (ends_at rest)) h a.2 in
    let c = bind_some (field_at b.0) (λ y. sign_at 44 y.1 >>= λ by. field_at by >>= λ z. ended z.1
    (sign_at 44 z.1) >>= λ rest. ending_of (arranged a.0.0 y.0 z.0) (ends_at rest)) h b.2 in
    let d = bind_some (sign_at 44 c.0.1)
    (λ by. field_at by >>= λ z. ended z.1 (sign_at 44 z.1) >>= λ rest. ending_of (arranged a.0.0 c.0.0 z.0)
    (ends_at rest)) h c.2 in
    let f = bind_some (field_at d.0) (λ z. ended z.1 (sign_at 44 z.1) >>= λ rest. ending_of (arranged a.0.0 c.0.0 z.0)
    (ends_at rest)) h d.2 in
    let g = bind_some (ended f.0.1 (sign_at 44 f.0.1))
    (λ rest. ending_of (arranged a.0.0 c.0.0 f.0.0) (ends_at rest)) h f.2 in
    let k = ending_took (arranged a.0.0 c.0.0 f.0.0) (ends_at g.0) h g.2 in
    let last : Took ending g.0 [] = record { used = g.0; parts = sym (append-nil g.0); is = ends_took g.0 k.1 } in
    let brace : Took (λ us. us ≡ 123 ∷ []) text ts = record { used = 123 ∷ []; parts = start; is = refl } in
    let t7 = then f.0.1 g.0 [] (closing_took f.0.1 (sign_at 44 f.0.1) g.0 refl g.1) last in
    let t6 = then d.0 f.0.1 [] (field_took d.0 f.0.0 f.0.1 f.1) t7 in
    let t5 = then c.0.1 d.0 [] (sign_took 44 c.0.1 d.0 d.1) t6 in
    let t4 = then b.0 c.0.1 [] (field_took b.0 c.0.0 c.0.1 c.1) t5 in
    let t3 = then a.0.1 b.0 [] (sign_took 44 a.0.1 b.0 b.1) t4 in
    let t2 = then ts a.0.1 [] (field_took ts a.0.0 a.0.1 a.1) t3 in
    let t1 = then text ts [] brace t2 in
    record {
      first = a.0.0;
      second = c.0.0;
      third = f.0.0;
      arranged_is = k.0;
      text_is =
          subst (fields a.0.0 c.0.0 f.0.0) (sym (t1.parts ∙ append-nil t1.used)) t1.is;
    }

-- what is read as a header is one
pub header_took : (text : List ℕ) (h : Heading) → header_at text ≡ Some h → IsHeader h text
unfolding header_at
header_took text h e =
    let b = bind_some (first_is 123 text) fields_at h e in
    fields_took text b.0 h (brace_took text b.0 b.1) b.2

-- ---- a header is read

stop_after : (k : ℕ) (ns used rest : List ℕ) → numbers_after k ns used → Stops (used ++ rest)
stop_after k [] used rest (inl (a, b, parts, is_a, is_b)) =
    rw (regroup used a b rest parts) (sign_stops 44 a (b ++ rest) refl is_a)
stop_after k [] used rest (inr (two, is)) = sign_stops 41 used rest refl is
stop_after k (n ∷ ns) used rest (a, b, parts, is_a, is_b) =
    rw (regroup used a b rest parts) (sign_stops 44 a (b ++ rest) refl is_a)

end_read : (k : ℕ) (used rest : List ℕ) → numbers_after k [] used → step_at k (used ++ rest) ≡ Some (End rest)
unfolding step_at
end_read k used rest (inl (a, b, parts, is_a, is_b)) =
    rw (regroup used a b rest parts) (rw (sign_read 44 a (b ++ rest) refl is_a)
    (rw (sign_read 41 b rest refl is_b) refl))
end_read k used rest (inr (two, is)) =
    let comma = other_sign 44 41 [] used rest refl refl is in
    let bracket = sign_read 41 used rest refl is in
    let long : leb 2 k ≡ true = le-leb 2 k two in
    ap (by_comma k (used ++ rest)) comma ∙ ap (short_end k) bracket ∙ rw long refl

next_read : (k n : ℕ) (a b rest : List ℕ) → sign 44 a → number n b → Stops rest →
    step_at k (a ++ (b ++ rest)) ≡ Some (Next n rest)
unfolding step_at
next_read k n a b rest is_a is_b stops =
    let comma = sign_read 44 a (b ++ rest) refl is_a in
    let bracket = number_no_sign 41 n b rest (omega arith) is_b in
    let there = number_read n b rest is_b stops in
    ap (by_comma k (a ++ (b ++ rest))) comma ∙ ap (number_or_end (b ++ rest)) bracket ∙
    seq (number_at (b ++ rest)) (λ m. Some (Next m.0 m.1)) (n, rest) _ there refl

numbers_read : (left : ℕ) (found more used rest : List ℕ) → length more < left →
    numbers_after (length found) more used → numbers_at left found (used ++ rest) ≡ Some (found ++ more, rest)
unfolding numbers_at
numbers_read zero found more used rest few is = absurd (omega arith)
numbers_read (suc left) found [] used rest few is =
    seq (step_at (length found) (used ++ rest)) (by_step (numbers_at left) found) (End rest) _
    (end_read (length found) used rest is) (ap (λ (x : List ℕ). Some (x, rest)) (sym (append-nil found)))
numbers_read (suc left) found (n ∷ more) used rest few (a, b, parts, is_a, (c, d, parts', is_c, is_d)) =
    let len : suc (length found) ≡ length (found ++ n ∷ []) = omega (arith, length-append found (n ∷ [])) in
    let where_is : used ++ rest ≡ a ++ (c ++ (d ++ rest)) = regroup used a b rest parts ∙
    ap (λ (x : List ℕ). a ++ x) (regroup b c d rest parts') in
    let step : step_at (length found) (used ++ rest) ≡ Some (Next n (d ++ rest)) =
    ap (step_at (length found)) where_is ∙
    next_read (length found) n a c (d ++ rest) is_a is_c (stop_after (suc (length found)) more d rest is_d) in
    seq (step_at (length found) (used ++ rest)) (by_step (numbers_at left) found) (Next n (d ++ rest)) _ step
    (numbers_read left (found ++ n ∷ []) more d rest (omega arith)
    (subst (λ (k : ℕ). numbers_after k more d) len is_d) ∙
    ap (λ (x : List ℕ). Some (x, rest)) (append_assoc found (n ∷ []) more))

tuple_read : (ns used rest : List ℕ) → tuple ns used → tuple_at (used ++ rest) ≡ Some (ns, rest)
unfolding tuple_at
tuple_read [] used rest is = absurd is
tuple_read (n ∷ ns) used rest (few, (a, b, parts, is_a, (c, d, parts', is_c, is_d))) =
    let where_is : used ++ rest ≡ a ++ (b ++ rest) = regroup used a b rest parts in
    let bracket : sign_at 40 (used ++ rest) ≡ Some (b ++ rest) = ap (sign_at 40) where_is ∙
    sign_read 40 a (b ++ rest) refl is_a in
    let first : number_at (b ++ rest) ≡ Some (n, d ++ rest) = ap number_at (regroup b c d rest parts') ∙
    number_read n c (d ++ rest) is_c (stop_after 1 ns d rest is_d) in
    seq (sign_at 40 (used ++ rest)) (λ inner. number_at inner >>= λ m. numbers_at 4 (m.0 ∷ []) m.1)
    (b ++ rest) _ bracket
    (seq (number_at (b ++ rest)) (λ m. numbers_at 4 (m.0 ∷ []) m.1) (n, d ++ rest) _ first
    (numbers_read 4 (n ∷ []) ns d rest (omega arith) is_d))

truth_read : (f : Bool) (used rest : List ℕ) → spaced (truth f) used → truth_at (used ++ rest) ≡ Some (f, rest)
unfolding truth_at
truth_read true used rest is = ap (other_truth (used ++ rest)) (word_read 84 (codes "rue") used rest refl is)
truth_read false used rest is =
    let other : word_at (codes "True") (used ++ rest) ≡ None =
    other_word (codes "True") 70 (codes "alse") used rest refl refl is in
    ap (other_truth (used ++ rest)) other ∙
    seq (word_at (codes "False") (used ++ rest)) (λ us. Some (false, us)) rest _
    (word_read 70 (codes "alse") used rest refl is) refl

value_read : (x : Field) (used rest : List ℕ) → value x used → value_at (key x) (used ++ rest) ≡ Some (x, rest)
unfolding value_at descr_at order_at shape_at
value_read (Descr d) used rest is =
    seq (quoted_at (used ++ rest)) (λ r. Some (Descr r.0, r.1)) (d, rest) _ (quoted_read d used rest is) refl
value_read (Order f) used rest is =
    seq (truth_at (used ++ rest)) (λ r. Some (Order r.0, r.1)) (f, rest) _ (truth_read f used rest is) refl
value_read (Shape ns) used rest is =
    seq (tuple_at (used ++ rest)) (λ r. Some (Shape r.0, r.1)) (ns, rest) _ (tuple_read ns used rest is) refl

field_read : (x : Field) (used rest : List ℕ) → field x used → field_at (used ++ rest) ≡ Some (x, rest)
unfolding field_at
field_read x used rest (a, b, parts, is_a, (c, d, parts', is_c, is_d)) =
    let name : quoted_at (used ++ rest) ≡ Some (key x, b ++ rest) = ap quoted_at (regroup used a b rest parts) ∙
    quoted_read (key x) a (b ++ rest) is_a in
    let colon : sign_at 58 (b ++ rest) ≡ Some (d ++ rest) = ap (sign_at 58) (regroup b c d rest parts') ∙
    sign_read 58 c (d ++ rest) refl is_c in
    seq (quoted_at (used ++ rest)) (λ k. sign_at 58 k.1 >>= λ us. value_at k.0 us) (key x, b ++ rest) _ name
    (seq (sign_at 58 (b ++ rest)) (λ us. value_at (key x) us) (d ++ rest) _ colon (value_read x d rest is_d))

-- no comma stands before `}`, or one does
closing_read : (used rest : List ℕ) → closing used → ended (used ++ rest) (sign_at 44 (used ++ rest)) ≡ Some rest
closing_read used rest (inl is) = ap (ended (used ++ rest)) (other_sign 44 125 [] used rest refl refl is) ∙
    sign_read 125 used rest refl is
closing_read used rest (inr (a, b, parts, is_a, is_b)) =
    let comma : sign_at 44 (used ++ rest) ≡ Some (b ++ rest) = ap (sign_at 44) (regroup used a b rest parts) ∙
    sign_read 44 a (b ++ rest) refl is_a in
    ap (ended (used ++ rest)) comma ∙ sign_read 125 b rest refl is_b

ends_read : (ts : List ℕ) → ending ts → ends_at ts ≡ true
unfolding ends_at
ends_read ts (n, inl is) = ap (λ (x : List ℕ). is_line_end (after_spaces x)) is ∙ ap is_line_end (skip_all n)
ends_read ts (n, inr is) = ap (λ (x : List ℕ). is_line_end (after_spaces x)) is ∙ ap is_line_end (skip n 10 [] refl)

fields_read : (h : Heading) (x y z : Field) (text : List ℕ) → arranged x y z ≡ Some h → fields x y z text →
    header_at text ≡ Some h
unfolding header_at fields_at
fields_read h x y z text arr (
  t0,
  u0,
  p0,
  i0,
  (t1, u1, p1, i1, (t2, u2, p2, i2, (t3, u3, p3, i3, (t4, u4, p4, i4, (t5, u5, p5, i5, (t6, u6, p6, i6, i7)))))),
) =
    let brace : first_is 123 text ≡ Some u0 = ap (first_is 123) (p0 ∙ ap (λ (a : List ℕ). a ++ u0) i0) in
    let s1 : field_at u0 ≡ Some (x, u1) = ap field_at p1 ∙ field_read x t1 u1 i1 in
    let s2 : sign_at 44 u1 ≡ Some u2 = ap (sign_at 44) p2 ∙ sign_read 44 t2 u2 refl i2 in
    let s3 : field_at u2 ≡ Some (y, u3) = ap field_at p3 ∙ field_read y t3 u3 i3 in
    let s4 : sign_at 44 u3 ≡ Some u4 = ap (sign_at 44) p4 ∙ sign_read 44 t4 u4 refl i4 in
    let s5 : field_at u4 ≡ Some (z, u5) = ap field_at p5 ∙ field_read z t5 u5 i5 in
    let s6 : ended u5 (sign_at 44 u5) ≡ Some u6 = ap (λ (a : List ℕ). ended a (sign_at 44 a)) p6 ∙
    closing_read t6 u6 i6 in
    let s7 : ends_at u6 ≡ true = ends_read u6 i7 in
    seq (first_is 123 text) fields_at u0 _ brace
    (seq (field_at u0) (λ x. sign_at 44 x.1 >>= λ bx. field_at bx >>= λ y. sign_at 44 y.1 >>= λ by. field_at by >>= λ
    z. ended z.1 (sign_at 44 z.1) >>= λ rest. ending_of (arranged x.0 y.0 z.0) (ends_at rest)) (x, u1) _ s1
    (seq (sign_at 44 u1) (λ bx. field_at bx >>= λ y. sign_at 44 y.1 >>= λ by. field_at by >>= λ z. ended z.1
    (sign_at 44 z.1) >>= λ rest. ending_of (arranged x y.0 z.0) (ends_at rest)) u2 _ s2
    (seq (field_at u2) (λ y. sign_at 44 y.1 >>= λ by. field_at by >>= λ z. ended z.1
    (sign_at 44 z.1) >>= λ rest. ending_of (arranged x y.0 z.0) (ends_at rest)) (y, u3) _ s3
    (seq (sign_at 44 u3) (λ by. field_at by >>= λ z. ended z.1 (sign_at 44 z.1) >>= λ rest. ending_of
    (arranged x y z.0) (ends_at rest)) u4 _ s4
    (seq (field_at u4) (λ z. ended z.1 (sign_at 44 z.1) >>= λ rest. ending_of (arranged x y z.0) (ends_at rest))
    (z, u5) _ s5
    (seq (ended u5 (sign_at 44 u5)) (λ rest. ending_of (arranged x y z) (ends_at rest)) u6 _ s6
    (ap (ending_of (arranged x y z)) s7 ∙ arr)))))))

-- a header is read as what it says
pub header_read : (text : List ℕ) (h : Heading) → IsHeader h text → header_at text ≡ Some h
header_read text h is = fields_read h is.first is.second is.third text is.arranged_is is.text_is
