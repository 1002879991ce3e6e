-- One pass over the notes gives the list of the rules, or the first note that has no value, and no list of notes has
-- two answers.
use Rattle.std.proofs.Common.{◌≡◌, List, [], ◌∷◌, ◌++◌, Option, Some, None, Result, Ok, Err}
use Rattle.std.proofs.Common.{refl, sym, ap, subst, ◌∙◌, append_assoc, IfOk, IfErr}
use Rattle.std.proofs.lemmas.List.{append-nil}
use Rattle.krn_base.specs.declared.place.Loc.{Loc}
use Rattle.krn_base.specs.declared.refusal.Refusal.{Refusal}
use Rattle.krn_base.specs.declared.refusal.Rule.{Rule}
use Rattle.krn_base.specs.declared.refusal.Stop.{Stop}
use Rattle.krn_base.specs.declared.refusal.Stop.TheVariants as stop
use Rattle.py_parse.specs.declared.tree.Note.{Note}
use Rattle.export_sig.specs.NoteLists.{Reading, AllHave, IsFirstWithout, IsRefusal, IsOnly, IsOnlyRefusal}
use Rattle.export_sig.specs.Listing.{Given, taken, scan, Answers}

module _ {X : Type 0} (R : Reading X) where
  -- the notes of a list that each have their value, cut in two
  cut_by : (before a : List Note) (k : Note) (b : List Note) (xs : List X) → AllHave R before (a ++ k ∷ b) xs →
      (x : X) × R (before ++ a) k b x
  cut_by before [] k b [] h = absurd h
  cut_by before [] k b (x ∷ xs) h = (x, subst (λ (bs : List Note). R bs k b x) (sym (append-nil before)) h.0)
  cut_by before (n ∷ a) k b [] h = absurd h
  cut_by before (n ∷ a) k b (x ∷ xs) h =
      let r = cut_by (before ++ n ∷ []) a k b xs h.1 in
      (r.0, subst (λ (bs : List Note). R bs k b r.0) (append_assoc before (n ∷ []) a) r.1)

  pub cut : (notes a : List Note) (k : Note) (b : List Note) (xs : List X) → notes ≡ a ++ k ∷ b
      → AllHave R [] notes xs → (x : X) × R a k b x
  cut notes a k b xs e h = cut_by [] a k b xs (subst (λ (ns : List Note). AllHave R [] ns xs) e h)

  -- no list of notes has a list of values and a first note without one
  pub not_both : (notes : List Note) (xs : List X) (n : Note) → AllHave R [] notes xs → IsFirstWithout R notes n → ⊥
  not_both notes xs n h r = let c = cut notes r.before n r.after xs r.parts h in r.none c.0 c.1

  -- where one of two splits of a list comes first
  data Order (a b c d : List Note) (k l : Note) : Type 0 where
    Same : a ≡ c → k ≡ l → b ≡ d → Order a b c d k l
    Before : (m : List Note) → c ≡ a ++ k ∷ m → b ≡ m ++ l ∷ d → Order a b c d k l
    Behind : (m : List Note) → a ≡ c ++ l ∷ m → d ≡ m ++ k ∷ b → Order a b c d k l

  one_up : (n : Note) (a b c d : List Note) (k l : Note) → Order a b c d k l → Order (n ∷ a) b (n ∷ c) d k l
  one_up n a b c d k l (Same p q r) = Same (ap (λ (x : List Note). n ∷ x) p) q r
  one_up n a b c d k l (Before m p q) = Before m (ap (λ (x : List Note). n ∷ x) p) q
  one_up n a b c d k l (Behind m p q) = Behind m (ap (λ (x : List Note). n ∷ x) p) q

  head_is : (m n : Note) (ms ns : List Note) → m ∷ ms ≡ n ∷ ns → m ≡ n
  head_is m n ms ns e = cc

  tail_is : (m n : Note) (ms ns : List Note) → m ∷ ms ≡ n ∷ ns → ms ≡ ns
  tail_is m n ms ns e = cc

  order : (a b c d : List Note) (k l : Note) → a ++ k ∷ b ≡ c ++ l ∷ d → Order a b c d k l
  order [] b [] d k l e = Same refl (head_is k l b d e) (tail_is k l b d e)
  order [] b (n ∷ c) d k l e = Before c (ap (λ (x : Note). x ∷ c) (sym (head_is k n b (c ++ l ∷ d) e)))
      (tail_is k n b (c ++ l ∷ d) e)
  order (n ∷ a) b [] d k l e = Behind a (ap (λ (x : Note). x ∷ a) (head_is n l (a ++ k ∷ b) d e))
      (sym (tail_is n l (a ++ k ∷ b) d e))
  order (n ∷ a) b (m ∷ c) d k l e =
      let h : n ≡ m = head_is n m (a ++ k ∷ b) (c ++ l ∷ d) e in
      subst (λ (x : Note). Order (n ∷ a) b (x ∷ c) d k l) h
      (one_up n a b c d k l (order a b c d k l (tail_is n m (a ++ k ∷ b) (c ++ l ∷ d) e)))

  no_earlier : (b d m : List Note) (n l : Note) (r : List Note) → ((x : X) → R r n b x → ⊥) → b ≡ m ++ l ∷ d →
      (x : X) × R r n (m ++ l ∷ d) x → ⊥
  no_earlier b d m n l r none e h = none h.0 (subst (λ (bs : List Note). R r n bs h.0) (sym e) h.1)

  one_by : (notes : List Note) (n l : Note) (p : IsFirstWithout R notes n) (q : IsFirstWithout R notes l)
      → Order p.before p.after q.before q.after n l → n ≡ l
  one_by notes n l p q (Same e f g) = f
  one_by notes n l p q (Before m e f) = absurd (no_earlier p.after q.after m n l p.before p.none f
      (q.earlier p.before m n e))
  one_by notes n l p q (Behind m e f) = absurd (no_earlier q.after p.after m l n q.before q.none f
      (p.earlier q.before m l e))

  -- one first note without a value
  pub one_first : (notes : List Note) (n l : Note) → IsFirstWithout R notes n → IsFirstWithout R notes l → n ≡ l
  one_first notes n l p q = one_by notes n l p q (order p.before p.after q.before q.after n l (sym p.parts ∙ q.parts))

  -- no note has two values
  module _ (unique : (before : List Note) (n : Note) (after : List Note) (x y : X) → R before n after x
      → R before n after y → x ≡ y) where
    pub one_list : (before notes : List Note) (xs ys : List X) → AllHave R before notes xs
        → AllHave R before notes ys → xs ≡ ys
    one_list before [] [] [] h g = refl
    one_list before [] [] (y ∷ ys) h g = absurd g
    one_list before [] (x ∷ xs) ys h g = absurd h
    one_list before (n ∷ ns) [] ys h g = absurd h
    one_list before (n ∷ ns) (x ∷ xs) [] h g = absurd g
    one_list before (n ∷ ns) (x ∷ xs) (y ∷ ys) h g =
        let first : x ≡ y = unique before n ns x y h.0 g.0 in
        let rest : xs ≡ ys = one_list (before ++ n ∷ []) ns xs ys h.1 g.1 in cc

  -- the notes of a front each have their value, before these notes
  pub record Earlier (front notes : List Note) : Type 0 where
    pub each : (a b : List Note) (k : Note) → front ≡ a ++ k ∷ b → (x : X) × R a k (b ++ notes) x

  pub none_earlier : (notes : List Note) → Earlier [] notes
  none_earlier notes = record { each = by }
    where
      by : (a b : List Note) (k : Note) → [] ≡ a ++ k ∷ b → (x : X) × R a k (b ++ notes) x
      by [] b k e = absurd cc
      by (n ∷ a) b k e = absurd cc

  nil_apart : (m : List Note) (k : Note) (b : List Note) → [] ≡ m ++ k ∷ b → ⊥
  nil_apart [] k b e = cc
  nil_apart (n ∷ m) k b e = cc

  more_by : (front ns : List Note) (n : Note) (x : X) → Earlier front (n ∷ ns) → R front n ns x → (a b : List Note)
      (k : Note) → Order front [] a b n k → (y : X) × R a k (b ++ ns) y
  more_by front ns n x h r a b k (Same e f g) = (
    x,
    subst (λ (bs : List Note). R a k (bs ++ ns) x) g (subst (λ (m : Note). R a m ns x) f
        (subst (λ (bs : List Note). R bs n ns x) e r)),
  )
  more_by front ns n x h r a b k (Before m e f) = absurd (nil_apart m k b f)
  more_by front ns n x h r a b k (Behind m e f) =
      let y = h.each a m k e in (
        y.0,
        subst (λ (bs : List Note). R a k bs y.0) (sym (append_assoc m (n ∷ []) ns) ∙ ap
            (λ (bs : List Note). bs ++ ns) (sym f)) y.1,
      )

  one_more_earlier : (front ns : List Note) (n : Note) (x : X) → Earlier front (n ∷ ns) → R front n ns x → Earlier
      (front ++ n ∷ []) ns
  one_more_earlier front ns n x h r = record {
    each = λ a b k e. more_by front ns n x h r a b k
        (order front [] a b n k e);
  }

  -- what one pass over the notes behind `before` answers
  abbrev pub Scanned : List Note → List X → List Note → Result (List X) Loc → Type 0
  Scanned before found notes (Ok xs) = (more : List X) × (xs ≡ found ++ more) × AllHave R before notes more
  Scanned before found notes (Err at) = (n : Note) × (at ≡ n.loc) × IsFirstWithout R (before ++ notes) n

  -- one pass: what is given from the values so far is a note's value
  module _ (given : Given X) (So : List Note → List X → Type 0)
      (grows : (before : List Note) (found : List X) (n : Note) (after : List Note) (x : X) → So before found
      → R before n after x → So (before ++ n ∷ []) (found ++ x ∷ []))
      (right : (before : List Note) (found : List X) (n : Note) (after : List Note) (x : X) → So before found
      → given found n after ≡ Some x → R before n after x)
      (whole : (before : List Note) (found : List X) (n : Note) (after : List Note) (x : X) → So before found
      → R before n after x → given found n after ≡ Some x) where
    none_some : (x : X) (o : Option X) → o ≡ None → o ≡ Some x → ⊥
    none_some x o e f = cc

    lifted : (before : List Note) (found : List X) (n : Note) (ns : List Note) (x : X) (o : Result (List X) Loc)
        → R before n ns x
        → Scanned (before ++ n ∷ []) (found ++ x ∷ []) ns o → Scanned before found (n ∷ ns) o
    lifted before found n ns x (Ok xs) r s = (x ∷ s.0, s.1 ∙ append_assoc found (x ∷ []) s.0, (r, s.2))
    lifted before found n ns x (Err at) r s = (
      s.0,
      s.1,
      subst (λ (bs : List Note). IsFirstWithout R bs s.0)
          (append_assoc before (n ∷ []) ns) s.2,
    )

    by_given : (before : List Note) (found : List X) (n : Note) (ns : List Note) (o : Option X) → So before found
        → Earlier before (n ∷ ns) → given found n ns ≡ o
        → ((x : X) → R before n ns x → Scanned (before ++ n ∷ []) (found ++ x ∷ []) ns
        (scan given (found ++ x ∷ []) ns))
        → Scanned before found (n ∷ ns) (taken n.loc (λ x. scan given (found ++ x ∷ []) ns) o)
    by_given before found n ns None so h e again = (
      n,
      refl,
      record {
        before = before;
        after = ns;
        parts = refl;
        earlier = h.each;
        none = λ x r. none_some x
            (given found n ns) e (whole before found n ns x so r);
      },
    )
    by_given before found n ns (Some x) so h e again =
        let r = right before found n ns x so e in
        lifted before found n ns x (scan given (found ++ x ∷ []) ns) r (again x r)

    pub scan_answers : (before : List Note) (found : List X) (notes : List Note) → So before found
        → Earlier before notes → Scanned before found notes (scan given found notes)
    scan_answers before found [] so h = ([], sym (append-nil found), tt)
    scan_answers before found (n ∷ ns) so h =
        by_given before found n ns (given found n ns) so h refl
        (λ x r. scan_answers (before ++ n ∷ []) (found ++ x ∷ []) ns (grows before found n ns x so r)
        (one_more_earlier before ns n x h r))

  -- ---- the clauses of a call

  pub ok_clause : (notes : List Note) (rule : Rule) (o : Result (List X) Loc) (result : Result (List X) Stop)
      → Scanned [] [] notes o → Answers rule o result → IfOk result (λ xs. AllHave R [] notes xs)
  ok_clause notes rule o (Ok xs) s e =
      let t = subst (Scanned [] [] notes) e s in
      subst (λ (ys : List X). AllHave R [] notes ys) (sym t.1) t.2
  ok_clause notes rule o (Err r) s e = tt

  pub refused_clause : (notes : List Note) (rule : Rule) (o : Result (List X) Loc) (result : Result (List X) Stop)
      → Scanned [] [] notes o → Answers rule o result → IfErr result (IsRefusal R notes rule)
  refused_clause notes rule o (Ok xs) s e = tt
  refused_clause notes rule o (Err stop.Memory) s e = tt
  refused_clause notes rule o (Err (stop.Refused r)) s e =
      let t = subst (Scanned [] [] notes) e.1 s in (e.0, t.0, t.1, t.2)

  module _ (unique : (before : List Note) (n : Note) (after : List Note) (x y : X) → R before n after x
      → R before n after y → x ≡ y) where
    pub only_clause : (notes : List Note) (rule : Rule) (o : Result (List X) Loc) (result : Result (List X) Stop)
        → Scanned [] [] notes o → Answers rule o result → (xs : List X) → AllHave R [] notes xs → IsOnly xs result
    only_clause notes rule o (Ok ys) s e xs h = one_list unique [] notes ys xs (ok_clause notes rule o (Ok ys) s e) h
    only_clause notes rule o (Err stop.Memory) s e xs h = tt
    only_clause notes rule o (Err (stop.Refused r)) s e xs h =
        let t = refused_clause notes rule o (Err (stop.Refused r)) s e in not_both notes xs t.1 h t.3

  same_refusal : (q r : Refusal) → q.rule ≡ r.rule → q.loc ≡ r.loc → q ≡ r
  same_refusal q r e f = ap (λ (x : Rule). record { rule = x; loc = q.loc }) e ∙ ap
      (λ (x : Loc). record { rule = r.rule; loc = x }) f

  pub place_clause : (notes : List Note) (rule : Rule) (o : Result (List X) Loc) (result : Result (List X) Stop)
      → Scanned [] [] notes o → Answers rule o result → (r : Refusal) → IsRefusal R notes rule (stop.Refused r)
      → IsOnlyRefusal r result
  place_clause notes rule o (Ok ys) s e r h = not_both notes ys h.1 (ok_clause notes rule o (Ok ys) s e) h.3
  place_clause notes rule o (Err stop.Memory) s e r h = tt
  place_clause notes rule o (Err (stop.Refused q)) s e r h =
      let t = refused_clause notes rule o (Err (stop.Refused q)) s e in
      let same : t.1 ≡ h.1 = one_first notes t.1 h.1 t.3 h.3 in
      same_refusal q r (t.0 ∙ sym h.0) (t.2 ∙ ap (λ (n : Note). n.loc) same ∙ sym h.2)

taken_same : {X : Type 0} (at : Loc) (f g : X → Result (List X) Loc) (o : Option X) → ((x : X) → f x ≡ g x)
    → taken at f o ≡ taken at g o
taken_same at f g None e = refl
taken_same at f g (Some x) e = e x

-- passes by two readings that give the same give the same
pub scan_same : {X : Type 0} (f g : Given X)
    → ((found : List X) (n : Note) (after : List Note) → f found n after ≡ g found n after)
    → (found : List X) (notes : List Note) → scan f found notes ≡ scan g found notes
scan_same f g e found [] = refl
scan_same f g e found (n ∷ ns) =
    ap (taken n.loc (λ x. scan f (found ++ x ∷ []) ns)) (e found n ns)
    ∙ taken_same n.loc (λ x. scan f (found ++ x ∷ []) ns) (λ x. scan g (found ++ x ∷ []) ns) (g found n ns)
    (λ x. scan_same f g e (found ++ x ∷ []) ns)
