-- Lists of statements, one level unfolded, and lists by numbers.
use Rattle.std.proofs.Common.{arith, ◌≡◌, ◌∙◌, ap, sym, subst, refl, ℕ, zero, suc, ◌+◌, ◌<◌, List, [], ◌∷◌, ◌++◌}
use Rattle.std.proofs.Common.{map, length, append-nil, append_assoc, get_or, take}
use Rattle.std.proofs.lemmas.Grind.{flat_map-append}
use Rattle.std.proofs.lemmas.List.{take_more, map-append}
use Rattle.std.specs.List.{flat_map, range_with_len}
use Rattle.eager_rules.specs.Statements.{blocks_of, inner, inner_step, statements, with_inner}
use Rattle.eager_rules.specs.declared.program.Core.{Core, out-Core}
use Rattle.eager_rules.specs.declared.program.Core.TheOpen as c
use Rattle.eager_rules.specs.declared.program.Core.TheFolds.{map-Core, para-roll-Core}
use Rattle.eager_rules.specs.declared.program.Core.TheViews.{roll-out-Core}

abbrev with_own : Core → Core × List Core
with_own s = (s, inner s)

fused : (block : List Core) → flat_map with_inner (map with_own block) ≡ statements block
fused [] = refl
fused (s ∷ block) = ap (λ (rest : List Core). (s ∷ inner s) ++ rest) (fused block)

opened : (y : c.Core-F Core) →
    inner_step (map-Core Core (Core × List Core) with_own y) ≡ statements (blocks_of y)
opened (c.Word to op args at) = refl
opened (c.Extent to of axis) = refl
opened (c.Get to of index at) = refl
opened (c.Put of index value at) = refl
opened (c.Pick to of subs at) = refl
opened (c.Flip to of) = refl
opened (c.Alias to of) = refl
opened (c.Fresh to dims fill at) = refl
opened (c.Map to op args at) = refl
opened (c.Reduce to op of at) = refl
opened (c.Store of value at) = refl
opened (c.Call to instance args) = refl
opened (c.If cond part other) =
    ap (flat_map with_inner) (sym (map-append with_own part other)) ∙ fused (part ++ other)
opened (c.For var lo hi by at omp body) = fused body
opened (c.Return values) = refl

-- the statements below one are those of its blocks
pub inner_are : (s : Core) → inner s ≡ statements (blocks_of (out-Core s))
inner_are s =
    subst (λ (x : Core). inner x ≡ statements (blocks_of (out-Core s))) (roll-out-Core s)
    (para-roll-Core (List Core) inner_step (out-Core s) ∙ opened (out-Core s))

pub statements_append : (xs ys : List Core) → statements (xs ++ ys) ≡ statements xs ++ statements ys
statements_append xs ys = flat_map-append (λ (x : Core). x ∷ inner x) xs ys

-- the numbers from a on, and one more
pub counting_more : (a n : ℕ) → range_with_len a (n + 1) ≡ range_with_len a n ++ (a + n) ∷ []
counting_more a zero = ap (λ (x : ℕ). x ∷ []) from_here
  where
    from_here : a ≡ a + 0
    from_here = omega arith
counting_more a (suc n) =
    let one : suc n + 1 ≡ suc (n + 1) = omega arith in
    let next : (a + 1) + n ≡ a + suc n = omega arith in
    ap (range_with_len a) one ∙ ap (λ (xs : List ℕ). a ∷ xs) (counting_more (a + 1) n ∙
    ap (λ (x : ℕ). range_with_len (a + 1) n ++ x ∷ []) next)

-- what numbers give, and one more
pub indexed_more : {A : Type 0} (f : ℕ → List A) (n : ℕ) →
    flat_map f (range_with_len 0 (n + 1)) ≡ flat_map f (range_with_len 0 n) ++ f n
indexed_more f n =
    let same : 0 + n ≡ n = omega arith in
    ap (flat_map f) (counting_more 0 n) ∙
    (flat_map-append f (range_with_len 0 n) ((0 + n) ∷ []) ∙
    ap (λ l. flat_map f (range_with_len 0 n) ++ l) (append-nil (f (0 + n)) ∙ ap f same))

-- what items give that are seen so, and one more
pub mapped_more : {A B C : Type 0} (f : B → List A) (s : C → B) (xs : List C) (at : ℕ) (x : C) → at < length xs →
    x ≡ get_or xs at x →
    flat_map f (map s (take (at + 1) xs)) ≡ flat_map f (map s (take at xs)) ++ f (s x)
mapped_more f s xs at x lt is =
    ap (λ l. flat_map f (map s l)) (take_more xs at x lt ∙ ap (λ y. take at xs ++ y ∷ []) (sym is)) ∙
    (ap (flat_map f) (map-append s (take at xs) (x ∷ [])) ∙
    (flat_map-append f (map s (take at xs)) (s x ∷ []) ∙
    ap (λ l. flat_map f (map s (take at xs)) ++ l) (append-nil (f (s x)))))

-- what items give, and one more
pub flat_more : {A B : Type 0} (f : B → List A) (xs : List B) (at : ℕ) (d : B) → at < length xs →
    flat_map f (take (at + 1) xs) ≡ flat_map f (take at xs) ++ f (get_or xs at d)
flat_more f xs at d lt =
    ap (flat_map f) (take_more xs at d lt) ∙
    (flat_map-append f (take at xs) (get_or xs at d ∷ []) ∙
    ap (λ l. flat_map f (take at xs) ++ l) (append-nil (f (get_or xs at d))))

pub flat_step : {A B : Type 0} (f : B → List A) (xs : List B) (at : ℕ) (d : B) (first old new : List A) →
    at < length xs → old ≡ first ++ flat_map f (take at xs) → new ≡ old ++ f (get_or xs at d) →
    new ≡ first ++ flat_map f (take (at + 1) xs)
flat_step f xs at d first old new lt so_far is =
    is ∙ (ap (λ l. l ++ f (get_or xs at d)) so_far ∙
    (append_assoc first (flat_map f (take at xs)) (f (get_or xs at d)) ∙
    ap (λ l. first ++ l) (sym (flat_more f xs at d lt))))

pub seen_step : {A B C : Type 0} (f : B → List A) (s : C → B) (xs : List C) (at : ℕ) (x : C) (old new : List A) →
    at < length xs → x ≡ get_or xs at x → old ≡ flat_map f (map s (take at xs)) → new ≡ old ++ f (s x) →
    new ≡ flat_map f (map s (take (at + 1) xs))
seen_step f s xs at x old new lt here so_far is =
    is ∙ (ap (λ l. l ++ f (s x)) so_far ∙ sym (mapped_more f s xs at x lt here))

pub range_step : {A : Type 0} (f : ℕ → List A) (n : ℕ) (first old new : List A) →
    old ≡ first ++ flat_map f (range_with_len 0 n) → new ≡ old ++ f n →
    new ≡ first ++ flat_map f (range_with_len 0 (n + 1))
range_step f n first old new so_far is =
    is ∙ (ap (λ l. l ++ f n) so_far ∙
    (append_assoc first (flat_map f (range_with_len 0 n)) (f n) ∙ ap (λ l. first ++ l) (sym (indexed_more f n))))

pub plain_step : {A B : Type 0} (f : B → List A) (xs : List B) (at : ℕ) (d : B) (old new : List A) → at < length xs →
    old ≡ flat_map f (take at xs) → new ≡ old ++ f (get_or xs at d) → new ≡ flat_map f (take (at + 1) xs)
plain_step f xs at d old new lt so_far is =
    is ∙ (ap (λ l. l ++ f (get_or xs at d)) so_far ∙ sym (flat_more f xs at d lt))
