-- Sets of names under the changes that the walk makes to them.
use mathlib.Core.Path.{fun_ext}
use Rattle.std.proofs.Common.{◌≡◌, ℕ, ◌+◌, ◌<◌, Bool, true, false, cond, not, ◌&&◌, ◌||◌, List, [], ◌∷◌, ◌++◌, length}
use Rattle.std.proofs.Common.{take, get_or, map, Option, Some, None, unwrap_or, refl, ap, sym, ◌∙◌}
use Rattle.std.proofs.lemmas.List.{take_more}
use Rattle.std.proofs.lemmas.List.Folds.{list_any-append}
use Rattle.std.proofs.lemmas.Slice.Eq.{bytes_eq-Decides}
use Rattle.std.specs.Borrow.{Bor}
use Rattle.std.specs.Option.{option_map}
use Rattle.std.specs.Str.{bytes_eq}
use Rattle.module_names.specs.Words.{Bytes}
use Rattle.use_def.specs.Flows.{Set, everything, both, with_text}
use Rattle.use_def.specs.Sets.{is_one_of, without, with_texts, with_one, changed, marked, assigned, fresh}
use Rattle.use_def.specs.Sets.{AreBack, common_set, set_of}
use Rattle.use_def.specs.declared.names.Common.{Common}
use Rattle.use_def.specs.declared.names.Names.{Names}

-- the texts behind references
abbrev pub seen : List (Bor Bytes) → List Bytes
seen = map (λ t. t.now)

-- ---- tests

or_false : (b : Bool) → (b || false) ≡ b
or_false true = refl
or_false false = refl

bound_test : (ended b s : Bool) → (ended || cond b true s) ≡ ((ended || s) || b)
bound_test true b s = refl
bound_test false true true = refl
bound_test false true false = refl
bound_test false false true = refl
bound_test false false false = refl

outside_test : (b s f : Bool) → (b ≡ true → s ≡ false) → (cond b true s && not (f || b)) ≡ (s && not f)
outside_test true true f h = let no : true ≡ false = h refl in absurd cc
outside_test true false true h = refl
outside_test true false false h = refl
outside_test false true true h = refl
outside_test false true false h = refl
outside_test false false f h = refl

without_test : (b s t : Bool) → cond b false (s && not t) ≡ (s && not (t || b))
without_test true true true = refl
without_test true true false = refl
without_test true false t = refl
without_test false true true = refl
without_test false true false = refl
without_test false false t = refl

kept_test : (t m n b : Bool) → (b ≡ true → n ≡ m) → ((t && m) || (n && b)) ≡ ((t || b) && m)
kept_test t m n true h = ap (λ k. (t && m) || (k && true)) (h refl) ∙ same t m
  where
    same : (t m : Bool) → ((t && m) || (m && true)) ≡ ((t || true) && m)
    same true true = refl
    same true false = refl
    same false true = refl
    same false false = refl
kept_test true true true false h = refl
kept_test true true false false h = refl
kept_test true false true false h = refl
kept_test true false false false h = refl
kept_test false m true false h = refl
kept_test false m false false h = refl

first_test : (m f : Bool) → ((m && not f) || (f && m)) ≡ (true && m)
first_test true true = refl
first_test true false = refl
first_test false true = refl
first_test false false = refl

next_test : (m f t : Bool) → ((m && not f) || (t && m)) ≡ (((m && not f) || t) && m)
next_test true true true = refl
next_test true true false = refl
next_test true false t = refl
next_test false f true = refl
next_test false f false = refl

absorb_test : (s b n : Bool) → n ≡ true → (b ≡ true → s ≡ n) → s ≡ (s || b)
absorb_test true b n e h = refl
absorb_test false true n e h = let no : false ≡ n = h refl in cc
absorb_test false false n e h = refl

-- ---- lists of texts

same_text : (s : Set) (text other : Bytes) → bytes_eq text other ≡ true → s text ≡ s other
same_text s text other e = ap s ((bytes_eq-Decides text other).0 e)

one_more : (texts : List Bytes) (text other : Bytes) → is_one_of (texts ++ text ∷ []) other
    ≡ (is_one_of texts other || bytes_eq text other)
one_more texts text other =
    list_any-append (λ t. bytes_eq t other) texts (text ∷ [])
    ∙ ap (λ b. is_one_of texts other || b) (or_false (bytes_eq text other))

seen_end : (items : List (Bor Bytes)) (t : Bor Bytes) → seen (items ++ t ∷ []) ≡ seen items ++ t.now ∷ []
seen_end [] t = refl
seen_end (x ∷ xs) t = ap (λ l. x.now ∷ l) (seen_end xs t)

pub seen_push : (items new : List (Bor Bytes)) (t : Bor Bytes) → new ≡ items ++ t ∷ [] → seen new ≡ seen items
    ++ t.now ∷ []
seen_push items new t is = ap seen is ∙ seen_end items t

pub seen_more : (items : List (Bor Bytes)) (i : ℕ) (d : Bor Bytes) → i < length items
    → seen (take (i + 1) items) ≡ seen (take i items) ++ (get_or items i d).now ∷ []
seen_more items i d lt = ap seen (take_more items i d lt) ∙ seen_end (take i items) (get_or items i d)

-- ---- the changes

pub mark_is : (b value : Bool) (o : Option Bool) → unwrap_or (cond b (Some value) o) false
    ≡ cond b value (unwrap_or o false)
mark_is true value o = refl
mark_is false value o = refl

module _ (text : Bytes) where
  pub bound_assigned : (e e' : Bool) (s s' : Set) → e' ≡ e → s' ≡ changed text true s
      → (t : Bytes) → (e' || s' t) ≡ with_text text (λ u. e || s u) t
  bound_assigned e e' s s' same is t =
      ap (λ b. b || s' t) same
      ∙ (ap (λ (u : Set). e || u t) is ∙ bound_test e (bytes_eq text t) (s t))

  pub bound_outside : (fresh fresh' : List Bytes) (s s' : Set) → fresh' ≡ fresh ++ text ∷ []
      → s' ≡ changed text true s → s text ≡ false → (t : Bytes) → without fresh' s' t ≡ without fresh s t
  bound_outside fresh fresh' s s' more is un t =
      ap (λ (u : Set). u t && not (is_one_of fresh' t)) is
      ∙ (ap (λ (l : List Bytes). changed text true s t && not (is_one_of l t)) more
      ∙ (ap (λ b. changed text true s t && not b) (one_more fresh text t)
      ∙ outside_test (bytes_eq text t) (s t) (is_one_of fresh t) (λ e. sym (same_text s text t e) ∙ un)))

  pub already : (s : Set) → s text ≡ true → (t : Bytes) → s t ≡ with_text text s t
  already s is t = absorb_test (s t) (bytes_eq text t) (s text) is (λ e. sym (same_text s text t e))

  pub unmarked : (texts more : List Bytes) (s s' s0 : Set) → s' ≡ changed text false s → s ≡ without texts s0
      → more ≡ texts ++ text ∷ [] → (t : Bytes) → s' t ≡ without more s0 t
  unmarked texts more s s' s0 is so_far end t =
      ap (λ (u : Set). u t) is
      ∙ (ap (λ (u : Set). changed text false u t) so_far
      ∙ (without_test (bytes_eq text t) (s0 t) (is_one_of texts t)
      ∙ (sym (ap (λ b. s0 t && not b) (one_more texts text t)) ∙ sym (ap (λ l. without l s0 t) end))))

  pub pushed : (out new : List Bytes) (so : Bool) → new ≡ out ++ text ∷ [] → so ≡ true
      → (t : Bytes) → is_one_of new t ≡ with_one text so (is_one_of out) t
  pushed out new so end is t =
      ap (λ l. is_one_of l t) end
      ∙ (one_more out text t ∙ sym (ap (λ b. is_one_of out t || (b && bytes_eq text t)) is))

  pub not_pushed : (out : List Bytes) (so : Bool) → so ≡ false → (t : Bytes) → is_one_of out t
      ≡ with_one text so (is_one_of out) t
  not_pushed out so is t =
      sym (or_false (is_one_of out t)) ∙ sym (ap (λ b. is_one_of out t || (b && bytes_eq text t)) is)

  pub kept_more : (texts more : List Bytes) (k k' m : Set) → k' ≡ with_one text (m text) k
      → k ≡ both (is_one_of texts) m → more ≡ texts ++ text ∷ []
      → (t : Bytes) → k' t ≡ both (is_one_of more) m t
  kept_more texts more k k' m is so_far end t =
      ap (λ (u : Set). u t) is
      ∙ (ap (λ (u : Set). with_one text (m text) u t) so_far
      ∙ (kept_test (is_one_of texts t) (m t) (m text) (bytes_eq text t) (same_text m text t)
      ∙ (sym (ap (λ b. b && m t) (one_more texts text t)) ∙ sym (ap (λ l. is_one_of l t && m t) end))))

  pub with_more : (texts more : List Bytes) (a a' s : Set) → a' ≡ with_text text a → a ≡ with_texts texts s
      → more ≡ texts ++ text ∷ [] → (t : Bytes) → a' t ≡ with_texts more s t
  with_more texts more a a' s is so_far end t =
      ap (λ (u : Set). u t) is
      ∙ (ap (λ (u : Set). with_text text u t) so_far
      ∙ (or_assoc (s t) (is_one_of texts t) (bytes_eq text t)
      ∙ (sym (ap (λ b. s t || b) (one_more texts text t)) ∙ sym (ap (λ l. s t || is_one_of l t) end))))
    where
      or_assoc : (a b c : Bool) → ((a || b) || c) ≡ (a || (b || c))
      or_assoc true b c = refl
      or_assoc false b c = refl

pub first_kept : (fresh kept : List Bytes) (m : Set) → is_one_of kept ≡ both (is_one_of fresh) m
    → (t : Bytes) → with_texts kept (without fresh m) t ≡ both everything m t
first_kept fresh kept m is t =
    ap (λ (u : Set). without fresh m t || u t) is ∙ first_test (m t) (is_one_of fresh t)

pub next_kept : (fresh texts kept : List Bytes) (m : Set) → is_one_of kept ≡ both (is_one_of texts) m
    → (t : Bytes) → with_texts kept (without fresh m) t ≡ both (with_texts texts (without fresh m)) m t
next_kept fresh texts kept m is t =
    ap (λ (u : Set). without fresh m t || u t) is ∙ next_test (m t) (is_one_of fresh t) (is_one_of texts t)

or_left : (a b : Bool) → a ≡ true → (a || b) ≡ true
or_left true b h = refl
or_left false b h = absurd cc

pub met_ended : (c m : Set) (ended : Bool) → ended ≡ true → (t : Bytes) → c t ≡ both c (λ u. ended || m u) t
met_ended c m ended is t = and_true (c t) ∙ sym (ap (λ b. c t && b) (or_left ended (m t) is))
  where
    and_true : (b : Bool) → b ≡ (b && true)
    and_true true = refl
    and_true false = refl

pub met_going : (c m : Set) (ended : Bool) → ended ≡ false → (t : Bytes) → both c m t ≡ both c (λ u. ended || m u) t
met_going c m ended is t = sym (ap (λ b. c t && (b || m t)) is)

pub not_either : (r e m : Bool) → r ≡ false → r ≡ (e || m) → m ≡ false
not_either r true m h is = absurd cc
not_either r false m h is = sym is ∙ h

-- ---- names that are what they were

pub back_assigned : (old new : Names) → AreBack old new → assigned new ≡ assigned old
back_assigned old new back =
    ap (λ (b : Bool). λ (t : Bytes). b || marked new t) back.ended
    ∙ ap (λ (s : Set). λ (t : Bytes). old.ended || s t) back.marks

pub back_then : (a b c : Names) → AreBack a b → AreBack b c → AreBack a c
back_then a b c one two = record {
  marks = two.marks ∙ one.marks;
  fresh = two.fresh ∙ one.fresh;
  ended = two.ended ∙ one.ended;
}

-- ---- what parts have in common

pub common_none : (s : Set) (common : Common) → common.texts ≡ None → common_set s common ≡ everything
common_none s common is = ap (λ o. set_of s (option_map (λ texts. seen texts.items) o)) is

and_assoc : (a b c : Bool) → ((a && b) && c) ≡ (a && (b && c))
and_assoc true b c = refl
and_assoc false b c = refl

pub both_assoc : (a b c : Set) → both (both a b) c ≡ both a (both b c)
both_assoc a b c = fun_ext (λ t. and_assoc (a t) (b t) (c t))
