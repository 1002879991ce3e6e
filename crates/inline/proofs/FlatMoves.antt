-- Statements of the flat form fit its kernel and bind names: one alone, lists of them, and moves.
use Rattle.std.proofs.Common.{◌≡◌, ◌∙◌, ap, sym, subst, refl, arith, ℕ, zero, suc, ◌<◌, Bool, true, false, ◌&&◌}
use Rattle.std.proofs.Common.{◌==◌, if◌then◌else◌, List, [], ◌∷◌, ◌++◌, map, length, slice_get, Option, Some, None}
use Rattle.std.proofs.lemmas.Bool.{eq-eqb, eqb-true, lt-ltb}
use Rattle.std.proofs.lemmas.Bool.Decides.{nat_tests}
use Rattle.std.proofs.lemmas.Option.{slice_get_within}
use Rattle.std.specs.Prelude.{nat_lt, slice_set}
use Rattle.std.specs.List.{list_all}
use Rattle.krn_base.specs.declared.kind.Kind.{Kind}
use Rattle.krn_base.specs.declared.kind.Kind.TheVariants.{Int64, Bool as Boolean}
use Rattle.eager_rules.specs.Sound.{Bindings, Head, Shape, all_fit, block_shape, bound_in, fits, fits_step}
use Rattle.eager_rules.specs.Sound.{given_types, has_type, in_walk, keep_array, names_fit, next, one_type}
use Rattle.eager_rules.specs.Sound.{operand_bound, put_all, shape_step, simple, tested, walk_step}
use Rattle.eager_rules.specs.Types.{Ty, add_type, is_array, same_kind, same_type, type_of, word_type}
use Rattle.eager_rules.specs.declared.program.Core.{Core}
use Rattle.eager_rules.specs.declared.program.Core.TheOpen as c
use Rattle.eager_rules.specs.declared.program.Core.TheVariants as v
use Rattle.eager_rules.specs.declared.program.Core.TheFolds.{map-Core, fold-roll-Core}
use Rattle.eager_rules.specs.declared.program.Core.TheViews.{roll-Core}
use Rattle.eager_rules.specs.declared.program.Oper.{Oper}
use Rattle.eager_rules.specs.declared.program.Oper.TheVariants as oper
use Rattle.eager_rules.specs.declared.program.WordOp.TheVariants.{Move}
use Rattle.inline.specs.Places.{moved, moves, name_or_word, nowhere}
use Rattle.inline.specs.declared.moves.Target.{Target}
use Rattle.inline.proofs.BoundTests.{AllIn, More, more_then, operands_more, put_more, same_more, set_same}
use Rattle.inline.proofs.DropShapes.{Better, append_better, is_better, same_better, shape}
use Rattle.inline.proofs.DropSound.{append_walks, walk_of, walks}
use Rattle.inline.proofs.Frames.{and_both}
use Rattle.inline.proofs.TypeTests.{and_left, and_right}

-- a list of statements leads from bound names to more of them
abbrev pub Goes : List Core → Bindings → Bindings → Type 0
Goes ys before after = (walks ys before ≡ Some after) × More before after

pub goes_then : (xs ys : List Core) (a b d : Bindings) → Goes xs a b → Goes ys b d → Goes (xs ++ ys) a d
goes_then xs ys a b d f g = (append_walks xs ys a b d f.0 g.0, more_then a b d f.1 g.1)

abbrev pub shape_in : List Core → Shape
shape_in ys = block_shape (map shape ys)

pub layer_goes : (y : c.Core-F Core) (x : Core) → roll-Core y ≡ x → (b d : Bindings) →
    walk_step (map-Core Core (Bindings → Option Bindings) walk_of y) b ≡ Some d → More b d → Goes (x ∷ []) b d
layer_goes y x is b d step more = (
  ap (λ (o : Option Bindings). next o (in_walk []))
      (ap (λ (z : Core). walk_of z b) (sym is)
      ∙ (ap (λ (w : Bindings → Option Bindings). w b) (fold-roll-Core (Bindings → Option Bindings) walk_step y)
      ∙ step)),
  more,
)

-- a statement that has no block leads to the names that it binds
pub leaf_goes : (y : c.Core-F Core) (x : Core) → roll-Core y ≡ x → (reads : List Oper) (to : List ℕ) →
    ((b : Bindings) → walk_step (map-Core Core (Bindings → Option Bindings) walk_of y) b ≡
    tested (list_all (operand_bound b) reads && names_fit b to) (Some (put_all to b))) → (b : Bindings) →
    list_all (operand_bound b) reads ≡ true → names_fit b to ≡ true → Goes (x ∷ []) b (put_all to b)
leaf_goes y x is reads to same b bound fit =
    layer_goes y x is b (put_all to b) (same b ∙ ap (λ (t : Bool). tested t (Some (put_all to b)))
    (and_both (list_all (operand_bound b) reads) (names_fit b to) bound fit)) (put_more to b)

pub leaf_shape : (y : c.Core-F Core) (x : Core) → roll-Core y ≡ x →
    shape_step (map-Core Core Shape shape y) ≡ simple → Better simple (shape_in (x ∷ []))
leaf_shape y x is same =
    is_better simple (shape x) (sym (ap shape (sym is) ∙ (fold-roll-Core Shape shape_step y ∙ same)))

same_type_self : (t : Ty) → same_type t t ≡ true
same_type_self (kind, rank) = and_both (same_kind kind kind) (rank == rank) (by_kind kind) (eq-eqb rank rank refl)
  where
    by_kind : (k : Kind) → same_kind k k ≡ true
    by_kind Int64 = refl
    by_kind Boolean = refl

-- a kernel's table of types, the heads and the values of its program
module _ (heads : List Head) (rets table : List Ty) where
  abbrev pub fit : Core → Bool
  fit = fits heads rets table

  abbrev pub AllFit : List Core → Type 0
  AllFit ys = all_fit heads rets table ys ≡ true

  pub fits_then : (xs ys : List Core) → AllFit xs → AllFit ys → AllFit (xs ++ ys)
  fits_then [] ys f g = g
  fits_then (x ∷ xs) ys f g =
      and_both (fit x) (all_fit heads rets table (xs ++ ys)) (and_left (fit x) (all_fit heads rets table xs) f)
      (fits_then xs ys (and_right (fit x) (all_fit heads rets table xs) f) g)

  pub layer_fits : (y : c.Core-F Core) (x : Core) → roll-Core y ≡ x →
      fits_step heads rets table (map-Core Core Bool fit y) ≡ true → AllFit (x ∷ [])
  layer_fits y x is h =
      and_both (fit x) true (ap fit (sym is) ∙ (fold-roll-Core Bool (fits_step heads rets table) y ∙ h)) refl

  -- statements that fit, never return, and lead from names bound in one way to names bound in another
  pub record Works (ys : List Core) (Before After : Bindings → Type 0) : Type 0 where
    pub all_fit : AllFit ys
    pub plain : Better simple (shape_in ys)
    pub goes : (b : Bindings) → length b ≡ length table → Before b → (d : Bindings) × (Goes ys b d × After d)

  has_itself : (n : ℕ) (t : Ty) → slice_get table n ≡ Some t → has_type table n (Some t) ≡ true
  has_itself n t h = ap (λ (o : Option Ty). one_type o t) h ∙ same_type_self t

  within : (b : Bindings) (n : ℕ) (t : Ty) → length b ≡ length table → slice_get table n ≡ Some t → n < length b
  within b n t long h =
      let lt : n < length table = slice_get_within table n t h in omega (arith, lt, long)

  -- ---- a move
  abbrev ReadyFor : Oper → Bindings → Type 0
  ReadyFor x b = operand_bound b x ≡ true

  abbrev HasName : ℕ → Bindings → Type 0
  HasName n d = bound_in d n ≡ true

  binds_one : (y : c.Core-F Core) (s : Core) → roll-Core y ≡ s → (n : ℕ) (x : Oper) (t : Ty) →
      fits_step heads rets table (map-Core Core Bool fit y) ≡ true →
      shape_step (map-Core Core Shape shape y) ≡ simple →
      ((b : Bindings) → walk_step (map-Core Core (Bindings → Option Bindings) walk_of y) b ≡
      tested (list_all (operand_bound b) (x ∷ []) && names_fit b (n ∷ [])) (Some (put_all (n ∷ []) b))) →
      slice_get table n ≡ Some t → Works (s ∷ []) (ReadyFor x) (HasName n)
  binds_one y s is n x t fits plain same there = record {
    all_fit = layer_fits y s is fits;
    plain = leaf_shape y s is plain;
    goes = λ b long ready.
        let low : n < length b = within b n t long there in (
          slice_set b n true,
          (
            leaf_goes y s is (x ∷ []) (n ∷ []) same b (and_both (operand_bound b x) true ready refl)
                (and_both (nat_lt n (length b)) true (lt-ltb n (length b) low) refl),
            set_same b n low,
          ),
        );
  }

  word_works : (n : ℕ) (x : Oper) (kind : Kind) → type_of table x ≡ Some (let t : Ty = (kind, 0) in t) →
      slice_get table n ≡ Some (let t : Ty = (kind, 0) in t) →
      Works (v.Word n Move (x ∷ []) nowhere ∷ []) (ReadyFor x) (HasName n)
  word_works n x kind typed there =
      binds_one (c.Word n Move (x ∷ []) nowhere) (v.Word n Move (x ∷ []) nowhere)
      (v.rolls-Word n Move (x ∷ []) nowhere) n x (kind, 0)
      (ap (λ (o : Option Ty). given_types (add_type o (Some [])) (λ types. has_type table n (word_type Move types)))
      typed ∙ has_itself n (kind, 0) there) refl (λ b. refl) there

  alias_works : (t : Ty) (n from : ℕ) → is_array t ≡ true → slice_get table from ≡ Some t →
      slice_get table n ≡ Some t → Works (v.Alias n from ∷ []) (ReadyFor (oper.Name from)) (HasName n)
  alias_works t n from array typed there =
      binds_one (c.Alias n from) (v.Alias n from) (v.rolls-Alias n from) n (oper.Name from) t
      (ap (λ (o : Option Ty). given_types (keep_array o) (λ u. has_type table n (Some u))) typed
      ∙ (ap (λ (b : Bool). given_types (if b then Some t else None) (λ u. has_type table n (Some u))) array
      ∙ has_itself n t there)) refl (λ b. refl) there

  named_works : (t : Ty) (n from : ℕ) → slice_get table from ≡ Some t → slice_get table n ≡ Some t →
      Works (name_or_word (is_array t) n from ∷ []) (ReadyFor (oper.Name from)) (HasName n)
  named_works (kind, zero) n from typed there = word_works n (oper.Name from) kind typed there
  named_works (kind, suc r) n from typed there =
      subst (λ (b : Bool). Works (name_or_word b n from ∷ []) (ReadyFor (oper.Name from)) (HasName n)) (sym array)
      (alias_works (kind, suc r) n from array typed there)
    where
      array : is_array (kind, suc r) ≡ true
      array = grind (arith, nat_tests)

  moved_works : (t : Target) (x : Oper) → type_of table x ≡ Some t.ty → slice_get table t.name ≡ Some t.ty →
      Works (moved t x) (ReadyFor x) (HasName t.name)
  moved_works t (oper.Int z) typed there =
      word_works t.name (oper.Int z) Int64 refl (there ∙ sym typed)
  moved_works t (oper.Truth b) typed there =
      word_works t.name (oper.Truth b) Boolean refl (there ∙ sym typed)
  moved_works t (oper.Name from) typed there = by_test (from == t.name) refl
    where
      by_test : (b : Bool) → (from == t.name) ≡ b →
          Works (if b then [] else name_or_word (is_array t.ty) t.name from ∷ []) (ReadyFor (oper.Name from))
          (HasName t.name)
      by_test true e = record {
        all_fit = refl;
        plain = same_better simple;
        goes = λ b long ready.
            (b, ((refl, same_more b), ap (bound_in b) (sym (eqb-true from t.name e)) ∙ ready));
      }
      by_test false e = named_works t.ty t.name from typed there

  -- ---- moves
  -- each operand has the type of its target, and the target's name too
  abbrev pub Pairs : List Target → List Oper → Type 0
  Pairs [] xs = Unit {0}
  Pairs (t ∷ ts) [] = ⊥
  Pairs (t ∷ ts) (x ∷ xs) =
      ((type_of table x ≡ Some t.ty) × (slice_get table t.name ≡ Some t.ty)) × Pairs ts xs

  abbrev pub names_of : List Target → List ℕ
  names_of ts = map (λ (t : Target). t.name) ts

  abbrev pub AllReady : List Oper → Bindings → Type 0
  AllReady xs b = list_all (operand_bound b) xs ≡ true

  abbrev pub AllNamed : List ℕ → Bindings → Type 0
  AllNamed to d = AllIn d to

  pub moves_work : (ts : List Target) (xs : List Oper) → Pairs ts xs →
      Works (moves ts xs) (AllReady xs) (AllNamed (names_of ts))
  moves_work [] xs h = record {
    all_fit = refl;
    plain = same_better simple;
    goes = λ b long ready. (b, ((refl, same_more b), refl));
  }
  moves_work (t ∷ ts) [] h = absurd h
  moves_work (t ∷ ts) (x ∷ xs) h =
      both_work (moved_works t x h.0.0 h.0.1) (moves_work ts xs h.1)
    where
      both_work : Works (moved t x) (ReadyFor x) (HasName t.name) →
          Works (moves ts xs) (AllReady xs) (AllNamed (names_of ts)) →
          Works (moved t x ++ moves ts xs) (AllReady (x ∷ xs)) (AllNamed (names_of (t ∷ ts)))
      both_work f g = record {
        all_fit = fits_then (moved t x) (moves ts xs) f.all_fit g.all_fit;
        plain = append_better (moved t x) (moves ts xs) simple simple f.plain g.plain;
        goes = λ b long ready.
            let first = f.goes b long (and_left (operand_bound b x) (list_all (operand_bound b) xs) ready) in
            let mid : Bindings = first.0 in
            let more : More b mid = first.1.0.1 in
            let second = g.goes mid (more.size ∙ long)
            (operands_more b mid more xs (and_right (operand_bound b x) (list_all (operand_bound b) xs) ready)) in
            let last : Bindings = second.0 in
            let rest : More mid last = second.1.0.1 in (
              last,
              (
                goes_then (moved t x) (moves ts xs) b mid last first.1.0 second.1.0,
                and_both (bound_in last t.name) (list_all (bound_in last) (names_of ts))
                    (rest.bound t.name first.1.1) second.1.1,
              ),
            );
      }
