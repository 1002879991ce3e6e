-- Array files that are read one after another.
use Rattle.std.proofs.Common.{◌≡◌, ℕ, suc, ◌+◌, ◌<◌, ◌≤◌, List, [], ◌∷◌, ◌++◌, refl, ap, sym, ◌∙◌, subst}
use Rattle.std.proofs.Common.{append_assoc, append-nil, Option, Some, None, Result, Ok, Err, arith, add-one, length}
use Rattle.std.proofs.Common.{take, drop, slice_set, get_or}
use Rattle.std.proofs.Math.Seq.{drop-cons, drop-length, take-length}
use Rattle.std.proofs.lemmas.List.{take_more_set}
use Rattle.std.specs.List.{filter_map}
use Rattle.host_io.specs.Files.{Held}
use Rattle.view_places.specs.declared.shape.Array.{Array}
use Rattle.call_binding.specs.Files.{IsRead, IsTooLong, AreRead, path_of, filled, fill_next, Filled, Whole, NoArray}
use Rattle.call_binding.specs.Files.{Wants}
use Rattle.call_binding.specs.Filling.{FillsTo, MeetsLong, Fills, FillsItem, IsLoaded}
use Rattle.call_binding.specs.Sound.{IsSound}
use Rattle.call_binding.specs.declared.head.BindStop.{BindStop}
use Rattle.call_binding.specs.declared.head.BindStop.TheVariants as stop
use Rattle.call_binding.specs.declared.items.Item.{Item}
use Rattle.call_binding.specs.declared.items.Item.TheVariants.{Buffer, Loaded, Saved, Scalar, Argument}
use Rattle.call_binding.proofs.Turns.{item_here, taken_here}

-- the items so far, and what becomes of those behind them
abbrev filled_behind : List Item → Filled → Filled
filled_behind out (Whole rest) = Whole (out ++ rest)
filled_behind out (NoArray n) = NoArray n
filled_behind out (Wants path) = Wants path

behind_nil : (f : Filled) → f ≡ filled_behind [] f
behind_nil (Whole rest) = refl
behind_nil (NoArray n) = refl
behind_nil (Wants path) = refl

behind_next : (out : List Item) (x : Item) (f : Filled)
    → filled_behind out (fill_next x f) ≡ filled_behind (out ++ x ∷ []) f
behind_next out x (Whole rest) = ap Whole (sym (append_assoc out (x ∷ []) rest))
behind_next out x (NoArray n) = refl
behind_next out x (Wants path) = refl

-- the first n items became `out`
pub record SoFar (held : List ℕ → Held) (items out : List Item) (n : ℕ) (rest : List Item) : Type 0 where
  pub reads : List (Option Array)
  pub is : (more : List (Option Array)) → filled 1 items (reads ++ more) ≡ filled_behind out (filled (n + 1) rest more)
  pub read : (more : List (Option Array)) → AreRead held (filter_map path_of rest) more
      → AreRead held (filter_map path_of items) (reads ++ more)

pub start : (held : List ℕ → Held) (items : List Item) → SoFar held items [] 0 items
start held items = record { reads = []; is = λ more. behind_nil (filled 1 items more); read = λ more h. h }

-- an item without a file
pub plain_next : (n : ℕ) (x : Item) (rest : List Item) (more : List (Option Array)) → path_of x ≡ None
    → filled n (x ∷ rest) more ≡ fill_next x (filled (n + 1) rest more)
plain_next n (Buffer name array) rest more e = refl
plain_next n (Loaded name path) rest more e = absurd cc
plain_next n (Saved name path) rest more e = refl
plain_next n (Scalar parameter kind word) rest more e = refl
plain_next n (Argument parameter buffer subs) rest more e = refl

plain_paths : (held : List ℕ → Held) (x : Item) (rest : List Item) (more : List (Option Array)) → path_of x ≡ None
    → AreRead held (filter_map path_of rest) more → AreRead held (filter_map path_of (x ∷ rest)) more
plain_paths held (Buffer name array) rest more e h = h
plain_paths held (Loaded name path) rest more e h = absurd cc
plain_paths held (Saved name path) rest more e h = h
plain_paths held (Scalar parameter kind word) rest more e h = h
plain_paths held (Argument parameter buffer subs) rest more e h = h

module _ (held : List ℕ
    → Held) (items out : List Item) (n : ℕ) (x : Item) (rest : List Item) (so : SoFar held items out n (x ∷ rest)) where
  pub plain_step : path_of x ≡ None → SoFar held items (out ++ x ∷ []) (n + 1) rest
  plain_step e = record {
    reads = so.reads;
    is = λ more. so.is more
        ∙ (ap (filled_behind out) (plain_next (n + 1) x rest more e)
        ∙ behind_next out x (filled (n + 1 + 1) rest more));
    read = λ more h. so.read more (plain_paths held x rest more e h);
  }

module _ (held : List ℕ
    → Held) (items out : List Item) (n : ℕ) (name path : List ℕ) (rest : List Item)
    (so : SoFar held items out n (Loaded name path ∷ rest)) where
  pub loaded_step : (array : Array) → IsRead (held path) (Some array)
      → SoFar held items (out ++ Buffer name array ∷ []) (n + 1) rest
  loaded_step array r = record {
    reads = so.reads ++ Some array ∷ [];
    is = λ more. ap (filled 1 items) (append_assoc so.reads (Some array ∷ []) more)
        ∙ (so.is (Some array ∷ more) ∙ behind_next out (Buffer name array) (filled (n + 1 + 1) rest more));
    read = λ more h. subst (AreRead held (filter_map path_of items))
        (sym (append_assoc so.reads (Some array ∷ []) more)) (so.read (Some array ∷ more) (r, h));
  }

  pub refused_step : IsRead (held path) None → FillsTo held items (NoArray (n + 1))
  refused_step r = record {
    reads = so.reads ++ None ∷ [];
    are_read = so.read (None ∷ []) (r, tt);
    is =
        so.is (None ∷ []);
  }

  pub long_step : IsTooLong (held path) → MeetsLong held items
  long_step long = record {
    path = path;
    wants =
        record { reads = so.reads ++ []; are_read = so.read [] tt; is = so.is [] };
    long = long;
  }

pub finish : (held : List ℕ → Held) (items out : List Item) (n : ℕ) → SoFar held items out n []
    → FillsTo held items (Whole out)
finish held items out n so =
    record { reads = so.reads ++ []; are_read = so.read [] tt; is = so.is [] ∙ ap Whole (append-nil out) }

-- ---- one turn of the loop over the items in their places

tail_same : {A : Type 0} (xs ys : List A) (at : ℕ) (x : A) → at < length xs → at < length ys → drop at xs ≡ drop at ys
    → drop (at + 1) xs ≡ drop (at + 1) ys
tail_same xs ys at x lx ly same =
    let a : drop at xs ≡ get_or xs at x ∷ drop (suc at) xs = drop-cons xs at x lx in
    let b : drop at ys ≡ get_or ys at x ∷ drop (suc at) ys = drop-cons ys at x ly in
    let e : drop (suc at) xs ≡ drop (suc at) ys = cc in
    rw add-one e

module _ (held : List ℕ
    → Held) (items full : List Item) (at : ℕ) (x : Item) (lt : at < length full) (long : length full ≡ length items)
    (is : x ≡ get_or full at x) (same : drop at full ≡ drop at items)
    (so : SoFar held items (take at full) at (drop at items)) where
  pub tails : drop (at + 1) full ≡ drop (at + 1) items
  tails = tail_same full items at x lt (omega arith) same

  here : drop at items ≡ x ∷ drop (at + 1) items
  here = sym same ∙ (item_here full at x lt is ∙ ap (λ rest. x ∷ rest) tails)

  before_item : SoFar held items (take at full) at (x ∷ drop (at + 1) items)
  before_item = subst (SoFar held items (take at full) at) here so

  pub plain_turn : path_of x ≡ None → SoFar held items (take (at + 1) full) (at + 1) (drop (at + 1) items)
  plain_turn e =
      subst (λ (out : List Item). SoFar held items out (at + 1) (drop (at + 1) items))
      (sym (taken_here full at x lt is))
      (plain_step held items (take at full) at x (drop (at + 1) items) before_item e)

  module _ (name path : List ℕ) (loaded : x ≡ Loaded name path) where
    at_file : SoFar held items (take at full) at (Loaded name path ∷ drop (at + 1) items)
    at_file = subst (λ (y : Item). SoFar held items (take at full) at (y ∷ drop (at + 1) items)) loaded before_item

    pub loaded_turn : (b : Item) → IsLoaded (held path) name b
        → SoFar held items (take (at + 1) (slice_set full at b)) (at + 1) (drop (at + 1) items)
    loaded_turn b l =
        subst (λ (out : List Item). SoFar held items out (at + 1) (drop (at + 1) items))
        (sym (take_more_set full at b lt ∙ ap (λ y. take at full ++ y ∷ []) l.is))
        (loaded_step held items (take at full) at name path (drop (at + 1) items) at_file l.array l.read)

    pub fault_turn : (before mid after : ℕ) → before ≤ mid → (fault : BindStop)
        → FillsItem (held path) mid after (at + 1) name (Err fault) → Fills held before after items (Err fault)
    fault_turn before mid after le (stop.Item n) f =
        subst (λ (k : ℕ). FillsTo held items (NoArray k)) (sym f.0)
        (refused_step held items (take at full) at name path (drop (at + 1) items) at_file f.1)
    fault_turn before mid after le stop.LoadFailed f = omega (arith, f)
    fault_turn before mid after le stop.TooLong f =
        long_step held items (take at full) at name path (drop (at + 1) items) at_file f
    fault_turn before mid after le stop.Memory f = tt

pub all_turns : (held : List ℕ → Held) (items full : List Item) (at : ℕ) → at ≡ length full → length full ≡ length items
    → SoFar held items (take at full) at (drop at items) → FillsTo held items (Whole full)
all_turns held items full at end long so =
    let a : take at full ≡ full = ap (λ n. take n full) end ∙ take-length full in
    let b : drop at items ≡ [] = ap (λ n. drop n items) (end ∙ long) ∙ drop-length items in
    finish held items full at
    (subst (SoFar held items full at) b (subst (λ (out : List Item). SoFar held items out at (drop at items)) a so))

-- a loaded buffer is sound
pub loaded_sound : (file : Held) (name : List ℕ) (b : Item) → IsLoaded file name b → IsSound b
loaded_sound file name b l = subst IsSound (sym l.is) l.good
