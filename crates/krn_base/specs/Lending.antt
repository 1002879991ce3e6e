-- What is lent from a list, and what the list is when it comes back.
use Rattle.std.specs.Prelude.{ℕ, List, Option, length, take, drop, slice_set, ◌++◌}
use Rattle.std.specs.Borrow.{Lends, LendsIf, Fml, RattleType, MutBor, Array}
use Rattle.krn_base.specs.contracts.list.Seq.{the_row}

module _ (T : RattleType) (list : MutBor (List T.Denot)) where
  -- one element: the list has another one at its place
  abbrev pub lends_item : ℕ → Option (MutBor T.Denot) → Fml
  lends_item at r = LendsIf (the_row T) T list r (slice_set list.now at) list.now

  -- a slice of all: the list holds the slice's last elements
  abbrev pub lends_items : MutBor (List T.Denot) → Fml
  lends_items r =
      Lends (the_row T) (Array T 0) list r (λ items. take (length list.now) (items ++ drop (length items) list.now))
