-- The values of an argument, where more of them are added to its row or to another one's.
use Rattle.std.proofs.Common.{◌≡◌, Bool, true, false, List, [], ◌∷◌, ◌++◌, refl, ap, ◌∙◌}
use Rattle.std.specs.Option.{unwrap_or}
use Rattle.std.specs.Str.{bytes_eq}
use Rattle.std.proofs.lemmas.Slice.Eq.{bytes_eq-Decides}
use Rattle.clap.specs.Walk.{Row, all_of, with_values}
use Rattle.clap.specs.declared.builder.value_parser.Reading.{Reading}
use Rattle.clap.specs.declared.parser.matches.ValueSource.{ValueSource}
use Rattle.call_words.specs.Request.{Text}

-- the values in the row of an argument
abbrev pub values : Text → List Row → List Text
values id rows = unwrap_or (all_of id rows) []

module _ (id : Text) (how : Reading) (source : ValueSource) (more : List Text) (same : bytes_eq id id ≡ true) where
  -- its own values are followed by the new ones
  pub own_values : (rows : List Row) → values id (with_values id how source more rows) ≡ values id rows ++ more
  own_values [] = rw same refl
  own_values (r ∷ rows) = by_test (bytes_eq r.id id) refl (own_values rows)
    where
      by_test : (b : Bool) → bytes_eq r.id id ≡ b
          → values id (with_values id how source more rows) ≡ values id rows ++ more
          → values id (with_values id how source more (r ∷ rows)) ≡ values id (r ∷ rows) ++ more
      by_test true is less = simp is
      by_test false is less = simp is less

  -- those of another argument stay
  pub other_values : (other : Text) → bytes_eq id other ≡ false → (rows : List Row)
      → values other (with_values id how source more rows) ≡ values other rows
  other_values other apart [] = rw apart refl
  other_values other apart (r ∷ rows) = by_test (bytes_eq r.id id) refl (other_values other apart rows)
    where
      not_other : bytes_eq r.id id ≡ true → bytes_eq r.id other ≡ false
      not_other is =
          let e : r.id ≡ id = (bytes_eq-Decides r.id id).0 is in
          ap (λ (x : Text). bytes_eq x other) e ∙ apart

      by_other : (b : Bool) → bytes_eq r.id other ≡ b → bytes_eq r.id id ≡ false
          → values other (with_values id how source more rows) ≡ values other rows
          → values other (with_values id how source more (r ∷ rows)) ≡ values other (r ∷ rows)
      by_other true named is less = simp (is, named)
      by_other false named is less = simp (is, named) less

      by_test : (b : Bool) → bytes_eq r.id id ≡ b
          → values other (with_values id how source more rows) ≡ values other rows
          → values other (with_values id how source more (r ∷ rows)) ≡ values other (r ∷ rows)
      by_test true is less = let named : bytes_eq r.id other ≡ false = not_other is in simp (is, named)
      by_test false is less = by_other (bytes_eq r.id other) refl is less
