-- Sets of names in the code.
use Rattle.std.specs.Prelude.{◌≡◌, Bool, false, ◌&&◌, ◌||◌, not, if◌then◌else◌, List, map, Option, Some, None}
use Rattle.std.specs.Prelude.{unwrap_or, option_map}
use Rattle.std.specs.List.{list_any}
use Rattle.std.specs.Str.{bytes_eq}
use Rattle.indexmap.specs.IndexMap.{get_by}
use Rattle.module_names.specs.Words.{Bytes}
use Rattle.use_def.specs.Flows.{Set, everything}
use Rattle.use_def.specs.declared.names.Common.{Common}
use Rattle.use_def.specs.declared.names.Names.{Names}

-- one of these texts
abbrev pub is_one_of : List Bytes → Set
is_one_of texts text = list_any (λ t. bytes_eq t text) texts

-- the set without these, and with these
abbrev pub without : List Bytes → Set → Set
without texts s text = s text && not (is_one_of texts text)

abbrev pub with_texts : List Bytes → Set → Set
with_texts texts s text = s text || is_one_of texts text

-- the set with this text, where it is to be so
abbrev pub with_one : Bytes → Bool → Set → Set
with_one text so s other = s other || (so && bytes_eq text other)

-- the set with another answer for one text
abbrev pub changed : Bytes → Bool → Set → Set
changed text value s other = if bytes_eq text other then value else s other

-- the names that are marked
abbrev pub marked : Names → Set
marked names text = unwrap_or (get_by (λ k. bytes_eq text k.now) names.marks) false

-- those that each path so far has bound
abbrev pub assigned : Names → Set
assigned names text = names.ended || marked names text

-- those that were bound since the block began, and those that had been before
abbrev pub fresh : Names → List Bytes
fresh names = map (λ t. t.now) names.fresh.items

abbrev pub outside : Names → Set
outside names = without (fresh names) (marked names)

-- The names are what they were.
pub record AreBack (old new : Names) : Type 0 where
  pub marks : marked new ≡ marked old
  pub fresh : new.fresh.items ≡ old.fresh.items
  pub ended : new.ended ≡ old.ended

-- what is common to parts: names beside those of a set that each part had before
abbrev pub common_texts : Common → Option (List Bytes)
common_texts common = option_map (λ texts. map (λ t. t.now) texts.items) common.texts

abbrev pub set_of : Set → Option (List Bytes) → Set
set_of s None = everything
set_of s (Some texts) = with_texts texts s

abbrev pub common_set : Set → Common → Set
common_set s common = set_of s (common_texts common)
