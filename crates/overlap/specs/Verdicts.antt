-- The verdict on a target and a leaf of its shape, by buffers, offsets and strides. The rule is this project's own.
use Rattle.std.specs.Prelude.{ℕ, ◌==◌, Bool, true, not, ◌&&◌, ◌||◌, if◌then◌else◌, nat_lt, nat_le, List, [], ◌∷◌, zip}
use Rattle.std.specs.Prelude.{ℤ, ◌-ℤ◌, int_le, unsigned_abs}
use Rattle.std.specs.Ordering.{int_eq}
use Rattle.view_places.specs.declared.spread.Spread.{Spread}
use Rattle.view_places.specs.declared.view.View.{View}
use Rattle.view_places.specs.Rows.{rows}
use Rattle.view_places.specs.Spread.{places as places_read}
use Rattle.view_places.specs.View.{places}
use Rattle.overlap.specs.Divisors.{gcd, is_multiple}
use Rattle.overlap.specs.Lists.{MeetNowhere}
use Rattle.overlap.specs.Spans.{is_empty, are_disjoint, rises}
use Rattle.overlap.specs.declared.table.Verdict.{Verdict}
use Rattle.overlap.specs.declared.table.Verdict.TheVariants.{Apart, Same, Ahead, Clash}

-- a buffer, an offset, and each dimension's extent and stride
pub record Laid : Type 0 where
  pub buffer : ℕ
  pub offset : ℤ
  pub dims : List (ℕ × ℤ)

abbrev pub of_view : View → Laid
of_view v = record { buffer = v.buffer; offset = v.offset; dims = zip v.extent v.stride }

abbrev pub of_spread : Spread → Laid
of_spread s = record { buffer = s.buffer; offset = s.offset; dims = zip s.extent s.stride }

-- the places in row-major order
abbrev pub entries : Laid → List ℤ
entries a = rows a.dims a.offset

-- the greatest common divisor of the strides in use, which are those of extents above 1
abbrev pub divisor : List (ℕ × ℤ) → ℕ
divisor [] = 0
divisor (d ∷ ds) = if nat_lt 1 d.0 then gcd (divisor ds) (unsigned_abs d.1) else divisor ds

-- two views of one shape have equal strides in use
abbrev pub are_alike : List (ℕ × ℤ) → List (ℕ × ℤ) → Bool
are_alike [] es = true
are_alike (d ∷ ds) [] = true
are_alike (d ∷ ds) (e ∷ es) = (nat_le d.0 1 || int_eq d.1 e.1) && are_alike ds es

-- the difference of the offsets is a multiple of the greatest common divisor of all strides in use
abbrev pub can_meet : Laid → Laid → Bool
can_meet a b = is_multiple (gcd (divisor b.dims) (divisor a.dims)) (b.offset -ℤ a.offset)

-- the buffers differ; or one has no element; or the intervals from least to greatest place are disjoint; or the
-- difference of the offsets is no multiple of the greatest common divisor of all strides in use
unfoldable pub is_apart : Laid → Laid → Bool
is_apart a b =
    not (a.buffer == b.buffer) || ((is_empty (entries a) || is_empty (entries b)) ||
    (are_disjoint (entries a) (entries b) || not (can_meet a b)))

-- equal offsets and equal strides in use
abbrev pub is_same : Laid → Laid → Bool
is_same a b = int_eq a.offset b.offset && are_alike a.dims b.dims

-- equal strides in use, the target's places rise, and the leaf's offset is not below the target's
abbrev pub is_ahead : Laid → Laid → Bool
is_ahead a b = are_alike a.dims b.dims && (rises (entries a) && int_le a.offset b.offset)

-- the first verdict that holds
unfoldable pub verdict_of : Laid → Laid → Verdict
verdict_of a b = if is_apart a b then Apart else (if is_same a b then Same else (if is_ahead a b then Ahead else Clash))

-- where the buffers are one, no place of a leaf is one of the target
abbrev pub NothingShared : View → Spread → Type 0
NothingShared to from = MeetNowhere to.buffer (places to) from.buffer (places_read from)
