-- The text of guards of parallel loops. (This project's own form.)
use Rattle.std.specs.Prelude.{ℕ, ℤ, List, ◌++◌, codes, Option, Some, None}
use Rattle.std.specs.Fmt.{decimal, signed_decimal}
use Rattle.loop_prog.specs.declared.guard.Axis.{Axis}
use Rattle.loop_prog.specs.declared.guard.Axis.TheVariants as axis
use Rattle.loop_prog.specs.declared.guard.Dims.{Dims}
use Rattle.loop_prog.specs.declared.guard.Form.{Form}
use Rattle.loop_prog.specs.declared.guard.Guard.{Guard}
use Rattle.loop_prog.specs.declared.guard.GuardPart.{GuardPart}
use Rattle.loop_prog.specs.declared.guard.GuardPart.TheVariants as part
use Rattle.loop_prog.specs.declared.guard.Symbol.{Symbol}
use Rattle.loop_prog.specs.declared.guard.Symbol.TheVariants as symbol
use Rattle.cpp_print.specs.Words.{Text, behind, listed, opening, view_reg, word_reg}

abbrev pub extent_text : ℕ → ℕ → Text
extent_text v d = view_reg v ++ (codes ".extent(" ++ (decimal d ++ codes ")"))

abbrev pub symbol_text : Symbol → Text
symbol_text (symbol.Reg r) = word_reg r
symbol_text (symbol.Extent v d) = extent_text v d

-- a coefficient and its symbol
abbrev pub term_text : ℤ × Symbol → Text
term_text p = signed_decimal p.0 ++ (codes ", " ++ symbol_text p.1)

unfoldable pub form_text : Form → Text
form_text form = opening (codes "form") ++ (signed_decimal form.constant ++ (behind term_text form.terms ++ codes ")"))

abbrev pub next_form : Form → Text
next_form form = codes ", " ++ form_text form

-- a bound of a slice, behind a comma and a space
abbrev pub next_bound : Option Form → Text
next_bound None = codes ", krn::none"
next_bound (Some form) = next_form form

unfoldable pub count_text : ℕ → ℕ → Option Form → Option Form → Option Form → Text
count_text v d start stop by = view_reg v ++ (codes ".count(" ++ (decimal d ++
    (next_bound start ++ (next_bound stop ++ (next_bound by ++ codes ")")))))

abbrev pub axis_text : Axis → Text
axis_text (axis.Extent v d) = extent_text v d
axis_text (axis.Count v d start stop by) = count_text v d start stop by

unfoldable pub dims_text : Dims → Text
dims_text dims = opening (codes "dims") ++ (listed axis_text dims.axes ++ codes ")")

unfoldable pub loop_part : ℕ → Form → Form → ℤ → Text
loop_part var lo hi by = opening (codes "loop") ++ (word_reg var ++
    (next_form lo ++ (next_form hi ++ (codes ", " ++ (signed_decimal by ++ codes ")")))))

unfoldable pub apart_part : ℕ → ℕ → Text
apart_part a b = opening (codes "apart") ++ (view_reg a ++ (codes ", " ++ (view_reg b ++ codes ")")))

unfoldable pub inside_part : ℕ → ℕ → Form → Text
inside_part view d form = opening (codes "inside") ++ (view_reg view ++
    (codes ", " ++ (decimal d ++ (next_form form ++ codes ")"))))

unfoldable pub shapes_part : Text → List Dims → Text
shapes_part name shapes = opening name ++ (listed dims_text shapes ++ codes ")")

unfoldable pub into_part : Dims → List Dims → Text
into_part to from = opening (codes "into") ++ (dims_text to ++ (behind dims_text from ++ codes ")"))

-- a condition of a guard
abbrev pub part_text : GuardPart → Text
part_text (part.Loop var lo hi by) = loop_part var lo hi by
part_text (part.Apart a b) = apart_part a b
part_text (part.Inside view d form) = inside_part view d form
part_text (part.Fits shapes) = shapes_part (codes "fits") shapes
part_text (part.Filled shapes) = shapes_part (codes "some") shapes
part_text (part.Into to from) = into_part to from

unfoldable pub guard_text : Guard → Text
guard_text guard = opening (codes "guard") ++ (listed part_text guard.parts ++ codes ")")
