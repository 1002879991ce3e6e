-- The text of statements. (This project's own form.)
use Rattle.std.specs.Prelude.{ℕ, ◌+◌, List, [], ◌∷◌, ◌++◌, codes, replicate, map, Option, Some, None}
use Rattle.std.specs.List.{flat_map}
use Rattle.krn_base.specs.declared.operation.Join.{Join}
use Rattle.krn_base.specs.declared.place.Loc.{Loc}
use Rattle.array_ops.specs.declared.operation.Fill.{Fill}
use Rattle.array_ops.specs.declared.operation.Fill.TheVariants as fills
use Rattle.eager_rules.specs.declared.program.CoreSub.{CoreSub}
use Rattle.eager_rules.specs.declared.program.CoreSub.TheVariants as sub
use Rattle.eager_rules.specs.declared.program.Oper.{Oper}
use Rattle.eager_rules.specs.declared.program.WordOp.{WordOp}
use Rattle.loop_prog.specs.declared.guard.Guard.{Guard}
use Rattle.loop_prog.specs.declared.program.Back.{Back}
use Rattle.loop_prog.specs.declared.program.Back.TheVariants as back
use Rattle.loop_prog.specs.declared.program.Reg.{Reg}
use Rattle.loop_prog.specs.declared.program.Statement.{Statement}
use Rattle.loop_prog.specs.declared.program.Statement.TheOpen as l
use Rattle.loop_prog.specs.declared.program.Statement.TheFolds.{fold-Statement}
use Rattle.loop_prog.specs.declared.program.Template.{Template}
use Rattle.loop_prog.specs.declared.program.Test.{Test}
use Rattle.loop_prog.specs.declared.program.Test.TheVariants as test
use Rattle.cpp_print.specs.Guards.{extent_text, guard_text}
use Rattle.cpp_print.specs.Trees.{template_text}
use Rattle.cpp_print.specs.Words.{Text, at_text, behind, join_name, join_sign, listed, opening, oper_text, reg_text}
use Rattle.cpp_print.specs.Words.{view_reg, word_op_exponent, word_op_name, word_reg}

-- ---- the parts of lines
abbrev pub opers : List Oper → Text
opers xs = behind oper_text xs

abbrev pub views_text : List ℕ → Text
views_text vs = behind view_reg vs

-- a call of a function of the form up to its place
unfoldable pub call_at : Text → Loc → Text
call_at name at = opening name ++ at_text at

-- a call of a view's function up to its place
unfoldable pub method_at : ℕ → Text → Loc → Text
method_at of name at = view_reg of ++ (name ++ at_text at)

unfoldable pub bound_word : ℕ → Text
bound_word to = word_reg to ++ codes " = "

unfoldable pub bound_view : ℕ → Text
bound_view to = view_reg to ++ codes " = "

-- an end of a slice
abbrev pub end_text : Option Oper → Text
end_text None = codes "krn::none"
end_text (Some x) = oper_text x

unfoldable pub cut_text : Option Oper → Option Oper → Option Oper → Text
cut_text start stop by = opening (codes "cut") ++ (end_text start ++ (codes ", " ++
    (end_text stop ++ (codes ", " ++ (end_text by ++ codes ")")))))

abbrev pub sub_text : CoreSub → Text
sub_text (sub.At x) = oper_text x
sub_text (sub.Cut start stop by) = cut_text start stop by

abbrev pub fill_name : Fill → Text
fill_name fills.Zero = codes "zero"
fill_name fills.One = codes "one"
fill_name fills.Count = codes "count"

abbrev pub test_name : Test → Text
test_name test.Fits = codes "fits"
test_name test.Filled = codes "some"

abbrev pub back_text : Back → Text
back_text (back.Word x) = oper_text x
back_text (back.View v) = view_reg v

-- ---- the statements of one line, without indentation
unfoldable pub set_text : ℕ → WordOp → List Oper → Loc → Text
set_text to op args at =
    bound_word to ++ (call_at (word_op_name op) at ++ (opers args ++ (word_op_exponent op ++ codes ");\n")))

abbrev pub size_text : ℕ → Option ℕ → Text
size_text of (Some d) = extent_text of d
size_text of None = view_reg of ++ codes ".size()"

unfoldable pub extent_line : ℕ → ℕ → Option ℕ → Text
extent_line to of d = bound_word to ++ (size_text of d ++ codes ";\n")

unfoldable pub get_text : ℕ → ℕ → List Oper → Loc → Text
get_text to of index at = bound_word to ++ (method_at of (codes ".get(") at ++ (opers index ++ codes ");\n"))

unfoldable pub put_text : ℕ → List Oper → Oper → Loc → Text
put_text of index value at = method_at of (codes ".put(") at ++
    (codes ", " ++ (oper_text value ++ (opers index ++ codes ");\n")))

unfoldable pub view_of_text : ℕ → ℕ → List CoreSub → Loc → Text
view_of_text to of subs at =
    bound_view to ++ (method_at of (codes ".pick(") at ++ (behind sub_text subs ++ codes ");\n"))

unfoldable pub flip_text : ℕ → ℕ → Text
flip_text to of = bound_view to ++ (view_reg of ++ codes ".flip();\n")

unfoldable pub same_text : ℕ → ℕ → Text
same_text to of = bound_view to ++ (view_reg of ++ codes ";\n")

unfoldable pub fresh_text : ℕ → List Oper → Fill → Loc → Text
fresh_text to dims fill at =
    bound_view to ++ (call_at (codes "fresh") at ++
    (codes ", krn::" ++ (fill_name fill ++ (opers dims ++ codes ");\n"))))

unfoldable pub like_text : ℕ → List ℕ → Loc → Text
like_text to views at = bound_view to ++ (call_at (codes "like") at ++ (views_text views ++ codes ");\n"))

unfoldable pub check_text : Test → List ℕ → Loc → Text
check_text test views at = call_at (test_name test) at ++ (views_text views ++ codes ");\n")

unfoldable pub nest_text : ℕ → Template → Loc → Text
nest_text to template at =
    call_at (codes "nest") at ++ (codes ", " ++ (view_reg to ++
    (codes ", " ++ (template_text template.steps ++ codes ");\n"))))

-- a call of a fold up to its place
unfoldable pub fold_at : Join → Loc → Text
fold_at join at = codes "krn::fold_" ++ (join_name join ++ (codes "(" ++ at_text at))

unfoldable pub fold_text : ℕ → Join → Template → Loc → Text
fold_text to join template at =
    bound_word to ++ (fold_at join at ++ (codes ", " ++ (template_text template.steps ++ codes ");\n")))

unfoldable pub release_text : ℕ → Text
release_text view = view_reg view ++ codes ".release();\n"

unfoldable pub return_text : List Back → Text
return_text values = codes "return " ++ (opening (codes "ret") ++ (listed back_text values ++ codes ");\n"))

abbrev pub simple_text : {A : Type 0} → l.Statement-F A → Text
simple_text (l.Set to op args at) = set_text to op args at
simple_text (l.Extent to of d) = extent_line to of d
simple_text (l.Get to of index at) = get_text to of index at
simple_text (l.Put of index value at) = put_text of index value at
simple_text (l.ViewOf to of subs at) = view_of_text to of subs at
simple_text (l.Flip to of) = flip_text to of
simple_text (l.Same to of) = same_text to of
simple_text (l.Fresh to dims fill at) = fresh_text to dims fill at
simple_text (l.Like to views at) = like_text to views at
simple_text (l.Check test views at) = check_text test views at
simple_text (l.Nest to template at) = nest_text to template at
simple_text (l.Fold to join template at) = fold_text to join template at
simple_text (l.Release view) = release_text view
simple_text (l.Return values) = return_text values
simple_text _ = []

-- ---- statements with blocks, and indentation
-- the text of a statement, by the number of statements that it stands in
abbrev pub Indented : Type 0
Indented = ℕ → Text

-- one space for the kernel's block, and one for each block of the statements around
abbrev pub indent : ℕ → Text
indent d = replicate (d + 1) 32

abbrev pub block : List Indented → Indented
block body d = flat_map (λ text. text d) body

unfoldable pub condition_text : Oper → Indented
condition_text cond d = indent d ++ (codes "if (" ++ (oper_text cond ++ codes ") {\n"))

unfoldable pub else_text : Indented
else_text d = indent d ++ codes "} else {\n"

unfoldable pub end_of_block : Indented
end_of_block d = indent d ++ codes "}\n"

unfoldable pub if_text : Oper → Text → Text → Indented
if_text cond part other d = condition_text cond d ++ (part ++ (else_text d ++ (other ++ end_of_block d)))

unfoldable pub for_start : Text
for_start = codes "for (int64_t q : "

unfoldable pub range_text : List Oper → Loc → Text
range_text ends at = for_start ++ (call_at (codes "range") at ++ (opers ends ++ codes ")) {\n"))

unfoldable pub turn_text : ℕ → Text
turn_text var = word_reg var ++ codes " = q;\n"

-- the lines of a loop up to its body
unfoldable pub loop_text : ℕ → List Oper → Loc → Indented
loop_text var ends at d = indent d ++ (range_text ends at ++ (indent (d + 1) ++ turn_text var))

unfoldable pub for_text : ℕ → List Oper → Loc → Text → Indented
for_text var ends at body d = loop_text var ends at d ++ (body ++ end_of_block d)

unfoldable pub reduction_start : Text
reduction_start = codes " reduction("

abbrev pub reduction_text : Join × ℕ → Text
reduction_text p = reduction_start ++ (join_sign p.0 ++ (codes ": " ++ (word_reg p.1 ++ codes ")")))

unfoldable pub pragma_start : Text
pragma_start = codes "#pragma omp parallel for if ("

unfoldable pub privates_text : List Reg → Text
privates_text privates = codes " private(" ++ (listed reg_text privates ++ codes ")\n")

unfoldable pub pragma_text : Guard → List (Join × ℕ) → List Reg → Text
pragma_text guard reductions privates =
    pragma_start ++ (guard_text guard ++ (codes ")" ++ (flat_map reduction_text reductions ++
    privates_text privates)))

abbrev pub statement_step : l.Statement-F Indented → Indented
statement_step (l.If cond part other) d = if_text cond (block part (d + 1)) (block other (d + 1)) d
statement_step (l.For var lo hi by at body) d = for_text var (lo ∷ hi ∷ by ∷ []) at (block body (d + 1)) d
statement_step (l.ParFor var lo hi by at guard reductions privates body) d =
    pragma_text guard reductions privates ++ for_text var (lo ∷ hi ∷ by ∷ []) at (block body (d + 1)) d
statement_step y d = indent d ++ simple_text y

abbrev pub statement_text : Statement → Indented
statement_text = fold-Statement Indented statement_step

abbrev pub block_text : List Statement → Indented
block_text body = block (map statement_text body)
