use Rattle.std.proofs.Common.{rules, FitsSigned, w64, ◌≡◌, ◌∙◌, ap, sym, ◌∷◌, ℕ, ℤ, List, reverse}
use Rattle.view_places.specs.View.{extents}
use Rattle.array_ops.specs.Elements.{Bound}
use Rattle.loop_prog.specs.Templates.{push, spread_leaf}
use Rattle.loop_prog.specs.declared.program.TemplateStep.{TemplateStep}
use Rattle.loop_prog.specs.declared.program.TemplateStep.TheVariants as step
use Rattle.loop_exec.specs.Banks.{views_bound, words_bound}
use Rattle.loop_exec.specs.Leaves.{read_at, read_by}
use Rattle.loop_exec.proofs.StepLemmas.{leaf_reads}
use Rattle.loop_exec.proofs.Words.{word_kept}
use Rattle.loop_exec.proofs.element_calls.push_one.Goals as goal

pub returns-in-Leaf-clause-value : goal.returns-in-Leaf-clause-value
returns-in-Leaf-clause-value c =
    let words : List Bound = words_bound c.args.e.now.words.now in
    let views : List Bound = views_bound c.args.e.now.views.now in
    let ns : List ℕ = extents c.args.e.now.frame.now in
    let word : c.read.result ≡ read_at c.args.buffers.now c.args.number
    (spread_leaf ns (read_by views c.args.step)) =
    c.read.ensures c.args.number c.requires.place ∙
    ap (read_at c.args.buffers.now c.args.number) c.requires.leaf in
    let here : c.read.result ≡ read_at c.args.buffers.now c.args.number
    (spread_leaf ns (read_by views (step.Leaf c.in-Leaf.field-0))) =
    word ∙ ap (λ (s : TemplateStep). read_at c.args.buffers.now c.args.number (spread_leaf ns (read_by views s)))
    c.in-Leaf.is in
    let fits : FitsSigned w64 c.read.result = search rules in
    c.push.ensures.value ∙
    ap (λ (z : ℤ). z ∷ reverse c.args.stack.now.items)
    (word_kept c.read.result fits ∙ here ∙ sym (leaf_reads ns c.args.e.now.views.now c.in-Leaf.field-0
    c.args.buffers.now c.args.number
    c.requires.below)) ∙
    ap (λ (s : TemplateStep). push words views ns c.args.buffers.now c.args.number s (reverse c.args.stack.now.items))
    (sym c.in-Leaf.is)

pub returns-in-Un-clause-value : goal.returns-in-Un-clause-value
returns-in-Un-clause-value c =
    let words : List Bound = words_bound c.args.e.now.words.now in
    let views : List Bound = views_bound c.args.e.now.views.now in
    let ns : List ℕ = extents c.args.e.now.frame.now in
    c.push_unary.ensures.value words views ns c.args.buffers.now c.args.number ∙
    ap (λ (s : TemplateStep). push words views ns c.args.buffers.now c.args.number s (reverse c.args.stack.now.items))
    (sym c.in-Un.is)

pub returns-in-Bin-clause-value : goal.returns-in-Bin-clause-value
returns-in-Bin-clause-value c =
    let words : List Bound = words_bound c.args.e.now.words.now in
    let views : List Bound = views_bound c.args.e.now.views.now in
    let ns : List ℕ = extents c.args.e.now.frame.now in
    c.push_binary.ensures.value words views ns c.args.buffers.now c.args.number ∙
    ap (λ (s : TemplateStep). push words views ns c.args.buffers.now c.args.number s (reverse c.args.stack.now.items))
    (sym c.in-Bin.is)

pub returns-in-Select-clause-value : goal.returns-in-Select-clause-value
returns-in-Select-clause-value c =
    let words : List Bound = words_bound c.args.e.now.words.now in
    let views : List Bound = views_bound c.args.e.now.views.now in
    let ns : List ℕ = extents c.args.e.now.frame.now in
    c.push_select.ensures.value words views ns c.args.buffers.now c.args.number ∙
    ap (λ (s : TemplateStep). push words views ns c.args.buffers.now c.args.number s (reverse c.args.stack.now.items))
    (sym c.in-Select.is)
