use Rattle.std.proofs.Common.{rules, FitsSigned, w64, to_z, of_z, ◌≡◌, ◌∙◌, ap, [], List, ℤ, Option, Ok, map}
use Rattle.view_places.specs.declared.view.View.{View}
use Rattle.array_ops.specs.Arrays.{ArrayRef, array_of, with_word}
use Rattle.array_ops.specs.Subscripts.{and_then, element_place}
use Rattle.eager_rules.specs.Works.{Done, array_in, changed, word_of}
use Rattle.loop_exec.specs.Banks.{views_bound, words_bound}
use Rattle.loop_exec.specs.Running.{reached}
use Rattle.loop_prog.specs.Serial.{finish}
use Rattle.loop_prog.specs.State.{operand_in, view_in}
use Rattle.loop_exec.proofs.Words.{word_kept}
use Rattle.loop_exec.proofs.statements.put.Goals as goal

pub returns : goal.returns
returns c =
    let fits : FitsSigned w64 c.word-value.result = search rules in
    let stored = λ (a : ArrayRef) (index : List ℤ) (z : ℤ).
    changed c.args.run.now.bank.buffers c.args.at (and_then (element_place a index)
    (λ place. Ok (with_word c.args.run.now.bank.buffers a.buffer place z))) in
    let target : array_of c.array-target.result ≡
    array_in (view_in (views_bound c.args.run.now.bank.views) c.args.of) =
    c.array-target.ensures ∙
    ap (λ (vs : List (Option View)). array_in (view_in (views_bound vs) c.args.of)) c.as_slice-2.ensures in
    let index : c.as_slice-4.result.now ≡
    map word_of (map (operand_in (words_bound c.args.run.now.bank.words)) c.args.index.now) =
    c.as_slice-4.ensures ∙ c.in_ok-index.ensures ∙
    ap (λ (ws : List (Option ℤ)). map word_of (map (operand_in (words_bound ws)) c.args.index.now))
    c.as_slice.ensures in
    let value : to_z w64 (of_z w64 c.word-value.result) ≡
    word_of (operand_in (words_bound c.args.run.now.bank.words) c.args.value) =
    word_kept c.word-value.result fits ∙ c.word-value.ensures ∙
    ap (λ (ws : List (Option ℤ)). word_of (operand_in (words_bound ws) c.args.value)) c.as_slice-3.ensures in
    c.finish_none.ensures c.put_element-made.new.buffers (reached c.args.run.now) ∙
    ap (λ (d : Done). finish [] d (reached c.args.run.now))
    (c.put_element-made.ensures ∙
    ap (λ (a : ArrayRef). stored a c.as_slice-4.result.now (to_z w64 (of_z w64 c.word-value.result))) target ∙
    ap (λ (xs : List ℤ). stored (array_in (view_in (views_bound c.args.run.now.bank.views) c.args.of)) xs
    (to_z w64 (of_z w64 c.word-value.result))) index ∙
    ap (stored (array_in (view_in (views_bound c.args.run.now.bank.views) c.args.of))
    (map word_of (map (operand_in (words_bound c.args.run.now.bank.words)) c.args.index.now))) value)
