use Rattle.std.proofs.Common.{◌∙◌, map}
use Rattle.std.specs.String.{string_bytes}
use Rattle.clap.specs.Words.{app_of}
use Rattle.call_words.proofs.Sorts.{all_utf8, found, missed}
use Rattle.call_words.proofs.command_line.sorted.Goals as goal

pub returns-in-Ok : goal.returns-in-Ok
returns-in-Ok c =
    let words = c.args.words.now in
    found c.args.takes_workers (map string_bytes words) (all_utf8 words) (app_of c.in_ok-line.line) c.in_ok-line.ensures
    c.in-Ok.matches c.in-Ok.ensures.kinds c.in-Ok.ensures.matches

pub returns : goal.returns
returns c =
    let words = c.args.words.now in
    missed c.args.takes_workers (map string_bytes words) (all_utf8 words) (app_of c.in_ok-line.line)
    c.in_ok-line.ensures c.in-Err.error c.in-Err.ensures.kinds (λ e. c.in_default.not-OutOfMemory (c.kind.ensures ∙ e))
