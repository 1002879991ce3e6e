-- What the descent answers on a source and its tokens. The clauses of `parse` follow from it and don't cite it.
use Rattle.std.specs.Prelude.{◌≡◌, Result, Ok, Err}
use Rattle.krn_base.specs.declared.refusal.Rule.TheVariants as rule
use Rattle.krn_base.specs.declared.refusal.Stop.{Stop}
use Rattle.krn_base.specs.declared.refusal.Stop.TheVariants as stop
use Rattle.py_lex.specs.Bytes.{Bytes}
use Rattle.py_lex.specs.declared.token.Tokens.{Tokens}
use Rattle.py_parse.specs.declared.tree.Module.{Module}
use Rattle.py_parse.specs.Blocks.{parts}
use Rattle.py_parse.specs.Lexemes.{Lexemes, lexemes}
use Rattle.py_parse.specs.Notes.{notes_of}
use Rattle.py_parse.specs.Parsed.{levels}
use Rattle.py_parse.specs.Parser.{place}

abbrev pub IsDescended : Bytes → Tokens → Result Module Stop → Type 0
IsDescended source tokens (Ok m) =
    (rest : Lexemes) × (parts levels (lexemes source tokens.tokens) ≡ Ok ((m.imports, m.functions), rest))
    × (m.notes ≡ notes_of source tokens.tokens tokens.notes)
IsDescended source tokens (Err (stop.Refused r)) =
    (r.rule ≡ rule.Syntax) × (rest : Lexemes) × (parts levels (lexemes source tokens.tokens) ≡ Err rest)
    × (r.loc ≡ place rest)
IsDescended source tokens (Err stop.Memory) = Unit {0}
