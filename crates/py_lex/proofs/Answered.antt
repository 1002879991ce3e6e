-- What a call that gives the definition's answer says of it.
use Rattle.std.proofs.Common.{Result, Ok, Err, sym, ◌∙◌}
use Rattle.std.specs.Prelude.{IfOk, IfErr}
use Rattle.std.specs.List.{AllByRecursion}
use Rattle.krn_base.specs.declared.refusal.Stop.{Stop}
use Rattle.krn_base.specs.declared.refusal.Stop.TheVariants.{Refused, Memory}
use Rattle.py_lex.specs.declared.token.Tokens.{Tokens}
use Rattle.py_lex.specs.Bytes.{Bytes}
use Rattle.py_lex.specs.Layout.{tokens_of}
use Rattle.py_lex.specs.Lexed.{IsLexed, IsRefusal, IsOnly}
use Rattle.py_lex.specs.Laws.{IsLongest, IsInBlocks, IsBalanced, AreNotes, IsViable}
use Rattle.py_lex.specs.Views.{Lists}
use Rattle.py_lex.proofs.GoodLaws.{ok-same, refused-ok}
use Rattle.py_lex.proofs.LexedLaws.{lexed, Whole, whole, all-longest}
use Rattle.py_lex.proofs.BlockLaws.{balanced}
use Rattle.py_lex.proofs.FrontLaws.{behind-front}

pub lists-lexed : (source : Bytes) (r : Result Tokens Stop) → Lists (tokens_of source) r
    → IfOk r (λ ts. IsLexed source ts)
lists-lexed source (Ok ts) h = lexed source ts h
lists-lexed source (Err stop) h = tt

pub lists-refused : (source : Bytes) (r : Result Tokens Stop) → Lists (tokens_of source) r → IfErr r (IsRefusal source)
lists-refused source (Ok ts) h = tt
lists-refused source (Err (Refused r)) h = h
lists-refused source (Err Memory) h = tt

pub lists-only : (source : Bytes) (r : Result Tokens Stop) → Lists (tokens_of source) r → (ts : Tokens)
    → IsLexed source ts → IsOnly ts r
lists-only source (Ok us) h ts own = ok-same us ts (sym h ∙ own.is_list)
lists-only source (Err (Refused r)) h ts own = refused-ok r.loc ts (sym h.1 ∙ own.is_list)
lists-only source (Err Memory) h ts own = tt

pub lists-longest : (source : Bytes) (r : Result Tokens Stop) → Lists (tokens_of source) r
    → IfOk r (λ ts. AllByRecursion (IsLongest source) ts.tokens)
lists-longest source (Ok ts) h = all-longest source ts h
lists-longest source (Err stop) h = tt

pub lists-blocks : (source : Bytes) (r : Result Tokens Stop) → Lists (tokens_of source) r
    → IfOk r (λ ts. IsInBlocks source ts.tokens)
lists-blocks source (Ok ts) h = (whole source ts h).blocks
lists-blocks source (Err stop) h = tt

pub lists-balanced : (source : Bytes) (r : Result Tokens Stop) → Lists (tokens_of source) r
    → IfOk r (λ ts. IsBalanced ts.tokens)
lists-balanced source (Ok ts) h = balanced source ts.tokens (whole source ts h).blocks
lists-balanced source (Err stop) h = tt

pub lists-notes : (source : Bytes) (r : Result Tokens Stop) → Lists (tokens_of source) r
    → IfOk r (λ ts. AreNotes source ts)
lists-notes source (Ok ts) h = (whole source ts h).notes
lists-notes source (Err stop) h = tt

pub lists-viable : (source : Bytes) (r : Result Tokens Stop) → Lists (tokens_of source) r → IfErr r (IsViable source)
lists-viable source (Ok ts) h = tt
lists-viable source (Err (Refused r)) h = behind-front source r.loc h.1
lists-viable source (Err Memory) h = tt
