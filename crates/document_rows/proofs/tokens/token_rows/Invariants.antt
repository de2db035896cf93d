use Rattle.std.proofs.Common.{◌≡◌, ◌++◌, map}
use Rattle.rust_document.specs.Tokens.{span_of}
use Rattle.document_rows.specs.Rows.{token_row}
use Rattle.document_rows.proofs.tokens.token_rows.Given as goal

-- the rows so far and those of the tokens that are left are all
abbrev pub invariant-loop-token : goal.invariant-loop-token
invariant-loop-token l =
    l.rows.items ++ map token_row (map span_of l.token-iterator) ≡ map token_row (map span_of l.initial.token-iterator)
