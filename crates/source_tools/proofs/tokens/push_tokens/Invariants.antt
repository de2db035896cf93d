use Rattle.std.proofs.Common.{◌≡◌, ◌++◌, map}
use Rattle.std.specs.List.{flat_map}
use Rattle.rust_document.specs.Tokens.{span_of}
use Rattle.source_tools.specs.Texts.{row_of_token}
use Rattle.source_tools.proofs.tokens.push_tokens.Given as goal

abbrev pub invariant-loop-token : goal.invariant-loop-token
invariant-loop-token l =
    l.rows.items ++ flat_map (row_of_token l.text) (map span_of l.token-iterator)
    ≡ l.fn.rows.items ++ flat_map (row_of_token l.text) (map span_of l.initial.token-iterator)
