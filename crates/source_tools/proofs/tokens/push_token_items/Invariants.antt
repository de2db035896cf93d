use Rattle.std.proofs.Common.{◌≡◌, ◌++◌, map}
use Rattle.std.specs.List.{flat_map}
use Rattle.rust_document.specs.Tokens.{span_of}
use Rattle.source_tools.specs.Texts.{item_of_token}
use Rattle.source_tools.proofs.tokens.push_token_items.Given as goal

abbrev pub invariant-loop-token : goal.invariant-loop-token
invariant-loop-token l =
    l.items.items ++ flat_map item_of_token (map span_of l.token-iterator)
    ≡ l.fn.items.items ++ flat_map item_of_token (map span_of l.initial.token-iterator)
