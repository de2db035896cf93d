use Rattle.std.proofs.Common.{◌≡◌, map}
use Rattle.std.specs.List.{list_any}
use Rattle.rust_document.specs.Tokens.{span_of}
use Rattle.source_tools.specs.Renames.{is_token}
use Rattle.source_tools.proofs.renaming.has_token.Given as goal

abbrev pub invariant-loop-token : goal.invariant-loop-token
invariant-loop-token l =
    list_any (is_token l.name l.text) (map span_of l.token-iterator)
    ≡ list_any (is_token l.name l.text) (map span_of l.initial.token-iterator)
