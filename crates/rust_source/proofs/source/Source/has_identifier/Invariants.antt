-- No token that was passed is the identifier.
use Rattle.std.proofs.Common.{◌≡◌, map}
use Rattle.std.specs.List.{list_any}
use Rattle.rust_document.specs.Tokens.{span_of}
use Rattle.rust_source.specs.Identifiers.{is_identifier}
use Rattle.rust_source.proofs.source.Source.has_identifier.Given as goal

abbrev pub invariant-loop-token : goal.invariant-loop-token
invariant-loop-token l =
    list_any (is_identifier l.name l.text) (map span_of l.token-iterator)
    ≡ list_any (is_identifier l.name l.text) (map span_of l.initial.token-iterator)
