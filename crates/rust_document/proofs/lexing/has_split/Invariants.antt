-- No token so far is split.
use Rattle.std.proofs.Common.{◌≡◌, false, take}
use Rattle.std.specs.List.{All}
use Rattle.parser_input.specs.Lexed.{is_split}
use Rattle.rust_document.proofs.lexing.has_split.Given as goal

abbrev pub invariant-loop-token : goal.invariant-loop-token
invariant-loop-token l = All (λ t. is_split l.edition t.kind ≡ false) (take l.token-index l.tokens)
