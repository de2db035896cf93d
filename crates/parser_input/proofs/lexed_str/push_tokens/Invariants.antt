use Rattle.std.proofs.Common.{◌≡◌, chars, drop}
use Rattle.rustc_lexer.specs.Tokens.{token_list}
use Rattle.parser_input.specs.Stored.{Found}
use Rattle.parser_input.proofs.lexed_str.push_tokens.Given as goal

abbrev pub invariant-loop-i : goal.invariant-loop-i
invariant-loop-i l = Found l.edition l.text l.place l.leaves.items × (drop l.i l.tokens ≡ token_list (chars (drop l.place l.text)))
