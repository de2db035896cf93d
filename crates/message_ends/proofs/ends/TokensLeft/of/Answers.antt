use Rattle.std.proofs.Common.{◌≡◌, chars, rules, sym, subst}
use Rattle.message_ends.specs.Ends.{all_tokens}
use Rattle.message_ends.specs.TokensLeft.{spans_left, BeginFrom}
use Rattle.message_ends.specs.declared.ends.TokensLeft.{TokensLeft}
use Rattle.message_ends.proofs.Tokens.{tokens-in-order}
use Rattle.message_ends.proofs.ends.TokensLeft.of.Goals as goal

pub returns-clause-ordered : goal.returns-clause-ordered
returns-clause-ordered c =
    let left : TokensLeft = record { first = c.next-first.result; after = c.next-first.new.self } in
    let spans : spans_left left ≡ all_tokens c.args.document.now = search rules in
    subst (BeginFrom 0) (sym spans) (tokens-in-order c.args.document.now.edition (chars c.args.document.now.text))
