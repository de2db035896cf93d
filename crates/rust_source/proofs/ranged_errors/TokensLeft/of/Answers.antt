use Rattle.std.proofs.Common.{◌≡◌, chars, rules, sym, subst}
use Rattle.rust_source.specs.RangedErrors.{all_tokens, spans_left, BeginFrom}
use Rattle.rust_source.specs.declared.ranged_errors.TokensLeft.{TokensLeft}
use Rattle.rust_source.proofs.RangedErrors.{tokens-in-order}
use Rattle.rust_source.proofs.ranged_errors.TokensLeft.of.Goals as goal

pub returns-clause-ordered : goal.returns-clause-ordered
returns-clause-ordered c =
    let left : TokensLeft = record { first = c.next-first.result; after = c.next-first.new.self } in
    let spans : spans_left left ≡ all_tokens c.args.source.now = search rules in
    subst (BeginFrom 0) (sym spans) (tokens-in-order c.args.source.now.document.edition (chars c.args.source.now.document.text))
