use Rattle.std.proofs.Common.{◌≤◌, List, length, refl, sym, ap, ◌∙◌, arith}
use Rattle.parser_input.specs.Input.{Token}
use Rattle.rust_grammar.specs.Meaning.{ahead, leaf, read}
use Rattle.rust_productions.specs.Looks.{tokens}
use Rattle.rust_productions.specs.declared.condition.Condition.TheVariants.{Off}
use Rattle.rust_productions.proofs.ByHand.{does-as, does-then}
use Rattle.rust_productions.proofs.Facts.{saw-so}
use Rattle.ra_parser.proofs.Taking.{all-taken, none-left, none-taken, some-left, token-taken}
use Rattle.ra_parser.proofs.entries.take_rest.Goals as goal

pub tokens-init : goal.tokens-init
tokens-init c = record { taken = none-taken _; looks = omega arith }

pub take_any-requires : goal.take_any-requires
take_any-requires c = omega (arith, some-left (saw-so (c.at_token.ensures.sees Off) c.tokens-test.true), c.at_token.ensures.left)

pub tokens-preserved : goal.tokens-preserved
unfolding read tokens
tokens-preserved c =
    let before = c.tokens.invariant.taken in
    let some : 1 ≤ tokens c.tokens.p = some-left (saw-so (c.at_token.ensures.sees Off) c.tokens-test.true) in
    record {
      taken = record {
        moves = λ s. leaf (ahead 0 (before.moves s).rest).kind 1 (before.moves s);
        does = does-then before.does (does-then c.at_token.ensures.same (does-as (λ s e. refl) (c.take_any.ensures.reads Off).does));
        same = λ s e. token-taken (before.moves s) (omega (arith, some, ap (λ (ts : List Token). length ts) (before.does.rest s e))) ∙ before.same s e;
      };
      looks = omega (arith, c.tokens.invariant.looks, c.at_token.ensures.looks, c.take_any.ensures.looks);
    }

pub returns-clause-takes : goal.returns-clause-takes
unfolding tokens
returns-clause-takes c =
    let all = c.tokens.invariant.taken in
    let none : tokens c.tokens.p ≤ 0 = none-left (saw-so (c.at_token.ensures.sees Off) c.tokens-test.false) in
    does-then
    (does-as (λ s e. sym (all-taken (all.moves s) (omega (arith, none, ap (λ (ts : List Token). length ts) (all.does.rest s e)))) ∙ all.same s e) all.does)
    c.at_token.ensures.same
