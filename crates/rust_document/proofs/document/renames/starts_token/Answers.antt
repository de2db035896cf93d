-- The first token that does not start before the byte is looked at.
use Rattle.std.proofs.Common.{◌≡◌, ◌<◌, nat_lt, length, rules, of_calls, arith, sym, ◌∙◌, ap}
use Rattle.std.proofs.lemmas.Bool.{eq-eqb, eqb-true, false≢true}
use Rattle.std.proofs.lemmas.Fn.{always_returns_same}
use Rattle.std.proofs.lemmas.List.Sorted.{IsPartitionedBy-ltb}
use Rattle.rust_document.specs.declared.tokens.LexedToken.{LexedToken}
use Rattle.rust_document.proofs.RenameTests.{IsFirstFrom, found-there, found-within, starts-there}
use Rattle.rust_document.proofs.document.renames.starts_token.Goals as goal

pub returns-then-index-tokens : goal.returns-then-index-tokens
returns-then-index-tokens c =
    let ts = c.args.tokens.now in
    let point : IsFirstFrom ts c.args.start c.partition_point-index.result =
    c.partition_point-index.ensures.partitioned (λ t. nat_lt t.range.start.0 c.args.start) (always_returns_same _ _ _ (λ a r f k. search (rules, of_calls)))
    (IsPartitionedBy-ltb (λ (t : LexedToken). t.range.start.0) ts c.args.start c.requires) in (
      λ no. absurd (false≢true no),
      λ s. let within = found-within ts c.args.start c.partition_point-index.result point s in absurd (omega (arith, within, c.if-index-tokens.true)),
    )

pub returns : goal.returns
returns c =
    let ts = c.args.tokens.now in
    let start = c.args.start in
    let i = c.partition_point-index.result in
    let t = c.index-tokens-index.result in
    let point : IsFirstFrom ts start i =
    c.partition_point-index.ensures.partitioned (λ t. nat_lt t.range.start.0 start) (always_returns_same _ _ _ (λ a r f k. search (rules, of_calls)))
    (IsPartitionedBy-ltb (λ (t : LexedToken). t.range.start.0) ts start c.requires) in
    let within : i < length ts = omega (arith, c.if-index-tokens.false) in
    let from : c.from.result ≡ t.range.start.0 = cc in (
      λ same. starts-there ts start i t within c.index-tokens-index.is (sym from ∙ eqb-true _ _ same),
      λ s. eq-eqb _ _ (from ∙ ap (λ (x : LexedToken). x.range.start.0) c.index-tokens-index.is ∙ found-there ts start i t c.requires point s),
    )
