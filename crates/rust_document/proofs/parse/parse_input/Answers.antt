-- An input within the limit is not too long.
use Rattle.std.proofs.Common.{length, subst, arith, ◌<◌}
use Rattle.ra_parser.specs.Entries.{RefusesParse}
use Rattle.ra_parser.specs.declared.entry_points.ParseError.{ParseError}
use Rattle.rust_document.proofs.parse.parse_input.Goals as goal

pub unreachable-requires : goal.unreachable-requires
unreachable-requires c =
    let long : 16777216 < length c.args.tokens.now =
    subst (λ (e : ParseError). RefusesParse c.args.tokens.now e) c.in-Err-TooLong.field-0-is c.in-Err-TooLong.ensures.refused in
    omega (arith, long, c.requires)
