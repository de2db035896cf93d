-- The reading of a text as a source file.
use Rattle.std.proofs.Common.{chars, ap, subst}
use Rattle.parser_input.specs.Stored.{Whole}
use Rattle.parser_input.specs.declared.edition.Edition.{Edition}
use Rattle.ra_parser.specs.declared.entry_points.TopEntryPoint.TheVariants.{SourceFile}
use Rattle.rust_document.specs.IsReading.{IsReading}
use Rattle.rust_document.proofs.Readings.{few-tokens, input-is, steps-are}
use Rattle.rust_document.proofs.read.read_first.Goals as goal

pub parse_input-requires : goal.parse_input-requires
parse_input-requires c = few-tokens c.args.grammar c.args.edition c.args.text.now _ _ c.utf8.text c.in_ok-lexed.ensures c.in_ok-input.ensures c.requires

pub read_leaves-requires-clause-parsed : goal.read_leaves-requires-clause-parsed
read_leaves-requires-clause-parsed c =
    let text = chars c.args.text.now in
    let made = input-is c.args.grammar c.args.edition text c.in_ok-lexed.lexed _ c.in_ok-lexed.ensures c.in_ok-input.ensures in
    (SourceFile, (c.args.grammar, steps-are SourceFile c.args.grammar c.args.edition text c.in_ok-lexed.lexed _ _ c.in_ok-lexed.ensures made c.in_ok-output.ensures.parsed))

pub returns : goal.returns
returns c =
    let text = chars c.args.text.now in
    let made = input-is c.args.grammar c.args.edition text c.in_ok-lexed.lexed _ c.in_ok-lexed.ensures c.in_ok-input.ensures in
    let own = steps-are SourceFile c.args.grammar c.args.edition text c.in_ok-lexed.lexed _ _ c.in_ok-lexed.ensures made c.in_ok-output.ensures.parsed in
    let r = c.in_ok-reading.reading in
    record {
      reading_is =
          subst (λ (e : Edition). IsReading c.args.grammar e text r.tokens.items r.root r.errors.items) (ap (λ (w : Whole). w.edition) c.in_ok-lexed.ensures)
          (c.in_ok-reading.ensures SourceFile c.args.grammar own);
      kept_is = c.in_ok-kept.ensures;
      parse_is = record { input_is = made; own = c.in_ok-output.ensures.parsed };
    }
