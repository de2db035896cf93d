-- What was tested, test by test.
use Rattle.std.proofs.Common.{arith}
use Rattle.ra_parser.specs.Entries.{production_of}
use Rattle.rust_document.proofs.Payloads.{entry_too_long, entry_message, entry_tree}
use Rattle.rust_document.proofs.payload_entry.whole_tree.Goals as goal

pub returns-then-text-gt-MAX_TEXT-clause-refused : goal.returns-then-text-gt-MAX_TEXT-clause-refused
returns-then-text-gt-MAX_TEXT-clause-refused c number = entry_too_long (production_of c.args.top) c.args.text.grammar c.args.text.edition c.args.text.text.now c.if-text-gt-MAX_TEXT.true

pub returns-then-len-gt0-clause-refused : goal.returns-then-len-gt0-clause-refused
returns-then-len-gt0-clause-refused c number =
    entry_message (production_of c.args.top) c.args.text.grammar c.args.text.edition c.args.text.text.now c.in_ok-reading.reading.errors.items c.if-text-gt-MAX_TEXT.false
    c.in_ok-reading.ensures.errors_are (omega (arith, c.if-len-gt0.true, c.len.ensures))

pub returns-clause-given : goal.returns-clause-given
returns-clause-given c =
    entry_tree (production_of c.args.top) c.args.text.grammar c.args.text.edition c.args.text.text.now c.in_ok-reading.reading.errors.items c.in_ok-reading.reading.root c.if-text-gt-MAX_TEXT.false
    c.in_ok-reading.ensures.errors_are (omega (arith, c.if-len-gt0.false, c.len.ensures)) c.in_ok-reading.ensures.root_is
