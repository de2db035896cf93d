use Rattle.rust_document.proofs.Readings.{few-tokens}
use Rattle.rust_document.proofs.read.read.Goals as goal

pub parse_input-requires : goal.parse_input-requires
parse_input-requires c = few-tokens c.args.grammar c.args.edition c.args.text.now _ _ c.utf8.text c.in_ok-lexed.ensures c.in_ok-input.ensures c.requires
