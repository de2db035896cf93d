-- What was listed is the tree of the text.
use Rattle.std.proofs.Common.{chars}
use Rattle.ra_parser.specs.Entries.{production_of}
use Rattle.ra_parser.specs.Grammars.{is_whole}
use Rattle.tree_lines.proofs.ReadAs.{asked-is-entry, read-as}
use Rattle.tree_lines.proofs.reading.Reading.new.Goals as goal

pub returns-clause-tree : goal.returns-clause-tree
returns-clause-tree c =
    let start = c.new-tree.ensures in
    read-as (is_whole c.args.grammar) (production_of c.args.entry_point) c.args.edition (chars c.args.text.now) c.in_ok-lexed.lexed c.in_ok-input.input c.in_ok-output.output.steps c.new-tree.result c.intersperse_trivia.new.sink (asked-is-entry c.args.entry_point) c.in_ok-lexed.ensures c.in_ok-input.ensures c.in_ok-output.ensures.parsed (record { rows = start.rows; said = start.said; entered = start.entered; place = start.place }) c.in_ok-intersperse_trivia.ensures.tree
