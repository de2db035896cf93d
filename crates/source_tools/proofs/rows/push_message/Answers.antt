use Rattle.std.proofs.Common.{◌≤◌, arith}
use Rattle.std.proofs.lemmas.Grind.{common_steps}
use Rattle.line_index.specs.Lines.{feeds}
use Rattle.source_tools.proofs.RowLemmas.{line-within, line-fits, col-fits}
use Rattle.source_tools.proofs.rows.push_message.Goals as goal

pub unreachable-requires : goal.unreachable-requires
unreachable-requires c =
    let within : c.args.message.now.place.line ≤ feeds c.args.index.now = rw c.requires.place (line-within c.args.index.now c.args.message.now.offset) in
    let none = c.in_default.ensures.variant in
    grind (arith, common_steps, within, none)

pub row_of-requires-clause-line : goal.row_of-requires-clause-line
row_of-requires-clause-line c = rw c.requires.place (line-fits c.args.index.now c.args.message.now.offset c.requires.text)

pub row_of-requires-clause-col : goal.row_of-requires-clause-col
row_of-requires-clause-col c = rw c.requires.place (col-fits c.args.index.now c.args.message.now.offset c.requires.text)
