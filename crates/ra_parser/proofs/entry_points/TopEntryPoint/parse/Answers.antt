-- What is read is the entry's tree; the lookahead after it changes only their number.
use Rattle.std.proofs.Common.{◌∙◌, sym, ap}
use Rattle.parser_events.specs.Forest.{Forest}
use Rattle.parser_events.specs.Steps.{steps}
use Rattle.parser_events.specs.View.{View}
use Rattle.ra_parser.specs.Entries.{production_of}
use Rattle.ra_parser.proofs.CoreLists.{core-entry}
use Rattle.ra_parser.proofs.Entered.{read-steps}
use Rattle.ra_parser.proofs.Fitting.{fit-every}
use Rattle.ra_parser.proofs.entry_points.TopEntryPoint.parse.Goals as goal

pub returns-clause-parsed : goal.returns-clause-parsed
returns-clause-parsed c =
    read-steps (production_of c.args.self) c.args.input.now c.new-parser.result c.read_entry.new.p c.kind_at-end.new.self _ c.new-parser.ensures.position c.new-parser.ensures.input c.read_entry.ensures.tree
    (sym (ap (λ (v : View). v.nodes) c.kind_at-end.ensures.same)) c.in_ok-output.ensures.steps

pub returns-clause-core : goal.returns-clause-core
returns-clause-core c = λ tree is.
    read-steps (production_of c.args.self) c.args.input.now c.new-parser.result c.read_entry.new.p c.kind_at-end.new.self _ c.new-parser.ensures.position c.new-parser.ensures.input c.read_entry.ensures.tree
    (sym (ap (λ (v : View). v.nodes) c.kind_at-end.ensures.same)) c.in_ok-output.ensures.steps
    ∙ ap (λ (f : Forest). steps f) (core-entry c.args.self c.args.input.now tree is)

pub returns-clause-fits : goal.returns-clause-fits
returns-clause-fits c =
    fit-every c.args.self c.args.input.now _
    (read-steps (production_of c.args.self) c.args.input.now c.new-parser.result c.read_entry.new.p c.kind_at-end.new.self _ c.new-parser.ensures.position c.new-parser.ensures.input c.read_entry.ensures.tree
    (sym (ap (λ (v : View). v.nodes) c.kind_at-end.ensures.same)) c.in_ok-output.ensures.steps)
