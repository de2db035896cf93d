-- Nothing is recorded.
use Rattle.std.proofs.Common.{Some, sym, subst, ap, ◌∙◌, arith, length}
use Rattle.parser_events.specs.Nodes.{IsRecord, nodes_of}
use Rattle.parser_events.specs.View.{IsRest}
use Rattle.parser_events.proofs.Rest.{rest-all}
use Rattle.parser_events.proofs.Calls.{nothing-read, nothing-recorded}
use Rattle.parser_events.proofs.parser.Parser.new.Goals as goal

pub invariant_of-result : goal.invariant_of-result
invariant_of-result c = (subst (λ l. IsRest l c.args.input.now) (sym c.tokens.ensures) (rest-all c.args.input.now), subst IsRecord (sym c.new.ensures) nothing-recorded)

pub returns-clause-nodes : goal.returns-clause-nodes
returns-clause-nodes c = ap nodes_of c.new.ensures ∙ ap Some nothing-read

pub returns-clause-position : goal.returns-clause-position
returns-clause-position c = omega (arith, ap length c.tokens.ensures)
