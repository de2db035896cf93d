-- The item is written out.
use Rattle.std.proofs.Common.{ℕ, List, IfErr, subst, ◌∙◌}
use Rattle.parser_input.specs.Kinds.{ATTR}
use Rattle.ra_parser.specs.declared.entry_points.TopEntryPoint.TheVariants.{SourceFile}
use Rattle.rust_document.specs.Payload.{payload_in}
use Rattle.rust_document.specs.declared.payload_entry.PayloadEntry.TheVariants.{Top}
use Rattle.rust_source.specs.Nodes.{first_node, RefusesNode}
use Rattle.rust_source.proofs.source.Source.payload_attribute.Goals as goal

pub returns-clause-refused : goal.returns-clause-refused
returns-clause-refused c =
    let s = c.args.self.now in
    subst (λ (text : List ℕ). IfErr c.payload_node.result (RefusesNode (first_node ATTR) s.next (payload_in (Top SourceFile) s.document.grammar s.document.edition text)))
    (c.as_str.ensures.value ∙ c.in_ok-item.ensures.ok) c.payload_node.ensures.refused
