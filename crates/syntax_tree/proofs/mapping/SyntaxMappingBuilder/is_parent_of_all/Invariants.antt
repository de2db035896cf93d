use Rattle.std.proofs.Common.{◌≡◌, drop}
use Rattle.syntax_tree.specs.Mapping.{are_children}
use Rattle.syntax_tree.proofs.mapping.SyntaxMappingBuilder.is_parent_of_all.Given as goal

abbrev pub invariant-loop-entry : goal.invariant-loop-entry
invariant-loop-entry l = are_children l.self.parent l.entries ≡ are_children l.self.parent (drop l.entry-index l.entries)
