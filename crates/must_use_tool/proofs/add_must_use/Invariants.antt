-- The changes so far are those of the places so far.
use Rattle.std.proofs.Common.{◌≡◌, ◌+◌, codes, map, take}
use Rattle.rust_source.specs.Changes.{OnlyInserts, untouched, with_changes}
use Rattle.rust_source.specs.Elements.{ATTR, element_of, root_element}
use Rattle.rust_source.specs.Nodes.{IsFound, attribute_payload, first_node}
use Rattle.must_use_tool.specs.Marks.{AreMarks}
use Rattle.must_use_tool.proofs.add_must_use.Given as goal

abbrev pub invariant-loop-place : goal.invariant-loop-place
invariant-loop-place l = record {
  attribute_is : IsFound (first_node ATTR) l.fn.source.next (attribute_payload l.fn.source.document.grammar l.fn.source.document.edition (codes "#[must_use]")) (element_of l.attribute);
  only : OnlyInserts l.editor;
  same : l.source.document ≡ l.fn.source.document;
  next : l.source.next ≡ l.fn.source.next + 1 + l.place-index;
  own : l.editor ≡ with_changes (untouched (root_element l.fn.source.document)) l.editor.changes;
  marks : AreMarks l.fn.source.document.text (element_of l.attribute) (l.fn.source.next + 1) (map element_of (take l.place-index l.place-items)) l.editor.changes;
}
