use Rattle.std.proofs.Common.{◌≡◌, [], ◌∷◌, ◌+◌, ◌<◌, ◌^◌, ◌++◌, length, map, string_bytes}
use Rattle.rowan_green.specs.Forest.{forest_count}
use Rattle.rowan_green.specs.Term.{forest_of, term_count, texts_of}
use Rattle.document_requests.specs.Lines.{lines_from}
use Rattle.document_requests.proofs.lines.+push_lines.Given as goal

-- a node has more terms than its children
abbrev pub decreases-push_lines : goal.decreases-push_lines
decreases-push_lines l = term_count l.element.now

-- the lines so far and those of the children that are left are all
abbrev pub invariant-children : goal.invariant-children
invariant-children l = record {
  lines : map string_bytes l.lines.items ++ lines_from (string_bytes l.inner) l.place (forest_of l.child-iterator) ≡ map string_bytes l.fn.lines.items ++ lines_from l.margin l.start (forest_of (l.element ∷ []));
  fits : l.place + length (texts_of l.child-iterator) < 2 ^ 32;
  below : forest_count (forest_of l.child-iterator) < term_count l.element;
}
