use Rattle.std.proofs.Common.{◌≡◌, ◌==◌, drop}
use Rattle.std.specs.List.{list_any}
use Rattle.syntax_editor.specs.Indent.{line_feed}
use Rattle.tree_indent.proofs.shift.has_line_feed.Given as goal

abbrev pub invariant-loop-byte : goal.invariant-loop-byte
invariant-loop-byte l = list_any (λ c. c == line_feed) l.text ≡ list_any (λ c. c == line_feed) (drop l.byte-index l.text)
