use Rattle.std.proofs.Common.{◌≡◌, ◌≤◌, chars, length, drop}
use Rattle.syntax_editor.specs.Indent.{after_line_feed}
use Rattle.syntax_editor.proofs.LineFeeds.{since}
use Rattle.syntax_editor.proofs.indent_level.after_line_feed.Given as goal

abbrev pub invariant-loop-c : goal.invariant-loop-c
invariant-loop-c l = record {
  few : l.count ≤ length l.yielded;
  same : after_line_feed (chars l.text) ≡ since l.found l.count (drop (length l.yielded) (chars l.text));
}
