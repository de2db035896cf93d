use Rattle.std.proofs.Common.{◌≡◌, ◌∙◌, ap, arith, length}
use Rattle.text_diff.specs.Lines.{Line, joined}
use Rattle.std.proofs.Common.{List, ℕ}
use Rattle.text_diff.proofs.LineLemmas.{lines-join}
use Rattle.text_diff.proofs.byte_change.byte_changes.Goals as goal

pub all_bytes-requires-clause-old_text : goal.all_bytes-requires-clause-old_text
all_bytes-requires-clause-old_text c = rw (c.as_slice-3.ensures.value, c.in_ok-old.ensures, lines-join c.args.old.now) (omega arith)

pub all_bytes-requires-clause-new_text : goal.all_bytes-requires-clause-new_text
all_bytes-requires-clause-new_text c = rw (c.as_slice-4.ensures.value, c.in_ok-new.ensures, lines-join c.args.new.now) (omega arith)
