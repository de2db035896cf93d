use Rattle.std.proofs.Common.{ap, ◌∙◌, sym, refl, ◌++◌}
use Rattle.line_index.specs.Lines.{line_starts}
use Rattle.line_index.proofs.LineLemmas.{starts_after-nil}
use Rattle.line_index.proofs.IndexLemmas.{starts-feed, starts-other}
use Rattle.line_index.proofs.line_index.line_starts.Goals as goal
use Rattle.line_index.proofs.line_index.line_starts.Goals.{then-byte-eq10+in_ok-push-2, else-byte-eq10}

pub loop-i-init : goal.loop-i-init
loop-i-init c = let none = starts_after-nil 0 in c.in_ok-push.ensures.items ∙ rw (c.new-starts.ensures.items, none) refl

pub loop-i-preserved : goal.loop-i-preserved
loop-i-preserved c =
    elim c.if-byte-eq10.branch [
      | then-byte-eq10+in_ok-push-2 w ↦
          rw w.starts-is (w.in_ok-push-2.ensures.items ∙ rw c.loop-i.invariant (sym (starts-feed c.args.text.now c.loop-i.i c.loop-i-test.true w.if-byte-eq10.true)))
      | else-byte-eq10 w ↦
          rw w.starts-is (c.loop-i.invariant ∙ sym (starts-other c.args.text.now c.loop-i.i c.loop-i-test.true w.if-byte-eq10.false))
    ]
