use Rattle.std.proofs.Common.{◌≡◌, arith}
use Rattle.rust_source.proofs.ChangedRanges.{skipped}
use Rattle.rust_source.proofs.changed_ranges.Agreement.skip_to.Goals as goal
use Rattle.rust_source.proofs.changed_ranges.Agreement.skip_to.Goals.{then-self-to+in_ok-push, then-self-to-via-then-self-to, then-self-to-via-else-self-to+then-self-end, else-self-to+else-self-end}

pub returns-clause-agrees : goal.returns-clause-agrees
returns-clause-agrees c = elim c.if-self-to.branch [
  | then-self-to+in_ok-push w ↦
      let start : w.new-then-self-to-2.result.start.0 ≡ c.args.self.now.before_end = cc in
      let to : w.new-then-self-to-2.result.end.0 ≡ c.args.to = cc in
      let at : w.new-then-self-to-5.result.start.0 ≡ c.args.self.now.after_end = cc in
      let end : w.new-then-self-to-5.result.end.0 ≡ c.args.end = cc in
      rw w.self-is (record {
        ranges = rw (w.in_ok-push.ensures.items, ← to, ← end)
            (skipped c.args.self.now (record { before = w.new-then-self-to-2.result; after = w.new-then-self-to-5.result }) c.requires.agrees start at
            (rw to c.requires.to_boundary) (rw end c.requires.end_boundary));
        before_boundary = c.requires.to_boundary;
        after_boundary = c.requires.end_boundary;
      })
  | else-self-to+else-self-end w ↦
      let to : c.args.to ≡ c.args.self.now.before_end = omega (arith, w.if-self-to.false, c.requires.to_order) in
      let end : c.args.end ≡ c.args.self.now.after_end = omega (arith, w.if-self-end.false, c.requires.end_order) in
      rw (w.self-is, to, end) c.requires.agrees
]
