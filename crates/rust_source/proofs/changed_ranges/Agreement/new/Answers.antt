use Rattle.std.proofs.lemmas.Str.{IsCharBoundary-start}
use Rattle.rust_source.proofs.ChangedRanges.{same-here}
use Rattle.rust_source.proofs.changed_ranges.Agreement.new.Goals as goal

pub returns-clause-agrees : goal.returns-clause-agrees
returns-clause-agrees c = record {
  ranges = rw c.new.ensures.items (same-here c.args.before.now c.args.after.now 0 0);
  before_boundary = IsCharBoundary-start c.args.before.now c.utf8.before;
  after_boundary = IsCharBoundary-start c.args.after.now c.utf8.after;
}
