use Rattle.std.proofs.Common.{◌≡◌, ◌∙◌, ◌≤◌, ◌<◌, length, ap, List, ℕ, arith, rules, get_or}
use Rattle.line_index.specs.Lines.{feeds, line_starts}
use Rattle.line_index.proofs.LineLemmas.{length-line_starts, line_starts-at}
use Rattle.line_index.proofs.line_index.LineIndex.start_of.Goals as goal

pub bounds-starts-line : goal.bounds-starts-line
bounds-starts-line c =
    let is : c.as_slice-starts.result.now ≡ line_starts c.self.inside.text.now = c.as_slice-starts.ensures.value ∙ c.self.invariant in
    let le : c.args.line ≤ feeds c.self.inside.text.now = rw c.self.view_is c.requires in
    let size = length-line_starts c.self.inside.text.now in
    rw is (omega arith)

pub offset_bounds-starts-line : goal.offset_bounds-starts-line
offset_bounds-starts-line c =
    let is : c.as_slice-starts.result.now ≡ line_starts c.self.inside.text.now = c.as_slice-starts.ensures.value ∙ c.self.invariant in
    let le : c.args.line ≤ feeds c.self.inside.text.now = rw c.self.view_is c.requires in
    let size = length-line_starts c.self.inside.text.now in
    let len : c.args.line < length c.as_slice-starts.result.now = rw is (omega arith) in
    search rules

pub returns : goal.returns
returns c =
    let is : c.as_slice-starts.result.now ≡ line_starts c.self.inside.text.now = c.as_slice-starts.ensures.value ∙ c.self.invariant in
    let le : c.args.line ≤ feeds c.self.inside.text.now = rw c.self.view_is c.requires in
    rw (is, ← c.self.view_is) (line_starts-at c.self.inside.text.now c.args.line 0 le)
