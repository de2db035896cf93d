use Rattle.std.proofs.Common.{◌≡◌, ◌∙◌, ◌+◌, ◌<◌, ◌≤◌, length, List, ℕ}
use Rattle.line_index.specs.Lines.{line_starts}
use Rattle.line_index.proofs.IndexLemmas.{end-inner, end-last, end-none}
use Rattle.line_index.proofs.line_index.LineIndex.line_end.Goals as goal

pub overflow_sub-result : goal.overflow_sub-result
overflow_sub-result c =
    let is : c.as_slice-starts.result.now ≡ line_starts c.self.inside.text.now = c.as_slice-starts.ensures.value ∙ c.self.invariant in
    rw is (end-inner c.self.inside.text.now c.args.line 0 (rw is at c.if-line-starts-2.true)).0

pub returns-then-line-starts : goal.returns-then-line-starts
returns-then-line-starts c =
    let is : c.as_slice-starts.result.now ≡ line_starts c.self.inside.text.now = c.as_slice-starts.ensures.value ∙ c.self.invariant in
    rw (← c.self.view_is) (end-none c.self.inside.text.now c.args.line (rw is at c.if-line-starts.true))

pub returns-then-line-starts-2 : goal.returns-then-line-starts-2
returns-then-line-starts-2 c =
    let is : c.as_slice-starts.result.now ≡ line_starts c.self.inside.text.now = c.as_slice-starts.ensures.value ∙ c.self.invariant in
    rw (← c.self.view_is, is) (end-inner c.self.inside.text.now c.args.line 0 (rw is at c.if-line-starts-2.true)).1

pub returns-else-line-starts-2 : goal.returns-else-line-starts-2
returns-else-line-starts-2 c =
    let is : c.as_slice-starts.result.now ≡ line_starts c.self.inside.text.now = c.as_slice-starts.ensures.value ∙ c.self.invariant in
    rw (← c.self.view_is) (end-last c.self.inside.text.now c.args.line (rw is at c.if-line-starts.false) (rw is at c.if-line-starts-2.false))
