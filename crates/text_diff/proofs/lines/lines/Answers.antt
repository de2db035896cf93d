use Rattle.std.proofs.Common.{◌≡◌, ◌∙◌, sym, ap, map, drop, take, ◌++◌, ◌∷◌, [], ◌+◌, ◌-◌, ◌<◌, ◌≤◌, ℕ, List, length, get_or, arith, inl, inr}
use Rattle.std.proofs.lemmas.Bool.{cases_eq}
use Rattle.std.proofs.lemmas.List.{map-append, take_rest}
use Rattle.text_diff.specs.Lines.{line_feed, lines}
use Rattle.text_diff.proofs.LineLemmas.{line-split, line-last, line-none}
use Rattle.text_diff.proofs.lines.lines.Goals as goal
use Rattle.text_diff.proofs.lines.lines.Goals.{then-byte-eq10+in_ok-push, else-byte-eq10, then-start-text+in_ok-push-2, else-start-text}

pub loop-i-preserved : goal.loop-i-preserved
loop-i-preserved c =
    let inv = c.loop-i.invariant in
    elim c.if-byte-eq10.branch [
      | then-byte-eq10+in_ok-push w ↦ record {
        split =
            rw (w.found-is, w.start-is, w.in_ok-push.ensures.items, map-append)
            (line-split c.args.text.now c.loop-i.start c.loop-i.i (map (λ l. l.now) c.loop-i.found.items) inv.order c.loop-i-test.true inv.none w.if-byte-eq10.true inv.split);
        order = rw w.start-is (omega arith);
        none = λ k above below e. let a = rw w.start-is at above in absurd (omega arith);
      }
      | else-byte-eq10 w ↦ record {
        split = rw (w.found-is, w.start-is) inv.split;
        order = rw w.start-is (omega arith);
        none = λ k above below e.
            let a = rw w.start-is at above in
            elim (cases_eq k c.loop-i.i) [
              | inl same ↦ w.if-byte-eq10.false (rw (← same) e)
              | inr other ↦ inv.none k a (omega arith) e
            ];
      }
    ]

pub returns : goal.returns
returns c =
    let inv = c.loop-i.invariant in
    elim c.if-start-text.branch [
      | then-start-text+in_ok-push-2 w ↦
          rw (w.found-is, w.in_ok-push-2.ensures.items, map-append, take_rest c.args.text.now c.loop-i.start)
          (line-last c.args.text.now c.loop-i.start (map (λ l. l.now) c.loop-i.found.items) w.if-start-text.true (λ k above below e. inv.none k above (omega arith) e) inv.split)
      | else-start-text w ↦ rw w.found-is (line-none c.args.text.now c.loop-i.start (map (λ l. l.now) c.loop-i.found.items) w.if-start-text.false inv.split)
    ]
