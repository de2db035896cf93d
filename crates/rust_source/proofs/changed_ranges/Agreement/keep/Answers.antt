use Rattle.std.proofs.Common.{◌≡◌, sym, ◌∙◌, ap}
use Rattle.rowan_green.specs.declared.text_size.TextSize.{TextSize}
use Rattle.rust_source.specs.ChangedRanges.{standing_of}
use Rattle.rust_source.proofs.ChangedRanges.{kept, kept-ahead}
use Rattle.rust_source.proofs.changed_ranges.Agreement.keep.Goals as goal

pub returns-in_ok-skip_to-clause-walked : goal.returns-in_ok-skip_to-clause-walked
returns-in_ok-skip_to-clause-walked c =
    let range = c.args.range in
    let start : range.before.start.0 ≡ c.start.result.0 = cc in
    let place : range.after.start.0 ≡ c.start-then-can_keep.result.0 = cc in
    let end : c.end.result.0 ≡ range.before.end.0 = ap (λ (size : TextSize). size.0) c.end.ensures in
    let stop : c.end-then-can_keep.result.0 ≡ range.after.end.0 = ap (λ (size : TextSize). size.0) c.end-then-can_keep.ensures in
    let moved = c.in_ok-skip_to.ensures.moved in
    record {
      agrees = kept c.args.self.now c.skip_to.new.self (standing_of range) _ _ (c.can_keep.ensures.keeps c.if-can_keep.true)
          c.in_ok-skip_to.ensures.agrees (rw (start, place) moved) range.before.ordered range.after.ordered end stop;
      before = moved.before;
      after = moved.after;
    }

pub returns-in_ok-skip_to-clause-ahead : goal.returns-in_ok-skip_to-clause-ahead
returns-in_ok-skip_to-clause-ahead c ss =
    let range = c.args.range in
    let start : range.before.start.0 ≡ c.start.result.0 = cc in
    let place : range.after.start.0 ≡ c.start-then-can_keep.result.0 = cc in
    let end : c.end.result.0 ≡ range.before.end.0 = ap (λ (size : TextSize). size.0) c.end.ensures in
    let stop : c.end-then-can_keep.result.0 ≡ range.after.end.0 = ap (λ (size : TextSize). size.0) c.end-then-can_keep.ensures in
    kept-ahead c.args.self.now c.skip_to.new.self (standing_of range) _ _ ss (sym c.can_keep.ensures.stays ∙ c.if-can_keep.true)
    (rw (start, place) c.in_ok-skip_to.ensures.moved) end stop
