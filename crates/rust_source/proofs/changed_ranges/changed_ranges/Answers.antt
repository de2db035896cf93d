use Rattle.std.proofs.Common.{◌≡◌, [], drop, sym, ap, ◌∙◌, arith}
use Rattle.std.proofs.lemmas.Grind.{common_steps}
use Rattle.tree_rewrite.specs.Tracking.{all_bytes}
use Rattle.tree_rewrite.proofs.ChangedLemmas.{bytes-fit}
use Rattle.rust_source.specs.ChangedRanges.{ahead, at_start, between, changes_with, joined, standing, standing_of, top_level, unchanged_in}
use Rattle.rust_source.specs.declared.changed_ranges.StandingRange.{StandingRange}
use Rattle.rust_source.proofs.ChangedRanges.{if-ok}
use Rattle.rust_source.proofs.Unchanged.{unchanged}
use Rattle.rust_source.proofs.changed_ranges.changed_ranges.Goals as goal

pub returns-clause-rewritten : goal.returns-clause-rewritten
returns-clause-rewritten c m h =
    let pieces = c.args.made.now.pieces.items in
    let items = c.deref-piece-items.result.now in
    let all-passed : drop c.loop-piece.piece-index items ≡ [] = grind (arith, common_steps) in
    let all : changes_with c.loop-piece.walk [] ≡ between c.args.before.now c.args.after.now 0 0 (joined at_start (unchanged_in 0 m)) =
    ap (changes_with c.loop-piece.walk) (sym all-passed)
    ∙ c.loop-piece.invariant.changes
    ∙ ap (λ l. between c.args.before.now c.args.after.now 0 0 (joined at_start (standing top_level [] 0 l))) c.deref-piece-items.ensures.value
    ∙ ap (between c.args.before.now c.args.after.now 0 0) (unchanged pieces m h at_start) in
    if-ok c.finish.result _ _ (λ v is. is ∙ c.in_ok-keep.ensures.ahead [] ∙ all) c.finish.ensures.ahead

pub loop-piece-init : goal.loop-piece-init
loop-piece-init c =
    let made = c.args.made.now in
    let bytes = bytes-fit made.pieces.items c.requires.made.0 made.green c.requires.made.1.0 c.requires.made.1.1 in
    let pieces = ap all_bytes c.deref-piece-items.ensures.value in
    let rest = standing top_level [] 0 c.deref-piece-items.result.now in
    let from : c.new-none.result.start.0 ≡ 0 = cc in
    let to : c.new-none.result.end.0 ≡ 0 = cc in
    let none : StandingRange = record { before = c.new-none.result; after = c.new-none.result } in
    let start : standing_of none ≡ at_start = λ j. record { start = from j; end = to j; place = from j; stop = to j } in
    record {
      walk = record { agrees = c.new-agreement.ensures.agrees; before = rw c.new-agreement.ensures.before c.requires.before; after = rw c.new-agreement.ensures.after c.requires.after };
      before = c.new-agreement.ensures.before;
      after = c.new-agreement.ensures.after;
      bytes = omega (arith, pieces, bytes, c.text_len-bytes.ensures, c.text_len-bytes.type_inv);
      place = omega arith;
      changes = rw c.new-3.ensures.items (ap (λ s. ahead c.new-agreement.result (joined s rest)) start ∙ c.new-agreement.ensures.ahead (joined at_start rest));
    }
