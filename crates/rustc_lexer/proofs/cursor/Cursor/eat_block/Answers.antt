use Rattle.std.proofs.Common.{◌≡◌, ◌≤◌, ◌+◌, ◌-◌, suc, get_or, true, false, arith}
use Rattle.rustc_lexer.specs.Characters.{size}
use Rattle.rustc_lexer.specs.Scan.{opens_comment, closes_comment}
use Rattle.rustc_lexer.proofs.Sizes.{size-drop, size-past_two}
use Rattle.rustc_lexer.proofs.Alike.{alike-trans, alike-at, reads-alike, reads-at, none_left, two_ones}
use Rattle.rustc_lexer.proofs.BlockSteps.{block-plain, block-deeper, block-outer, block-done, block-other, block-end, opens-two, at_depth}
use Rattle.rustc_lexer.proofs.cursor.Cursor.eat_block.Goals as goal

pub prove-unreachable-requires : goal.prove-unreachable-requires
prove-unreachable-requires c =
    let ys = c.eat_unmarked.new.self in
    let opens : opens_comment (get_or ys 0 0) (get_or ys 1 0) ≡ true = cc in
    let two = size-past_two ys (opens-two ys opens) in
    let less : size ys ≤ size c.block.self = rw c.eat_unmarked.ensures (size-drop _ c.block.self) in
    omega (arith, c.block.invariant.room)

pub block-preserved-then-opens_comment : goal.block-preserved-then-opens_comment
block-preserved-then-opens_comment c =
    let d = c.block.depth in
    let ys = c.eat_unmarked.new.self in
    let opens : opens_comment (get_or ys 0 0) (get_or ys 1 0) ≡ true = cc in
    let two = size-past_two ys (opens-two ys opens) in
    let less : size ys ≤ size c.block.self = rw c.eat_unmarked.ensures (size-drop _ c.block.self) in
    let new = two_ones ys c.bump.ensures c.bump-then-opens_comment.ensures in
    let more : suc d ≡ d + 1 = omega arith in
    let step = alike-trans (block-deeper d ys opens) (alike-trans (alike-at c.eat_unmarked.ensures (block-plain d c.block.self)) c.block.invariant.same) in
    record {
      same = alike-at new (at_depth more step);
      room = rw new (omega (arith, c.block.invariant.room));
    }

pub returns-then-depth-eq0 : goal.returns-then-depth-eq0
returns-then-depth-eq0 c =
    let ys = c.eat_unmarked.new.self in
    let other : opens_comment (get_or ys 0 0) (get_or ys 1 0) ≡ false = cc in
    let closes : closes_comment (get_or ys 0 0) (get_or ys 1 0) ≡ true = cc in
    let before = alike-trans (alike-at c.eat_unmarked.ensures (block-plain c.block.depth c.block.self)) c.block.invariant.same in
    let outermost = at_depth c.if-depth-eq0.true before in
    reads-alike outermost (reads-at (two_ones ys c.bump-then-closes_comment.ensures c.bump-then-closes_comment-2.ensures) (block-done ys other closes))

pub block-preserved-then-closes_comment : goal.block-preserved-then-closes_comment
block-preserved-then-closes_comment c =
    let d = c.block.depth in
    let ys = c.eat_unmarked.new.self in
    let other : opens_comment (get_or ys 0 0) (get_or ys 1 0) ≡ false = cc in
    let closes : closes_comment (get_or ys 0 0) (get_or ys 1 0) ≡ true = cc in
    let new = two_ones ys c.bump-then-closes_comment.ensures c.bump-then-closes_comment-2.ensures in
    let less : size ys ≤ size c.block.self = rw c.eat_unmarked.ensures (size-drop _ c.block.self) in
    let left = size-drop 2 ys in
    let some : d ≡ suc (d - 1) = let h = c.if-depth-eq0.false in omega arith in
    let before = alike-trans (alike-at c.eat_unmarked.ensures (block-plain d c.block.self)) c.block.invariant.same in
    let inner = at_depth some before in
    record {
      same = alike-at new (alike-trans (block-outer (d - 1) ys other closes) inner);
      room = rw new (omega (arith, c.block.invariant.room));
    }

pub block-preserved : goal.block-preserved
block-preserved c =
    let d = c.block.depth in
    let ys = c.eat_unmarked.new.self in
    let other : opens_comment (get_or ys 0 0) (get_or ys 1 0) ≡ false = cc in
    let neither : closes_comment (get_or ys 0 0) (get_or ys 1 0) ≡ false = cc in
    let less : size ys ≤ size c.block.self = rw c.eat_unmarked.ensures (size-drop _ c.block.self) in
    let left = size-drop 1 ys in
    record {
      same =
          alike-at c.bump-else-closes_comment.ensures
          (alike-trans (block-other d ys other neither) (alike-trans (alike-at c.eat_unmarked.ensures (block-plain d c.block.self)) c.block.invariant.same));
      room = rw c.bump-else-closes_comment.ensures (omega (arith, c.block.invariant.room));
    }

pub returns : goal.returns
returns c = reads-alike c.block.invariant.same (block-end c.block.depth c.block.self (none_left _ _ c.is_empty.ensures c.block-test.false))
