-- Comparing begins with all children.
use Rattle.std.proofs.Common.{ap, sym, length, arith}
use Rattle.rowan_green.specs.Forest.{forest_count, forest_text}
use Rattle.rust_document.specs.Difference.{first_apart, placed}
use Rattle.rust_document.proofs.Differences.{children-are}
use Rattle.rust_document.proofs.difference.+apart_below.Goals as goal

pub children-init : goal.children-init
children-init t c =
    let left = children-are c.args.wanted.now _ c.children-left.ensures.children in
    let right = children-are c.args.read.now _ c.children-right.ensures.children in
    record {
      decided = λ i. first_apart (placed c.args.wanted_at (sym left i)) (placed c.args.read_at (sym right i));
      within = omega (arith, ap forest_count left);
      left_fits = omega (arith, c.requires.wanted_fits, ap (λ f. length (forest_text f)) left);
      right_fits = omega (arith, c.requires.read_fits, ap (λ f. length (forest_text f)) right);
    }
