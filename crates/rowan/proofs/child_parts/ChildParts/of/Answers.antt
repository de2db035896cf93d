use Rattle.std.proofs.Common.{◌+◌, ◌∙◌, ap, sym, subst, take, drop, arith}
use Rattle.rowan.specs.Text.{IsPart}
use Rattle.rowan.proofs.Parts.{whole_text, whole_count}
use Rattle.rowan.proofs.child_parts.ChildParts.of.Goals as goal

pub returns-clause-range : goal.returns-clause-range
returns-clause-range c =
    ap (take c.args.len) (sym c.child_with-index.ensures.bytes)
    ∙ ap (λ v. take c.args.len (drop c.args.skip v)) (whole_text c.args.node.now)

pub returns-clause-below : goal.returns-clause-below
returns-clause-below c = omega (arith, c.child_with-index.ensures.count, whole_count c.args.node.now)

pub returns-clause-whole : goal.returns-clause-whole
returns-clause-whole c = λ p.
    c.child_with-index.ensures.whole c.args.len
    (subst (λ v. IsPart v c.args.skip (c.args.skip + c.args.len)) (sym (whole_text c.args.node.now)) p)
