-- The trees before one tree become its first children.
use Rattle.std.proofs.Common.{◌≡◌, ◌<◌, ℕ, arith, true, false, suc, ◌∷◌, refl, sym, ap, subst, ◌∙◌}
use Rattle.parser_input.specs.Kinds.{FIELD_EXPR}
use Rattle.parser_events.specs.Fits.{IsRooted}
use Rattle.parser_events.specs.Forest as forest
use Rattle.parser_events.specs.Forest.{Forest, ◌then◌}
use Rattle.parser_events.specs.Marked as marks
use Rattle.parser_events.specs.Marked.{Marked, ◌beside◌, marked}
use Rattle.parser_events.specs.View.{View}
use Rattle.parser_events.proofs.Forests.{marked-then}
use Rattle.rust_grammar.specs.Calls.{BlockLike, Prefixed}
use Rattle.rust_grammar.specs.Expressions.{expressions}
use Rattle.rust_grammar.specs.Items.{items}
use Rattle.rust_grammar.specs.Meaning.{Reading, fresh, into, led, meaning, read}
use Rattle.rust_grammar.specs.Parts.{leads}
use Rattle.rust_grammar.specs.Paths.{paths}
use Rattle.rust_grammar.specs.Patterns.{patterns}
use Rattle.rust_grammar.specs.Rule.{prefixed, statement, Rule, Lead}
use Rattle.rust_grammar.specs.Statements.{statements}
use Rattle.rust_grammar.specs.Types.{types}
use Rattle.rust_grammar.specs.Whole.{rule, whole}
use Rattle.rust_grammar.proofs.Leading.{leads-give-one-node}
use Rattle.rust_productions.specs.Reads.{looks, Does, Extends, Opens, Reads, Condition, is_on}
use Rattle.rust_productions.specs.Stands.{left, Holds}
use Rattle.rust_productions.proofs.ByHand.{does-as}

-- in one tree
into-node : (k : ℕ) (g c : Forest) → marks.into (marked g) (marks.Node k (marked c) marks.End) ≡ marks.Node k (marked (g then c)) marks.End
unfolding marked
into-node k g forest.End = ap (λ (t : Marked). marks.Node k t marks.End) (sym (marked-then g forest.End))
into-node k g (forest.Leaf l n f) = ap (λ (t : Marked). marks.Node k t marks.End) (sym (marked-then g (forest.Leaf l n f)))
into-node k g (forest.Said m f) = ap (λ (t : Marked). marks.Node k t marks.End) (sym (marked-then g (forest.Said m f)))
into-node k g (forest.ErrorLeaf m l f) = ap (λ (t : Marked). marks.Node k t marks.End) (sym (marked-then g (forest.ErrorLeaf m l f)))
into-node k g (forest.Node l c f) = ap (λ (t : Marked). marks.Node k t marks.End) (sym (marked-then g (forest.Node l c f)))
into-node k g (forest.Float true c f) = ap (λ (t : Marked). marks.Node k t marks.End) (sym (marked-then g (forest.Float true c f)))
into-node k g (forest.Float false c f) = ap (λ (t : Marked). marks.Node k t marks.End) (sym (marked-then g (forest.Float false c f)))

pub marked-into : (g f : Forest) → IsRooted f → marks.into (marked g) (marked f) ≡ marked (into g f)
unfolding marked into
marked-into g (forest.Node k c forest.End) r = into-node k g c
marked-into g (forest.Float false c forest.End) r = ap (λ (t : Marked). marks.Node FIELD_EXPR (marks.Split false t marks.End) marks.End) (sym (marked-then g c))
marked-into g f r = absurd r

-- The trees that were given before a lead go first into the one node that it reads.
pub reads-lead :
    {c : Condition} {a : Rule} {old mid end new : View}
    → ((s : Reading) → IsRooted (read looks (meaning whole) (is_on c) a (fresh s)).given)
    → Opens old mid
    → Reads c a mid end
    → Extends end new
    → Reads c (Lead a) old new
unfolding read led fresh marked
reads-lead {c} {a} {old} {mid} {end} {new} rooted o p q = record {
  does = record {
    input = q.input ∙ p.does.input ∙ o.input;
    rest = λ s e. q.rest ∙ p.does.rest (fresh s) (o.rest ∙ e);
    nodes = λ s below e h.
        subst (λ (t : Marked). Holds new.nodes (t ∷ below)) (marked-into s.given (read looks (meaning whole) (is_on c) a (fresh s)).given (rooted s))
        (q.nodes (marked (read looks (meaning whole) (is_on c) a (fresh s)).given) (marked s.given) below (p.does.nodes (fresh s) (marked s.given ∷ below) (o.rest ∙ e) (o.nodes (marked s.given) below h)));
    innermost = λ around i. q.innermost around (p.does.innermost (suc around) (o.innermost around i));
  };
}

-- An operand is one tree, and so is an expression that ends in a block.
pub operand-rooted : (c : Condition) (s : Reading) → IsRooted (read looks (meaning whole) (is_on c) Prefixed (fresh s)).given
unfolding leads rule whole items statements expressions patterns types paths
operand-rooted c s =
    let some : 0 < 1 = omega arith in
    leads-give-one-node prefixed 0 Prefixed some (is_on c) s

pub block-rooted : (c : Condition) (s : Reading) → IsRooted (read looks (meaning whole) (is_on c) BlockLike (fresh s)).given
unfolding leads rule whole items statements expressions patterns types paths
block-rooted c s =
    let some : 0 < 2 = omega arith in
    leads-give-one-node statement 0 BlockLike some (is_on c) s
