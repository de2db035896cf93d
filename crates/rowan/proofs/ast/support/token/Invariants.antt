use Rattle.std.proofs.Common.{◌≡◌}
use Rattle.std.specs.List.{filter}
use Rattle.rowan.specs.Place.{kind_at}
use Rattle.rowan.specs.Around.{children, tokens, first}
use Rattle.rowan.proofs.ast.support.token.Given as goal

abbrev pub invariant-loop-element : goal.invariant-loop-element
invariant-loop-element g l =
    first (filter (λ p. g.L.Kind.PartialEq.eq (g.L.Language.from_raw (kind_at p)) l.kind) (tokens (children l.fn.parent)))
    ≡ first (filter (λ p. g.L.Kind.PartialEq.eq (g.L.Language.from_raw (kind_at p)) l.kind) (tokens l.element-iterator))
