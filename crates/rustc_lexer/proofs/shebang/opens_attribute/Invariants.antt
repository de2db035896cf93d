use Rattle.std.proofs.Common.{◌≡◌}
use Rattle.rustc_lexer.specs.Shebang.{opens_attribute}
use Rattle.rustc_lexer.proofs.shebang.opens_attribute.Given as goal

abbrev pub invariant-tokens : goal.invariant-tokens
invariant-tokens l =
    (goal.iterator-tokens).can_next l.tokens × (goal.iterator-tokens).is_finite l.tokens × (opens_attribute l.tokens ≡ opens_attribute l.initial.tokens)
