-- The tree numbers of a source, by reference.
use Rattle.std.specs.Prelude.{ℕ}
use Rattle.std.specs.Borrow.{Lends, MutBor, Fml}
use Rattle.syntax_tree.specs.contracts.tree_ids.TreeIds.{the_row as ids_row}
use Rattle.rust_source.specs.Held.{Held}
use Rattle.rust_source.specs.contracts.source.Source.{the_row}

-- the source ends with the number that was left after the reference
abbrev pub LendsNumbers : MutBor Held → MutBor ℕ → Fml
LendsNumbers s r = Lends the_row ids_row s r (λ w. record { alloc = s.now.alloc; document = s.now.document; next = w })
