-- The examples are computed.
use Rattle.std.proofs.Common.{refl}
use Rattle.rust_grammar.specs.Rule.{begins, passes, is_silent, shift, in_mode, from_start, there_at}
use Rattle.rust_grammar.specs.Notation.{row, any_of, one_of, is_longer, no_longer, longest}
use Rattle.rust_grammar.specs.Meaning.{meaning, by_length, by_rank, follow, look_of, begins_below, read, turns, leaf, say, skip, split, fresh, node, wrapped, after, sees, ahead, is_end}
use Rattle.rust_grammar.specs.Paths.{paths}
use Rattle.rust_grammar.specs.Types.{types}
use Rattle.rust_grammar.specs.Patterns.{patterns}
use Rattle.rust_grammar.specs.Expressions.{expressions}
use Rattle.rust_grammar.specs.Statements.{statements}
use Rattle.rust_grammar.specs.Items.{items}
use Rattle.rust_grammar.specs.Entry.{leaves, is_used_up, takes_all, with_message, entry}
use Rattle.rust_grammar.specs.Whole.{rule, rank, whole}
use Rattle.rust_grammar.specs.Examples.{ExamplesAreRight}

pub examples-are-right : ExamplesAreRight
unfolding meaning by_length by_rank follow look_of begins_below read turns leaf say skip split fresh node wrapped after sees ahead is_end begins passes is_silent shift in_mode from_start there_at rule rank whole row any_of one_of is_longer no_longer longest paths types patterns expressions statements items leaves is_used_up takes_all with_message entry
examples-are-right = (refl, (refl, (refl, (refl, (refl, (refl, (refl, (refl, (refl, (refl, (refl, (refl, (refl, (refl, (refl, (refl, (refl, (refl, (refl, (refl, (refl, (refl, (refl, (refl, (refl, (refl, (refl, (refl, (refl, (refl, (refl, (refl, (refl, (refl, (refl, (refl, (refl, (refl, (refl, (refl, (refl, (refl, (refl, (refl, (refl, (refl, (refl, (refl, (refl, (refl, (refl, (refl, (refl, (refl, (refl, tt)))))))))))))))))))))))))))))))))))))))))))))))))))))))
