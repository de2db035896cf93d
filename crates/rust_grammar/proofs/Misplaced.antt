-- That the operators of these trees are misplaced is computed.
use Rattle.std.proofs.Common.{refl}
use Rattle.rust_grammar.specs.Powers.{is_among, power, operator, level, left_level, right_level, is_operator_placed, are_operators_placed}
use Rattle.rust_grammar.specs.Misplaced.{MisplacedOperatorsAreTold}

pub misplaced-told : MisplacedOperatorsAreTold
unfolding is_among power operator level left_level right_level is_operator_placed are_operators_placed
misplaced-told = (refl, (refl, (refl, (refl, (refl, (refl, (refl, (refl, (refl, (refl, (refl, tt)))))))))))
