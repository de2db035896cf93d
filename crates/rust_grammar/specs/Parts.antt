-- Parts of rules that laws speak of.
use Rattle.std.specs.Prelude.{List, [], ◌∷◌, ◌++◌}
use Rattle.rust_grammar.specs.Rule.{Rule, Nothing, One, Any, Then, Near, Or, When, Unless, Opt, Star, Node, Wrap, Want, Say, Skip, Split, Call, Continue, Mode, Lead}

-- what a rule repeats
unfoldable pub repeated : Rule → List Rule
repeated (Star a) = a ∷ repeated a
repeated (Then a b) = repeated a ++ repeated b
repeated (Near w a b) = repeated a ++ repeated b
repeated (Or a b) = repeated a ++ repeated b
repeated (When l a) = repeated a
repeated (Unless l a) = repeated a
repeated (Opt a) = repeated a
repeated (Node k a) = repeated a
repeated (Wrap k a) = repeated a
repeated (Want a m) = repeated a
repeated (Mode c a) = repeated a
repeated (Lead a) = repeated a
repeated Nothing = []
repeated (One x) = []
repeated Any = []
repeated (Say m) = []
repeated (Skip m) = []
repeated Split = []
repeated (Call x) = []
repeated (Continue x) = []

-- the parts whose looks are asked together with those of the part before
unfoldable pub nearby : Rule → List Rule
nearby (Near w a b) = b ∷ (nearby a ++ nearby b)
nearby (Then a b) = nearby a ++ nearby b
nearby (Or a b) = nearby a ++ nearby b
nearby (When l a) = nearby a
nearby (Unless l a) = nearby a
nearby (Opt a) = nearby a
nearby (Star a) = nearby a
nearby (Node k a) = nearby a
nearby (Wrap k a) = nearby a
nearby (Want a m) = nearby a
nearby (Mode c a) = nearby a
nearby (Lead a) = nearby a
nearby Nothing = []
nearby (One x) = []
nearby Any = []
nearby (Say m) = []
nearby (Skip m) = []
nearby Split = []
nearby (Call x) = []
nearby (Continue x) = []

-- what a rule reads with nothing given before, and puts what was given before into
unfoldable pub leads : Rule → List Rule
leads (Then a b) = leads a ++ leads b
leads (Near w a b) = leads a ++ leads b
leads (Or a b) = leads a ++ leads b
leads (When l a) = leads a
leads (Unless l a) = leads a
leads (Opt a) = leads a
leads (Star a) = leads a
leads (Node k a) = leads a
leads (Wrap k a) = leads a
leads (Want a m) = leads a
leads (Mode c a) = leads a
leads (Lead a) = a ∷ leads a
leads Nothing = []
leads (One x) = []
leads Any = []
leads (Say m) = []
leads (Skip m) = []
leads Split = []
leads (Call x) = []
leads (Continue x) = []
