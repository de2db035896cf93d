-- Parts of a row that are read together, and what reads the rest.
use Rattle.std.proofs.Common.{refl}
use Rattle.parser_events.specs.View.{View}
use Rattle.rust_grammar.specs.Meaning.{read}
use Rattle.rust_grammar.specs.Rule.{Rule, Then}
use Rattle.rust_productions.specs.Reads.{Reads}
use Rattle.rust_productions.specs.declared.condition.Condition.{Condition}
use Rattle.rust_productions.proofs.ByHand.{does-as, does-then}

pub reads-four : (c : Condition) {a b d e r : Rule} {old mid new : View} → Reads c (Then a (Then b (Then d e))) old mid → Reads c r mid new → Reads c (Then a (Then b (Then d (Then e r)))) old new
unfolding read
reads-four c p q = record { does = does-as (λ s e. refl) (does-then p.does q.does) }

pub reads-in-turn : (c : Condition) {a b d : Rule} {old new : View} → Reads c (Then (Then a b) d) old new → Reads c (Then a (Then b d)) old new
unfolding read
reads-in-turn c p = record { does = does-as (λ s e. refl) p.does }
