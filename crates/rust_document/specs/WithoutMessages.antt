-- What holds of the tree of a document without messages.
use Rattle.std.specs.Prelude.{◌≡◌, true, [], chars}
use Rattle.rust_document.specs.Brackets.{are_token_trees_closed}
use Rattle.rust_document.specs.Operators.{are_operators_placed}
use Rattle.rust_document.specs.Reading.{messages_in}
use Rattle.rust_document.specs.Shape.{kinds_from}
use Rattle.rust_document.specs.Step.{State, present}

abbrev pub HasNoMessages : State → Type 0
HasNoMessages d = messages_in d.grammar d.edition (chars d.text) ≡ []

-- Each token tree begins with an opening bracket and ends with its partner.
abbrev pub HasPairedBrackets : State → Type 0
HasPairedBrackets d = HasNoMessages d → are_token_trees_closed (kinds_from (present d)) ≡ true

-- Each binary expression has operands that its operator's power allows.
abbrev pub HasPlacedOperators : State → Type 0
HasPlacedOperators d = HasNoMessages d → are_operators_placed (kinds_from (present d)) ≡ true
