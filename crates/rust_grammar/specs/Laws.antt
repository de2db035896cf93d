-- What holds of the grammar.
use Rattle.std.specs.Prelude.{◌≡◌, ℕ, ◌<◌, Bool, true, false, List, [], Some, All, length, drop, nat_lt, if◌then◌else◌}
use Rattle.parser_input.specs.Input.{Token, input}
use Rattle.parser_input.specs.Leaf.{Leaf}
use Rattle.parser_input.specs.declared.edition.Edition.{Edition}
use Rattle.parser_events.specs.Fits.{IsRooted, fits}
use Rattle.parser_events.specs.Forest.{Forest, End}
use Rattle.parser_events.specs.Steps.{steps}
use Rattle.rust_grammar.specs.Rule.{Production, source_file, macro_items, macro_statements, meta, any_type, pattern, expression, Look, Rule, Nothing, Star, Node, Call, begins, shift}
use Rattle.rust_grammar.specs.Meaning.{Reading, Calls, read, sees, fresh, look_of, meaning}
use Rattle.rust_grammar.specs.Parts.{repeated, nearby, leads}
use Rattle.rust_grammar.specs.Entry.{entry}
use Rattle.rust_grammar.specs.Spelled.{tokens_after}
use Rattle.rust_grammar.specs.TokenTrees.{are_token_trees_bracketed}
use Rattle.rust_grammar.specs.Powers.{are_operators_placed}
use Rattle.rust_grammar.specs.Whole as all

-- These are places where the productions of the whole grammar can begin: each begins where its rule does.
abbrev pub AreBeginnings : (Production → Look) → Type 0
AreBeginnings looks = (x : Production) → looks x ≡ begins looks (all.rule x)

-- These are readings of the productions of the whole grammar: each gives what its rule gives.
abbrev pub AreReadings : (Production → Look) → Calls → Type 0
AreReadings looks gives =
    (x : Production) (in_condition : Bool) (s : Reading) → gives x in_condition s ≡ read looks gives in_condition (all.rule x) s

-- The productions of the whole grammar mean what their rules say, and begin where their rules do.
abbrev pub WholeProductionsMeanTheirRules : Type 0
WholeProductionsMeanTheirRules = AreReadings (look_of all.whole) (meaning all.whole)

abbrev pub WholeProductionsBeginAsTheirRules : Type 0
WholeProductionsBeginAsTheirRules = AreBeginnings (look_of all.whole)

-- Nothing else does so. The rules alone say where a production begins and what it gives: the ranks of productions, and the
-- bounds by which `look_of` and `meaning` recur, can be forgotten.
abbrev pub OnlyOneBeginning : Type 0
OnlyOneBeginning = (looks : Production → Look) → AreBeginnings looks → (x : Production) → looks x ≡ look_of all.whole x

abbrev pub OnlyOneReading : Type 0
OnlyOneReading =
    (looks : Production → Look) (gives : Calls) → AreBeginnings looks → AreReadings looks gives
    → (x : Production) (in_condition : Bool) (s : Reading) → gives x in_condition s ≡ meaning all.whole x in_condition s

unfoldable pub is_nothing : Rule → Bool
is_nothing Nothing = true
is_nothing a = false

-- No production of the whole grammar is without a row.
abbrev pub EachProductionHasARule : Type 0
EachProductionHasARule = (x : Production) → is_nothing (all.rule x) ≡ false

-- what a rule of the whole grammar gives
abbrev pub reads : Bool → Rule → Reading → Reading
reads in_condition a s = read (look_of all.whole) (meaning all.whole) in_condition a s

-- a repetition: one turn and the repetition again, or nothing; a turn that takes no token is the last
abbrev pub turn_by_turn : Bool → Rule → Reading → Reading
turn_by_turn in_condition a s =
    let turn = reads in_condition a s in
    let again = reads in_condition (Star a) turn in
    let turns = if nat_lt (length turn.rest) (length s.rest) then again else turn in
    if sees in_condition s (begins (look_of all.whole) a) then turns else s

abbrev pub IsReadTurnByTurn : Rule → Type 0
IsReadTurnByTurn a = (in_condition : Bool) (s : Reading) → reads in_condition (Star a) s ≡ turn_by_turn in_condition a s

-- Each repetition of the whole grammar is one turn and the repetition again, or nothing.
abbrev pub RepetitionsAreReadTurnByTurn : Type 0
RepetitionsAreReadTurnByTurn = (x : Production) → All IsReadTurnByTurn (repeated (all.rule x))

-- To see where a rule begins `count` tokens ahead is to see it at the place after them.
abbrev pub LooksAhead : Rule → Type 0
LooksAhead a =
    (count : ℕ) (in_condition : Bool) (s : Reading)
    → let after : Reading = record { given = s.given; rest = drop count s.rest } in
    sees in_condition s (shift count (begins (look_of all.whole) a)) ≡ sees in_condition after (begins (look_of all.whole) a)

-- So it is with each part of the whole grammar whose looks are asked together with those of the part before it.
abbrev pub PartsLookAhead : Type 0
PartsLookAhead = (x : Production) → All LooksAhead (nearby (all.rule x))

-- A production that is called begins where it would with nothing given, wherever productions begin; and so does a node.
abbrev pub CallsHaveGivenNothing : Type 0
CallsHaveGivenNothing =
    (looks : Production → Look) (x : Production) (in_condition : Bool) (s : Reading)
    → sees in_condition s (begins looks (Call x)) ≡ sees in_condition (fresh s) (looks x)

abbrev pub NodesHaveGivenNothing : Type 0
NodesHaveGivenNothing =
    (looks : Production → Look) (kind : ℕ) (inside : Rule) (in_condition : Bool) (s : Reading)
    → sees in_condition s (begins looks (Node kind inside)) ≡ sees in_condition (fresh s) (begins looks inside)

-- Where a token is left, it makes no difference to where a production begins what was given before it.
abbrev pub CallsBeginFromStart : Type 0
CallsBeginFromStart =
    (x : Production) (in_condition : Bool) (s : Reading)
    → 0 < length s.rest → sees in_condition s (look_of all.whole x) ≡ sees in_condition (fresh s) (look_of all.whole x)

-- Where a production begins, what it gives stands over the tokens that it takes: its leaves one after another, each over tokens
-- that are spelled as its kind says.
abbrev pub ProductionsTakeInOrder : Type 0
ProductionsTakeInOrder =
    (x : Production) (in_condition : Bool) (tokens : List Token)
    → let start : Reading = record { given = End; rest = tokens } in
    let s = meaning all.whole x in_condition start in
    sees in_condition start (look_of all.whole x) ≡ true → tokens_after s.given tokens ≡ Some s.rest

-- An entry's tree stands so over all tokens.
abbrev pub EntriesTakeAllInOrder : Type 0
EntriesTakeAllInOrder = (x : Production) (tokens : List Token) → tokens_after (entry all.whole x tokens) tokens ≡ Some []

-- what a text can be asked to be
unfoldable pub is_entry : Production → Bool
is_entry source_file = true
is_entry macro_items = true
is_entry macro_statements = true
is_entry pattern = true
is_entry any_type = true
is_entry expression = true
is_entry meta = true
is_entry x = false

-- The tree of such an entry is one node, whatever the tokens are.
abbrev pub EntriesAreRooted : Type 0
EntriesAreRooted = (x : Production) (tokens : List Token) → is_entry x ≡ true → IsRooted (entry all.whole x tokens)

-- the tree of an entry with these leaves
abbrev pub entry_of : Production → (whole : Bool) → Edition → List Leaf → Forest
entry_of x whole edition leaves = entry all.whole x (input whole edition leaves)

-- Its steps fit every text with that input.
abbrev pub EntriesFit : Type 0
EntriesFit =
    (x : Production) (whole : Bool) (edition : Edition) (leaves : List Leaf)
    → is_entry x ≡ true → fits (steps (entry_of x whole edition leaves)) leaves ≡ true

-- In the tree of an entry each token tree starts with an opening delimiter, and ends with the closing one or the error for a
-- missing one.
abbrev pub TokenTreesAreBracketed : Type 0
TokenTreesAreBracketed = (x : Production) (tokens : List Token) → are_token_trees_bracketed (entry all.whole x tokens) ≡ true

-- In what a production gives, whether it begins there or not, each binary expression has operands that its operator's power
-- allows.
abbrev pub OperatorsOfProductionsBindByPower : Type 0
OperatorsOfProductionsBindByPower =
    (x : Production) (in_condition : Bool) (tokens : List Token)
    → let start : Reading = record { given = End; rest = tokens } in
    are_operators_placed (meaning all.whole x in_condition start).given ≡ true

-- So it is in the tree of an entry.
abbrev pub OperatorsOfEntriesBindByPower : Type 0
OperatorsOfEntriesBindByPower = (x : Production) (tokens : List Token) → are_operators_placed (entry all.whole x tokens) ≡ true

-- What a lead reads is one node, whether it begins there or not.
abbrev pub LeadsGiveOneNode : Type 0
LeadsGiveOneNode = (x : Production) → All (λ a. (in_condition : Bool) (s : Reading) → IsRooted (reads in_condition a (fresh s)).given) (leads (all.rule x))
