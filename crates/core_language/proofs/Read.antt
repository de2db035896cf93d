-- What is read of a whole text: the laws of reading.
use Rattle.std.proofs.Common.{Bool, ◌≡◌, true, false, List, [], refl, ap, sym, ◌∙◌}
use Rattle.parser_input.specs.Input.{Token}
use Rattle.parser_events.specs.Forest.{Forest, End}
use Rattle.rust_grammar.specs.Rule.{source_file, any_type, expression, Call}
use Rattle.rust_grammar.specs.Meaning.{Reading, ahead}
use Rattle.rust_grammar.specs.Entry.{takes_all, is_used_up, entry}
use Rattle.rust_grammar.specs.Whole.{whole}
use Rattle.core_language.specs.Types.{CoreType, type_tree}
use Rattle.core_language.specs.Expressions.{Expression, expression_tree, IsWellFormed}
use Rattle.core_language.specs.Items.{Items, file_tree, AreWellFormedItems}
use Rattle.core_language.specs.Laws.{CoreFilesAreRead, CoreTypesAreRead, CoreExpressionsAreRead, CoreFilesHaveOneTree, CoreTypesHaveOneTree, CoreExpressionsHaveOneTree, WholeReadsCoreFiles, WholeReadsCoreTypes, WholeReadsCoreExpressions}
use Rattle.core_language.specs.Tokens.{of_whole}
use Rattle.core_language.proofs.Rules.{at, gives, begins_at, there-called, table}
use Rattle.core_language.proofs.Starts.{expression-is-there}
use Rattle.core_language.proofs.Tails.{Closed, closed-of}
use Rattle.core_language.proofs.Types.{type-reads}
use Rattle.core_language.proofs.Patterns.{type-there}
use Rattle.core_language.proofs.Plain.{expression-agrees, items-agree, type-agrees}
use Rattle.core_language.proofs.Expressions.{core-expression-reads}
use Rattle.core_language.proofs.Items.{file-reads}
use Rattle.core_language.proofs.Flagged.{expression_tokens, items_tokens, type_tokens}

-- An entry's tree, where all is read.
file-entry : (ts : List Token) (f : Forest) → gives source_file (at End ts) ≡ at f [] → entry whole source_file ts ≡ f
unfolding entry takes_all
file-entry ts f e = ap (λ (s : Reading). s.given) e

type-entry : (ts : List Token) (f : Forest) → begins_at (Call any_type) (at End ts) ≡ true → gives any_type (at End ts) ≡ at f []
    → entry whole any_type ts ≡ f
unfolding entry takes_all is_used_up
type-entry ts f there e = rw (there-called any_type ts there, e) refl

expression-entry : (ts : List Token) (f : Forest) → begins_at (Call expression) (at End ts) ≡ true → gives expression (at End ts) ≡ at f []
    → entry whole expression ts ≡ f
unfolding entry takes_all is_used_up
expression-entry ts f there e = rw (there-called expression ts there, e) refl

file-of : (flag : Bool) (is : Items) → AreWellFormedItems is → entry whole source_file (items_tokens flag is []) ≡ file_tree is
file-of flag is w = file-entry (items_tokens flag is []) (file_tree is) (file-reads flag is w)

type-of : (flag : Bool) (t : CoreType) → entry whole any_type (type_tokens flag t []) ≡ type_tree t End
unfolding ahead
type-of flag t = type-entry (type_tokens flag t []) (type_tree t End) (type-there flag t [] End) (type-reads flag t [] (record { colon = refl; angle = refl; paren = refl; bang = refl; plus = refl }))

closed-end : (flag : Bool) → Closed flag []
unfolding table
closed-end true = closed-of true [] (λ i g. refl) (λ g. refl) (λ g. refl)
closed-end false = closed-of false [] (λ i g. refl) (λ g. refl) (λ g. refl)

expression-of : (flag : Bool) (e : Expression) → IsWellFormed e → entry whole expression (expression_tokens flag e []) ≡ expression_tree e End
expression-of flag e w = expression-entry (expression_tokens flag e []) (expression_tree e End) (expression-is-there flag e [] End) (core-expression-reads flag e w [] (closed-end flag))

pub files-read : CoreFilesAreRead
files-read tokens tree c =
    ap (λ (ts : List Token). entry whole source_file ts) (sym c.has_tokens ∙ items-agree false c.items [] [] refl)
    ∙ file-of false c.items c.well_formed
    ∙ c.has_tree

pub types-read : CoreTypesAreRead
types-read tokens tree c =
    ap (λ (ts : List Token). entry whole any_type ts) (sym c.has_tokens ∙ type-agrees false c.type [] [] refl)
    ∙ type-of false c.type
    ∙ c.has_tree

pub expressions-read : CoreExpressionsAreRead
expressions-read tokens tree c =
    ap (λ (ts : List Token). entry whole expression ts) (sym c.has_tokens ∙ expression-agrees false c.expression [] [] refl)
    ∙ expression-of false c.expression c.well_formed
    ∙ c.has_tree

-- Where each token says that the whole language is read: the reading of a core list by its tokens with that flag.
no-tokens : of_whole [] ≡ []
unfolding of_whole
no-tokens = refl

pub whole-reads-files : WholeReadsCoreFiles
whole-reads-files tokens tree c =
    ap (λ (ts : List Token). entry whole source_file (of_whole ts)) (sym c.has_tokens)
    ∙ ap (λ (ts : List Token). entry whole source_file ts) (items-agree true c.items [] [] no-tokens)
    ∙ file-of true c.items c.well_formed
    ∙ c.has_tree

pub whole-reads-types : WholeReadsCoreTypes
whole-reads-types tokens tree c =
    ap (λ (ts : List Token). entry whole any_type (of_whole ts)) (sym c.has_tokens)
    ∙ ap (λ (ts : List Token). entry whole any_type ts) (type-agrees true c.type [] [] no-tokens)
    ∙ type-of true c.type
    ∙ c.has_tree

pub whole-reads-expressions : WholeReadsCoreExpressions
whole-reads-expressions tokens tree c =
    ap (λ (ts : List Token). entry whole expression (of_whole ts)) (sym c.has_tokens)
    ∙ ap (λ (ts : List Token). entry whole expression ts) (expression-agrees true c.expression [] [] no-tokens)
    ∙ expression-of true c.expression c.well_formed
    ∙ c.has_tree

-- An input has one tree: the one that is read.
pub files-one : CoreFilesHaveOneTree
files-one tokens tree other c d = sym (files-read tokens tree c) ∙ files-read tokens other d

pub types-one : CoreTypesHaveOneTree
types-one tokens tree other c d = sym (types-read tokens tree c) ∙ types-read tokens other d

pub expressions-one : CoreExpressionsHaveOneTree
expressions-one tokens tree other c d = sym (expressions-read tokens tree c) ∙ expressions-read tokens other d
