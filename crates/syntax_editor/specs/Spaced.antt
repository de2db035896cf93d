-- Whitespace around elements that are inserted into a gap.
use Rattle.std.specs.Prelude.{◌≡◌, ℕ, zero, suc, ◌+◌, ◌-◌, ◌<◌, ◌^◌, min, List, [], ◌∷◌, ◌++◌, map, length, slice_get, Bool, true, false, ◌&&◌, ◌||◌, ◌==◌, Option, if◌then◌else◌}
use Rattle.std.specs.List.{list_any}
use Rattle.std.specs.Option.{option_map_or}
use Rattle.parser_input.specs.Kinds.{TOMBSTONE, WHITESPACE, L_CURLY, ITEM_LIST, STMT_LIST, LET_STMT, EXPR_STMT, CONST, ENUM, FN, IMPL, MACRO_CALL, MODULE, STATIC, STRUCT, TRAIT, TYPE_ALIAS, USE}
use Rattle.rowan_green.specs.Term.{tree_of}
use Rattle.rowan_green.specs.declared.utility_types.NodeOrToken.TheVariants.{Token}
use Rattle.rowan.specs.Around.{children}
use Rattle.rowan.specs.Place.{kind_at}
use Rattle.syntax_tree.specs.Element.{Element, element_at}
use Rattle.syntax_tree.specs.Handle.{element_of, with_cursor}
use Rattle.syntax_tree.specs.declared.element.SyntaxElement.{SyntaxElement}
use Rattle.syntax_tree.specs.declared.element.SyntaxElement.TheVariants.{Node}
use Rattle.syntax_editor.specs.Between.{kind_of, between}
use Rattle.syntax_editor.specs.Editing.{Editing}
use Rattle.syntax_editor.specs.Indent.{line_feed, space, spaces, level_of}
use Rattle.syntax_editor.specs.Recording.{Recording, inserting}
use Rattle.syntax_editor.specs.declared.error.WhitespaceError.{WhitespaceError}
use Rattle.syntax_editor.specs.declared.error.WhitespaceError.TheVariants.{Foreign, NoTreeNumber, NoMemory}
use Rattle.syntax_editor.specs.declared.whitespace.Space.{Space}
use Rattle.syntax_editor.specs.declared.whitespace.Space.TheVariants.{Nothing, Blank, Line}

-- ---- which whitespace

abbrev pub statement_kinds : List ℕ
statement_kinds =
    LET_STMT ∷ (EXPR_STMT ∷ (CONST ∷ (ENUM ∷ (FN ∷ (IMPL ∷ (MACRO_CALL ∷ (MODULE ∷ (STATIC ∷ (STRUCT ∷ (TRAIT ∷ (TYPE_ALIAS ∷ (USE ∷ []))))))))))))

-- a statement, or an item among statements
abbrev pub is_statement : ℕ → Bool
is_statement kind = list_any (λ k. kind == k) statement_kinds

-- an element begins a line where it follows the brace that opens a list: a use among items, a statement among statements
abbrev pub begins_line : ℕ → ℕ → ℕ → Bool
begins_line list previous kind =
    previous == L_CURLY && ((list == ITEM_LIST && kind == USE) || (list == STMT_LIST && is_statement kind))

-- the child of this number, if there is one
abbrev pub child : Element → ℕ → Option SyntaxElement
child p i = slice_get (map (with_cursor p.number) (children p.place)) i

-- a line of one step more than the node has
abbrev pub inner_line : Element → Space
inner_line p = Line (min (level_of (Node p) + 1) 255)

-- what comes between a child and an element that is inserted after it
abbrev pub space_between : Element → SyntaxElement → SyntaxElement → Space
space_between p previous e =
    if begins_line (kind_at p.place) (kind_of previous) (kind_of e) then inner_line p else between previous e

-- what comes before an element in a gap: nothing before all children
abbrev pub space_before : Element → ℕ → SyntaxElement → Space
space_before p zero e = Nothing
space_before p (suc i) e = option_map_or (λ previous. space_between p previous e) (child p i) Nothing

-- what comes after it: nothing after all children
abbrev pub space_after : Element → ℕ → SyntaxElement → Space
space_after p i e = option_map_or (between e) (child p i) Nothing

-- what comes before the first of some elements, and after the last; nothing around none
abbrev pub space_before_all : Element → ℕ → List SyntaxElement → Space
space_before_all p i es = option_map_or (space_before p i) (slice_get es 0) Nothing

abbrev pub space_after_all : Element → ℕ → List SyntaxElement → Space
space_after_all p i es = option_map_or (space_after p i) (slice_get es (length es - 1)) Nothing

-- ---- its text, and the token of that

abbrev pub text_of : Space → List ℕ
text_of Nothing = []
text_of Blank = space ∷ []
text_of (Line n) = line_feed ∷ spaces n

-- the whitespace token of this text, in a new tree of this number
abbrev pub white_space : ℕ → List ℕ → Element
white_space n text = element_at n (tree_of TOMBSTONE (Token (record { kind = WHITESPACE; text = text }) ∷ [])) (0 ∷ [])

-- as a list: no token has no text
abbrev pub token_of : ℕ → List ℕ → List Element
token_of n [] = []
token_of n (c ∷ cs) = white_space n (c ∷ cs) ∷ []

abbrev pub token_count : List ℕ → ℕ
token_count [] = 0
token_count (c ∷ cs) = 1

-- ---- the inserted elements

-- the elements with the tokens around them, whose trees have numbers from this one on
abbrev pub spaced : Element → ℕ → ℕ → List SyntaxElement → List Element
spaced p i n es =
    let before = text_of (space_before_all p i es) in
    token_of n before ++ map element_of es ++ token_of (n + token_count before) (text_of (space_after_all p i es))

-- how many tokens these are
abbrev pub spaced_count : Element → ℕ → List SyntaxElement → ℕ
spaced_count p i es = token_count (text_of (space_before_all p i es)) + token_count (text_of (space_after_all p i es))

-- the node of this tree at the path of a position's parent
abbrev pub own : Element → Element → Element
own top p = element_at top.number top.place.root p.place.up

-- the result of inserting elements into a gap with whitespace around them
abbrev pub inserting_spaced : Editing → Element → ℕ → ℕ → List SyntaxElement → Recording
inserting_spaced e p i n es = inserting e p i (spaced (own e.top p) i n es)

-- the number that is next then
abbrev pub number_after : Editing → Element → ℕ → ℕ → List SyntaxElement → ℕ
number_after e p i n es = n + spaced_count (own e.top p) i es

-- ---- when it is refused

-- `Foreign` only if the gap is not in this tree; `NoTreeNumber` only if it is, and the number that is to be next is past the last;
-- `NoMemory` at any point
abbrev pub RefusesSpaced : Bool → ℕ → WhitespaceError → Type 0
RefusesSpaced has_gap next Foreign = has_gap ≡ false
RefusesSpaced has_gap next NoTreeNumber = (has_gap ≡ true) × (2 ^ 32 < next)
RefusesSpaced has_gap next NoMemory = Unit {0}
