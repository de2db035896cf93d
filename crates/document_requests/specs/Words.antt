-- The words of a request, and what each of them names.
use Rattle.std.specs.Prelude.{ℕ, Bool, true, not, ◌&&◌, nat_le, List, Option, Some, None, codes, find, option_and_then, if◌then◌else◌}
use Rattle.std.specs.Str.{bytes_eq}
use Rattle.parser_input.specs.Kind.{name_of, raw_of}
use Rattle.parser_input.specs.Kinds.{EXTERN_CRATE, UNDERSCORE_EXPR}
use Rattle.parser_input.specs.declared.syntax_kind.SyntaxKind.{SyntaxKind}
use Rattle.parser_input.specs.KindTable.{all_kinds}
use Rattle.ra_parser.specs.declared.grammar.Grammar.{Grammar}
use Rattle.ra_parser.specs.declared.grammar.Grammar.TheVariants.{Profile, Whole}
use Rattle.document_requests.specs.declared.request.Op.{Op}
use Rattle.document_requests.specs.declared.request.Op.TheVariants.{Replace, Before, After}
use Rattle.document_requests.specs.declared.request.Entry.{Entry}
use Rattle.document_requests.specs.declared.request.Entry.TheVariants.{Token, Expr, Ty, Pattern, Item, Stmt}

abbrev pub grammar_named : List ℕ → Option Grammar
grammar_named word =
    if bytes_eq word (codes "profile") then Some Profile
    else if bytes_eq word (codes "whole") then Some Whole
    else None

abbrev pub op_named : List ℕ → Option Op
op_named word =
    if bytes_eq word (codes "replace") then Some Replace
    else if bytes_eq word (codes "before") then Some Before
    else if bytes_eq word (codes "after") then Some After
    else None

abbrev pub entry_named : List ℕ → Option Entry
entry_named word =
    if bytes_eq word (codes "token") then Some Token
    else if bytes_eq word (codes "expr") then Some Expr
    else if bytes_eq word (codes "type") then Some Ty
    else if bytes_eq word (codes "pattern") then Some Pattern
    else if bytes_eq word (codes "item") then Some Item
    else if bytes_eq word (codes "stmt") then Some Stmt
    else None

-- a kind that only the grammar of the whole language makes
abbrev pub is_of_whole_language : ℕ → Bool
is_of_whole_language kind = nat_le EXTERN_CRATE kind && nat_le kind UNDERSCORE_EXPR

-- the kind of this name, among all kinds
unfoldable pub any_kind_named : List ℕ → Option SyntaxKind
any_kind_named word = find (λ kind. bytes_eq (name_of kind) word) all_kinds

-- a request that is read by this grammar may name this kind
abbrev pub is_known : Grammar → ℕ → Bool
is_known Profile kind = not (is_of_whole_language kind)
is_known Whole kind = true

abbrev pub if_known : Grammar → SyntaxKind → Option SyntaxKind
if_known grammar kind = if is_known grammar (raw_of kind) then Some kind else None

-- the kind of a name that a request may use
abbrev pub kind_named : Grammar → List ℕ → Option SyntaxKind
kind_named grammar word = option_and_then (if_known grammar) (any_kind_named word)
