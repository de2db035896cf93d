-- Entries: what a text is asked to be.
use Rattle.std.specs.Prelude.{◌≡◌, ℕ, ◌<◌, ◌≤◌, Bool, true, List, [], length, codes}
use Rattle.parser_input.specs.Kinds.{ERROR}
use Rattle.parser_input.specs.Input.{Token, input}
use Rattle.parser_input.specs.Leaf.{Leaf}
use Rattle.parser_input.specs.declared.edition.Edition.{Edition}
use Rattle.parser_events.specs.Fits.{fits}
use Rattle.parser_events.specs.Steps.{Step}
use Rattle.parser_events.specs.Forest.{Forest, Message, End, Said, Node, ◌then◌}
use Rattle.rust_grammar.specs.Rule.{Production, source_file, macro_items, macro_statements, pattern, any_type, expression, meta}
use Rattle.rust_grammar.specs.Meaning.{Reading}
use Rattle.rust_grammar.specs.Entry.{leaves}
use Rattle.ra_parser.specs.declared.entries.Single.{Single}
use Rattle.ra_parser.specs.declared.entries.Single.TheVariants as singles
use Rattle.ra_parser.specs.declared.entry_points.TopEntryPoint.{TopEntryPoint}
use Rattle.ra_parser.specs.declared.entry_points.TopEntryPoint.TheVariants.{SourceFile, MacroStmts, MacroItems, Pattern, Ty, Expr, MetaItem}
use Rattle.ra_parser.specs.declared.entry_points.ParseError.{ParseError}
use Rattle.ra_parser.specs.declared.entry_points.ParseError.TheVariants.{TooLong, NoMemory}

-- the production that an entry asks for
abbrev pub production_of : TopEntryPoint → Production
production_of SourceFile = source_file
production_of MacroStmts = macro_statements
production_of MacroItems = macro_items
production_of Pattern = pattern
production_of Ty = any_type
production_of Expr = expression
production_of MetaItem = meta

-- where that is one thing and no list
abbrev pub single_of : Single → Production
single_of singles.Expression = expression
single_of singles.Meta = meta
single_of singles.Pattern = pattern
single_of singles.Type = any_type

-- the largest number of tokens of an input that is read
abbrev pub most_tokens : ℕ
most_tokens = 16777216

-- Why an input is not read: it is too long, or it is not and an allocation failed.
abbrev pub RefusesParse : List Token → ParseError → Type 0
RefusesParse ts TooLong = most_tokens < length ts
RefusesParse ts NoMemory = length ts ≤ most_tokens

abbrev pub message_of : ParseError → List ℕ
message_of TooLong = codes "too long"
message_of NoMemory = codes "out of memory"

-- the steps fit every text with this input, by whichever grammar that is read
abbrev pub FitEveryText : List Token → List Step → Type 0
FitEveryText tokens ss = (whole : Bool) (edition : Edition) (leaves : List Leaf) → tokens ≡ input whole edition leaves → fits ss leaves ≡ true

-- the tokens that are left, taken as leaves
unfoldable pub with_leaves : Reading → Reading
with_leaves s = record { given = s.given then leaves s.rest; rest = [] }

-- what was given, a message and the tokens that are left, in an error
unfoldable pub strayed : Message → Reading → Forest
strayed m s = Node ERROR (s.given then Said m (leaves s.rest)) End
