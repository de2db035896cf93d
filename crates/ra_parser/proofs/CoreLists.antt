-- What an entry gives of a core list.
use Rattle.std.proofs.Common.{◌≡◌, List}
use Rattle.parser_input.specs.Input.{Token}
use Rattle.parser_events.specs.Forest.{Forest}
use Rattle.rust_grammar.specs.Entry.{entry}
use Rattle.rust_grammar.specs.Whole.{whole}
use Rattle.core_language.proofs.Read.{files-read, types-read, expressions-read}
use Rattle.ra_parser.specs.Core.{IsCore}
use Rattle.ra_parser.specs.Entries.{production_of}
use Rattle.ra_parser.specs.declared.entry_points.TopEntryPoint.{TopEntryPoint}
use Rattle.ra_parser.specs.declared.entry_points.TopEntryPoint.TheVariants.{SourceFile, MacroStmts, MacroItems, Pattern, Ty, Expr, MetaItem}

pub core-entry : (asked : TopEntryPoint) (tokens : List Token) (tree : Forest) → IsCore asked tokens tree → entry whole (production_of asked) tokens ≡ tree
core-entry SourceFile tokens tree is = files-read tokens tree is
core-entry Ty tokens tree is = types-read tokens tree is
core-entry Expr tokens tree is = expressions-read tokens tree is
core-entry MacroStmts tokens tree is = absurd is
core-entry MacroItems tokens tree is = absurd is
core-entry Pattern tokens tree is = absurd is
core-entry MetaItem tokens tree is = absurd is
