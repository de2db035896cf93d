-- Which inputs are of the core language, by the entry that reads them.
use Rattle.std.specs.Prelude.{List}
use Rattle.parser_input.specs.Input.{Token}
use Rattle.parser_events.specs.Forest.{Forest}
use Rattle.core_language.specs.Language.{IsCoreFile, IsCoreType, IsCoreExpression}
use Rattle.ra_parser.specs.declared.entry_points.TopEntryPoint.{TopEntryPoint}
use Rattle.ra_parser.specs.declared.entry_points.TopEntryPoint.TheVariants.{SourceFile, MacroStmts, MacroItems, Pattern, Ty, Expr, MetaItem}

-- The input is a core file, type or expression with this tree. The core language has nothing else.
abbrev pub IsCore : TopEntryPoint → List Token → Forest → Type 0
IsCore SourceFile tokens tree = IsCoreFile tokens tree
IsCore Ty tokens tree = IsCoreType tokens tree
IsCore Expr tokens tree = IsCoreExpression tokens tree
IsCore MacroStmts tokens tree = ⊥
IsCore MacroItems tokens tree = ⊥
IsCore Pattern tokens tree = ⊥
IsCore MetaItem tokens tree = ⊥
