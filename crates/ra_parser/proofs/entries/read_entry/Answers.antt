use Rattle.std.proofs.Common.{refl, arith}
use Rattle.rust_grammar.specs.Entry.{takes_all}
use Rattle.rust_grammar.specs.Rule.{source_file, macro_items, macro_statements}
use Rattle.rust_productions.specs.Looks.{tokens}
use Rattle.ra_parser.proofs.Entered.{list-read}
use Rattle.ra_parser.proofs.entries.read_entry.Goals as goal

pub returns-in-SourceFile-clause-tree : goal.returns-in-SourceFile-clause-tree
unfolding takes_all
returns-in-SourceFile-clause-tree c = rw c.in-SourceFile.is (list-read source_file refl c.requires.nodes c.source_file.ensures.gives)

pub returns-in-MacroStmts-clause-tree : goal.returns-in-MacroStmts-clause-tree
unfolding takes_all
returns-in-MacroStmts-clause-tree c = rw c.in-MacroStmts.is (list-read macro_statements refl c.requires.nodes c.macro_statements.ensures.gives)

pub returns-in-MacroItems-clause-tree : goal.returns-in-MacroItems-clause-tree
unfolding takes_all
returns-in-MacroItems-clause-tree c = rw c.in-MacroItems.is (list-read macro_items refl c.requires.nodes c.macro_items.ensures.gives)

pub returns-in-Pattern-clause-tree : goal.returns-in-Pattern-clause-tree
returns-in-Pattern-clause-tree c = rw c.in-Pattern.is c.read_single.ensures.tree

pub returns-in-Ty-clause-tree : goal.returns-in-Ty-clause-tree
returns-in-Ty-clause-tree c = rw c.in-Ty.is c.read_single-in-Ty.ensures.tree

pub returns-in-Expr-clause-tree : goal.returns-in-Expr-clause-tree
returns-in-Expr-clause-tree c = rw c.in-Expr.is c.read_single-in-Expr.ensures.tree

pub returns-in-MetaItem-clause-tree : goal.returns-in-MetaItem-clause-tree
returns-in-MetaItem-clause-tree c = rw c.in-MetaItem.is c.read_single-in-MetaItem.ensures.tree

pub returns-in-SourceFile-clause-looks : goal.returns-in-SourceFile-clause-looks
unfolding tokens
returns-in-SourceFile-clause-looks c = omega (arith, c.source_file.ensures.looks)

pub returns-in-MacroStmts-clause-looks : goal.returns-in-MacroStmts-clause-looks
unfolding tokens
returns-in-MacroStmts-clause-looks c = omega (arith, c.macro_statements.ensures.looks)

pub returns-in-MacroItems-clause-looks : goal.returns-in-MacroItems-clause-looks
unfolding tokens
returns-in-MacroItems-clause-looks c = omega (arith, c.macro_items.ensures.looks)

pub returns-in-Pattern-clause-looks : goal.returns-in-Pattern-clause-looks
unfolding tokens
returns-in-Pattern-clause-looks c = omega (arith, c.read_single.ensures.looks)

pub returns-in-Ty-clause-looks : goal.returns-in-Ty-clause-looks
unfolding tokens
returns-in-Ty-clause-looks c = omega (arith, c.read_single-in-Ty.ensures.looks)

pub returns-in-Expr-clause-looks : goal.returns-in-Expr-clause-looks
unfolding tokens
returns-in-Expr-clause-looks c = omega (arith, c.read_single-in-Expr.ensures.looks)

pub returns-in-MetaItem-clause-looks : goal.returns-in-MetaItem-clause-looks
unfolding tokens
returns-in-MetaItem-clause-looks c = omega (arith, c.read_single-in-MetaItem.ensures.looks)
