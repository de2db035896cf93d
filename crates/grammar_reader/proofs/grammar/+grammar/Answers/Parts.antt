-- Parts that are expected or optional, arm by arm.
use Rattle.std.proofs.Common.{inl, inr, true, refl, sym, subst, arith}
use Rattle.parser_events.specs.Forest.{Message}
use Rattle.rust_grammar.specs.Expressions.{expressions}
use Rattle.rust_grammar.specs.Items.{items}
use Rattle.rust_grammar.specs.Meaning.{begins_below, look_of}
use Rattle.rust_grammar.specs.Notation.{any_of, is_longer, no_longer, longest, one_of, row}
use Rattle.rust_grammar.specs.Paths.{paths}
use Rattle.rust_grammar.specs.Patterns.{patterns}
use Rattle.rust_grammar.specs.Rule as rules
use Rattle.rust_grammar.specs.Rule.{begins, in_mode, from_start, is_silent, passes, shift, there_at, Say}
use Rattle.rust_grammar.specs.Statements.{statements}
use Rattle.rust_grammar.specs.Types.{types}
use Rattle.rust_grammar.specs.Whole.{rule, whole}
use Rattle.grammar_reader.specs.Parts.{part_begins, part_of}
use Rattle.grammar_reader.specs.declared.grammar.parts.Part.{Part}
use Rattle.grammar_reader.proofs.ListsAndParts.{part-there}
use Rattle.rust_productions.specs.Reads.{Reads}
use Rattle.rust_productions.specs.Starts.{Starts}
use Rattle.rust_productions.proofs.ByHand.{after-look, reads-call, reads-missing, reads-none, reads-opt, reads-want, reads-when}
use Rattle.rust_productions.proofs.Choices.{from_start-after, gives-from_start}
use Rattle.rust_productions.proofs.Facts.{saw-so}
use Rattle.rust_productions.proofs.Seen.{saw-after}
use Rattle.grammar_reader.proofs.grammar.+grammar.Goals as goal

pub parts::read_part-list-requires : goal.parts::read_part-list-requires
parts::read_part-list-requires t c = (omega arith, omega (arith, c.requires.begins.some))

pub parts::read_part-returns-in-Arguments-clause-reads : goal.parts::read_part-returns-in-Arguments-clause-reads
unfolding look_of begins_below whole rule items statements expressions patterns types paths there_at shift passes is_silent begins in_mode from_start row one_of any_of no_longer longest is_longer
parts::read_part-returns-in-Arguments-clause-reads t c = λ cond. subst (λ (e : Part). Reads cond (part_of e) c.args.p.now c.list.new.p) (sym c.in-Arguments.is) (reads-call cond (gives-from_start (from_start-after refl (c.list.ensures.reads cond))))

pub parts::read_part-item_list-requires : goal.parts::read_part-item_list-requires
parts::read_part-item_list-requires t c = (omega arith, omega (arith, c.requires.begins.some))

pub parts::read_part-returns-in-AssocItems-clause-reads : goal.parts::read_part-returns-in-AssocItems-clause-reads
unfolding look_of begins_below whole rule items statements expressions patterns types paths there_at shift passes is_silent begins in_mode from_start row one_of any_of no_longer longest is_longer
parts::read_part-returns-in-AssocItems-clause-reads t c = λ cond. subst (λ (e : Part). Reads cond (part_of e) c.args.p.now c.item_list.new.p) (sym c.in-AssocItems.is) (reads-call cond (gives-from_start (from_start-after refl (c.item_list.ensures.reads cond))))

pub parts::read_part-block-requires : goal.parts::read_part-block-requires
parts::read_part-block-requires t c = (omega arith, omega (arith, c.requires.begins.some))

pub parts::read_part-returns-in-Block-clause-reads : goal.parts::read_part-returns-in-Block-clause-reads
parts::read_part-returns-in-Block-clause-reads t c = λ cond. subst (λ (e : Part). Reads cond (part_of e) c.args.p.now c.block.new.p) (sym c.in-Block.is) (reads-call cond (c.block.ensures.gives cond))

pub parts::read_part-list-requires-in-ClosureParams : goal.parts::read_part-list-requires-in-ClosureParams
parts::read_part-list-requires-in-ClosureParams t c = (omega arith, omega (arith, c.requires.begins.some))

pub parts::read_part-returns-in-ClosureParams-clause-reads : goal.parts::read_part-returns-in-ClosureParams-clause-reads
unfolding look_of begins_below whole rule items statements expressions patterns types paths there_at shift passes is_silent begins in_mode from_start row one_of any_of no_longer longest is_longer
parts::read_part-returns-in-ClosureParams-clause-reads t c = λ cond. subst (λ (e : Part). Reads cond (part_of e) c.args.p.now c.list-in-ClosureParams.new.p) (sym c.in-ClosureParams.is) (c.list-in-ClosureParams.ensures.reads cond)

pub parts::read_part-list-requires-in-FnPtrParams : goal.parts::read_part-list-requires-in-FnPtrParams
parts::read_part-list-requires-in-FnPtrParams t c = (omega arith, omega (arith, c.requires.begins.some))

pub parts::read_part-returns-in-FnPtrParams-clause-reads : goal.parts::read_part-returns-in-FnPtrParams-clause-reads
unfolding look_of begins_below whole rule items statements expressions patterns types paths there_at shift passes is_silent begins in_mode from_start row one_of any_of no_longer longest is_longer
parts::read_part-returns-in-FnPtrParams-clause-reads t c = λ cond. subst (λ (e : Part). Reads cond (part_of e) c.args.p.now c.list-in-FnPtrParams.new.p) (sym c.in-FnPtrParams.is) (c.list-in-FnPtrParams.ensures.reads cond)

pub parts::read_part-generic_args-requires : goal.parts::read_part-generic_args-requires
parts::read_part-generic_args-requires t c = (omega arith, ((λ d. (subst (λ (e : Part). Starts (part_begins e) c.args.p.now) c.in-GenericArgs.is c.requires.begins).sees d), c.requires.begins.some))

pub parts::read_part-returns-in-GenericArgs-clause-reads : goal.parts::read_part-returns-in-GenericArgs-clause-reads
parts::read_part-returns-in-GenericArgs-clause-reads t c = λ cond. subst (λ (e : Part). Reads cond (part_of e) c.args.p.now c.generic_args.new.p) (sym c.in-GenericArgs.is) (reads-call cond (c.generic_args.ensures.gives cond))

pub parts::read_part-list-requires-in-GenericParams : goal.parts::read_part-list-requires-in-GenericParams
parts::read_part-list-requires-in-GenericParams t c = (omega arith, omega (arith, c.requires.begins.some))

pub parts::read_part-returns-in-GenericParams-clause-reads : goal.parts::read_part-returns-in-GenericParams-clause-reads
unfolding look_of begins_below whole rule items statements expressions patterns types paths there_at shift passes is_silent begins in_mode from_start row one_of any_of no_longer longest is_longer
parts::read_part-returns-in-GenericParams-clause-reads t c = λ cond. elim c.in-GenericParams.is [ inl a0 ↦ subst (λ (e : Part). Reads cond (part_of e) c.args.p.now c.list-in-GenericParams.new.p) (sym a0) (reads-call cond (gives-from_start (from_start-after refl (c.list-in-GenericParams.ensures.reads cond)))) | inr b0 ↦ subst (λ (e : Part). Reads cond (part_of e) c.args.p.now c.list-in-GenericParams.new.p) (sym b0) (reads-when cond (reads-call cond (gives-from_start (from_start-after refl (c.list-in-GenericParams.ensures.reads cond))))) ]

pub parts::read_part-match_arms-requires : goal.parts::read_part-match_arms-requires
parts::read_part-match_arms-requires t c = (omega arith, omega (arith, c.requires.begins.some))

pub parts::read_part-returns-in-MatchArms-clause-reads : goal.parts::read_part-returns-in-MatchArms-clause-reads
parts::read_part-returns-in-MatchArms-clause-reads t c = λ cond. subst (λ (e : Part). Reads cond (part_of e) c.args.p.now c.match_arms.new.p) (sym c.in-MatchArms.is) (reads-call cond (c.match_arms.ensures.gives cond))

pub parts::read_part-where_clause-requires : goal.parts::read_part-where_clause-requires
parts::read_part-where_clause-requires t c = (omega arith, omega (arith, c.requires.begins.some))

pub parts::read_part-returns-in-NewWhereClause-clause-reads : goal.parts::read_part-returns-in-NewWhereClause-clause-reads
parts::read_part-returns-in-NewWhereClause-clause-reads t c = λ cond. elim c.in-NewWhereClause.is [ inl a0 ↦ subst (λ (e : Part). Reads cond (part_of e) c.args.p.now c.where_clause.new.p) (sym a0) (reads-when cond (reads-call cond (c.where_clause.ensures.gives cond))) | inr b0 ↦ subst (λ (e : Part). Reads cond (part_of e) c.args.p.now c.where_clause.new.p) (sym b0) (reads-call cond (c.where_clause.ensures.gives cond)) ]

pub parts::read_part-list-requires-in-Params : goal.parts::read_part-list-requires-in-Params
parts::read_part-list-requires-in-Params t c = (omega arith, omega (arith, c.requires.begins.some))

pub parts::read_part-returns-in-Params-clause-reads : goal.parts::read_part-returns-in-Params-clause-reads
unfolding look_of begins_below whole rule items statements expressions patterns types paths there_at shift passes is_silent begins in_mode from_start row one_of any_of no_longer longest is_longer
parts::read_part-returns-in-Params-clause-reads t c = λ cond. subst (λ (e : Part). Reads cond (part_of e) c.args.p.now c.list-in-Params.new.p) (sym c.in-Params.is) (reads-call cond (gives-from_start (from_start-after refl (c.list-in-Params.ensures.reads cond))))

pub parts::read_part-path_type-requires : goal.parts::read_part-path_type-requires
parts::read_part-path_type-requires t c = (omega arith, ((λ d. (subst (λ (e : Part). Starts (part_begins e) c.args.p.now) c.in-PathType.is c.requires.begins).sees d), c.requires.begins.some))

pub parts::read_part-returns-in-PathType-clause-reads : goal.parts::read_part-returns-in-PathType-clause-reads
parts::read_part-returns-in-PathType-clause-reads t c = λ cond. subst (λ (e : Part). Reads cond (part_of e) c.args.p.now c.path_type.new.p) (sym c.in-PathType.is) (c.path_type.ensures.reads cond)

pub parts::read_part-pattern-requires : goal.parts::read_part-pattern-requires
parts::read_part-pattern-requires t c = (omega arith, ((λ d. (subst (λ (e : Part). Starts (part_begins e) c.args.p.now) c.in-Pattern.is c.requires.begins).sees d), c.requires.begins.some))

pub parts::read_part-returns-in-Pattern-clause-reads : goal.parts::read_part-returns-in-Pattern-clause-reads
parts::read_part-returns-in-Pattern-clause-reads t c = λ cond. subst (λ (e : Part). Reads cond (part_of e) c.args.p.now c.pattern.new.p) (sym c.in-Pattern.is) (reads-call cond (c.pattern.ensures.gives cond))

pub parts::read_part-list-requires-in-RecordFields : goal.parts::read_part-list-requires-in-RecordFields
parts::read_part-list-requires-in-RecordFields t c = (omega arith, omega (arith, c.requires.begins.some))

pub parts::read_part-returns-in-RecordFields-clause-reads : goal.parts::read_part-returns-in-RecordFields-clause-reads
unfolding look_of begins_below whole rule items statements expressions patterns types paths there_at shift passes is_silent begins in_mode from_start row one_of any_of no_longer longest is_longer
parts::read_part-returns-in-RecordFields-clause-reads t c = λ cond. subst (λ (e : Part). Reads cond (part_of e) c.args.p.now c.list-in-RecordFields.new.p) (sym c.in-RecordFields.is) (reads-call cond (gives-from_start (from_start-after refl (c.list-in-RecordFields.ensures.reads cond))))

pub parts::read_part-single_pattern-requires : goal.parts::read_part-single_pattern-requires
parts::read_part-single_pattern-requires t c = (omega arith, ((λ d. (subst (λ (e : Part). Starts (part_begins e) c.args.p.now) c.in-SinglePattern.is c.requires.begins).sees d), c.requires.begins.some))

pub parts::read_part-returns-in-SinglePattern-clause-reads : goal.parts::read_part-returns-in-SinglePattern-clause-reads
parts::read_part-returns-in-SinglePattern-clause-reads t c = λ cond. subst (λ (e : Part). Reads cond (part_of e) c.args.p.now c.single_pattern.new.p) (sym c.in-SinglePattern.is) (reads-call cond (c.single_pattern.ensures.gives cond))

pub parts::read_part-statement_list-requires : goal.parts::read_part-statement_list-requires
parts::read_part-statement_list-requires t c = (omega arith, omega (arith, c.requires.begins.some))

pub parts::read_part-returns-in-StatementList-clause-reads : goal.parts::read_part-returns-in-StatementList-clause-reads
parts::read_part-returns-in-StatementList-clause-reads t c = λ cond. subst (λ (e : Part). Reads cond (part_of e) c.args.p.now c.statement_list.new.p) (sym c.in-StatementList.is) (reads-call cond (c.statement_list.ensures.gives cond))

pub parts::read_part-any_type-requires : goal.parts::read_part-any_type-requires
parts::read_part-any_type-requires t c = (omega arith, subst (λ (e : Part). Starts (part_begins e) c.args.p.now) c.in-Type.is c.requires.begins)

pub parts::read_part-returns-in-Type-clause-reads : goal.parts::read_part-returns-in-Type-clause-reads
parts::read_part-returns-in-Type-clause-reads t c = λ cond. subst (λ (e : Part). Reads cond (part_of e) c.args.p.now c.any_type.new.p) (sym c.in-Type.is) (reads-call cond (c.any_type.ensures.gives cond))

pub parts::read_part-type_no_bounds-requires : goal.parts::read_part-type_no_bounds-requires
parts::read_part-type_no_bounds-requires t c = (omega arith, subst (λ (e : Part). Starts (part_begins e) c.args.p.now) c.in-TypeNoBounds.is c.requires.begins)

pub parts::read_part-returns-in-TypeNoBounds-clause-reads : goal.parts::read_part-returns-in-TypeNoBounds-clause-reads
parts::read_part-returns-in-TypeNoBounds-clause-reads t c = λ cond. subst (λ (e : Part). Reads cond (part_of e) c.args.p.now c.type_no_bounds.new.p) (sym c.in-TypeNoBounds.is) (reads-call cond (c.type_no_bounds.ensures.gives cond))

pub parts::read_part-list-requires-in-Variants : goal.parts::read_part-list-requires-in-Variants
parts::read_part-list-requires-in-Variants t c = (omega arith, omega (arith, c.requires.begins.some))

pub parts::read_part-returns-in-Variants-clause-reads : goal.parts::read_part-returns-in-Variants-clause-reads
unfolding look_of begins_below whole rule items statements expressions patterns types paths there_at shift passes is_silent begins in_mode from_start row one_of any_of no_longer longest is_longer
parts::read_part-returns-in-Variants-clause-reads t c = λ cond. subst (λ (e : Part). Reads cond (part_of e) c.args.p.now c.list-in-Variants.new.p) (sym c.in-Variants.is) (reads-call cond (gives-from_start (from_start-after refl (c.list-in-Variants.ensures.reads cond))))

pub parts::read_part-where_pred-requires : goal.parts::read_part-where_pred-requires
parts::read_part-where_pred-requires t c = (omega arith, subst (λ (e : Part). Starts (part_begins e) c.args.p.now) c.in-WherePred.is c.requires.begins)

pub parts::read_part-returns-in-WherePred-clause-reads : goal.parts::read_part-returns-in-WherePred-clause-reads
parts::read_part-returns-in-WherePred-clause-reads t c = λ cond. subst (λ (e : Part). Reads cond (part_of e) c.args.p.now c.where_pred.new.p) (sym c.in-WherePred.is) (reads-call cond (c.where_pred.ensures.gives cond))

pub parts::expect_part-read_part-requires : goal.parts::expect_part-read_part-requires
parts::expect_part-read_part-requires t c = (omega arith, record { sees = λ d. saw-after c.at_part.ensures.peeks.same (saw-so (c.at_part.ensures.sees d) c.if-at_part.true); some = omega (arith, c.at_part.ensures.some c.if-at_part.true, c.at_part.ensures.peeks.left) })

pub parts::expect_part-returns-then-at_part-clause-reads : goal.parts::expect_part-returns-then-at_part-clause-reads
parts::expect_part-returns-then-at_part-clause-reads t c = λ cond. reads-want cond (part-there c.args.part (saw-so (c.at_part.ensures.sees cond) c.if-at_part.true)) (after-look cond c.at_part.ensures.peeks.same (c.read_part.ensures.reads cond))

pub parts::expect_part-returns-clause-reads : goal.parts::expect_part-returns-clause-reads
parts::expect_part-returns-clause-reads t c = λ cond. reads-missing cond (part-there c.args.part (saw-so (c.at_part.ensures.sees cond) c.if-at_part.false)) (after-look cond c.at_part.ensures.peeks.same (subst (λ (m : Message). Reads cond (Say m) c.at_part.new.p c.error.new.self) c.missing_part.ensures.is (c.error.ensures.reads cond)))

pub parts::opt_part-read_part-requires : goal.parts::opt_part-read_part-requires
parts::opt_part-read_part-requires t c = (omega arith, record { sees = λ d. saw-after c.at_part.ensures.peeks.same (saw-so (c.at_part.ensures.sees d) c.if-at_part.true); some = omega (arith, c.at_part.ensures.some c.if-at_part.true, c.at_part.ensures.peeks.left) })

pub parts::opt_part-returns-then-at_part-clause-reads : goal.parts::opt_part-returns-then-at_part-clause-reads
parts::opt_part-returns-then-at_part-clause-reads t c = λ cond. reads-opt cond (part-there c.args.part (saw-so (c.at_part.ensures.sees cond) c.if-at_part.true)) (after-look cond c.at_part.ensures.peeks.same (c.read_part.ensures.reads cond))

pub parts::opt_part-returns-else-at_part-clause-reads : goal.parts::opt_part-returns-else-at_part-clause-reads
parts::opt_part-returns-else-at_part-clause-reads t c = λ cond. reads-none cond (part-there c.args.part (saw-so (c.at_part.ensures.sees cond) c.if-at_part.false)) c.at_part.ensures.peeks.same
