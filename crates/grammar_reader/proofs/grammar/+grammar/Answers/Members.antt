-- Variants and fields, path by path.
use Rattle.std.proofs.Common.{refl, sym, ap, ◌∙◌, arith}
use Rattle.parser_input.specs.Kind.{raw_of}
use Rattle.parser_input.specs.Kinds as kinds
use Rattle.rust_grammar.specs.Rule as rules
use Rattle.rust_grammar.specs.Calls.{AnyType, Attribute, Name, Visibility}
use Rattle.rust_grammar.specs.Expressions.{expressions}
use Rattle.rust_grammar.specs.Items.{items, field_front}
use Rattle.rust_grammar.specs.Meaning.{begins_below, look_of}
use Rattle.rust_grammar.specs.Notation.{◌▸◌, ⁅◌⁆, ◌*, ◌!, any_of, is_longer, no_longer, longest, one_of, row, next, wide}
use Rattle.rust_grammar.specs.Paths.{paths}
use Rattle.rust_grammar.specs.Patterns.{patterns}
use Rattle.rust_grammar.specs.Rule.{Kind, begins, in_mode, from_start, is_silent, passes, shift, there_at}
use Rattle.rust_grammar.specs.Statements.{statements}
use Rattle.rust_grammar.specs.Types.{types}
use Rattle.rust_grammar.specs.Whole.{rule, whole}
use Rattle.rust_productions.specs.Reads.{looks}
use Rattle.rust_productions.specs.declared.condition.Condition.TheVariants.{On, Off}
use Rattle.rust_productions.proofs.ByHand.{after-look, reads-call, reads-node, reads-nothing, reads-then}
use Rattle.rust_productions.proofs.Choices.{reads-here, gives-from_start, from_start-after}
use Rattle.rust_productions.proofs.Facts.{begun, nothing, ◌and◌, saw-so}
use Rattle.rust_productions.proofs.Given.{reads-three, reads-two}
use Rattle.rust_productions.proofs.Looking.{saw-arm, saw-not}
use Rattle.rust_productions.proofs.Seen.{saw-after, saw-else, saw-inside, saw-told}
use Rattle.grammar_reader.proofs.AnyMode.{type-mode}
use Rattle.grammar_reader.proofs.Parts.{reads-four}
use Rattle.rust_grammar.specs.Words.{'unsafe'}
use Rattle.grammar_reader.proofs.grammar.+grammar.Goals as goal

pub items::members::tuple_field-typed-requires : goal.items::members::tuple_field-typed-requires
unfolding look_of begins_below whole rule items statements expressions patterns types paths there_at shift passes is_silent begins in_mode from_start row one_of any_of no_longer longest is_longer
items::members::tuple_field-typed-requires t c = (omega arith, (saw-inside c.start-field.ensures.opens c.requires.begins, omega arith))

pub items::members::tuple_field-complete-requires : goal.items::members::tuple_field-complete-requires
items::members::tuple_field-complete-requires t c = c.typed.ensures.reads.does.innermost _ c.start-field.ensures.marker

pub items::members::tuple_field-returns-clause-reads : goal.items::members::tuple_field-returns-clause-reads
items::members::tuple_field-returns-clause-reads t c = reads-node Off c.start-field.ensures.opens c.typed.ensures.reads c.complete.ensures.closes

pub items::members::named-attributes_and_visibility-requires : goal.items::members::named-attributes_and_visibility-requires
unfolding look_of begins_below whole rule items statements expressions patterns types paths there_at shift passes is_silent begins in_mode from_start row one_of any_of no_longer longest is_longer
items::members::named-attributes_and_visibility-requires t c = (omega arith, ((λ d. saw-after c.current.ensures.peeks.same (saw-told (saw-arm c.in-POUND.is (c.current.ensures.sees d) and nothing) refl)), omega arith))

pub items::members::named-returns-in-POUND-clause-reads : goal.items::members::named-returns-in-POUND-clause-reads
items::members::named-returns-in-POUND-clause-reads t c = after-look Off c.current.ensures.peeks.same (reads-two Off (c.attributes_and_visibility.ensures.reads Off) (c.expect_name.ensures.reads Off))

pub items::members::named-returns-in-PUB_KW-clause-reads : goal.items::members::named-returns-in-PUB_KW-clause-reads
unfolding look_of begins_below whole rule items statements expressions patterns types paths there_at shift passes is_silent begins in_mode from_start row one_of any_of no_longer longest is_longer
items::members::named-returns-in-PUB_KW-clause-reads t c = reads-here (saw-arm c.in-PUB_KW.is (c.current.ensures.sees Off) and nothing) (after-look Off c.current.ensures.peeks.same (reads-then Off (reads-call Off (c.visibility.ensures.gives Off)) (c.expect_name-in-PUB_KW.ensures.reads Off)))

pub items::members::named-returns-in_default-clause-reads : goal.items::members::named-returns-in_default-clause-reads
unfolding look_of begins_below whole rule items statements expressions patterns types paths there_at shift passes is_silent begins in_mode from_start row one_of any_of no_longer longest is_longer
items::members::named-returns-in_default-clause-reads t c = reads-here (saw-not c.in_default.not-POUND (c.current.ensures.sees Off) and saw-not c.in_default.not-PUB_KW (c.current.ensures.sees Off) and saw-else (Kind 0 kinds.IDENT) (begins looks (Attribute * ▸ ⁅ Visibility ⁆ ▸ Name !)) (saw-not c.in_default.not-POUND (c.current.ensures.sees Off) and saw-not c.in_default.not-PUB_KW (c.current.ensures.sees Off) and nothing) c.requires.begins refl and nothing) (after-look Off c.current.ensures.peeks.same (reads-call Off (c.name.ensures.gives Off)))

pub items::members::typed-attributes_and_visibility-requires : goal.items::members::typed-attributes_and_visibility-requires
unfolding look_of begins_below whole rule items statements expressions patterns types paths there_at shift passes is_silent begins in_mode from_start row one_of any_of no_longer longest is_longer
items::members::typed-attributes_and_visibility-requires t c = (omega arith, ((λ d. saw-after c.current.ensures.peeks.same (saw-told (saw-arm c.in-POUND.is (c.current.ensures.sees d) and nothing) refl)), omega arith))

pub items::members::typed-returns-in-POUND-clause-reads : goal.items::members::typed-returns-in-POUND-clause-reads
items::members::typed-returns-in-POUND-clause-reads t c = after-look Off c.current.ensures.peeks.same (reads-two Off (c.attributes_and_visibility.ensures.reads Off) (c.expect_part.ensures.reads _))

pub items::members::typed-returns-in-PUB_KW-clause-reads : goal.items::members::typed-returns-in-PUB_KW-clause-reads
unfolding look_of begins_below whole rule items statements expressions patterns types paths there_at shift passes is_silent begins in_mode from_start row one_of any_of no_longer longest is_longer
items::members::typed-returns-in-PUB_KW-clause-reads t c = reads-here (saw-arm c.in-PUB_KW.is (c.current.ensures.sees Off) and nothing) (after-look Off c.current.ensures.peeks.same (reads-then Off (reads-call Off (c.visibility.ensures.gives Off)) (c.expect_part-in-PUB_KW.ensures.reads _)))

pub items::members::typed-any_type-requires : goal.items::members::typed-any_type-requires
unfolding look_of begins_below whole rule items statements expressions patterns types paths there_at shift passes is_silent begins in_mode from_start row one_of any_of no_longer longest is_longer
items::members::typed-any_type-requires t c = (omega arith, record { sees = λ d. saw-after c.current.ensures.peeks.same (type-mode (saw-else (looks rules.any_type) (begins looks (Attribute * ▸ ⁅ Visibility ⁆ ▸ AnyType !)) (saw-not c.in_default.not-POUND (c.current.ensures.sees Off) and saw-not c.in_default.not-PUB_KW (c.current.ensures.sees Off) and nothing) c.requires.begins refl)); some = omega (arith, c.requires.some, c.current.ensures.peeks.left) })

pub items::members::typed-returns-in_default-clause-reads : goal.items::members::typed-returns-in_default-clause-reads
unfolding look_of begins_below whole rule items statements expressions patterns types paths there_at shift passes is_silent begins in_mode from_start row one_of any_of no_longer longest is_longer
items::members::typed-returns-in_default-clause-reads t c = reads-here (saw-not c.in_default.not-POUND (c.current.ensures.sees Off) and saw-not c.in_default.not-PUB_KW (c.current.ensures.sees Off) and begun rules.any_type (saw-else (looks rules.any_type) (begins looks (Attribute * ▸ ⁅ Visibility ⁆ ▸ AnyType !)) (saw-not c.in_default.not-POUND (c.current.ensures.sees Off) and saw-not c.in_default.not-PUB_KW (c.current.ensures.sees Off) and nothing) c.requires.begins refl) nothing) (after-look Off c.current.ensures.peeks.same (reads-call Off (c.any_type.ensures.gives _)))

pub items::members::opt_fields-list-requires : goal.items::members::opt_fields-list-requires
items::members::opt_fields-list-requires t c = (omega arith, omega (arith, c.current.ensures.peeks.left, c.current.ensures.some (λ e. absurd (omega (arith, sym (ap raw_of c.in-L_CURLY.is) ∙ e)))))

pub items::members::opt_fields-returns-in-L_CURLY-clause-reads : goal.items::members::opt_fields-returns-in-L_CURLY-clause-reads
unfolding look_of begins_below whole rule items statements expressions patterns types paths there_at shift passes is_silent begins in_mode from_start row one_of any_of no_longer longest is_longer
items::members::opt_fields-returns-in-L_CURLY-clause-reads t c = λ cond. reads-here (saw-arm c.in-L_CURLY.is (c.current.ensures.sees cond) and nothing) (after-look cond c.current.ensures.peeks.same (reads-call cond (gives-from_start (from_start-after refl (c.list.ensures.reads cond)))))

pub items::members::opt_fields-list-requires-in-L_PAREN : goal.items::members::opt_fields-list-requires-in-L_PAREN
items::members::opt_fields-list-requires-in-L_PAREN t c = (omega arith, omega (arith, c.current.ensures.peeks.left, c.current.ensures.some (λ e. absurd (omega (arith, sym (ap raw_of c.in-L_PAREN.is) ∙ e)))))

pub items::members::opt_fields-returns-in-L_PAREN-clause-reads : goal.items::members::opt_fields-returns-in-L_PAREN-clause-reads
unfolding look_of begins_below whole rule items statements expressions patterns types paths there_at shift passes is_silent begins in_mode from_start row one_of any_of no_longer longest is_longer
items::members::opt_fields-returns-in-L_PAREN-clause-reads t c = λ cond. reads-here (saw-arm c.in-L_PAREN.is (c.current.ensures.sees cond) and nothing) (after-look cond c.current.ensures.peeks.same (reads-call cond (gives-from_start (from_start-after refl (c.list-in-L_PAREN.ensures.reads cond)))))

pub items::members::opt_fields-returns-in_default-clause-reads : goal.items::members::opt_fields-returns-in_default-clause-reads
unfolding look_of begins_below whole rule items statements expressions patterns types paths there_at shift passes is_silent begins in_mode from_start row one_of any_of no_longer longest is_longer
items::members::opt_fields-returns-in_default-clause-reads t c = λ cond. reads-here (saw-not c.in_default.not-L_CURLY (c.current.ensures.sees cond) and saw-not c.in_default.not-L_PAREN (c.current.ensures.sees cond) and nothing) (reads-nothing cond c.current.ensures.peeks.same)

pub items::members::variant-returns-clause-reads : goal.items::members::variant-returns-clause-reads
items::members::variant-returns-clause-reads t c = reads-node Off c.start-variant.ensures.opens (reads-three Off c.named.ensures.reads (reads-then Off (c.opt_fields.ensures.reads Off) c.opt_discriminant.ensures.reads)) c.complete.ensures.closes

pub items::members::variant-complete-requires : goal.items::members::variant-complete-requires
items::members::variant-complete-requires t c = c.opt_discriminant.ensures.reads.does.innermost _ ((c.opt_fields.ensures.reads On).does.innermost _ (c.named.ensures.reads.does.innermost _ (c.start-variant.ensures.marker)))

pub items::members::variant-named-requires : goal.items::members::variant-named-requires
unfolding look_of begins_below whole rule items statements expressions patterns types paths there_at shift passes is_silent begins in_mode from_start row one_of any_of no_longer longest is_longer
items::members::variant-named-requires t c = (omega arith, (saw-inside c.start-variant.ensures.opens c.requires.begins, omega (arith, c.requires.some, c.start-variant.ensures.stays.left)))

pub items::members::record_field-returns-clause-reads : goal.items::members::record_field-returns-clause-reads
items::members::record_field-returns-clause-reads t c = reads-node Off c.start-field.ensures.opens (reads-four Off c.field_front.ensures.reads (reads-then Off (c.expect.ensures.reads Off) (reads-then Off (c.expect_part.ensures.reads Off) c.opt_discriminant.ensures.reads))) c.complete.ensures.closes

pub items::members::record_field-complete-requires : goal.items::members::record_field-complete-requires
items::members::record_field-complete-requires t c = c.opt_discriminant.ensures.reads.does.innermost _ ((c.expect_part.ensures.reads On).does.innermost _ ((c.expect.ensures.reads On).does.innermost _ (c.field_front.ensures.reads.does.innermost _ (c.start-field.ensures.marker))))

pub items::members::record_field-field_front-requires : goal.items::members::record_field-field_front-requires
unfolding look_of begins_below whole rule items statements expressions patterns types paths there_at shift passes is_silent begins in_mode from_start row one_of any_of no_longer longest is_longer
items::members::record_field-field_front-requires t c = (omega arith, (saw-inside c.start-field.ensures.opens c.requires.begins, omega (arith, c.requires.some, c.start-field.ensures.stays.left)))

pub items::members::field_front-attributes_and_visibility-requires : goal.items::members::field_front-attributes_and_visibility-requires
unfolding look_of begins_below whole rule items statements expressions patterns types paths there_at shift passes is_silent begins in_mode from_start row one_of any_of no_longer longest is_longer
items::members::field_front-attributes_and_visibility-requires t c = (omega arith, ((λ d. saw-after c.current.ensures.peeks.same (saw-told (saw-arm c.in-POUND.is (c.current.ensures.sees d) and nothing) refl)), omega (arith, c.requires.some, c.current.ensures.peeks.left)))

pub items::members::field_front-returns-in-POUND-clause-reads : goal.items::members::field_front-returns-in-POUND-clause-reads
items::members::field_front-returns-in-POUND-clause-reads t c = after-look Off c.current.ensures.peeks.same (reads-two Off (c.attributes_and_visibility.ensures.reads Off) (c.unsafe_and_name.ensures.reads Off))

pub items::members::field_front-returns-in-PUB_KW-clause-reads : goal.items::members::field_front-returns-in-PUB_KW-clause-reads
unfolding look_of begins_below whole rule items statements expressions patterns types paths there_at shift passes is_silent begins in_mode from_start row one_of any_of no_longer longest is_longer
items::members::field_front-returns-in-PUB_KW-clause-reads t c = reads-here (saw-arm c.in-PUB_KW.is (c.current.ensures.sees Off) and nothing) (after-look Off c.current.ensures.peeks.same (reads-then Off (reads-call Off (c.visibility.ensures.gives Off)) (c.unsafe_and_name-in-PUB_KW.ensures.reads Off)))

pub items::members::field_front-returns-in-UNSAFE_KW-clause-reads : goal.items::members::field_front-returns-in-UNSAFE_KW-clause-reads
unfolding look_of begins_below whole rule items statements expressions patterns types paths there_at shift passes is_silent begins in_mode from_start row one_of any_of no_longer longest is_longer
items::members::field_front-returns-in-UNSAFE_KW-clause-reads t c = reads-here (saw-arm c.in-UNSAFE_KW.is (c.current.ensures.sees Off) and saw-else (wide (next 'unsafe')) (begins looks field_front) (saw-arm c.in-UNSAFE_KW.is (c.current.ensures.sees Off) and nothing) c.requires.begins refl and nothing) (after-look Off c.current.ensures.peeks.same (reads-then Off (c.take.ensures.reads Off) (c.expect_name.ensures.reads Off)))

pub items::members::field_front-returns-in_default-clause-reads : goal.items::members::field_front-returns-in_default-clause-reads
unfolding look_of begins_below whole rule items statements expressions patterns types paths there_at shift passes is_silent begins in_mode from_start row one_of any_of no_longer longest is_longer
items::members::field_front-returns-in_default-clause-reads t c = reads-here (saw-not c.in_default.not-POUND (c.current.ensures.sees Off) and saw-not c.in_default.not-PUB_KW (c.current.ensures.sees Off) and saw-not c.in_default.not-UNSAFE_KW (c.current.ensures.sees Off) and saw-else (Kind 0 kinds.IDENT) (begins looks field_front) (saw-not c.in_default.not-POUND (c.current.ensures.sees Off) and saw-not c.in_default.not-PUB_KW (c.current.ensures.sees Off) and saw-not c.in_default.not-UNSAFE_KW (c.current.ensures.sees Off) and nothing) c.requires.begins refl and nothing) (after-look Off c.current.ensures.peeks.same (reads-call Off (c.name.ensures.gives Off)))

pub items::members::opt_discriminant-returns-then-at_new-clause-reads : goal.items::members::opt_discriminant-returns-then-at_new-clause-reads
unfolding look_of begins_below whole rule items statements expressions patterns types paths there_at shift passes is_silent begins in_mode from_start row one_of any_of no_longer longest is_longer
items::members::opt_discriminant-returns-then-at_new-clause-reads t c = reads-here (saw-so (c.at_new.ensures.sees Off) c.if-at_new.true and nothing) (after-look Off c.at_new.ensures.peeks.same (reads-then Off (c.take.ensures.reads Off) c.const_value.ensures.reads))

pub items::members::opt_discriminant-returns-else-at_new-clause-reads : goal.items::members::opt_discriminant-returns-else-at_new-clause-reads
unfolding look_of begins_below whole rule items statements expressions patterns types paths there_at shift passes is_silent begins in_mode from_start row one_of any_of no_longer longest is_longer
items::members::opt_discriminant-returns-else-at_new-clause-reads t c = reads-here (saw-so (c.at_new.ensures.sees Off) c.if-at_new.false and nothing) (reads-nothing Off c.at_new.ensures.peeks.same)

pub items::members::const_value-returns-clause-reads : goal.items::members::const_value-returns-clause-reads
items::members::const_value-returns-clause-reads t c = reads-node Off c.start-node.ensures.opens c.expect_expression.ensures.reads c.complete.ensures.closes

pub items::members::const_value-complete-requires : goal.items::members::const_value-complete-requires
items::members::const_value-complete-requires t c = c.expect_expression.ensures.reads.does.innermost _ (c.start-node.ensures.marker)
