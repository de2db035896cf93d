-- Items, path by path.
use Rattle.std.proofs.Common.{true, List, length, refl, sym, ap, ◌∙◌, arith, true≢false}
use Rattle.parser_input.specs.Input.{Token}
use Rattle.parser_input.specs.Kind.{raw_of}
use Rattle.rust_grammar.specs.Laws.{reads}
use Rattle.rust_grammar.specs.Meaning.{fresh, read}
use Rattle.rust_grammar.specs.Rule.{Call, Star}
use Rattle.rust_grammar.specs.Rule as rules
use Rattle.rust_grammar.specs.Expressions.{expressions}
use Rattle.rust_grammar.specs.Items.{items}
use Rattle.rust_grammar.specs.Meaning.{begins_below, look_of}
use Rattle.rust_grammar.specs.Notation.{any_of, is_longer, no_longer, longest, one_of, row}
use Rattle.rust_grammar.specs.Paths.{paths}
use Rattle.rust_grammar.specs.Patterns.{patterns}
use Rattle.rust_grammar.specs.Rule.{begins, in_mode, from_start, is_silent, passes, shift, there_at}
use Rattle.rust_grammar.specs.Statements.{statements}
use Rattle.rust_grammar.specs.Types.{types}
use Rattle.rust_grammar.specs.Whole.{rule, whole}
use Rattle.grammar_reader.specs.Told.{item_or_attribute}
use Rattle.grammar_reader.proofs.Ends.{left-within, over, over-at-end, some-within, within}
use Rattle.rust_productions.specs.Looks.{tokens}
use Rattle.rust_productions.specs.Reads.{looks, Saw, is_on}
use Rattle.rust_productions.specs.declared.condition.Condition.TheVariants.{On, Off}
use Rattle.rust_productions.proofs.ByHand.{after-look, completes-wrap, reads-call, reads-mode, reads-node, reads-nothing, reads-then, reads-unless}
use Rattle.rust_productions.proofs.Choices.{from_start-after, from_start-here, from_start-look, gives-from_start, reads-here}
use Rattle.rust_productions.proofs.Facts.{begun, nothing, saw-so, ◌and◌}
use Rattle.rust_productions.proofs.Given.{from_start-apart, from_start-given, from_start-nothing, call-gives, option-keeps, turns-give, where-any, where-here, where-look, where-more}
use Rattle.rust_productions.proofs.Looking.{saw-arm, saw-not}
use Rattle.rust_productions.proofs.Seen.{ends-at-end, saw-after, saw-before, saw-inside, saw-told, starts-here}
use Rattle.rust_productions.proofs.Turns.{first-turn, last-turn, next-turn}
use Rattle.grammar_reader.proofs.grammar.+grammar.Goals as goal

pub items::item-attributed_item-requires : goal.items::item-attributed_item-requires
unfolding look_of begins_below whole rule items statements expressions patterns types paths there_at shift passes is_silent begins in_mode from_start row one_of any_of no_longer longest is_longer
items::item-attributed_item-requires t c = (omega arith, ((λ d. saw-after c.current.ensures.peeks.same (saw-told (saw-arm c.in-POUND.is (c.current.ensures.sees d) and nothing) refl)), omega arith))

pub items::item-visible_item-requires : goal.items::item-visible_item-requires
items::item-visible_item-requires t c = (omega arith, ((λ d. saw-after c.current.ensures.peeks.same (saw-arm c.in-PUB_KW.is (c.current.ensures.sees d))), omega arith))

pub items::item-bare_item-requires : goal.items::item-bare_item-requires
items::item-bare_item-requires t c = (
  omega arith,
  record {
    plain = λ d. saw-after c.current.ensures.peeks.same (saw-not c.in_default.not-POUND (c.current.ensures.sees d));
    hidden = λ d. saw-after c.current.ensures.peeks.same (saw-not c.in_default.not-PUB_KW (c.current.ensures.sees d));
    some = omega arith;
  },
)

pub items::item-returns-in-POUND-clause-gives : goal.items::item-returns-in-POUND-clause-gives
items::item-returns-in-POUND-clause-gives t c = gives-from_start (from_start-look c.current.ensures.peeks.same c.attributed_item.ensures.from_start)

pub items::item-returns-in-PUB_KW-clause-gives : goal.items::item-returns-in-PUB_KW-clause-gives
items::item-returns-in-PUB_KW-clause-gives t c = gives-from_start (from_start-look c.current.ensures.peeks.same c.visible_item.ensures.from_start)

pub items::item-returns-in_default-clause-gives : goal.items::item-returns-in_default-clause-gives
items::item-returns-in_default-clause-gives t c = gives-from_start (from_start-look c.current.ensures.peeks.same c.bare_item.ensures.from_start)

pub items::attributed_item-attributes_and_visibility-requires : goal.items::attributed_item-attributes_and_visibility-requires
items::attributed_item-attributes_and_visibility-requires t c = (omega arith, ((λ d. saw-inside c.start-item.ensures.opens (c.requires.begins d)), omega arith))

pub items::attributed_item-body-requires : goal.items::attributed_item-body-requires
items::attributed_item-body-requires t c = (omega arith, ((λ e. absurd (true≢false e)), (c.attributes_and_visibility.ensures.reads On).does.innermost _ c.start-item.ensures.marker))

pub items::attributed_item-returns-clause-from_start : goal.items::attributed_item-returns-clause-from_start
unfolding tokens fresh read look_of begins_below whole rule items statements expressions patterns types paths there_at shift passes is_silent begins in_mode from_start row one_of any_of no_longer longest is_longer
items::attributed_item-returns-clause-from_start t c =
    let seen : Saw c.args.condition (begins looks (Call rules.attribute)) c.start-item.new.self true = saw-inside c.start-item.ensures.opens (c.requires.begins c.args.condition) in
    from_start-apart (from_start-given c.start-item.ensures.opens (c.attributes_and_visibility.ensures.reads c.args.condition) (λ s e. option-keeps rules.visibility c.args.condition refl (reads (is_on c.args.condition) (Star (Call rules.attribute)) (fresh s)) (turns-give rules.attribute c.args.condition refl (fresh s) (omega (arith, c.requires.some, c.start-item.ensures.stays.left, ap (λ (ts : List Token). length ts) e)) (seen.at (fresh s) e))) (where-more c.body.ensures.completes))

pub items::attributes_and_visibility-returns-clause-reads : goal.items::attributes_and_visibility-returns-clause-reads
unfolding tokens look_of begins_below whole rule items statements expressions patterns types paths there_at shift passes is_silent begins in_mode from_start row one_of any_of no_longer longest is_longer
items::attributes_and_visibility-returns-clause-reads t c = λ cond.
    let first = next-turn cond (Call rules.attribute) (ends-at-end cond (Call rules.attribute) refl) _ _ _ first-turn (c.requires.begins cond) (reads-call cond (c.attribute.ensures.gives cond)) (omega (arith, c.attribute.ensures.takes.left)) in
    reads-then cond (first.rest _ (c.attributes.ensures.reads cond)) (c.opt_visibility.ensures.reads cond)

pub items::visible_item-body-requires : goal.items::visible_item-body-requires
items::visible_item-body-requires t c = (omega arith, ((λ e. absurd (true≢false e)), (c.visibility.ensures.gives On).does.innermost _ c.start-item.ensures.marker))

pub items::visible_item-returns-clause-from_start : goal.items::visible_item-returns-clause-from_start
unfolding look_of begins_below whole rule items statements expressions patterns types paths there_at shift passes is_silent begins in_mode from_start row one_of any_of no_longer longest is_longer
items::visible_item-returns-clause-from_start t c = from_start-here (c.requires.begins c.args.condition and nothing) (from_start-given c.start-item.ensures.opens (reads-call _ (c.visibility.ensures.gives c.args.condition)) (λ s e. call-gives rules.visibility c.args.condition refl (fresh s)) (where-more c.body.ensures.completes))

pub items::bare_item-body-requires : goal.items::bare_item-body-requires
items::bare_item-body-requires t c = (omega arith, ((λ e. omega (arith, c.requires.bare.some, c.start-item.ensures.stays.left)), c.start-item.ensures.marker))

pub items::bare_item-returns-clause-from_start : goal.items::bare_item-returns-clause-from_start
unfolding look_of begins_below whole rule items statements expressions patterns types paths there_at shift passes is_silent begins in_mode from_start row one_of any_of no_longer longest is_longer
items::bare_item-returns-clause-from_start t c = from_start-here (c.requires.bare.plain c.args.condition and c.requires.bare.hidden c.args.condition and nothing) (from_start-nothing c.start-item.ensures.opens (where-more c.body.ensures.completes))

pub items::bare_item-returns-clause-takes : goal.items::bare_item-returns-clause-takes
items::bare_item-returns-clause-takes t c = record {
  left = omega (arith, c.start-item.ensures.stays.left, (c.body.ensures.takes.takes refl).left);
  looks = omega (arith, c.start-item.ensures.stays.looks, (c.body.ensures.takes.takes refl).looks);
}

pub items::attributes-turns-preserved : goal.items::attributes-turns-preserved
unfolding tokens look_of begins_below whole rule items statements expressions patterns types paths there_at shift passes is_silent begins in_mode from_start row one_of any_of no_longer longest is_longer
items::attributes-turns-preserved t c = record {
  innermost = λ n i. (c.attribute.ensures.gives On).does.innermost n (c.at.ensures.peeks.same.innermost n (c.turns.invariant.innermost n i));
  goes = λ cond.
      next-turn cond (Call rules.attribute) (ends-at-end cond (Call rules.attribute) refl) _ _ _ (c.turns.invariant.goes cond) (saw-told (saw-so (c.at.ensures.sees cond) c.turns-test.true and nothing) refl)
      (after-look cond c.at.ensures.peeks.same (reads-call cond (c.attribute.ensures.gives cond))) (omega (arith, c.attribute.ensures.takes.left, c.at.ensures.peeks.left));
  left = omega (arith, c.turns.invariant.left, c.attribute.ensures.takes.left, c.at.ensures.peeks.left);
  looks = omega (arith, c.turns.invariant.looks, c.attribute.ensures.takes.looks, c.at.ensures.peeks.looks);
}

pub items::attributes-returns-clause-reads : goal.items::attributes-returns-clause-reads
unfolding look_of begins_below whole rule items statements expressions patterns types paths there_at shift passes is_silent begins in_mode from_start row one_of any_of no_longer longest is_longer
items::attributes-returns-clause-reads t c = λ cond. last-turn cond (Call rules.attribute) (ends-at-end cond (Call rules.attribute) refl) _ _ _ (c.turns.invariant.goes cond) (saw-told (saw-so (c.at.ensures.sees cond) c.turns-test.false and nothing) refl) c.at.ensures.peeks.same

pub items::plain_body-module-requires : goal.items::plain_body-module-requires
items::plain_body-module-requires t c = (omega arith, (omega (arith, c.current.ensures.peeks.left, c.current.ensures.some (λ e. absurd (omega (arith, sym (ap raw_of c.in-MOD_KW.is) ∙ e)))), c.current.ensures.peeks.same.innermost _ c.requires.innermost))

pub items::plain_body-returns-in-MOD_KW-clause-completes : goal.items::plain_body-returns-in-MOD_KW-clause-completes
unfolding look_of begins_below whole rule items statements expressions patterns types paths there_at shift passes is_silent begins in_mode from_start row one_of any_of no_longer longest is_longer
items::plain_body-returns-in-MOD_KW-clause-completes t c = where-here (saw-arm c.in-MOD_KW.is (c.current.ensures.sees c.args.condition) and nothing) (where-look c.current.ensures.peeks.same (where-any (c.module.ensures.completes c.args.condition)))

pub items::plain_body-use_item-requires : goal.items::plain_body-use_item-requires
items::plain_body-use_item-requires t c = record { some = omega (arith, c.current.ensures.peeks.left, c.current.ensures.some (λ e. absurd (omega (arith, sym (ap raw_of c.in-USE_KW.is) ∙ e)))); innermost = c.current.ensures.peeks.same.innermost _ c.requires.innermost }

pub items::plain_body-returns-in-USE_KW-clause-completes : goal.items::plain_body-returns-in-USE_KW-clause-completes
unfolding look_of begins_below whole rule items statements expressions patterns types paths there_at shift passes is_silent begins in_mode from_start row one_of any_of no_longer longest is_longer
items::plain_body-returns-in-USE_KW-clause-completes t c = where-here (saw-arm c.in-USE_KW.is (c.current.ensures.sees c.args.condition) and nothing) (where-look c.current.ensures.peeks.same (where-any (c.use_item.ensures.completes c.args.condition)))

pub items::plain_body-struct_item-requires : goal.items::plain_body-struct_item-requires
items::plain_body-struct_item-requires t c = (omega arith, (omega (arith, c.current.ensures.peeks.left, c.current.ensures.some (λ e. absurd (omega (arith, sym (ap raw_of c.in-STRUCT_KW.is) ∙ e)))), c.current.ensures.peeks.same.innermost _ c.requires.innermost))

pub items::plain_body-returns-in-STRUCT_KW-clause-completes : goal.items::plain_body-returns-in-STRUCT_KW-clause-completes
unfolding look_of begins_below whole rule items statements expressions patterns types paths there_at shift passes is_silent begins in_mode from_start row one_of any_of no_longer longest is_longer
items::plain_body-returns-in-STRUCT_KW-clause-completes t c = where-here (saw-arm c.in-STRUCT_KW.is (c.current.ensures.sees c.args.condition) and nothing) (where-look c.current.ensures.peeks.same (where-any c.struct_item.ensures.completes))

pub items::plain_body-enum_item-requires : goal.items::plain_body-enum_item-requires
items::plain_body-enum_item-requires t c = (omega arith, (omega (arith, c.current.ensures.peeks.left, c.current.ensures.some (λ e. absurd (omega (arith, sym (ap raw_of c.in-ENUM_KW.is) ∙ e)))), c.current.ensures.peeks.same.innermost _ c.requires.innermost))

pub items::plain_body-returns-in-ENUM_KW-clause-completes : goal.items::plain_body-returns-in-ENUM_KW-clause-completes
unfolding look_of begins_below whole rule items statements expressions patterns types paths there_at shift passes is_silent begins in_mode from_start row one_of any_of no_longer longest is_longer
items::plain_body-returns-in-ENUM_KW-clause-completes t c = where-here (saw-arm c.in-ENUM_KW.is (c.current.ensures.sees c.args.condition) and nothing) (where-look c.current.ensures.peeks.same (where-any c.enum_item.ensures.completes))

pub items::plain_body-static_item-requires : goal.items::plain_body-static_item-requires
items::plain_body-static_item-requires t c = (omega arith, (omega (arith, c.current.ensures.peeks.left, c.current.ensures.some (λ e. absurd (omega (arith, sym (ap raw_of c.in-STATIC_KW.is) ∙ e)))), c.current.ensures.peeks.same.innermost _ c.requires.innermost))

pub items::plain_body-returns-in-STATIC_KW-clause-completes : goal.items::plain_body-returns-in-STATIC_KW-clause-completes
unfolding look_of begins_below whole rule items statements expressions patterns types paths there_at shift passes is_silent begins in_mode from_start row one_of any_of no_longer longest is_longer
items::plain_body-returns-in-STATIC_KW-clause-completes t c = where-here (saw-arm c.in-STATIC_KW.is (c.current.ensures.sees c.args.condition) and nothing) (where-look c.current.ensures.peeks.same (where-any c.static_item.ensures.completes))

pub items::plain_body-type_alias-requires : goal.items::plain_body-type_alias-requires
items::plain_body-type_alias-requires t c = (omega arith, (omega (arith, c.current.ensures.peeks.left, c.current.ensures.some (λ e. absurd (omega (arith, sym (ap raw_of c.in-TYPE_KW.is) ∙ e)))), c.current.ensures.peeks.same.innermost _ c.requires.innermost))

pub items::plain_body-returns-in-TYPE_KW-clause-completes : goal.items::plain_body-returns-in-TYPE_KW-clause-completes
unfolding look_of begins_below whole rule items statements expressions patterns types paths there_at shift passes is_silent begins in_mode from_start row one_of any_of no_longer longest is_longer
items::plain_body-returns-in-TYPE_KW-clause-completes t c = where-here (saw-arm c.in-TYPE_KW.is (c.current.ensures.sees c.args.condition) and nothing) (where-look c.current.ensures.peeks.same (where-any c.type_alias.ensures.completes))

pub items::plain_body-returns-then-at_fn-clause-completes : goal.items::plain_body-returns-then-at_fn-clause-completes
unfolding look_of begins_below whole rule items statements expressions patterns types paths there_at shift passes is_silent begins in_mode from_start row one_of any_of no_longer longest is_longer
items::plain_body-returns-then-at_fn-clause-completes t c = where-here (saw-not c.in_default.not-MOD_KW (c.current.ensures.sees c.args.condition) and saw-not c.in_default.not-USE_KW (c.current.ensures.sees c.args.condition) and saw-not c.in_default.not-STRUCT_KW (c.current.ensures.sees c.args.condition) and saw-not c.in_default.not-ENUM_KW (c.current.ensures.sees c.args.condition) and saw-not c.in_default.not-STATIC_KW (c.current.ensures.sees c.args.condition) and saw-not c.in_default.not-TYPE_KW (c.current.ensures.sees c.args.condition) and saw-before c.current.ensures.peeks.same (saw-so (c.at_fn.ensures.sees c.args.condition) c.if-at_fn.true) and nothing) (where-look c.current.ensures.peeks.same (where-look c.at_fn.ensures.peeks.same (where-any c.fn_item.ensures.completes)))

pub items::plain_body-fn_item-requires : goal.items::plain_body-fn_item-requires
unfolding look_of begins_below whole rule items statements expressions patterns types paths there_at shift passes is_silent begins in_mode from_start row one_of any_of no_longer longest is_longer
items::plain_body-fn_item-requires t c = (omega arith, (record { sees = λ d. saw-after c.at_fn.ensures.peeks.same (saw-so (c.at_fn.ensures.sees d) c.if-at_fn.true); some = omega (arith, c.current.ensures.peeks.left, c.at_fn.ensures.peeks.left, c.at_fn.ensures.some c.if-at_fn.true) }, c.at_fn.ensures.peeks.same.innermost _ (c.current.ensures.peeks.same.innermost _ c.requires.innermost)))

pub items::plain_body-returns-then-at-clause-completes : goal.items::plain_body-returns-then-at-clause-completes
unfolding look_of begins_below whole rule items statements expressions patterns types paths there_at shift passes is_silent begins in_mode from_start row one_of any_of no_longer longest is_longer
items::plain_body-returns-then-at-clause-completes t c = where-here (saw-not c.in_default.not-MOD_KW (c.current.ensures.sees c.args.condition) and saw-not c.in_default.not-USE_KW (c.current.ensures.sees c.args.condition) and saw-not c.in_default.not-STRUCT_KW (c.current.ensures.sees c.args.condition) and saw-not c.in_default.not-ENUM_KW (c.current.ensures.sees c.args.condition) and saw-not c.in_default.not-STATIC_KW (c.current.ensures.sees c.args.condition) and saw-not c.in_default.not-TYPE_KW (c.current.ensures.sees c.args.condition) and saw-before c.current.ensures.peeks.same (saw-so (c.at_fn.ensures.sees c.args.condition) c.if-at_fn.false) and saw-before c.current.ensures.peeks.same (saw-before c.at_fn.ensures.peeks.same (saw-so (c.at.ensures.sees c.args.condition) c.if-at.true)) and nothing) (where-look c.current.ensures.peeks.same (where-look c.at_fn.ensures.peeks.same (where-look c.at.ensures.peeks.same (where-any c.const_item.ensures.completes))))

pub items::plain_body-const_item-requires : goal.items::plain_body-const_item-requires
items::plain_body-const_item-requires t c = (omega arith, (omega (arith, c.current.ensures.peeks.left, c.at_fn.ensures.peeks.left, c.at.ensures.peeks.left, c.at.ensures.some c.if-at.true (λ e. absurd (omega (arith, e)))), c.at.ensures.peeks.same.innermost _ (c.at_fn.ensures.peeks.same.innermost _ (c.current.ensures.peeks.same.innermost _ c.requires.innermost))))

pub items::plain_body-returns-then-at_unsafe-clause-completes : goal.items::plain_body-returns-then-at_unsafe-clause-completes
unfolding look_of begins_below whole rule items statements expressions patterns types paths there_at shift passes is_silent begins in_mode from_start row one_of any_of no_longer longest is_longer
items::plain_body-returns-then-at_unsafe-clause-completes t c = where-here (saw-not c.in_default.not-MOD_KW (c.current.ensures.sees c.args.condition) and saw-not c.in_default.not-USE_KW (c.current.ensures.sees c.args.condition) and saw-not c.in_default.not-STRUCT_KW (c.current.ensures.sees c.args.condition) and saw-not c.in_default.not-ENUM_KW (c.current.ensures.sees c.args.condition) and saw-not c.in_default.not-STATIC_KW (c.current.ensures.sees c.args.condition) and saw-not c.in_default.not-TYPE_KW (c.current.ensures.sees c.args.condition) and saw-before c.current.ensures.peeks.same (saw-so (c.at_fn.ensures.sees c.args.condition) c.if-at_fn.false) and saw-before c.current.ensures.peeks.same (saw-before c.at_fn.ensures.peeks.same (saw-so (c.at.ensures.sees c.args.condition) c.if-at.false)) and saw-before c.current.ensures.peeks.same (saw-before c.at_fn.ensures.peeks.same (saw-before c.at.ensures.peeks.same (saw-so (c.at_unsafe.ensures.sees c.args.condition) c.if-at_unsafe.true))) and nothing) (where-look c.current.ensures.peeks.same (where-look c.at_fn.ensures.peeks.same (where-look c.at.ensures.peeks.same (where-look c.at_unsafe.ensures.peeks.same (where-any c.impl_item.ensures.completes)))))

pub items::plain_body-impl_item-requires : goal.items::plain_body-impl_item-requires
unfolding look_of begins_below whole rule items statements expressions patterns types paths there_at shift passes is_silent begins in_mode from_start row one_of any_of no_longer longest is_longer
items::plain_body-impl_item-requires t c = (omega arith, (record { sees = λ d. saw-after c.at_unsafe.ensures.peeks.same (saw-so (c.at_unsafe.ensures.sees d) c.if-at_unsafe.true); some = omega (arith, c.current.ensures.peeks.left, c.at_fn.ensures.peeks.left, c.at.ensures.peeks.left, c.at_unsafe.ensures.peeks.left, c.at_unsafe.ensures.some c.if-at_unsafe.true (λ e. absurd (omega (arith, e)))) }, c.at_unsafe.ensures.peeks.same.innermost _ (c.at.ensures.peeks.same.innermost _ (c.at_fn.ensures.peeks.same.innermost _ (c.current.ensures.peeks.same.innermost _ c.requires.innermost)))))

pub items::plain_body-returns-then-at_unsafe-2-clause-completes : goal.items::plain_body-returns-then-at_unsafe-2-clause-completes
unfolding look_of begins_below whole rule items statements expressions patterns types paths there_at shift passes is_silent begins in_mode from_start row one_of any_of no_longer longest is_longer
items::plain_body-returns-then-at_unsafe-2-clause-completes t c = where-here (saw-not c.in_default.not-MOD_KW (c.current.ensures.sees c.args.condition) and saw-not c.in_default.not-USE_KW (c.current.ensures.sees c.args.condition) and saw-not c.in_default.not-STRUCT_KW (c.current.ensures.sees c.args.condition) and saw-not c.in_default.not-ENUM_KW (c.current.ensures.sees c.args.condition) and saw-not c.in_default.not-STATIC_KW (c.current.ensures.sees c.args.condition) and saw-not c.in_default.not-TYPE_KW (c.current.ensures.sees c.args.condition) and saw-before c.current.ensures.peeks.same (saw-so (c.at_fn.ensures.sees c.args.condition) c.if-at_fn.false) and saw-before c.current.ensures.peeks.same (saw-before c.at_fn.ensures.peeks.same (saw-so (c.at.ensures.sees c.args.condition) c.if-at.false)) and saw-before c.current.ensures.peeks.same (saw-before c.at_fn.ensures.peeks.same (saw-before c.at.ensures.peeks.same (saw-so (c.at_unsafe.ensures.sees c.args.condition) c.if-at_unsafe.false))) and saw-before c.current.ensures.peeks.same (saw-before c.at_fn.ensures.peeks.same (saw-before c.at.ensures.peeks.same (saw-before c.at_unsafe.ensures.peeks.same (saw-so (c.at_unsafe-in_default.ensures.sees c.args.condition) c.if-at_unsafe-2.true)))) and nothing) (where-look c.current.ensures.peeks.same (where-look c.at_fn.ensures.peeks.same (where-look c.at.ensures.peeks.same (where-look c.at_unsafe.ensures.peeks.same (where-look c.at_unsafe-in_default.ensures.peeks.same (where-any c.trait_item.ensures.completes))))))

pub items::plain_body-trait_item-requires : goal.items::plain_body-trait_item-requires
unfolding look_of begins_below whole rule items statements expressions patterns types paths there_at shift passes is_silent begins in_mode from_start row one_of any_of no_longer longest is_longer
items::plain_body-trait_item-requires t c = (omega arith, (record { sees = λ d. saw-after c.at_unsafe-in_default.ensures.peeks.same (saw-so (c.at_unsafe-in_default.ensures.sees d) c.if-at_unsafe-2.true); some = omega (arith, c.current.ensures.peeks.left, c.at_fn.ensures.peeks.left, c.at.ensures.peeks.left, c.at_unsafe.ensures.peeks.left, c.at_unsafe-in_default.ensures.peeks.left, c.at_unsafe-in_default.ensures.some c.if-at_unsafe-2.true (λ e. absurd (omega (arith, e)))) }, c.at_unsafe-in_default.ensures.peeks.same.innermost _ (c.at_unsafe.ensures.peeks.same.innermost _ (c.at.ensures.peeks.same.innermost _ (c.at_fn.ensures.peeks.same.innermost _ (c.current.ensures.peeks.same.innermost _ c.requires.innermost))))))

pub items::plain_body-returns-then-at_path-clause-completes : goal.items::plain_body-returns-then-at_path-clause-completes
unfolding look_of begins_below whole rule items statements expressions patterns types paths there_at shift passes is_silent begins in_mode from_start row one_of any_of no_longer longest is_longer
items::plain_body-returns-then-at_path-clause-completes t c = where-here (saw-not c.in_default.not-MOD_KW (c.current.ensures.sees c.args.condition) and saw-not c.in_default.not-USE_KW (c.current.ensures.sees c.args.condition) and saw-not c.in_default.not-STRUCT_KW (c.current.ensures.sees c.args.condition) and saw-not c.in_default.not-ENUM_KW (c.current.ensures.sees c.args.condition) and saw-not c.in_default.not-STATIC_KW (c.current.ensures.sees c.args.condition) and saw-not c.in_default.not-TYPE_KW (c.current.ensures.sees c.args.condition) and saw-before c.current.ensures.peeks.same (saw-so (c.at_fn.ensures.sees c.args.condition) c.if-at_fn.false) and saw-before c.current.ensures.peeks.same (saw-before c.at_fn.ensures.peeks.same (saw-so (c.at.ensures.sees c.args.condition) c.if-at.false)) and saw-before c.current.ensures.peeks.same (saw-before c.at_fn.ensures.peeks.same (saw-before c.at.ensures.peeks.same (saw-so (c.at_unsafe.ensures.sees c.args.condition) c.if-at_unsafe.false))) and saw-before c.current.ensures.peeks.same (saw-before c.at_fn.ensures.peeks.same (saw-before c.at.ensures.peeks.same (saw-before c.at_unsafe.ensures.peeks.same (saw-so (c.at_unsafe-in_default.ensures.sees c.args.condition) c.if-at_unsafe-2.false)))) and begun rules.path (saw-before c.current.ensures.peeks.same (saw-before c.at_fn.ensures.peeks.same (saw-before c.at.ensures.peeks.same (saw-before c.at_unsafe.ensures.peeks.same (saw-before c.at_unsafe-in_default.ensures.peeks.same (saw-so (c.at_path.ensures.sees c.args.condition) c.if-at_path.true)))))) nothing) (where-look c.current.ensures.peeks.same (where-look c.at_fn.ensures.peeks.same (where-look c.at.ensures.peeks.same (where-look c.at_unsafe.ensures.peeks.same (where-look c.at_unsafe-in_default.ensures.peeks.same (where-look c.at_path.ensures.peeks.same (where-any (c.path_item.ensures.completes c.args.condition))))))))

pub items::plain_body-path_item-requires : goal.items::plain_body-path_item-requires
items::plain_body-path_item-requires t c = record { begins = record { sees = λ d. saw-after c.at_path.ensures.peeks.same (saw-so (c.at_path.ensures.sees d) c.if-at_path.true); some = omega (arith, c.current.ensures.peeks.left, c.at_fn.ensures.peeks.left, c.at.ensures.peeks.left, c.at_unsafe.ensures.peeks.left, c.at_unsafe-in_default.ensures.peeks.left, c.at_path.ensures.peeks.left, c.at_path.ensures.some c.if-at_path.true) }; innermost = c.at_path.ensures.peeks.same.innermost _ (c.at_unsafe-in_default.ensures.peeks.same.innermost _ (c.at_unsafe.ensures.peeks.same.innermost _ (c.at.ensures.peeks.same.innermost _ (c.at_fn.ensures.peeks.same.innermost _ (c.current.ensures.peeks.same.innermost _ c.requires.innermost))))) }

pub items::plain_body-returns-else-at_path-clause-completes : goal.items::plain_body-returns-else-at_path-clause-completes
unfolding look_of begins_below whole rule items statements expressions patterns types paths there_at shift passes is_silent begins in_mode from_start row one_of any_of no_longer longest is_longer
items::plain_body-returns-else-at_path-clause-completes t c = where-here (saw-not c.in_default.not-MOD_KW (c.current.ensures.sees c.args.condition) and saw-not c.in_default.not-USE_KW (c.current.ensures.sees c.args.condition) and saw-not c.in_default.not-STRUCT_KW (c.current.ensures.sees c.args.condition) and saw-not c.in_default.not-ENUM_KW (c.current.ensures.sees c.args.condition) and saw-not c.in_default.not-STATIC_KW (c.current.ensures.sees c.args.condition) and saw-not c.in_default.not-TYPE_KW (c.current.ensures.sees c.args.condition) and saw-before c.current.ensures.peeks.same (saw-so (c.at_fn.ensures.sees c.args.condition) c.if-at_fn.false) and saw-before c.current.ensures.peeks.same (saw-before c.at_fn.ensures.peeks.same (saw-so (c.at.ensures.sees c.args.condition) c.if-at.false)) and saw-before c.current.ensures.peeks.same (saw-before c.at_fn.ensures.peeks.same (saw-before c.at.ensures.peeks.same (saw-so (c.at_unsafe.ensures.sees c.args.condition) c.if-at_unsafe.false))) and saw-before c.current.ensures.peeks.same (saw-before c.at_fn.ensures.peeks.same (saw-before c.at.ensures.peeks.same (saw-before c.at_unsafe.ensures.peeks.same (saw-so (c.at_unsafe-in_default.ensures.sees c.args.condition) c.if-at_unsafe-2.false)))) and begun rules.path (saw-before c.current.ensures.peeks.same (saw-before c.at_fn.ensures.peeks.same (saw-before c.at.ensures.peeks.same (saw-before c.at_unsafe.ensures.peeks.same (saw-before c.at_unsafe-in_default.ensures.peeks.same (saw-so (c.at_path.ensures.sees c.args.condition) c.if-at_path.false)))))) nothing) (where-look c.current.ensures.peeks.same (where-look c.at_fn.ensures.peeks.same (where-look c.at.ensures.peeks.same (where-look c.at_unsafe.ensures.peeks.same (where-look c.at_unsafe-in_default.ensures.peeks.same (where-look c.at_path.ensures.peeks.same (c.no_item.ensures.completes c.args.condition)))))))

pub items::plain_body-no_item-requires : goal.items::plain_body-no_item-requires
items::plain_body-no_item-requires t c = record { some = λ e. omega (arith, c.current.ensures.peeks.left, c.at_fn.ensures.peeks.left, c.at.ensures.peeks.left, c.at_unsafe.ensures.peeks.left, c.at_unsafe-in_default.ensures.peeks.left, c.at_path.ensures.peeks.left, c.requires.some e); innermost = c.at_path.ensures.peeks.same.innermost _ (c.at_unsafe-in_default.ensures.peeks.same.innermost _ (c.at_unsafe.ensures.peeks.same.innermost _ (c.at.ensures.peeks.same.innermost _ (c.at_fn.ensures.peeks.same.innermost _ (c.current.ensures.peeks.same.innermost _ c.requires.innermost))))) }

pub items::plain_body-returns-else-at_path-clause-takes : goal.items::plain_body-returns-else-at_path-clause-takes
items::plain_body-returns-else-at_path-clause-takes t c = record {
  takes = λ e. record {
    left = omega (arith, c.current.ensures.peeks.left, c.at_fn.ensures.peeks.left, c.at.ensures.peeks.left, c.at_unsafe.ensures.peeks.left, c.at_unsafe-in_default.ensures.peeks.left, c.at_path.ensures.peeks.left, (c.no_item.ensures.takes.takes e).left);
    looks = omega (arith, c.current.ensures.peeks.looks, c.at_fn.ensures.peeks.looks, c.at.ensures.peeks.looks, c.at_unsafe.ensures.peeks.looks, c.at_unsafe-in_default.ensures.peeks.looks, c.at_path.ensures.peeks.looks, (c.no_item.ensures.takes.takes e).looks);
  };
  left = omega arith;
  looks = omega arith;
}

pub items::module-complete-requires : goal.items::module-complete-requires
items::module-complete-requires t c = (c.module_items.ensures.reads On).does.innermost _ ((c.expect_name.ensures.reads On).does.innermost _ ((c.take.ensures.reads On).does.innermost _ c.requires.innermost))

pub items::module-returns-clause-completes : goal.items::module-returns-clause-completes
items::module-returns-clause-completes t c = λ cond. completes-wrap (reads-then cond (c.take.ensures.reads cond) (reads-then cond (c.expect_name.ensures.reads cond) (c.module_items.ensures.reads cond))) c.complete.ensures.closes

pub items::module_items-returns-then-at-clause-reads : goal.items::module_items-returns-then-at-clause-reads
unfolding look_of begins_below whole rule items statements expressions patterns types paths there_at shift passes is_silent begins in_mode from_start row one_of any_of no_longer longest is_longer
items::module_items-returns-then-at-clause-reads t c = λ cond. reads-here (saw-so (c.at.ensures.sees cond) c.if-at.true and nothing) (after-look cond c.at.ensures.peeks.same (c.item_list.ensures.reads cond))

pub items::module_items-returns-clause-reads : goal.items::module_items-returns-clause-reads
unfolding look_of begins_below whole rule items statements expressions patterns types paths there_at shift passes is_silent begins in_mode from_start row one_of any_of no_longer longest is_longer
items::module_items-returns-clause-reads t c = λ cond. reads-here (saw-so (c.at.ensures.sees cond) c.if-at.false and nothing) (after-look cond c.at.ensures.peeks.same (c.expect.ensures.reads cond))

pub items::item_list-complete-requires : goal.items::item_list-complete-requires
items::item_list-complete-requires t c = (c.expect.ensures.reads On).does.innermost _ (c.items.ensures.reads.does.innermost _ ((c.take.ensures.reads On).does.innermost _ c.start-list.ensures.marker))

pub items::item_list-returns-clause-reads : goal.items::item_list-returns-clause-reads
items::item_list-returns-clause-reads t c = λ cond. reads-node cond c.start-list.ensures.opens (reads-then cond (c.take.ensures.reads cond) (reads-then cond (reads-mode cond c.items.ensures.reads) (c.expect.ensures.reads cond))) c.complete.ensures.closes

pub items::item_turn-returns-then-at_end_of-clause-ends : goal.items::item_turn-returns-then-at_end_of-clause-ends
items::item_turn-returns-then-at_end_of-clause-ends t c = λ e. last-turn Off _ (over-at-end c.args.end _) _ _ _ first-turn (over item_or_attribute (saw-so (c.at_end_of.ensures.sees Off) c.if-at_end_of.true)) c.at_end_of.ensures.peeks.same

pub items::item_turn-attribute-requires : goal.items::item_turn-attribute-requires
items::item_turn-attribute-requires t c = (omega arith, omega (arith, c.at_inner_attribute.ensures.peeks.left, c.at_inner_attribute.ensures.some c.if-at_inner_attribute.true))

pub items::item_turn-returns-then-at_inner_attribute-clause-goes : goal.items::item_turn-returns-then-at_inner_attribute-clause-goes
unfolding from_start any_of begins begins_below expressions in_mode is_longer is_silent items longest look_of no_longer one_of passes paths patterns row rule shift statements there_at tokens types whole
items::item_turn-returns-then-at_inner_attribute-clause-goes t c = λ e. record {
  turns = (let seen = saw-before c.at_end_of.ensures.peeks.same (saw-so (c.at_inner_attribute.ensures.sees Off) c.if-at_inner_attribute.true) in
      next-turn Off _ (over-at-end c.args.end item_or_attribute) _ _ _ first-turn (within item_or_attribute (saw-so (c.at_end_of.ensures.sees Off) c.if-at_end_of.false) (starts-here item_or_attribute (seen and nothing) refl))
      (reads-unless Off (reads-here (seen and nothing) (after-look Off c.at_end_of.ensures.peeks.same (after-look Off c.at_inner_attribute.ensures.peeks.same (reads-call Off (c.attribute.ensures.gives Off))))))
      (omega (arith, c.attribute.ensures.takes.left, c.at_inner_attribute.ensures.peeks.left, c.at_end_of.ensures.peeks.left)));
  takes = record {
    left = omega arith;
    looks = omega arith;
  };
}

pub items::item_turn-returns-then-at_inner_attribute-clause-keeps : goal.items::item_turn-returns-then-at_inner_attribute-clause-keeps
items::item_turn-returns-then-at_inner_attribute-clause-keeps t c = record {
  input = (c.attribute.ensures.gives On).does.input ∙ c.at_inner_attribute.ensures.peeks.same.input ∙ c.at_end_of.ensures.peeks.same.input;
  innermost = λ n i. (c.attribute.ensures.gives On).does.innermost n (c.at_inner_attribute.ensures.peeks.same.innermost n (c.at_end_of.ensures.peeks.same.innermost n i));
}

pub items::item_turn-item-requires : goal.items::item_turn-item-requires
items::item_turn-item-requires t c = (omega arith, omega (arith, some-within c.args.end (saw-so (c.at_end_of.ensures.sees Off) c.if-at_end_of.false), c.at_end_of.ensures.peeks.left, c.at_inner_attribute.ensures.peeks.left))

pub items::item_turn-returns-clause-goes : goal.items::item_turn-returns-clause-goes
unfolding from_start any_of begins begins_below expressions in_mode is_longer is_silent items longest look_of no_longer one_of passes paths patterns row rule shift statements there_at tokens types whole
items::item_turn-returns-clause-goes t c = λ e. record {
  turns = (let more = saw-so (c.at_end_of.ensures.sees Off) c.if-at_end_of.false in
      let other = saw-before c.at_end_of.ensures.peeks.same (saw-so (c.at_inner_attribute.ensures.sees Off) c.if-at_inner_attribute.false) in
      next-turn Off _ (over-at-end c.args.end item_or_attribute) _ _ _ first-turn (within item_or_attribute more (starts-here item_or_attribute (other and left-within c.args.end more and nothing) refl))
      (reads-unless Off (reads-here (other and nothing) (after-look Off c.at_end_of.ensures.peeks.same (after-look Off c.at_inner_attribute.ensures.peeks.same (reads-call Off c.item.ensures.gives)))))
      (omega (arith, c.item.ensures.takes.left, c.at_inner_attribute.ensures.peeks.left, c.at_end_of.ensures.peeks.left)));
  takes = record {
    left = omega arith;
    looks = omega arith;
  };
}

pub items::item_turn-returns-clause-keeps : goal.items::item_turn-returns-clause-keeps
items::item_turn-returns-clause-keeps t c = record {
  input = c.item.ensures.gives.does.input ∙ c.at_inner_attribute.ensures.peeks.same.input ∙ c.at_end_of.ensures.peeks.same.input;
  innermost = λ n i. c.item.ensures.gives.does.innermost n (c.at_inner_attribute.ensures.peeks.same.innermost n (c.at_end_of.ensures.peeks.same.innermost n i));
}

pub items::items-turns-preserved : goal.items::items-turns-preserved
items::items-turns-preserved t c = record {
  innermost = λ n i. c.item_turn.ensures.keeps.innermost n (c.turns.invariant.innermost n i);
  goes = record { rest = λ end p. c.turns.invariant.goes.rest end ((c.item_turn.ensures.goes c.turns-test.true).turns.rest end p) };
  left = omega (arith, c.turns.invariant.left, c.item_turn.ensures.asks.left);
  looks = omega (arith, c.turns.invariant.looks, (c.item_turn.ensures.goes c.turns-test.true).takes.looks);
}

pub items::items-returns-clause-reads : goal.items::items-returns-clause-reads
items::items-returns-clause-reads t c = c.turns.invariant.goes.rest _ (c.item_turn.ensures.ends c.turns-test.false)

pub items::body-new_item-requires : goal.items::body-new_item-requires
items::body-new_item-requires t c = (omega arith, (record { sees = λ d. saw-after c.at_new_item.ensures.peeks.same (saw-so (c.at_new_item.ensures.sees d) c.if-at_new_item.true); some = omega (arith, c.at_new_item.ensures.some c.if-at_new_item.true, c.at_new_item.ensures.peeks.left) }, c.at_new_item.ensures.peeks.same.innermost _ c.requires.innermost))

pub items::body-returns-then-at_new_item-clause-completes : goal.items::body-returns-then-at_new_item-clause-completes
unfolding look_of begins_below whole rule items statements expressions patterns types paths there_at shift passes is_silent begins in_mode from_start row one_of any_of no_longer longest is_longer
items::body-returns-then-at_new_item-clause-completes t c = where-here (saw-so (c.at_new_item.ensures.sees c.args.condition) c.if-at_new_item.true and nothing) (where-look c.at_new_item.ensures.peeks.same (where-any c.new_item.ensures.completes))

pub items::body-returns-then-at_new_item-clause-takes : goal.items::body-returns-then-at_new_item-clause-takes
items::body-returns-then-at_new_item-clause-takes t c = record {
  takes = λ e. record { left = omega (arith, c.new_item.ensures.takes.left, c.at_new_item.ensures.peeks.left); looks = omega (arith, c.new_item.ensures.takes.looks, c.at_new_item.ensures.peeks.looks) };
  left = omega (arith, c.new_item.ensures.takes.left, c.at_new_item.ensures.peeks.left);
  looks = omega (arith, c.new_item.ensures.takes.looks, c.at_new_item.ensures.peeks.looks);
}

pub items::body-plain_body-requires : goal.items::body-plain_body-requires
items::body-plain_body-requires t c = (omega arith, ((λ e. omega (arith, c.requires.some e, c.at_new_item.ensures.peeks.left)), c.at_new_item.ensures.peeks.same.innermost _ c.requires.innermost))

pub items::body-returns-clause-completes : goal.items::body-returns-clause-completes
unfolding look_of begins_below whole rule items statements expressions patterns types paths there_at shift passes is_silent begins in_mode from_start row one_of any_of no_longer longest is_longer
items::body-returns-clause-completes t c = where-here (saw-so (c.at_new_item.ensures.sees c.args.condition) c.if-at_new_item.false and nothing) (where-look c.at_new_item.ensures.peeks.same c.plain_body.ensures.completes)

pub items::body-returns-clause-takes : goal.items::body-returns-clause-takes
items::body-returns-clause-takes t c = record {
  takes = λ e. record { left = omega (arith, (c.plain_body.ensures.takes.takes e).left, c.at_new_item.ensures.peeks.left); looks = omega (arith, (c.plain_body.ensures.takes.takes e).looks, c.at_new_item.ensures.peeks.looks) };
  left = omega (arith, c.plain_body.ensures.takes.left, c.at_new_item.ensures.peeks.left);
  looks = omega (arith, c.plain_body.ensures.takes.looks, c.at_new_item.ensures.peeks.looks);
}
