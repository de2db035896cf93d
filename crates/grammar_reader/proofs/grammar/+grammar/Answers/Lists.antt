-- Lists, turn by turn.
use Rattle.std.proofs.Common.{true, refl, sym, subst, arith, ◌∙◌, ◌+◌, ◌≤◌}
use Rattle.std.proofs.lemmas.Bool.{ltb-true, ltb-false}
use Rattle.parser_input.specs.Kind.{raw_of}
use Rattle.rust_grammar.specs.Rule as rules
use Rattle.rust_grammar.specs.Rule.{Call}
use Rattle.rust_grammar.specs.Expressions.{expressions}
use Rattle.rust_grammar.specs.Items.{items, record_field, tuple_field, variant}
use Rattle.rust_grammar.specs.Meaning.{begins_below, look_of}
use Rattle.rust_grammar.specs.Notation.{any_of, is_longer, no_longer, longest, one_of, row}
use Rattle.rust_grammar.specs.Paths.{captured, paths, type_arg}
use Rattle.rust_grammar.specs.Patterns.{patterns}
use Rattle.rust_grammar.specs.Rule.{begins, in_mode, from_start, is_silent, passes, shift, there_at}
use Rattle.rust_grammar.specs.Statements.{statements}
use Rattle.rust_grammar.specs.Types.{types, fn_ptr_param}
use Rattle.rust_grammar.specs.Whole.{rule, whole}
use Rattle.grammar_reader.specs.Told.{element_of, list_turn, looks_in}
use Rattle.grammar_reader.specs.declared.grammar.lists.Element.{Element}
use Rattle.grammar_reader.proofs.Elements.{element-pays, ends, few-looks-before, few-looks-in, more, over, over-there, reads-element, reads-stray, said-element, stray, sure-element}
use Rattle.grammar_reader.proofs.AnyMode.{fn-ptr-param-anywhere, generic-arg-anywhere, param-anywhere, pattern-anywhere, pattern-field-anywhere, type-anywhere, type-arg-anywhere}
use Rattle.grammar_reader.proofs.Seeing.{begun-left, param-left, closure-param-anywhere, word-left}
use Rattle.rust_productions.specs.Looks.{tokens, spent}
use Rattle.rust_productions.specs.Reads.{looks, Reads, Saw}
use Rattle.rust_productions.specs.declared.condition.Condition.TheVariants.{On, Off}
use Rattle.rust_productions.proofs.ByHand.{after-look, does-then, reads-call, reads-mode, reads-node, reads-then, reads-wrap}
use Rattle.rust_productions.proofs.Choices.{from_start-after, gives-from_start, reads-here}
use Rattle.rust_productions.proofs.Facts.{nothing, saw-so, ◌and◌}
use Rattle.rust_productions.proofs.Seen.{saw-after, saw-before}
use Rattle.rust_productions.proofs.Turns.{first-turn, idle-turn, last-turn, next-turn}
use Rattle.grammar_reader.specs.Lists.{left_by}
use Rattle.grammar_reader.proofs.ListsAndParts.{closes-inside, list-pays, reads-list}
use Rattle.grammar_reader.proofs.grammar.+grammar.Goals as goal

pub lists::turn-returns-then-at_list_end-clause-ends : goal.lists::turn-returns-then-at_list_end-clause-ends
lists::turn-returns-then-at_list_end-clause-ends t c = λ e. last-turn Off (list_turn (raw_of c.args.list) (element_of c.args.element) (raw_of c.args.closing)) (ends (raw_of c.args.list) (element_of c.args.element) (raw_of c.args.closing)) _ _ _ first-turn (over (raw_of c.args.list) (element_of c.args.element) (raw_of c.args.closing) (saw-so (c.at_list_end.ensures.sees Off) c.if-at_list_end.true)) c.at_list_end.ensures.peeks.same

pub lists::turn-read_element-requires : goal.lists::turn-read_element-requires
lists::turn-read_element-requires t c = (omega arith, saw-after c.at_element.ensures.peeks.same (saw-so c.at_element.ensures.sees c.if-at_element.true))

pub lists::turn-returns-then-at_element-clause-goes : goal.lists::turn-returns-then-at_element-clause-goes
unfolding tokens
lists::turn-returns-then-at_element-clause-goes t c = λ e. record {
  turns = (next-turn Off (list_turn (raw_of c.args.list) (element_of c.args.element) (raw_of c.args.closing)) (ends (raw_of c.args.list) (element_of c.args.element) (raw_of c.args.closing)) _ _ _ first-turn (more (raw_of c.args.list) (element_of c.args.element) (raw_of c.args.closing) (said-element c.args.element) (sure-element c.args.element) (saw-so (c.at_list_end.ensures.sees Off) c.if-at_list_end.false) (saw-before c.at_list_end.ensures.peeks.same (saw-so c.at_element.ensures.sees c.if-at_element.true))) (after-look Off c.at_list_end.ensures.peeks.same (after-look Off c.at_element.ensures.peeks.same (reads-element (raw_of c.args.list) (element_of c.args.element) (raw_of c.args.closing) (said-element c.args.element) (sure-element c.args.element) (saw-after c.at_element.ensures.peeks.same (saw-so c.at_element.ensures.sees c.if-at_element.true)) c.read_element.ensures.reads (c.comma.ensures.reads Off)))) (omega (arith, (ltb-true c.tokens_left.result c.tokens_left-before.result e), c.tokens_left.ensures, c.tokens_left-before.ensures, c.at_list_end.ensures.peeks.left)));
  takes = record {
    left = omega (arith, (ltb-true c.tokens_left.result c.tokens_left-before.result e), c.tokens_left.ensures, c.tokens_left-before.ensures, c.at_list_end.ensures.peeks.left);
    looks = omega (arith, few-looks-before c.args.element, c.at_element.ensures.peeks.looks, c.at_list_end.ensures.peeks.looks, element-pays c.at_element.new.p c.read_element.new.p c.comma.new.p (looks_in c.args.element) (few-looks-in c.args.element) c.read_element.ensures.pays c.read_element.ensures.asks.looks c.read_element.ensures.asks.left c.comma.ensures.asks.left c.comma.ensures.asks.looks c.comma.ensures.pays (omega (arith, (ltb-true c.tokens_left.result c.tokens_left-before.result e), c.tokens_left.ensures, c.tokens_left-before.ensures, c.at_element.ensures.peeks.left, c.at_list_end.ensures.peeks.left)));
  };
}

pub lists::turn-returns-then-at_element-clause-keeps : goal.lists::turn-returns-then-at_element-clause-keeps
lists::turn-returns-then-at_element-clause-keeps t c = record {
  input = (c.comma.ensures.reads Off).does.input ∙ c.read_element.ensures.reads.does.input ∙ c.at_element.ensures.peeks.same.input ∙ c.at_list_end.ensures.peeks.same.input;
  innermost = λ n i. (c.comma.ensures.reads Off).does.innermost n (c.read_element.ensures.reads.does.innermost n (c.at_element.ensures.peeks.same.innermost n (c.at_list_end.ensures.peeks.same.innermost n i)));
}

pub lists::turn-returns-then-at_element-clause-asks : goal.lists::turn-returns-then-at_element-clause-asks
lists::turn-returns-then-at_element-clause-asks t c = record {
  left = omega arith;
  looks = omega (arith, c.at_element.ensures.peeks.looks, c.at_list_end.ensures.peeks.looks, c.read_element.ensures.asks.looks, c.comma.ensures.asks.looks);
}

pub lists::turn-returns-then-at_element-clause-ends : goal.lists::turn-returns-then-at_element-clause-ends
unfolding tokens
lists::turn-returns-then-at_element-clause-ends t c = λ e. idle-turn Off (list_turn (raw_of c.args.list) (element_of c.args.element) (raw_of c.args.closing)) (ends (raw_of c.args.list) (element_of c.args.element) (raw_of c.args.closing)) _ _ _ first-turn (more (raw_of c.args.list) (element_of c.args.element) (raw_of c.args.closing) (said-element c.args.element) (sure-element c.args.element) (saw-so (c.at_list_end.ensures.sees Off) c.if-at_list_end.false) (saw-before c.at_list_end.ensures.peeks.same (saw-so c.at_element.ensures.sees c.if-at_element.true))) (after-look Off c.at_list_end.ensures.peeks.same (after-look Off c.at_element.ensures.peeks.same (reads-element (raw_of c.args.list) (element_of c.args.element) (raw_of c.args.closing) (said-element c.args.element) (sure-element c.args.element) (saw-after c.at_element.ensures.peeks.same (saw-so c.at_element.ensures.sees c.if-at_element.true)) c.read_element.ensures.reads (c.comma.ensures.reads Off)))) (omega (arith, (ltb-false c.tokens_left.result c.tokens_left-before.result e), c.tokens_left.ensures, c.tokens_left-before.ensures, c.at_list_end.ensures.peeks.left, c.comma.ensures.asks.left, c.read_element.ensures.asks.left, c.at_element.ensures.peeks.left))

pub lists::turn-returns-then-at_unexpected-clause-goes : goal.lists::turn-returns-then-at_unexpected-clause-goes
unfolding tokens
lists::turn-returns-then-at_unexpected-clause-goes t c = λ e. record {
  turns = (next-turn Off (list_turn (raw_of c.args.list) (element_of c.args.element) (raw_of c.args.closing)) (ends (raw_of c.args.list) (element_of c.args.element) (raw_of c.args.closing)) _ _ _ first-turn (stray (raw_of c.args.list) (element_of c.args.element) (raw_of c.args.closing) (said-element c.args.element) (sure-element c.args.element) (saw-so (c.at_list_end.ensures.sees Off) c.if-at_list_end.false) (saw-before c.at_list_end.ensures.peeks.same (saw-so c.at_element.ensures.sees c.if-at_element.false)) (saw-before c.at_list_end.ensures.peeks.same (saw-before c.at_element.ensures.peeks.same (saw-so (c.at_unexpected.ensures.sees Off) c.if-at_unexpected.true)))) (after-look Off c.at_list_end.ensures.peeks.same (after-look Off c.at_element.ensures.peeks.same (reads-stray (raw_of c.args.list) (element_of c.args.element) (raw_of c.args.closing) (said-element c.args.element) (sure-element c.args.element) (saw-after c.at_element.ensures.peeks.same (saw-so c.at_element.ensures.sees c.if-at_element.false)) (after-look Off c.at_unexpected.ensures.peeks.same (c.skip.ensures.reads Off))))) (omega (arith, c.skip.ensures.left, c.at_unexpected.ensures.peeks.left, c.at_element.ensures.peeks.left, c.at_list_end.ensures.peeks.left)));
  takes = record {
    left = omega arith;
    looks = omega (arith, few-looks-before c.args.element, c.at_element.ensures.peeks.looks, c.at_list_end.ensures.peeks.looks, c.at_unexpected.ensures.peeks.looks, c.skip.ensures.looks);
  };
}

pub lists::turn-returns-then-at_unexpected-clause-keeps : goal.lists::turn-returns-then-at_unexpected-clause-keeps
lists::turn-returns-then-at_unexpected-clause-keeps t c = record {
  input = (c.skip.ensures.reads Off).does.input ∙ c.at_unexpected.ensures.peeks.same.input ∙ c.at_element.ensures.peeks.same.input ∙ c.at_list_end.ensures.peeks.same.input;
  innermost = λ n i. (c.skip.ensures.reads Off).does.innermost n (c.at_unexpected.ensures.peeks.same.innermost n (c.at_element.ensures.peeks.same.innermost n (c.at_list_end.ensures.peeks.same.innermost n i)));
}

pub lists::turn-returns-then-at_unexpected-clause-asks : goal.lists::turn-returns-then-at_unexpected-clause-asks
lists::turn-returns-then-at_unexpected-clause-asks t c = record {
  left = omega arith;
  looks = omega (arith, few-looks-before c.args.element, c.at_element.ensures.peeks.looks, c.at_list_end.ensures.peeks.looks, c.at_unexpected.ensures.peeks.looks, c.skip.ensures.looks);
}

pub lists::turn-returns-clause-ends : goal.lists::turn-returns-clause-ends
lists::turn-returns-clause-ends t c = λ e. last-turn Off (list_turn (raw_of c.args.list) (element_of c.args.element) (raw_of c.args.closing)) (ends (raw_of c.args.list) (element_of c.args.element) (raw_of c.args.closing)) _ _ _ first-turn (over-there (raw_of c.args.list) (element_of c.args.element) (raw_of c.args.closing) (said-element c.args.element) (sure-element c.args.element) (saw-so (c.at_list_end.ensures.sees Off) c.if-at_list_end.false) (saw-before c.at_list_end.ensures.peeks.same (saw-so c.at_element.ensures.sees c.if-at_element.false)) (saw-before c.at_list_end.ensures.peeks.same (saw-before c.at_element.ensures.peeks.same (saw-so (c.at_unexpected.ensures.sees Off) c.if-at_unexpected.false)))) (does-then c.at_list_end.ensures.peeks.same (does-then c.at_element.ensures.peeks.same c.at_unexpected.ensures.peeks.same))

pub lists::turn-returns-clause-asks : goal.lists::turn-returns-clause-asks
lists::turn-returns-clause-asks t c = record {
  left = omega arith;
  looks = omega (arith, c.at_element.ensures.peeks.looks, c.at_list_end.ensures.peeks.looks, c.at_unexpected.ensures.peeks.looks);
}

pub lists::read_element-captured-requires : goal.lists::read_element-captured-requires
unfolding look_of begins_below whole rule items statements expressions patterns types paths there_at shift passes is_silent begins in_mode from_start row one_of any_of no_longer longest is_longer
lists::read_element-captured-requires t c = record { some = begun-left captured refl (subst (λ (e : Element). Saw Off (begins looks (element_of e)) c.args.p.now true) c.in-Captured.is c.requires.begins) }

pub lists::read_element-returns-in-Captured-clause-reads : goal.lists::read_element-returns-in-Captured-clause-reads
lists::read_element-returns-in-Captured-clause-reads t c = subst (λ (e : Element). Reads Off (element_of e) c.args.p.now c.captured.new.p) (sym c.in-Captured.is) (c.captured.ensures.reads Off)

pub lists::read_element-closure_param-requires : goal.lists::read_element-closure_param-requires
lists::read_element-closure_param-requires t c =
    let seen = subst (λ (e : Element). Saw Off (begins looks (element_of e)) c.args.p.now true) c.in-ClosureParam.is c.requires.begins in
    (omega arith, ((λ d. closure-param-anywhere seen), param-left seen))

pub lists::read_element-expression-requires : goal.lists::read_element-expression-requires
unfolding look_of begins_below whole rule items statements expressions patterns types paths there_at shift passes is_silent begins in_mode from_start row one_of any_of no_longer longest is_longer
lists::read_element-expression-requires t c =
    let seen = subst (λ (e : Element). Saw Off (begins looks (element_of e)) c.args.p.now true) c.in-Expression.is c.requires.begins in
    (omega arith, (seen, begun-left (Call rules.expression) refl seen))

pub lists::read_element-returns-in-Expression-clause-reads : goal.lists::read_element-returns-in-Expression-clause-reads
lists::read_element-returns-in-Expression-clause-reads t c = subst (λ (e : Element). Reads Off (element_of e) c.args.p.now c.expression.new.p) (sym c.in-Expression.is) (reads-call Off c.expression.ensures.gives)

pub lists::read_element-field_value-requires : goal.lists::read_element-field_value-requires
unfolding look_of begins_below whole rule items statements expressions patterns types paths there_at shift passes is_silent begins in_mode from_start row one_of any_of no_longer longest is_longer
lists::read_element-field_value-requires t c =
    let seen = subst (λ (e : Element). Saw Off (begins looks (element_of e)) c.args.p.now true) c.in-FieldValue.is c.requires.begins in
    (omega arith, (seen, begun-left (Call rules.field_value) refl seen))

pub lists::read_element-returns-in-FieldValue-clause-reads : goal.lists::read_element-returns-in-FieldValue-clause-reads
lists::read_element-returns-in-FieldValue-clause-reads t c = subst (λ (e : Element). Reads Off (element_of e) c.args.p.now c.field_value.new.p) (sym c.in-FieldValue.is) (reads-call Off c.field_value.ensures.gives)

pub lists::read_element-generic_arg-requires : goal.lists::read_element-generic_arg-requires
unfolding look_of begins_below whole rule items statements expressions patterns types paths there_at shift passes is_silent begins in_mode from_start row one_of any_of no_longer longest is_longer
lists::read_element-generic_arg-requires t c =
    let seen = subst (λ (e : Element). Saw Off (begins looks (element_of e)) c.args.p.now true) c.in-GenericArg.is c.requires.begins in
    (omega arith, record { sees = λ d. generic-arg-anywhere seen; some = word-left (Call rules.generic_arg) refl seen })

pub lists::read_element-returns-in-GenericArg-clause-reads : goal.lists::read_element-returns-in-GenericArg-clause-reads
lists::read_element-returns-in-GenericArg-clause-reads t c = subst (λ (e : Element). Reads Off (element_of e) c.args.p.now c.generic_arg.new.p) (sym c.in-GenericArg.is) (reads-call Off (c.generic_arg.ensures.gives _))

pub lists::read_element-generic_param-requires : goal.lists::read_element-generic_param-requires
unfolding look_of begins_below whole rule items statements expressions patterns types paths there_at shift passes is_silent begins in_mode from_start row one_of any_of no_longer longest is_longer
lists::read_element-generic_param-requires t c = (omega arith, begun-left (Call rules.generic_param) refl (subst (λ (e : Element). Saw Off (begins looks (element_of e)) c.args.p.now true) c.in-GenericParam.is c.requires.begins))

pub lists::read_element-returns-in-GenericParam-clause-reads : goal.lists::read_element-returns-in-GenericParam-clause-reads
lists::read_element-returns-in-GenericParam-clause-reads t c = subst (λ (e : Element). Reads Off (element_of e) c.args.p.now c.generic_param.new.p) (sym c.in-GenericParam.is) (reads-call Off (c.generic_param.ensures.gives Off))

pub lists::read_element-param-requires : goal.lists::read_element-param-requires
unfolding look_of begins_below whole rule items statements expressions patterns types paths there_at shift passes is_silent begins in_mode from_start row one_of any_of no_longer longest is_longer
lists::read_element-param-requires t c =
    let seen = subst (λ (e : Element). Saw Off (begins looks (element_of e)) c.args.p.now true) c.in-Param.is c.requires.begins in
    (omega arith, ((λ d. param-anywhere seen), begun-left (Call rules.param) refl seen))

pub lists::read_element-returns-in-Param-clause-reads : goal.lists::read_element-returns-in-Param-clause-reads
lists::read_element-returns-in-Param-clause-reads t c = subst (λ (e : Element). Reads Off (element_of e) c.args.p.now c.param.new.p) (sym c.in-Param.is) (reads-call Off c.param.ensures.gives)

pub lists::read_element-pattern-requires : goal.lists::read_element-pattern-requires
unfolding look_of begins_below whole rule items statements expressions patterns types paths there_at shift passes is_silent begins in_mode from_start row one_of any_of no_longer longest is_longer
lists::read_element-pattern-requires t c =
    let seen = subst (λ (e : Element). Saw Off (begins looks (element_of e)) c.args.p.now true) c.in-Pattern.is c.requires.begins in
    (omega arith, ((λ d. pattern-anywhere seen), begun-left (Call rules.pattern) refl seen))

pub lists::read_element-returns-in-Pattern-clause-reads : goal.lists::read_element-returns-in-Pattern-clause-reads
lists::read_element-returns-in-Pattern-clause-reads t c = subst (λ (e : Element). Reads Off (element_of e) c.args.p.now c.pattern.new.p) (sym c.in-Pattern.is) (reads-call Off (c.pattern.ensures.gives Off))

pub lists::read_element-pattern_field-requires : goal.lists::read_element-pattern_field-requires
unfolding look_of begins_below whole rule items statements expressions patterns types paths there_at shift passes is_silent begins in_mode from_start row one_of any_of no_longer longest is_longer
lists::read_element-pattern_field-requires t c =
    let seen = subst (λ (e : Element). Saw Off (begins looks (element_of e)) c.args.p.now true) c.in-PatternField.is c.requires.begins in
    (omega arith, ((λ d. pattern-field-anywhere seen), begun-left (Call rules.pattern_field) refl seen))

pub lists::read_element-returns-in-PatternField-clause-reads : goal.lists::read_element-returns-in-PatternField-clause-reads
lists::read_element-returns-in-PatternField-clause-reads t c = subst (λ (e : Element). Reads Off (element_of e) c.args.p.now c.pattern_field.new.p) (sym c.in-PatternField.is) (reads-call Off (c.pattern_field.ensures.gives Off))

pub lists::read_element-any_type-requires : goal.lists::read_element-any_type-requires
unfolding look_of begins_below whole rule items statements expressions patterns types paths there_at shift passes is_silent begins in_mode from_start row one_of any_of no_longer longest is_longer
lists::read_element-any_type-requires t c =
    let seen = subst (λ (e : Element). Saw Off (begins looks (element_of e)) c.args.p.now true) c.in-Type.is c.requires.begins in
    (omega arith, record { sees = λ d. type-anywhere seen; some = word-left (Call rules.any_type) refl seen })

pub lists::read_element-returns-in-Type-clause-reads : goal.lists::read_element-returns-in-Type-clause-reads
lists::read_element-returns-in-Type-clause-reads t c = subst (λ (e : Element). Reads Off (element_of e) c.args.p.now c.any_type.new.p) (sym c.in-Type.is) (reads-call Off (c.any_type.ensures.gives _))

pub lists::elements-turns-preserved : goal.lists::elements-turns-preserved
lists::elements-turns-preserved t c = record {
  innermost = λ n i. c.turn.ensures.keeps.innermost n (c.turns.invariant.innermost n i);
  goes = record { rest = λ end p. c.turns.invariant.goes.rest end ((c.turn.ensures.goes c.turns-test.true).turns.rest end p) };
  left = omega (arith, c.turns.invariant.left, c.turn.ensures.asks.left);
  looks = omega (arith, c.turns.invariant.looks, (c.turn.ensures.goes c.turns-test.true).takes.looks);
}

pub lists::elements-returns-clause-reads : goal.lists::elements-returns-clause-reads
lists::elements-returns-clause-reads t c = c.turns.invariant.goes.rest _ (c.turn.ensures.ends c.turns-test.false)

pub lists::rest_of_list-returns-clause-reads : goal.lists::rest_of_list-returns-clause-reads
lists::rest_of_list-returns-clause-reads t c = λ cond. reads-then cond (reads-mode cond c.elements.ensures.reads) (c.expect.ensures.reads cond)

pub lists::tuple_tail-wrap-requires : goal.lists::tuple_tail-wrap-requires
lists::tuple_tail-wrap-requires t c = (c.rest_of_list.ensures.reads On).does.innermost _ ((c.take.ensures.reads On).does.innermost _ (c.at.ensures.peeks.same.innermost _ c.requires.innermost))

pub lists::tuple_tail-wrap-requires-2 : goal.lists::tuple_tail-wrap-requires-2
lists::tuple_tail-wrap-requires-2 t c = (c.expect.ensures.reads On).does.innermost _ (c.at.ensures.peeks.same.innermost _ c.requires.innermost)

pub lists::tuple_tail-returns-then-at-clause-reads : goal.lists::tuple_tail-returns-then-at-clause-reads
unfolding look_of begins_below whole rule items statements expressions patterns types paths there_at shift passes is_silent begins in_mode from_start row one_of any_of no_longer longest is_longer
lists::tuple_tail-returns-then-at-clause-reads t c = λ cond. reads-here (saw-so (c.at.ensures.sees cond) c.if-at.true and nothing) (after-look cond c.at.ensures.peeks.same (reads-wrap cond (reads-then cond (c.take.ensures.reads cond) (c.rest_of_list.ensures.reads cond)) c.wrap.ensures.wraps))

pub lists::tuple_tail-returns-clause-reads : goal.lists::tuple_tail-returns-clause-reads
unfolding look_of begins_below whole rule items statements expressions patterns types paths there_at shift passes is_silent begins in_mode from_start row one_of any_of no_longer longest is_longer
lists::tuple_tail-returns-clause-reads t c = λ cond. reads-here (saw-so (c.at.ensures.sees cond) c.if-at.false and nothing) (after-look cond c.at.ensures.peeks.same (reads-wrap cond (c.expect.ensures.reads cond) c.wrap-2.ensures.wraps))

pub lists::read_element-record_field-requires : goal.lists::read_element-record_field-requires
unfolding look_of begins_below whole rule items statements expressions patterns types paths there_at shift passes is_silent begins in_mode from_start row one_of any_of no_longer longest is_longer
lists::read_element-record_field-requires t c =
    let seen = subst (λ (e : Element). Saw Off (begins looks (element_of e)) c.args.p.now true) c.in-RecordField.is c.requires.begins in
    (omega arith, (seen, begun-left record_field refl seen))

pub lists::read_element-returns-in-RecordField-clause-reads : goal.lists::read_element-returns-in-RecordField-clause-reads
lists::read_element-returns-in-RecordField-clause-reads t c = subst (λ (e : Element). Reads Off (element_of e) c.args.p.now c.record_field.new.p) (sym c.in-RecordField.is) c.record_field.ensures.reads

pub lists::read_element-tuple_field-requires : goal.lists::read_element-tuple_field-requires
unfolding look_of begins_below whole rule items statements expressions patterns types paths there_at shift passes is_silent begins in_mode from_start row one_of any_of no_longer longest is_longer
lists::read_element-tuple_field-requires t c =
    let seen = subst (λ (e : Element). Saw Off (begins looks (element_of e)) c.args.p.now true) c.in-TupleField.is c.requires.begins in
    (omega arith, (seen, word-left tuple_field refl seen))

pub lists::read_element-returns-in-TupleField-clause-reads : goal.lists::read_element-returns-in-TupleField-clause-reads
lists::read_element-returns-in-TupleField-clause-reads t c = subst (λ (e : Element). Reads Off (element_of e) c.args.p.now c.tuple_field.new.p) (sym c.in-TupleField.is) c.tuple_field.ensures.reads

pub lists::read_element-variant-requires : goal.lists::read_element-variant-requires
unfolding look_of begins_below whole rule items statements expressions patterns types paths there_at shift passes is_silent begins in_mode from_start row one_of any_of no_longer longest is_longer
lists::read_element-variant-requires t c =
    let seen = subst (λ (e : Element). Saw Off (begins looks (element_of e)) c.args.p.now true) c.in-Variant.is c.requires.begins in
    (omega arith, (seen, begun-left variant refl seen))

pub lists::read_element-returns-in-Variant-clause-reads : goal.lists::read_element-returns-in-Variant-clause-reads
lists::read_element-returns-in-Variant-clause-reads t c = subst (λ (e : Element). Reads Off (element_of e) c.args.p.now c.variant.new.p) (sym c.in-Variant.is) c.variant.ensures.reads

pub lists::read_element-type_arg-requires : goal.lists::read_element-type_arg-requires
unfolding look_of begins_below whole rule items statements expressions patterns types paths there_at shift passes is_silent begins in_mode from_start row one_of any_of no_longer longest is_longer
lists::read_element-type_arg-requires t c =
    let seen = subst (λ (e : Element). Saw Off (begins looks (element_of e)) c.args.p.now true) c.in-TypeArg.is c.requires.begins in
    (omega arith, record { sees = λ d. type-arg-anywhere seen; some = word-left type_arg refl seen })

pub lists::read_element-returns-in-TypeArg-clause-reads : goal.lists::read_element-returns-in-TypeArg-clause-reads
lists::read_element-returns-in-TypeArg-clause-reads t c = subst (λ (e : Element). Reads Off (element_of e) c.args.p.now c.type_arg.new.p) (sym c.in-TypeArg.is) (c.type_arg.ensures.reads Off)

pub lists::read_element-fn_ptr_param-requires : goal.lists::read_element-fn_ptr_param-requires
unfolding look_of begins_below whole rule items statements expressions patterns types paths there_at shift passes is_silent begins in_mode from_start row one_of any_of no_longer longest is_longer
lists::read_element-fn_ptr_param-requires t c =
    let seen = subst (λ (e : Element). Saw Off (begins looks (element_of e)) c.args.p.now true) c.in-FnPtrParam.is c.requires.begins in
    (omega arith, record { sees = λ d. fn-ptr-param-anywhere seen; some = word-left fn_ptr_param refl seen })

pub lists::read_element-returns-in-FnPtrParam-clause-reads : goal.lists::read_element-returns-in-FnPtrParam-clause-reads
lists::read_element-returns-in-FnPtrParam-clause-reads t c = subst (λ (e : Element). Reads Off (element_of e) c.args.p.now c.fn_ptr_param.new.p) (sym c.in-FnPtrParam.is) (c.fn_ptr_param.ensures.reads Off)

pub lists::list-rest_of_list-requires : goal.lists::list-rest_of_list-requires
lists::list-rest_of_list-requires t c = (omega arith, λ e. closes-inside c.args.which (sym c.closing.ensures.is ∙ e))

pub lists::list-complete-requires : goal.lists::list-complete-requires
lists::list-complete-requires t c = (c.rest_of_list.ensures.reads On).does.innermost _ ((c.take.ensures.reads On).does.innermost _ c.start-node.ensures.marker)

pub lists::list-returns-clause-reads : goal.lists::list-returns-clause-reads
lists::list-returns-clause-reads t c = λ cond. reads-list c.args.which (raw_of c.kind_of-kind.result) (raw_of c.opening.result) c.kind_of_element.result (raw_of c.closing.result) c.kind_of-kind.ensures.is c.opening.ensures.is c.kind_of_element.ensures.is c.closing.ensures.is (reads-node cond c.start-node.ensures.opens (reads-then cond (c.take.ensures.reads cond) (c.rest_of_list.ensures.reads cond)) c.complete.ensures.closes)

pub lists::list-returns-clause-takes : goal.lists::list-returns-clause-takes
lists::list-returns-clause-takes t c = record { left = omega (arith, c.rest_of_list.ensures.asks.left, c.take.ensures.left, c.start-node.ensures.stays.left, c.complete.ensures.stays.left); looks = subst (λ (e : Element). spent c.complete.new.p + left_by e ≤ spent c.args.p.now) c.kind_of_element.ensures.is (omega (arith, list-pays c.kind_of_element.result, c.rest_of_list.ensures.asks.looks, c.take.ensures.looks, c.start-node.ensures.stays.looks, c.complete.ensures.stays.looks)) }
