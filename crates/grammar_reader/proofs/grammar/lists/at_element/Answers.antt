-- Each arm asks for its element.
use Rattle.std.proofs.Common.{◌+◌, ◌≤◌, sym, subst, arith, rules}
use Rattle.rust_grammar.specs.Expressions.{expressions}
use Rattle.rust_grammar.specs.Items.{items}
use Rattle.rust_grammar.specs.Meaning.{begins_below, look_of}
use Rattle.rust_grammar.specs.Notation.{any_of, is_longer, no_longer, longest, one_of, row}
use Rattle.rust_grammar.specs.Paths.{paths}
use Rattle.rust_grammar.specs.Patterns.{patterns}
use Rattle.rust_grammar.specs.Rule as rules
use Rattle.rust_grammar.specs.Rule.{begins, in_mode, from_start, is_silent, passes, shift, there_at}
use Rattle.rust_grammar.specs.Statements.{statements}
use Rattle.rust_grammar.specs.Types.{types}
use Rattle.rust_grammar.specs.Whole.{rule, whole}
use Rattle.grammar_reader.specs.Told.{element_of, looks_before}
use Rattle.grammar_reader.specs.declared.grammar.lists.Element.{Element}
use Rattle.rust_productions.specs.Looks.{spent}
use Rattle.rust_productions.specs.Reads.{looks, Saw}
use Rattle.rust_productions.specs.declared.condition.Condition.TheVariants.{Off}
use Rattle.rust_productions.proofs.Ranges.{begins-call}
use Rattle.grammar_reader.proofs.grammar.lists.at_element.Goals as goal

pub returns-in-Captured-clause-sees : goal.returns-in-Captured-clause-sees
unfolding look_of begins_below whole rule items statements expressions patterns types paths there_at shift passes is_silent begins in_mode from_start row one_of any_of no_longer longest is_longer
returns-in-Captured-clause-sees c = subst (λ (e : Element). Saw Off (begins looks (element_of e)) c.args.p.now c.at_captured.result) (sym c.in-Captured.is) (c.at_captured.ensures.sees Off)

pub returns-in-Captured-clause-peeks : goal.returns-in-Captured-clause-peeks
returns-in-Captured-clause-peeks c = record {
  same = search rules;
  left = omega arith;
  looks = subst (λ (e : Element). spent c.at_captured.new.p ≤ spent c.args.p.now + looks_before e) (sym c.in-Captured.is) (omega (arith, c.at_captured.ensures.peeks.looks));
}

pub returns-in-ClosureParam-clause-sees : goal.returns-in-ClosureParam-clause-sees
unfolding begins
returns-in-ClosureParam-clause-sees c = subst (λ (e : Element). Saw Off (begins looks (element_of e)) c.args.p.now c.at_closure_param.result) (sym c.in-ClosureParam.is) (c.at_closure_param.ensures.sees Off)

pub returns-in-ClosureParam-clause-peeks : goal.returns-in-ClosureParam-clause-peeks
returns-in-ClosureParam-clause-peeks c = record {
  same = search rules;
  left = omega arith;
  looks = subst (λ (e : Element). spent c.at_closure_param.new.p ≤ spent c.args.p.now + looks_before e) (sym c.in-ClosureParam.is) (omega (arith, c.at_closure_param.ensures.peeks.looks));
}

pub returns-in-Expression-clause-sees : goal.returns-in-Expression-clause-sees
unfolding begins
returns-in-Expression-clause-sees c = subst (λ (e : Element). Saw Off (begins looks (element_of e)) c.args.p.now c.at_expression.result) (sym c.in-Expression.is) (begins-call rules.expression c.at_expression.ensures.sees)

pub returns-in-Expression-clause-peeks : goal.returns-in-Expression-clause-peeks
returns-in-Expression-clause-peeks c = record {
  same = search rules;
  left = omega arith;
  looks = subst (λ (e : Element). spent c.at_expression.new.p ≤ spent c.args.p.now + looks_before e) (sym c.in-Expression.is) (omega (arith, c.at_expression.ensures.peeks.looks));
}

pub returns-in-FieldValue-clause-sees : goal.returns-in-FieldValue-clause-sees
unfolding look_of begins_below whole rule items statements expressions patterns types paths there_at shift passes is_silent begins in_mode from_start row one_of any_of no_longer longest is_longer
returns-in-FieldValue-clause-sees c = subst (λ (e : Element). Saw Off (begins looks (element_of e)) c.args.p.now c.at_field_value.result) (sym c.in-FieldValue.is) (c.at_field_value.ensures.sees Off)

pub returns-in-FieldValue-clause-peeks : goal.returns-in-FieldValue-clause-peeks
returns-in-FieldValue-clause-peeks c = record {
  same = search rules;
  left = omega arith;
  looks = subst (λ (e : Element). spent c.at_field_value.new.p ≤ spent c.args.p.now + looks_before e) (sym c.in-FieldValue.is) (omega (arith, c.at_field_value.ensures.peeks.looks));
}

pub returns-in-FnPtrParam-clause-sees : goal.returns-in-FnPtrParam-clause-sees
unfolding look_of begins_below whole rule items statements expressions patterns types paths there_at shift passes is_silent begins in_mode from_start row one_of any_of no_longer longest is_longer
returns-in-FnPtrParam-clause-sees c = subst (λ (e : Element). Saw Off (begins looks (element_of e)) c.args.p.now c.at_fn_ptr_param.result) (sym c.in-FnPtrParam.is) (c.at_fn_ptr_param.ensures.sees Off)

pub returns-in-FnPtrParam-clause-peeks : goal.returns-in-FnPtrParam-clause-peeks
returns-in-FnPtrParam-clause-peeks c = record {
  same = search rules;
  left = omega arith;
  looks = subst (λ (e : Element). spent c.at_fn_ptr_param.new.p ≤ spent c.args.p.now + looks_before e) (sym c.in-FnPtrParam.is) (omega (arith, c.at_fn_ptr_param.ensures.peeks.looks));
}

pub returns-in-GenericArg-clause-sees : goal.returns-in-GenericArg-clause-sees
unfolding look_of begins_below whole rule items statements expressions patterns types paths there_at shift passes is_silent begins in_mode from_start row one_of any_of no_longer longest is_longer
returns-in-GenericArg-clause-sees c = subst (λ (e : Element). Saw Off (begins looks (element_of e)) c.args.p.now c.at_generic_arg.result) (sym c.in-GenericArg.is) (c.at_generic_arg.ensures.sees Off)

pub returns-in-GenericArg-clause-peeks : goal.returns-in-GenericArg-clause-peeks
returns-in-GenericArg-clause-peeks c = record {
  same = search rules;
  left = omega arith;
  looks = subst (λ (e : Element). spent c.at_generic_arg.new.p ≤ spent c.args.p.now + looks_before e) (sym c.in-GenericArg.is) (omega (arith, c.at_generic_arg.ensures.peeks.looks));
}

pub returns-in-GenericParam-clause-sees : goal.returns-in-GenericParam-clause-sees
unfolding look_of begins_below whole rule items statements expressions patterns types paths there_at shift passes is_silent begins in_mode from_start row one_of any_of no_longer longest is_longer
returns-in-GenericParam-clause-sees c = subst (λ (e : Element). Saw Off (begins looks (element_of e)) c.args.p.now c.at_generic_param.result) (sym c.in-GenericParam.is) (c.at_generic_param.ensures.sees Off)

pub returns-in-GenericParam-clause-peeks : goal.returns-in-GenericParam-clause-peeks
returns-in-GenericParam-clause-peeks c = record {
  same = search rules;
  left = omega arith;
  looks = subst (λ (e : Element). spent c.at_generic_param.new.p ≤ spent c.args.p.now + looks_before e) (sym c.in-GenericParam.is) (omega (arith, c.at_generic_param.ensures.peeks.looks));
}

pub returns-in-Param-clause-sees : goal.returns-in-Param-clause-sees
unfolding look_of begins_below whole rule items statements expressions patterns types paths there_at shift passes is_silent begins in_mode from_start row one_of any_of no_longer longest is_longer
returns-in-Param-clause-sees c = subst (λ (e : Element). Saw Off (begins looks (element_of e)) c.args.p.now c.at_param.result) (sym c.in-Param.is) (c.at_param.ensures.sees Off)

pub returns-in-Param-clause-peeks : goal.returns-in-Param-clause-peeks
returns-in-Param-clause-peeks c = record {
  same = search rules;
  left = omega arith;
  looks = subst (λ (e : Element). spent c.at_param.new.p ≤ spent c.args.p.now + looks_before e) (sym c.in-Param.is) (omega (arith, c.at_param.ensures.peeks.looks));
}

pub returns-in-Pattern-clause-sees : goal.returns-in-Pattern-clause-sees
unfolding look_of begins_below whole rule items statements expressions patterns types paths there_at shift passes is_silent begins in_mode from_start row one_of any_of no_longer longest is_longer
returns-in-Pattern-clause-sees c = subst (λ (e : Element). Saw Off (begins looks (element_of e)) c.args.p.now c.at_pattern.result) (sym c.in-Pattern.is) (c.at_pattern.ensures.sees Off)

pub returns-in-Pattern-clause-peeks : goal.returns-in-Pattern-clause-peeks
returns-in-Pattern-clause-peeks c = record {
  same = search rules;
  left = omega arith;
  looks = subst (λ (e : Element). spent c.at_pattern.new.p ≤ spent c.args.p.now + looks_before e) (sym c.in-Pattern.is) (omega (arith, c.at_pattern.ensures.peeks.looks));
}

pub returns-in-PatternField-clause-sees : goal.returns-in-PatternField-clause-sees
unfolding look_of begins_below whole rule items statements expressions patterns types paths there_at shift passes is_silent begins in_mode from_start row one_of any_of no_longer longest is_longer
returns-in-PatternField-clause-sees c = subst (λ (e : Element). Saw Off (begins looks (element_of e)) c.args.p.now c.at_pattern_field.result) (sym c.in-PatternField.is) (c.at_pattern_field.ensures.sees Off)

pub returns-in-PatternField-clause-peeks : goal.returns-in-PatternField-clause-peeks
returns-in-PatternField-clause-peeks c = record {
  same = search rules;
  left = omega arith;
  looks = subst (λ (e : Element). spent c.at_pattern_field.new.p ≤ spent c.args.p.now + looks_before e) (sym c.in-PatternField.is) (omega (arith, c.at_pattern_field.ensures.peeks.looks));
}

pub returns-in-Type-clause-sees : goal.returns-in-Type-clause-sees
unfolding look_of begins_below whole rule items statements expressions patterns types paths there_at shift passes is_silent begins in_mode from_start row one_of any_of no_longer longest is_longer
returns-in-Type-clause-sees c = subst (λ (e : Element). Saw Off (begins looks (element_of e)) c.args.p.now c.at_type.result) (sym c.in-Type.is) (c.at_type.ensures.sees Off)

pub returns-in-Type-clause-peeks : goal.returns-in-Type-clause-peeks
returns-in-Type-clause-peeks c = record {
  same = search rules;
  left = omega arith;
  looks = subst (λ (e : Element). spent c.at_type.new.p ≤ spent c.args.p.now + looks_before e) (sym c.in-Type.is) (omega (arith, c.at_type.ensures.peeks.looks));
}

pub returns-in-RecordField-clause-sees : goal.returns-in-RecordField-clause-sees
unfolding look_of begins_below whole rule items statements expressions patterns types paths there_at shift passes is_silent begins in_mode from_start row one_of any_of no_longer longest is_longer
returns-in-RecordField-clause-sees c = subst (λ (e : Element). Saw Off (begins looks (element_of e)) c.args.p.now c.at_record_field.result) (sym c.in-RecordField.is) (c.at_record_field.ensures.sees Off)

pub returns-in-RecordField-clause-peeks : goal.returns-in-RecordField-clause-peeks
returns-in-RecordField-clause-peeks c = record {
  same = search rules;
  left = omega arith;
  looks = subst (λ (e : Element). spent c.at_record_field.new.p ≤ spent c.args.p.now + looks_before e) (sym c.in-RecordField.is) (omega (arith, c.at_record_field.ensures.peeks.looks));
}

pub returns-in-TupleField-clause-sees : goal.returns-in-TupleField-clause-sees
unfolding look_of begins_below whole rule items statements expressions patterns types paths there_at shift passes is_silent begins in_mode from_start row one_of any_of no_longer longest is_longer
returns-in-TupleField-clause-sees c = subst (λ (e : Element). Saw Off (begins looks (element_of e)) c.args.p.now c.at_tuple_field.result) (sym c.in-TupleField.is) (c.at_tuple_field.ensures.sees Off)

pub returns-in-TupleField-clause-peeks : goal.returns-in-TupleField-clause-peeks
returns-in-TupleField-clause-peeks c = record {
  same = search rules;
  left = omega arith;
  looks = subst (λ (e : Element). spent c.at_tuple_field.new.p ≤ spent c.args.p.now + looks_before e) (sym c.in-TupleField.is) (omega (arith, c.at_tuple_field.ensures.peeks.looks));
}

pub returns-in-Variant-clause-sees : goal.returns-in-Variant-clause-sees
unfolding look_of begins_below whole rule items statements expressions patterns types paths there_at shift passes is_silent begins in_mode from_start row one_of any_of no_longer longest is_longer
returns-in-Variant-clause-sees c = subst (λ (e : Element). Saw Off (begins looks (element_of e)) c.args.p.now c.at_named_member.result) (sym c.in-Variant.is) (c.at_named_member.ensures.sees Off)

pub returns-in-Variant-clause-peeks : goal.returns-in-Variant-clause-peeks
returns-in-Variant-clause-peeks c = record {
  same = search rules;
  left = omega arith;
  looks = subst (λ (e : Element). spent c.at_named_member.new.p ≤ spent c.args.p.now + looks_before e) (sym c.in-Variant.is) (omega (arith, c.at_named_member.ensures.peeks.looks));
}

pub returns-in-TypeArg-clause-sees : goal.returns-in-TypeArg-clause-sees
unfolding look_of begins_below whole rule items statements expressions patterns types paths there_at shift passes is_silent begins in_mode from_start row one_of any_of no_longer longest is_longer
returns-in-TypeArg-clause-sees c = subst (λ (e : Element). Saw Off (begins looks (element_of e)) c.args.p.now c.at_type-in-TypeArg.result) (sym c.in-TypeArg.is) (c.at_type-in-TypeArg.ensures.sees Off)

pub returns-in-TypeArg-clause-peeks : goal.returns-in-TypeArg-clause-peeks
returns-in-TypeArg-clause-peeks c = record {
  same = search rules;
  left = omega arith;
  looks = subst (λ (e : Element). spent c.at_type-in-TypeArg.new.p ≤ spent c.args.p.now + looks_before e) (sym c.in-TypeArg.is) (omega (arith, c.at_type-in-TypeArg.ensures.peeks.looks));
}
