-- Each arm asks for its parts.
use Rattle.std.proofs.Common.{◌+◌, ◌≤◌, inl, inr, sym, subst, arith, refl}
use Rattle.std.proofs.Common.{rules}
use Rattle.rust_grammar.specs.Expressions.{expressions}
use Rattle.rust_grammar.specs.Items.{items}
use Rattle.rust_grammar.specs.Meaning.{begins_below, look_of}
use Rattle.rust_grammar.specs.Notation.{any_of, is_longer, no_longer, longest, one_of, row}
use Rattle.rust_grammar.specs.Paths.{paths}
use Rattle.rust_grammar.specs.Patterns.{patterns}
use Rattle.rust_grammar.specs.Rule.{begins, in_mode, from_start, is_silent, passes, shift, there_at}
use Rattle.rust_grammar.specs.Statements.{statements}
use Rattle.rust_grammar.specs.Types.{types}
use Rattle.rust_grammar.specs.Whole.{rule, whole}
use Rattle.grammar_reader.specs.Parts.{looks_of, part_begins}
use Rattle.grammar_reader.specs.declared.grammar.parts.Part.{Part}
use Rattle.rust_productions.specs.Looks.{spent}
use Rattle.rust_productions.specs.Reads.{Saw}
use Rattle.grammar_reader.proofs.grammar.parts.at_part.Goals as goal

pub returns-in-Arguments-clause-sees : goal.returns-in-Arguments-clause-sees
unfolding look_of begins_below whole rule items statements expressions patterns types paths there_at shift passes is_silent begins in_mode from_start row one_of any_of no_longer longest is_longer
returns-in-Arguments-clause-sees c d = elim c.in-Arguments.is [ inl a0 ↦ subst (λ (e : Part). Saw d (part_begins e) c.args.p.now c.at.result) (sym a0) (c.at.ensures.sees d) | inr b0 ↦ elim b0 [ inl a1 ↦ subst (λ (e : Part). Saw d (part_begins e) c.args.p.now c.at.result) (sym a1) (c.at.ensures.sees d) | inr b1 ↦ subst (λ (e : Part). Saw d (part_begins e) c.args.p.now c.at.result) (sym b1) (c.at.ensures.sees d) ] ]

pub returns-in-Arguments-clause-peeks : goal.returns-in-Arguments-clause-peeks
returns-in-Arguments-clause-peeks c = record {
  same = search rules;
  left = omega arith;
  looks = elim c.in-Arguments.is [ inl a0 ↦ subst (λ (e : Part). spent c.at.new.self ≤ spent c.args.p.now + looks_of e) (sym a0) (omega (arith, c.at.ensures.peeks.looks)) | inr b0 ↦ elim b0 [ inl a1 ↦ subst (λ (e : Part). spent c.at.new.self ≤ spent c.args.p.now + looks_of e) (sym a1) (omega (arith, c.at.ensures.peeks.looks)) | inr b1 ↦ subst (λ (e : Part). spent c.at.new.self ≤ spent c.args.p.now + looks_of e) (sym b1) (omega (arith, c.at.ensures.peeks.looks)) ] ];
}

pub returns-in-AssocItems-clause-sees : goal.returns-in-AssocItems-clause-sees
unfolding look_of begins_below whole rule items statements expressions patterns types paths there_at shift passes is_silent begins in_mode from_start row one_of any_of no_longer longest is_longer
returns-in-AssocItems-clause-sees c d = elim c.in-AssocItems.is [ inl a0 ↦ subst (λ (e : Part). Saw d (part_begins e) c.args.p.now c.at-in-AssocItems.result) (sym a0) (c.at-in-AssocItems.ensures.sees d) | inr b0 ↦ elim b0 [ inl a1 ↦ subst (λ (e : Part). Saw d (part_begins e) c.args.p.now c.at-in-AssocItems.result) (sym a1) (c.at-in-AssocItems.ensures.sees d) | inr b1 ↦ elim b1 [ inl a2 ↦ subst (λ (e : Part). Saw d (part_begins e) c.args.p.now c.at-in-AssocItems.result) (sym a2) (c.at-in-AssocItems.ensures.sees d) | inr b2 ↦ elim b2 [ inl a3 ↦ subst (λ (e : Part). Saw d (part_begins e) c.args.p.now c.at-in-AssocItems.result) (sym a3) (c.at-in-AssocItems.ensures.sees d) | inr b3 ↦ elim b3 [ inl a4 ↦ subst (λ (e : Part). Saw d (part_begins e) c.args.p.now c.at-in-AssocItems.result) (sym a4) (c.at-in-AssocItems.ensures.sees d) | inr b4 ↦ subst (λ (e : Part). Saw d (part_begins e) c.args.p.now c.at-in-AssocItems.result) (sym b4) (c.at-in-AssocItems.ensures.sees d) ] ] ] ] ]

pub returns-in-AssocItems-clause-peeks : goal.returns-in-AssocItems-clause-peeks
returns-in-AssocItems-clause-peeks c = record {
  same = search rules;
  left = omega arith;
  looks = elim c.in-AssocItems.is [ inl a0 ↦ subst (λ (e : Part). spent c.at-in-AssocItems.new.self ≤ spent c.args.p.now + looks_of e) (sym a0) (omega (arith, c.at-in-AssocItems.ensures.peeks.looks)) | inr b0 ↦ elim b0 [ inl a1 ↦ subst (λ (e : Part). spent c.at-in-AssocItems.new.self ≤ spent c.args.p.now + looks_of e) (sym a1) (omega (arith, c.at-in-AssocItems.ensures.peeks.looks)) | inr b1 ↦ elim b1 [ inl a2 ↦ subst (λ (e : Part). spent c.at-in-AssocItems.new.self ≤ spent c.args.p.now + looks_of e) (sym a2) (omega (arith, c.at-in-AssocItems.ensures.peeks.looks)) | inr b2 ↦ elim b2 [ inl a3 ↦ subst (λ (e : Part). spent c.at-in-AssocItems.new.self ≤ spent c.args.p.now + looks_of e) (sym a3) (omega (arith, c.at-in-AssocItems.ensures.peeks.looks)) | inr b3 ↦ elim b3 [ inl a4 ↦ subst (λ (e : Part). spent c.at-in-AssocItems.new.self ≤ spent c.args.p.now + looks_of e) (sym a4) (omega (arith, c.at-in-AssocItems.ensures.peeks.looks)) | inr b4 ↦ subst (λ (e : Part). spent c.at-in-AssocItems.new.self ≤ spent c.args.p.now + looks_of e) (sym b4) (omega (arith, c.at-in-AssocItems.ensures.peeks.looks)) ] ] ] ] ];
}

pub returns-in-ClosureParams-clause-sees : goal.returns-in-ClosureParams-clause-sees
unfolding look_of begins_below whole rule items statements expressions patterns types paths there_at shift passes is_silent begins in_mode from_start row one_of any_of no_longer longest is_longer
returns-in-ClosureParams-clause-sees c d = subst (λ (e : Part). Saw d (part_begins e) c.args.p.now c.at-in-ClosureParams.result) (sym c.in-ClosureParams.is) (c.at-in-ClosureParams.ensures.sees d)

pub returns-in-ClosureParams-clause-peeks : goal.returns-in-ClosureParams-clause-peeks
returns-in-ClosureParams-clause-peeks c = record {
  same = search rules;
  left = omega arith;
  looks = subst (λ (e : Part). spent c.at-in-ClosureParams.new.self ≤ spent c.args.p.now + looks_of e) (sym c.in-ClosureParams.is) (omega (arith, c.at-in-ClosureParams.ensures.peeks.looks));
}

pub returns-in-GenericArgs-clause-sees : goal.returns-in-GenericArgs-clause-sees
unfolding look_of begins_below whole rule items statements expressions patterns types paths there_at shift passes is_silent begins in_mode from_start row one_of any_of no_longer longest is_longer
returns-in-GenericArgs-clause-sees c d = subst (λ (e : Part). Saw d (part_begins e) c.args.p.now c.at_generic_args.result) (sym c.in-GenericArgs.is) (c.at_generic_args.ensures.sees d)

pub returns-in-GenericArgs-clause-peeks : goal.returns-in-GenericArgs-clause-peeks
returns-in-GenericArgs-clause-peeks c = record {
  same = search rules;
  left = omega arith;
  looks = subst (λ (e : Part). spent c.at_generic_args.new.p ≤ spent c.args.p.now + looks_of e) (sym c.in-GenericArgs.is) (omega (arith, c.at_generic_args.ensures.peeks.looks));
}

pub returns-in-GenericParams-clause-sees : goal.returns-in-GenericParams-clause-sees
unfolding look_of begins_below whole rule items statements expressions patterns types paths there_at shift passes is_silent begins in_mode from_start row one_of any_of no_longer longest is_longer
returns-in-GenericParams-clause-sees c d = subst (λ (e : Part). Saw d (part_begins e) c.args.p.now c.at-in-GenericParams.result) (sym c.in-GenericParams.is) (c.at-in-GenericParams.ensures.sees d)

pub returns-in-GenericParams-clause-peeks : goal.returns-in-GenericParams-clause-peeks
returns-in-GenericParams-clause-peeks c = record {
  same = search rules;
  left = omega arith;
  looks = subst (λ (e : Part). spent c.at-in-GenericParams.new.self ≤ spent c.args.p.now + looks_of e) (sym c.in-GenericParams.is) (omega (arith, c.at-in-GenericParams.ensures.peeks.looks));
}

pub returns-in-NewGenericParams-clause-sees : goal.returns-in-NewGenericParams-clause-sees
unfolding look_of begins_below whole rule items statements expressions patterns types paths there_at shift passes is_silent begins in_mode from_start row one_of any_of no_longer longest is_longer
returns-in-NewGenericParams-clause-sees c d = subst (λ (e : Part). Saw d (part_begins e) c.args.p.now c.at_new.result) (sym c.in-NewGenericParams.is) (c.at_new.ensures.sees d)

pub returns-in-NewGenericParams-clause-peeks : goal.returns-in-NewGenericParams-clause-peeks
returns-in-NewGenericParams-clause-peeks c = record {
  same = search rules;
  left = omega arith;
  looks = subst (λ (e : Part). spent c.at_new.new.self ≤ spent c.args.p.now + looks_of e) (sym c.in-NewGenericParams.is) (omega (arith, c.at_new.ensures.peeks.looks));
}

pub returns-in-NewWhereClause-clause-sees : goal.returns-in-NewWhereClause-clause-sees
unfolding look_of begins_below whole rule items statements expressions patterns types paths there_at shift passes is_silent begins in_mode from_start row one_of any_of no_longer longest is_longer
returns-in-NewWhereClause-clause-sees c d = subst (λ (e : Part). Saw d (part_begins e) c.args.p.now c.at_new-in-NewWhereClause.result) (sym c.in-NewWhereClause.is) (c.at_new-in-NewWhereClause.ensures.sees d)

pub returns-in-NewWhereClause-clause-peeks : goal.returns-in-NewWhereClause-clause-peeks
returns-in-NewWhereClause-clause-peeks c = record {
  same = search rules;
  left = omega arith;
  looks = subst (λ (e : Part). spent c.at_new-in-NewWhereClause.new.self ≤ spent c.args.p.now + looks_of e) (sym c.in-NewWhereClause.is) (omega (arith, c.at_new-in-NewWhereClause.ensures.peeks.looks));
}

pub returns-in-PathType-clause-sees : goal.returns-in-PathType-clause-sees
unfolding look_of begins_below whole rule items statements expressions patterns types paths there_at shift passes is_silent begins in_mode from_start row one_of any_of no_longer longest is_longer
returns-in-PathType-clause-sees c d = subst (λ (e : Part). Saw d (part_begins e) c.args.p.now c.at_path.result) (sym c.in-PathType.is) (c.at_path.ensures.sees d)

pub returns-in-PathType-clause-peeks : goal.returns-in-PathType-clause-peeks
returns-in-PathType-clause-peeks c = record {
  same = search rules;
  left = omega arith;
  looks = subst (λ (e : Part). spent c.at_path.new.p ≤ spent c.args.p.now + looks_of e) (sym c.in-PathType.is) (omega (arith, c.at_path.ensures.peeks.looks));
}

pub returns-in-Pattern-clause-sees : goal.returns-in-Pattern-clause-sees
unfolding look_of begins_below whole rule items statements expressions patterns types paths there_at shift passes is_silent begins in_mode from_start row one_of any_of no_longer longest is_longer
returns-in-Pattern-clause-sees c d = subst (λ (e : Part). Saw d (part_begins e) c.args.p.now c.at_pattern.result) (sym c.in-Pattern.is) (c.at_pattern.ensures.sees d)

pub returns-in-Pattern-clause-peeks : goal.returns-in-Pattern-clause-peeks
returns-in-Pattern-clause-peeks c = record {
  same = search rules;
  left = omega arith;
  looks = subst (λ (e : Part). spent c.at_pattern.new.p ≤ spent c.args.p.now + looks_of e) (sym c.in-Pattern.is) (omega (arith, c.at_pattern.ensures.peeks.looks));
}

pub returns-in-SinglePattern-clause-sees : goal.returns-in-SinglePattern-clause-sees
unfolding look_of begins_below whole rule items statements expressions patterns types paths there_at shift passes is_silent begins in_mode from_start row one_of any_of no_longer longest is_longer
returns-in-SinglePattern-clause-sees c d = subst (λ (e : Part). Saw d (part_begins e) c.args.p.now c.at_single_pattern.result) (sym c.in-SinglePattern.is) (c.at_single_pattern.ensures.sees d)

pub returns-in-SinglePattern-clause-peeks : goal.returns-in-SinglePattern-clause-peeks
returns-in-SinglePattern-clause-peeks c = record {
  same = search rules;
  left = omega arith;
  looks = subst (λ (e : Part). spent c.at_single_pattern.new.p ≤ spent c.args.p.now + looks_of e) (sym c.in-SinglePattern.is) (omega (arith, c.at_single_pattern.ensures.peeks.looks));
}

pub returns-in-Type-clause-sees : goal.returns-in-Type-clause-sees
unfolding look_of begins_below whole rule items statements expressions patterns types paths there_at shift passes is_silent begins in_mode from_start row one_of any_of no_longer longest is_longer
returns-in-Type-clause-sees c d = subst (λ (e : Part). Saw d (part_begins e) c.args.p.now c.at_type.result) (sym c.in-Type.is) (c.at_type.ensures.sees d)

pub returns-in-Type-clause-peeks : goal.returns-in-Type-clause-peeks
returns-in-Type-clause-peeks c = record {
  same = search rules;
  left = omega arith;
  looks = subst (λ (e : Part). spent c.at_type.new.p ≤ spent c.args.p.now + looks_of e) (sym c.in-Type.is) (omega (arith, c.at_type.ensures.peeks.looks));
}

pub returns-in-TypeNoBounds-clause-sees : goal.returns-in-TypeNoBounds-clause-sees
unfolding look_of begins_below whole rule items statements expressions patterns types paths there_at shift passes is_silent begins in_mode from_start row one_of any_of no_longer longest is_longer
returns-in-TypeNoBounds-clause-sees c d = subst (λ (e : Part). Saw d (part_begins e) c.args.p.now c.at_type_no_bounds.result) (sym c.in-TypeNoBounds.is) (c.at_type_no_bounds.ensures.sees d)

pub returns-in-TypeNoBounds-clause-peeks : goal.returns-in-TypeNoBounds-clause-peeks
returns-in-TypeNoBounds-clause-peeks c = record {
  same = search rules;
  left = omega arith;
  looks = subst (λ (e : Part). spent c.at_type_no_bounds.new.p ≤ spent c.args.p.now + looks_of e) (sym c.in-TypeNoBounds.is) (omega (arith, c.at_type_no_bounds.ensures.peeks.looks));
}

pub returns-in-WhereClause-clause-sees : goal.returns-in-WhereClause-clause-sees
unfolding look_of begins_below whole rule items statements expressions patterns types paths there_at shift passes is_silent begins in_mode from_start row one_of any_of no_longer longest is_longer
returns-in-WhereClause-clause-sees c d = subst (λ (e : Part). Saw d (part_begins e) c.args.p.now c.at-in-WhereClause.result) (sym c.in-WhereClause.is) (c.at-in-WhereClause.ensures.sees d)

pub returns-in-WhereClause-clause-peeks : goal.returns-in-WhereClause-clause-peeks
returns-in-WhereClause-clause-peeks c = record {
  same = search rules;
  left = omega arith;
  looks = subst (λ (e : Part). spent c.at-in-WhereClause.new.self ≤ spent c.args.p.now + looks_of e) (sym c.in-WhereClause.is) (omega (arith, c.at-in-WhereClause.ensures.peeks.looks));
}

pub returns-in-WherePred-clause-sees : goal.returns-in-WherePred-clause-sees
unfolding look_of begins_below whole rule items statements expressions patterns types paths there_at shift passes is_silent begins in_mode from_start row one_of any_of no_longer longest is_longer
returns-in-WherePred-clause-sees c d = subst (λ (e : Part). Saw d (part_begins e) c.args.p.now c.at_where_pred.result) (sym c.in-WherePred.is) (c.at_where_pred.ensures.sees d)

pub returns-in-WherePred-clause-peeks : goal.returns-in-WherePred-clause-peeks
returns-in-WherePred-clause-peeks c = record {
  same = search rules;
  left = omega arith;
  looks = subst (λ (e : Part). spent c.at_where_pred.new.p ≤ spent c.args.p.now + looks_of e) (sym c.in-WherePred.is) (omega (arith, c.at_where_pred.ensures.peeks.looks));
}
