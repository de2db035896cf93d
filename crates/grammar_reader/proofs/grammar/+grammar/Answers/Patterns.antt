-- Patterns, arm by arm.
use Rattle.std.proofs.Common.{true, refl, subst, arith}
use Rattle.parser_input.specs.Kinds as kinds
use Rattle.rust_grammar.specs.Calls.{SinglePattern}
use Rattle.rust_grammar.specs.Notation.{◌▸◌, ◌!, next, wide}
use Rattle.rust_grammar.specs.Rule as rules
use Rattle.rust_grammar.specs.Rule.{Look, One, Kind, spelled_at}
use Rattle.rust_grammar.specs.Words.{'|', '<', 'dots'}
use Rattle.rust_grammar.specs.Expressions.{expressions}
use Rattle.rust_grammar.specs.Items.{items}
use Rattle.rust_grammar.specs.Meaning.{begins_below, look_of}
use Rattle.rust_grammar.specs.Notation.{any_of, is_longer, no_longer, longest, one_of, row}
use Rattle.rust_grammar.specs.Paths.{paths}
use Rattle.rust_grammar.specs.Patterns.{patterns, open_range_begins}
use Rattle.rust_grammar.specs.Rule.{begins, in_mode, from_start, is_silent, passes, shift, there_at}
use Rattle.rust_grammar.specs.Statements.{statements}
use Rattle.rust_grammar.specs.Types.{types}
use Rattle.rust_grammar.specs.Whole.{rule, whole}
use Rattle.grammar_reader.specs.declared.grammar.paths.Mode.TheVariants as modes
use Rattle.grammar_reader.proofs.PathArgs.{paths-begin, reads-flat}
use Rattle.rust_productions.specs.Looks.{tokens}
use Rattle.rust_productions.specs.Reads.{looks, Saw}
use Rattle.rust_productions.specs.declared.condition.Condition.{Condition}
use Rattle.rust_productions.specs.declared.condition.Condition.TheVariants.{On}
use Rattle.rust_productions.proofs.ByHand.{after-look, completes-leave, does-then, reads-call, reads-node, reads-nothing, reads-then, reads-wrap, does-nothing, reads-more, goes}
use Rattle.rust_productions.proofs.Choices.{from_start-completes, gives-from_start, reads-here, from_start-after, from_start-inside}
use Rattle.rust_productions.proofs.Facts.{begun, nothing, saw-so, ◌and◌}
use Rattle.rust_productions.proofs.Looking.{saw-arm, saw-not}
use Rattle.rust_productions.proofs.Seen.{begins-else, ends-at-end, saw-left, saw-after, saw-before, saw-inside, saw-else, saw-none}
use Rattle.rust_productions.proofs.Turns.{last-turn, next-turn}
use Rattle.grammar_reader.proofs.Parts.{reads-in-turn}
use Rattle.grammar_reader.proofs.Seeing.{gives-look}
use Rattle.grammar_reader.proofs.grammar.+grammar.Goals as goal

pub patterns::inside-returns-in-MINUS-clause-reads : goal.patterns::inside-returns-in-MINUS-clause-reads
unfolding look_of begins_below whole rule items statements expressions patterns types paths there_at shift passes is_silent begins in_mode from_start row one_of any_of no_longer longest is_longer
patterns::inside-returns-in-MINUS-clause-reads t c = λ cond. reads-here (saw-arm c.in-MINUS.is (c.current.ensures.sees cond) and nothing) (after-look cond c.current.ensures.peeks.same (c.negative.ensures.reads cond))

pub patterns::inside-returns-in-MINUS-clause-takes : goal.patterns::inside-returns-in-MINUS-clause-takes
patterns::inside-returns-in-MINUS-clause-takes t c = record {
  left = omega arith;
  looks = omega arith;
  marker = (c.negative.ensures.reads On).does.innermost _ (c.current.ensures.peeks.same.innermost _ c.requires.innermost);
}

pub patterns::inside-returns-in-UNDERSCORE-clause-reads : goal.patterns::inside-returns-in-UNDERSCORE-clause-reads
unfolding look_of begins_below whole rule items statements expressions patterns types paths there_at shift passes is_silent begins in_mode from_start row one_of any_of no_longer longest is_longer
patterns::inside-returns-in-UNDERSCORE-clause-reads t c = λ cond. reads-here (saw-arm c.in-UNDERSCORE.is (c.current.ensures.sees cond) and nothing) (after-look cond c.current.ensures.peeks.same (c.word_type.ensures.reads cond))

pub patterns::inside-returns-in-UNDERSCORE-clause-takes : goal.patterns::inside-returns-in-UNDERSCORE-clause-takes
patterns::inside-returns-in-UNDERSCORE-clause-takes t c = record {
  left = omega arith;
  looks = omega arith;
  marker = (c.word_type.ensures.reads On).does.innermost _ (c.current.ensures.peeks.same.innermost _ c.requires.innermost);
}

pub patterns::inside-returns-in-AMP-clause-reads : goal.patterns::inside-returns-in-AMP-clause-reads
unfolding look_of begins_below whole rule items statements expressions patterns types paths there_at shift passes is_silent begins in_mode from_start row one_of any_of no_longer longest is_longer
patterns::inside-returns-in-AMP-clause-reads t c = λ cond. reads-here (saw-arm c.in-AMP.is (c.current.ensures.sees cond) and nothing) (after-look cond c.current.ensures.peeks.same (c.ref_pat.ensures.reads cond))

pub patterns::inside-returns-in-AMP-clause-takes : goal.patterns::inside-returns-in-AMP-clause-takes
patterns::inside-returns-in-AMP-clause-takes t c = record {
  left = omega arith;
  looks = omega arith;
  marker = (c.ref_pat.ensures.reads On).does.innermost _ (c.current.ensures.peeks.same.innermost _ c.requires.innermost);
}

pub patterns::inside-returns-in-L_BRACK-clause-reads : goal.patterns::inside-returns-in-L_BRACK-clause-reads
unfolding look_of begins_below whole rule items statements expressions patterns types paths there_at shift passes is_silent begins in_mode from_start row one_of any_of no_longer longest is_longer
patterns::inside-returns-in-L_BRACK-clause-reads t c = λ cond. reads-here (saw-arm c.in-L_BRACK.is (c.current.ensures.sees cond) and nothing) (after-look cond c.current.ensures.peeks.same (c.list.ensures.reads cond))

pub patterns::inside-returns-in-L_BRACK-clause-takes : goal.patterns::inside-returns-in-L_BRACK-clause-takes
patterns::inside-returns-in-L_BRACK-clause-takes t c = record {
  left = omega arith;
  looks = omega arith;
  marker = (c.list.ensures.reads On).does.innermost _ (c.current.ensures.peeks.same.innermost _ c.requires.innermost);
}

pub patterns::inside-returns-in-REF_KW-clause-reads : goal.patterns::inside-returns-in-REF_KW-clause-reads
unfolding look_of begins_below whole rule items statements expressions patterns types paths there_at shift passes is_silent begins in_mode from_start row one_of any_of no_longer longest is_longer
patterns::inside-returns-in-REF_KW-clause-reads t c = λ cond. reads-here (saw-arm c.in-REF_KW.is (c.current.ensures.sees cond) and nothing) (after-look cond c.current.ensures.peeks.same (c.ident_after_ref.ensures.reads cond))

pub patterns::inside-returns-in-REF_KW-clause-takes : goal.patterns::inside-returns-in-REF_KW-clause-takes
patterns::inside-returns-in-REF_KW-clause-takes t c = record {
  left = omega arith;
  looks = omega arith;
  marker = (c.ident_after_ref.ensures.reads On).does.innermost _ (c.current.ensures.peeks.same.innermost _ c.requires.innermost);
}

pub patterns::inside-returns-in-MUT_KW-clause-reads : goal.patterns::inside-returns-in-MUT_KW-clause-reads
unfolding look_of begins_below whole rule items statements expressions patterns types paths there_at shift passes is_silent begins in_mode from_start row one_of any_of no_longer longest is_longer
patterns::inside-returns-in-MUT_KW-clause-reads t c = λ cond. reads-here (saw-arm c.in-MUT_KW.is (c.current.ensures.sees cond) and nothing) (after-look cond c.current.ensures.peeks.same (c.ident_after_mut.ensures.reads cond))

pub patterns::inside-returns-in-MUT_KW-clause-takes : goal.patterns::inside-returns-in-MUT_KW-clause-takes
patterns::inside-returns-in-MUT_KW-clause-takes t c = record {
  left = omega arith;
  looks = omega arith;
  marker = (c.ident_after_mut.ensures.reads On).does.innermost _ (c.current.ensures.peeks.same.innermost _ c.requires.innermost);
}

pub patterns::inside-returns-then-at_paren_before_dots : goal.patterns::inside-returns-then-at_paren_before_dots
unfolding look_of begins_below whole rule items statements expressions patterns types paths there_at shift passes is_silent begins in_mode from_start row one_of any_of no_longer longest is_longer
patterns::inside-returns-then-at_paren_before_dots t c = record {
  reads = λ cond. reads-here (saw-arm c.in-L_PAREN.is (c.current.ensures.sees cond) and saw-before c.current.ensures.peeks.same (saw-so (c.at_paren_before_dots.ensures.sees cond) c.if-at_paren_before_dots.true) and nothing) (after-look cond c.current.ensures.peeks.same (after-look cond c.at_paren_before_dots.ensures.peeks.same (c.list-then-at_paren_before_dots.ensures.reads cond)));
  takes = record {
    left = omega (arith, c.list-then-at_paren_before_dots.ensures.takes.left, c.at_paren_before_dots.ensures.peeks.left, c.current.ensures.peeks.left);
    looks = omega (arith, c.list-then-at_paren_before_dots.ensures.takes.looks, c.at_paren_before_dots.ensures.peeks.looks, c.current.ensures.peeks.looks);
    marker = (c.list-then-at_paren_before_dots.ensures.reads On).does.innermost _ (c.at_paren_before_dots.ensures.peeks.same.innermost _ (c.current.ensures.peeks.same.innermost _ c.requires.innermost));
  };
}

pub patterns::inside-returns-else-at_paren_before_dots : goal.patterns::inside-returns-else-at_paren_before_dots
unfolding look_of begins_below whole rule items statements expressions patterns types paths there_at shift passes is_silent begins in_mode from_start row one_of any_of no_longer longest is_longer
patterns::inside-returns-else-at_paren_before_dots t c = record {
  reads = λ cond. reads-here (saw-arm c.in-L_PAREN.is (c.current.ensures.sees cond) and saw-before c.current.ensures.peeks.same (saw-so (c.at_paren_before_dots.ensures.sees cond) c.if-at_paren_before_dots.false) and nothing) (after-look cond c.current.ensures.peeks.same (after-look cond c.at_paren_before_dots.ensures.peeks.same (c.paren_pat.ensures.reads cond)));
  takes = record {
    left = omega (arith, c.paren_pat.ensures.takes.left, c.at_paren_before_dots.ensures.peeks.left, c.current.ensures.peeks.left);
    looks = omega (arith, c.paren_pat.ensures.takes.looks, c.at_paren_before_dots.ensures.peeks.looks, c.current.ensures.peeks.looks);
    marker = c.paren_pat.ensures.takes.marker;
  };
}

pub patterns::inside-returns-then-at_ident_pat : goal.patterns::inside-returns-then-at_ident_pat
unfolding look_of begins_below whole rule items statements expressions patterns types paths there_at shift passes is_silent begins in_mode from_start row one_of any_of no_longer longest is_longer
patterns::inside-returns-then-at_ident_pat t c = record {
  reads = λ cond. reads-here (saw-before c.current.ensures.peeks.same (saw-left (saw-left (saw-so (c.at_ident_pat.ensures.sees cond) c.if-at_ident_pat.true))) and saw-not c.in_default.not-MINUS (c.current.ensures.sees cond) and saw-not c.in_default.not-UNDERSCORE (c.current.ensures.sees cond) and saw-not c.in_default.not-AMP (c.current.ensures.sees cond) and saw-not c.in_default.not-L_BRACK (c.current.ensures.sees cond) and saw-not c.in_default.not-REF_KW (c.current.ensures.sees cond) and saw-not c.in_default.not-MUT_KW (c.current.ensures.sees cond) and saw-not c.in_default.not-L_PAREN (c.current.ensures.sees cond) and saw-before c.current.ensures.peeks.same (saw-so (c.at_ident_pat.ensures.sees cond) c.if-at_ident_pat.true) and nothing) (after-look cond c.current.ensures.peeks.same (after-look cond c.at_ident_pat.ensures.peeks.same (c.ident_pat.ensures.reads cond)));
  takes = record {
    left = omega (arith, c.ident_pat.ensures.takes.left, c.at_ident_pat.ensures.peeks.left, c.current.ensures.peeks.left);
    looks = omega (arith, c.ident_pat.ensures.takes.looks, c.at_ident_pat.ensures.peeks.looks, c.current.ensures.peeks.looks);
    marker = (c.ident_pat.ensures.reads On).does.innermost _ (c.at_ident_pat.ensures.peeks.same.innermost _ (c.current.ensures.peeks.same.innermost _ c.requires.innermost));
  };
}

pub patterns::inside-returns-then-at_pair : goal.patterns::inside-returns-then-at_pair
unfolding look_of begins_below whole rule items statements expressions patterns types paths there_at shift passes is_silent begins in_mode from_start row one_of any_of no_longer longest is_longer
patterns::inside-returns-then-at_pair t c = record {
  reads = λ cond. reads-here (saw-before c.current.ensures.peeks.same (saw-before c.at_ident_pat.ensures.peeks.same (saw-left (saw-so (c.at_pair.ensures.sees cond) c.if-at_pair.true))) and saw-not c.in_default.not-MINUS (c.current.ensures.sees cond) and saw-not c.in_default.not-UNDERSCORE (c.current.ensures.sees cond) and saw-not c.in_default.not-AMP (c.current.ensures.sees cond) and saw-not c.in_default.not-L_BRACK (c.current.ensures.sees cond) and saw-not c.in_default.not-REF_KW (c.current.ensures.sees cond) and saw-not c.in_default.not-MUT_KW (c.current.ensures.sees cond) and saw-not c.in_default.not-L_PAREN (c.current.ensures.sees cond) and saw-before c.current.ensures.peeks.same (saw-so (c.at_ident_pat.ensures.sees cond) c.if-at_ident_pat.false) and saw-before c.current.ensures.peeks.same (saw-before c.at_ident_pat.ensures.peeks.same (saw-so (c.at_pair.ensures.sees cond) c.if-at_pair.true)) and nothing) (after-look cond c.current.ensures.peeks.same (after-look cond c.at_ident_pat.ensures.peeks.same (after-look cond c.at_pair.ensures.peeks.same (c.rest_pat.ensures.reads cond))));
  takes = record {
    left = omega (arith, c.rest_pat.ensures.left, c.at_pair.ensures.peeks.left, c.at_ident_pat.ensures.peeks.left, c.current.ensures.peeks.left);
    looks = omega (arith, c.rest_pat.ensures.looks, c.at_pair.ensures.peeks.looks, c.at_ident_pat.ensures.peeks.looks, c.current.ensures.peeks.looks);
    marker = (c.rest_pat.ensures.reads On).does.innermost _ (c.at_pair.ensures.peeks.same.innermost _ (c.at_ident_pat.ensures.peeks.same.innermost _ (c.current.ensures.peeks.same.innermost _ c.requires.innermost)));
  };
}

pub patterns::inside-returns-then-at_literal : goal.patterns::inside-returns-then-at_literal
unfolding look_of begins_below whole rule items statements expressions patterns types paths there_at shift passes is_silent begins in_mode from_start row one_of any_of no_longer longest is_longer
patterns::inside-returns-then-at_literal t c = record {
  reads = λ cond. reads-here (saw-not c.in_default.not-MINUS (c.current.ensures.sees cond) and saw-not c.in_default.not-UNDERSCORE (c.current.ensures.sees cond) and saw-not c.in_default.not-AMP (c.current.ensures.sees cond) and saw-not c.in_default.not-L_BRACK (c.current.ensures.sees cond) and saw-not c.in_default.not-REF_KW (c.current.ensures.sees cond) and saw-not c.in_default.not-MUT_KW (c.current.ensures.sees cond) and saw-not c.in_default.not-L_PAREN (c.current.ensures.sees cond) and saw-before c.current.ensures.peeks.same (saw-so (c.at_ident_pat.ensures.sees cond) c.if-at_ident_pat.false) and saw-before c.current.ensures.peeks.same (saw-before c.at_ident_pat.ensures.peeks.same (saw-so (c.at_pair.ensures.sees cond) c.if-at_pair.false)) and begun rules.literal (saw-before c.current.ensures.peeks.same (saw-before c.at_ident_pat.ensures.peeks.same (saw-before c.at_pair.ensures.peeks.same (saw-so (c.at_literal.ensures.sees cond) c.if-at_literal.true)))) nothing) (after-look cond c.current.ensures.peeks.same (after-look cond c.at_ident_pat.ensures.peeks.same (after-look cond c.at_pair.ensures.peeks.same (after-look cond c.at_literal.ensures.peeks.same (c.literal_pat.ensures.reads cond)))));
  takes = record {
    left = omega (arith, c.literal_pat.ensures.left, c.at_literal.ensures.peeks.left, c.at_pair.ensures.peeks.left, c.at_ident_pat.ensures.peeks.left, c.current.ensures.peeks.left);
    looks = omega (arith, c.literal_pat.ensures.looks, c.at_literal.ensures.peeks.looks, c.at_pair.ensures.peeks.looks, c.at_ident_pat.ensures.peeks.looks, c.current.ensures.peeks.looks);
    marker = (c.literal_pat.ensures.reads On).does.innermost _ (c.at_literal.ensures.peeks.same.innermost _ (c.at_pair.ensures.peeks.same.innermost _ (c.at_ident_pat.ensures.peeks.same.innermost _ (c.current.ensures.peeks.same.innermost _ c.requires.innermost))));
  };
}

pub patterns::inside-returns-else-at_literal : goal.patterns::inside-returns-else-at_literal
unfolding look_of begins_below whole rule items statements expressions patterns types paths there_at shift passes is_silent begins in_mode from_start row one_of any_of no_longer longest is_longer
patterns::inside-returns-else-at_literal t c = record {
  reads = λ cond. reads-here (saw-not c.in_default.not-L_ANGLE (c.current.ensures.sees cond) and saw-not c.in_default.not-MINUS (c.current.ensures.sees cond) and saw-not c.in_default.not-UNDERSCORE (c.current.ensures.sees cond) and saw-not c.in_default.not-AMP (c.current.ensures.sees cond) and saw-not c.in_default.not-L_BRACK (c.current.ensures.sees cond) and saw-not c.in_default.not-REF_KW (c.current.ensures.sees cond) and saw-not c.in_default.not-MUT_KW (c.current.ensures.sees cond) and saw-not c.in_default.not-L_PAREN (c.current.ensures.sees cond) and saw-before c.current.ensures.peeks.same (saw-so (c.at_ident_pat.ensures.sees cond) c.if-at_ident_pat.false) and saw-before c.current.ensures.peeks.same (saw-before c.at_ident_pat.ensures.peeks.same (saw-so (c.at_pair.ensures.sees cond) c.if-at_pair.false)) and begun rules.literal (saw-before c.current.ensures.peeks.same (saw-before c.at_ident_pat.ensures.peeks.same (saw-before c.at_pair.ensures.peeks.same (saw-so (c.at_literal.ensures.sees cond) c.if-at_literal.false)))) nothing) (after-look cond c.current.ensures.peeks.same (after-look cond c.at_ident_pat.ensures.peeks.same (after-look cond c.at_pair.ensures.peeks.same (after-look cond c.at_literal.ensures.peeks.same (c.path_pat.ensures.reads cond)))));
  takes = record {
    left = omega (arith, c.path_pat.ensures.takes.left, c.at_literal.ensures.peeks.left, c.at_pair.ensures.peeks.left, c.at_ident_pat.ensures.peeks.left, c.current.ensures.peeks.left);
    looks = omega (arith, c.path_pat.ensures.takes.looks, c.at_literal.ensures.peeks.looks, c.at_pair.ensures.peeks.looks, c.at_ident_pat.ensures.peeks.looks, c.current.ensures.peeks.looks);
    marker = c.path_pat.ensures.takes.marker;
  };
}

pub patterns::inside-path_pat-requires : goal.patterns::inside-path_pat-requires
unfolding look_of begins_below whole rule items statements expressions patterns types paths there_at shift passes is_silent begins in_mode from_start row one_of any_of no_longer longest is_longer
patterns::inside-path_pat-requires t c =
    let seen : (cond : Condition) → Saw cond (looks rules.expr_path) c.args.p.now true = λ cond. begins-else rules.expr_path rules.pattern_atom refl (saw-not c.in_default.not-L_ANGLE (c.current.ensures.sees cond) and saw-not c.in_default.not-MINUS (c.current.ensures.sees cond) and saw-not c.in_default.not-UNDERSCORE (c.current.ensures.sees cond) and saw-not c.in_default.not-AMP (c.current.ensures.sees cond) and saw-not c.in_default.not-L_BRACK (c.current.ensures.sees cond) and saw-not c.in_default.not-REF_KW (c.current.ensures.sees cond) and saw-not c.in_default.not-MUT_KW (c.current.ensures.sees cond) and saw-not c.in_default.not-L_PAREN (c.current.ensures.sees cond) and saw-before c.current.ensures.peeks.same (saw-so (c.at_ident_pat.ensures.sees cond) c.if-at_ident_pat.false) and saw-before c.current.ensures.peeks.same (saw-before c.at_ident_pat.ensures.peeks.same (saw-so (c.at_pair.ensures.sees cond) c.if-at_pair.false)) and begun rules.literal (saw-before c.current.ensures.peeks.same (saw-before c.at_ident_pat.ensures.peeks.same (saw-before c.at_pair.ensures.peeks.same (saw-so (c.at_literal.ensures.sees cond) c.if-at_literal.false)))) nothing) (c.requires.begins.sees cond) refl in
    let path : (cond : Condition) → Saw cond (looks rules.path) c.args.p.now true = λ cond. subst (λ (l : Look). Saw cond l c.args.p.now true) (paths-begin modes.Expr) (seen cond) in (
      omega arith,
      (
        record { sees = λ d. saw-after c.at_literal.ensures.peeks.same (saw-after c.at_pair.ensures.peeks.same (saw-after c.at_ident_pat.ensures.peeks.same (saw-after c.current.ensures.peeks.same (path d)))); some = omega arith },
        c.at_literal.ensures.peeks.same.innermost _ (c.at_pair.ensures.peeks.same.innermost _ (c.at_ident_pat.ensures.peeks.same.innermost _ (c.current.ensures.peeks.same.innermost _ c.requires.innermost))),
      ),
    )

pub patterns::ref_pat-complete-requires : goal.patterns::ref_pat-complete-requires
patterns::ref_pat-complete-requires t c = ((c.expect_part.ensures.reads On).does.innermost _ ((c.eat.ensures.reads On).does.innermost _ ((c.take.ensures.reads On).does.innermost _ c.start-node.ensures.marker)))

pub patterns::ref_pat-returns-clause-reads : goal.patterns::ref_pat-returns-clause-reads
patterns::ref_pat-returns-clause-reads t c = λ cond. reads-node cond c.start-node.ensures.opens (reads-then cond (c.take.ensures.reads cond) (reads-then cond (c.eat.ensures.reads cond) (c.expect_part.ensures.reads cond))) c.complete.ensures.closes

pub patterns::ident_pat-complete-requires : goal.patterns::ident_pat-complete-requires
patterns::ident_pat-complete-requires t c = ((c.opt_at.ensures.reads On).does.innermost _ ((c.name.ensures.gives On).does.innermost _ c.start-node.ensures.marker))

pub patterns::ident_pat-returns-clause-reads : goal.patterns::ident_pat-returns-clause-reads
patterns::ident_pat-returns-clause-reads t c = λ cond. reads-node cond c.start-node.ensures.opens (reads-then cond (reads-call cond (c.name.ensures.gives cond)) (c.opt_at.ensures.reads cond)) c.complete.ensures.closes

pub patterns::ident_after_mut-complete-requires : goal.patterns::ident_after_mut-complete-requires
patterns::ident_after_mut-complete-requires t c = ((c.opt_at.ensures.reads On).does.innermost _ ((c.expect_name.ensures.reads On).does.innermost _ ((c.take.ensures.reads On).does.innermost _ c.start-node.ensures.marker)))

pub patterns::ident_after_mut-returns-clause-reads : goal.patterns::ident_after_mut-returns-clause-reads
patterns::ident_after_mut-returns-clause-reads t c = λ cond. reads-node cond c.start-node.ensures.opens (reads-then cond (c.take.ensures.reads cond) (reads-then cond (c.expect_name.ensures.reads cond) (c.opt_at.ensures.reads cond))) c.complete.ensures.closes

pub patterns::ident_after_ref-complete-requires : goal.patterns::ident_after_ref-complete-requires
patterns::ident_after_ref-complete-requires t c = ((c.opt_at.ensures.reads On).does.innermost _ ((c.expect_name.ensures.reads On).does.innermost _ ((c.eat.ensures.reads On).does.innermost _ ((c.take.ensures.reads On).does.innermost _ c.start-node.ensures.marker))))

pub patterns::ident_after_ref-returns-clause-reads : goal.patterns::ident_after_ref-returns-clause-reads
patterns::ident_after_ref-returns-clause-reads t c = λ cond. reads-node cond c.start-node.ensures.opens (reads-then cond (c.take.ensures.reads cond) (reads-then cond (c.eat.ensures.reads cond) (reads-then cond (c.expect_name.ensures.reads cond) (c.opt_at.ensures.reads cond)))) c.complete.ensures.closes

pub patterns::opt_at-returns-then-at-clause-reads : goal.patterns::opt_at-returns-then-at-clause-reads
unfolding look_of begins_below whole rule items statements expressions patterns types paths there_at shift passes is_silent begins in_mode from_start row one_of any_of no_longer longest is_longer
patterns::opt_at-returns-then-at-clause-reads t c = λ cond. reads-here (saw-so (c.at.ensures.sees cond) c.if-at.true and nothing) (after-look cond c.at.ensures.peeks.same (reads-then cond (c.take.ensures.reads cond) (c.expect_part.ensures.reads cond)))

pub patterns::opt_at-returns-else-at-clause-reads : goal.patterns::opt_at-returns-else-at-clause-reads
unfolding look_of begins_below whole rule items statements expressions patterns types paths there_at shift passes is_silent begins in_mode from_start row one_of any_of no_longer longest is_longer
patterns::opt_at-returns-else-at-clause-reads t c = λ cond. reads-here (saw-so (c.at.ensures.sees cond) c.if-at.false and nothing) (reads-nothing cond c.at.ensures.peeks.same)

pub patterns::paren_pat-after_paren-requires : goal.patterns::paren_pat-after_paren-requires
patterns::paren_pat-after_paren-requires t c = (omega arith, (c.take.ensures.reads On).does.innermost _ c.requires.innermost)

pub patterns::paren_pat-returns-clause-reads : goal.patterns::paren_pat-returns-clause-reads
patterns::paren_pat-returns-clause-reads t c = λ cond. reads-then cond (c.take.ensures.reads cond) (c.after_paren.ensures.reads cond)

pub patterns::after_paren-wrap-requires : goal.patterns::after_paren-wrap-requires
patterns::after_paren-wrap-requires t c = (c.take.ensures.reads On).does.innermost _ (c.at.ensures.peeks.same.innermost _ c.requires.innermost)

pub patterns::after_paren-tuple_tail-requires : goal.patterns::after_paren-tuple_tail-requires
patterns::after_paren-tuple_tail-requires t c = (omega arith, (c.expect_part.ensures.reads On).does.innermost _ (c.at.ensures.peeks.same.innermost _ c.requires.innermost))

pub patterns::after_paren-returns-then-at-clause-reads : goal.patterns::after_paren-returns-then-at-clause-reads
unfolding look_of begins_below whole rule items statements expressions patterns types paths there_at shift passes is_silent begins in_mode from_start row one_of any_of no_longer longest is_longer
patterns::after_paren-returns-then-at-clause-reads t c = λ cond. reads-here (saw-so (c.at.ensures.sees cond) c.if-at.true and nothing) (after-look cond c.at.ensures.peeks.same (reads-wrap cond (c.take.ensures.reads cond) c.wrap.ensures.wraps))

pub patterns::after_paren-returns-clause-reads : goal.patterns::after_paren-returns-clause-reads
unfolding look_of begins_below whole rule items statements expressions patterns types paths there_at shift passes is_silent begins in_mode from_start row one_of any_of no_longer longest is_longer
patterns::after_paren-returns-clause-reads t c = λ cond. reads-here (saw-so (c.at.ensures.sees cond) c.if-at.false and nothing) (after-look cond c.at.ensures.peeks.same (reads-then cond (c.expect_part.ensures.reads cond) (c.tuple_tail.ensures.reads cond)))

pub patterns::path_pat-path_with_args-requires : goal.patterns::path_pat-path_with_args-requires
patterns::path_pat-path_with_args-requires t c = (omega arith, (c.requires.begins.sees, c.requires.begins.some))

pub patterns::path_pat-after_path-requires : goal.patterns::path_pat-after_path-requires
patterns::path_pat-after_path-requires t c = (omega arith, (c.path_with_args.ensures.gives On).does.innermost _ c.requires.innermost)

pub patterns::path_pat-returns-clause-reads : goal.patterns::path_pat-returns-clause-reads
patterns::path_pat-returns-clause-reads t c = λ cond. reads-then cond (reads-call cond (c.path_with_args.ensures.gives cond)) (c.after_path.ensures.reads cond)

pub or_patterns::pattern-alternatives-frame-requires : goal.or_patterns::pattern-alternatives-frame-requires
or_patterns::pattern-alternatives-frame-requires t c = (omega arith, (record { sees = λ d. saw-inside c.start-frame.ensures.opens (c.requires.begins d); some = omega arith }, c.start-frame.ensures.marker))

pub or_patterns::pattern-returns-clause-gives : goal.or_patterns::pattern-returns-clause-gives
or_patterns::pattern-returns-clause-gives t c = λ cond. gives-from_start (from_start-completes c.start-frame.ensures.opens (completes-leave (c.alternatives-frame.ensures.reads cond) c.abandon.ensures.leaves))

pub or_patterns::alternatives-wrap-requires : goal.or_patterns::alternatives-wrap-requires
or_patterns::alternatives-wrap-requires t c = (c.further.ensures.reads On).does.innermost _ ((c.expect_part.ensures.reads On).does.innermost _ ((c.take.ensures.reads On).does.innermost _ (c.at.ensures.peeks.same.innermost _ c.requires.innermost)))

pub or_patterns::alternatives-single_pattern-requires : goal.or_patterns::alternatives-single_pattern-requires
unfolding look_of begins_below whole rule items statements expressions patterns types paths there_at shift passes is_silent begins in_mode from_start row one_of any_of no_longer longest is_longer
or_patterns::alternatives-single_pattern-requires t c = (omega arith, ((λ d. saw-after c.at.ensures.peeks.same (begins-else rules.single_pattern rules.pattern refl (saw-so (c.at.ensures.sees d) c.if-at.false and nothing) (c.requires.begins.sees d) refl)), omega arith))

pub or_patterns::alternatives-opt_further-requires : goal.or_patterns::alternatives-opt_further-requires
or_patterns::alternatives-opt_further-requires t c = (omega arith, (c.single_pattern.ensures.gives On).does.innermost _ (c.at.ensures.peeks.same.innermost _ c.requires.innermost))

pub or_patterns::alternatives-returns-then-at-clause-reads : goal.or_patterns::alternatives-returns-then-at-clause-reads
unfolding look_of begins_below whole rule items statements expressions patterns types paths there_at shift passes is_silent begins in_mode from_start row one_of any_of no_longer longest is_longer
or_patterns::alternatives-returns-then-at-clause-reads t c = λ cond. reads-here (saw-so (c.at.ensures.sees cond) c.if-at.true and nothing) (after-look cond c.at.ensures.peeks.same (reads-then cond (c.take.ensures.reads cond) (reads-then cond (c.expect_part.ensures.reads cond) (reads-wrap cond (c.further.ensures.reads cond) c.wrap.ensures.wraps))))

pub or_patterns::alternatives-returns-clause-reads : goal.or_patterns::alternatives-returns-clause-reads
unfolding look_of begins_below whole rule items statements expressions patterns types paths there_at shift passes is_silent begins in_mode from_start row one_of any_of no_longer longest is_longer
or_patterns::alternatives-returns-clause-reads t c = λ cond. reads-here (saw-so (c.at.ensures.sees cond) c.if-at.false and nothing) (after-look cond c.at.ensures.peeks.same (reads-then cond (reads-call cond (c.single_pattern.ensures.gives cond)) (c.opt_further.ensures.reads cond)))

pub or_patterns::one_further-returns-clause-reads : goal.or_patterns::one_further-returns-clause-reads
or_patterns::one_further-returns-clause-reads t c = λ cond. reads-then cond (c.take.ensures.reads cond) (c.expect_part.ensures.reads cond)

pub or_patterns::further-turns-preserved : goal.or_patterns::further-turns-preserved
unfolding tokens look_of begins_below whole rule items statements expressions patterns types paths there_at shift passes is_silent begins in_mode from_start row one_of any_of no_longer longest is_longer
or_patterns::further-turns-preserved t c = record {
  goes = λ cond.
      next-turn cond (One '|' ▸ SinglePattern !) (ends-at-end cond (One '|' ▸ SinglePattern !) refl) _ _ _ (c.turns.invariant.goes cond) (saw-so (c.at.ensures.sees cond) c.turns-test.true)
      (after-look cond c.at.ensures.peeks.same (c.one_further.ensures.reads cond)) (omega (arith, c.one_further.ensures.takes.left, c.at.ensures.peeks.left));
  left = omega (arith, c.turns.invariant.left, c.one_further.ensures.takes.left, c.at.ensures.peeks.left);
  looks = omega (arith, c.turns.invariant.looks, c.one_further.ensures.takes.looks, c.at.ensures.peeks.looks);
}

pub or_patterns::further-returns-clause-reads : goal.or_patterns::further-returns-clause-reads
unfolding look_of begins_below whole rule items statements expressions patterns types paths there_at shift passes is_silent begins in_mode from_start row one_of any_of no_longer longest is_longer
or_patterns::further-returns-clause-reads t c = λ cond. last-turn cond (One '|' ▸ SinglePattern !) (ends-at-end cond (One '|' ▸ SinglePattern !) refl) _ _ _ (c.turns.invariant.goes cond) (saw-so (c.at.ensures.sees cond) c.turns-test.false) c.at.ensures.peeks.same

pub or_patterns::opt_further-wrap-requires : goal.or_patterns::opt_further-wrap-requires
or_patterns::opt_further-wrap-requires t c = (c.further.ensures.reads On).does.innermost _ ((c.one_further.ensures.reads On).does.innermost _ (c.at.ensures.peeks.same.innermost _ c.requires.innermost))

pub or_patterns::opt_further-returns-then-at-clause-reads : goal.or_patterns::opt_further-returns-then-at-clause-reads
unfolding look_of begins_below whole rule items statements expressions patterns types paths there_at shift passes is_silent begins in_mode from_start row one_of any_of no_longer longest is_longer
or_patterns::opt_further-returns-then-at-clause-reads t c = λ cond. reads-here (saw-so (c.at.ensures.sees cond) c.if-at.true and nothing) (after-look cond c.at.ensures.peeks.same (reads-wrap cond (reads-flat (reads-then cond (c.one_further.ensures.reads cond) (c.further.ensures.reads cond))) c.wrap.ensures.wraps))

pub or_patterns::opt_further-returns-clause-reads : goal.or_patterns::opt_further-returns-clause-reads
unfolding look_of begins_below whole rule items statements expressions patterns types paths there_at shift passes is_silent begins in_mode from_start row one_of any_of no_longer longest is_longer
or_patterns::opt_further-returns-clause-reads t c = λ cond. reads-here (saw-so (c.at.ensures.sees cond) c.if-at.false and nothing) (reads-nothing cond c.at.ensures.peeks.same)

pub patterns::single_pattern-range_or_atom-frame-requires : goal.patterns::single_pattern-range_or_atom-frame-requires
patterns::single_pattern-range_or_atom-frame-requires t c = (omega arith, (record { sees = λ d. saw-inside c.start-frame.ensures.opens (c.requires.begins d); some = omega arith }, c.start-frame.ensures.marker))

pub patterns::single_pattern-returns-clause-gives : goal.patterns::single_pattern-returns-clause-gives
patterns::single_pattern-returns-clause-gives t c = λ cond. gives-from_start (from_start-completes c.start-frame.ensures.opens (completes-leave (c.range_or_atom-frame.ensures.reads cond) c.abandon.ensures.leaves))

pub patterns::inside-qualified_pat-requires : goal.patterns::inside-qualified_pat-requires
patterns::inside-qualified_pat-requires t c = (omega arith, (omega (arith, c.requires.begins.some, c.current.ensures.peeks.left), c.current.ensures.peeks.same.innermost _ c.requires.innermost))

pub patterns::inside-returns-in-L_ANGLE-clause-reads : goal.patterns::inside-returns-in-L_ANGLE-clause-reads
unfolding look_of begins_below whole rule items statements expressions patterns types paths there_at shift passes is_silent begins in_mode from_start row one_of any_of no_longer longest is_longer
patterns::inside-returns-in-L_ANGLE-clause-reads t c = λ cond. reads-here (saw-arm c.in-L_ANGLE.is (c.current.ensures.sees cond) and saw-else (wide (next '<')) (looks rules.pattern_atom) (saw-arm c.in-L_ANGLE.is (c.current.ensures.sees cond) and nothing) (c.requires.begins.sees cond) refl and nothing) (after-look cond c.current.ensures.peeks.same (reads-in-turn cond (c.qualified_pat.ensures.reads cond)))

pub patterns::inside-returns-in-L_ANGLE-clause-takes : goal.patterns::inside-returns-in-L_ANGLE-clause-takes
patterns::inside-returns-in-L_ANGLE-clause-takes t c = record {
  left = omega (arith, c.qualified_pat.ensures.takes.left, c.current.ensures.peeks.left);
  looks = omega (arith, c.qualified_pat.ensures.takes.looks, c.current.ensures.peeks.looks);
  marker = c.qualified_pat.ensures.takes.marker;
}

pub patterns::qualified_pat-returns-clause-reads : goal.patterns::qualified_pat-returns-clause-reads
patterns::qualified_pat-returns-clause-reads t c = λ cond. reads-then cond (c.qualified_path-frame.ensures.reads cond) (c.after_path.ensures.reads cond)

pub patterns::qualified_pat-qualified_path-frame-requires : goal.patterns::qualified_pat-qualified_path-frame-requires
patterns::qualified_pat-qualified_path-frame-requires t c = (omega arith, (c.requires.innermost, omega (arith, c.requires.some)))

pub patterns::qualified_pat-after_path-requires : goal.patterns::qualified_pat-after_path-requires
patterns::qualified_pat-after_path-requires t c = (omega arith, c.qualified_path-frame.ensures.takes.marker)

pub patterns::after_path-returns-then-at-clause-reads : goal.patterns::after_path-returns-then-at-clause-reads
unfolding look_of begins_below whole rule items statements expressions patterns types paths there_at shift passes is_silent begins in_mode from_start row one_of any_of no_longer longest is_longer
patterns::after_path-returns-then-at-clause-reads t c = λ cond. reads-here (saw-so (c.at.ensures.sees cond) c.if-at.true and nothing) (after-look cond c.at.ensures.peeks.same (reads-wrap cond (reads-then cond (c.take.ensures.reads cond) (c.rest_of_list.ensures.reads cond)) c.wrap.ensures.wraps))

pub patterns::after_path-returns-then-at-2-clause-reads : goal.patterns::after_path-returns-then-at-2-clause-reads
unfolding look_of begins_below whole rule items statements expressions patterns types paths there_at shift passes is_silent begins in_mode from_start row one_of any_of no_longer longest is_longer
patterns::after_path-returns-then-at-2-clause-reads t c = λ cond. reads-here (saw-so (c.at.ensures.sees cond) c.if-at.false and saw-before c.at.ensures.peeks.same (saw-so (c.at-2.ensures.sees cond) c.if-at-2.true) and nothing) (after-look cond c.at.ensures.peeks.same (after-look cond c.at-2.ensures.peeks.same (reads-wrap cond (reads-call cond (gives-from_start (from_start-after refl (c.list.ensures.reads cond)))) c.wrap-then-at-2.ensures.wraps)))

pub patterns::after_path-returns-then-at_new-clause-reads : goal.patterns::after_path-returns-then-at_new-clause-reads
unfolding look_of begins_below whole rule items statements expressions patterns types paths there_at shift passes is_silent begins in_mode from_start row one_of any_of no_longer longest is_longer
patterns::after_path-returns-then-at_new-clause-reads t c = λ cond. reads-here (saw-so (c.at.ensures.sees cond) c.if-at.false and saw-before c.at.ensures.peeks.same (saw-so (c.at-2.ensures.sees cond) c.if-at-2.false) and saw-before c.at.ensures.peeks.same (saw-before c.at-2.ensures.peeks.same (saw-so (c.at_new.ensures.sees cond) c.if-at_new.true)) and nothing) (after-look cond c.at.ensures.peeks.same (after-look cond c.at-2.ensures.peeks.same (after-look cond c.at_new.ensures.peeks.same (reads-wrap cond (reads-then cond (c.take-then-at_new.ensures.reads cond) (c.expect_token_tree.ensures.reads cond)) c.wrap-then-at_new.ensures.wraps))))

pub patterns::after_path-returns-clause-reads : goal.patterns::after_path-returns-clause-reads
unfolding look_of begins_below whole rule items statements expressions patterns types paths there_at shift passes is_silent begins in_mode from_start row one_of any_of no_longer longest is_longer
patterns::after_path-returns-clause-reads t c = λ cond. reads-here (saw-so (c.at.ensures.sees cond) c.if-at.false and saw-before c.at.ensures.peeks.same (saw-so (c.at-2.ensures.sees cond) c.if-at-2.false) and saw-before c.at.ensures.peeks.same (saw-before c.at-2.ensures.peeks.same (saw-so (c.at_new.ensures.sees cond) c.if-at_new.false)) and nothing) (after-look cond c.at.ensures.peeks.same (after-look cond c.at-2.ensures.peeks.same (after-look cond c.at_new.ensures.peeks.same (reads-wrap cond (reads-nothing cond (does-nothing _)) c.wrap-2.ensures.wraps))))

pub patterns::after_path-wrap-requires : goal.patterns::after_path-wrap-requires
patterns::after_path-wrap-requires t c = (c.rest_of_list.ensures.reads On).does.innermost _ ((c.take.ensures.reads On).does.innermost _ (c.at.ensures.peeks.same.innermost _ (c.requires.innermost)))

pub patterns::after_path-wrap-requires-then-at-2 : goal.patterns::after_path-wrap-requires-then-at-2
patterns::after_path-wrap-requires-then-at-2 t c = (c.list.ensures.reads On).does.innermost _ (c.at-2.ensures.peeks.same.innermost _ (c.at.ensures.peeks.same.innermost _ (c.requires.innermost)))

pub patterns::after_path-wrap-requires-then-at_new : goal.patterns::after_path-wrap-requires-then-at_new
patterns::after_path-wrap-requires-then-at_new t c = (c.expect_token_tree.ensures.reads On).does.innermost _ ((c.take-then-at_new.ensures.reads On).does.innermost _ (c.at_new.ensures.peeks.same.innermost _ (c.at-2.ensures.peeks.same.innermost _ (c.at.ensures.peeks.same.innermost _ (c.requires.innermost)))))

pub patterns::after_path-wrap-requires-2 : goal.patterns::after_path-wrap-requires-2
patterns::after_path-wrap-requires-2 t c = c.at_new.ensures.peeks.same.innermost _ (c.at-2.ensures.peeks.same.innermost _ (c.at.ensures.peeks.same.innermost _ (c.requires.innermost)))

pub patterns::single_or_missing-returns-then-at_single_pattern-clause-gives : goal.patterns::single_or_missing-returns-then-at_single_pattern-clause-gives
patterns::single_or_missing-returns-then-at_single_pattern-clause-gives t c = λ cond. gives-look c.at_single_pattern.ensures.peeks.same (c.single_pattern.ensures.gives cond)

pub patterns::single_or_missing-returns-clause-gives : goal.patterns::single_or_missing-returns-clause-gives
patterns::single_or_missing-returns-clause-gives t c = λ cond. gives-look c.at_single_pattern.ensures.peeks.same (c.missing_single.ensures.gives cond)

pub patterns::single_or_missing-single_pattern-requires : goal.patterns::single_or_missing-single_pattern-requires
patterns::single_or_missing-single_pattern-requires t c = (omega arith, ((λ d. saw-after c.at_single_pattern.ensures.peeks.same (saw-so (c.at_single_pattern.ensures.sees d) c.if-at_single_pattern.true)), omega (arith, c.at_single_pattern.ensures.some c.if-at_single_pattern.true, c.at_single_pattern.ensures.peeks.left)))

pub patterns::single_or_missing-missing_single-requires : goal.patterns::single_or_missing-missing_single-requires
patterns::single_or_missing-missing_single-requires t c = (omega arith, λ d. saw-after c.at_single_pattern.ensures.peeks.same (saw-so (c.at_single_pattern.ensures.sees d) c.if-at_single_pattern.false))

pub patterns::missing_single-after_path-frame-requires : goal.patterns::missing_single-after_path-frame-requires
patterns::missing_single-after_path-frame-requires t c = (omega arith, (c.missing_expr_path.ensures.gives On).does.innermost _ c.start-frame.ensures.marker)

pub patterns::missing_single-opt_range-frame-requires : goal.patterns::missing_single-opt_range-frame-requires
patterns::missing_single-opt_range-frame-requires t c = (omega arith, c.after_path-frame.ensures.asks.marker)

pub or_patterns::pattern_or_missing-returns-then-at_pattern-clause-gives : goal.or_patterns::pattern_or_missing-returns-then-at_pattern-clause-gives
or_patterns::pattern_or_missing-returns-then-at_pattern-clause-gives t c = λ cond. gives-look c.at_pattern.ensures.peeks.same (c.pattern.ensures.gives cond)

pub or_patterns::pattern_or_missing-pattern-requires : goal.or_patterns::pattern_or_missing-pattern-requires
or_patterns::pattern_or_missing-pattern-requires t c = (omega arith, (λ d. saw-after c.at_pattern.ensures.peeks.same (saw-so (c.at_pattern.ensures.sees d) c.if-at_pattern.true), omega (arith, c.at_pattern.ensures.some c.if-at_pattern.true, c.at_pattern.ensures.peeks.left)))

pub or_patterns::pattern_or_missing-opt_further-frame-requires : goal.or_patterns::pattern_or_missing-opt_further-frame-requires
or_patterns::pattern_or_missing-opt_further-frame-requires t c = (omega arith, (c.single_or_missing.ensures.gives On).does.innermost _ c.start-frame.ensures.marker)

pub patterns::missing_single-returns-clause-gives : goal.patterns::missing_single-returns-clause-gives
unfolding look_of begins_below whole rule items statements expressions patterns types paths there_at shift passes is_silent begins in_mode from_start row one_of any_of no_longer longest is_longer
patterns::missing_single-returns-clause-gives t c = λ cond. gives-from_start (from_start-inside c.start-frame.ensures.opens (reads-here (saw-none (wide open_range_begins) (looks rules.single_pattern) nothing (saw-inside c.start-frame.ensures.opens (c.requires.none cond)) refl and nothing) (reads-then cond (reads-more cond (goes rules.pattern_atom cond (reads-here (begun rules.literal (saw-none (looks rules.literal) (looks rules.single_pattern) nothing (saw-inside c.start-frame.ensures.opens (c.requires.none cond)) refl) (saw-none (Kind 0 kinds.MINUS) (looks rules.single_pattern) nothing (saw-inside c.start-frame.ensures.opens (c.requires.none cond)) refl and saw-none (Kind 0 kinds.UNDERSCORE) (looks rules.single_pattern) nothing (saw-inside c.start-frame.ensures.opens (c.requires.none cond)) refl and saw-none (Kind 0 kinds.AMP) (looks rules.single_pattern) nothing (saw-inside c.start-frame.ensures.opens (c.requires.none cond)) refl and saw-none (Kind 0 kinds.L_PAREN) (looks rules.single_pattern) nothing (saw-inside c.start-frame.ensures.opens (c.requires.none cond)) refl and saw-none (Kind 0 kinds.L_BRACK) (looks rules.single_pattern) nothing (saw-inside c.start-frame.ensures.opens (c.requires.none cond)) refl and saw-none (Kind 0 kinds.REF_KW) (looks rules.single_pattern) nothing (saw-inside c.start-frame.ensures.opens (c.requires.none cond)) refl and saw-none (Kind 0 kinds.MUT_KW) (looks rules.single_pattern) nothing (saw-inside c.start-frame.ensures.opens (c.requires.none cond)) refl and saw-none (Kind 0 kinds.IDENT) (looks rules.single_pattern) nothing (saw-inside c.start-frame.ensures.opens (c.requires.none cond)) refl and saw-none (spelled_at 0 'dots') (looks rules.single_pattern) nothing (saw-inside c.start-frame.ensures.opens (c.requires.none cond)) refl and saw-none (wide (next '<')) (looks rules.single_pattern) nothing (saw-inside c.start-frame.ensures.opens (c.requires.none cond)) refl and nothing)) (reads-then cond (reads-call cond (c.missing_expr_path.ensures.gives cond)) (c.after_path-frame.ensures.reads cond))))) (c.opt_range-frame.ensures.reads cond))) c.abandon.ensures.leaves)

pub or_patterns::pattern_or_missing-returns-clause-gives : goal.or_patterns::pattern_or_missing-returns-clause-gives
unfolding look_of begins_below whole rule items statements expressions patterns types paths there_at shift passes is_silent begins in_mode from_start row one_of any_of no_longer longest is_longer
or_patterns::pattern_or_missing-returns-clause-gives t c = λ cond. gives-look c.at_pattern.ensures.peeks.same (gives-from_start (from_start-inside c.start-frame.ensures.opens (reads-here (saw-none (Kind 0 kinds.PIPE) (looks rules.pattern) nothing (saw-inside c.start-frame.ensures.opens (saw-after c.at_pattern.ensures.peeks.same (saw-so (c.at_pattern.ensures.sees cond) c.if-at_pattern.false))) refl and nothing) (reads-then cond (reads-call cond (c.single_or_missing.ensures.gives cond)) (c.opt_further-frame.ensures.reads cond))) c.abandon.ensures.leaves))

pub patterns::missing_single-missing_expr_path-requires : goal.patterns::missing_single-missing_expr_path-requires
unfolding look_of begins_below whole rule items statements expressions patterns types paths there_at shift passes is_silent begins in_mode from_start row one_of any_of no_longer longest is_longer
patterns::missing_single-missing_expr_path-requires t c = record { none = λ d. saw-inside c.start-frame.ensures.opens (saw-none (looks rules.path) (looks rules.single_pattern) nothing (c.requires.none d) refl) }
