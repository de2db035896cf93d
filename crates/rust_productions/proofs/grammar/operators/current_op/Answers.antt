-- Each kind of the next token tells the operators that begin with it.
use Rattle.std.proofs.Common.{true, [], ◌∷◌, refl, arith}
use Rattle.parser_input.specs.Kind.{raw_of}
use Rattle.parser_input.specs.declared.syntax_kind.SyntaxKind.TheVariants as variants
use Rattle.rust_grammar.specs.Expressions.{expressions}
use Rattle.rust_grammar.specs.Items.{items}
use Rattle.rust_grammar.specs.Meaning.{begins_below, look_of}
use Rattle.rust_grammar.specs.Notation.{any_of, is_longer, no_longer, longest, one_of, row}
use Rattle.rust_grammar.specs.Paths.{paths}
use Rattle.rust_grammar.specs.Patterns.{patterns}
use Rattle.rust_grammar.specs.Rule.{Both, Joint, Kind, begins, in_mode, from_start, is_silent, passes, shift, there_at}
use Rattle.rust_grammar.specs.Statements.{statements}
use Rattle.rust_grammar.specs.Types.{types}
use Rattle.rust_grammar.specs.Whole.{rule, whole}
use Rattle.rust_productions.specs.Layers.{operators, operators_at}
use Rattle.rust_productions.proofs.Facts.{Answers, nothing, saw-so, ◌and◌}
use Rattle.rust_productions.proofs.Looking.{saw-arm, saw-not}
use Rattle.rust_productions.proofs.Operators.{assigned-next, next-before, no-end, none-next, operator-next, some-arm}
use Rattle.rust_productions.proofs.Seen.{saw-after, saw-before}
use Rattle.rust_productions.proofs.Peeking.{peeks-then, peeks-within}
use Rattle.rust_productions.proofs.grammar.operators.current_op.Goals as goal

pub after_ampersand-requires-clause-first : goal.after_ampersand-requires-clause-first
after_ampersand-requires-clause-first c = λ d. saw-after c.current.ensures.peeks.same (saw-arm c.in-AMP.is (c.current.ensures.sees d))

pub after_ampersand-requires-clause-some : goal.after_ampersand-requires-clause-some
after_ampersand-requires-clause-some c = omega (arith, c.current.ensures.peeks.left, some-arm c.in-AMP.is refl c.current.ensures.some)

pub returns-in-AMP-clause-next : goal.returns-in-AMP-clause-next
returns-in-AMP-clause-next c = next-before c.current.ensures.peeks.same c.after_ampersand.ensures.next

pub returns-in-AMP-clause-peeks : goal.returns-in-AMP-clause-peeks
returns-in-AMP-clause-peeks c = peeks-within (peeks-then c.current.ensures.peeks c.after_ampersand.ensures.peeks) (omega arith)

pub after_pipe-requires-clause-first : goal.after_pipe-requires-clause-first
after_pipe-requires-clause-first c = λ d. saw-after c.current.ensures.peeks.same (saw-arm c.in-PIPE.is (c.current.ensures.sees d))

pub after_pipe-requires-clause-some : goal.after_pipe-requires-clause-some
after_pipe-requires-clause-some c = omega (arith, c.current.ensures.peeks.left, some-arm c.in-PIPE.is refl c.current.ensures.some)

pub returns-in-PIPE-clause-next : goal.returns-in-PIPE-clause-next
returns-in-PIPE-clause-next c = next-before c.current.ensures.peeks.same c.after_pipe.ensures.next

pub returns-in-PIPE-clause-peeks : goal.returns-in-PIPE-clause-peeks
returns-in-PIPE-clause-peeks c = peeks-then c.current.ensures.peeks c.after_pipe.ensures.peeks

pub after_equals-requires-clause-first : goal.after_equals-requires-clause-first
after_equals-requires-clause-first c = λ d. saw-after c.current.ensures.peeks.same (saw-arm c.in-EQ.is (c.current.ensures.sees d))

pub after_equals-requires-clause-some : goal.after_equals-requires-clause-some
after_equals-requires-clause-some c = omega (arith, c.current.ensures.peeks.left, some-arm c.in-EQ.is refl c.current.ensures.some)

pub returns-in-EQ-clause-next : goal.returns-in-EQ-clause-next
returns-in-EQ-clause-next c = next-before c.current.ensures.peeks.same c.after_equals.ensures.next

pub returns-in-EQ-clause-peeks : goal.returns-in-EQ-clause-peeks
returns-in-EQ-clause-peeks c = peeks-within (peeks-then c.current.ensures.peeks c.after_equals.ensures.peeks) (omega arith)

pub after_bang-requires-clause-first : goal.after_bang-requires-clause-first
after_bang-requires-clause-first c = λ d. saw-after c.current.ensures.peeks.same (saw-arm c.in-BANG.is (c.current.ensures.sees d))

pub after_bang-requires-clause-some : goal.after_bang-requires-clause-some
after_bang-requires-clause-some c = omega (arith, c.current.ensures.peeks.left, some-arm c.in-BANG.is refl c.current.ensures.some)

pub returns-in-BANG-clause-next : goal.returns-in-BANG-clause-next
returns-in-BANG-clause-next c = next-before c.current.ensures.peeks.same c.after_bang.ensures.next

pub returns-in-BANG-clause-peeks : goal.returns-in-BANG-clause-peeks
returns-in-BANG-clause-peeks c = peeks-within (peeks-then c.current.ensures.peeks c.after_bang.ensures.peeks) (omega arith)

pub after_left_angle-requires-clause-first : goal.after_left_angle-requires-clause-first
after_left_angle-requires-clause-first c = λ d. saw-after c.current.ensures.peeks.same (saw-arm c.in-L_ANGLE.is (c.current.ensures.sees d))

pub after_left_angle-requires-clause-some : goal.after_left_angle-requires-clause-some
after_left_angle-requires-clause-some c = omega (arith, c.current.ensures.peeks.left, some-arm c.in-L_ANGLE.is refl c.current.ensures.some)

pub returns-in-L_ANGLE-clause-next : goal.returns-in-L_ANGLE-clause-next
returns-in-L_ANGLE-clause-next c = next-before c.current.ensures.peeks.same c.after_left_angle.ensures.next

pub returns-in-L_ANGLE-clause-peeks : goal.returns-in-L_ANGLE-clause-peeks
returns-in-L_ANGLE-clause-peeks c = peeks-then c.current.ensures.peeks c.after_left_angle.ensures.peeks

pub after_right_angle-requires-clause-first : goal.after_right_angle-requires-clause-first
after_right_angle-requires-clause-first c = λ d. saw-after c.current.ensures.peeks.same (saw-arm c.in-R_ANGLE.is (c.current.ensures.sees d))

pub after_right_angle-requires-clause-some : goal.after_right_angle-requires-clause-some
after_right_angle-requires-clause-some c = omega (arith, c.current.ensures.peeks.left, some-arm c.in-R_ANGLE.is refl c.current.ensures.some)

pub returns-in-R_ANGLE-clause-next : goal.returns-in-R_ANGLE-clause-next
returns-in-R_ANGLE-clause-next c = next-before c.current.ensures.peeks.same c.after_right_angle.ensures.next

pub returns-in-R_ANGLE-clause-peeks : goal.returns-in-R_ANGLE-clause-peeks
returns-in-R_ANGLE-clause-peeks c = peeks-then c.current.ensures.peeks c.after_right_angle.ensures.peeks

pub returns-in-AS_KW-clause-next : goal.returns-in-AS_KW-clause-next
unfolding look_of begins_below whole rule items statements expressions patterns types paths there_at shift passes is_silent begins in_mode from_start row one_of any_of no_longer longest is_longer operators_at operators
returns-in-AS_KW-clause-next c = operator-next 1 variants.AS_KW 1 c.new.ensures (omega arith) (omega arith) (some-arm c.in-AS_KW.is refl c.current.ensures.some) (λ d. saw-arm c.in-AS_KW.is (c.current.ensures.sees d) and nothing) refl refl

pub returns-in-STAR-clause-next : goal.returns-in-STAR-clause-next
unfolding look_of begins_below whole rule items statements expressions patterns types paths there_at shift passes is_silent begins in_mode from_start row one_of any_of no_longer longest is_longer operators_at operators
returns-in-STAR-clause-next c =
    assigned-next (λ b. Answers (Kind 0 (raw_of variants.STAR)) true ∷ Answers (Both (Joint 0) (Kind 1 (raw_of variants.EQ))) b ∷ []) c.at_joined-assigned.result 2 variants.STAR variants.STAREQ c.or_assignment.ensures c.new-in-STAR.ensures
    (omega arith) (some-arm c.in-STAR.is refl c.current.ensures.some) (λ is. omega (arith, c.current.ensures.peeks.left, c.at_joined-assigned.ensures.some is (no-end variants.EQ refl)))
    (λ b is d. saw-arm c.in-STAR.is (c.current.ensures.sees d) and (saw-before c.current.ensures.peeks.same (saw-so (c.at_joined-assigned.ensures.sees d) is) and nothing)) refl refl refl refl

pub returns-in-STAR-clause-peeks : goal.returns-in-STAR-clause-peeks
returns-in-STAR-clause-peeks c = peeks-within (peeks-then c.current.ensures.peeks c.at_joined-assigned.ensures.peeks) (omega arith)

pub returns-in-SLASH-clause-next : goal.returns-in-SLASH-clause-next
unfolding look_of begins_below whole rule items statements expressions patterns types paths there_at shift passes is_silent begins in_mode from_start row one_of any_of no_longer longest is_longer operators_at operators
returns-in-SLASH-clause-next c =
    assigned-next (λ b. Answers (Kind 0 (raw_of variants.SLASH)) true ∷ Answers (Both (Joint 0) (Kind 1 (raw_of variants.EQ))) b ∷ []) c.at_joined-assigned-in-SLASH.result 2 variants.SLASH variants.SLASHEQ c.or_assignment-in-SLASH.ensures c.new-in-SLASH.ensures
    (omega arith) (some-arm c.in-SLASH.is refl c.current.ensures.some) (λ is. omega (arith, c.current.ensures.peeks.left, c.at_joined-assigned-in-SLASH.ensures.some is (no-end variants.EQ refl)))
    (λ b is d. saw-arm c.in-SLASH.is (c.current.ensures.sees d) and (saw-before c.current.ensures.peeks.same (saw-so (c.at_joined-assigned-in-SLASH.ensures.sees d) is) and nothing)) refl refl refl refl

pub returns-in-SLASH-clause-peeks : goal.returns-in-SLASH-clause-peeks
returns-in-SLASH-clause-peeks c = peeks-within (peeks-then c.current.ensures.peeks c.at_joined-assigned-in-SLASH.ensures.peeks) (omega arith)

pub returns-in-PERCENT-clause-next : goal.returns-in-PERCENT-clause-next
unfolding look_of begins_below whole rule items statements expressions patterns types paths there_at shift passes is_silent begins in_mode from_start row one_of any_of no_longer longest is_longer operators_at operators
returns-in-PERCENT-clause-next c =
    assigned-next (λ b. Answers (Kind 0 (raw_of variants.PERCENT)) true ∷ Answers (Both (Joint 0) (Kind 1 (raw_of variants.EQ))) b ∷ []) c.at_joined-assigned-in-PERCENT.result 2 variants.PERCENT variants.PERCENTEQ c.or_assignment-in-PERCENT.ensures c.new-in-PERCENT.ensures
    (omega arith) (some-arm c.in-PERCENT.is refl c.current.ensures.some) (λ is. omega (arith, c.current.ensures.peeks.left, c.at_joined-assigned-in-PERCENT.ensures.some is (no-end variants.EQ refl)))
    (λ b is d. saw-arm c.in-PERCENT.is (c.current.ensures.sees d) and (saw-before c.current.ensures.peeks.same (saw-so (c.at_joined-assigned-in-PERCENT.ensures.sees d) is) and nothing)) refl refl refl refl

pub returns-in-PERCENT-clause-peeks : goal.returns-in-PERCENT-clause-peeks
returns-in-PERCENT-clause-peeks c = peeks-within (peeks-then c.current.ensures.peeks c.at_joined-assigned-in-PERCENT.ensures.peeks) (omega arith)

pub returns-in-PLUS-clause-next : goal.returns-in-PLUS-clause-next
unfolding look_of begins_below whole rule items statements expressions patterns types paths there_at shift passes is_silent begins in_mode from_start row one_of any_of no_longer longest is_longer operators_at operators
returns-in-PLUS-clause-next c =
    assigned-next (λ b. Answers (Kind 0 (raw_of variants.PLUS)) true ∷ Answers (Both (Joint 0) (Kind 1 (raw_of variants.EQ))) b ∷ []) c.at_joined-assigned-in-PLUS.result 3 variants.PLUS variants.PLUSEQ c.or_assignment-in-PLUS.ensures c.new-in-PLUS.ensures
    (omega arith) (some-arm c.in-PLUS.is refl c.current.ensures.some) (λ is. omega (arith, c.current.ensures.peeks.left, c.at_joined-assigned-in-PLUS.ensures.some is (no-end variants.EQ refl)))
    (λ b is d. saw-arm c.in-PLUS.is (c.current.ensures.sees d) and (saw-before c.current.ensures.peeks.same (saw-so (c.at_joined-assigned-in-PLUS.ensures.sees d) is) and nothing)) refl refl refl refl

pub returns-in-PLUS-clause-peeks : goal.returns-in-PLUS-clause-peeks
returns-in-PLUS-clause-peeks c = peeks-within (peeks-then c.current.ensures.peeks c.at_joined-assigned-in-PLUS.ensures.peeks) (omega arith)

pub returns-in-MINUS-clause-next : goal.returns-in-MINUS-clause-next
unfolding look_of begins_below whole rule items statements expressions patterns types paths there_at shift passes is_silent begins in_mode from_start row one_of any_of no_longer longest is_longer operators_at operators
returns-in-MINUS-clause-next c =
    assigned-next (λ b. Answers (Kind 0 (raw_of variants.MINUS)) true ∷ Answers (Both (Joint 0) (Kind 1 (raw_of variants.EQ))) b ∷ []) c.at_joined-assigned-in-MINUS.result 3 variants.MINUS variants.MINUSEQ c.or_assignment-in-MINUS.ensures c.new-in-MINUS.ensures
    (omega arith) (some-arm c.in-MINUS.is refl c.current.ensures.some) (λ is. omega (arith, c.current.ensures.peeks.left, c.at_joined-assigned-in-MINUS.ensures.some is (no-end variants.EQ refl)))
    (λ b is d. saw-arm c.in-MINUS.is (c.current.ensures.sees d) and (saw-before c.current.ensures.peeks.same (saw-so (c.at_joined-assigned-in-MINUS.ensures.sees d) is) and nothing)) refl refl refl refl

pub returns-in-MINUS-clause-peeks : goal.returns-in-MINUS-clause-peeks
returns-in-MINUS-clause-peeks c = peeks-within (peeks-then c.current.ensures.peeks c.at_joined-assigned-in-MINUS.ensures.peeks) (omega arith)

pub returns-in-CARET-clause-next : goal.returns-in-CARET-clause-next
unfolding look_of begins_below whole rule items statements expressions patterns types paths there_at shift passes is_silent begins in_mode from_start row one_of any_of no_longer longest is_longer operators_at operators
returns-in-CARET-clause-next c =
    assigned-next (λ b. Answers (Kind 0 (raw_of variants.CARET)) true ∷ Answers (Both (Joint 0) (Kind 1 (raw_of variants.EQ))) b ∷ []) c.at_joined-assigned-in-CARET.result 6 variants.CARET variants.CARETEQ c.or_assignment-in-CARET.ensures c.new-in-CARET.ensures
    (omega arith) (some-arm c.in-CARET.is refl c.current.ensures.some) (λ is. omega (arith, c.current.ensures.peeks.left, c.at_joined-assigned-in-CARET.ensures.some is (no-end variants.EQ refl)))
    (λ b is d. saw-arm c.in-CARET.is (c.current.ensures.sees d) and (saw-before c.current.ensures.peeks.same (saw-so (c.at_joined-assigned-in-CARET.ensures.sees d) is) and nothing)) refl refl refl refl

pub returns-in-CARET-clause-peeks : goal.returns-in-CARET-clause-peeks
returns-in-CARET-clause-peeks c = peeks-within (peeks-then c.current.ensures.peeks c.at_joined-assigned-in-CARET.ensures.peeks) (omega arith)

pub returns-in_default-clause-next : goal.returns-in_default-clause-next
unfolding look_of begins_below whole rule items statements expressions patterns types paths there_at shift passes is_silent begins in_mode from_start row one_of any_of no_longer longest is_longer operators_at operators
returns-in_default-clause-next c = none-next c.none.ensures (λ d. (saw-not c.in_default.not-AS_KW (c.current.ensures.sees d)) and (saw-not c.in_default.not-STAR (c.current.ensures.sees d)) and (saw-not c.in_default.not-SLASH (c.current.ensures.sees d)) and (saw-not c.in_default.not-PERCENT (c.current.ensures.sees d)) and (saw-not c.in_default.not-PLUS (c.current.ensures.sees d)) and (saw-not c.in_default.not-MINUS (c.current.ensures.sees d)) and (saw-not c.in_default.not-CARET (c.current.ensures.sees d)) and (saw-not c.in_default.not-AMP (c.current.ensures.sees d)) and (saw-not c.in_default.not-PIPE (c.current.ensures.sees d)) and (saw-not c.in_default.not-EQ (c.current.ensures.sees d)) and (saw-not c.in_default.not-BANG (c.current.ensures.sees d)) and (saw-not c.in_default.not-L_ANGLE (c.current.ensures.sees d)) and (saw-not c.in_default.not-R_ANGLE (c.current.ensures.sees d)) and nothing) refl

pub returns-in_default-clause-peeks : goal.returns-in_default-clause-peeks
returns-in_default-clause-peeks c = peeks-within c.current.ensures.peeks (omega arith)
