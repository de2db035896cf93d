-- The look is at the tokens left.
use Rattle.std.proofs.Common.{ℕ, nat_eq, ap, sym, ◌∙◌}
use Rattle.std.proofs.lemmas.Bool.{eqb-true}
use Rattle.parser_input.specs.Kind.{raw_of}
use Rattle.rust_productions.proofs.Facts.{saw-so}
use Rattle.rust_productions.proofs.Peeking.{}
use Rattle.rust_productions.proofs.parser.Parser.at.Goals as goal

pub returns-clause-sees : goal.returns-clause-sees
returns-clause-sees c cond =
    saw-so (c.current.ensures.sees cond _) (sym (ap (λ (n : ℕ). nat_eq n c.to_raw-2.result) c.to_raw.ensures.number ∙ ap (λ (n : ℕ). nat_eq (raw_of c.current.result) n) c.to_raw-2.ensures.number))

pub returns-clause-some : goal.returns-clause-some
returns-clause-some c is some =
    c.current.ensures.some (λ z. some (sym c.to_raw-2.ensures.number ∙ sym (eqb-true _ _ is) ∙ c.to_raw.ensures.number ∙ z))

pub returns-clause-peeks : goal.returns-clause-peeks
returns-clause-peeks c = c.current.ensures.peeks
