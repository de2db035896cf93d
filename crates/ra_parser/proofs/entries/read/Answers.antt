use Rattle.std.proofs.Common.{true, subst}
use Rattle.rust_productions.specs.Reads.{looks, Saw}
use Rattle.rust_productions.specs.declared.condition.Condition.TheVariants.{Off}
use Rattle.grammar_reader.proofs.AnyMode.{meta-mode, pattern-mode, type-mode}
use Rattle.ra_parser.specs.Entries.{single_of}
use Rattle.ra_parser.specs.declared.entries.Single.{Single}
use Rattle.ra_parser.proofs.entries.read.Goals as goal

pub expression-requires : goal.expression-requires
expression-requires c = record {
  begins = subst (λ (s : Single). Saw Off (looks (single_of s)) c.args.p.now true) c.in-Expression.is c.requires.begins;
  some = c.requires.some;
}

pub meta-requires : goal.meta-requires
meta-requires c = record {
  begins = λ d. meta-mode (subst (λ (s : Single). Saw Off (looks (single_of s)) c.args.p.now true) c.in-Meta.is c.requires.begins);
  some = c.requires.some;
}

pub pattern-requires : goal.pattern-requires
pattern-requires c = record {
  begins = λ d. pattern-mode (subst (λ (s : Single). Saw Off (looks (single_of s)) c.args.p.now true) c.in-Pattern.is c.requires.begins);
  some = c.requires.some;
}

pub any_type-requires : goal.any_type-requires
any_type-requires c = record {
  begins = record {
    sees = λ d. type-mode (subst (λ (s : Single). Saw Off (looks (single_of s)) c.args.p.now true) c.in-Type.is c.requires.begins);
    some = c.requires.some;
  };
}

pub returns-in-Expression-clause-gives : goal.returns-in-Expression-clause-gives
returns-in-Expression-clause-gives c = rw c.in-Expression.is c.expression.ensures.gives

pub returns-in-Meta-clause-gives : goal.returns-in-Meta-clause-gives
returns-in-Meta-clause-gives c = rw c.in-Meta.is c.meta.ensures.gives

pub returns-in-Pattern-clause-gives : goal.returns-in-Pattern-clause-gives
returns-in-Pattern-clause-gives c = rw c.in-Pattern.is (c.pattern.ensures.gives Off)

pub returns-in-Type-clause-gives : goal.returns-in-Type-clause-gives
returns-in-Type-clause-gives c = rw c.in-Type.is (c.any_type.ensures.gives Off)
