-- A float's text decides.
use Rattle.std.proofs.Common.{Bool, not, if◌then◌else◌, ap, sym, ◌∙◌}
use Rattle.parser_input.specs.Kind.{raw_of}
use Rattle.parser_events.proofs.Fittings.{split-other, split-float}
use Rattle.parser_events.proofs.fits.is_split_at.Goals as goal

pub returns-then-not-is_float : goal.returns-then-not-is_float
returns-then-not-is_float c =
    split-other c.args.lexed.now.leaves c.args.expected c.args.i (raw_of c.kind.result) c.requires c.kind.ensures
    (sym c.is_float.ensures ∙ c.if-not-is_float.true)

pub returns-then-expected : goal.returns-then-expected
returns-then-expected c =
    ap (λ (b : Bool). if b then c.ends_in_dot.result else not c.ends_in_dot.result) (sym c.if-expected.true)
    ∙ split-float c.args.lexed.now.leaves c.args.expected c.ends_in_dot.result c.args.i (raw_of c.kind.result) _ c.requires c.kind.ensures
    (sym c.is_float.ensures ∙ c.if-not-is_float.false) c.text.ensures c.ends_in_dot.ensures

pub returns : goal.returns
returns c =
    ap (λ (b : Bool). if b then c.ends_in_dot-2.result else not c.ends_in_dot-2.result) (sym c.if-expected.false)
    ∙ split-float c.args.lexed.now.leaves c.args.expected c.ends_in_dot-2.result c.args.i (raw_of c.kind.result) _ c.requires c.kind.ensures
    (sym c.is_float.ensures ∙ c.if-not-is_float.false) c.text-2.ensures c.ends_in_dot-2.ensures
