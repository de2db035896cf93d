use Rattle.std.proofs.Common.{arith, sym, ◌∙◌, refl, ap, length, ◌++◌}
use Rattle.std.proofs.lemmas.Bool.{eqb-false, eqb-true}
use Rattle.session_words.proofs.EscapeLemmas.{none-behind, some-left, written-more}
use Rattle.session_words.proofs.escapes.mended.Goals as goal

pub loop-rest-preserved : goal.loop-rest-preserved
loop-rest-preserved c =
    written-more _ _ _ _ _ _ _ _ _ _ (some-left _ _ c.is_empty.ensures c.loop-rest-test.true) refl c.split_at.ensures.back
    c.behind-known.ensures.bytes c.behind-known.ensures.fits c.split_at-in-loop-rest.ensures.back c.in_ok-push.ensures.items c.in_ok-extend_from_slice.ensures.items c.loop-rest.invariant

pub returns : goal.returns
returns c = none-behind _ _ _ _ c.is_empty.ensures c.loop-rest-test.false c.loop-rest.invariant
