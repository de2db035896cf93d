use Rattle.std.proofs.Common.{◌≡◌, ◌∙◌}
use Rattle.std.specs.Str.Iter.{chars_rest}
use Rattle.rowan.specs.Text.{Begins}
use Rattle.rowan.proofs.Characters.{boundary_of_cut, first_char}
use Rattle.rowan.proofs.text_search.char_of.Goals as goal

pub returns-then-not-is_char_boundary : goal.returns-then-not-is_char_boundary
returns-then-not-is_char_boundary c = λ (q : Begins c.args.text.now c.args.byte).
    let t = c.is_char_boundary.ensures.test.1 (boundary_of_cut c.args.text.now c.args.byte c.utf8.text q.1) in
    let f = c.if-not-is_char_boundary.true in
    absurd (cc)

pub returns : goal.returns
returns c =
    let f = c.if-not-is_char_boundary.false in
    let b = c.is_char_boundary.ensures.test.0 f in
    first_char c.args.text.now (chars_rest c.chars.result) (chars_rest c.next.new.self) c.args.byte c.next.result (c.next.new.self ≡ c.chars.result) (c.chars.ensures.rest ∙ c.range_from.ensures.value) b.0 c.next.ensures.steps.0
