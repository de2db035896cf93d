-- The first dot's byte is the first dot among the characters.
use Rattle.std.proofs.Common.{ℕ, Some, None, chars, take, ap, ◌∙◌, arith}
use Rattle.std.proofs.Math.Nat.{sub-zero}
use Rattle.std.proofs.lemmas.Str.{chars-nil}
use Rattle.std.proofs.lemmas.Str.Pattern.{find_char}
use Rattle.parser_events.proofs.Dots.{front-cut, rest-cut, whole-undotted, rest-undotted}
use Rattle.parser_events.proofs.float_parts.cut_at_dot.Goals as goal

pub returns-in-Some : goal.returns-in-Some
returns-in-Some c =
    let bs = c.args.text.now in
    let at = find_char 46 bs (Some c.in-Some.dot) c.in-Some.ensures.cases (omega arith) in
    record {
      before = ap chars (c.range.ensures.value ∙ ap (λ (n : ℕ). take n bs) (sub-zero c.in-Some.dot)) ∙ front-cut bs c.in-Some.dot c.utf8.text at.0 at.1 at.2;
      from = ap chars c.range_from.ensures.value ∙ rest-cut bs c.in-Some.dot c.utf8.text at.0 at.1 at.2;
    }

pub returns-in-None-clause-before : goal.returns-in-None-clause-before
returns-in-None-clause-before c =
    whole-undotted c.args.text.now c.utf8.text (find_char 46 c.args.text.now None c.in-None.ensures.cases (omega arith))

pub returns-in-None-clause-from : goal.returns-in-None-clause-from
returns-in-None-clause-from c =
    chars-nil ∙ rest-undotted c.args.text.now c.utf8.text (find_char 46 c.args.text.now None c.in-None.ensures.cases (omega arith))
