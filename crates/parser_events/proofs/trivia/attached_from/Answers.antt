use Rattle.std.proofs.Common.{◌≡◌, ◌-◌, slice_range, ap, sym, ◌∙◌, arith}
use Rattle.parser_input.specs.Kind.{raw_of}
use Rattle.parser_input.specs.Lexed.{leaves_of}
use Rattle.parser_events.specs.Trivia.{attached}
use Rattle.parser_events.proofs.Putting.{none-between}
use Rattle.parser_events.proofs.Walks.{attached-none, attached-nothing, attached-walked}
use Rattle.parser_events.proofs.trivia.attached_from.Goals as goal

pub returns-clause-inside : goal.returns-clause-inside
returns-clause-inside c =
    let between = slice_range (leaves_of c.args.lexed.now.leaves) c.args.start c.args.end in
    c.first_inside.ensures.inside ∙ attached-walked (raw_of c.args.kind) between (sym c.takes_comments.ensures ∙ c.if-not-takes_comments.false)

pub returns-then-not-takes_comments-clause-inside : goal.returns-then-not-takes_comments-clause-inside
returns-then-not-takes_comments-clause-inside c =
    let between = slice_range (leaves_of c.args.lexed.now.leaves) c.args.start c.args.end in
    let none : c.args.end - c.args.end ≡ 0 = omega arith in
    none ∙ attached-none (raw_of c.args.kind) between (sym c.takes_comments.ensures ∙ c.if-not-takes_comments.true)

pub returns-then-start-end-clause-inside : goal.returns-then-start-end-clause-inside
returns-then-start-end-clause-inside c =
    let none : c.args.end - c.args.end ≡ 0 = omega arith in
    none ∙ sym (ap (attached (raw_of c.args.kind)) (none-between (leaves_of c.args.lexed.now.leaves) c.args.start c.args.end c.if-start-end.true) ∙ attached-nothing (raw_of c.args.kind))
