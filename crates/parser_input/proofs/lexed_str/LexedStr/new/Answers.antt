use Rattle.std.proofs.Common.{List, ap, chars}
use Rattle.parser_input.specs.Lexed.{Lexed}
use Rattle.parser_input.specs.Stored.{Whole}
use Rattle.parser_input.proofs.LeafKinds.{items-real}
use Rattle.parser_input.proofs.PrefaceSteps.{found-all, found-opened}
use Rattle.parser_input.proofs.lexed_str.LexedStr.new.Goals as goal

pub push_content-requires : goal.push_content-requires
push_content-requires c = found-opened c.args.edition c.args.text.now c.in_ok-start-2.start c.push_frontmatter.new.leaves.items c.in_ok-start-2.ensures

pub returns : goal.returns
returns c =
    let K : List Lexed → Whole = λ l. record { edition = c.args.edition; text = chars c.args.text.now; leaves = l } in
    ap K (found-all c.args.edition c.args.text.now c.push_content.new.leaves.items c.in_ok-push_content.ensures)

pub invariant_of-result : goal.invariant_of-result
invariant_of-result c =
    let f = c.in_ok-push_content.ensures in
    let items = c.push_content.new.leaves.items in
    (f.spans, f.end_is, c.utf8.text, items-real c.args.edition c.args.text.now items (found-all c.args.edition c.args.text.now items f))
