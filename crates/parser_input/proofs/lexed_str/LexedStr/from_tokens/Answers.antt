use Rattle.std.proofs.Common.{◌∙◌, ℕ, List, ap, chars, sym}
use Rattle.rustc_lexer.specs.Tokens as lexer
use Rattle.parser_input.specs.Lexed.{Lexed}
use Rattle.parser_input.specs.Stored.{Whole}
use Rattle.parser_input.proofs.LeafKinds.{items-real}
use Rattle.parser_input.proofs.PrefaceSteps.{found-all, found-opened}
use Rattle.parser_input.proofs.lexed_str.LexedStr.from_tokens.Goals as goal

pub push_tokens-requires-clause-found : goal.push_tokens-requires-clause-found
push_tokens-requires-clause-found c = found-opened c.args.edition c.args.text.now c.in_ok-start-2.start c.push_frontmatter.new.leaves.items c.in_ok-start-2.ensures

pub returns : goal.returns
returns c =
    let K : List Lexed → Whole = λ l. record { edition = c.args.edition; text = chars c.args.text.now; leaves = l } in
    ap K (found-all c.args.edition c.args.text.now c.push_tokens.new.leaves.items c.in_ok-push_tokens.ensures)

pub invariant_of-result : goal.invariant_of-result
invariant_of-result c =
    let f = c.in_ok-push_tokens.ensures in
    let items = c.push_tokens.new.leaves.items in
    (f.spans, f.end_is, c.utf8.text, items-real c.args.edition c.args.text.now items (found-all c.args.edition c.args.text.now items f))

pub push_tokens-requires-clause-tokens : goal.push_tokens-requires-clause-tokens
push_tokens-requires-clause-tokens c = c.requires.tokens ∙ ap (λ (x : List ℕ). lexer.token_list x) (sym c.in_ok-start-2.ensures.left_is)
