use Rattle.std.proofs.Common.{◌≡◌, ◌∙◌, sym}
use Rattle.parser_input.specs.Kind.{raw_of}
use Rattle.source_tools.specs.Words.{kind_name}
use Rattle.source_tools.proofs.WordLemmas.{name-of-raw}
use Rattle.source_tools.proofs.tokens.push_item.Goals as goal

pub returns : goal.returns
returns c =
    let s : c.from-start.result ≡ c.args.token.range.start.0 = cc in
    let e : c.from-end.result ≡ c.args.token.range.end.0 = cc in
    let name : c.name.result.now ≡ kind_name (raw_of c.args.token.kind) = c.name.ensures ∙ sym (name-of-raw c.args.token.kind) in
    rw (name, s, e) at c.in_ok-push_token_item.ensures
