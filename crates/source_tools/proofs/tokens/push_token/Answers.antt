use Rattle.std.proofs.Common.{◌≡◌, ◌∙◌, sym}
use Rattle.parser_input.specs.Kind.{raw_of}
use Rattle.source_tools.specs.Words.{kind_name}
use Rattle.source_tools.proofs.ListLemmas.{two-more}
use Rattle.source_tools.proofs.WordLemmas.{name-of-raw}
use Rattle.source_tools.proofs.tokens.push_token.Goals as goal

pub returns : goal.returns
returns c =
    let s : c.from-start.result ≡ c.args.token.range.start.0 = cc in
    let e : c.from-end.result ≡ c.args.token.range.end.0 = cc in
    let name : c.name.result.now ≡ kind_name (raw_of c.args.token.kind) = c.name.ensures ∙ sym (name-of-raw c.args.token.kind) in
    let range = rw (name, s, e) at c.in_ok-push_range.ensures in
    let text = rw (c.part.ensures, c.as_bytes.ensures.value, s, e) at c.in_ok-push_text.ensures in
    two-more c.args.rows.now.items c.push_range.new.rows.items c.push_text.new.rows.items _ _ range text
