use Rattle.std.proofs.Common.{◌≡◌, ◌∙◌, ℕ, List, false, Result, Ok, sym, ap, chars}
use Rattle.rustc_lexer.proofs.Booleans.{and_false}
use Rattle.rustc_lexer.specs.Tokens.{token_list}
use Rattle.rustc_lexer.specs.declared.token.TokenKind.{TokenKind}
use Rattle.rustc_lexer.specs.declared.token.Token.{Token}
use Rattle.parser_input.specs.Lexed.{content, content_of, is_guard, is_split}
use Rattle.parser_input.specs.Preface.{Source, source}
use Rattle.parser_input.specs.declared.edition.Edition.TheVariants.{Edition2024}
use Rattle.parser_input.specs.declared.frontmatter_error.FrontmatterError.{FrontmatterError}
use Rattle.leaves_dump.proofs.tests.known.reads_alike.Goals as goal

never_split : (kind : TokenKind) → is_split Edition2024 kind ≡ false
unfolding is_split
never_split kind = and_false (is_guard kind)

content-told : (text : List ℕ) (s : Source) → source text ≡ Ok s → content text ≡ s.content.text
unfolding content
content-told text s e = ap (λ (r : Result Source FrontmatterError). content_of text r) e

pub from_tokens-requires-clause-tokens : goal.from_tokens-requires-clause-tokens
from_tokens-requires-clause-tokens c =
    c.deref.ensures.value ∙ c.in_ok-tokens.ensures
    ∙ ap (λ (t : List ℕ). token_list t) (c.content.ensures ∙ sym (content-told (chars c.args.text.now) c.in-Ok.source (sym c.in-Ok.ensures)))

pub from_tokens-requires-clause-whole : goal.from_tokens-requires-clause-whole
from_tokens-requires-clause-whole c k d h = never_split _
