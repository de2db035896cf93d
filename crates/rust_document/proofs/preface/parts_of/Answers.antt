use Rattle.std.proofs.Common.{Result, chars, ap, ◌∙◌}
use Rattle.parser_input.specs.Lexed.{content_of, content}
use Rattle.parser_input.specs.Preface.{Source}
use Rattle.parser_input.specs.declared.frontmatter_error.FrontmatterError.{FrontmatterError}
use Rattle.rust_document.proofs.preface.parts_of.Goals as goal

pub returns-in-Ok-clause-content : goal.returns-in-Ok-clause-content
unfolding content
returns-in-Ok-clause-content c =
    c.content.ensures ∙ ap (λ (r : Result Source FrontmatterError). content_of (chars c.args.text.now) r) c.in-Ok.ensures

pub returns-in-Err-clause-content : goal.returns-in-Err-clause-content
unfolding content
returns-in-Err-clause-content c =
    c.behind_shebang.ensures ∙ ap (λ (r : Result Source FrontmatterError). content_of (chars c.args.text.now) r) c.in-Err.ensures
