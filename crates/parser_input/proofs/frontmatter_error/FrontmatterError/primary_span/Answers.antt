use Rattle.std.proofs.Common.{sym, ap}
use Rattle.parser_input.specs.Spans.{refused_start, refused_end}
use Rattle.parser_input.specs.declared.frontmatter_error.FrontmatterError.{FrontmatterError}
use Rattle.parser_input.proofs.frontmatter_error.FrontmatterError.primary_span.Goals as goal

pub returns-in-Unclosed-clause-start : goal.returns-in-Unclosed-clause-start
returns-in-Unclosed-clause-start c = ap (λ (e : FrontmatterError). refused_start e) (sym c.in-Unclosed.is)

pub returns-in-Unclosed-clause-end : goal.returns-in-Unclosed-clause-end
returns-in-Unclosed-clause-end c = ap (λ (e : FrontmatterError). refused_end e) (sym c.in-Unclosed.is)
