use Rattle.std.proofs.Common.{◌∙◌, ap}
use Rattle.parser_input.specs.Preface.{Source}
use Rattle.parser_input.specs.Spans.{end_of}
use Rattle.parser_input.proofs.frontmatter.ScriptSource.content_span.Goals as goal

pub returns-clause-start : goal.returns-clause-start
returns-clause-start c = c.span.ensures.start ∙ ap (λ (s : Source). s.content.start) c.self.view_is

pub returns-clause-end : goal.returns-clause-end
returns-clause-end c = c.span.ensures.end ∙ ap (λ (s : Source). end_of s.content) c.self.view_is
