use Rattle.std.proofs.Common.{◌∙◌, ap, option_map}
use Rattle.parser_input.specs.Preface.{Source}
use Rattle.parser_input.specs.Spans.{span_of}
use Rattle.parser_input.proofs.frontmatter.ScriptSource.info_span.Goals as goal

pub returns : goal.returns
returns c = c.span_of.ensures ∙ ap (λ (s : Source). option_map span_of s.info) c.self.view_is
