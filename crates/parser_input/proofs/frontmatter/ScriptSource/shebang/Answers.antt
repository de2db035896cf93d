use Rattle.std.proofs.Common.{◌∙◌, ap, option_map}
use Rattle.parser_input.specs.Preface.{Source}
use Rattle.parser_input.specs.Spans.{text_of}
use Rattle.parser_input.proofs.frontmatter.ScriptSource.shebang.Goals as goal

pub returns : goal.returns
returns c = c.text_of.ensures ∙ ap (λ (s : Source). option_map text_of s.shebang) c.self.view_is
