use Rattle.std.proofs.Common.{◌∙◌, ap}
use Rattle.parser_input.specs.Preface.{Source}
use Rattle.parser_input.proofs.frontmatter.ScriptSource.content.Goals as goal

pub returns : goal.returns
returns c = c.text.ensures ∙ ap (λ (s : Source). s.content.text) c.self.view_is
