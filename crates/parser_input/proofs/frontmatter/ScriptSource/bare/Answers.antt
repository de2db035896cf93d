use Rattle.std.proofs.Common.{◌∙◌, List, ℕ, ap}
use Rattle.parser_input.specs.Preface.{remainder}
use Rattle.parser_input.proofs.Prefaces.{bare-is}
use Rattle.parser_input.proofs.frontmatter.ScriptSource.bare.Goals as goal

pub returns : goal.returns
returns c =
    bare-is c.args.text.now c.shebang_piece.result c.remainder.result c.shebang_piece.ensures
    (c.remainder.ensures ∙ ap (λ (t : List ℕ). remainder c.args.text.now t) c.after_shebang.ensures.rest)
