use Rattle.parser_input.proofs.frontmatter.is_rust_whitespace.Goals as goal

pub returns : goal.returns
returns c = c.is_whitespace.ensures
