use Rattle.parser_input.proofs.input.Input.push_pipe.Goals as goal

pub returns : goal.returns
returns c = c.push_token.ensures
