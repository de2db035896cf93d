-- A float by its last character, any other leaf by the next one.
use Rattle.std.proofs.Common.{chars}
use Rattle.parser_input.proofs.InputSteps.{joint-float, joint-other}
use Rattle.parser_input.proofs.parser_token.is_joint.Goals as goal

pub returns-in-FLOAT_NUMBER : goal.returns-in-FLOAT_NUMBER
returns-in-FLOAT_NUMBER c next e = joint-float c.args.kind (chars c.args.text.now) next c.ends_in_dot.result c.in-FLOAT_NUMBER.is c.ends_in_dot.ensures

pub returns-in_default : goal.returns-in_default
returns-in_default c next e = joint-other c.args.kind (chars c.args.text.now) next c.args.is_followed c.in_default.not-FLOAT_NUMBER e
