use Rattle.std.proofs.Common.{string_bytes}
use Rattle.std.proofs.lemmas.Result.{IfOk-weaker}
use Rattle.tree_indent.proofs.SetOut.{set_out-replaced}
use Rattle.tree_indent.proofs.shift.set_out.Goals as goal

pub returns : goal.returns
returns c =
    IfOk-weaker c.replace.result _ _
    (λ t h. set_out-replaced (λ p. string_bytes p.now) c.args.level.0 h.0 _ c.args.text.now (string_bytes t) c.in_ok-margin.ensures.ok h.1)
    c.replace.ensures.ok
