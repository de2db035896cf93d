use Rattle.std.proofs.Common.{◌++◌, List, take, drop, ◌∙◌, ap, arith}
use Rattle.lexed_text.specs.declared.runs.Run.{Run}
use Rattle.lexed_text.proofs.RunSums.{runs-joined}
use Rattle.lexed_text.proofs.runs.renew_runs.Goals as goal

pub returns-in-Ok-replace : goal.returns-in-Ok-replace
returns-in-Ok-replace c =
    let fresh = c.in-Ok.fresh in
    let old = c.args.runs.now.items in
    let new = c.in-Ok-replace.ensures.replaced ∙ ap (λ (z : List Run). take c.args.first.run old ++ (z ++ drop c.args.next.run old)) c.deref.ensures.value in
    runs-joined c.args.first.run c.args.next.run c.args.first.count c.args.to old fresh.items c.replace.new.items.items c.args.tokens.now (omega arith) c.requires.is_count c.requires.front c.in-Ok.ensures.runs c.in-Ok.ensures.whole c.requires.back new
