use Rattle.std.proofs.Common.{◌∷◌, sym, ◌∙◌, subst}
use Rattle.tree_rewrite.specs.Rewrite.{puts, terms_of}
use Rattle.tree_rewrite.specs.Recorded.{target_of}
use Rattle.tree_rewrite.specs.Below.{OnSheet}
use Rattle.tree_rewrite.proofs.BelowLemmas.{sheet_told, sheet_left}
use Rattle.tree_rewrite.proofs.lists.push_on.Goals as goal

pub returns-in_ok-push : goal.returns-in_ok-push
returns-in_ok-push c = λ j js d h.
    let all = c.args.overlay.now.jobs.now in
    let made = c.args.overlay.now.made.now in
    let n = target_of c.args.overlay.now.target in
    subst (λ l. OnSheet all made l n (j ∷ js)) (sym c.in_ok-push.ensures.items) (sheet_told all made c.args.numbers.now.items c.args.number n j js d h)

pub returns-else-is_on : goal.returns-else-is_on
returns-else-is_on c = λ j js d h.
    sheet_left c.args.overlay.now.jobs.now c.args.overlay.now.made.now c.args.numbers.now.items (target_of c.args.overlay.now.target) j js (sym (c.is_on.ensures (j, terms_of (puts js) j) d) ∙ c.if-is_on.false) h
