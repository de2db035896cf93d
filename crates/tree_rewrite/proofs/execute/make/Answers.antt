use Rattle.std.proofs.Common.{◌≡◌, Some, None, slice_get, subst, sym, ap, ◌∙◌}
use Rattle.std.specs.Option.{option_copied}
use Rattle.tree_rewrite.specs.Orders.{with_picked}
use Rattle.tree_rewrite.specs.Fill.{HavePut}
use Rattle.tree_rewrite.specs.declared.piece.Put.{Put}
use Rattle.tree_rewrite.proofs.ExecuteLemmas.{put_more}
use Rattle.tree_rewrite.proofs.execute.make.Goals as goal

pub returns-in_ok-push-clause-put : goal.returns-in_ok-push-clause-put
returns-in_ok-push-clause-put c = λ js h.
    let all = c.args.jobs.now in
    let found : slice_get all c.args.number ≡ Some c.in-Some.job.now = sym c.job_at.ensures ∙ ap option_copied c.in-Some.is in
    let put : Put = record { number = c.args.number; pieces = c.in_ok-pieces.pieces } in
    subst (λ o. HavePut all c.push.new.self.items (with_picked o js)) (sym found)
    (put_more all c.args.made.now.items c.push.new.self.items put c.in-Some.job.now js c.in_ok-push.ensures.items found (c.in_ok-pieces.ensures js (subst (λ l. HavePut all l js) (sym c.deref.ensures.value) h)) h)

pub returns-in_default-clause-put : goal.returns-in_default-clause-put
returns-in_default-clause-put c = λ js h.
    let all = c.args.jobs.now in
    let none : slice_get all c.args.number ≡ None = sym c.job_at.ensures ∙ ap option_copied c.in_default.is in
    subst (λ o. HavePut all c.args.made.now.items (with_picked o js)) (sym none) h
