use Rattle.std.proofs.Common.{◌∷◌, length, sym, ap, ◌∙◌, subst}
use Rattle.tree_rewrite.specs.Below.{IsBeyond, lists_of, AreLists}
use Rattle.tree_rewrite.proofs.BelowLemmas.{row_count, lists_count, lists_told, lists_left}
use Rattle.tree_rewrite.proofs.FillLemmas.{on_ok}
use Rattle.tree_rewrite.proofs.lists.push_number.Goals as goal

pub returns-in-Some-clause-lists : goal.returns-in-Some-clause-lists
returns-in-Some-clause-lists c = λ gs g n w d l h.
    let all = c.args.overlay.now.jobs.now in
    let made = c.args.overlay.now.made.now in
    let told = lists_told all made (lists_of c.args.lists.now.items) n w gs g c.args.number c.in-Some.start c.in-Some.more d (λ i b. c.row_of.ensures g w i d l (subst (λ r. IsBeyond r i) (sym c.in-Some.is) b)) h in
    on_ok c.push_row.result _ _ (λ e. subst (λ ls. AreLists all made ls n w (g ∷ gs)) (sym e) told) c.push_row.ensures

pub returns-in-Some-clause-count : goal.returns-in-Some-clause-count
returns-in-Some-clause-count c =
    let old = c.args.lists.now.items in
    on_ok c.push_row.result _ _ (λ e. sym (lists_count c.push_row.new.lists.items) ∙ ap length e ∙ row_count c.args.number c.in-Some.start c.in-Some.more (lists_of old) ∙ lists_count old) c.push_row.ensures

pub returns-in-None-clause-lists : goal.returns-in-None-clause-lists
returns-in-None-clause-lists c = λ gs g n w d l h.
    lists_left c.args.overlay.now.jobs.now c.args.overlay.now.made.now (lists_of c.args.lists.now.items) n w gs g (λ i. c.row_of.ensures g w i d l (subst (λ r. IsBeyond r i) (sym c.in-None.is) tt)) h
