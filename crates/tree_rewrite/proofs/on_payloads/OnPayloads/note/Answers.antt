-- The executed change is the last of its target tree, and of no other.
use Rattle.std.proofs.Common.{◌≡◌, ℕ, List, ◌∷◌, ◌++◌, [], Some, refl, sym, ap, ◌∙◌, Option, cond, length, arith}
use Rattle.syntax_tree.specs.Element.{same_way}
use Rattle.tree_rewrite.specs.Recorded.{target_of}
use Rattle.tree_rewrite.specs.WayMap.{number_at}
use Rattle.tree_rewrite.proofs.FillLemmas.{on_ok}
use Rattle.tree_rewrite.proofs.ListedLemmas.{listed_off, listed_on}
use Rattle.tree_rewrite.proofs.on_payloads.OnPayloads.note.Goals as goal

pub returns-in_default : goal.returns-in_default
returns-in_default c = λ all ps p old numbered.
    listed_off all ps p c.args.job.now c.args.self.now _ numbered (sym c.target.ensures ∙ ap target_of c.in_default.is) old c.in_ok-push.ensures.items (λ w. refl)

pub returns : goal.returns
returns c = λ all ps p old numbered.
    let l = c.args.self.now in
    let v = c.in-Payload.way.now in
    let own = sym c.target.ensures ∙ ap target_of c.in-Payload.is in
    let number : c.len-number.result ≡ length l.before.items = omega (arith, c.len-number.ensures) in
    let noted = c.number_at.ensures in
    let before = c.in_ok-push-2.ensures.items ∙ ap (λ (x : Option ℕ). l.before.items ++ x ∷ []) noted in
    on_ok c.put.result _ _ (λ last. listed_on all ps p c.args.job.now l _ v numbered own old before (λ w. last w ∙ ap (λ (x : List ℕ). cond (same_way x w) (Some c.len-number.result) (number_at l.last w)) c.in_ok-from_slice.ensures.items ∙ ap (λ (k : ℕ). cond (same_way v w) (Some k) (number_at l.last w)) number)) c.put.ensures.ok
