use Rattle.std.proofs.Common.{◌≡◌, List, [], reverse, refl, sym, ap, ◌∙◌, subst, arith}
use Rattle.syntax_tree.specs.Element.{term_of}
use Rattle.syntax_tree.specs.Handle.{element_of}
use Rattle.tree_rewrite.specs.Marked.{origin_at, reading_of}
use Rattle.tree_rewrite.specs.Recorded.{target_of}
use Rattle.tree_rewrite.specs.Fill.{laid, standing}
use Rattle.tree_rewrite.specs.Filling.{LeadTo, with_opened}
use Rattle.tree_rewrite.specs.Pieces.{added, after}
use Rattle.tree_rewrite.specs.declared.fill.Level.{Level}
use Rattle.tree_rewrite.proofs.ExecuteLemmas.{standing-top}
use Rattle.tree_rewrite.proofs.FillingLemmas.{no_items}
use Rattle.tree_rewrite.proofs.fill.push_standing.Goals as goal

pub returns : goal.returns
returns c = λ gs h. record {
  says = λ s.
      let all = c.args.overlay.now.jobs.now in
      let ps = c.args.overlay.now.made.now in
      let n = target_of c.args.overlay.now.target in
      let e = element_of c.args.element in
      let old = after c.args.pieces.now.items s in
      let t = added (reading_of (laid gs n) e) old in
      let none = c.new-path.ensures in
      let at : e ≡ (origin_at e c.new-path.result).origin = ap (λ p. (origin_at e p).origin) (sym none) in
      let begins : added (standing (laid gs n) e c.new-path.result (term_of e)) old ≡ t =
      ap (λ m. added m old) (ap (λ p. standing (laid gs n) e p (term_of e)) none ∙ standing-top (laid gs n) e (term_of e) refl) in
      let entered = c.in_ok-opened.ensures.terms gs e [] s t h at begins in
      let levels : reverse c.push_opened.new.levels.items ≡ with_opened c.in_ok-opened.opened [] =
      c.in_ok-push_opened.ensures ∙ ap (λ l. with_opened c.in_ok-opened.opened (reverse l)) c.new-levels.ensures.items in
      let began = subst (λ l. LeadTo all ps n e c.enter.new.path l (after c.enter.new.pieces.items s) t) (sym levels) entered in
      let ended = c.loop-level.invariant.1 s t began in
      let P : List Level → Type 0 = λ l. LeadTo all ps n e c.loop-level.path (reverse l) (after c.loop-level.pieces.items s) t in
      subst P (no_items c.loop-level.levels.items (omega (arith, c.in_default.ensures.cases.0))) ended;
}
