use Rattle.std.proofs.Common.{refl, sym, ap, ◌∙◌, ◌||◌}
use Rattle.std.specs.List.{list_any}
use Rattle.tree_rewrite.specs.Rewrite.{same_sheet}
use Rattle.tree_rewrite.specs.Reach.{reaches, is_deep}
use Rattle.tree_rewrite.specs.Recorded.{target_of}
use Rattle.tree_rewrite.specs.Fill.{is_deep_on}
use Rattle.tree_rewrite.proofs.SheetLemmas.{split_given, none_given, unset, below_next, below_end}
use Rattle.tree_rewrite.proofs.PathLemmas.{any_along, reaches_deep}
use Rattle.tree_rewrite.proofs.sheet.is_touched.Goals as goal

pub loop-number-init : goal.loop-number-init
loop-number-init c = λ gs h. (gs, h, λ w l p b i. (refl, refl), refl)

pub loop-number-preserved : goal.loop-number-preserved
loop-number-preserved c = λ gs h.
    let old = c.loop-number.invariant gs h in
    let s = split_given c.args.overlay.now.jobs.now c.args.overlay.now.made.now c.loop-number.rest.now c.in-Some.before.now c.in-Some.number.now old.0 c.in-Some.ensures.cases.0 old.1 in
    let n = target_of c.args.overlay.now.target in
    let d = c.args.depth in
    let x = s.given.0.change in
    let m = same_sheet s.given.0.sheet n in
    let untouched = sym (c.is_deep.ensures s.given s.numbered) ∙ c.if-is_deep.false in
    let any = list_any (is_deep_on n d) in (
      s.rest,
      s.have,
      λ w l. below_next s.given gs old.0 s.rest n w s.is (unset m (reaches w x) (is_deep d x) (reaches_deep w x d l) untouched) (old.2 w l),
      old.3 ∙ ap any s.is ∙ ap (λ b. b || any s.rest) untouched,
    )

pub returns-then-is_deep-clause-touched : goal.returns-then-is_deep-clause-touched
returns-then-is_deep-clause-touched c = λ gs w h l a.
    let old = c.loop-number.invariant gs h in
    let s = split_given c.args.overlay.now.jobs.now c.args.overlay.now.made.now c.loop-number.rest.now c.in-Some.before.now c.in-Some.number.now old.0 c.in-Some.ensures.cases.0 old.1 in
    let any = list_any (is_deep_on (target_of c.args.overlay.now.target) c.args.depth) in
    sym (old.3 ∙ ap any s.is ∙ ap (λ b. b || any s.rest) (sym (c.is_deep.ensures s.given s.numbered) ∙ c.if-is_deep.true)) ∙ any_along gs (target_of c.args.overlay.now.target) w c.args.depth l a

pub returns-clause-touched : goal.returns-clause-touched
returns-clause-touched c = λ gs w h l a.
    let old = c.loop-number.invariant gs h in
    let none = none_given c.args.overlay.now.jobs.now c.args.overlay.now.made.now c.loop-number.rest.now old.0 c.in_default.ensures.cases old.1 in
    sym (old.3 ∙ ap (list_any (is_deep_on (target_of c.args.overlay.now.target) c.args.depth)) none) ∙ any_along gs (target_of c.args.overlay.now.target) w c.args.depth l a

pub returns-clause-blank : goal.returns-clause-blank
returns-clause-blank c = λ gs w h l.
    let old = c.loop-number.invariant gs h in
    below_end gs old.0 (target_of c.args.overlay.now.target) w (none_given c.args.overlay.now.jobs.now c.args.overlay.now.made.now c.loop-number.rest.now old.0 c.in_default.ensures.cases old.1) (old.2 w l)
