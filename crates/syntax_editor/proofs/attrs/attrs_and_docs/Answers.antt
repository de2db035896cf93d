-- What went so far, and what goes of the children that are left.
use Rattle.std.proofs.Common.{◌++◌, ap, sym, ◌∙◌, rules}
use Rattle.std.proofs.lemmas.List.{append-nil}
use Rattle.rowan.proofs.Walks.{first_given}
use Rattle.syntax_editor.specs.Attrs.{is_attr_or_doc, goes, going}
use Rattle.syntax_editor.proofs.Deletions.{going-next}
use Rattle.syntax_editor.proofs.attrs.attrs_and_docs.Goals as goal

pub loop-child-preserved : goal.loop-child-preserved
loop-child-preserved c =
    let first = first_given _ _ _ _ c.in_ok-child.was c.in-Some.ensures.steps in
    record {
      can = search rules;
      finite = search rules;
      same = going-next _ _ _ _ _ _ _ _ _ first (c.is_attr_or_doc-after.ensures ∙ ap is_attr_or_doc c.raw_kind-kind.ensures.kind) (c.goes.ensures ∙ ap (goes c.loop-child.after) c.raw_kind-kind.ensures.kind) c.in_ok-push_if.ensures c.loop-child.invariant.same;
    }

pub returns : goal.returns
returns c =
    let gone = c.loop-child.gone.items in
    sym (ap (λ l. gone ++ going c.loop-child.after l) c.in-None.ensures.steps.0 ∙ append-nil gone) ∙ c.loop-child.invariant.same
