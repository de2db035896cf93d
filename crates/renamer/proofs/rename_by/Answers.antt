use Rattle.std.specs.Str.{IsUtf8}
use Rattle.std.proofs.Common.{rules, ◌≡◌, ◌≤◌, ◌+◌, ℕ, List, length, chars, ap, sym, ◌∙◌, subst}
use Rattle.syntax_tree.specs.Handle.{element_of, elements_left}
use Rattle.syntax_tree.specs.Search.{elements}
use Rattle.syntax_tree.specs.declared.element.SyntaxElement.{SyntaxElement}
use Rattle.syntax_editor.specs.Editing.{Editing, untouched, with_changes}
use Rattle.parser_input.specs.declared.edition.Edition.{Edition}
use Rattle.rust_document.specs.Payload.{RefusesPayload, token_payload}
use Rattle.rust_document.specs.Renames.{is_plain_name}
use Rattle.rust_document.specs.Rewrite.{rewritten}
use Rattle.rust_document.specs.Commit.{RefusesCommit}
use Rattle.rust_document.specs.Step.{MAX_TEXT, State, Verdict, present, root_element, verdict}
use Rattle.rowan_green.specs.Forest.{tree_text}
use Rattle.renamer.specs.Taken.{Naming, naming, taken_text, taken_tree}
use Rattle.renamer.specs.Verdict.{RefusesTree, tree_verdict}
use Rattle.rowan_green.specs.Leaf.{Leaf}
use Rattle.rowan_green.specs.Forest.{Tree}
use Rattle.renamer.specs.declared.RenameError.TheVariants.{NoToken, NotRecorded, Refused}
use Rattle.renamer.proofs.Changes.{changes_after, named-next, other-next}
use Rattle.renamer.proofs.NewLeaves.{HasText, has-text}
use Rattle.renamer.proofs.PlainRenames.{IfPlain, commit-refused, err-by, plain-renaming, plain-token, record-memory, record-refused, token-refused}
use Rattle.renamer.proofs.Walked.{AreOfTree, named-recorded, named-tree, of-tree-rest, renamed-editor, tree-elements}
use Rattle.renamer.proofs.Verdicts.{verdict-renamed}
use Rattle.renamer.proofs.rename_by.Goals.{then-branch+in_ok-replace, else-branch}
use Rattle.renamer.proofs.rename_by.Goals as goal

pub loop-element-init : goal.loop-element-init
loop-element-init c =
    record {
      own = search rules;
      rest = search rules;
      text =
          subst (λ (edition : Edition). HasText edition c.args.new.now (element_of c.in_ok-token.token)) c.edition.ensures
          (has-text c.edition.result c.args.new.now _ (element_of c.in_ok-token.token) c.utf8.new c.in_ok-token.ensures.given);
      leaf = λ h. plain-token c.edition.result c.args.new.now _ (element_of c.in_ok-token.token) (ap (λ (edition : Edition). is_plain_name edition (chars c.args.new.now)) c.edition.ensures ∙ h) c.in_ok-token.ensures.given;
      leaves =
          let all : elements (root_element c.args.document.now) ≡ elements_left c.into_iter-element-iterator.result = search rules in
          subst (λ (xs : List SyntaxElement). AreOfTree c.args.document.now.number (present c.args.document.now) xs) all (tree-elements c.args.document.now.number (present c.args.document.now));
    }

pub loop-element-preserved : goal.loop-element-preserved
loop-element-preserved c =
    let token = element_of c.loop-element.token-1 in
    let by = naming c.args.old.now c.args.new.now c.args.leaves_macro_names in
    let before = c.loop-element.editor in
    let left = elements_left c.loop-element.element-iterator in
    let rest = elements_left c.next.new.self in
    let entered = rw c.in_ok-element.was at c.in-Some.ensures.steps in
    elim c.if-branch.branch [
      | then-branch+in_ok-replace w ↦ record {
        own =
            subst (λ (x : Editing). x ≡ with_changes (untouched (root_element c.args.document.now)) x.changes) (sym w.editor-is)
            (w.in_ok-replace.ensures.rest ∙ ap (λ (x : Editing). with_changes x w.replace.new.self.changes) c.loop-element.invariant.own);
        rest =
            ap (λ (x : Editing). changes_after by token x.changes rest) w.editor-is
            ∙ named-next by token before w.replace.new.self c.in_ok-element.element left rest _ entered (sym c.in_ok-takes.ensures ∙ w.if-branch.true)
            w.in_ok-replace.ensures.recorded c.loop-element.invariant.rest;
        text = c.loop-element.invariant.text;
        leaf = c.loop-element.invariant.leaf;
        leaves = of-tree-rest _ _ c.in_ok-element.element left rest entered c.loop-element.invariant.leaves;
      }
      | else-branch w ↦ record {
        own = subst (λ (x : Editing). x ≡ with_changes (untouched (root_element c.args.document.now)) x.changes) (sym w.editor-is) c.loop-element.invariant.own;
        rest =
            ap (λ (x : Editing). changes_after by token x.changes rest) w.editor-is
            ∙ other-next by token before.changes c.in_ok-element.element left rest _ entered (sym c.in_ok-takes.ensures ∙ w.if-branch.false) c.loop-element.invariant.rest;
        text = c.loop-element.invariant.text;
        leaf = c.loop-element.invariant.leaf;
        leaves = of-tree-rest _ _ c.in_ok-element.element left rest entered c.loop-element.invariant.leaves;
      }
    ]

pub returns-clause-text : goal.returns-clause-text
returns-clause-text c =
    let token = element_of c.loop-element.token-1 in
    let by = naming c.args.old.now c.args.new.now c.args.leaves_macro_names in
    let document = c.args.document.now in
    let text = c.loop-element.invariant.text in
    ap (λ (d : State). d.text) c.in_ok-commit.ensures.state
    ∙ renamed-editor by document.number (present document) text.0 token c.loop-element.editor (elements_left c.loop-element.element-iterator) text.1 c.in-None.ensures.steps.0
    c.loop-element.invariant.own c.loop-element.invariant.rest text.2

pub returns-in_err-token-clause-plain : goal.returns-in_err-token-clause-plain
returns-in_err-token-clause-plain c =
    let number = c.args.ids.now in
    let new = c.args.new.now in
    let why = c.in_err-token.field-0.0 in
    let refused = subst (λ (edition : Edition). RefusesPayload number (token_payload edition new) why) c.edition.ensures c.in_err-token.ensures.refused in
    err-by _ (IfPlain c.args.document.now (naming c.args.old.now c.args.new.now c.args.leaves_macro_names) number) (NoToken why) c.from_residual.ensures.1 (λ plain fits. token-refused _ new number why plain.new_plain refused)

pub returns-in_err-replace-clause-plain : goal.returns-in_err-replace-clause-plain
returns-in_err-replace-clause-plain c =
    let document = c.args.document.now in
    let number = c.args.ids.now in
    let new = c.args.new.now in
    let token = element_of c.loop-element.token-1 in
    let left = elements_left c.loop-element.element-iterator in
    let rest = elements_left c.next.new.self in
    let entered = rw c.in_ok-element.was at c.in-Some.ensures.steps in
    let why = c.in_err-replace.field-0.0 in
    let recorded =
    named-recorded (naming c.args.old.now c.args.new.now c.args.leaves_macro_names) document.number (present document) token c.loop-element.editor c.in_ok-element.element left rest entered c.loop-element.invariant.leaves
    (sym c.in_ok-takes.ensures ∙ c.if-branch.true) (ap (λ (x : Editing). x.top) c.loop-element.invariant.own) in
    err-by _ (IfPlain document (naming c.args.old.now c.args.new.now c.args.leaves_macro_names) number) (NotRecorded why) c.from_residual-in_err-replace.ensures.1 (λ plain fits. record-refused _ _ number new why recorded c.in_err-replace.ensures.refused)

pub returns-in_err-commit-clause-plain : goal.returns-in_err-commit-clause-plain
returns-in_err-commit-clause-plain c =
    let document = c.args.document.now in
    let number = c.args.ids.now in
    let by = naming c.args.old.now c.args.new.now c.args.leaves_macro_names in
    let new = c.args.new.now in
    let token = element_of c.loop-element.token-1 in
    let editor = c.loop-element.editor in
    let left = elements_left c.loop-element.element-iterator in
    let held = c.loop-element.invariant in
    let none = c.in-None.ensures.steps.0 in
    let why = c.in_err-commit.field-0.0 in
    let same : tree_text (rewritten editor) ≡ taken_text by (present document) =
    renamed-editor by document.number (present document) held.text.0 token editor left held.text.1 none held.own held.rest held.text.2 in
    err-by _ (IfPlain document by number) (Refused why) c.from_residual-in_err-commit.ensures.1
    (λ plain fits.
    let renaming = plain-renaming document by token editor (elements (root_element document)) left c.utf8.old c.utf8.new plain (held.leaf plain.new_plain) (named-tree by document.number (present document)) none held.own held.rest in
    let short = subst (λ (text : List ℕ). length text ≤ MAX_TEXT) (sym same) fits in
    commit-refused number _ new why c.in_ok-token.ensures.number (c.in_err-commit.ensures.renames renaming short))

pub returns-clause-renamed : goal.returns-clause-renamed
returns-clause-renamed c =
    let held = c.loop-element.invariant in
    let document = c.args.document.now in
    let same =
    verdict-renamed document (naming c.args.old.now c.args.new.now c.args.leaves_macro_names) held.text.0 (element_of c.loop-element.token-1) (subst IsUtf8 c.text.ensures.text c.text.utf8) c.text.ensures.fits held.text.1 c.loop-element.editor
    (elements_left c.loop-element.element-iterator) c.in-None.ensures.steps.0 held.own held.rest in
    record { token = held.text.0; is = held.text.3; accepted = sym same ∙ c.in_ok-commit.ensures.accepted }

pub returns-in_err-token-clause-refused : goal.returns-in_err-token-clause-refused
returns-in_err-token-clause-refused c =
    let number = c.args.ids.now in
    let why = c.in_err-token.field-0.0 in
    err-by _ (RefusesTree c.args.document.now c.args.new.now (λ (token : Leaf). taken_tree (naming c.args.old.now c.args.new.now c.args.leaves_macro_names) token (present c.args.document.now)) number) (NoToken why) c.from_residual.ensures.1
    (subst (λ (edition : Edition). RefusesPayload number (token_payload edition c.args.new.now) why) c.edition.ensures c.in_err-token.ensures.refused)

pub returns-in_err-replace-clause-refused : goal.returns-in_err-replace-clause-refused
returns-in_err-replace-clause-refused c =
    let document = c.args.document.now in
    let number = c.args.ids.now in
    let token = element_of c.loop-element.token-1 in
    let left = elements_left c.loop-element.element-iterator in
    let entered = rw c.in_ok-element.was at c.in-Some.ensures.steps in
    let why = c.in_err-replace.field-0.0 in
    let recorded =
    named-recorded (naming c.args.old.now c.args.new.now c.args.leaves_macro_names) document.number (present document) token c.loop-element.editor c.in_ok-element.element left (elements_left c.next.new.self) entered c.loop-element.invariant.leaves
    (sym c.in_ok-takes.ensures ∙ c.if-branch.true) (ap (λ (x : Editing). x.top) c.loop-element.invariant.own) in
    err-by _ (RefusesTree document c.args.new.now (λ (token : Leaf). taken_tree (naming c.args.old.now c.args.new.now c.args.leaves_macro_names) token (present c.args.document.now)) number) (NotRecorded why) c.from_residual-in_err-replace.ensures.1
    (record-memory document c.args.new.now (λ (token : Leaf). taken_tree (naming c.args.old.now c.args.new.now c.args.leaves_macro_names) token (present c.args.document.now)) _ _ number why recorded c.in_err-replace.ensures.refused)

pub returns-in_err-commit-clause-refused : goal.returns-in_err-commit-clause-refused
returns-in_err-commit-clause-refused c =
    let held = c.loop-element.invariant in
    let document = c.args.document.now in
    let number = c.args.ids.now in
    let why = c.in_err-commit.field-0.0 in
    let same =
    verdict-renamed document (naming c.args.old.now c.args.new.now c.args.leaves_macro_names) held.text.0 (element_of c.loop-element.token-1) (subst IsUtf8 c.text.ensures.text c.text.utf8) c.text.ensures.fits held.text.1 c.loop-element.editor
    (elements_left c.loop-element.element-iterator) c.in-None.ensures.steps.0 held.own held.rest in
    let refused = subst (λ (n : ℕ). RefusesCommit (verdict document c.loop-element.editor) n why) c.in_ok-token.ensures.number c.in_err-commit.ensures.refused in
    err-by _ (RefusesTree document c.args.new.now (λ (token : Leaf). taken_tree (naming c.args.old.now c.args.new.now c.args.leaves_macro_names) token (present c.args.document.now)) number) (Refused why) c.from_residual-in_err-commit.ensures.1
    (held.text.0, held.text.3, subst (λ (v : Verdict). RefusesCommit v (number + 1) why) same refused)
