use Rattle.std.proofs.Common.{◌≡◌, ◌≤◌, List, ℕ, length, Result, Ok, Err, IfErr, OnOk, ap, sym, ◌∙◌, subst}
use Rattle.rowan_green.specs.Forest.{Tree}
use Rattle.rowan_green.specs.Leaf.{Leaf}
use Rattle.rust_document.specs.Step.{MAX_TEXT, State, present}
use Rattle.renamer.specs.Plain.{IsPlain, LacksRoom}
use Rattle.renamer.specs.Taken.{naming, of_all, taken_text, taken_tree}
use Rattle.renamer.specs.Renamed.{renamed_text, renamed_tree}
use Rattle.renamer.specs.Verdict.{IsAccepted, RefusesTree}
use Rattle.renamer.specs.declared.RenameError.{RenameError}
use Rattle.renamer.proofs.EachToken.{each-text, each-tree}
use Rattle.renamer.proofs.rename.Goals as goal

pub returns-clause-text : goal.returns-clause-text
returns-clause-text c =
    let t = present c.args.document.now in
    subst (λ (text : List ℕ). OnOk c.rename_by.result (c.rename_by.new.document.text ≡ text)) (each-text c.args.old.now c.args.new.now t) c.rename_by.ensures.text

pub returns-clause-renamed : goal.returns-clause-renamed
returns-clause-renamed c =
    let d = c.args.document.now in
    let old = c.args.old.now in
    let new = c.args.new.now in
    subst (λ (tree_with : Leaf → Tree). OnOk c.rename_by.result (IsAccepted d new tree_with)) (λ i token. each-tree old new token (present d) i) c.rename_by.ensures.renamed

pub returns-clause-refused : goal.returns-clause-refused
returns-clause-refused c =
    let d = c.args.document.now in
    let old = c.args.old.now in
    let new = c.args.new.now in
    subst (λ (tree_with : Leaf → Tree). IfErr c.rename_by.result (RefusesTree d new tree_with c.args.ids.now)) (λ i token. each-tree old new token (present d) i) c.rename_by.ensures.refused

pub returns-clause-plain : goal.returns-clause-plain
returns-clause-plain c =
    let d = c.args.document.now in
    let old = c.args.old.now in
    let new = c.args.new.now in
    subst (λ (text : List ℕ). IfErr c.rename_by.result (λ error. IsPlain d old new → length text ≤ MAX_TEXT → LacksRoom c.args.ids.now new error)) (each-text old new (present d)) c.rename_by.ensures.plain
