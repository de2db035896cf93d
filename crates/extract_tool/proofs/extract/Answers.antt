-- The two changes, and what they put.
use Rattle.std.proofs.Common.{◌≡◌, ℕ, ◌+◌, List, [], ◌∷◌, ap, sym, ◌∙◌, subst, arith, append_assoc}
use Rattle.std.proofs.lemmas.Grind.{common_steps}
use Rattle.rust_source.specs.Changes.{Accepted, ChangesBy, Editing, HaveNoMessages, Recorded, inserting, replacing, rewritten, tree_text, untouched, verdict, with_changes}
use Rattle.rust_source.specs.Elements.{PATH_EXPR, State, index_of, root_element}
use Rattle.rust_source.specs.Held.{Held}
use Rattle.rust_source.specs.Lines.{IsLineIndent, line_break}
use Rattle.rust_source.specs.Nodes.{IsFound, expression_payload, first_node, only_node, statements_payload}
use Rattle.rust_source.proofs.Recorded.{two-changes}
use Rattle.extract_tool.specs.Extracts.{Parts, binding_text, extraction}
use Rattle.extract_tool.proofs.extract.Goals as goal

recorded :
    (s h : Held) (p : Parts) (start one two : Editing) → h.document ≡ s.document → h.next ≡ s.next + 2 → start ≡ untouched (root_element h.document)
    → inserting start p.parent (index_of p.statement.place) (p.binding ∷ (line_break h.next p.indent ∷ [])) ≡ Recorded one.changes → one ≡ with_changes start one.changes
    → replacing one p.argument (p.path ∷ []) ≡ Recorded two.changes → two ≡ with_changes one two.changes → two ≡ extraction s p
recorded s h p start one two doc num fresh inserted own replaced last =
    let top = root_element s.document in
    let t : start ≡ untouched top = fresh ∙ ap (λ (d : State). untouched (root_element d)) doc in
    let i : inserting (untouched top) p.parent (index_of p.statement.place) (p.binding ∷ (line_break (s.next + 2) p.indent ∷ [])) ≡ Recorded one.changes =
    sym (λ j. inserting (t j) p.parent (index_of p.statement.place) (p.binding ∷ (line_break (num j) p.indent ∷ []))) ∙ inserted in
    let o : one ≡ with_changes (untouched top) one.changes = own ∙ ap (λ (e : Editing). with_changes e one.changes) t in
    let r : replacing (with_changes (untouched top) one.changes) p.argument (p.path ∷ []) ≡ Recorded two.changes =
    ap (λ (e : Editing). replacing e p.argument (p.path ∷ [])) (sym o) ∙ replaced in
    let both =
    two-changes top p.parent p.argument (index_of p.statement.place) (p.binding ∷ (line_break (s.next + 2) p.indent ∷ [])) (p.path ∷ []) one.changes two.changes i r in
    last ∙ (λ j. with_changes (o j) (both j))

changed :
    (d old after : State) (e f : Editing) → old ≡ d → e ≡ f → verdict old e ≡ Accepted → HaveNoMessages old e → after.edition ≡ old.edition → after.grammar ≡ old.grammar
    → after.text ≡ tree_text (rewritten e)
    → ChangesBy d after f
changed d old after e f doc same accepted no_messages edition grammar text =
    let made : ChangesBy old after e = record { accepted = accepted; no_messages = no_messages; edition = edition; grammar = grammar; text = text } in
    subst (λ (x : State). ChangesBy x after f) doc (subst (λ (x : Editing). ChangesBy old after x) same made)

pub returns-clause-answers : goal.returns-clause-answers
returns-clause-answers c =
    let s = c.args.source.now in
    let name = c.args.name.now in
    let put = c.in_ok-insert_on_line_before.ensures.recorded in
    let doc1 : c.payload_statement.new.self.document ≡ s.document = c.payload_statement.ensures.document in
    let doc2 : c.payload_node.new.self.document ≡ s.document = c.payload_node.ensures.document ∙ doc1 in
    let doc3 : c.insert_on_line_before.new.self.document ≡ s.document = c.insert_on_line_before.ensures.document ∙ doc2 in
    let next1 : c.payload_statement.new.self.next ≡ s.next + 1 = c.in_ok-payload_statement.ensures.number in
    let step : c.payload_node.new.self.next ≡ c.payload_statement.new.self.next + 1 = c.in_ok-path.ensures.number in
    let next2 : c.payload_node.new.self.next ≡ s.next + 2 = omega (arith, step, next1) in
    let argument = c.in-Some.argument in
    let path = c.in_ok-path.path in
    let parts : Parts = record { argument = argument; statement = c.in-Some-2.statement; parent = put.parent; indent = put.indent; binding = c.in_ok-payload_statement.field-0; path = path } in
    let text : c.as_str.result.now ≡ binding_text name argument = grind (arith, common_steps, append_assoc, c.as_str.ensures.value, c.in_ok-text.ensures.ok, c.cursor.ensures) in
    record {
      is_free = sym c.has_identifier.ensures ∙ c.if-has_identifier.false;
      parts = parts;
      are_parts = record {
        argument_is = cc (c.root.ensures, c.in_ok-argument.ensures, c.in-Some.is);
        statement_is = sym c.in_ok-statement.ensures ∙ c.in-Some-2.is;
        parent_is = put.parent_is;
        indent_is = subst (λ (d : State). IsLineIndent d.text c.in-Some-2.statement put.indent) doc2 put.indent_is;
        binding_is = subst (λ (x : List ℕ). IsFound only_node s.next (statements_payload s.document.grammar s.document.edition x) c.in_ok-payload_statement.field-0) text c.in_ok-payload_statement.ensures.found;
        path_is =
            subst (λ (n : ℕ). IsFound (first_node PATH_EXPR) n (expression_payload s.document.grammar s.document.edition name) path) next1
            (subst (λ (d : State). IsFound (first_node PATH_EXPR) c.payload_statement.new.self.next (expression_payload d.grammar d.edition name) path) doc1 c.in_ok-path.ensures.found);
      };
      changed =
          changed s.document c.insert_on_line_before.new.self.document c.commit_without_messages.new.self.document c.replace.new.self (extraction s parts) doc3
          (recorded s c.payload_node.new.self parts c.in_ok-editor.editor c.insert_on_line_before.new.editor c.replace.new.self doc2 next2 c.in_ok-editor.ensures put.recorded
          c.in_ok-insert_on_line_before.ensures.rest c.in_ok-replace.ensures.recorded c.in_ok-replace.ensures.rest)
          c.in_ok-commit_without_messages.ensures.accepted c.in_ok-commit_without_messages.ensures.no_messages (ap (λ (h : Held). h.document.edition) c.in_ok-commit_without_messages.ensures.state)
          (ap (λ (h : Held). h.document.grammar) c.in_ok-commit_without_messages.ensures.state)
          (ap (λ (h : Held). h.document.text) c.in_ok-commit_without_messages.ensures.state);
    }
