-- The verdict on an editor in which all tokens that are renamed were replaced.
use Rattle.std.proofs.Common.{◌≡◌, ◌≤◌, ◌<◌, ◌+◌, ◌*◌, ◌^◌, ℕ, Bool, true, false, not, ◌||◌, nat_lt, List, [], ◌∷◌, length, chars, refl, ap, sym, ◌∙◌, subst, append-nil, arith, Some, inl, inr}
use Rattle.std.specs.Prelude.{encode_utf8}
use Rattle.std.specs.Str.{IsUtf8}
use Rattle.std.proofs.lemmas.Bool.{cases_Bool, ltb-false}
use Rattle.std.proofs.lemmas.List.{length-map}
use Rattle.rustc_lexer.specs.Rows.{first_fit}
use Rattle.rowan_green.specs.Leaf.{Leaf}
use Rattle.rowan_green.specs.Forest.{Forest, empty, node, Tree, forest_text, forest_count, tree_text}
use Rattle.rowan_green.specs.declared.utility_types.NodeOrToken.TheVariants.{Token}
use Rattle.parser_input.specs.Lexed.{Lexed, lexed}
use Rattle.parser_events.specs.Dress.{dress_root}
use Rattle.parser_events.specs.TextSteps.{text_steps}
use Rattle.rust_grammar.specs.Laws.{is_entry}
use Rattle.rust_grammar.specs.Rule.{source_file}
use Rattle.rust_grammar.proofs.EntriesShort.{entry-short}
use Rattle.ra_parser.specs.Grammars.{is_whole}
use Rattle.plain_names.specs.Trees.{dressed_forest}
use Rattle.plain_names.proofs.Followed.{elements-steps}
use Rattle.plain_changes.proofs.Fits.{small-fit}
use Rattle.plain_changes.specs.LeafChanges.{whole}
use Rattle.syntax_tree.specs.Element.{Element, term_of}
use Rattle.syntax_tree.specs.Search.{elements}
use Rattle.syntax_tree.specs.declared.element.SyntaxElement.{SyntaxElement}
use Rattle.tree_rewrite.specs.Change.{Change, has_collision}
use Rattle.tree_rewrite.specs.Fits.{new_fits}
use Rattle.tree_rewrite.specs.Marked.{forest_in}
use Rattle.tree_rewrite.specs.Rewrite.{jobs}
use Rattle.syntax_editor.specs.Editing.{Editing, untouched, with_changes}
use Rattle.syntax_editor.specs.Rewriting.{rewriting}
use Rattle.rust_document.specs.Open.{IsOpened}
use Rattle.rust_document.specs.Reading.{leaves_in, root_of, tree_in}
use Rattle.rust_document.specs.Rewrite.{rewritten}
use Rattle.rust_document.specs.Step.{MAX_TEXT, State, is_faithful, is_too_long, present, root_element, verdict}
use Rattle.rust_document.proofs.PlainRenamings.{own-tree}
use Rattle.rust_document.proofs.RenamedReadings.{old_forest, present-one}
use Rattle.rust_document.proofs.Sizes.{count-all}
use Rattle.rust_document.proofs.Verdicts.{misses, placed, verdict-is}
use Rattle.renamer.specs.Taken.{Naming, taken_tree}
use Rattle.renamer.specs.Verdict.{tree_verdict}
use Rattle.renamer.proofs.Changes.{changes_after}
use Rattle.renamer.proofs.Walked.{Rewritten, changes-all, changes-apart, editor-is, rewritten-tree}

-- the present tree has few elements
present-few : (d : State) → IsUtf8 d.text → IsOpened d.text → forest_count (whole (present d)) < 2 ^ 32
unfolding is_entry
present-few d u o =
    let ls = leaves_in d.edition (chars d.text) in
    let dressed_tree = dress_root (old_forest d.grammar d.edition d.text) ls in
    let own : forest_count (whole (present d)) ≡ forest_count (dressed_forest encode_utf8 dressed_tree) = ap forest_count (sym (present-one d.grammar d.edition d.text)) in
    let steps = elements-steps encode_utf8 dressed_tree in
    let short : length (text_steps dressed_tree) ≤ 65 * length ls + 67 = entry-short source_file (is_whole d.grammar) d.edition ls refl in
    let leaves = length-map (lexed d.edition (chars d.text)) (λ (l : Lexed). l.leaf) in
    let few = count-all d.edition d.text u in
    omega (arith, own, steps, short, leaves, few, o)

-- the editor whose changes are those of all elements
abbrev all_taken : State → Naming → Element → Editing
all_taken d by e = with_changes (untouched (root_element d)) (changes_after by e [] (elements (root_element d)))

module _ (d : State) (by : Naming) (new : Leaf) (e : Element) (u : IsUtf8 d.text) (o : IsOpened d.text) (is : term_of e ≡ Some (Token new)) where
  abbrev tree_after : Tree
  tree_after = taken_tree by new (present d)

  made : Rewritten by new (changes_after by e [] (elements (root_element d))) (root_element d) []
  made = rewritten-tree by d.number (present d) new e [] is

  tree-is : rewritten (all_taken d by e) ≡ tree_after
  tree-is = ap root_of made.is

  fits : length (tree_text tree_after) ≤ MAX_TEXT → new_fits (rewriting (all_taken d by e)) ≡ true
  fits short =
      let few = present-few d u o in
      let count = ap forest_count made.is in
      let text : length (forest_text (forest_in (rewriting (all_taken d by e)))) ≡ length (tree_text tree_after) =
      ap (λ (f : Forest). length (forest_text f)) made.is ∙ ap (λ (bs : List ℕ). length bs) (append-nil (forest_text tree_after.forest)) in
      small-fit (rewriting (all_taken d by e)) (omega (arith, few, count, made.count)) (omega (arith, text, short))

  long-is : is_too_long (all_taken d by e) ≡ nat_lt MAX_TEXT (length (tree_text tree_after))
  long-is =
      ap (λ (t : Tree). nat_lt MAX_TEXT (length (tree_text t)) || not (new_fits (rewriting (all_taken d by e)))) tree-is
      ∙ elim (cases_Bool (nat_lt MAX_TEXT (length (tree_text tree_after)))) [
        | inl y ↦ ap (λ (b : Bool). b || not (new_fits (rewriting (all_taken d by e)))) y ∙ sym y
        | inr n ↦ ap (λ (b : Bool). nat_lt MAX_TEXT (length (tree_text tree_after)) || not b) (fits (ltb-false MAX_TEXT (length (tree_text tree_after)) n)) ∙ ap (λ (b : Bool). b || false) n ∙ sym n
      ]

  pub verdict-all : verdict d (all_taken d by e) ≡ tree_verdict d (taken_tree by new (present d))
  unfolding first_fit
  verdict-all =
      let apart : has_collision (changes_after by e [] (elements (root_element d))) ≡ false = ap has_collision (changes-all by new e (root_element d)) ∙ changes-apart by new e (root_element d) in
      verdict-is d (all_taken d by e) false false false (nat_lt MAX_TEXT (length (tree_text tree_after))) (not (is_faithful d.grammar d.edition tree_after)) (own-tree d (all_taken d by e) refl) apart
      (placed false (jobs (root_element d) (changes_after by e [] (elements (root_element d))) []) made.placed).1 long-is
      (ap (λ (t : Tree). not (is_faithful d.grammar d.edition t)) tree-is)

  -- an editor that took all elements
  pub verdict-renamed : (editor : Editing) (left : List SyntaxElement) → left ≡ [] → editor ≡ with_changes (untouched (root_element d)) editor.changes
      → changes_after by e editor.changes left ≡ changes_after by e [] (elements (root_element d)) → verdict d editor ≡ tree_verdict d (taken_tree by new (present d))
  verdict-renamed editor left none own rest = ap (verdict d) (editor-is by d.number (present d) new e editor left is none own rest) ∙ verdict-all
