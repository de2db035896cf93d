use Rattle.std.proofs.Common.{◌≡◌, [], true, chars, Some}
use Rattle.std.proofs.Math.Utf8.{encodes}
use Rattle.rowan_green.specs.declared.utility_types.NodeOrToken.TheVariants.{Token}
use Rattle.parser_input.specs.Kinds.{IDENT}
use Rattle.plain_names.specs.Forests.{leaf_of}
use Rattle.syntax_tree.specs.Element.{term_of}
use Rattle.syntax_tree.specs.Handle.{element_of, elements_left}
use Rattle.syntax_tree.specs.Search.{elements}
use Rattle.syntax_editor.specs.Editing.{untouched, with_changes}
use Rattle.rust_document.specs.Renames.{is_plain_name}
use Rattle.rust_document.specs.Step.{present, root_element}
use Rattle.renamer.proofs.Changes.{changes_after}
use Rattle.renamer.proofs.NewLeaves.{HasText}
use Rattle.renamer.proofs.Walked.{AreOfTree}
use Rattle.renamer.specs.Taken.{naming}
use Rattle.renamer.proofs.rename_by.Given as goal

abbrev pub invariant-loop-element : goal.invariant-loop-element
invariant-loop-element l = record {
  own : l.editor ≡ with_changes (untouched (root_element l.document)) l.editor.changes;
  rest : changes_after (naming l.old l.new l.leaves_macro_names) (element_of l.token) l.editor.changes (elements_left l.element-iterator)
      ≡ changes_after (naming l.old l.new l.leaves_macro_names) (element_of l.token) [] (elements (root_element l.document));
  text : HasText l.document.edition l.new (element_of l.token);
  leaf : is_plain_name l.document.edition (chars l.new) ≡ true → term_of (element_of l.token) ≡ Some (Token (leaf_of IDENT (encodes (chars l.new))));
  leaves : AreOfTree l.document.number (present l.document) (elements_left l.element-iterator);
}
