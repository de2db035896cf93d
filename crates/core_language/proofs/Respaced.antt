-- The leaves of a core tree, spaced, are a core list of that tree.
use Rattle.std.proofs.Common.{[], refl, ap, sym, ◌∙◌}
use Rattle.parser_input.specs.Kinds.{SOURCE_FILE}
use Rattle.parser_events.specs.Forest.{Forest, End, Node}
use Rattle.core_language.specs.Spaced.{spaced, spaced_before}
use Rattle.core_language.specs.Laws.{SpacedCoreFilesAreCore, SpacedCoreTypesAreCore, SpacedCoreExpressionsAreCore}
use Rattle.core_language.proofs.Apart.{apart, apart_type, apart_items}
use Rattle.core_language.proofs.Spaced.{spaced-type, spaced-expression, spaced-items}
use Rattle.core_language.proofs.Same.{same-type, same-expression, same-items, still-expression, still-items}

pub files-spaced : SpacedCoreFilesAreCore
unfolding spaced_before
files-spaced tokens tree floats c = record {
  items = apart_items c.items floats;
  well_formed = still-items c.items floats c.well_formed;
  has_tokens = sym (spaced-items c.items End floats (λ left. [])) ∙ ap (λ (f : Forest). spaced f floats) c.has_tree;
  has_tree = ap (λ (f : Forest). Node SOURCE_FILE f End) (same-items c.items End floats) ∙ c.has_tree;
}

pub types-spaced : SpacedCoreTypesAreCore
unfolding spaced_before
types-spaced tokens tree floats c = record {
  type = apart_type c.type;
  has_tokens = sym (spaced-type c.type floats (λ left. [])) ∙ ap (λ (f : Forest). spaced f floats) c.has_tree;
  has_tree = same-type c.type End End refl ∙ c.has_tree;
}

pub expressions-spaced : SpacedCoreExpressionsAreCore
unfolding spaced_before
expressions-spaced tokens tree floats c = record {
  expression = apart c.expression floats;
  well_formed = still-expression c.expression floats c.well_formed;
  has_tokens = sym (spaced-expression c.expression floats (λ left. [])) ∙ ap (λ (f : Forest). spaced f floats) c.has_tree;
  has_tree = same-expression c.expression End floats ∙ c.has_tree;
}
