-- What an editor's changes become: a text that is read, or a refusal.
use Rattle.std.specs.Prelude.{◌≡◌, ◌<◌, ◌≤◌, ℕ, true, false, List, length, map, chars}
use Rattle.rowan_green.specs.Forest.{Tree, tree_text}
use Rattle.rowan_green.specs.declared.text_range.TextRange.{TextRange}
use Rattle.parser_input.specs.Input.{Token}
use Rattle.parser_input.specs.declared.edition.Edition.{Edition}
use Rattle.ra_parser.specs.declared.grammar.Grammar.{Grammar}
use Rattle.syntax_editor.specs.Editing.{Editing}
use Rattle.syntax_editor.specs.Rewriting.{IsIntersecting, MissesMapping, IsPlaceable}
use Rattle.rust_document.specs.Committed.{ends_of}
use Rattle.rust_document.specs.NextReading.{IsNextReading}
use Rattle.rust_document.specs.Rewrite.{rewritten, changed}
use Rattle.rust_document.specs.Step.{MAX_TEXT, is_faithful, is_too_long}
use Rattle.rust_document.specs.declared.read.NextReading.{NextReading}
use Rattle.rust_document.specs.declared.error.CommitError.{CommitError}
use Rattle.rust_document.specs.declared.error.CommitError.TheVariants.{Foreign, Intersecting, MissingMapping, TooLong, Unfaithful, NoTreeNumber, NoMemory}

-- the text is the tree's and within the limit, the reading is the text's after one with an input, and the tree is faithful to it
pub record IsReadBack (grammar : Grammar) (edition : Edition) (t : Tree) (before : List Token) (text : List ℕ) (next : NextReading) : Type 0 where
  pub text_is : text ≡ tree_text t
  pub fits : length (tree_text t) ≤ MAX_TEXT
  pub next_is : IsNextReading grammar edition (chars (tree_text t)) before next
  pub faithful : is_faithful grammar edition t ≡ true

-- the first case that fits; out of memory at any point
abbrev pub RefusesReadBack : Grammar → Edition → Tree → CommitError → Type 0
RefusesReadBack grammar edition t TooLong = MAX_TEXT < length (tree_text t)
RefusesReadBack grammar edition t Unfaithful = (length (tree_text t) ≤ MAX_TEXT) × (is_faithful grammar edition t ≡ false)
RefusesReadBack grammar edition t NoMemory = Unit {0}
RefusesReadBack grammar edition t error = ⊥

-- the changes have places, the rewritten tree is within the limits, and this is its text with its reading, and the inserted
-- ranges
pub record IsRewritten (grammar : Grammar) (edition : Edition) (e : Editing) (before : List Token) (text : List ℕ) (next : NextReading) (ranges : List TextRange) : Type 0 where
  pub placeable : IsPlaceable e
  pub within : is_too_long e ≡ false
  pub read_back : IsReadBack grammar edition (rewritten e) before text next
  pub changed_are : map ends_of ranges ≡ changed e

-- the first case that fits; out of memory at any point
abbrev pub RefusesRewritten : Grammar → Edition → Editing → CommitError → Type 0
RefusesRewritten grammar edition e Foreign = ⊥
RefusesRewritten grammar edition e Intersecting = IsIntersecting e
RefusesRewritten grammar edition e MissingMapping = MissesMapping e
RefusesRewritten grammar edition e TooLong = IsPlaceable e × (is_too_long e ≡ true)
RefusesRewritten grammar edition e Unfaithful = IsPlaceable e × (is_too_long e ≡ false) × (is_faithful grammar edition (rewritten e) ≡ false)
RefusesRewritten grammar edition e NoTreeNumber = ⊥
RefusesRewritten grammar edition e NoMemory = Unit {0}
