-- Rewrites of the present tree that are always accepted: the new tree is one of the core language, and whitespace parts its leaves.
use Rattle.std.specs.Prelude.{◌≡◌, false, [], chars}
use Rattle.rowan_green.specs.Forest.{Tree, tree_text}
use Rattle.parser_input.specs.declared.edition.Edition.{Edition}
use Rattle.ra_parser.specs.declared.grammar.Grammar.{Grammar}
use Rattle.syntax_editor.specs.Editing.{Editing}
use Rattle.syntax_editor.specs.Rewriting.{IsPlaceable}
use Rattle.spaced_core.specs.WellSpaced.{IsWellSpaced}
use Rattle.rust_document.specs.Reading.{messages_in}
use Rattle.rust_document.specs.Rewrite.{rewritten}
use Rattle.rust_document.specs.Step.{State, is_foreign, is_too_long, verdict, Accepted}

-- The editor is one of the present tree, each change has its place, the new text is within the limits, and the rewritten tree is
-- well-spaced.
pub record IsWellSpacedRewrite (d : State) (e : Editing) : Type 0 where
  pub own : is_foreign d e ≡ false
  pub placeable : IsPlaceable e
  pub within : is_too_long e ≡ false
  pub spaced : IsWellSpaced d.edition (rewritten e)

-- Such a rewrite is accepted.
abbrev pub WellSpacedRewritesAreAccepted : Type 0
WellSpacedRewritesAreAccepted = (d : State) (e : Editing) → IsWellSpacedRewrite d e → verdict d e ≡ Accepted

-- Its text has no message, by either grammar.
abbrev pub WellSpacedTextsHaveNoMessages : Type 0
WellSpacedTextsHaveNoMessages =
    (grammar : Grammar) (edition : Edition) (t : Tree) → IsWellSpaced edition t → messages_in grammar edition (chars (tree_text t)) ≡ []
