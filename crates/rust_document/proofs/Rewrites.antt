-- What an editor's changes become.
use Rattle.std.proofs.Common.{◌≡◌, ℕ, Bool, true, false, not, ◌||◌, nat_lt, List, length, refl, sym, ap, subst}
use Rattle.std.proofs.lemmas.Bool.{lt-ltb, le-ltb}
use Rattle.rowan_green.specs.Forest.{Tree, tree_text}
use Rattle.rowan_green.specs.declared.text_range.TextRange.{TextRange}
use Rattle.parser_input.specs.Input.{Token}
use Rattle.parser_input.specs.declared.edition.Edition.{Edition}
use Rattle.tree_rewrite.specs.Changed.{AreChanged}
use Rattle.tree_rewrite.specs.Fits.{IsNode, new_fits}
use Rattle.syntax_editor.specs.Editing.{Editing}
use Rattle.syntax_editor.specs.Rewriting.{rewriting, IsPlaceable, RefusesRewriting}
use Rattle.syntax_editor.specs.declared.error.RewriteError.{RewriteError}
use Rattle.syntax_editor.specs.declared.error.RewriteError.TheVariants as rewrites
use Rattle.ra_parser.specs.declared.grammar.Grammar.{Grammar}
use Rattle.rust_document.specs.Commit.{of_rewrite}
use Rattle.rust_document.specs.Reading.{root_of}
use Rattle.rust_document.specs.Rewrite.{rewritten}
use Rattle.rust_document.specs.Rewritten.{IsReadBack, RefusesReadBack, IsRewritten, RefusesRewritten}
use Rattle.rust_document.specs.Step.{MAX_TEXT, is_too_long}
use Rattle.rust_document.specs.declared.read.NextReading.{NextReading}
use Rattle.rust_document.specs.declared.error.CommitError.{CommitError}
use Rattle.rust_document.specs.declared.error.CommitError.TheVariants as refusals

pub rewritten-is : (e : Editing) (t : Tree) → IsNode (rewriting e) t → rewritten e ≡ t
rewritten-is e t is = ap root_of is

pub within : (e : Editing) (b : Bool) → nat_lt MAX_TEXT (length (tree_text (rewritten e))) ≡ b → new_fits (rewriting e) ≡ true → is_too_long e ≡ b
within e b long fits = either-or _ _ b long fits
  where
    either-or : (a c b : Bool) → a ≡ b → c ≡ true → (a || not c) ≡ b
    either-or a c true p q = rw p refl
    either-or a c false p q = rw (p, q) refl

-- a tree that is read back
pub read : (grammar : Grammar) (edition : Edition) (e : Editing) (t : Tree) (before : List Token) (text : List ℕ) (next : NextReading) (ranges : List TextRange) → IsPlaceable e → IsNode (rewriting e) t → new_fits (rewriting e) ≡ true
    → AreChanged ranges (rewriting e) → IsReadBack grammar edition t before text next → IsRewritten grammar edition e before text next ranges
read grammar edition e t before text next ranges placeable is fits ranges-are back =
    let same = rewritten-is e t is in
    let own = subst (λ (u : Tree). IsReadBack grammar edition u before text next) (sym same) back in
    record { placeable = placeable; within = within e false (le-ltb MAX_TEXT (length (tree_text (rewritten e))) own.fits) fits; read_back = own; changed_are = ranges-are }

-- a tree that is not
pub not-read : (grammar : Grammar) (edition : Edition) (e : Editing) (t : Tree) (error : CommitError) → IsPlaceable e → IsNode (rewriting e) t → new_fits (rewriting e) ≡ true → RefusesReadBack grammar edition t error → RefusesRewritten grammar edition e error
not-read grammar edition e t error placeable is fits back = by-error error (subst (λ (u : Tree). RefusesReadBack grammar edition u error) (sym (rewritten-is e t is)) back)
  where
    by-error : (x : CommitError) → RefusesReadBack grammar edition (rewritten e) x → RefusesRewritten grammar edition e x
    by-error refusals.Foreign h = h
    by-error refusals.Intersecting h = absurd h
    by-error refusals.MissingMapping h = absurd h
    by-error refusals.TooLong h = (placeable, within e true (lt-ltb MAX_TEXT (length (tree_text (rewritten e))) h) fits)
    by-error refusals.Unfaithful h = (placeable, within e false (le-ltb MAX_TEXT (length (tree_text (rewritten e))) h.0) fits, h.1)
    by-error refusals.NoTreeNumber h = h
    by-error refusals.NoMemory h = tt

-- no tree
pub not-rewritten : (grammar : Grammar) (edition : Edition) (e : Editing) (error : RewriteError) → RefusesRewriting e error → RefusesRewritten grammar edition e (of_rewrite error)
not-rewritten grammar edition e rewrites.Intersecting h = h
not-rewritten grammar edition e rewrites.MissingMapping h = h
not-rewritten grammar edition e rewrites.TooLong h = (h.0, or-true (nat_lt MAX_TEXT (length (tree_text (rewritten e)))) h.1)
  where
    or-true : (a : Bool) → new_fits (rewriting e) ≡ false → (a || not (new_fits (rewriting e))) ≡ true
    or-true true is = refl
    or-true false is = rw is refl
not-rewritten grammar edition e rewrites.NoMemory h = tt
