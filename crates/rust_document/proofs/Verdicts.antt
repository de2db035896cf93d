-- The verdict, by what was tested.
use Rattle.std.proofs.Common.{◌≡◌, ℕ, Option, Some, None, is_none, is_some, Bool, true, false, not, ◌&&◌, List, [], ◌∷◌, refl, sym, ◌∙◌, ap, subst}
use Rattle.rustc_lexer.specs.Rows.{row, first_fit}
use Rattle.parser_input.specs.Input.{Token}
use Rattle.parser_input.specs.declared.edition.Edition.{Edition}
use Rattle.rowan_green.specs.declared.text_range.TextRange.{TextRange}
use Rattle.tree_rewrite.specs.Change.{has_collision}
use Rattle.tree_rewrite.specs.Rewrite.{jobs}
use Rattle.syntax_editor.specs.Editing.{Editing}
use Rattle.syntax_editor.specs.Rewriting.{IsPlaceable}
use Rattle.ra_parser.specs.declared.grammar.Grammar.{Grammar}
use Rattle.rust_document.specs.Rewrite.{rewritten}
use Rattle.rust_document.specs.Step.{State, is_foreign, is_too_long, is_faithful, Verdict, verdict, Foreign, Intersecting, MissingMapping, TooLong, Unfaithful, Accepted}
use Rattle.syntax_tree.specs.Refusal.{RefusesTree}
use Rattle.syntax_tree.specs.declared.error.TreeError.{TreeError}
use Rattle.syntax_tree.specs.declared.error.TreeError.TheVariants as trees
use Rattle.rust_document.specs.Commit.{RefusesCommit, commit_error_of}
use Rattle.rust_document.specs.Rewritten.{IsRewritten, RefusesRewritten}
use Rattle.rust_document.specs.declared.read.NextReading.{NextReading}
use Rattle.rust_document.specs.declared.error.CommitError.{CommitError}
use Rattle.rust_document.specs.declared.error.CommitError.TheVariants as refusals

-- the verdict by what is foreign, intersecting, missing, too long and unfaithful
abbrev pub chosen : Bool → Bool → Bool → Bool → Bool → Verdict
chosen f i m l u = first_fit (row f Foreign ∷ row i Intersecting ∷ row m MissingMapping ∷ row l TooLong ∷ row u Unfaithful ∷ []) Accepted

abbrev pub misses : Editing → Bool
misses e = is_none (jobs e.top e.changes e.mapping)

pub verdict-is :
    (d : State) (e : Editing) (f i m l u : Bool) → is_foreign d e ≡ f → has_collision e.changes ≡ i → misses e ≡ m → is_too_long e ≡ l
    → not (is_faithful d.grammar d.edition (rewritten e)) ≡ u → verdict d e ≡ chosen f i m l u
verdict-is d e f i m l u p q r s t = λ j. chosen (p j) (q j) (r j) (s j) (t j)

pub placed : (a : Bool) {A : Type 0} (o : Option A) → (not a && is_some o) ≡ true → (a ≡ false) × (is_none o ≡ false)
placed true o is = cc
placed false None is = cc
placed false (Some x) is = (refl, refl)

abbrev pub parts : (e : Editing) → IsPlaceable e → (has_collision e.changes ≡ false) × (misses e ≡ false)
parts e is = placed (has_collision e.changes) (jobs e.top e.changes e.mapping) is

-- an editor of another tree
pub foreign : (d : State) (e : Editing) (b : Bool) → b ≡ not (is_foreign d e) → b ≡ false → verdict d e ≡ Foreign
unfolding first_fit
foreign d e b is other = verdict-is d e true _ _ _ _ (flipped (is_foreign d e) (sym is ∙ other)) refl refl refl refl
  where
    flipped : (a : Bool) → not a ≡ false → a ≡ true
    flipped true h = refl
    flipped false h = cc

pub present-own : (a b : Bool) → b ≡ not a → b ≡ true → a ≡ false
present-own true b is own = cc
present-own false b is own = refl

by-refusal : (d : State) (e : Editing) (number : ℕ) (error : CommitError) → is_foreign d e ≡ false → RefusesRewritten d.grammar d.edition e error → RefusesCommit (verdict d e) number error
unfolding first_fit
by-refusal d e number refusals.Foreign own h = absurd h
by-refusal d e number refusals.Intersecting own h = verdict-is d e false true _ _ _ own h refl refl refl
by-refusal d e number refusals.MissingMapping own h = verdict-is d e false false true _ _ own h.0 (ap is_none h.1) refl refl
by-refusal d e number refusals.TooLong own h =
    let has = parts e h.0 in
    verdict-is d e false false false true _ own has.0 has.1 h.1 refl
by-refusal d e number refusals.Unfaithful own h =
    let has = parts e h.0 in
    verdict-is d e false false false false true own has.0 has.1 h.1 (ap not h.2)
by-refusal d e number refusals.NoTreeNumber own h = absurd h
by-refusal d e number refusals.NoMemory own h = tt

by-reading : (d : State) (e : Editing) (before : List Token) (text : List ℕ) (next : NextReading) (ranges : List TextRange) → is_foreign d e ≡ false → IsRewritten d.grammar d.edition e before text next ranges → verdict d e ≡ Accepted
unfolding first_fit
by-reading d e before text next ranges own h =
    let has = parts e h.placeable in
    verdict-is d e false false false false false own has.0 has.1 h.within (ap not h.read_back.faithful)

-- a rewrite that was refused
pub refused : (d : State) (e : Editing) (b : Bool) (number : ℕ) (error : CommitError) (grammar : Grammar) (edition : Edition) → b ≡ not (is_foreign d e) → b ≡ true → (grammar ≡ d.grammar) × (edition ≡ d.edition) → RefusesRewritten grammar edition e error → RefusesCommit (verdict d e) number error
refused d e b number error grammar edition is own same h =
    let P : Edition → Type 0 = λ x. RefusesRewritten grammar x e error in
    let Q : Grammar → Type 0 = λ x. RefusesRewritten x d.edition e error in
    by-refusal d e number error (present-own (is_foreign d e) b is own) (subst Q same.0 (subst P same.1 h))

-- a rewrite that is read
pub accepted : (d : State) (e : Editing) (b : Bool) (before : List Token) (text : List ℕ) (next : NextReading) (ranges : List TextRange) (grammar : Grammar) (edition : Edition) → b ≡ not (is_foreign d e) → b ≡ true → (grammar ≡ d.grammar) × (edition ≡ d.edition) → IsRewritten grammar edition e before text next ranges → verdict d e ≡ Accepted
accepted d e b before text next ranges grammar edition is own same h =
    let P : Edition → Type 0 = λ x. IsRewritten grammar x e before text next ranges in
    let Q : Grammar → Type 0 = λ x. IsRewritten x d.edition e before text next ranges in
    by-reading d e before text next ranges (present-own (is_foreign d e) b is own) (subst Q same.0 (subst P same.1 h))

-- a rewrite that is accepted, and a tree that could not be made
pub without_tree : (v : Verdict) (number : ℕ) (e : TreeError) → v ≡ Accepted → RefusesTree number e → RefusesCommit v number (commit_error_of e)
without_tree v number trees.Spent is h = (is, h)
without_tree v number trees.NoMemory is h = tt
