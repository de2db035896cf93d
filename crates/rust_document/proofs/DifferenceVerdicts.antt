-- The verdict, by the first difference.
use Rattle.std.proofs.Common.{◌≡◌, ◌≤◌, Option, Some, None, is_none, option_map, MatchOption, Result, Ok, Err, IfOk, IfErr, OnOk, Bool, true, false, not, length, chars, refl, sym, ◌∙◌, ap, subst}
use Rattle.std.proofs.lemmas.Bool.{le-ltb}
use Rattle.rustc_lexer.specs.Rows.{first_fit}
use Rattle.rowan_green.specs.Forest.{Tree, tree_text}
use Rattle.parser_input.specs.declared.edition.Edition.{Edition}
use Rattle.tree_rewrite.specs.Fits.{IsNode, new_fits}
use Rattle.syntax_editor.specs.Editing.{Editing}
use Rattle.syntax_editor.specs.Rewriting.{rewriting, IsPlaceable, RefusesRewriting}
use Rattle.syntax_editor.specs.declared.error.RewriteError.{RewriteError}
use Rattle.syntax_editor.specs.declared.error.RewriteError.TheVariants as rewrites
use Rattle.ra_parser.specs.declared.grammar.Grammar.{Grammar}
use Rattle.rust_document.specs.Commit.{of_rewrite}
use Rattle.rust_document.specs.Difference.{difference, told, told_of, tree_apart, IsDifference, LacksDifference, LacksReading, RefusesDifference}
use Rattle.rust_document.specs.Reading.{tree_in}
use Rattle.rust_document.specs.Rewrite.{rewritten}
use Rattle.rust_document.specs.Step.{MAX_TEXT, State, is_foreign, is_faithful, verdict, Accepted, Unfaithful}
use Rattle.rust_document.specs.declared.difference.Difference.{Difference}
use Rattle.rust_document.specs.declared.error.CommitError.{CommitError}
use Rattle.rust_document.specs.declared.error.CommitError.TheVariants as refusals
use Rattle.rust_document.proofs.Differences.{trees-agree}
use Rattle.rust_document.proofs.Rewrites.{not-read, not-rewritten, rewritten-is, within}
use Rattle.rust_document.proofs.Verdicts.{parts, present-own, verdict-is}

none-mapped : {A B : Type 0} (f : A → B) (o : Option A) → is_none (option_map f o) ≡ is_none o
none-mapped f None = refl
none-mapped f (Some x) = refl

-- a tree is faithful exactly where it has no difference
faithful-is : (grammar : Grammar) (edition : Edition) (t : Tree) (r : Option Difference) → option_map told_of r ≡ difference grammar edition t → is_faithful grammar edition t ≡ is_none r
faithful-is grammar edition t r is =
    sym
    (sym (none-mapped told_of r) ∙ ap is_none is ∙ none-mapped told (tree_apart t (tree_in grammar edition (chars (tree_text t))))
    ∙ trees-agree t (tree_in grammar edition (chars (tree_text t))))

by-difference : (d : State) (e : Editing) (r : Option Difference) → is_foreign d e ≡ false → IsDifference d.grammar d.edition e r → MatchOption r (verdict d e ≡ Accepted) (λ _. verdict d e ≡ Unfaithful)
unfolding first_fit
by-difference d e None own h =
    let has = parts e h.placeable in
    verdict-is d e false false false false false own has.0 has.1 h.within (ap not (faithful-is d.grammar d.edition (rewritten e) None h.told_is))
by-difference d e (Some x) own h =
    let has = parts e h.placeable in
    verdict-is d e false false false false true own has.0 has.1 h.within (ap not (faithful-is d.grammar d.edition (rewritten e) (Some x) h.told_is))

-- the verdict by a difference, or by none
pub told-verdict : (d : State) (e : Editing) (b : Bool) (grammar : Grammar) (edition : Edition) (r : Option Difference) → b ≡ not (is_foreign d e) → b ≡ true → (grammar ≡ d.grammar) × (edition ≡ d.edition) → IsDifference grammar edition e r
    → MatchOption r (verdict d e ≡ Accepted) (λ _. verdict d e ≡ Unfaithful)
told-verdict d e b grammar edition r is own same h =
    let own_edition = subst (λ (x : Edition). IsDifference grammar x e r) same.1 h in
    by-difference d e r (present-own (is_foreign d e) b is own) (subst (λ (x : Grammar). IsDifference x d.edition e r) same.0 own_edition)

by-refusal : (d : State) (e : Editing) (error : CommitError) → is_foreign d e ≡ false → LacksDifference e error → RefusesDifference (verdict d e) error
unfolding first_fit
by-refusal d e refusals.Foreign own h = absurd h
by-refusal d e refusals.Intersecting own h = verdict-is d e false true _ _ _ own h refl refl refl
by-refusal d e refusals.MissingMapping own h = verdict-is d e false false true _ _ own h.0 (ap is_none h.1) refl refl
by-refusal d e refusals.TooLong own h =
    let has = parts e h.0 in
    verdict-is d e false false false true _ own has.0 has.1 h.1 refl
by-refusal d e refusals.Unfaithful own h = absurd h
by-refusal d e refusals.NoTreeNumber own h = absurd h
by-refusal d e refusals.NoMemory own h = tt

-- the verdict by an error
pub refused-verdict : (d : State) (e : Editing) (b : Bool) (error : CommitError) → b ≡ not (is_foreign d e) → b ≡ true → LacksDifference e error → RefusesDifference (verdict d e) error
refused-verdict d e b error is own h = by-refusal d e error (present-own (is_foreign d e) b is own) h

-- a tree that is compared
pub is-difference : (grammar : Grammar) (edition : Edition) (e : Editing) (t : Tree) (r : Option Difference) → IsPlaceable e → IsNode (rewriting e) t → new_fits (rewriting e) ≡ true → length (tree_text t) ≤ MAX_TEXT → option_map told_of r ≡ difference grammar edition t → IsDifference grammar edition e r
is-difference grammar edition e t r placeable is fits short told-is =
    let same = sym (rewritten-is e t is) in
    let own = subst (λ (u : Tree). length (tree_text u) ≤ MAX_TEXT) same short in
    record {
      placeable = placeable;
      within = within e false (le-ltb MAX_TEXT (length (tree_text (rewritten e))) own) fits;
      told_is = told-is ∙ ap (difference grammar edition) same;
    }

-- no tree
pub not-made : (grammar : Grammar) (edition : Edition) (e : Editing) (error : RewriteError) → RefusesRewriting e error → LacksDifference e (of_rewrite error)
not-made grammar edition e rewrites.Intersecting h = h
not-made grammar edition e rewrites.MissingMapping h = h
not-made grammar edition e rewrites.TooLong h = not-rewritten grammar edition e rewrites.TooLong h
not-made grammar edition e rewrites.NoMemory h = tt

-- a tree that is not compared
pub not-compared : (grammar : Grammar) (edition : Edition) (e : Editing) (t : Tree) (error : CommitError) → IsPlaceable e → IsNode (rewriting e) t → new_fits (rewriting e) ≡ true → LacksReading t error → LacksDifference e error
not-compared grammar edition e t refusals.Foreign placeable is fits h = absurd h
not-compared grammar edition e t refusals.Intersecting placeable is fits h = absurd h
not-compared grammar edition e t refusals.MissingMapping placeable is fits h = absurd h
not-compared grammar edition e t refusals.TooLong placeable is fits h = not-read grammar edition e t refusals.TooLong placeable is fits h
not-compared grammar edition e t refusals.Unfaithful placeable is fits h = absurd h
not-compared grammar edition e t refusals.NoTreeNumber placeable is fits h = absurd h
not-compared grammar edition e t refusals.NoMemory placeable is fits h = tt

-- these for the answer of a call
pub answer-told : (d : State) (e : Editing) (grammar : Grammar) (edition : Edition) (r : Result (Option Difference) CommitError) → (grammar ≡ d.grammar) × (edition ≡ d.edition) → IfOk r (IsDifference grammar edition e) → IfOk r (λ x. option_map told_of x ≡ difference d.grammar d.edition (rewritten e))
answer-told d e grammar edition (Ok x) same h = h.told_is ∙ ap (λ y. difference grammar y (rewritten e)) same.1 ∙ ap (λ y. difference y d.edition (rewritten e)) same.0
answer-told d e grammar edition (Err x) same h = tt

pub answer-verdict : (d : State) (e : Editing) (b : Bool) (grammar : Grammar) (edition : Edition) (r : Result (Option Difference) CommitError) → b ≡ not (is_foreign d e) → b ≡ true → (grammar ≡ d.grammar) × (edition ≡ d.edition) → IfOk r (IsDifference grammar edition e)
    → IfOk r (λ x. MatchOption x (verdict d e ≡ Accepted) (λ _. verdict d e ≡ Unfaithful))
answer-verdict d e b grammar edition (Ok x) is own same h = told-verdict d e b grammar edition x is own same h
answer-verdict d e b grammar edition (Err x) is own same h = tt

pub answer-refused : (d : State) (e : Editing) (b : Bool) (r : Result (Option Difference) CommitError) → b ≡ not (is_foreign d e) → b ≡ true → IfErr r (LacksDifference e) → IfErr r (RefusesDifference (verdict d e))
answer-refused d e b (Ok x) is own h = tt
answer-refused d e b (Err x) is own h = refused-verdict d e b x is own h

pub compared : (grammar : Grammar) (edition : Edition) (e : Editing) (t : Tree) (r : Result (Option Difference) CommitError) → IsPlaceable e → IsNode (rewriting e) t → new_fits (rewriting e) ≡ true
    → OnOk r (length (tree_text t) ≤ MAX_TEXT) → IfOk r (λ x. option_map told_of x ≡ difference grammar edition t) → IfOk r (IsDifference grammar edition e)
compared grammar edition e t (Ok x) placeable is fits short told-is = is-difference grammar edition e t x placeable is fits short told-is
compared grammar edition e t (Err x) placeable is fits short told-is = tt

pub not-compared-answer : (grammar : Grammar) (edition : Edition) (e : Editing) (t : Tree) (r : Result (Option Difference) CommitError) → IsPlaceable e → IsNode (rewriting e) t → new_fits (rewriting e) ≡ true
    → IfErr r (LacksReading t) → IfErr r (LacksDifference e)
not-compared-answer grammar edition e t (Ok x) placeable is fits h = tt
not-compared-answer grammar edition e t (Err x) placeable is fits h = not-compared grammar edition e t x placeable is fits h
