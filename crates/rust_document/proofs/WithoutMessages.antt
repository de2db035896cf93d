-- Commits of texts without messages, by what was tested.
use Rattle.std.proofs.Common.{◌≡◌, ℕ, ◌^◌, Bool, true, false, not, List, [], ◌∷◌, map, length, string_bytes, sym, ◌∙◌, ap, nat_lt, arith}
use Rattle.std.specs.Prelude.{◌≤◌, IfOk, IfErr, OnOk}
use Rattle.std.specs.Str.{IsUtf8}
use Rattle.std.proofs.lemmas.Bool.{lt-ltb}
use Rattle.std.specs.declared.result.Result.{Result}
use Rattle.std.specs.declared.result.Result.TheVariants.{Ok, Err}
use Rattle.parser_input.specs.Input.{Token}
use Rattle.parser_input.specs.declared.edition.Edition.{Edition}
use Rattle.rowan_green.specs.Forest.{tree_text}
use Rattle.syntax_editor.specs.Editing.{Editing}
use Rattle.syntax_tree.specs.Refusal.{RefusesTree}
use Rattle.syntax_tree.specs.declared.error.TreeError.{TreeError}
use Rattle.syntax_tree.specs.declared.error.TreeError.TheVariants as trees
use Rattle.ra_parser.specs.declared.grammar.Grammar.{Grammar}
use Rattle.rust_document.specs.Commit.{RefusesCommit, commit_error_of}
use Rattle.rust_document.specs.CommitWithoutMessages.{HaveNoMessages, RefusesRoom, RefusesWithoutMessages}
use Rattle.rust_document.specs.Open.{IsOpened}
use Rattle.rust_document.specs.Reading.{Message}
use Rattle.rust_document.specs.Renames.{IsPlainRenaming, IsReadExactly}
use Rattle.rust_document.specs.Rewrite.{rewritten}
use Rattle.rust_document.specs.Rewritten.{IsRewritten, RefusesRewritten}
use Rattle.rust_document.specs.Seen.{message_of_error}
use Rattle.rust_document.specs.Step.{State, MAX_TEXT, is_foreign, verdict, Accepted}
use Rattle.rust_document.specs.Step as step
use Rattle.rust_document.specs.WellSpaced.{IsWellSpacedRewrite}
use Rattle.rust_document.specs.WithoutMessages.{HasNoMessages}
use Rattle.rust_document.specs.declared.error.CommitError.{CommitError}
use Rattle.rust_document.specs.declared.error.CommitError.TheVariants as commits
use Rattle.rust_document.specs.declared.error.WithoutMessagesError.TheVariants.{Refused}
use Rattle.rust_document.specs.declared.rewrite.Rewritten.{Rewritten}
use Rattle.rust_document.specs.declared.syntax_error.SyntaxError.{SyntaxError}
use Rattle.rust_document.proofs.PlainRenamings.{own-tree, read-exactly, renaming-refused}
use Rattle.rust_document.proofs.Verdicts.{accepted, refused}
use Rattle.rust_document.proofs.WellSpacedRewrites.{spaced-accepted, spaced-silent}

-- a rewrite that is returned as it is
pub rewritten-accepted :
    (d : State) (e : Editing) (b : Bool) (before : List Token) (grammar : Grammar) (edition : Edition) (r : Result Rewritten CommitError) → b ≡ not (is_foreign d e) → b ≡ true → (grammar ≡ d.grammar) × (edition ≡ d.edition)
    → IfOk r (λ x. IsRewritten grammar edition e before (string_bytes x.text) x.reading x.changed.items) → OnOk r (verdict d e ≡ Accepted)
rewritten-accepted d e b before grammar edition (Ok x) is own same h = accepted d e b before _ x.reading x.changed.items grammar edition is own same h
rewritten-accepted d e b before grammar edition (Err x) is own same h = tt

pub rewritten-refused :
    (d : State) (e : Editing) (b : Bool) (grammar : Grammar) (edition : Edition) (r : Result Rewritten CommitError) → b ≡ not (is_foreign d e) → b ≡ true → (grammar ≡ d.grammar) × (edition ≡ d.edition)
    → IfErr r (RefusesRewritten grammar edition e) → IfErr r (λ error. (number : ℕ) → RefusesCommit (verdict d e) number error)
rewritten-refused d e b grammar edition (Ok x) is own same h = tt
rewritten-refused d e b grammar edition (Err x) is own same h = λ number. refused d e b number x grammar edition is own same h

-- a plain renaming
pub rewritten-renames :
    (d : State) (e : Editing) (b : Bool) (grammar : Grammar) (edition : Edition) (r : Result Rewritten CommitError) → b ≡ not (is_foreign d e) → b ≡ true → (grammar ≡ d.grammar) × (edition ≡ d.edition) → IsUtf8 d.text → IsOpened d.text
    → IfErr r (RefusesRewritten grammar edition e)
    → IfErr r (λ error. IsPlainRenaming d e → length (tree_text (rewritten e)) ≤ MAX_TEXT → (number : ℕ) → RefusesCommit Accepted number error)
rewritten-renames d e b grammar edition (Ok x) is own same u o h = tt
rewritten-renames d e b grammar edition (Err x) is own same u o h =
    λ renaming short number. renaming-refused d e number x u o (refused d e b number x grammar edition is own same h) renaming short

pub rewritten-renamed : (d : State) (e : Editing) (r : Result Rewritten CommitError) → IsUtf8 d.text → OnOk r (IsPlainRenaming d e → IsReadExactly d e)
rewritten-renamed d e (Ok x) u = read-exactly d e u
rewritten-renamed d e (Err x) u = tt

-- a plain renaming is of the present tree
pub own-renaming : (d : State) (e : Editing) (b : Bool) → b ≡ not (is_foreign d e) → b ≡ false → IsPlainRenaming d e → ⊥
own-renaming d e b is foreign renaming = let z : true ≡ false = sym (ap not (own-tree d e renaming.own)) ∙ sym is ∙ foreign in cc

-- a list of messages in code that is empty, or not
pub none-told : (es items : List SyntaxError) (ms : List Message) (b : Bool) → es ≡ items → map message_of_error items ≡ ms → b ≡ nat_lt 0 (length es) → b ≡ false → ms ≡ []
none-told es [] ms b same is told none = sym is
none-told es (x ∷ xs) ms b same is told none = absurd (let z : true ≡ false = sym (lt-ltb 0 (length (x ∷ xs)) (omega arith)) ∙ ap (λ (ys : List SyntaxError). nat_lt 0 (length ys)) (sym same) ∙ sym told ∙ none in cc)

pub some-told : (es items : List SyntaxError) (ms : List Message) (b : Bool) → es ≡ items → map message_of_error items ≡ ms → b ≡ nat_lt 0 (length es) → b ≡ true → ms ≡ [] → ⊥
some-told es [] ms b same is told more empty = let z : false ≡ true = ap (λ (ys : List SyntaxError). nat_lt 0 (length ys)) (sym same) ∙ sym told ∙ more in cc
some-told es (x ∷ xs) ms b same is told more empty = let z : message_of_error x ∷ map message_of_error xs ≡ [] = is ∙ empty in cc

-- what a rewrite that was refused says
pub by-rewrite : (d : State) (e : Editing) (number : ℕ) (error : CommitError) → ((n : ℕ) → RefusesCommit (verdict d e) n error) → RefusesWithoutMessages d e number (Refused error)
by-rewrite d e number commits.Foreign h = h number
by-rewrite d e number commits.Intersecting h = h number
by-rewrite d e number commits.MissingMapping h = h number
by-rewrite d e number commits.TooLong h = h number
by-rewrite d e number commits.Unfaithful h = h number
by-rewrite d e number commits.NoTreeNumber h = absurd (let z : 0 ≡ 2 ^ 32 = (h 0).1 in omega arith)
by-rewrite d e number commits.NoMemory h = tt

-- what a tree that could not be made says
pub by-tree : (d : State) (e : Editing) (number : ℕ) (error : TreeError) → verdict d e ≡ Accepted → HaveNoMessages d e → RefusesTree number error
    → RefusesWithoutMessages d e number (Refused (commit_error_of error))
by-tree d e number trees.Spent is clean h = (is, clean, h)
by-tree d e number trees.NoMemory is clean h = tt

-- a well-spaced rewrite of a text without messages
spaced-clean : (d : State) (e : Editing) → IsWellSpacedRewrite d e → HasNoMessages d → HaveNoMessages d e
spaced-clean d e w present = record { present = present; new = spaced-silent d.grammar d.edition (rewritten e) w.spaced }

pub by-spaced : (d : State) (e : Editing) (number : ℕ) (error : CommitError) → RefusesWithoutMessages d e number (Refused error) → IsWellSpacedRewrite d e → RefusesRoom number (Refused error)
by-spaced d e number commits.Foreign h w = absurd (let z : Accepted ≡ step.Foreign = sym (spaced-accepted d e w) ∙ h in cc)
by-spaced d e number commits.Intersecting h w = absurd (let z : Accepted ≡ step.Intersecting = sym (spaced-accepted d e w) ∙ h in cc)
by-spaced d e number commits.MissingMapping h w = absurd (let z : Accepted ≡ step.MissingMapping = sym (spaced-accepted d e w) ∙ h in cc)
by-spaced d e number commits.TooLong h w = absurd (let z : Accepted ≡ step.TooLong = sym (spaced-accepted d e w) ∙ h in cc)
by-spaced d e number commits.Unfaithful h w = absurd (let z : Accepted ≡ step.Unfaithful = sym (spaced-accepted d e w) ∙ h in cc)
by-spaced d e number commits.NoTreeNumber h w = h.2
by-spaced d e number commits.NoMemory h w = tt

pub spaced-has-none : (d : State) (e : Editing) → (HaveNoMessages d e → ⊥) → IsWellSpacedRewrite d e → HasNoMessages d → ⊥
spaced-has-none d e some w present = some (spaced-clean d e w present)
