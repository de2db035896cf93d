-- Changes that put texts of many levels, one after another.
use Rattle.std.proofs.Common.{◌≡◌, ◌∙◌, ℕ, ◌+◌, ◌≤◌, ◌<◌, List, [], Bool, true, false, length, map, drop, get_or, inr, refl, ap, sym}
use Rattle.std.specs.Prelude.{◌||◌}
use Rattle.std.proofs.lemmas.List.{at_drop_all, at_drop_more}
use Rattle.document_requests.specs.Asked.{change as change_in}
use Rattle.document_requests.specs.declared.request.Change.{Change}
use Rattle.parser_input.specs.declared.edition.Edition.{Edition}
use Rattle.rust_document.specs.Step.{State}
use Rattle.document_requests.specs.Request as asked
use Rattle.kept_document.specs.Commits.{StopsChanges}
use Rattle.kept_document.specs.Depth.{is_deep_change, is_deep_commit, is_deep_if_any, made_text, puts_deep}
use Rattle.kept_document.specs.declared.reason.Reason.TheVariants.{TooDeep}

abbrev deep_of : Edition → List Change → Bool
deep_of edition changes = puts_deep edition (map change_in changes)

-- a change that puts none
pub flat-next :
    (edition : Edition) (changes : List Change) (n : ℕ) (d : Change) (b all : Bool) → n < length changes
    → b ≡ is_deep_change edition (change_in (get_or changes n d)) → b ≡ false → puts_deep edition (map change_in (drop n changes)) ≡ all
    → puts_deep edition (map change_in (drop (n + 1) changes)) ≡ all
flat-next edition changes n d b all below is flat so-far =
    sym (ap (λ (c : Bool). c || deep_of edition (drop (n + 1) changes)) (sym is ∙ flat))
    ∙ sym (at_drop_more (deep_of edition) changes n d below)
    ∙ so-far

-- a change that puts one
pub deep-here :
    (edition : Edition) (changes : List Change) (n : ℕ) (d : Change) (b all : Bool) → n < length changes
    → b ≡ is_deep_change edition (change_in (get_or changes n d)) → b ≡ true → puts_deep edition (map change_in (drop n changes)) ≡ all → true ≡ all
deep-here edition changes n d b all below is deep so-far =
    sym (ap (λ (c : Bool). c || deep_of edition (drop (n + 1) changes)) (sym is ∙ deep))
    ∙ sym (at_drop_more (deep_of edition) changes n d below)
    ∙ so-far

pub flat-end :
    (edition : Edition) (changes : List Change) (n : ℕ) (all : Bool) → length changes ≤ n
    → puts_deep edition (map change_in (drop n changes)) ≡ all → false ≡ all
flat-end edition changes n all past so-far = sym (at_drop_all (deep_of edition) changes n past) ∙ so-far

-- ---- a commit

either-first : (a b : Bool) → a ≡ true → (a || b) ≡ true
either-first a b is = rw is refl

pub commit-puts :
    (d : State) (changes : List asked.Change) (edition : Edition) (b : Bool) → edition ≡ d.edition → b ≡ puts_deep edition changes → b ≡ true
    → StopsChanges d changes TooDeep
unfolding is_deep_commit
commit-puts d changes edition b same is deep =
    inr (refl, either-first (puts_deep d.edition changes) (is_deep_if_any d.edition (made_text d changes)) (sym (ap (λ (e : Edition). puts_deep e changes) same) ∙ sym is ∙ deep))

either-true : (a b : Bool) → b ≡ true → (a || b) ≡ true
either-true true b is = refl
either-true false b is = is

pub commit-makes : (d : State) (changes : List asked.Change) (b : Bool) → b ≡ is_deep_if_any d.edition (made_text d changes) → b ≡ true → StopsChanges d changes TooDeep
unfolding is_deep_commit
commit-makes d changes b is deep = inr (refl, either-true (puts_deep d.edition changes) (is_deep_if_any d.edition (made_text d changes)) (sym is ∙ deep))

neither : (a b : Bool) → a ≡ false → b ≡ false → (a || b) ≡ false
neither a b p q = rw (p, q) refl

pub commit-flat :
    (d : State) (changes : List asked.Change) (edition : Edition) (a b : Bool) → edition ≡ d.edition → a ≡ puts_deep edition changes → a ≡ false
    → b ≡ is_deep_if_any d.edition (made_text d changes) → b ≡ false → is_deep_commit d changes ≡ false
unfolding is_deep_commit
commit-flat d changes edition a b same puts none makes flat =
    neither (puts_deep d.edition changes) (is_deep_if_any d.edition (made_text d changes))
    (sym (ap (λ (e : Edition). puts_deep e changes) same) ∙ sym puts ∙ none) (sym makes ∙ flat)
