-- What a leaf of a pattern takes.
use Rattle.std.proofs.Common.{◌≡◌, ℕ, ◌<◌, ◌≤◌, ◌-◌, ◌&&◌, nat_le, Bool, true, false, List, [], ◌∷◌, length, get_or, take, drop, Option, Some, None, refl, ap, sym, ◌∙◌, arith, if◌then◌else◌}
use Rattle.std.proofs.lemmas.Bool.{le-leb}
use Rattle.std.proofs.lemmas.Bool.Decides.{nat_tests}
use Rattle.syntax_tree.specs.declared.element.SyntaxElement.{SyntaxElement}
use Rattle.tree_patterns.specs.declared.place.Place.{Place}
use Rattle.tree_search.specs.Fit.{first_is, may_run, run_of}
use Rattle.tree_search.proofs.Heads.{with_head}

pub first_none : (test : SyntaxElement → Bool) (es : List SyntaxElement) → length es ≡ 0 → first_is test es ≡ None
first_none test [] none = refl
first_none test (e ∷ es) none = absurd (omega arith)

pub first_yes : (test : SyntaxElement → Bool) (es : List SyntaxElement) (e : SyntaxElement) → 0 < length es → e ≡ get_or es 0 e → test e ≡ true → first_is test es ≡ Some 1
first_yes test es e some here sure = ap (first_is test) (with_head es e some here) ∙ ap (λ b. if b then Some 1 else None) sure

pub first_no : (test : SyntaxElement → Bool) (es : List SyntaxElement) (e : SyntaxElement) → 0 < length es → e ≡ get_or es 0 e → test e ≡ false → first_is test es ≡ None
first_no test es e some here unlike = ap (first_is test) (with_head es e some here) ∙ ap (λ b. if b then Some 1 else None) unlike

within : (a b : ℕ) → a ≤ b → nat_le a b ≡ true
within a b h = le-leb a b h

past : (a b : ℕ) → b < a → nat_le a b ≡ false
past a b h = grind (arith, nat_tests)

pub run_long : (place : Place) (n : ℕ) (es : List SyntaxElement) → length es < n → run_of place n es ≡ None
run_long place n es long =
    ap (λ b. if (b && may_run place (take (length es - n) es)) then Some (length es - n) else None) (past n (length es) long)

pub run_yes : (place : Place) (n : ℕ) (es : List SyntaxElement) → n ≤ length es → may_run place (take (length es - n) es) ≡ true → run_of place n es ≡ Some (length es - n)
run_yes place n es short may =
    λ i. if (within n (length es) short i && may i) then Some (length es - n) else None

pub run_no : (place : Place) (n : ℕ) (es : List SyntaxElement) → n ≤ length es → may_run place (take (length es - n) es) ≡ false → run_of place n es ≡ None
run_no place n es short may =
    λ i. if (within n (length es) short i && may i) then Some (length es - n) else None

pub ruleset taking = (first_none, first_yes, first_no, run_long, run_yes, run_no)
