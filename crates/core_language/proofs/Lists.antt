-- Lists in brackets, of any element.
use Rattle.std.proofs.Common.{◌≡◌, ℕ, ◌<◌, Bool, true, false, List, ◌∷◌, length, nat_lt, refl, ap, sym, ◌∙◌, subst, arith, ◌==◌}
use Rattle.std.proofs.lemmas.Bool.{lt-ltb}
use Rattle.parser_input.specs.Input.{Token}
use Rattle.parser_input.specs.Kinds.{COMMA, L_PAREN, R_PAREN}
use Rattle.parser_events.specs.Forest.{Expected, UnexpectedIn, Forest, End, Leaf, Node, ◌then◌}
use Rattle.rust_grammar.specs.Rule.{Rule, Or, Then, Want, Star, Mode, Unless, When, Both, Not, Left, Say, Skip, Nothing, One, passes, is_silent}
use Rattle.rust_grammar.specs.Rule as rules
use Rattle.rust_grammar.specs.Notation.{next, until, one_of, stops}
use Rattle.rust_grammar.specs.Words.{one, 'l_paren', 'r_paren', 'comma'}
use Rattle.core_language.specs.Items.{ElementComma, LastElement, Listed, NoElement, listed_tree}
use Rattle.core_language.proofs.Places.{IsNotNext}
use Rattle.core_language.proofs.Postfix.{some-left, then-assoc, then-end}
use Rattle.core_language.proofs.Rules.{StarReads, Stop, Turn, at, begins_at, forms, reads}
use Rattle.core_language.proofs.Flagged.{listed_tokens, of_kind}

-- one element, and what parts it from the next
abbrev pub item_of : (list close : ℕ) → Rule → Rule
item_of list close el =
    Unless (until (one close))
    (Or (Then el (Or (One 'comma') (Or (When (next (one close)) Nothing) (Say (Expected COMMA)))))
    (When (Both Left (Not (one_of 0 stops))) (Skip (UnexpectedIn list))))

-- an element that is no option, and a closing kind that is no comma
pub record Plain (el : Rule) (close : ℕ) : Type 0 where
  pub passes : passes el ≡ false
  pub speaks : is_silent el ≡ false
  pub same : (close == close) ≡ true
  pub other : (close == COMMA) ≡ false

list-there : (list close : ℕ) (el : Rule) (g : Forest) (ts : List Token) → Plain el close → IsNotNext close ts
    → nat_lt 0 (length ts) ≡ true → begins_at el (at g ts) ≡ true → begins_at (item_of list close el) (at g ts) ≡ true
unfolding forms
list-there list close el g ts p n l h = rw n (rw l (rw (p.passes) (rw (p.speaks) (rw h refl))))

list-closed : (flag : Bool) (list close : ℕ) (el : Rule) (g : Forest) (k : Bool) (more : List Token) → Plain el close
    → begins_at (item_of list close el) (at g (of_kind flag close k ∷ more)) ≡ false
unfolding forms
list-closed flag list close el g k more p = rw (p.same) (rw (some-left more) refl)

list-last : (flag : Bool) (list close : ℕ) (el : Rule) (g : Forest) (k : Bool) (ts : List Token) (f : Forest) (more : List Token) → Plain el close
    → begins_at el (at g ts) ≡ true → reads el (at g ts) ≡ at f (of_kind flag close k ∷ more) →
    reads (item_of list close el) (at g ts) ≡ at f (of_kind flag close k ∷ more)
unfolding forms
list-last flag list close el g k ts f more p there e = rw (p.passes) (rw (p.speaks) (rw there (rw e (rw (p.other) (rw (p.same) refl)))))

list-comma : (flag : Bool) (list close : ℕ) (el : Rule) (g : Forest) (k : Bool) (ts : List Token) (f : Forest) (more : List Token) → Plain el close
    → begins_at el (at g ts) ≡ true → reads el (at g ts) ≡ at f (of_kind flag COMMA k ∷ more) →
    reads (item_of list close el) (at g ts) ≡ at (f then Leaf COMMA 1 End) more
unfolding forms
list-comma flag list close el g k ts f more p there e = rw (p.passes) (rw (p.speaks) (rw there (rw e refl)))

-- what is known of the elements
pub record Element (flag : Bool) {A : Type 0} (put : A → List Token → List Token) (tree : A → Forest → Forest) (el : Rule) (close : ℕ) : Type 0 where
  pub plain : Plain el close
  pub there : (a : A) (more : List Token) (g : Forest) → begins_at el (at g (put a more)) ≡ true
  pub first : (a : A) (more : List Token) → IsNotNext close (put a more)
  pub longer : (a : A) (more : List Token) → length more < length (put a more)
  pub last : (a : A) (k : Bool) (more : List Token) (g : Forest)
      → reads el (at g (put a (of_kind flag close k ∷ more))) ≡ at (g then tree a End) (of_kind flag close k ∷ more)
  pub comma : (a : A) (k : Bool) (more : List Token) (g : Forest)
      → reads el (at g (put a (of_kind flag COMMA k ∷ more))) ≡ at (g then tree a End) (of_kind flag COMMA k ∷ more)
  pub joins : (a : A) (f : Forest) → tree a End then f ≡ tree a f

pub list-reads : (flag : Bool) → {A : Type 0} (put : A → List Token → List Token) (tree : A → Forest → Forest) (list close : ℕ) (el : Rule)
    → Element flag put tree el close → (l : Listed A) (g : Forest) (k : Bool) (more : List Token) →
    StarReads (item_of list close el) (at g (listed_tokens flag put l (of_kind flag close k ∷ more))) (at (g then listed_tree tree l End) (of_kind flag close k ∷ more))
list-reads flag put tree list close el h NoElement g k more = rw then-end (Stop (list-closed flag list close el g k more h.plain))
list-reads flag put tree list close el h (LastElement a) g k more =
    let n = h.longer a (of_kind flag close k ∷ more) in
    Turn (list-there list close el g _ h.plain (h.first a _) (lt-ltb _ _ (omega (arith, n))) (h.there a _ g)) (list-last flag list close el g k _ _ more h.plain (h.there a _ g) (h.last a k more g)) n
    (Stop (list-closed flag list close el _ k more h.plain))
list-reads flag put tree list close el h (ElementComma a j l) g k more =
    let n = h.longer a (of_kind flag COMMA j ∷ listed_tokens flag put l (of_kind flag close k ∷ more)) in
    let rest = list-reads flag put tree list close el h l ((g then tree a End) then Leaf COMMA 1 End) k more in
    let same : ((g then tree a End) then Leaf COMMA 1 End) then listed_tree tree l End ≡ g then listed_tree tree (ElementComma a j l) End =
    then-assoc (g then tree a End) (Leaf COMMA 1 End) (listed_tree tree l End)
    ∙ then-assoc g (tree a End) (Leaf COMMA 1 (listed_tree tree l End))
    ∙ ap (λ (f : Forest). g then f) (h.joins a (Leaf COMMA 1 (listed_tree tree l End))) in
    Turn (list-there list close el g _ h.plain (h.first a _) (lt-ltb _ _ (omega (arith, n))) (h.there a _ g)) (list-comma flag list close el g j _ _ _ h.plain (h.there a _ g) (h.comma a j _ g)) (omega (arith, n))
    (subst (λ (f : Forest). StarReads (item_of list close el) (at ((g then tree a End) then Leaf COMMA 1 End) (listed_tokens flag put l (of_kind flag close k ∷ more))) (at f (of_kind flag close k ∷ more))) same rest)

pub listed-then : {A : Type 0} (tree : A → Forest → Forest) → ((a : A) (f : Forest) → tree a End then f ≡ tree a f)
    → (l : Listed A) (f : Forest) → listed_tree tree l End then f ≡ listed_tree tree l f
listed-then tree h NoElement f = refl
listed-then tree h (LastElement a) f = h a f
listed-then tree h (ElementComma a j l) f =
    ap (λ (x : Forest). x then f) (sym (h a (Leaf COMMA 1 (listed_tree tree l End))))
    ∙ then-assoc (tree a End) (Leaf COMMA 1 (listed_tree tree l End)) f
    ∙ h a (Leaf COMMA 1 (listed_tree tree l End then f))
    ∙ ap (λ (x : Forest). tree a (Leaf COMMA 1 x)) (listed-then tree h l f)

pub parens-read : (flag : Bool) (list : ℕ) (a : Rule) (j k : Bool) (ts : List Token) (f : Forest) (more : List Token)
    → reads (Star a) (at (Leaf L_PAREN 1 End) ts) ≡ at (Leaf L_PAREN 1 f) (of_kind flag R_PAREN k ∷ more) →
    reads (rules.Node list (Then (One 'l_paren') (Then (Mode false (Star a)) (Want (One 'r_paren') (Expected R_PAREN))))) (at End (of_kind flag L_PAREN j ∷ ts)) ≡ at (Node list (Leaf L_PAREN 1 (f then Leaf R_PAREN 1 End)) End) more
unfolding forms
parens-read flag list a j k ts f more e = rw e refl
