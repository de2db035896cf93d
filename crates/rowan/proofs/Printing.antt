-- Texts that are printed piece by piece.
use Rattle.std.proofs.Common.{◌≡◌, ℕ, zero, suc, ◌+◌, ◌-◌, ◌≤◌, length, length-append, arith, subst, List, [], ◌∷◌, ◌++◌, replicate, append_assoc, append-nil, add-one, Option, Some, None, refl, sym, ◌∙◌, ap}
use Rattle.std.specs.Prelude.{IfSome, pred, Result, Ok, MatchResult}
use Rattle.std.specs.List.{concat}
use Rattle.std.specs.Fmt.{AppendsText, ◌++?◌}
use Rattle.rowan.specs.Around.{Cursor}
use Rattle.rowan.specs.Walk.{Event}
use Rattle.rowan.specs.Debug.{line_of, lines_of}
use Rattle.rowan.specs.declared.utility_types.WalkEvent.TheVariants.{Enter, Leave}

last_more : (x : List ℕ) (n : ℕ) → concat (replicate n x) ++ x ≡ concat (replicate (suc n) x)
last_more x zero = sym (append-nil x)
last_more x (suc n) = append_assoc x (concat (replicate n x)) x ∙ ap (λ v. x ++ v) (last_more x n)

-- a text that ends in `n` pieces of two bytes has at least `n + n` bytes
pub twice_len : (a x : List ℕ) (n : ℕ) → length x ≡ 2 → n + n ≤ length (a ++ concat (replicate n x))
twice_len a x n h = omega (arith, length-append a (concat (replicate n x)), len_by n)
  where
    len_by : (n : ℕ) → length (concat (replicate n x)) ≡ n + n
    len_by zero = refl
    len_by (suc n) = omega (arith, length-append x (concat (replicate n x)), len_by n, h)

-- one more of the same piece
pub one_more : (a b c x : List ℕ) (n : ℕ) → b ≡ a ++ concat (replicate n x) → c ≡ b ++ x → c ≡ a ++ concat (replicate (n + 1) x)
one_more a b c x n h k =
    rw add-one (k ∙ ap (λ v. v ++ x) h ∙ append_assoc a (concat (replicate n x)) x ∙ ap (λ v. a ++ v) (last_more x n))

pub appends_more : (a b c : List ℕ) (o p : Option (List ℕ)) → AppendsText a b o → AppendsText b c p → AppendsText a c (o ++? p)
appends_more a b c None p h k = tt
appends_more a b c (Some x) None h k = tt
appends_more a b c (Some x) (Some y) h k = k ∙ ap (λ v. v ++ y) h ∙ append_assoc a x y

-- what is printed and what is left are all; where a piece is not known, neither is all
abbrev pub Prints : Option (List ℕ) → List ℕ → Option (List ℕ) → Type 0
Prints all done left = IfSome all (λ t. Some done ++? left ≡ Some t)

pub prints_first : (all : Option (List ℕ)) → Prints all [] all
prints_first None = tt
prints_first (Some t) = refl

pub prints_more : (all : Option (List ℕ)) (a b : List ℕ) (o left : Option (List ℕ)) → Prints all a (o ++? left) → AppendsText a b o → Prints all b left
prints_more None a b o left h k = tt
prints_more (Some t) a b None left h k = absurd (cc)
prints_more (Some t) a b (Some x) None h k = absurd (cc)
prints_more (Some t) a b (Some x) (Some y) h k = ap Some (ap (λ v. v ++ y) k ∙ append_assoc a x y) ∙ h

pub prints_last : (all : Option (List ℕ)) (a : List ℕ) → Prints all a (Some []) → IfSome all (λ t. a ≡ t)
prints_last None a h = tt
prints_last (Some t) a h = let e : a ++ [] ≡ t = cc in sym (append-nil a) ∙ e

-- a text to which two parts are appended, one after another
pub after_as : (a b c x y z : List ℕ) → b ≡ a ++ x → x ++ y ≡ z → c ≡ b ++ y → c ≡ a ++ z
after_as a b c x y z h e k = k ∙ ap (λ v. v ++ y) h ∙ append_assoc a x y ∙ ap (λ v. a ++ v) e

-- a front and an end that are known by other names
pub line_done : (a b c f g : List ℕ) (o p : Option (List ℕ)) → b ≡ a ++ f → f ≡ g → AppendsText b c o → p ≡ o → AppendsText a c (Some g ++? p)
line_done a b c f g o p h k q e =
    subst (λ v. AppendsText a c (Some g ++? v)) (sym e) (appends_more a b c (Some g) o (h ∙ ap (λ v. a ++ v) k) q)

-- ---- the events of a walk, printed in turn

pred_is : (d : ℕ) → pred d ≡ d - 1
pred_is zero = refl
pred_is (suc d) = omega arith

module _ {E : Type 0} (name : ℕ → List ℕ) (all : Option (List ℕ)) (s t : List Event) (x : Result Event E) (v : Event) (a b c : List ℕ) (d e : ℕ) (h : Prints all a (lines_of name d s)) (steps : MatchResult x (λ y. s ≡ y ∷ t) (λ _. t ≡ [])) (was : x ≡ Ok v) (to : c ≡ b) where
  taken : s ≡ v ∷ t
  taken = subst (λ y. MatchResult y (λ z. s ≡ z ∷ t) (λ _. t ≡ [])) was steps

  pub prints_entered : (p : Cursor) → v ≡ Enter p → AppendsText a b (line_of name d p) → e ≡ d + 1 → Prints all c (lines_of name e t)
  prints_entered p is k deeper =
      let m : suc d ≡ e = omega arith in
      let q : Prints all a (line_of name d p ++? lines_of name (suc d) t) = subst (λ z. Prints all a (lines_of name d z)) (taken ∙ ap (λ y. y ∷ t) is) h in
      subst (λ z. Prints all z (lines_of name e t)) (sym to) (subst (λ n. Prints all b (lines_of name n t)) m (prints_more all a b (line_of name d p) (lines_of name (suc d) t) q k))

  pub prints_left : (p : Cursor) → v ≡ Leave p → b ≡ a → e ≡ d - 1 → Prints all c (lines_of name e t)
  prints_left p is k higher =
      let m : pred d ≡ e = pred_is d ∙ sym higher in
      let q : Prints all a (lines_of name (pred d) t) = subst (λ z. Prints all a (lines_of name d z)) (taken ∙ ap (λ y. y ∷ t) is) h in
      subst (λ z. Prints all z (lines_of name e t)) (sym (to ∙ k)) (subst (λ n. Prints all a (lines_of name n t)) m q)
