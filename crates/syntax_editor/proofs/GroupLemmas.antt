-- Elements that are grouped by their annotations.
use Rattle.std.proofs.Common.{◌≡◌, ℕ, ◌==◌, nat_eq, List, [], ◌∷◌, ◌++◌, map, Option, None, Some, Bool, true, false, cond, Vec, refl, ap, sym, ◌∙◌, append_assoc}
use Rattle.std.proofs.lemmas.Bool.{eqb-true}
use Rattle.std.proofs.lemmas.List.{append-nil, map-append}
use Rattle.std.specs.List.{filter}
use Rattle.std.specs.Option.{unwrap_or}
use Rattle.syntax_tree.specs.Element.{Element}
use Rattle.syntax_tree.specs.Handle.{element_of}
use Rattle.syntax_tree.specs.declared.element.SyntaxElement.{SyntaxElement}
use Rattle.syntax_editor.specs.Edit.{of_annotation}
use Rattle.syntax_editor.specs.Editing.{Annotated}
use Rattle.syntax_editor.specs.Groups.{items_of}

-- what was taken out, or a new list
pub taken-items : {A Z : Type 0} (o p : Option (Vec A Z)) (v d : Vec A Z) → v ≡ unwrap_or o d → d.items ≡ [] → o ≡ p → v.items ≡ items_of p
taken-items {A} {Z} o p v d is empty same = ap (λ w. w.items) is ∙ by_option o ∙ ap items_of same
  where
    by_option : (q : Option (Vec A Z)) → (unwrap_or q d).items ≡ items_of q
    by_option None = empty
    by_option (Some w) = refl

-- one element more in the list of a key, which was taken out and is put back
pub pushed : {A Z : Type 0} (k n : ℕ) (e : A) (old less new : ℕ → Option (Vec A Z)) (w : Vec A Z)
    → ((q : ℕ) → less q ≡ cond (nat_eq k q) None (old q)) → ((q : ℕ) → new q ≡ cond (nat_eq k q) (Some w) (less q)) → w.items ≡ items_of (old k) ++ e ∷ []
    → items_of (new n) ≡ items_of (old n) ++ cond (nat_eq k n) (e ∷ []) []
pushed {A} k n e old less new w taken put is = ap items_of (put n ∙ ap (cond (nat_eq k n) (Some w)) (taken n)) ∙ by_test (nat_eq k n) refl
  where
    by_test : (b : Bool) → nat_eq k n ≡ b → items_of (cond b (Some w) (cond b None (old n))) ≡ items_of (old n) ++ cond b (e ∷ []) []
    by_test true h = is ∙ ap (λ q. items_of (old q) ++ e ∷ []) (eqb-true k n h)
    by_test false h = sym (append-nil (items_of (old n)))

-- those of one annotation, one more of them first
pub of_first : (n : ℕ) (x : Annotated) (xs : List Annotated) → of_annotation n (x ∷ xs) ≡ cond (x.annotation == n) (x.element ∷ []) [] ++ of_annotation n xs
of_first n x xs = by_test (x.annotation == n)
  where
    rest : List Annotated
    rest = filter (λ (a : Annotated). a.annotation == n) xs

    by_test : (b : Bool) → map (λ (a : Annotated). a.element) (cond b (x ∷ rest) rest) ≡ cond b (x.element ∷ []) [] ++ map (λ (a : Annotated). a.element) rest
    by_test true = refl
    by_test false = refl

map-cond : (b : Bool) (e : SyntaxElement) → map element_of (cond b (e ∷ []) []) ≡ cond b (element_of e ∷ []) []
map-cond true e = refl
map-cond false e = refl

-- a loop's step: one more found is put to its annotation's
pub grouped-on : (n : ℕ) (x : Annotated) (e : SyntaxElement) (old new : List SyntaxElement) (xs all : List Annotated) (whole : List Element)
    → element_of e ≡ x.element → new ≡ old ++ cond (x.annotation == n) (e ∷ []) [] → all ≡ x ∷ xs
    → map element_of old ++ of_annotation n all ≡ whole → map element_of new ++ of_annotation n xs ≡ whole
grouped-on n x e old new xs all whole same more split h =
    let one = cond (x.annotation == n) (x.element ∷ []) [] in
    ap (λ l. l ++ of_annotation n xs) (ap (map element_of) more ∙ map-append element_of old (cond (x.annotation == n) (e ∷ []) []) ∙ ap (λ l. map element_of old ++ l) (map-cond (x.annotation == n) e ∙ ap (λ y. cond (x.annotation == n) (y ∷ []) []) same))
    ∙ append_assoc (map element_of old) one (of_annotation n xs)
    ∙ ap (λ l. map element_of old ++ l) (sym (of_first n x xs) ∙ ap (of_annotation n) (sym split))
    ∙ h
