-- Elements that are moved to a stack, the last first.
use Rattle.std.proofs.Common.{◌≡◌, List, [], ◌∷◌, ◌++◌, reverse, refl, ap, sym, ◌∙◌, append_assoc, append-nil}
use Rattle.std.proofs.lemmas.List.{reverse-append, reverse-reverse}

-- an element that is moved
pub moved : {A : Type 0} (stack old new : List A) (x : A) → old ≡ new ++ x ∷ [] → stack ++ reverse old ≡ (stack ++ x ∷ []) ++ reverse new
moved stack old new x is =
    ap (λ xs. stack ++ reverse xs) is
    ∙ ap (λ xs. stack ++ xs) (reverse-append new (x ∷ []))
    ∙ sym (append_assoc stack (x ∷ []) (reverse new))

-- the top of a stack
pub top : {A : Type 0} (old new : List A) (x : A) → old ≡ new ++ x ∷ [] → reverse old ≡ x ∷ reverse new
top old new x is = ap reverse is ∙ reverse-append new (x ∷ [])

-- what is put on a stack the last first
pub put : {A : Type 0} (old xs : List A) → reverse (old ++ reverse xs) ≡ xs ++ reverse old
put old xs = reverse-append old (reverse xs) ∙ ap (λ ys. ys ++ reverse old) (reverse-reverse xs)
