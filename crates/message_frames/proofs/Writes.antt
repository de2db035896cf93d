-- A message is written in two parts.
use Rattle.std.proofs.Common.{◌≡◌, ℕ, List, ◌++◌, ap, ◌∙◌}
use Rattle.std.proofs.lemmas.List.{append_assoc}

pub in-parts : (out header front size back body : List ℕ) → header ≡ front ++ (size ++ back) →
    (out ++ header) ++ body ≡ out ++ (front ++ (size ++ (back ++ body)))
in-parts out header front size back body is =
    append_assoc out header body
    ∙ ap (λ bs. out ++ bs)
    (ap (λ bs. bs ++ body) is
    ∙ (append_assoc front (size ++ back) body ∙ ap (λ bs. front ++ bs) (append_assoc size back body)))
