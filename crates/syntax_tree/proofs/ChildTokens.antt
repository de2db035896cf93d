-- The tokens among children, as numbered tokens.
use Rattle.std.proofs.Common.{◌≡◌, ℕ, List, [], ◌∷◌, map, refl, ap}
use Rattle.std.specs.List.{filter_map}
use Rattle.rowan_green.specs.declared.utility_types.NodeOrToken.TheVariants as cursors
use Rattle.rowan.specs.Around.{Cursor, tokens}
use Rattle.syntax_tree.specs.Handle.{token_of, with_cursor, with_number}

-- numbered, and then the tokens; or the tokens, and then numbered
pub tokens-numbered : (n : ℕ) (cs : List Cursor) → map (with_number n) (tokens cs) ≡ filter_map token_of (map (with_cursor n) cs)
tokens-numbered n [] = refl
tokens-numbered n (cursors.Node p ∷ cs) = tokens-numbered n cs
tokens-numbered n (cursors.Token p ∷ cs) = ap (λ es. with_number n p ∷ es) (tokens-numbered n cs)
