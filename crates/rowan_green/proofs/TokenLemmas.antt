-- Lemmas on a token in an arena of its own.
use Rattle.std.proofs.Common.{◌≡◌, ℕ, [], length, ap, sym, ◌∙◌, arith, string_bytes}
use Rattle.std.proofs.lemmas.Option.{slice_get_within}
use Rattle.std.specs.Prelude.{slice_get, Some}
use Rattle.rowan_green.specs.Leaf.{Leaf}
use Rattle.rowan_green.specs.declared.utility_types.NodeOrToken.TheVariants.{Token}
use Rattle.rowan_green.specs.declared.arena.Arena.{Arena}
use Rattle.rowan_green.specs.Arena.{IsSound, items_in, terms_at}
use Rattle.rowan_green.specs.FlatRef.{IsTokenAt, leaf_at, leaf_or_empty}
use Rattle.rowan_green.proofs.ArenaRoots.{length-terms}

-- the entry of this number is a token, and this is its leaf
pub record TokenFound (a : Arena) (i : ℕ) (l : Leaf) : Type 0 where
  pub token : IsTokenAt a i
  pub leaf : leaf_at a i ≡ l

pub token_found : (a : Arena) (i : ℕ) (l : Leaf) → IsSound a [] → slice_get (terms_at (items_in a)) i ≡ Some (Token l) → TokenFound a i l
token_found a i l s seen =
    let leaf : leaf_at a i ≡ l = ap leaf_or_empty seen in
    let n : length (terms_at (items_in a)) ≡ length a.entries.items = length-terms (string_bytes a.text) a.records.items a.entries.items in
    record {
      token = record {
        sound = s;
        within = omega (arith, n, slice_get_within (terms_at (items_in a)) i (Token l) seen);
        token = seen ∙ ap (λ (x : Leaf). Some (Token x)) (sym leaf);
      };
      leaf = leaf;
    }
