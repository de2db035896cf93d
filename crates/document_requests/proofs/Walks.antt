-- Steps through the items of a JSON value.
use Rattle.std.proofs.Common.{◌≡◌, ℕ, zero, suc, ◌+◌, ◌<◌, List, [], ◌∷◌, ◌++◌, length, get_or, drop, map, refl, sym, ap, ◌∙◌, arith, append_assoc, Option, Some, None, option_map}
use Rattle.std.specs.Prelude.{◌||◌, option_and_then}
use Rattle.std.proofs.lemmas.List.{append-nil}
use Rattle.serde_json.specs.Data.{Data, Items, item, no_items}
use Rattle.serde_json.specs.Written.{has_float, items_have_float}
use Rattle.serde_json.specs.View.{view, items_view}
use Rattle.serde_json.specs.declared.value.Value.{Value}
use Rattle.document_requests.specs.Request.{all_in}

-- the items from one on begin with it
pub next_item : (vs : List Value) (i : ℕ) (v : Value) → i < length vs → v ≡ get_or vs i v → items_view (drop i vs) ≡ item (view v) (items_view (drop (i + 1) vs))
next_item [] i v within is = absurd (omega arith)
next_item (x ∷ vs) zero v within is = rw is refl
next_item (x ∷ vs) (suc i) v within is =
    let same : suc (i + 1) ≡ suc i + 1 = omega arith in
    next_item vs i v (omega arith) is ∙ ap (λ n. item (view v) (items_view (drop n (x ∷ vs)))) same

-- after the last there is none
pub no_item_left : (vs : List Value) → items_view (drop (length vs) vs) ≡ no_items
no_item_left [] = refl
no_item_left (x ∷ vs) = no_item_left vs

mapped_next : {X : Type 0} (done : List X) (x : X) (o : Option (List X)) → option_map (λ xs. done ++ xs) (option_map (λ xs. x ∷ xs) o) ≡ option_map (λ xs. (done ++ x ∷ []) ++ xs) o
mapped_next done x None = refl
mapped_next done x (Some xs) = ap Some (sym (append_assoc done (x ∷ []) xs))

-- Lists of what items are: `of` says what one is, and `seen` what it is in code.
module _ {X C : Type 0} (of : Data → Option X) (seen : C → X) where
  map_last : (old : List C) (c : C) → map seen (old ++ c ∷ []) ≡ map seen old ++ seen c ∷ []
  map_last [] c = refl
  map_last (x ∷ old) c = ap (λ cs. seen x ∷ cs) (map_last old c)
      -- what was found and what is to be found in the rest, where `o` is the value of the next item

  abbrev with_rest : List X → Items → Option X → Option (List X)
  with_rest done ds o = option_map (λ xs. done ++ xs) (option_and_then (λ x. option_map (λ xs. x ∷ xs) (all_in of ds)) o)

  told_next :
      (vs : List Value) (i : ℕ) (v : Value) (done : List X) (o : Option X)
      → i < length vs → v ≡ get_or vs i v → of (view v) ≡ o
      → option_map (λ xs. done ++ xs) (all_in of (items_view (drop i vs))) ≡ with_rest done (items_view (drop (i + 1) vs)) o
  told_next vs i v done o within is told =
      ap (λ items. option_map (λ xs. done ++ xs) (all_in of items)) (next_item vs i v within is) ∙ ap (with_rest done (items_view (drop (i + 1) vs))) told

  -- one more was found
  pub found_next :
      (vs : List Value) (i : ℕ) (v : Value) (old new : List C) (c : C) (all : Option (List X))
      → i < length vs → v ≡ get_or vs i v → of (view v) ≡ Some (seen c) → new ≡ old ++ c ∷ []
      → option_map (λ xs. map seen old ++ xs) (all_in of (items_view (drop i vs))) ≡ all
      → option_map (λ xs. map seen new ++ xs) (all_in of (items_view (drop (i + 1) vs))) ≡ all
  found_next vs i v old new c all within is found longer before =
      let rest = all_in of (items_view (drop (i + 1) vs)) in
      let names : map seen new ≡ map seen old ++ seen c ∷ [] = ap (map seen) longer ∙ map_last old c in
      ap (λ done. option_map (λ xs. done ++ xs) rest) names ∙ sym (mapped_next (map seen old) (seen c) rest) ∙ sym (told_next vs i v (map seen old) _ within is found) ∙ before

  -- an item is none
  pub found_none :
      (vs : List Value) (i : ℕ) (v : Value) (done : List X) (all : Option (List X))
      → i < length vs → v ≡ get_or vs i v → of (view v) ≡ None
      → option_map (λ xs. done ++ xs) (all_in of (items_view (drop i vs))) ≡ all → None ≡ all
  found_none vs i v done all within is none before = sym (told_next vs i v done None within is none) ∙ before

  -- all items were
  pub found_all :
      (vs : List Value) (i : ℕ) (done : List X) (all : Option (List X))
      → i ≡ length vs → option_map (λ xs. done ++ xs) (all_in of (items_view (drop i vs))) ≡ all → Some done ≡ all
  found_all vs i done all past before =
      let none_left : items_view (drop i vs) ≡ no_items = rw past (no_item_left vs) in
      ap Some (sym (append-nil done)) ∙ (rw none_left at before)

-- there is a float if this item or one after it has one
pub float_next :
    (vs : List Value) (i : ℕ) (v : Value) → i < length vs → v ≡ get_or vs i v
    → items_have_float (items_view (drop i vs)) ≡ (has_float (view v) || items_have_float (items_view (drop (i + 1) vs)))
float_next vs i v within is = ap items_have_float (next_item vs i v within is)
