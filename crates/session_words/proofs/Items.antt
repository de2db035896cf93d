-- Steps through the items of a JSON value.
use Rattle.std.proofs.Common.{◌≡◌, ℕ, zero, suc, ◌+◌, ◌<◌, List, [], ◌∷◌, length, get_or, drop, refl, ap, ◌∙◌, arith}
use Rattle.serde_json.specs.Data.{item, no_items}
use Rattle.serde_json.specs.View.{view, items_view}
use Rattle.serde_json.specs.declared.value.Value.{Value}

-- the items from one on begin with it
pub next_item : (vs : List Value) (i : ℕ) (v : Value) → i < length vs → v ≡ get_or vs i v → items_view (drop i vs) ≡ item (view v) (items_view (drop (i + 1) vs))
next_item [] i v within is = absurd (omega arith)
next_item (x ∷ vs) zero v within is = rw is refl
next_item (x ∷ vs) (suc i) v within is =
    let same : suc (i + 1) ≡ suc i + 1 = omega arith in
    next_item vs i v (omega arith) is ∙ ap (λ n. item (view v) (items_view (drop n (x ∷ vs)))) same

-- after the last there is none
pub no_item_left : (vs : List Value) (i : ℕ) → i ≡ length vs → items_view (drop i vs) ≡ no_items
no_item_left [] i past = rw past refl
no_item_left (x ∷ vs) i past = rw past (no_item_left vs (length vs) refl)
