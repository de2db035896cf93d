-- Lists of a certain length.
use Rattle.std.proofs.Common.{◌≡◌, ◌<◌, List, [], ◌∷◌, length, get_or, refl, None, arith}
use Rattle.serde_json.specs.Data.{item, no_items}
use Rattle.serde_json.specs.View.{view, items_view}
use Rattle.serde_json.specs.declared.value.Value.{Value}
use Rattle.ra_parser.specs.declared.grammar.Grammar.{Grammar}
use Rattle.document_requests.specs.Request.{target_in, payload_in}

pub two_items : (vs : List Value) (a b : Value) → length vs ≡ 2 → a ≡ get_or vs 0 a → b ≡ get_or vs 1 b → items_view vs ≡ item (view a) (item (view b) no_items)
two_items [] a b two first second = absurd (omega arith)
two_items (x ∷ []) a b two first second = absurd (omega arith)
two_items (x ∷ y ∷ []) a b two first second = rw (first, second) refl
two_items (x ∷ y ∷ z ∷ vs) a b two first second = absurd (omega arith)

pub three_items : (vs : List Value) (a b c : Value) → length vs ≡ 3 → a ≡ get_or vs 0 a → b ≡ get_or vs 1 b → c ≡ get_or vs 2 c → items_view vs ≡ item (view a) (item (view b) (item (view c) no_items))
three_items [] a b c three first second third = absurd (omega arith)
three_items (x ∷ []) a b c three first second third = absurd (omega arith)
three_items (x ∷ y ∷ []) a b c three first second third = absurd (omega arith)
three_items (x ∷ y ∷ z ∷ []) a b c three first second third = rw (first, second, third) refl
three_items (x ∷ y ∷ z ∷ u ∷ vs) a b c three first second third = absurd (omega arith)

pub target_short : (grammar : Grammar) (vs : List Value) → length vs < 3 → None ≡ target_in grammar (items_view vs)
target_short grammar [] short = refl
target_short grammar (x ∷ []) short = refl
target_short grammar (x ∷ y ∷ []) short = refl
target_short grammar (x ∷ y ∷ z ∷ vs) short = absurd (omega arith)

pub target_long : (grammar : Grammar) (vs : List Value) → 3 < length vs → None ≡ target_in grammar (items_view vs)
target_long grammar [] long = absurd (omega arith)
target_long grammar (x ∷ []) long = absurd (omega arith)
target_long grammar (x ∷ y ∷ []) long = absurd (omega arith)
target_long grammar (x ∷ y ∷ z ∷ []) long = absurd (omega arith)
target_long grammar (x ∷ y ∷ z ∷ u ∷ vs) long = refl

pub payload_short : (vs : List Value) → length vs < 2 → None ≡ payload_in (items_view vs)
payload_short [] short = refl
payload_short (x ∷ []) short = refl
payload_short (x ∷ y ∷ vs) short = absurd (omega arith)

pub payload_long : (vs : List Value) → 2 < length vs → None ≡ payload_in (items_view vs)
payload_long [] long = absurd (omega arith)
payload_long (x ∷ []) long = absurd (omega arith)
payload_long (x ∷ y ∷ []) long = absurd (omega arith)
payload_long (x ∷ y ∷ z ∷ vs) long = refl
