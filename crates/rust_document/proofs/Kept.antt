-- A fact of elements that holds side by side, in a file and in a field access, holds around a float after a dot.
use Rattle.std.proofs.Common.{◌≡◌, Bool, true, []}
use Rattle.rowan_green.specs.Forest.{Forest, empty, node, leaf}
use Rattle.rowan_green.specs.Leaf as green
use Rattle.parser_input.specs.Kinds.{ERROR, FIELD_EXPR, FLOAT_NUMBER, SOURCE_FILE}
use Rattle.rust_document.proofs.Shapes.{beside}
use Rattle.rust_document.proofs.Shown.{number_shown, dot_before, parted, accessed, wronged}

-- a float without a dot, as an error
abbrev pub wrong_shown : Forest
wrong_shown = node ERROR (leaf (record { kind = FLOAT_NUMBER; text = [] }) empty) empty

pub record Kept (holds : Forest → Bool) : Type 0 where
  pub nothing : holds empty ≡ true
  pub both : (a b : Forest) → holds a ≡ true → holds b ≡ true → holds (beside a b) ≡ true
  pub one : (l : green.Leaf) → holds (leaf l empty) ≡ true
  pub number : holds number_shown ≡ true
  pub wrong : holds wrong_shown ≡ true
  pub field : (f : Forest) → holds f ≡ true → holds (node FIELD_EXPR f empty) ≡ true
  pub file : (f : Forest) → holds f ≡ true → holds (node SOURCE_FILE f empty) ≡ true

module _ (holds : Forest → Bool) (kept : Kept holds) where
  pub leaf-kept : (l : green.Leaf) (r : Forest) → holds r ≡ true → holds (leaf l r) ≡ true
  unfolding beside
  leaf-kept l r p = kept.both (leaf l empty) r (kept.one l) p

  field-kept : (i r : Forest) → holds i ≡ true → holds r ≡ true → holds (node FIELD_EXPR i r) ≡ true
  unfolding beside
  field-kept i r p q = kept.both (node FIELD_EXPR i empty) r (kept.field i p) q

  dot-kept : (r : Forest) → holds r ≡ true → holds (dot_before r) ≡ true
  unfolding dot_before
  dot-kept r p = leaf-kept _ r p

  pub parted-kept : (i r : Forest) → holds i ≡ true → holds r ≡ true → holds (parted i r) ≡ true
  unfolding parted
  parted-kept i r p q = field-kept (beside i number_shown) (dot_before r) (kept.both i number_shown p kept.number) (dot-kept r q)

  pub accessed-kept : (i r : Forest) → holds i ≡ true → holds r ≡ true → holds (accessed i r) ≡ true
  unfolding accessed
  accessed-kept i r p q =
      let inner = field-kept (beside i number_shown) (dot_before number_shown) (kept.both i number_shown p kept.number) (dot-kept number_shown kept.number) in
      field-kept (node FIELD_EXPR (beside i number_shown) (dot_before number_shown)) r inner q

  pub wronged-kept : (i r : Forest) → holds i ≡ true → holds r ≡ true → holds (wronged i r) ≡ true
  unfolding wronged
  wronged-kept i r p q =
      let inner = kept.field (beside i wrong_shown) (kept.both i wrong_shown p kept.wrong) in
      field-kept (node FIELD_EXPR (beside i wrong_shown) empty) r inner q
