-- The children of a node that have some bytes of a range of its text.
use Rattle.std.specs.Prelude.{◌≡◌, ℕ, ◌+◌, ◌<◌, ◌≤◌, List, [], ◌∷◌, ◌++◌, length, take, drop, Option, MatchOption}
use Rattle.rowan_green.specs.Forest.{forest_count}
use Rattle.rowan_green.specs.Term.{Term, term_count, term_len, text_of, texts_of, forest_of}
use Rattle.rowan.specs.Text.{IsPart}
use Rattle.rowan.specs.declared.child_parts.ChildPart.{ChildPart}

-- the children that are left, how many bytes of their texts precede the range, and how many bytes the range has
pub record Rest : Type 0 where
  pub children : List Term
  pub skip : ℕ
  pub len : ℕ

-- the bytes of the range
abbrev pub range_of : Rest → List ℕ
range_of r = take r.len (drop r.skip (texts_of r.children))

-- how many nodes and leaves the children have
abbrev pub rest_count : Rest → ℕ
rest_count r = forest_count (forest_of r.children)

-- the range is a part of the texts of the children, by whole characters
abbrev pub IsRange : List Term → ℕ → ℕ → Type 0
IsRange es skip len = IsPart (texts_of es) skip (skip + len)

-- a part of the text by whole characters is one of what is left
abbrev pub IsWhole : List ℕ → ℕ → ℕ → Rest → Type 0
IsWhole text skip len r = IsPart text skip (skip + len) → IsRange r.children r.skip r.len

-- the bytes after the first `skip` ones are those after the first `rest_skip` ones of fewer children
pub record IsPassed (es : List Term) (skip : ℕ) (rest : List Term) (rest_skip : ℕ) : Type 0 where
  pub bytes : drop skip (texts_of es) ≡ drop rest_skip (texts_of rest)
  pub count : forest_count (forest_of rest) ≤ forest_count (forest_of es)
  pub whole : (len : ℕ) → IsRange es skip len → IsRange rest rest_skip len

-- the first of these children, if there is one, has the byte at this offset
abbrev pub IsWithin : List Term → ℕ → Type 0
IsWithin [] n = Unit {0}
IsWithin (e ∷ es) n = n < term_len e

-- the range is a part of the text of a child, and what is left after it
pub record IsNext (old : Rest) (p : ChildPart) (new : Rest) : Type 0 where
  pub some : 0 < p.len
  pub within : p.start + p.len ≤ term_len p.child
  pub len : p.len + new.len ≡ old.len
  pub count : term_count p.child + rest_count new ≤ rest_count old
  pub bytes : range_of old ≡ take p.len (drop p.start (text_of p.child)) ++ range_of new
  pub part : IsRange old.children old.skip old.len → IsPart (text_of p.child) p.start (p.start + p.len)
  pub rest : IsRange old.children old.skip old.len → IsRange new.children new.skip new.len

-- the next part of the range; none where no byte of it is left
abbrev pub YieldsPart : Rest → Option ChildPart → Rest → Type 0
YieldsPart old r new = MatchOption r (range_of old ≡ []) (λ p. IsNext old p new)
