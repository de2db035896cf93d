-- Pairs of names that are renamed together.
use Rattle.std.specs.Prelude.{ℕ, ◌==◌, ◌||◌, Bool, List, length, slice_index_or, take}
use Rattle.std.specs.List.{list_any}
use Rattle.std.specs.Str.{bytes_eq}
use Rattle.rename_pairs.specs.declared.pairs.NamePair.{NamePair}

-- A name is the old name of a pair.
abbrev pub has_old : List ℕ → List NamePair → Bool
has_old name pairs = list_any (λ pair. bytes_eq pair.old.now name) pairs

-- The old name of a pair is empty or that of a pair before it, or its new name is an old one.
abbrev pub is_wrong_pair : (all before : List NamePair) → NamePair → Bool
is_wrong_pair all before pair = (length pair.old.now == 0) || (has_old pair.new.now all || has_old pair.old.now before)

-- so the pair with an index
abbrev pub is_wrong : List NamePair → ℕ → NamePair → Bool
is_wrong pairs index d = is_wrong_pair pairs (take index pairs) (slice_index_or pairs index d)
