-- The leaves of a text, one after another.
use Rattle.std.proofs.Common.{◌≡◌, ◌∙◌, ℕ, ◌+◌, ◌≤◌, ◌<◌, ◌++◌, List, [], ◌∷◌, length, chars, drop, encode_utf8_all, refl, ap, sym, append_assoc, append-nil}
use Rattle.std.specs.Str.{IsUtf8}
use Rattle.std.proofs.lemmas.List.{at_drop_all, at_drop_more}
use Rattle.std.proofs.lemmas.Str.{encodes-chars}
use Rattle.rustc_lexer.specs.Characters.{size}
use Rattle.parser_input.specs.Kinds.{EOF}
use Rattle.parser_input.specs.Lexed.{Lexed, quiet}
use Rattle.parser_input.specs.Stored.{leaf_at, offset}
use Rattle.parser_input.proofs.Readings.{offset-more}
use Rattle.name_mentions.specs.Mentions.{bytes_of, has_name, is_identifier, mentions_by, mentions_from, mentions_of_leaf, place_of}
use Rattle.name_mentions.specs.declared.place.Mention.{Mention}

-- the bytes of a leaf with a text
pub leaf-bytes : (text : List ℕ) (l : Lexed) → IsUtf8 text → chars text ≡ l.leaf.text → bytes_of l ≡ text
leaf-bytes text l u e = ap encode_utf8_all (sym e) ∙ encodes-chars text u

-- a token is the identifier where its leaf is
pub leaf-is-name :
    (name : List ℕ) (kind : ℕ) (text : List ℕ) (l : Lexed) → IsUtf8 text → kind ≡ l.leaf.kind → chars text ≡ l.leaf.text
    → has_name name kind text ≡ is_identifier name l
leaf-is-name name kind text l u k e = rw (k, sym (leaf-bytes text l u e)) refl

pub leaf-mentions :
    (name : List ℕ) (kind : ℕ) (text : List ℕ) (at : ℕ) (l : Lexed) → IsUtf8 text → kind ≡ l.leaf.kind → chars text ≡ l.leaf.text
    → mentions_by (place_of kind text) name at text ≡ mentions_of_leaf name at l
leaf-mentions name kind text at l u k e = rw (k, sym (leaf-bytes text l u e)) refl

mentions-nil : (name : List ℕ) (at : ℕ) → mentions_from name at [] ≡ []
unfolding mentions_from
mentions-nil name at = refl

pub mentions-end :
    (found : List Mention) (name : List ℕ) (at : ℕ) (ls : List Lexed) (i : ℕ) → length ls ≤ i
    → found ++ mentions_from name at (drop i ls) ≡ found
mentions-end found name at ls i h =
    ap (λ (l : List Mention). found ++ l) (at_drop_all (mentions_from name at) ls i h ∙ mentions-nil name at) ∙ append-nil found

mentions-cons :
    (name : List ℕ) (at : ℕ) (l : Lexed) (ls : List Lexed)
    → mentions_from name at (l ∷ ls) ≡ mentions_of_leaf name at l ++ mentions_from name (at + size l.leaf.text) ls
unfolding mentions_from
mentions-cons name at l ls = refl

-- the places from the leaf with a number on
pub mentions-drop :
    (name : List ℕ) (ls : List Lexed) (i : ℕ) → i < length ls
    → mentions_from name (offset ls i) (drop i ls)
    ≡ mentions_of_leaf name (offset ls i) (leaf_at ls i) ++ mentions_from name (offset ls (i + 1)) (drop (i + 1) ls)
mentions-drop name ls i h =
    let l = leaf_at ls i in
    at_drop_more (mentions_from name (offset ls i)) ls i (quiet EOF []) h
    ∙ mentions-cons name (offset ls i) l (drop (i + 1) ls)
    ∙ ap (λ (at : ℕ). mentions_of_leaf name (offset ls i) l ++ mentions_from name at (drop (i + 1) ls)) (sym (offset-more ls i (quiet EOF []) h))

-- what is found of the leaf with a number, and the places from the next one on
pub mentions-more :
    (now found : List Mention) (name : List ℕ) (ls : List Lexed) (i : ℕ) → i < length ls
    → now ≡ found ++ mentions_of_leaf name (offset ls i) (leaf_at ls i)
    → now ++ mentions_from name (offset ls (i + 1)) (drop (i + 1) ls) ≡ found ++ mentions_from name (offset ls i) (drop i ls)
mentions-more now found name ls i h e = rw (e, append_assoc, ← mentions-drop name ls i h) refl
