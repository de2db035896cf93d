-- The words of a text, one byte after another.
use Rattle.std.proofs.Common.{◌≡◌, ℕ, suc, ◌+◌, ◌<◌, ◌++◌, List, [], ◌∷◌, length, drop, get_or, refl, arith, add-one, drop-cons}
use Rattle.name_mentions.specs.Words.{is_name, mention_if, names_from}
use Rattle.name_mentions.specs.declared.place.MentionPlace.{MentionPlace}

pub names-end :
    (name : List ℕ) (place : MentionPlace) (second last at : ℕ) → names_from name place second last at [] ≡ []
unfolding names_from
names-end name place second last at = refl

names-cons :
    (name : List ℕ) (place : MentionPlace) (second last at b : ℕ) (bs : List ℕ)
    → names_from name place second last at (b ∷ bs)
    ≡ mention_if (is_name name second last (b ∷ bs)) place at ++ names_from name place last b (suc at) bs
unfolding names_from
names-cons name place second last at b bs = refl

-- the words from the byte with a number on
pub names-drop :
    (name : List ℕ) (place : MentionPlace) (second last at i d : ℕ) (text : List ℕ) → i < length text
    → names_from name place second last (at + i) (drop i text)
    ≡ mention_if (is_name name second last (drop i text)) place (at + i)
    ++ names_from name place last (get_or text i d) (at + (i + 1)) (drop (i + 1) text)
names-drop name place second last at i d text h =
    let e : suc (at + i) ≡ at + (i + 1) = omega arith in
    rw (add-one i, drop-cons text i d, names-cons) (rw (← add-one i, ← e) refl)
