-- The characters of a kind.
use Rattle.std.proofs.Common.{◌≡◌, ℕ, Bool, true, false, not, ◌&&◌, ◌==◌, List, [], ◌∷◌, refl, sym, ◌∙◌, ap, inl, inr, if◌then◌else◌}
use Rattle.std.specs.List.{list_all}
use Rattle.std.proofs.lemmas.Bool.{and_from, and_parts, cases_Bool, eqb-true}
use Rattle.parser_input.specs.Kinds.{FLOAT_NUMBER, IDENT, PIPE, PIPE_GT, R_ANGLE}
use Rattle.core_language.specs.Spaced.{Composite, characters_in, composites}
use Rattle.spaced_core.specs.WellSpaced.{characters_of}
use Rattle.spaced_core.proofs.Sound.{is_solid}

-- what each composite's characters have, and the kind alone, the characters of the kind have
each-row : (p : List ℕ → Bool) (cs : List Composite) (k : ℕ) → list_all (λ c. p c.characters) cs ≡ true → p (k ∷ []) ≡ true → p (characters_in cs k) ≡ true
each-row p [] k all one = one
each-row p (c ∷ cs) k all one =
    let both = and_parts (p c.characters) (list_all (λ c. p c.characters) cs) all in
    whichever (c.kind == k) both.0 (each-row p cs k both.1 one)
  where
    whichever : (b : Bool) → p c.characters ≡ true → p (characters_in cs k) ≡ true → p (if b then c.characters else characters_in cs k) ≡ true
    whichever true x y = x
    whichever false x y = y

-- of a leaf of several characters and no other, the characters are those of its composite
pub pipe-characters : (k : ℕ) → (k == PIPE_GT) ≡ true → characters_of k ≡ PIPE ∷ R_ANGLE ∷ []
unfolding characters_of
pipe-characters k h = rw h refl

pub other-characters : (k : ℕ) → (k == PIPE_GT) ≡ false → characters_of k ≡ characters_in composites k
unfolding characters_of
other-characters k h = rw h refl

pub each-kind : (p : List ℕ → Bool) (k : ℕ) → list_all (λ c. p c.characters) composites ≡ true → p (PIPE ∷ R_ANGLE ∷ []) ≡ true → p (k ∷ []) ≡ true → p (characters_of k) ≡ true
each-kind p k all pipe one = elim (cases_Bool (k == PIPE_GT)) [
  | inl h ↦ ap p (pipe-characters k h) ∙ pipe
  | inr h ↦ ap p (other-characters k h) ∙ each-row p composites k all one
]

-- there is a character, and each is solid
unfoldable pub are_solid : List ℕ → Bool
are_solid [] = false
are_solid (k ∷ ks) = list_all is_solid (k ∷ ks)

composites-solid : list_all (λ c. are_solid c.characters) composites ≡ true
unfolding are_solid
composites-solid = refl

pipe-solid : are_solid (PIPE ∷ R_ANGLE ∷ []) ≡ true
unfolding are_solid
pipe-solid = refl

one-solid : (k : ℕ) → is_solid k ≡ true → are_solid (k ∷ []) ≡ true
unfolding are_solid
one-solid k h = and_from (is_solid k) true h refl

pub solid-kind : (k : ℕ) → is_solid k ≡ true → are_solid (characters_of k) ≡ true
solid-kind k h = each-kind are_solid k composites-solid pipe-solid (one-solid k h)

pub all-solid : (ks : List ℕ) → are_solid ks ≡ true → list_all is_solid ks ≡ true
unfolding are_solid
all-solid [] h = refl
all-solid (k ∷ ks) h = h

-- Characters whose tokens do not depend on what follows: neither a name nor a float, and no `|` before `>`.
unfoldable pub is_steady_kind : ℕ → Bool
is_steady_kind k = is_solid k && (not (k == IDENT) && not (k == FLOAT_NUMBER))

unfoldable pub are_steady : List ℕ → Bool
are_steady [] = false
are_steady (k ∷ []) = is_steady_kind k
are_steady (k ∷ j ∷ ks) = is_steady_kind k && (not (k == PIPE && j == R_ANGLE) && are_steady (j ∷ ks))

composites-steady : list_all (λ c. are_steady c.characters) composites ≡ true
unfolding are_steady is_steady_kind
composites-steady = refl

one-steady : (k : ℕ) → is_solid k ≡ true → (k == IDENT) ≡ false → (k == FLOAT_NUMBER) ≡ false → are_steady (k ∷ []) ≡ true
unfolding are_steady is_steady_kind
one-steady k h i f = rw (h, i, f) refl

pub steady-kind : (k : ℕ) → is_solid k ≡ true → (k == IDENT) ≡ false → (k == FLOAT_NUMBER) ≡ false → are_steady (characters_in composites k) ≡ true
steady-kind k h i f = each-row are_steady composites k composites-steady (one-steady k h i f)

name-alone : characters_of IDENT ≡ IDENT ∷ []
unfolding characters_of
name-alone = refl

float-alone : characters_of FLOAT_NUMBER ≡ FLOAT_NUMBER ∷ []
unfolding characters_of
float-alone = refl

pub name-characters : (k : ℕ) → (k == IDENT) ≡ true → characters_of k ≡ k ∷ []
name-characters k h = let e = eqb-true k IDENT h in ap characters_of e ∙ name-alone ∙ ap (λ (n : ℕ). n ∷ []) (sym e)

pub float-characters : (k : ℕ) → (k == FLOAT_NUMBER) ≡ true → characters_of k ≡ k ∷ []
float-characters k h = let e = eqb-true k FLOAT_NUMBER h in ap characters_of e ∙ float-alone ∙ ap (λ (n : ℕ). n ∷ []) (sym e)
