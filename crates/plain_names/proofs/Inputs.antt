-- Inputs of leaves, of which some are names that are replaced by others.
use Rattle.std.proofs.Common.{◌≡◌, ℕ, Bool, false, not, ◌==◌, List, ◌∷◌, None, refl, sym, ◌∙◌, ap, if◌then◌else◌}
use Rattle.parser_input.specs.Kinds.{IDENT, R_ANGLE}
use Rattle.parser_input.specs.Keywords.{contextual_kind}
use Rattle.parser_input.specs.Leaf.{Leaf, is_trivia}
use Rattle.parser_input.specs.Input.{Token, input, token_of, is_joint, is_before_angle, touches}
use Rattle.plain_names.specs.LeafNames.{ReplacesNames, no_leaves, one_stays, one_goes, InputsIgnoreNames}
use Rattle.parser_input.specs.declared.edition.Edition.{Edition}

pub name-solid : (l : Leaf) → l.kind ≡ IDENT → is_trivia l ≡ false
unfolding is_trivia
name-solid l e = rw e refl

touch : {e : Edition} {ls ms : List Leaf} → ReplacesNames e ls ms → touches ls ≡ touches ms
unfolding touches
touch no_leaves = refl
touch (one_stays g) = refl
touch (one_goes {l} {m} p q c d g) = ap not (name-solid l p ∙ sym (name-solid m q))

-- a name is no `>`
angle : {e : Edition} {ls ms : List Leaf} → ReplacesNames e ls ms → is_before_angle ls ≡ is_before_angle ms
unfolding is_before_angle
angle no_leaves = refl
angle (one_stays g) = refl
angle (one_goes {l} {m} p q c d g) = ap (λ (k : ℕ). k == R_ANGLE) (p ∙ sym q)

-- the token of a name
name-token :
    (w : Bool) (e : Edition) (l : Leaf) (next : List Leaf) (b : Bool) → l.kind ≡ IDENT → contextual_kind e l.text ≡ None → touches next ≡ b
    → token_of w e l next ≡ record { kind = IDENT; contextual = IDENT; joint = b; whole = w }
unfolding token_of is_joint
name-token w e l next b k c t = rw k (rw c (rw t refl))

stay-token : (w : Bool) (e : Edition) (l : Leaf) (ls ms : List Leaf) → touches ls ≡ touches ms → is_before_angle ls ≡ is_before_angle ms → token_of w e l ls ≡ token_of w e l ms
unfolding token_of is_joint
stay-token w e l ls ms t a = rw t (rw a refl)

pub inputs-same : InputsIgnoreNames
unfolding input
inputs-same w e _ _ no_leaves = refl
inputs-same w e _ _ (one_stays {l} {ls} {ms} g) =
    ap (λ (rest : List Token). if is_trivia l then rest else token_of w e l ls ∷ rest) (inputs-same w e ls ms g)
    ∙ ap (λ (t : Token). if is_trivia l then input w e ms else t ∷ input w e ms) (stay-token w e l ls ms (touch g) (angle g))
inputs-same w e _ _ (one_goes {l} {m} {ls} {ms} p q c d g) =
    ap (λ (b : Bool). if b then input w e ls else token_of w e l ls ∷ input w e ls) (name-solid l p)
    ∙ ap (λ (t : Token). t ∷ input w e ls) (name-token w e l ls (touches ms) p c (touch g) ∙ sym (name-token w e m ms (touches ms) q d refl))
    ∙ ap (λ (rest : List Token). token_of w e m ms ∷ rest) (inputs-same w e ls ms g)
    ∙ ap (λ (b : Bool). if b then input w e ms else token_of w e m ms ∷ input w e ms) (sym (name-solid m q))
