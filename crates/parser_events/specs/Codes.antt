-- How the logic stores trees and what is seen of a parser.
use Rattle.std.specs.Prelude.{◌≡◌, ℕ, ◌==◌, Bool, true, false, cond, List, [], ◌∷◌, refl}
use Rattle.std.specs.Coded.{Coded, code_by, coded×, coded_ℕ, coded_bool, coded_list, coded_option}
use Rattle.std.proofs.Common.{ap, ◌∙◌}
use Rattle.parser_input.specs.Input.{Token}
use Rattle.parser_events.specs.Forest as forest
use Rattle.parser_events.specs.Forest.{Message}
use Rattle.parser_events.specs.Marked as marked
use Rattle.parser_events.specs.Marked.{Marked}
use Rattle.parser_events.specs.View.{View}

-- a message as its number and its kind
abbrev message_number : Message → ℕ × ℕ
message_number (forest.Expected kind) = (0, kind)
message_number (forest.UnexpectedIn list) = (1, list)
message_number forest.ExpectedType = (2, 0)
message_number forest.ExpectedExpression = (3, 0)
message_number forest.ExpectedPattern = (4, 0)
message_number forest.ExpectedItem = (5, 0)
message_number forest.ExpectedStatement = (6, 0)
message_number forest.ExpectedMatchArm = (7, 0)
message_number forest.ExpectedField = (8, 0)
message_number forest.UnexpectedTokens = (9, 0)
message_number forest.IllegalFloat = (10, 0)

abbrev message_at : ℕ × ℕ → Message
message_at p =
    cond (p.0 == 0) (forest.Expected p.1) (cond (p.0 == 1) (forest.UnexpectedIn p.1) (cond (p.0 == 2) forest.ExpectedType
    (cond (p.0 == 3) forest.ExpectedExpression (cond (p.0 == 4) forest.ExpectedPattern (cond (p.0 == 5) forest.ExpectedItem
    (cond (p.0 == 6) forest.ExpectedStatement (cond (p.0 == 7) forest.ExpectedMatchArm (cond (p.0 == 8) forest.ExpectedField
    (cond (p.0 == 9) forest.UnexpectedTokens forest.IllegalFloat)))))))))

pub message_at-message_number : (m : Message) → message_at (message_number m) ≡ m
message_at-message_number (forest.Expected kind) = refl
message_at-message_number (forest.UnexpectedIn list) = refl
message_at-message_number forest.ExpectedType = refl
message_at-message_number forest.ExpectedExpression = refl
message_at-message_number forest.ExpectedPattern = refl
message_at-message_number forest.ExpectedItem = refl
message_at-message_number forest.ExpectedStatement = refl
message_at-message_number forest.ExpectedMatchArm = refl
message_at-message_number forest.ExpectedField = refl
message_at-message_number forest.UnexpectedTokens = refl
message_at-message_number forest.IllegalFloat = refl

-- One sign of a list that encodes trees. Each sign builds on the trees before it; a node combines two of them.
pub data Sign : Type 0 where
  Nothing : Sign
  Leaf : (kind count : ℕ) → Sign
  Said : (message : Message) → Sign
  Node : (kind : ℕ) → Sign
  Split : (ends_in_dot : Bool) → Sign

abbrev Parts : Type 0
Parts = ℕ × (ℕ × (ℕ × (ℕ × ℕ)))

abbrev sign_parts : Sign → Parts
sign_parts Nothing = (0, (0, (0, (0, 0))))
sign_parts (Leaf kind count) = (1, (kind, (count, (0, 0))))
sign_parts (Said message) = (2, (0, (0, message_number message)))
sign_parts (Node kind) = (3, (kind, (0, (0, 0))))
sign_parts (Split true) = (4, (0, (0, (0, 0))))
sign_parts (Split false) = (5, (0, (0, (0, 0))))

abbrev sign_at : Parts → Sign
sign_at p =
    cond (p.0 == 0) Nothing (cond (p.0 == 1) (Leaf p.1.0 p.1.1.0) (cond (p.0 == 2) (Said (message_at p.1.1.1))
    (cond (p.0 == 3) (Node p.1.0) (cond (p.0 == 4) (Split true) (Split false)))))

pub sign_at-sign_parts : (s : Sign) → sign_at (sign_parts s) ≡ s
sign_at-sign_parts Nothing = refl
sign_at-sign_parts (Leaf kind count) = refl
sign_at-sign_parts (Said message) = ap Said (message_at-message_number message)
sign_at-sign_parts (Node kind) = refl
sign_at-sign_parts (Split true) = refl
sign_at-sign_parts (Split false) = refl

abbrev sign_code : Coded Sign
sign_code = code_by Parts (coded× coded_ℕ (coded× coded_ℕ (coded× coded_ℕ (coded× coded_ℕ coded_ℕ)))) sign_parts sign_at sign_at-sign_parts

-- the signs of trees, before others
abbrev pub signs : Marked → List Sign → List Sign
signs marked.End rest = Nothing ∷ rest
signs (marked.Leaf k n f) rest = signs f (Leaf k n ∷ rest)
signs (marked.Said m f) rest = signs f (Said m ∷ rest)
signs (marked.Node k c f) rest = signs c (signs f (Node k ∷ rest))
signs (marked.Split e c f) rest = signs c (signs f (Split e ∷ rest))

-- what one sign builds
abbrev put : Sign → List Marked → List Marked
put Nothing built = marked.End ∷ built
put (Leaf k n) [] = []
put (Leaf k n) (f ∷ built) = marked.Leaf k n f ∷ built
put (Said m) [] = []
put (Said m) (f ∷ built) = marked.Said m f ∷ built
put (Node k) [] = []
put (Node k) (f ∷ []) = []
put (Node k) (f ∷ c ∷ built) = marked.Node k c f ∷ built
put (Split e) [] = []
put (Split e) (f ∷ []) = []
put (Split e) (f ∷ c ∷ built) = marked.Split e c f ∷ built

abbrev pub build : List Sign → List Marked → List Marked
build [] built = built
build (s ∷ rest) built = build rest (put s built)

pub build-signs : (f : Marked) (rest : List Sign) (built : List Marked) → build (signs f rest) built ≡ build rest (f ∷ built)
build-signs marked.End rest built = refl
build-signs (marked.Leaf k n f) rest built = build-signs f (Leaf k n ∷ rest) built
build-signs (marked.Said m f) rest built = build-signs f (Said m ∷ rest) built
build-signs (marked.Node k c f) rest built =
    build-signs c (signs f (Node k ∷ rest)) built ∙ build-signs f (Node k ∷ rest) (c ∷ built)
build-signs (marked.Split e c f) rest built =
    build-signs c (signs f (Split e ∷ rest)) built ∙ build-signs f (Split e ∷ rest) (c ∷ built)

abbrev first_of : List Marked → Marked
first_of [] = marked.End
first_of (f ∷ built) = f

pub marked-back : (f : Marked) → first_of (build (signs f []) []) ≡ f
marked-back f = ap first_of (build-signs f [] [])

abbrev pub marked_code : Coded Marked
marked_code = code_by (List Sign) (coded_list sign_code) (λ f. signs f []) (λ ss. first_of (build ss [])) marked-back

abbrev token_code : Coded Token
token_code =
    code_by (ℕ × (ℕ × (Bool × Bool))) (coded× coded_ℕ (coded× coded_ℕ (coded× coded_bool coded_bool))) (λ t. (t.kind, (t.contextual, (t.joint, t.whole))))
    (λ p. record { kind = p.0; contextual = p.1.0; joint = p.1.1.0; whole = p.1.1.1 }) (λ _. refl)

-- a view is stored as the tuple of its fields
abbrev pub view_code : Coded View
view_code =
    code_by _ (coded× (coded_list token_code) (coded× coded_ℕ (coded× (coded_option (coded_list marked_code)) coded_ℕ)))
    (λ v. (v.input, (v.position, (v.nodes, v.looks)))) (λ p. record { input = p.0; position = p.1.0; nodes = p.1.1.0; looks = p.1.1.1 }) (λ _. refl)
