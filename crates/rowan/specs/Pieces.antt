-- Texts that are given in pieces.
use Rattle.std.specs.Prelude.{◌≡◌, ℕ, ◌<◌, List, [], ◌∷◌, ◌++◌, length, Result, Ok, Err, MatchResult}
use Rattle.std.specs.List.{All, concat}
use Rattle.std.specs.Fn.{Mut, Called, CalledAt, Takes, TakesAt}
use denote.Ref.{Bor}

-- calls of f at these pieces, one after another, each with what the one before made of its piece. The first that refuses is the last.
abbrev pub Folds : {F T E : Type 0} → (F → T → List ℕ → Result T E → F → Type 0) → F → T → List (List ℕ) → Result T E → F → Type 0
Folds call f t [] r g = (r ≡ Ok t) × (g ≡ f)
Folds {F} {T} {E} call f t (c ∷ cs) r g = (u : Result T E) × (h : F) × call f t c u h × MatchResult u (λ v. Folds call h v cs r g) (λ e. (r ≡ Err e) × (g ≡ h))

-- calls of `call` at some pieces, none of them empty, that are this text together
pub record FoldsText {F T E : Type 0} (call : F → T → List ℕ → Result T E → F → Type 0) (f : F) (t : T) (text : List ℕ) (r : Result T E) (g : F) : Type 0 where
  pub pieces : List (List ℕ)
  pub whole : concat pieces ≡ text
  pub full : All (λ c. 0 < length c) pieces
  pub calls : Folds call f t pieces r g

-- f may be called at the pieces of this text, one after another, and nowhere else: at a piece that has text, with what was made of those before it, wherever the text is cut
pub record TakesText {F T E : Type 0} (call : F → T → List ℕ → Result T E → F → Type 0) (takes : F → T → List ℕ → Type 0) (f : F) (t : T) (text : List ℕ) : Type 0 where
  pub at :
      (before : List (List ℕ)) (piece after : List ℕ) (u : T) (g : F)
      → concat before ++ (piece ++ after) ≡ text
      → All (λ c. 0 < length c) before
      → 0 < length piece
      → Folds call f t before (Ok u) g
      → takes g u piece

-- a call at what was made so far and at a piece
abbrev pub FoldCall : {F T E : Type 0} → Mut F (T × (Bor (List ℕ) × Unit {0})) (Result T E) → F → T → List ℕ → Result T E → F → Type 0
FoldCall f g t c u h = (shown : Bor (List ℕ)) × (shown.now ≡ c) × Called f g (t, (shown, tt)) u h

-- a call at a piece alone, which may refuse
abbrev pub VisitCall : {F E : Type 0} → Mut F (Bor (List ℕ) × Unit {0}) (Result (Unit {0}) E) → F → Unit {0} → List ℕ → Result (Unit {0}) E → F → Type 0
VisitCall f g t c u h = CalledAt f g c u h

-- a call at a piece alone, which does not
abbrev pub EachCall : {F : Type 0} → Mut F (Bor (List ℕ) × Unit {0}) (Unit {0}) → F → Unit {0} → List ℕ → Result (Unit {0}) (Unit {0}) → F → Type 0
EachCall f g t c u h = CalledAt f g c tt h × (u ≡ Ok tt)

-- whether f may be called at what was made so far and at a piece
abbrev pub FoldTakes : {F T E : Type 0} → Mut F (T × (Bor (List ℕ) × Unit {0})) (Result T E) → F → T → List ℕ → Type 0
FoldTakes f g t c = (shown : Bor (List ℕ)) → shown.now ≡ c → Takes f g (t, (shown, tt))

-- whether it may be called at a piece alone
abbrev pub ChunkTakes : {F R : Type 0} → Mut F (Bor (List ℕ) × Unit {0}) R → F → Unit {0} → List ℕ → Type 0
ChunkTakes f g t c = TakesAt f g c
