-- Laws of readers of texts: what comes of a text and of one after it.
use Rattle.std.specs.Prelude.{◌≡◌, ℕ, zero, suc, ◌+◌, ◌<◌, List, [], ◌∷◌, ◌++◌, length, refl, Result, Ok, Err, MatchResult}
use Rattle.std.proofs.Common.{sym, ◌∙◌, ap, subst, arith, append_assoc, append-nil, length-append}
use Rattle.std.specs.Char.{encode_utf8}
use Rattle.std.specs.List.{All, concat}
use Rattle.std.proofs.lemmas.Str.{NoCharPasses-nil, NoCharPasses-append}
use Rattle.std.proofs.lemmas.List.Folds.{concat-append}
use Rattle.std.proofs.lemmas.List.Elements.{All-append}
use Rattle.rowan.specs.Text.{Lacks, StandsAt, FirstAt}
use Rattle.rowan.specs.Pieces.{Folds, FoldsText, TakesText}

-- ---- the search for a character

abbrev pub stands_after : (c k : ℕ) (a b : List ℕ) → StandsAt c b k → StandsAt c (a ++ b) (length a + k)
stands_after c k a b s = record {
  before = a ++ s.before;
  after = s.after;
  splits = ap (λ v. a ++ v) s.splits ∙ sym (append_assoc a s.before (encode_utf8 c ++ s.after));
  place = length-append a s.before ∙ ap (λ n. length a + n) s.place;
}

abbrev pub stands_before : (c k : ℕ) (a b : List ℕ) → StandsAt c a k → StandsAt c (a ++ b) k
stands_before c k a b s = record {
  before = s.before;
  after = s.after ++ b;
  splits =
      ap (λ v. v ++ b) s.splits ∙ append_assoc s.before (encode_utf8 c ++ s.after) b
      ∙ ap (λ v. s.before ++ v) (append_assoc (encode_utf8 c) s.after b);
  place = s.place;
}

-- the character is not there, or at this byte of what begins at `at`
abbrev pub Finds : {S : Type 0} → (S → ℕ) → S → ℕ → List ℕ → Result S ℕ → Type 0
Finds wanted r at text x = MatchResult x (λ s. (s ≡ r) × Lacks (wanted r) text) (λ n. (k : ℕ) × (n ≡ at + k) × FirstAt (wanted r) text k)

module _ {S : Type 0} (wanted : S → ℕ) where
  pub finds_nothing : (r : S) (at : ℕ) → Finds wanted r at [] (Ok r)
  finds_nothing r at = (refl, NoCharPasses-nil _)

  pub finds_further : (r s : S) (at : ℕ) (a b : List ℕ) (x : Result S ℕ) → Finds wanted r at a (Ok s) → Finds wanted s (at + length a) b x → Finds wanted r at (a ++ b) x
  finds_further r s at a b (Ok t) h k =
      (k.0 ∙ h.0, NoCharPasses-append _ a b h.1 (subst (λ v. Lacks (wanted v) b) h.0 k.1))
  finds_further r s at a b (Err n) h k =
      let f : FirstAt (wanted r) b k.0 = subst (λ v. FirstAt (wanted v) b k.0) h.0 k.2 in
      let e : n ≡ at + (length a + k.0) = omega (arith, k.1) in (
        length a + k.0,
        e,
        record {
          stands = stands_after (wanted r) k.0 a b f.stands;
          first = NoCharPasses-append _ a f.stands.before h.1 f.first;
        },
      )

  pub finds_stopped : (r : S) (n : ℕ) (at : ℕ) (a b : List ℕ) → Finds wanted r at a (Err n) → Finds wanted r at (a ++ b) (Err n)
  finds_stopped r n at a b h = (
    h.0,
    h.1,
    record {
      stands = stands_before (wanted r) h.0 a b h.2.stands;
      first = h.2.first;
    },
  )

-- ---- folds

abbrev from_ok : {T E : Type 0} → T → Result T E → T
from_ok d (Ok x) = x
from_ok d (Err e) = d

-- a text in one piece, or in none
abbrev pieces_of : List ℕ → List (List ℕ)
pieces_of [] = []
pieces_of (x ∷ xs) = (x ∷ xs) ∷ []

pieces_whole : (xs : List ℕ) → concat (pieces_of xs) ≡ xs
pieces_whole [] = refl
pieces_whole (x ∷ xs) = append-nil (x ∷ xs)

one_full : (c : List ℕ) → 0 < length c → All (λ c. 0 < length c) (c ∷ [])
one_full c h zero d k = h
one_full c h (suc n) d k = absurd (omega arith)

pieces_full : (xs : List ℕ) → All (λ c. 0 < length c) (pieces_of xs)
pieces_full [] = λ k d h. absurd (omega arith)
pieces_full (x ∷ xs) = one_full (x ∷ xs) (omega arith)

module _ {F T E : Type 0} (call : F → T → List ℕ → Result T E → F → Type 0) where
  more_case : (k g h : F) (u : T) (w : Result T E) (cs ys : List (List ℕ)) (r : Result T E) → ((v : T) → Folds call k v cs (Ok u) g → Folds call k v (cs ++ ys) r h) → MatchResult w (λ v. Folds call k v cs (Ok u) g) (λ e. (Ok u ≡ Err e) × (g ≡ k)) → MatchResult w (λ v. Folds call k v (cs ++ ys) r h) (λ e. (r ≡ Err e) × (h ≡ k))
  more_case k g h u (Ok v) cs ys r ih p = ih v p
  more_case k g h u (Err e) cs ys r ih p = absurd (cc)

  folds_more : (f g h : F) (t u : T) (xs ys : List (List ℕ)) (r : Result T E) → Folds call f t xs (Ok u) g → Folds call g u ys r h → Folds call f t (xs ++ ys) r h
  folds_more f g h t u [] ys r p q =
      let e : u ≡ t = ap (from_ok t) p.0 in
      subst (λ v. Folds call f v ys r h) e (subst (λ v. Folds call v u ys r h) p.1 q)
  folds_more f g h t u (c ∷ cs) ys r p q =
      (p.0, p.1, p.2, more_case p.1 g h u p.0 cs ys r (λ v s. folds_more p.1 g h v u cs ys r s q) p.3)

  stop_case : (k g : F) (r : Result T E) (w : Result T E) (cs ys : List (List ℕ)) → ((v : T) → Folds call k v cs r g → Folds call k v (cs ++ ys) r g) → MatchResult w (λ v. Folds call k v cs r g) (λ d. (r ≡ Err d) × (g ≡ k)) → MatchResult w (λ v. Folds call k v (cs ++ ys) r g) (λ d. (r ≡ Err d) × (g ≡ k))
  stop_case k g r (Ok v) cs ys ih p = ih v p
  stop_case k g r (Err d) cs ys ih p = p

  folds_stopped : (f g : F) (t : T) (e : E) (xs ys : List (List ℕ)) → Folds call f t xs (Err e) g → Folds call f t (xs ++ ys) (Err e) g
  folds_stopped f g t e [] ys p = absurd (cc)
  folds_stopped f g t e (c ∷ cs) ys p =
      (p.0, p.1, p.2, stop_case p.1 g (Err e) p.0 cs ys (λ v s. folds_stopped p.1 g v e cs ys s) p.3)

  pub text_nothing : (f : F) (t : T) → FoldsText call f t [] (Ok t) f
  text_nothing f t = record { pieces = []; whole = refl; full = λ k d h. absurd (omega arith); calls = (refl, refl) }

  pub text_further : (f g h : F) (t u : T) (a b : List ℕ) (r : Result T E) → FoldsText call f t a (Ok u) g → FoldsText call g u b r h → FoldsText call f t (a ++ b) r h
  text_further f g h t u a b r p q = record {
    pieces = p.pieces ++ q.pieces;
    whole = concat-append p.pieces q.pieces ∙ ap (λ v. v ++ concat q.pieces) p.whole ∙ ap (λ v. a ++ v) q.whole;
    full = All-append (λ c. 0 < length c) p.pieces q.pieces p.full q.full;
    calls = folds_more f g h t u p.pieces q.pieces r p.calls q.calls;
  }

  pub text_stopped : (f g : F) (t : T) (e : E) (a b : List ℕ) → FoldsText call f t a (Err e) g → FoldsText call f t (a ++ b) (Err e) g
  text_stopped f g t e a b p = record {
    pieces = p.pieces ++ pieces_of b;
    whole = concat-append p.pieces (pieces_of b) ∙ ap (λ v. v ++ concat (pieces_of b)) p.whole ∙ ap (λ v. a ++ v) (pieces_whole b);
    full = All-append (λ c. 0 < length c) p.pieces (pieces_of b) p.full (pieces_full b);
    calls = folds_stopped f g t e p.pieces (pieces_of b) p.calls;
  }

  -- one call reads one piece
  pub text_ok : (f g : F) (t u : T) (c : List ℕ) → 0 < length c → call f t c (Ok u) g → FoldsText call f t c (Ok u) g
  text_ok f g t u c n h = record { pieces = c ∷ []; whole = append-nil c; full = one_full c n; calls = (Ok u, g, h, (refl, refl)) }

  pub text_err : (f g : F) (t : T) (e : E) (c : List ℕ) → 0 < length c → call f t c (Err e) g → FoldsText call f t c (Err e) g
  text_err f g t e c n h = record { pieces = c ∷ []; whole = append-nil c; full = one_full c n; calls = (Err e, g, h, (refl, refl)) }

  -- one call reads one piece, with a result that is known by an equation
  pub text_ok_as : (f g : F) (t u : T) (r : Result T E) (c : List ℕ) → r ≡ Ok u → 0 < length c → call f t c r g → FoldsText call f t c (Ok u) g
  text_ok_as f g t u r c is n h = text_ok f g t u c n (subst (λ x. call f t c x g) is h)

  pub text_err_as : (f g : F) (t : T) (e : E) (r : Result T E) (c : List ℕ) → r ≡ Err e → 0 < length c → call f t c r g → FoldsText call f t c (Err e) g
  text_err_as f g t e r c is n h = text_err f g t e c n (subst (λ x. call f t c x g) is h)

  -- what may be called at the pieces of two texts may be called at those of the first
  pub takes_begins : (takes : F → T → List ℕ → Type 0) (f : F) (t : T) (a b : List ℕ) → TakesText call takes f t (a ++ b) → TakesText call takes f t a
  takes_begins takes f t a b p = record {
    at = λ before piece after u g e full n h.
        p.at before piece (after ++ b) u g
        (ap (λ v. concat before ++ v) (sym (append_assoc piece after b)) ∙ sym (append_assoc (concat before) (piece ++ after) b)
        ∙ ap (λ v. v ++ b) e) full n h;
  }

  -- and, after those of the first, at those of the second
  pub takes_rest : (takes : F → T → List ℕ → Type 0) (f g : F) (t u : T) (a b : List ℕ) → TakesText call takes f t (a ++ b) → FoldsText call f t a (Ok u) g → TakesText call takes g u b
  takes_rest takes f g t u a b p q = record {
    at = λ before piece after v h e full n k.
        p.at (q.pieces ++ before) piece after v h
        (ap (λ w. w ++ (piece ++ after)) (concat-append q.pieces before ∙ ap (λ w. w ++ concat before) q.whole)
        ∙ append_assoc a (concat before) (piece ++ after) ∙ ap (λ w. a ++ w) e)
        (All-append (λ c. 0 < length c) q.pieces before q.full full) n
        (folds_more f g h t u q.pieces before (Ok v) q.calls k);
  }

  -- the first piece may be all of the text
  pub takes_whole : (takes : F → T → List ℕ → Type 0) (f : F) (t : T) (c : List ℕ) → 0 < length c → TakesText call takes f t c → takes f t c
  takes_whole takes f t c n p = p.at [] c [] t f (append-nil c) (λ k d h. absurd (omega arith)) n (refl, refl)

-- what comes of a fold that a reader makes, with its call and what it has so far
abbrev pub ReadsFold : {S F T E : Type 0} → (F → T → List ℕ → Result T E → F → Type 0) → (S → F) → (S → T) → S → List ℕ → Result S E → Type 0
ReadsFold {S} {F} call f t r text x = MatchResult x (λ s. FoldsText call (f r) (t r) text (Ok (t s)) (f s)) (λ e. (g : F) × FoldsText call (f r) (t r) text (Err e) g)

module _ {S F T E : Type 0} (call : F → T → List ℕ → Result T E → F → Type 0) (f : S → F) (t : S → T) where
  pub fold_further : (r s : S) (a b : List ℕ) (x : Result S E) → ReadsFold call f t r a (Ok s) → ReadsFold call f t s b x → ReadsFold call f t r (a ++ b) x
  fold_further r s a b (Ok u) p q = text_further call (f r) (f s) (f u) (t r) (t s) a b (Ok (t u)) p q
  fold_further r s a b (Err e) p q = (q.0, text_further call (f r) (f s) q.0 (t r) (t s) a b (Err e) p q.1)

  pub fold_stopped : (r : S) (e : E) (a b : List ℕ) → ReadsFold call f t r a (Err e) → ReadsFold call f t r (a ++ b) (Err e)
  fold_stopped r e a b p = (p.0, text_stopped call (f r) p.0 (t r) e a b p.1)

-- a text is read by calls that do not fail
abbrev pub ReadsEach : {S F : Type 0} → (F → Unit {0} → List ℕ → Result (Unit {0}) (Unit {0}) → F → Type 0) → (S → F) → S → List ℕ → Result S (Unit {0}) → Type 0
ReadsEach {S} {F} call f r text x = MatchResult x (λ s. FoldsText call (f r) tt text (Ok tt) (f s)) (λ _. ⊥)

module _ {S F : Type 0} (call : F → Unit {0} → List ℕ → Result (Unit {0}) (Unit {0}) → F → Type 0) (f : S → F) where
  pub each_further : (r s : S) (a b : List ℕ) (x : Result S (Unit {0})) → ReadsEach call f r a (Ok s) → ReadsEach call f s b x → ReadsEach call f r (a ++ b) x
  each_further r s a b (Ok u) p q = text_further call (f r) (f s) (f u) tt tt a b (Ok tt) p q
  each_further r s a b (Err e) p q = q
