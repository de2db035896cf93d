-- Dedenting replaces from left to right: spaces have no line feed, so no occurrence begins in one.
use Rattle.std.proofs.Common.{◌≡◌, ℕ, zero, suc, ◌*◌, ◌-◌, List, [], ◌∷◌, ◌++◌, drop, length, replicate, Bool, true, false, ◌&&◌, cond, eqb, refl, ap, sym, ◌∙◌, subst, arith}
use Rattle.std.proofs.lemmas.Bool.Decides.{Decides-eqb}
use Rattle.std.specs.List.{starts_with}
use Rattle.syntax_editor.specs.Indent.{spaces}
use Rattle.tree_indent.specs.Shifted.{set_out}
use Rattle.tree_indent.specs.Laws.{replaced, DedentingReplaces}
use Rattle.tree_indent.proofs.SetOut.{and-parts, front_is, ten}

-- the first characters are no line feeds
abbrev NoFeed : ℕ → List ℕ → Type 0
NoFeed zero cs = Unit {0}
NoFeed (suc k) [] = Unit {0}
NoFeed (suc k) (c ∷ cs) = (eqb c 10 ≡ false) × NoFeed k cs

no-feed : (k : ℕ) (rest : List ℕ) → NoFeed k (replicate k 32 ++ rest)
no-feed zero rest = tt
no-feed (suc k) rest = (refl, no-feed k rest)

same : (a b : Bool) → (a ≡ true → b ≡ true) → (b ≡ true → a ≡ true) → a ≡ b
same true b f g = sym (f refl)
same false true f g = g refl
same false false f g = refl

turned : (a b : ℕ) → eqb a b ≡ eqb b a
turned a b = same (eqb a b) (eqb b a) (λ h. (Decides-eqb b a).1 (sym ((Decides-eqb a b).0 h))) (λ h. (Decides-eqb a b).1 (sym ((Decides-eqb b a).0 h)))

long : (k : ℕ) → length {A = ℕ} (replicate k 32) ≡ k
long zero = refl
long (suc k) = ap suc (long k)

left-over : (n : ℕ) → n * 4 ≡ suc (length {A = ℕ} (spaces n)) - 1
left-over n = omega (arith, long (n * 4))

abbrev put_at : ℕ → ℕ → List ℕ → List ℕ
put_at n left cs = replaced (10 ∷ spaces n) (10 ∷ []) left cs

after : (n : ℕ) (cs : List ℕ) (left : ℕ) → NoFeed left cs → drop left (set_out n cs) ≡ put_at n left cs
after n [] zero h = refl
after n [] (suc left) h = refl
after n (c ∷ cs) (suc left) h =
    ap (λ b. drop left (cond (b && starts_with eqb cs (spaces n)) (drop (n * 4) (set_out n cs)) (set_out n cs))) h.0
    ∙ after n cs left h.1
after n (c ∷ cs) zero h = by (after n cs) (eqb c 10 && starts_with eqb cs (spaces n)) refl
  where
    by : ((left : ℕ) → NoFeed left cs → drop left (set_out n cs) ≡ put_at n left cs) → (b : Bool) → (eqb c 10 && starts_with eqb cs (spaces n)) ≡ b → set_out n (c ∷ cs) ≡ put_at n 0 (c ∷ cs)
    by next true is =
        let parts = and-parts (eqb c 10) (starts_with eqb cs (spaces n)) is in
        let free : NoFeed (n * 4) cs = subst (NoFeed (n * 4)) (sym ((front_is n cs).0 parts.1)) (no-feed (n * 4) (drop (length (spaces n)) cs)) in
        ap (λ b. c ∷ cond b (drop (n * 4) (set_out n cs)) (set_out n cs)) is
        ∙ ap (λ l. c ∷ l) (next (n * 4) free)
        ∙ ap (λ (d : ℕ). d ∷ put_at n (n * 4) cs) (ten c parts.0)
        ∙ ap (λ (k : ℕ). 10 ∷ put_at n k cs) (left-over n)
        ∙ sym (ap (λ b. cond b (10 ∷ put_at n (suc (length {A = ℕ} (spaces n)) - 1) cs) (c ∷ put_at n 0 cs)) (ap (λ b. b && starts_with eqb cs (spaces n)) (turned 10 c) ∙ is))
    by next false is =
        ap (λ b. c ∷ cond b (drop (n * 4) (set_out n cs)) (set_out n cs)) is
        ∙ ap (λ l. c ∷ l) (next 0 tt)
        ∙ sym (ap (λ b. cond b (10 ∷ put_at n (suc (length {A = ℕ} (spaces n)) - 1) cs) (c ∷ put_at n 0 cs)) (ap (λ b. b && starts_with eqb cs (spaces n)) (turned 10 c) ∙ is))

pub dedenting-replaces : DedentingReplaces
dedenting-replaces n text = after n text 0 tt
