-- What the steps inside a root put.
use Rattle.std.proofs.Common.{◌≡◌, ◌≤◌, ◌<◌, ℕ, List, [], ◌∷◌, ◌++◌, length, drop, map, refl, ap, sym, subst, ◌∙◌, append_assoc, arith}
use Rattle.parser_input.specs.Lexed.{Lexed, leaves_of}
use Rattle.parser_events.specs.Dress.{joined}
use Rattle.parser_events.specs.Laying.{Lays, Place, after_step, place_at, put_around, put_by, put_inside}
use Rattle.parser_events.specs.Seen.{step_of}
use Rattle.parser_events.specs.Sinks.{TakesAll, FailsAtOne}
use Rattle.parser_events.specs.Steps as walk
use Rattle.parser_events.specs.TextSteps.{TextStep, Enter, Exit, leaf_steps}
use Rattle.parser_events.specs.declared.step.Step.{Step}
use Rattle.parser_events.proofs.Sinks.{takes-then, fails_at-in, fails_at-after}

inside-more : (step : Step) (after : List Step) (s : Place) → 0 < length after →
    put_inside (step_of step ∷ map step_of after) s ≡ put_by (step_of step) s ++ put_inside (map step_of after) (after_step (step_of step) s)
inside-more step [] s some = absurd (omega (arith, some))
inside-more step (x ∷ after) s some = refl

inside-last : (step : Step) (after : List Step) (s : Place) → length after ≡ 0 → put_inside (step_of step ∷ map step_of after) s ≡ leaf_steps s.left ++ Exit ∷ []
inside-last step [] s none = refl
inside-last step (x ∷ after) s none = absurd (omega (arith, none))

-- The steps before the rest were put: they and the rest put what all do.
pub record Inside {S : Type 0} (takes : S → TextStep → S → Type 0) (ls : List Lexed) (all : List Step) (old : S) (rest : List Step) (next : ℕ) (new : S) : Type 0 where
  pub at : next ≤ length ls
  pub done : List TextStep
  pub taken : TakesAll takes old done new
  pub are : put_inside (map step_of all) (place_at ls 0) ≡ done ++ put_inside (map step_of rest) (place_at ls next)

pub inside-begins : {S : Type 0} (takes : S → TextStep → S → Type 0) (ls : List Lexed) (all : List Step) (old : S) → Inside takes ls all old all 0 old
inside-begins takes ls all old = record { at = omega arith; done = []; taken = refl; are = refl }

inside-next : {S : Type 0} (takes : S → TextStep → S → Type 0) (ls : List Lexed) (all rest after : List Step) (old mid : S) (step : Step) (next : ℕ) →
    (i : Inside takes ls all old rest next mid) → rest ≡ step ∷ after → 0 < length after →
    put_inside (map step_of all) (place_at ls 0)
    ≡ (i.done ++ put_by (step_of step) (place_at ls next)) ++ put_inside (map step_of after) (after_step (step_of step) (place_at ls next))
inside-next takes ls all rest after old mid step next i is some =
    i.are
    ∙ ap (λ (r : List Step). i.done ++ put_inside (map step_of r) (place_at ls next)) is
    ∙ ap (λ (r : List TextStep). i.done ++ r) (inside-more step after (place_at ls next) some)
    ∙ sym (append_assoc i.done _ _)

pub inside-goes : {S : Type 0} (takes : S → TextStep → S → Type 0) (ls : List Lexed) (all rest after : List Step) (old mid new : S) (step : Step) (next place : ℕ) →
    Inside takes ls all old rest next mid → rest ≡ step ∷ after → 0 < length after → Lays takes ls (step_of step) next mid place new → Inside takes ls all old after place new
inside-goes takes ls all rest after old mid new step next place i is some l =
    let done : List TextStep = i.done ++ put_by (step_of step) (place_at ls next) in
    record {
      at = l.within;
      done = done;
      taken = takes-then takes old mid new i.done (put_by (step_of step) (place_at ls next)) i.taken l.taken;
      are = inside-next takes ls all rest after old mid step next i is some ∙ ap (λ (p : Place). done ++ put_inside (map step_of after) p) (sym l.at);
    }

pub inside-refused : {S E : Type 0} (takes : S → TextStep → S → Type 0) (fails_at : S → TextStep → E → S → Type 0) (ls : List Lexed) (all rest after : List Step) (old mid new : S) (e : E) (step : Step) (next : ℕ) →
    Inside takes ls all old rest next mid → rest ≡ step ∷ after → 0 < length after → FailsAtOne takes fails_at mid (put_by (step_of step) (place_at ls next)) e new →
    FailsAtOne takes fails_at old (put_inside (map step_of all) (place_at ls 0)) e new
inside-refused takes fails_at ls all rest after old mid new e step next i is some r =
    let own = put_by (step_of step) (place_at ls next) in
    subst (λ (x : List TextStep). FailsAtOne takes fails_at old x e new) (sym (inside-next takes ls all rest after old mid step next i is some))
    (fails_at-in takes fails_at old new e (i.done ++ own) _ (fails_at-after takes fails_at old mid new e i.done own i.taken r))

inside-all : {S : Type 0} (takes : S → TextStep → S → Type 0) (ls : List Lexed) (all rest after : List Step) (old mid : S) (step : Step) (next : ℕ) →
    (i : Inside takes ls all old rest next mid) → rest ≡ step ∷ after → length after ≡ 0 →
    put_inside (map step_of all) (place_at ls 0) ≡ i.done ++ (leaf_steps (drop next (leaves_of ls)) ++ Exit ∷ [])
inside-all takes ls all rest after old mid step next i is none =
    i.are
    ∙ ap (λ (r : List Step). i.done ++ put_inside (map step_of r) (place_at ls next)) is
    ∙ ap (λ (r : List TextStep). i.done ++ r) (inside-last step after (place_at ls next) none)

pub inside-ends : {S : Type 0} (takes : S → TextStep → S → Type 0) (ls : List Lexed) (all rest after : List Step) (old mid new : S) (step : Step) (next : ℕ) →
    Inside takes ls all old rest next mid → rest ≡ step ∷ after → length after ≡ 0 → TakesAll takes mid (leaf_steps (drop next (leaves_of ls)) ++ Exit ∷ []) new →
    TakesAll takes old (put_inside (map step_of all) (place_at ls 0)) new
inside-ends takes ls all rest after old mid new step next i is none t =
    subst (λ (x : List TextStep). TakesAll takes old x new) (sym (inside-all takes ls all rest after old mid step next i is none))
    (takes-then takes old mid new i.done (leaf_steps (drop next (leaves_of ls)) ++ Exit ∷ []) i.taken t)

pub inside-end-refused : {S E : Type 0} (takes : S → TextStep → S → Type 0) (fails_at : S → TextStep → E → S → Type 0) (ls : List Lexed) (all rest after : List Step) (old mid new : S) (e : E) (step : Step) (next : ℕ) →
    Inside takes ls all old rest next mid → rest ≡ step ∷ after → length after ≡ 0 → FailsAtOne takes fails_at mid (leaf_steps (drop next (leaves_of ls)) ++ Exit ∷ []) e new →
    FailsAtOne takes fails_at old (put_inside (map step_of all) (place_at ls 0)) e new
inside-end-refused takes fails_at ls all rest after old mid new e step next i is none r =
    subst (λ (x : List TextStep). FailsAtOne takes fails_at old x e new) (sym (inside-all takes ls all rest after old mid step next i is none))
    (fails_at-after takes fails_at old mid new e i.done (leaf_steps (drop next (leaves_of ls)) ++ Exit ∷ []) i.taken r)

-- the whole: a root's first step, and those inside it

place-front : (ls : List Lexed) → place_at ls 0 ≡ (let p : Place = record { bytes = 0; left = leaves_of ls } in p)
unfolding joined
place-front ls = refl

pub around-is : (ls : List Lexed) (all rest : List Step) (step : Step) (steps : List walk.Step) (kind : ℕ) →
    map step_of all ≡ steps → all ≡ step ∷ rest → step_of step ≡ walk.Enter kind →
    (Enter kind ∷ put_inside (map step_of rest) (place_at ls 0)) ≡ put_around steps (leaves_of ls)
around-is ls all rest step steps kind e is root =
    ap (λ (p : Place). Enter kind ∷ put_inside (map step_of rest) p) (place-front ls)
    ∙ ap (λ (s : walk.Step). put_around (s ∷ map step_of rest) (leaves_of ls)) (sym root)
    ∙ ap (λ (r : List walk.Step). put_around r (leaves_of ls)) (ap (map step_of) (sym is) ∙ e)
