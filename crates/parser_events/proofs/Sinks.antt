-- What several steps make of a sink, in parts.
use Rattle.std.proofs.Common.{◌≡◌, ◌+◌, ◌<◌, ℕ, List, [], ◌∷◌, ◌++◌, length, map, take, drop, get_or, refl, sym, ap, subst, ◌∙◌, inl, inr, add-one}
use Rattle.std.proofs.Math.Seq.{drop-cons}
use Rattle.std.proofs.lemmas.List.{take_more, take-append-drop, map-append}
use Rattle.parser_events.specs.Sinks.{TakesAll, FailsAtOne}
use Rattle.parser_events.specs.TextSteps.{TextStep, text_step_of}
use Rattle.parser_events.specs.declared.str_step.StrStep.{StrStep}

pub takes-then : {S : Type 0} (takes : S → TextStep → S → Type 0) (old mid new : S) (xs ys : List TextStep) →
    TakesAll takes old xs mid → TakesAll takes mid ys new → TakesAll takes old (xs ++ ys) new
takes-then takes old mid new [] ys a b = subst (λ s. TakesAll takes s ys new) a b
takes-then takes old mid new (x ∷ xs) ys a b = (a.0, (a.1.0, takes-then takes a.0 mid new xs ys a.1.1 b))

pub takes-one : {S : Type 0} (takes : S → TextStep → S → Type 0) (old new : S) (x : TextStep) → takes old x new → TakesAll takes old (x ∷ []) new
takes-one takes old new x h = (new, (h, refl))

pub fails_at-in : {S E : Type 0} (takes : S → TextStep → S → Type 0) (fails_at : S → TextStep → E → S → Type 0) (old new : S) (e : E) (xs ys : List TextStep) →
    FailsAtOne takes fails_at old xs e new → FailsAtOne takes fails_at old (xs ++ ys) e new
fails_at-in takes fails_at old new e [] ys h = absurd h
fails_at-in takes fails_at old new e (x ∷ xs) ys h = elim h [
  | inl r ↦ inl r
  | inr n ↦ inr (n.0, (n.1.0, fails_at-in takes fails_at n.0 new e xs ys n.1.1))
]

pub fails_at-after : {S E : Type 0} (takes : S → TextStep → S → Type 0) (fails_at : S → TextStep → E → S → Type 0) (old mid new : S) (e : E) (xs ys : List TextStep) →
    TakesAll takes old xs mid → FailsAtOne takes fails_at mid ys e new → FailsAtOne takes fails_at old (xs ++ ys) e new
fails_at-after takes fails_at old mid new e [] ys a h = subst (λ s. FailsAtOne takes fails_at s ys e new) a h
fails_at-after takes fails_at old mid new e (x ∷ xs) ys a h = inr (a.0, (a.1.0, fails_at-after takes fails_at a.0 mid new e xs ys a.1.1 h))

-- the steps of the code, from a place on
pub map-from : (ss : List StrStep) (i : ℕ) (d : StrStep) → i < length ss →
    map text_step_of ss ≡ map text_step_of (take i ss) ++ (text_step_of (get_or ss i d) ∷ map text_step_of (drop (i + 1) ss))
map-from ss i d within =
    let rest : drop i ss ≡ get_or ss i d ∷ drop (i + 1) ss = rw (add-one, drop-cons ss i d) refl in
    ap (λ (l : List StrStep). map text_step_of l) (sym (take-append-drop i ss) ∙ ap (λ (l : List StrStep). take i ss ++ l) rest)
    ∙ map-append text_step_of (take i ss) (get_or ss i d ∷ drop (i + 1) ss)

pub map-more : (ss : List StrStep) (i : ℕ) (d : StrStep) → i < length ss →
    map text_step_of (take (i + 1) ss) ≡ map text_step_of (take i ss) ++ (text_step_of (get_or ss i d) ∷ [])
map-more ss i d within =
    ap (λ (l : List StrStep). map text_step_of l) (take_more ss i d within) ∙ map-append text_step_of (take i ss) (get_or ss i d ∷ [])
