-- What was written where a run stopped, and calls that did not fail.
use Rattle.std.proofs.Common.{◌≡◌, ℕ, List, refl, ap, ◌∙◌, subst, Option, Some, None, Result, Ok, Err}
use Rattle.std.specs.Prelude.{Bool, false, OnErr, IfSome}
use Rattle.std.proofs.lemmas.Bool.{ne_eqb}
use Rattle.document_requests.specs.Device.{AppendsFront}
use Rattle.document_requests.specs.Output.{Output, replies}
use Rattle.document_requests.specs.Watched.{first_call, is_failed_write}

-- what holds in any case holds of a refusal
pub of_refusal : {T E : Type 0} (r : Result T E) (P : Type 0) → P → OnErr r P
of_refusal (Ok x) P p = tt
of_refusal (Err e) P p = p

-- a front of some bytes is one of equal bytes
pub same_front : {T E : Type 0} (r : Result T E) (old new : Option (List ℕ)) (bytes other : List ℕ) → AppendsFront old new bytes → bytes ≡ other → OnErr r (AppendsFront old new other)
same_front r old new bytes other front same = of_refusal r (AppendsFront old new other) (subst (λ bytes. AppendsFront old new bytes) same front)

-- what was read is the input, where that is known
pub front_of_input :
    {T E : Type 0} (r : Result T E) (known old new : Option (List ℕ)) (read : List ℕ) (o : Output)
    → OnErr r (AppendsFront old new o.written) → o ≡ replies read → IfSome known (λ input. read ≡ input)
    → OnErr r (IfSome known (λ input. AppendsFront old new (replies input).written))
front_of_input (Ok x) known old new read o front is all = tt
front_of_input (Err e) None old new read o front is all = tt
front_of_input (Err e) (Some input) old new read o front is all = subst (λ (o : Output). AppendsFront old new o.written) (is ∙ ap replies all) front

same-first : (first : Option ℕ) (call : ℕ) → first_call first false call ≡ first
same-first None call = refl
same-first (Some n) call = refl

-- a write that takes something is not the first call that failed
pub no-failure :
    {E : Type 0} (r : Result ℕ E) (n : ℕ) (first now : Option ℕ) (call : ℕ)
    → now ≡ first_call first (is_failed_write r) call → r ≡ Ok n → (n ≡ 0 → ⊥) → now ≡ first
no-failure r n first now call is done some =
    let failed : is_failed_write r ≡ false = ap is_failed_write done ∙ ne_eqb n 0 some in
    is ∙ ap (λ (b : Bool). first_call first b call) failed ∙ same-first first call
