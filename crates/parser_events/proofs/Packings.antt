-- Entries and long lengths, and the steps that they are unpacked as.
use Rattle.std.proofs.Common.{◌≡◌, ℕ, suc, List, [], ◌∷◌, ◌++◌, Option, Some, None, Result, Ok, Err, OnOk, length, reverse, refl, ap, sym, ◌∙◌}
use Rattle.std.proofs.lemmas.List.{reverse-append, length-reverse}
use Rattle.parser_events.specs.PackedSteps.{Packs, lengths_after, unpack_all, with_length}
use Rattle.parser_events.specs.declared.step.Step.{Step}
use Rattle.parser_events.specs.declared.step_list.Entry.{Entry}

-- each entry is one step
unpack-length : (es : List Entry) (lengths : List ℕ) → length (unpack_all es lengths) ≡ length es
unpack-length [] lengths = refl
unpack-length (e ∷ es) lengths = ap suc (unpack-length es (lengths_after e lengths))

pub stored-length : (es : List Entry) (lengths : List ℕ) → length (unpack_all (reverse es) (reverse lengths)) ≡ length es
stored-length es lengths = unpack-length (reverse es) (reverse lengths) ∙ length-reverse es

unpack-first : (step : Step) (entry : Entry) (long : Option ℕ) (es : List Entry) (lengths : List ℕ) → Packs step entry long →
    unpack_all (entry ∷ es) (with_length long lengths) ≡ step ∷ unpack_all es lengths
unpack-first step entry long es lengths p =
    ap (λ (s : Step). s ∷ unpack_all es (lengths_after entry (with_length long lengths))) (p.first lengths)
    ∙ ap (λ (l : List ℕ). step ∷ unpack_all es l) (p.rest lengths)

-- an entry alone, and one with a long length beside it

pub pushed-short : (step : Step) (entry : Entry) (long : Option ℕ) (es new : List Entry) (lengths : List ℕ) → Packs step entry long → long ≡ None → new ≡ es ++ entry ∷ [] →
    unpack_all (reverse new) (reverse lengths) ≡ step ∷ unpack_all (reverse es) (reverse lengths)
pushed-short step entry long es new lengths p none is =
    ap (λ (l : List Entry). unpack_all l (reverse lengths)) (ap (λ (l : List Entry). reverse l) is ∙ reverse-append es (entry ∷ []))
    ∙ ap (λ (o : Option ℕ). unpack_all (entry ∷ reverse es) (with_length o (reverse lengths))) (sym none)
    ∙ unpack-first step entry long (reverse es) (reverse lengths) p

pub pushed-long : (step : Step) (entry : Entry) (long : Option ℕ) (n : ℕ) (es new : List Entry) (lengths more : List ℕ) → Packs step entry long → long ≡ Some n →
    new ≡ es ++ entry ∷ [] → more ≡ lengths ++ n ∷ [] → unpack_all (reverse new) (reverse more) ≡ step ∷ unpack_all (reverse es) (reverse lengths)
pushed-long step entry long n es new lengths more p some is beside =
    ap (λ (l : List Entry). unpack_all l (reverse more)) (ap (λ (l : List Entry). reverse l) is ∙ reverse-append es (entry ∷ []))
    ∙ ap (λ (l : List ℕ). unpack_all (entry ∷ reverse es) l) (ap (λ (l : List ℕ). reverse l) beside ∙ reverse-append lengths (n ∷ []))
    ∙ ap (λ (o : Option ℕ). unpack_all (entry ∷ reverse es) (with_length o (reverse lengths))) (sym some)
    ∙ unpack-first step entry long (reverse es) (reverse lengths) p

-- what follows from two facts that are known where a call succeeds
pub on-ok-both : {T E P Q R : Type 0} (r : Result T E) → OnOk r P → OnOk r Q → (P → Q → R) → OnOk r R
on-ok-both (Ok t) p q f = f p q
on-ok-both (Err e) p q f = tt
