-- The leaves that something is wrong with, one after another.
use Rattle.std.proofs.Common.{◌≡◌, ◌∙◌, ◌≤◌, ◌<◌, ◌+◌, ℕ, suc, List, [], ◌∷◌, length, drop, map, get_or, refl, ap, arith, Option, Some, None}
use Rattle.std.proofs.Math.Seq.{drop-cons}
use Rattle.std.proofs.lemmas.List.{drop_all}
use Rattle.parser_input.specs.Faults.{faults, faults_from}
use Rattle.parser_input.specs.Messages.{wording}
use Rattle.parser_input.specs.Stored.{seen_from}
use Rattle.parser_input.specs.declared.lexed_str.StoredLeaf.{StoredLeaf}
use Rattle.parser_input.specs.declared.message.Message.{Message}

pub faults-end : (leaves : List StoredLeaf) (n : ℕ) → length leaves ≤ n → faults_from n leaves ≡ []
faults-end leaves n h = ap (λ (l : List StoredLeaf). faults n (map (λ p. p.message) l)) (drop_all n leaves h)

from_here : (leaves : List StoredLeaf) (n : ℕ) (d : StoredLeaf) → n < length leaves → faults_from n leaves ≡ faults n ((get_or leaves n d).message ∷ map (λ p. p.message) (drop (suc n) leaves))
from_here leaves n d h = ap (λ (l : List StoredLeaf). faults n (map (λ p. p.message) l)) (drop-cons leaves n d h)

pub faults-none : (leaves : List StoredLeaf) (n : ℕ) (d : StoredLeaf) → n < length leaves → (get_or leaves n d).message ≡ None → faults_from n leaves ≡ faults_from (n + 1) leaves
faults-none leaves n d h e =
    let more : suc n ≡ n + 1 = omega arith in
    from_here leaves n d h ∙ ap (λ (m : Option Message). faults n (m ∷ map (λ p. p.message) (drop (suc n) leaves))) e
    ∙ ap (λ (k : ℕ). faults_from k leaves) more

pub faults-some : (leaves : List StoredLeaf) (n : ℕ) (d : StoredLeaf) (m : Message) → n < length leaves → (get_or leaves n d).message ≡ Some m → faults_from n leaves ≡ (n, wording m) ∷ faults_from (n + 1) leaves
faults-some leaves n d m h e =
    let more : suc n ≡ n + 1 = omega arith in
    from_here leaves n d h ∙ ap (λ (o : Option Message). faults n (o ∷ map (λ p. p.message) (drop (suc n) leaves))) e
    ∙ ap (λ (k : ℕ). (n, wording m) ∷ faults_from k leaves) more

pub seen-messages : (text : List ℕ) (start : ℕ) (ps : List StoredLeaf) → map (λ l. l.message) (seen_from text start ps) ≡ map (λ p. p.message) ps
seen-messages text start [] = refl
seen-messages text start (p ∷ ps) = ap (λ (ms : List (Option Message)). p.message ∷ ms) (seen-messages text p.end ps)
