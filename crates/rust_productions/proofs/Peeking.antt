-- One look after another.
use Rattle.std.proofs.Common.{ℕ, ◌+◌, ◌≤◌, ◌∙◌, arith}
use Rattle.parser_events.specs.View.{View}
use Rattle.rust_grammar.specs.Meaning.{Reading}
use Rattle.rust_productions.specs.Looks.{Peeks, Stays}
use Rattle.rust_productions.specs.Reads.{Does}
use Rattle.rust_productions.proofs.ByHand.{does-then}

pub peeks-then : {m n : ℕ} {old mid new : View} → Peeks m old mid → Peeks n mid new → Peeks (m + n) old new
peeks-then p q = record {
  same = does-then p.same q.same;
  left = q.left ∙ p.left;
  looks = omega (arith, p.looks, q.looks);
}

pub stays-then : {n : ℕ} {old mid new : View} → Does (λ (s : Reading). s) old mid → Stays old mid → Peeks n mid new → Peeks n old new
stays-then same stays q = record {
  same = does-then same q.same;
  left = q.left ∙ stays.left;
  looks = omega (arith, stays.looks, q.looks);
}

-- as many looks as that, or more
pub peeks-within : {m n : ℕ} {old new : View} → Peeks m old new → m ≤ n → Peeks n old new
peeks-within p within = record { same = p.same; left = p.left; looks = omega (arith, p.looks, within) }
