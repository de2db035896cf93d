-- Lemmas on bytes that are known.
use Rattle.std.proofs.Common.{◌≡◌, ℕ, ◌-◌, List, [], ◌++◌, length, take, drop, ap, ◌∙◌, sym, append_assoc, arith, refl}
use Rattle.std.specs.Prelude.{Option, Some, None, IfSome}
use Rattle.std.specs.Io.KnownBytes.{Appends, Consumes, IsAtEnd}
use Rattle.document_requests.specs.Device.{AppendsFront}
use Rattle.std.proofs.lemmas.List.{take-append-drop, append-nil, take_all, length-drop}

-- what was read up to a read of nothing at the end is all there was
pub all_read :
    (old mid new : Option (List ℕ)) (read buffer : List ℕ) (n : ℕ)
    → Consumes old mid read → Consumes mid new (take n buffer) → n ≡ 0 → IsAtEnd new → IfSome old (λ input. read ≡ input)
all_read None mid new read buffer n before last none at_end = tt
all_read (Some xs) None new read buffer n before last none at_end = absurd before
all_read (Some xs) (Some ys) None read buffer n before last none at_end = absurd last
all_read (Some xs) (Some ys) (Some zs) read buffer n before last none at_end =
    let nothing : ys ≡ [] = last ∙ ap (λ m. take m buffer ++ zs) none ∙ at_end in
    sym (before ∙ ap (λ rest. read ++ rest) nothing ∙ append-nil read)

-- one after the other
pub both_appended : (old mid new : Option (List ℕ)) (first second : List ℕ) → Appends old mid first → Appends mid new second → Appends old new (first ++ second)
both_appended None mid new first second before last = tt
both_appended (Some xs) None new first second before last = absurd before
both_appended (Some xs) (Some ys) None first second before last = absurd last
both_appended (Some xs) (Some ys) (Some zs) first second before last = last ∙ ap (λ bytes. bytes ++ second) before ∙ append_assoc xs first second

-- after a write of n bytes the front is longer by these, and the rest is a slice up to its end
pub written_more :
    (old mid new : Option (List ℕ)) (bytes front rest : List ℕ) (n : ℕ)
    → bytes ≡ front ++ rest → Appends old mid front → Appends mid new (take n rest)
    → (longer : List ℕ) × (bytes ≡ longer ++ take (length rest - n) (drop n rest)) × Appends old new longer
written_more old mid new bytes front rest n all before last = (
  front ++ take n rest,
  all ∙ ap (λ r. front ++ r) (sym (take-append-drop n rest)) ∙ sym (append_assoc front (take n rest) (drop n rest)) ∙ ap (λ r. (front ++ take n rest) ++ r) (sym whole),
  both_appended old mid new front (take n rest) before last,
)
  where
    whole : take (length rest - n) (drop n rest) ≡ drop n rest
    whole = take_all (length rest - n) (drop n rest) (omega (arith, length-drop n rest))

-- nothing was written
pub front_none : (known : Option (List ℕ)) (bytes : List ℕ) → AppendsFront known known bytes
front_none None bytes = ([], bytes, refl, tt)
front_none (Some xs) bytes = ([], bytes, refl, sym (append-nil xs))

-- the front of the first bytes is one of all
pub front_more : (old new : Option (List ℕ)) (first second : List ℕ) → AppendsFront old new first → AppendsFront old new (first ++ second)
front_more old new first second h = (h.0, h.1 ++ second, ap (λ bytes. bytes ++ second) h.2 ∙ append_assoc h.0 h.1 second, h.3)

-- all the first bytes and a front of the second were written
pub front_then : (old mid new : Option (List ℕ)) (first second : List ℕ) → Appends old mid first → AppendsFront mid new second → AppendsFront old new (first ++ second)
front_then old mid new first second before last =
    (first ++ last.0, last.1, ap (λ bytes. first ++ bytes) last.2 ∙ sym (append_assoc first last.0 last.1), both_appended old mid new first last.0 before last.3)
