-- Lemmas on the length that fields tell.
use Rattle.std.proofs.Common.{◌≡◌, ◌∙◌, ℕ, ◌+◌, ◌<◌, true, false, List, [], ◌∷◌, codes, length, get_or, drop, map, refl, sym, Option, Some, None, inl, inr}
use Rattle.std.specs.Char.{to_ascii_lowercase}
use Rattle.std.proofs.lemmas.Bool.{cases_Bool}
use Rattle.std.proofs.lemmas.List.{at_drop_more}
use Rattle.std.proofs.lemmas.Slice.Eq.{bytes_eq-Decides}
use Rattle.httparse.specs.Spans.{header_bytes, span_bytes}
use Rattle.httparse.specs.declared.spans.HeaderSpan.{HeaderSpan}
use Rattle.message_frames.specs.Headers.{Told, is_length_name, length_of}
use Rattle.message_frames.specs.Numbers.{number}

pub length-nil : (known : Option ℕ) → length_of known [] ≡ known
unfolding length_of
length-nil known = refl

pub length-other : (known : Option ℕ) (f : Told) (fs : List Told) → is_length_name f.0 ≡ false → length_of known (f ∷ fs) ≡ length_of known fs
unfolding length_of
length-other known f fs q = rw (q, length_of) refl

pub length-some : (known : Option ℕ) (n : ℕ) (f : Told) (fs : List Told) → is_length_name f.0 ≡ true → number f.1 ≡ Some n →
    length_of known (f ∷ fs) ≡ length_of (Some n) fs
unfolding length_of
length-some known n f fs q e = rw (q, e, length_of) refl

pub length-none : (known : Option ℕ) (f : Told) (fs : List Told) → is_length_name f.0 ≡ true → number f.1 ≡ None → length_of known (f ∷ fs) ≡ None
unfolding length_of
length-none known f fs q e = rw (q, e, length_of) refl

-- the length that the fields from a place on tell
abbrev from-place : List ℕ → List HeaderSpan → Option ℕ → ℕ → Option ℕ
from-place buffer fields known i = length_of known (map (header_bytes buffer) (drop i fields))

is-name : (name : List ℕ) → map to_ascii_lowercase name ≡ map to_ascii_lowercase (codes "content-length") → is_length_name name ≡ true
is-name name e = (bytes_eq-Decides (map to_ascii_lowercase name) (codes "content-length")).1 e

is-no-name : (name : List ℕ) → (map to_ascii_lowercase name ≡ map to_ascii_lowercase (codes "content-length") → ⊥) → is_length_name name ≡ false
is-no-name name e =
    elim (cases_Bool (is_length_name name)) [
      | inl q ↦ absurd (e ((bytes_eq-Decides (map to_ascii_lowercase name) (codes "content-length")).0 q))
      | inr q ↦ q
    ]

next : (buffer : List ℕ) (fields : List HeaderSpan) (known : Option ℕ) (i : ℕ) (d : HeaderSpan) → i < length fields →
    from-place buffer fields known i ≡ length_of known (header_bytes buffer (get_or fields i d) ∷ map (header_bytes buffer) (drop (i + 1) fields))
next buffer fields known i d l = at_drop_more (λ fs. length_of known (map (header_bytes buffer) fs)) fields i d l

-- past a field with a length, past another one, and at one that is no number
pub past-length : (buffer : List ℕ) (fields : List HeaderSpan) (known : Option ℕ) (i n : ℕ) (d : HeaderSpan) (told : Option ℕ) → i < length fields →
    map to_ascii_lowercase (span_bytes buffer (get_or fields i d).name) ≡ map to_ascii_lowercase (codes "content-length") →
    Some n ≡ number (span_bytes buffer (get_or fields i d).value) → from-place buffer fields known i ≡ told → from-place buffer fields (Some n) (i + 1) ≡ told
past-length buffer fields known i n d told l name value h =
    sym (length-some known n (header_bytes buffer (get_or fields i d)) (map (header_bytes buffer) (drop (i + 1) fields)) (is-name _ name) (sym value))
    ∙ (sym (next buffer fields known i d l) ∙ h)

pub past-other : (buffer : List ℕ) (fields : List HeaderSpan) (known : Option ℕ) (i : ℕ) (d : HeaderSpan) (told : Option ℕ) → i < length fields →
    (map to_ascii_lowercase (span_bytes buffer (get_or fields i d).name) ≡ map to_ascii_lowercase (codes "content-length") → ⊥) →
    from-place buffer fields known i ≡ told → from-place buffer fields known (i + 1) ≡ told
past-other buffer fields known i d told l name h =
    sym (length-other known (header_bytes buffer (get_or fields i d)) (map (header_bytes buffer) (drop (i + 1) fields)) (is-no-name _ name))
    ∙ (sym (next buffer fields known i d l) ∙ h)

pub at-no-number : (buffer : List ℕ) (fields : List HeaderSpan) (known : Option ℕ) (i : ℕ) (d : HeaderSpan) (told : Option ℕ) → i < length fields →
    map to_ascii_lowercase (span_bytes buffer (get_or fields i d).name) ≡ map to_ascii_lowercase (codes "content-length") →
    None ≡ number (span_bytes buffer (get_or fields i d).value) → from-place buffer fields known i ≡ told → None ≡ told
at-no-number buffer fields known i d told l name value h =
    sym (length-none known (header_bytes buffer (get_or fields i d)) (map (header_bytes buffer) (drop (i + 1) fields)) (is-name _ name) (sym value))
    ∙ (sym (next buffer fields known i d l) ∙ h)
