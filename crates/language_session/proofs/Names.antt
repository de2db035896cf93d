-- Lemmas on documents by their names.
use Rattle.std.proofs.Common.{◌≡◌, ℕ, Bool, true, false, List, [], ◌∷◌, ◌++◌, map, Some, None, inl, inr, refl, ap, sym, subst, ◌∙◌}
use Rattle.std.specs.Prelude.{⊤, option_map, if◌then◌else◌}
use Rattle.std.specs.Str.{bytes_eq}
use Rattle.std.proofs.lemmas.Bool.{cases_Bool}
use Rattle.std.proofs.lemmas.Slice.Eq.{bytes_eq-Decides}
use Rattle.language_session.specs.Sessions.{Open, found, found_or, lost, without}

pub eq-is : (a b : List ℕ) → bytes_eq a b ≡ true → a ≡ b
eq-is a b q = (bytes_eq-Decides a b).0 q

pub eq-same : (a : List ℕ) → bytes_eq a a ≡ true
eq-same a = (bytes_eq-Decides a a).1 refl

pub found-here : (uri : List ℕ) (d : Open) (ds : List Open) → bytes_eq d.uri uri ≡ true → found uri (d ∷ ds) ≡ Some d
found-here uri d ds q = ap (λ b. found_or b d (found uri ds)) q

pub found-later : (uri : List ℕ) (d : Open) (ds : List Open) → bytes_eq d.uri uri ≡ false → found uri (d ∷ ds) ≡ found uri ds
found-later uri d ds q = ap (λ b. found_or b d (found uri ds)) q

without-here : (uri : List ℕ) (d : Open) (ds : List Open) → bytes_eq d.uri uri ≡ true → without uri (d ∷ ds) ≡ ds
without-here uri d ds q = ap (λ (b : Bool). if b then ds else d ∷ without uri ds) q

without-later : (uri : List ℕ) (d : Open) (ds : List Open) → bytes_eq d.uri uri ≡ false → without uri (d ∷ ds) ≡ d ∷ without uri ds
without-later uri d ds q = ap (λ (b : Bool). if b then ds else d ∷ without uri ds) q

-- no two documents have one name
abbrev pub Distinct : List Open → Type 0
Distinct [] = ⊤
Distinct (d ∷ ds) = (found d.uri ds ≡ None) × Distinct ds

-- a document that is taken out is not found
pub found-without : (uri : List ℕ) (ds : List Open) → Distinct ds → found uri (without uri ds) ≡ None
found-without uri [] distinct = refl
found-without uri (d ∷ ds) distinct = elim (cases_Bool (bytes_eq d.uri uri)) [
  | inl q ↦ ap (found uri) (without-here uri d ds q) ∙ ap (λ u. found u ds) (sym (eq-is d.uri uri q)) ∙ distinct.0
  | inr q ↦ ap (found uri) (without-later uri d ds q) ∙ found-later uri d (without uri ds) q ∙ found-without uri ds distinct.1
]

-- the others are
pub found-without-other : (uri u : List ℕ) (ds : List Open) → bytes_eq u uri ≡ false → found uri (without u ds) ≡ found uri ds
found-without-other uri u [] other = refl
found-without-other uri u (d ∷ ds) other = elim (cases_Bool (bytes_eq d.uri u)) [
  | inl q ↦
      ap (found uri) (without-here u d ds q)
      ∙ sym (found-later uri d ds (ap (λ v. bytes_eq v uri) (eq-is d.uri u q) ∙ other))
  | inr q ↦
      ap (found uri) (without-later u d ds q) ∙ ap (found_or (bytes_eq d.uri uri) d) (found-without-other uri u ds other)
]

pub none-without : (uri u : List ℕ) (ds : List Open) → found uri ds ≡ None → found uri (without u ds) ≡ None
none-without uri u [] none = refl
none-without uri u (d ∷ ds) none = elim (cases_Bool (bytes_eq d.uri uri)) [
  | inl q ↦ absurd (let some = found-here uri d ds q in cc)
  | inr q ↦ elim (cases_Bool (bytes_eq d.uri u)) [
    | inl p ↦ ap (found uri) (without-here u d ds p) ∙ sym (found-later uri d ds q) ∙ none
    | inr p ↦
        ap (found uri) (without-later u d ds p) ∙ found-later uri d (without u ds) q
        ∙ none-without uri u ds (sym (found-later uri d ds q) ∙ none)
  ]
]

pub distinct-without : (u : List ℕ) (ds : List Open) → Distinct ds → Distinct (without u ds)
distinct-without u [] distinct = tt
distinct-without u (d ∷ ds) distinct = elim (cases_Bool (bytes_eq d.uri u)) [
  | inl q ↦ subst Distinct (sym (without-here u d ds q)) distinct.1
  | inr q ↦ subst Distinct (sym (without-later u d ds q)) (none-without d.uri u ds distinct.0, distinct-without u ds distinct.1)
]

-- ---- a document at the end

pub found-first : (uri : List ℕ) (ds es : List Open) (d : Open) → found uri ds ≡ Some d → found uri (ds ++ es) ≡ Some d
found-first uri [] es d some = absurd (cc)
found-first uri (e ∷ ds) es d some = elim (cases_Bool (bytes_eq e.uri uri)) [
  | inl q ↦ found-here uri e (ds ++ es) q ∙ sym (found-here uri e ds q) ∙ some
  | inr q ↦ found-later uri e (ds ++ es) q ∙ found-first uri ds es d (sym (found-later uri e ds q) ∙ some)
]

pub found-last : (uri : List ℕ) (ds es : List Open) → found uri ds ≡ None → found uri (ds ++ es) ≡ found uri es
found-last uri [] es none = refl
found-last uri (e ∷ ds) es none = elim (cases_Bool (bytes_eq e.uri uri)) [
  | inl q ↦ absurd (let some = found-here uri e ds q in cc)
  | inr q ↦ found-later uri e (ds ++ es) q ∙ found-last uri ds es (sym (found-later uri e ds q) ∙ none)
]

-- a document with another name at the end
pub found-other : (uri : List ℕ) (ds : List Open) (d : Open) → bytes_eq d.uri uri ≡ false → found uri (ds ++ d ∷ []) ≡ found uri ds
found-other uri [] d other = found-later uri d [] other
found-other uri (e ∷ ds) d other = ap (found_or (bytes_eq e.uri uri) e) (found-other uri ds d other)

pub distinct-last : (ds : List Open) (d : Open) → Distinct ds → found d.uri ds ≡ None → Distinct (ds ++ d ∷ [])
distinct-last [] d distinct none = (refl, tt)
distinct-last (e ∷ ds) d distinct none = elim (cases_Bool (bytes_eq e.uri d.uri)) [
  | inl q ↦ absurd (let some = found-here d.uri e ds q in cc)
  | inr q ↦ (
    found-other e.uri ds d (not-back q) ∙ distinct.0,
    distinct-last ds d distinct.1 (sym (found-later d.uri e ds q) ∙ none),
  )
]
  where
    not-back : bytes_eq e.uri d.uri ≡ false → bytes_eq d.uri e.uri ≡ false
    not-back q = elim (cases_Bool (bytes_eq d.uri e.uri)) [
      | inl p ↦ absurd (let same = ap (λ u. bytes_eq u d.uri) (sym (eq-is d.uri e.uri p)) in let is = eq-same d.uri in cc)
      | inr p ↦ p
    ]

-- ---- texts that are lost

pub found-lost : (uri : List ℕ) (ds : List Open) → found uri (map lost ds) ≡ option_map lost (found uri ds)
found-lost uri [] = refl
found-lost uri (d ∷ ds) = elim (cases_Bool (bytes_eq d.uri uri)) [
  | inl q ↦ found-here uri (lost d) (map lost ds) q ∙ sym (ap (option_map lost) (found-here uri d ds q))
  | inr q ↦ found-later uri (lost d) (map lost ds) q ∙ found-lost uri ds ∙ sym (ap (option_map lost) (found-later uri d ds q))
]

pub distinct-lost : (ds : List Open) → Distinct ds → Distinct (map lost ds)
distinct-lost [] distinct = tt
distinct-lost (d ∷ ds) distinct = (found-lost d.uri ds ∙ ap (option_map lost) distinct.0, distinct-lost ds distinct.1)
