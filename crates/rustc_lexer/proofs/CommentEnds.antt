-- A block comment is closed just where its inside nests.
use Rattle.std.proofs.Common.{◌≡◌, ℕ, suc, zero, true, false, ◌&&◌, ◌==◌, List, [], ◌∷◌, drop, refl, sym, ◌∙◌, ap, subst, inl, inr, eqb-true, if◌then◌else◌}
use Rattle.rustc_lexer.specs.Characters.{star, slash}
use Rattle.rustc_lexer.specs.Scan.{peek, past, mark, Opens, Closes, Neither, opens_comment, closes_comment, block}
use Rattle.rustc_lexer.specs.Reads.{Reads}
use Rattle.rustc_lexer.specs.Endings.{Nested, closes, inner, other}
use Rattle.rustc_lexer.proofs.Booleans.{bool_cases}
use Rattle.rustc_lexer.proofs.Steps.{mark_cases, block-opens, block-ends, block-closes, block-neither}
use Rattle.rustc_lexer.proofs.Alike.{Alike, alike-trans, reads-alike, one_on, two_on}

-- as many comments closed one after the other, and one more
abbrev CloseAll : ℕ → List ℕ → List ℕ → Type 0
CloseAll zero text rest = Nested text rest
CloseAll (suc d) text rest = (mid : List ℕ) × Nested text mid × CloseAll d mid rest

deeper : (d : ℕ) (cs rest : List ℕ) → CloseAll (suc d) cs rest → CloseAll d (slash ∷ star ∷ cs) rest
deeper zero cs rest p = inner p.1 p.2
deeper (suc d) cs rest p = (p.2.0, inner p.1 p.2.1, p.2.2)

further : (d c : ℕ) (cs rest : List ℕ) → mark c (peek 0 cs) ≡ Neither → CloseAll d cs rest → CloseAll d (c ∷ cs) rest
further zero c cs rest h p = other h p
further (suc d) c cs rest h p = (p.0, other h p.1, p.2)

pub both : (a b x y : ℕ) → ((a == x) && (b == y)) ≡ true → (a ≡ x) × (b ≡ y)
both a b x y h =
    elim (bool_cases (a == x)) [
      | inl g ↦ (eqb-true a x g, eqb-true b y (sym (ap (λ t. t && (b == y)) g) ∙ h))
      | inr g ↦ let w : false ≡ true = sym (ap (λ t. t && (b == y)) g) ∙ h in cc
    ]

-- what the marks are spelled with
opens-spelled : (a b : ℕ) → mark a b ≡ Opens → (a ≡ slash) × (b ≡ star)
unfolding mark
opens-spelled a b h =
    elim (bool_cases (opens_comment a b)) [
      | inl g ↦ both a b slash star g
      | inr g ↦
          elim (bool_cases (closes_comment a b)) [
            | inl k ↦ let w : Closes ≡ Opens = sym (ap (λ t. if t then Opens else (if closes_comment a b then Closes else Neither)) g ∙ ap (λ t. if t then Closes else Neither) k) ∙ h in cc
            | inr k ↦ let w : Neither ≡ Opens = sym (ap (λ t. if t then Opens else (if closes_comment a b then Closes else Neither)) g ∙ ap (λ t. if t then Closes else Neither) k) ∙ h in cc
          ]
    ]

closes-spelled : (a b : ℕ) → mark a b ≡ Closes → (a ≡ star) × (b ≡ slash)
unfolding mark
closes-spelled a b h =
    elim (bool_cases (opens_comment a b)) [
      | inl g ↦ let w : Opens ≡ Closes = sym (ap (λ t. if t then Opens else (if closes_comment a b then Closes else Neither)) g) ∙ h in cc
      | inr g ↦
          elim (bool_cases (closes_comment a b)) [
            | inl k ↦ both a b star slash k
            | inr k ↦ let w : Neither ≡ Closes = sym (ap (λ t. if t then Opens else (if closes_comment a b then Closes else Neither)) g ∙ ap (λ t. if t then Closes else Neither) k) ∙ h in cc
          ]
    ]

opened : (d a b : ℕ) (cs : List ℕ) → mark a b ≡ Opens → block d (a ∷ b ∷ cs) ≡ past (past (block (suc d) cs)) → (block d (a ∷ b ∷ cs)).value ≡ true → ((block (suc d) cs).value ≡ true → CloseAll (suc d) cs (drop (block (suc d) cs).taken cs)) → CloseAll d (a ∷ b ∷ cs) (drop (block d (a ∷ b ∷ cs)).taken (a ∷ b ∷ cs))
opened d a b cs m e h ih =
    let spelled = opens-spelled a b m in
    let p = deeper d cs (drop (block (suc d) cs).taken cs) (ih (sym (ap (λ r. r.value) e) ∙ h)) in
    let P : ℕ → ℕ → Type 0 = λ x y. CloseAll d (x ∷ y ∷ cs) (drop (block (suc d) cs).taken cs) in
    subst (λ z. CloseAll d (a ∷ b ∷ cs) z) (sym (ap (λ r. drop r.taken (a ∷ b ∷ cs)) e)) (subst (λ y. P a y) (sym spelled.1) (subst (λ x. P x star) (sym spelled.0) p))

ended : (a b : ℕ) (cs : List ℕ) → mark a b ≡ Closes → Nested (a ∷ b ∷ cs) (drop (block 0 (a ∷ b ∷ cs)).taken (a ∷ b ∷ cs))
ended a b cs m =
    let spelled = closes-spelled a b m in
    let e = block-ends a b cs m in
    let P : ℕ → ℕ → Type 0 = λ x y. Nested (x ∷ y ∷ cs) cs in
    subst (λ z. Nested (a ∷ b ∷ cs) z) (sym (ap (λ r. drop r.taken (a ∷ b ∷ cs)) e)) (subst (λ y. P a y) (sym spelled.1) (subst (λ x. P x slash) (sym spelled.0) closes))

left_one : (d a b : ℕ) (cs : List ℕ) → mark a b ≡ Closes → (block (suc d) (a ∷ b ∷ cs)).value ≡ true → ((block d cs).value ≡ true → CloseAll d cs (drop (block d cs).taken cs)) → CloseAll (suc d) (a ∷ b ∷ cs) (drop (block (suc d) (a ∷ b ∷ cs)).taken (a ∷ b ∷ cs))
left_one d a b cs m h ih =
    let spelled = closes-spelled a b m in
    let e = block-closes d a b cs m in
    let P : ℕ → ℕ → Type 0 = λ x y. Nested (x ∷ y ∷ cs) cs in
    let one : Nested (a ∷ b ∷ cs) cs = subst (λ y. P a y) (sym spelled.1) (subst (λ x. P x slash) (sym spelled.0) closes) in
    (cs, one, subst (λ z. CloseAll d cs z) (sym (ap (λ r. drop r.taken (a ∷ b ∷ cs)) e)) (ih (sym (ap (λ r. r.value) e) ∙ h)))

passed : (d a b : ℕ) (cs : List ℕ) → mark a b ≡ Neither → block d (a ∷ b ∷ cs) ≡ past (block d (b ∷ cs)) → (block d (a ∷ b ∷ cs)).value ≡ true → ((block d (b ∷ cs)).value ≡ true → CloseAll d (b ∷ cs) (drop (block d (b ∷ cs)).taken (b ∷ cs))) → CloseAll d (a ∷ b ∷ cs) (drop (block d (a ∷ b ∷ cs)).taken (a ∷ b ∷ cs))
passed d a b cs m e h ih =
    subst (λ z. CloseAll d (a ∷ b ∷ cs) z) (sym (ap (λ r. drop r.taken (a ∷ b ∷ cs)) e))
    (further d a (b ∷ cs) (drop (block d (b ∷ cs)).taken (b ∷ cs)) m (ih (sym (ap (λ r. r.value) e) ∙ h)))

-- a closed comment nests
sound : (d : ℕ) (text : List ℕ) → (block d text).value ≡ true → CloseAll d text (drop (block d text).taken text)
unfolding block
sound d [] h = let w : false ≡ true = h in cc
sound d (a ∷ []) h = let w : false ≡ true = h in cc
sound zero (a ∷ b ∷ cs) h =
    elim (mark_cases (mark a b)) [
      | inl m ↦ opened zero a b cs m (block-opens zero a b cs m) h (λ g. sound (suc zero) cs g)
      | inr (inl m) ↦ ended a b cs m
      | inr (inr m) ↦ passed zero a b cs m (block-neither zero a b cs m) h (λ g. sound zero (b ∷ cs) g)
    ]
sound (suc d) (a ∷ b ∷ cs) h =
    elim (mark_cases (mark a b)) [
      | inl m ↦ opened (suc d) a b cs m (block-opens (suc d) a b cs m) h (λ g. sound (suc (suc d)) cs g)
      | inr (inl m) ↦ left_one d a b cs m h (λ g. sound d cs g)
      | inr (inr m) ↦ passed (suc d) a b cs m (block-neither (suc d) a b cs m) h (λ g. sound (suc d) (b ∷ cs) g)
    ]

-- a character that begins no mark
passes : (c : ℕ) (cs : List ℕ) {rest : List ℕ} → mark c (peek 0 cs) ≡ Neither → Reads (block 0) cs true rest × ((d : ℕ) → Alike (block d) rest (block (suc d)) cs) → Reads (block 0) (c ∷ cs) true rest × ((d : ℕ) → Alike (block d) rest (block (suc d)) (c ∷ cs))
unfolding block
passes c [] h p = let w : false ≡ true = p.0.value_is in cc
passes c (b ∷ cs) h p = (
  reads-alike (one_on (block 0) (block 0) c (b ∷ cs) (block-neither 0 c b cs h)) p.0,
  λ d. alike-trans (p.1 d) (one_on (block (suc d)) (block (suc d)) c (b ∷ cs) (block-neither (suc d) c b cs h)),
)

-- what nests is closed there
complete : {text rest : List ℕ} → Nested text rest → Reads (block 0) text true rest × ((d : ℕ) → Alike (block d) rest (block (suc d)) text)
unfolding mark
complete (closes {cs}) = (
  let e = block-ends star slash cs refl in record { value_is = ap (λ r. r.value) e; rest_is = sym (ap (λ r. drop r.taken (star ∷ slash ∷ cs)) e) },
  λ d. two_on (block d) (block (suc d)) star slash cs (block-closes d star slash cs refl),
)
complete (inner {cs} p q) =
    let a = complete p in
    let b = complete q in (
      reads-alike (alike-trans (a.1 0) (two_on (block 1) (block 0) slash star cs (block-opens 0 slash star cs refl))) b.0,
      λ d. alike-trans (b.1 d) (alike-trans (a.1 (suc d)) (two_on (block (suc (suc d))) (block (suc d)) slash star cs (block-opens (suc d) slash star cs refl))),
    )
complete (other {c} {cs} h p) = passes c cs h (complete p)

pub comments-nest : (text : List ℕ) → ((block 0 text).value ≡ true → Nested text (drop (block 0 text).taken text)) × ((rest : List ℕ) → Nested text rest → ((block 0 text).value ≡ true) × (rest ≡ drop (block 0 text).taken text))
comments-nest text = (sound 0 text, λ rest p. let r = (complete p).0 in (r.value_is, r.rest_is))
