-- Tags that replace names: characters above a limit, one for each index of a leaf.
use Rattle.std.proofs.Common.{◌≡◌, ℕ, zero, suc, ◌+◌, ◌-◌, ◌<◌, ◌≤◌, Bool, true, false, not, ◌&&◌, ◌||◌, ◌==◌, ltb, List, [], ◌∷◌, ◌++◌, take, drop, map, append-nil, refl, sym, ◌∙◌, ap, arith, inl, inr, if◌then◌else◌}
use Rattle.std.specs.List.{flat_map, list_any, list_all}
use Rattle.std.proofs.lemmas.Bool.{cases_Bool, eqb-true, eq-eqb, ne_eqb, ltb-true, lt-ltb, le-ltb, and_parts, and_from, or_parts}
use Rattle.rowan_green.specs.Forest.{Forest, node, leaf}
use Rattle.parser_input.specs.Leaf.{Leaf}
use Rattle.parser_input.specs.Lexed.{Lexed, leaves_of}
use Rattle.parser_events.specs.Dressed as dressed
use Rattle.parser_events.specs.Dressed.{Dressed, text_of}
use Rattle.plain_names.specs.Trees.{dressed_forest, has}
use Rattle.plain_names.specs.Renames.{Rename, name_after, renamed_from}

pub not-nil : (x : ℕ) (xs : List ℕ) → x ∷ xs ≡ [] → ⊥
not-nil x xs e = cc

-- ---- texts all of whose characters pass a test

all-parts : (p : ℕ → Bool) (xs ys : List ℕ) → list_all p (xs ++ ys) ≡ true → (list_all p xs ≡ true) × (list_all p ys ≡ true)
all-parts p [] ys h = (refl, h)
all-parts p (x ∷ xs) ys h =
    let a = and_parts (p x) (list_all p (xs ++ ys)) h in
    let b = all-parts p xs ys a.1 in
    (and_from _ _ a.0 b.0, b.1)

pub all-both : (p : ℕ → Bool) (xs ys : List ℕ) → list_all p xs ≡ true → list_all p ys ≡ true → list_all p (xs ++ ys) ≡ true
all-both p [] ys a b = b
all-both p (x ∷ xs) ys a b = let z = and_parts (p x) (list_all p xs) a in and_from _ _ z.0 (all-both p xs ys z.1 b)

abbrev pub below : ℕ → ℕ → Bool
below limit c = ltb c limit

pub parts-below : (limit : ℕ) (xs ys : List ℕ) → list_all (below limit) (xs ++ ys) ≡ true → (list_all (below limit) xs ≡ true) × (list_all (below limit) ys ≡ true)
parts-below limit = all-parts (below limit)

-- where two maps agree on the characters of a text
pub agree-where : (p : ℕ → Bool) (g h : ℕ → List ℕ) → ((c : ℕ) → p c ≡ true → g c ≡ h c) → (t : List ℕ) → list_all p t ≡ true → flat_map g t ≡ flat_map h t
agree-where p g h e [] a = refl
agree-where p g h e (c ∷ cs) a =
    let z = and_parts (p c) (list_all p cs) a in
    ap (λ x. x ++ flat_map g cs) (e c z.0) ∙ ap (λ x. h c ++ x) (agree-where p g h e cs z.1)

pub dressed-agree : (p : ℕ → Bool) (g h : ℕ → List ℕ) → ((c : ℕ) → p c ≡ true → g c ≡ h c) → (d : Dressed) → list_all p (text_of d) ≡ true → dressed_forest g d ≡ dressed_forest h d
dressed-agree p g h e dressed.End a = refl
dressed-agree p g h e (dressed.Leaf k t d) a =
    let z = all-parts p t (text_of d) a in
    ap (λ (x : List ℕ). leaf (record { kind = k; text = x }) (dressed_forest g d)) (agree-where p g h e t z.0)
    ∙ ap (λ (x : Forest). leaf (record { kind = k; text = flat_map h t }) x) (dressed-agree p g h e d z.1)
dressed-agree p g h e (dressed.Said m q d) a = dressed-agree p g h e d a
dressed-agree p g h e (dressed.Node k c d) a =
    let z = all-parts p (text_of c) (text_of d) a in
    ap (λ (x : Forest). node k x (dressed_forest g d)) (dressed-agree p g h e c z.0)
    ∙ ap (λ (x : Forest). node k (dressed_forest h c) x) (dressed-agree p g h e d z.1)

-- a map that keeps characters below a limit
pub stays-below : (limit : ℕ) (g : ℕ → List ℕ) → ((c : ℕ) → c < limit → g c ≡ c ∷ []) → (t : List ℕ) → list_all (below limit) t ≡ true → flat_map g t ≡ t
stays-below limit g e [] a = refl
stays-below limit g e (c ∷ cs) a =
    let z = and_parts (ltb c limit) (list_all (below limit) cs) a in
    ap (λ x. x ++ flat_map g cs) (e c (ltb-true c limit z.0)) ∙ ap (λ x. c ∷ x) (stays-below limit g e cs z.1)

pub below-has : (limit d : ℕ) → limit ≤ d → (t : List ℕ) → list_all (below limit) t ≡ true → has d t ≡ false
below-has limit d le [] a = refl
below-has limit d le (c ∷ cs) a =
    let z = and_parts (ltb c limit) (list_all (below limit) cs) a in
    let less = ltb-true c limit z.0 in
    ap (λ (b : Bool). b || has d cs) (ne_eqb c d (λ i. absurd (omega (arith, less, le, i)))) ∙ below-has limit d le cs z.1

pub has-both : (d : ℕ) (xs ys : List ℕ) → has d xs ≡ false → has d ys ≡ false → has d (xs ++ ys) ≡ false
has-both d [] ys a b = b
has-both d (x ∷ xs) ys a b =
    let z = or_parts (x == d) (has d xs) a in
    ap (λ (e : Bool). e || has d (xs ++ ys)) z.0 ∙ has-both d xs ys z.1 b

pub has-none : (d : ℕ) (t : List ℕ) → has d t ≡ false → list_all (λ c. not (c == d)) t ≡ true
has-none d [] a = refl
has-none d (c ∷ cs) a =
    let z = or_parts (c == d) (has d cs) a in
    ap (λ (e : Bool). not e && list_all (λ c. not (c == d)) cs) z.0 ∙ has-none d cs z.1

-- ---- leaves and renames

pub leaf_text : List Leaf → ℕ → List ℕ
leaf_text [] i = []
leaf_text (l ∷ ls) zero = l.text
leaf_text (l ∷ ls) (suc i) = leaf_text ls i

pub leaf-text-at : (i : ℕ) (ls : List Leaf) (l : Leaf) (more : List Leaf) → drop i ls ≡ l ∷ more → leaf_text ls i ≡ l.text
unfolding leaf_text
leaf-text-at zero [] l more h = absurd (let z : [] ≡ l ∷ more = h in cc)
leaf-text-at (suc i) [] l more h = absurd (let z : [] ≡ l ∷ more = h in cc)
leaf-text-at zero (k ∷ ls) l more h = let one : k ≡ l = cc in ap (λ x. x.text) one
leaf-text-at (suc i) (k ∷ ls) l more h = leaf-text-at i ls l more h

pub drop-next : {X : Type 0} (i : ℕ) (ls : List X) (l : X) (more : List X) → drop i ls ≡ l ∷ more → drop (i + 1) ls ≡ more
drop-next zero [] l more h = absurd (let z : [] ≡ l ∷ more = h in cc)
drop-next (suc i) [] l more h = absurd (let z : [] ≡ l ∷ more = h in cc)
drop-next zero (k ∷ ls) l more h = let z : ls ≡ more = cc in z
drop-next (suc i) (k ∷ ls) l more h = ap (λ n. drop n (k ∷ ls)) (let z : suc i + 1 ≡ suc (i + 1) = omega arith in z) ∙ drop-next i ls l more h

-- the leaves from an index on, renamed
abbrev pub with_names : List Rename → ℕ → List Leaf → List Leaf
with_names rs i [] = []
with_names rs i (l ∷ ls) = record { kind = l.kind; text = name_after rs i l.text } ∷ with_names rs (i + 1) ls

pub renamed-leaves : (rs : List Rename) (i : ℕ) (ls : List Lexed) → leaves_of (renamed_from rs i ls) ≡ with_names rs i (leaves_of ls)
renamed-leaves rs i [] = refl
renamed-leaves rs i (l ∷ ls) = ap (λ (z : List Leaf). let k : Leaf = record { kind = l.leaf.kind; text = name_after rs i l.leaf.text } in k ∷ z) (renamed-leaves rs (i + 1) ls)

pub no-names : (i : ℕ) (ls : List Leaf) → with_names [] i ls ≡ ls
no-names i [] = refl
no-names i (l ∷ ls) = ap (λ (z : List Leaf). l ∷ z) (no-names (i + 1) ls)

-- a leaf with this index is renamed
abbrev pub renames : List Rename → ℕ → Bool
renames rs i = list_any (λ r. r.number == i) rs

pub name-stays : (rs : List Rename) (i : ℕ) (t : List ℕ) → renames rs i ≡ false → name_after rs i t ≡ t
name-stays [] i t h = refl
name-stays (r ∷ rs) i t h =
    let z = or_parts (r.number == i) (renames rs i) h in
    ap (λ (b : Bool). if b then r.new else name_after rs i t) z.0 ∙ name-stays rs i t z.1

pub name-goes : (rs : List Rename) (i : ℕ) (t u : List ℕ) → renames rs i ≡ true → name_after rs i t ≡ name_after rs i u
name-goes [] i t u h = absurd (let y : false ≡ true = h in cc)
name-goes (r ∷ rs) i t u h = elim (cases_Bool (r.number == i)) [
  | inl e ↦ ap (λ (b : Bool). if b then r.new else name_after rs i t) e ∙ sym (ap (λ (b : Bool). if b then r.new else name_after rs i u) e)
  | inr e ↦
      ap (λ (b : Bool). if b then r.new else name_after rs i t) e
      ∙ name-goes rs i t u (ap (λ (b : Bool). b || renames rs i) (sym e) ∙ h)
      ∙ sym (ap (λ (b : Bool). if b then r.new else name_after rs i u) e)
]

-- a rename before all leaves from an index on
pub past-names : (r : Rename) (rs : List Rename) (i : ℕ) (ls : List Leaf) → r.number < i → with_names (r ∷ rs) i ls ≡ with_names rs i ls
past-names r rs i [] h = refl
past-names r rs i (l ∷ ls) h =
    ap (λ (b : Bool). let k : Leaf = record { kind = l.kind; text = if b then r.new else name_after rs i l.text } in k ∷ with_names (r ∷ rs) (i + 1) ls) (ne_eqb r.number i (λ z. absurd (omega (arith, h, z))))
    ∙ ap (λ (z : List Leaf). let k : Leaf = record { kind = l.kind; text = name_after rs i l.text } in k ∷ z) (past-names r rs (i + 1) ls (omega (arith, h)))

abbrev of_text : Leaf → List ℕ → Leaf
of_text l t = record { kind = l.kind; text = t }

-- one more rename changes one leaf
pub one-more : (r : Rename) (rs : List Rename) (n i : ℕ) (ls : List Leaf) (l : Leaf) (more : List Leaf) → r.number ≡ i + n → drop n ls ≡ l ∷ more
    → with_names (r ∷ rs) i ls ≡ take n (with_names rs i ls) ++ of_text l r.new ∷ drop (suc n) (with_names rs i ls)
one-more r rs zero i [] l more e h = absurd (let z : [] ≡ l ∷ more = h in cc)
one-more r rs (suc n) i [] l more e h = absurd (let z : [] ≡ l ∷ more = h in cc)
one-more r rs zero i (k ∷ ls) l more e h =
    let one : k ≡ l = cc in
    let less : r.number < i + 1 = omega (arith, e) in
    ap (λ (b : Bool). of_text k (if b then r.new else name_after rs i k.text) ∷ with_names (r ∷ rs) (i + 1) ls) (eq-eqb r.number i (omega (arith, e)))
    ∙ ap (λ (z : List Leaf). of_text k r.new ∷ z) (past-names r rs (i + 1) ls less)
    ∙ ap (λ (x : Leaf). of_text x r.new ∷ with_names rs (i + 1) ls) one
one-more r rs (suc n) i (k ∷ ls) l more e h =
    ap (λ (b : Bool). of_text k (if b then r.new else name_after rs i k.text) ∷ with_names (r ∷ rs) (i + 1) ls) (ne_eqb r.number i (λ z. absurd (omega (arith, e, z))))
    ∙ ap (λ (z : List Leaf). of_text k (name_after rs i k.text) ∷ z) (one-more r rs n (i + 1) ls l more (omega (arith, e)) h)

pub names-at : (rs : List Rename) (n i : ℕ) (ls : List Leaf) (l : Leaf) (more : List Leaf) → drop n ls ≡ l ∷ more
    → with_names rs i ls ≡ take n (with_names rs i ls) ++ of_text l (name_after rs (i + n) l.text) ∷ drop (suc n) (with_names rs i ls)
names-at rs zero i [] l more h = absurd (let z : [] ≡ l ∷ more = h in cc)
names-at rs (suc n) i [] l more h = absurd (let z : [] ≡ l ∷ more = h in cc)
names-at rs zero i (k ∷ ls) l more h =
    let one : k ≡ l = cc in
    ap (λ (x : Leaf). of_text x (name_after rs i x.text) ∷ with_names rs (i + 1) ls) one
    ∙ ap (λ m. of_text l (name_after rs m l.text) ∷ with_names rs (i + 1) ls) (let z : i ≡ i + 0 = omega arith in z)
names-at rs (suc n) i (k ∷ ls) l more h =
    ap (λ (z : List Leaf). of_text k (name_after rs i k.text) ∷ z)
    (names-at rs n (i + 1) ls l more h
    ∙ ap (λ m. take n (with_names rs (i + 1) ls) ++ of_text l (name_after rs m l.text) ∷ drop (suc n) (with_names rs (i + 1) ls)) (let z : (i + 1) + n ≡ i + suc n = omega arith in z))

-- ---- tags

module _ (enc : ℕ → List ℕ) (limit : ℕ) (some : (c : ℕ) → enc c ≡ [] → ⊥) (low : (c : ℕ) → c < limit → list_all (below limit) (enc c) ≡ true) (dots : 46 < limit) where
  -- the tag of the leaf with index `i`; no text has the character `limit`
  abbrev pub tag : ℕ → ℕ
  tag i = limit + 1 + i

  pub low-all : (t : List ℕ) → list_all (below limit) t ≡ true → list_all (below limit) (flat_map enc t) ≡ true
  low-all [] a = refl
  low-all (c ∷ cs) a =
      let z = and_parts (ltb c limit) (list_all (below limit) cs) a in
      all-both (below limit) (enc c) (flat_map enc cs) (low c (ltb-true c limit z.0)) (low-all cs z.1)

  -- a tag is mapped to itself
  pub spelled : ℕ → List ℕ
  spelled c = if ltb c limit then enc c else (if c == limit then 0 ∷ [] else c ∷ [])

  pub spelled-low : (c : ℕ) → c < limit → spelled c ≡ enc c
  unfolding spelled
  spelled-low c h = ap (λ (b : Bool). if b then enc c else (if c == limit then 0 ∷ [] else c ∷ [])) (lt-ltb c limit h)

  pub spelled-high : (c : ℕ) → limit < c → spelled c ≡ c ∷ []
  unfolding spelled
  spelled-high c h =
      ap (λ (b : Bool). if b then enc c else (if c == limit then 0 ∷ [] else c ∷ [])) (le-ltb c limit (omega (arith, h)))
      ∙ ap (λ (b : Bool). if b then 0 ∷ [] else c ∷ []) (ne_eqb c limit (λ z. absurd (omega (arith, h, z))))

  pub spelled-tag : (i : ℕ) → flat_map spelled (tag i ∷ []) ≡ tag i ∷ []
  spelled-tag i = append-nil (spelled (tag i)) ∙ spelled-high (tag i) (omega arith)

  pub spelled-text : (t : List ℕ) → list_all (below limit) t ≡ true → flat_map spelled t ≡ flat_map enc t
  spelled-text t a = agree-where (below limit) spelled enc (λ c p. spelled-low c (ltb-true c limit p)) t a

  pub spelled-some : (c : ℕ) → spelled c ≡ [] → ⊥
  unfolding spelled
  spelled-some c e = whichever (ltb c limit) (c == limit) e
    where
      whichever : (a b : Bool) → (if a then enc c else (if b then 0 ∷ [] else c ∷ [])) ≡ [] → ⊥
      whichever true b z = some c z
      whichever false true z = not-nil 0 [] z
      whichever false false z = not-nil c [] z

  pub spelled-fresh : (c : ℕ) → has limit (spelled c) ≡ false
  unfolding spelled
  spelled-fresh c = elim (cases_Bool (ltb c limit)) [
    | inl h ↦ ap (has limit) (ap (λ (b : Bool). if b then enc c else (if c == limit then 0 ∷ [] else c ∷ [])) h) ∙ below-has limit limit (omega arith) (enc c) (low c (ltb-true c limit h))
    | inr h ↦ ap (has limit) (ap (λ (b : Bool). if b then enc c else (if c == limit then 0 ∷ [] else c ∷ [])) h) ∙ whichever (c == limit) refl
  ]
    where
      whichever : (b : Bool) → (c == limit) ≡ b → has limit (if b then 0 ∷ [] else c ∷ []) ≡ false
      whichever true e = ap (λ (b : Bool). b || false) (ne_eqb 0 limit (λ z. absurd (omega (arith, dots, z))))
      whichever false e = ap (λ (b : Bool). b || false) e

  -- ---- a tag is mapped to the text of its leaf

  or_one : List ℕ → List ℕ
  or_one [] = 0 ∷ []
  or_one (c ∷ cs) = c ∷ cs

  one-is : (t : List ℕ) → (t ≡ [] → ⊥) → or_one t ≡ t
  unfolding or_one
  one-is [] n = absurd (n refl)
  one-is (c ∷ cs) n = refl

  one-some : (t : List ℕ) → or_one t ≡ [] → ⊥
  unfolding or_one
  one-some [] e = not-nil 0 [] e
  one-some (c ∷ cs) e = not-nil c cs e

  pub enc-some : (t : List ℕ) → (t ≡ [] → ⊥) → flat_map enc t ≡ [] → ⊥
  enc-some [] n e = n refl
  enc-some (c ∷ cs) n e = some c (first-none (enc c) (flat_map enc cs) e)
    where
      first-none : (xs ys : List ℕ) → xs ++ ys ≡ [] → xs ≡ []
      first-none [] ys z = refl
      first-none (x ∷ xs) ys z = absurd (let y : x ∷ (xs ++ ys) ≡ [] = z in cc)

  pub measured : List Leaf → ℕ → List ℕ
  measured ls c = if ltb c limit then c ∷ [] else or_one (flat_map enc (leaf_text ls (c - (limit + 1))))

  pub measured-low : (ls : List Leaf) (c : ℕ) → c < limit → measured ls c ≡ c ∷ []
  unfolding measured
  measured-low ls c h = ap (λ (b : Bool). if b then c ∷ [] else or_one (flat_map enc (leaf_text ls (c - (limit + 1))))) (lt-ltb c limit h)

  pub measured-tag : (ls : List Leaf) (i : ℕ) → (leaf_text ls i ≡ [] → ⊥) → flat_map (measured ls) (tag i ∷ []) ≡ flat_map enc (leaf_text ls i)
  unfolding measured
  measured-tag ls i n =
      append-nil (measured ls (tag i))
      ∙ ap (λ (b : Bool). if b then tag i ∷ [] else or_one (flat_map enc (leaf_text ls (tag i - (limit + 1))))) (le-ltb (tag i) limit (omega arith))
      ∙ ap (λ m. or_one (flat_map enc (leaf_text ls m))) (let z : limit + 1 + i - (limit + 1) ≡ i = omega arith in z)
      ∙ one-is (flat_map enc (leaf_text ls i)) (enc-some (leaf_text ls i) n)

  pub measured-some : (ls : List Leaf) (c : ℕ) → measured ls c ≡ [] → ⊥
  unfolding measured
  measured-some ls c e = whichever (ltb c limit) e
    where
      whichever : (b : Bool) → (if b then c ∷ [] else or_one (flat_map enc (leaf_text ls (c - (limit + 1))))) ≡ [] → ⊥
      whichever true z = not-nil c [] z
      whichever false z = one-some (flat_map enc (leaf_text ls (c - (limit + 1)))) z

  -- ---- a tag is mapped to the new name

  pub named : List Rename → ℕ → List ℕ
  named rs c = if ltb c limit then c ∷ [] else name_after rs (c - (limit + 1)) []

  pub named-low : (rs : List Rename) (c : ℕ) → c < limit → named rs c ≡ c ∷ []
  unfolding named
  named-low rs c h = ap (λ (b : Bool). if b then c ∷ [] else name_after rs (c - (limit + 1)) []) (lt-ltb c limit h)

  pub named-high : (rs : List Rename) (c : ℕ) → limit ≤ c → named rs c ≡ name_after rs (c - (limit + 1)) []
  unfolding named
  named-high rs c h = ap (λ (b : Bool). if b then c ∷ [] else name_after rs (c - (limit + 1)) []) (le-ltb c limit h)

  pub named-tag : (rs : List Rename) (i : ℕ) → flat_map (named rs) (tag i ∷ []) ≡ name_after rs i []
  named-tag rs i =
      append-nil (named rs (tag i)) ∙ named-high rs (tag i) (omega arith)
      ∙ ap (λ m. name_after rs m []) (let z : limit + 1 + i - (limit + 1) ≡ i = omega arith in z)

  -- the bytes of new names
  pub renewed : List Rename → ℕ → List ℕ
  renewed rs c = if ltb c limit then c ∷ [] else flat_map enc (named rs c)

  pub renewed-low : (rs : List Rename) (c : ℕ) → c < limit → renewed rs c ≡ c ∷ []
  unfolding renewed
  renewed-low rs c h = ap (λ (b : Bool). if b then c ∷ [] else flat_map enc (named rs c)) (lt-ltb c limit h)

  pub renewed-high : (rs : List Rename) (c : ℕ) → limit ≤ c → renewed rs c ≡ flat_map enc (named rs c)
  unfolding renewed
  renewed-high rs c h = ap (λ (b : Bool). if b then c ∷ [] else flat_map enc (named rs c)) (le-ltb c limit h)

  -- ---- renames to tags

  abbrev pub tagging : Rename → Rename
  tagging r = record { number = r.number; up = r.up; old = r.old; new = tag r.number ∷ [] }

  abbrev pub tags : List Rename → List Rename
  tags rs = map tagging rs

  pub tags-same : (rs : List Rename) (i : ℕ) → renames (tags rs) i ≡ renames rs i
  tags-same [] i = refl
  tags-same (r ∷ rs) i = ap (λ (b : Bool). (r.number == i) || b) (tags-same rs i)

  pub tagged : (rs : List Rename) (i : ℕ) (t : List ℕ) → renames rs i ≡ true → name_after (tags rs) i t ≡ tag i ∷ []
  tagged [] i t h = absurd (let y : false ≡ true = h in cc)
  tagged (r ∷ rs) i t h = elim (cases_Bool (r.number == i)) [
    | inl e ↦ ap (λ (b : Bool). if b then tag r.number ∷ [] else name_after (tags rs) i t) e ∙ ap (λ m. tag m ∷ []) (eqb-true r.number i e)
    | inr e ↦
        ap (λ (b : Bool). if b then tag r.number ∷ [] else name_after (tags rs) i t) e
        ∙ tagged rs i t (ap (λ (b : Bool). b || renames rs i) (sym e) ∙ h)
  ]

  pub untagged : (rs : List Rename) (i : ℕ) (t : List ℕ) → renames rs i ≡ false → name_after (tags rs) i t ≡ t
  untagged rs i t h = name-stays (tags rs) i t (tags-same rs i ∙ h)
