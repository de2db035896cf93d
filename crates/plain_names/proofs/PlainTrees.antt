-- Plain renames in the tree, in UTF-8.
use Rattle.std.proofs.Common.{◌≡◌, ℕ, zero, suc, ◌+◌, ◌/◌, ◌%◌, ◌<◌, Bool, true, false, cond, ◌&&◌, ◌||◌, ltb, List, [], ◌∷◌, ◌++◌, length, take, drop, map, Some, append-nil, refl, sym, ◌∙◌, ap, subst, arith, lit<, leb, inl, inr, if◌then◌else◌, ◌==◌}
use Rattle.std.specs.List.{flat_map, list_all}
use Rattle.std.proofs.Math.Utf8.{encode, encodes, scalar, scalars}
use Rattle.std.proofs.lemmas.Bool.{and_from, and_parts, cases_Bool, lt-ltb, ltb-true, ne_eqb}
use Rattle.std.proofs.lemmas.Str.{len_utf8_bounds, length-encode}
use Rattle.unicode_ident.proofs.IdentLemmas.{is_xid_continue-ascii}
use Rattle.rustc_lexer.specs.Characters.{is_id_start, is_id_continue, is_ident, size}
use Rattle.rustc_lexer.specs.Tokens.{first_lexeme}
use Rattle.rustc_lexer.proofs.Sizes.{size-encodes}
use Rattle.rowan_green.specs.Forest.{node, empty, Tree, forest_text}
use Rattle.rowan_green.specs.Term.{Term}
use Rattle.rowan_green.specs.declared.utility_types.NodeOrToken.TheVariants.{Token}
use Rattle.parser_input.specs.Kinds.{IDENT}
use Rattle.parser_input.specs.Leaf.{Leaf}
use Rattle.parser_input.specs.Lexed.{Lexed, lexed, leaves_of}
use Rattle.parser_input.specs.Stored.{offset}
use Rattle.parser_input.specs.declared.edition.Edition.{Edition}
use Rattle.parser_input.proofs.LexedTexts.{leaves-joined}
use Rattle.parser_events.specs.Dress.{joined, dress_root}
use Rattle.plain_names.specs.TokenNames.{name_lexeme}
use Rattle.plain_names.specs.LeafNames.{texts}
use Rattle.plain_names.specs.Replacements.{Replacement, with_leaves, AreApart}
use Rattle.plain_names.specs.Trees.{dressed_forest, has}
use Rattle.plain_names.specs.Renames.{Rename, name_after, renamed_from, renamed_leaves, replacement_of, IsPlainRename, ArePlainRenames, IsInTree, AreInTree, PlainRenamesRenameTrees, PlainRenamesRenameTexts, RenamedTextsAreScalars}
use Rattle.plain_names.proofs.Names.{start-dot}
use Rattle.plain_names.proofs.Renamed.{no-name}
use Rattle.plain_names.proofs.Followed.{dressed-text}
use Rattle.plain_names.proofs.Numbered.{name-at, raw-ident}
use Rattle.plain_names.proofs.Tags.{below, low-all, renamed-leaves}
use Rattle.plain_names.proofs.RenamedTrees.{name_leaf, Fits, AllFit, all-named}

-- ---- characters

encode-some : (c : ℕ) → encode c ≡ [] → ⊥
encode-some c e =
    let least = (len_utf8_bounds c).0 in
    let long = length-encode c in
    let none = ap length e in
    absurd (omega (arith, least, long, none))

encode-low : (c : ℕ) → c < 1114112 → list_all (below 1114112) (encode c) ≡ true
unfolding encode
encode-low c h = whichever (ltb c 128) (ltb c 2048) (ltb c 65536)
  where
    one : (x : ℕ) → x < 1114112 → ltb x 1114112 ≡ true
    one x l = lt-ltb x 1114112 l

    whichever : (a b d : Bool) → list_all (below 1114112) (cond a (c ∷ []) (cond b ((192 + c / 64) ∷ (128 + c % 64) ∷ []) (cond d ((224 + c / 4096) ∷ (128 + c / 64 % 64) ∷ (128 + c % 64) ∷ []) ((240 + c / 262144) ∷ (128 + c / 4096 % 64) ∷ (128 + c / 64 % 64) ∷ (128 + c % 64) ∷ [])))) ≡ true
    whichever true b d = and_from _ _ (one c h) refl
    whichever false true d = and_from _ _ (one (192 + c / 64) (omega (arith, h))) (and_from _ _ (one (128 + c % 64) (omega (arith, h))) refl)
    whichever false false true =
        and_from _ _ (one (224 + c / 4096) (omega (arith, h)))
        (and_from _ _ (one (128 + c / 64 % 64) (omega (arith, h))) (and_from _ _ (one (128 + c % 64) (omega (arith, h))) refl))
    whichever false false false =
        and_from _ _ (one (240 + c / 262144) (omega (arith, h)))
        (and_from _ _ (one (128 + c / 4096 % 64) (omega (arith, h))) (and_from _ _ (one (128 + c / 64 % 64) (omega (arith, h))) (and_from _ _ (one (128 + c % 64) (omega (arith, h))) refl)))

scalar-low : (c : ℕ) → scalar c ≡ true → ltb c 1114112 ≡ true
scalar-low c h = whichever (ltb c 55296) refl h
  where
    whichever : (b : Bool) → ltb c 55296 ≡ b → cond b true (leb 57344 c && ltb c 1114112) ≡ true → ltb c 1114112 ≡ true
    whichever true e z = let l = ltb-true c 55296 e in lt-ltb c 1114112 (omega (arith, l))
    whichever false e z = (and_parts (leb 57344 c) (ltb c 1114112) z).1

scalars-low : (t : List ℕ) → scalars t ≡ true → list_all (below 1114112) t ≡ true
scalars-low [] h = refl
scalars-low (c ∷ cs) h = let p = and_parts (scalar c) (scalars cs) h in and_from _ _ (scalar-low c p.0) (scalars-low cs p.1)

-- the bytes of a text, as its characters mapped
pub encodes-flat : (t : List ℕ) → encodes t ≡ flat_map encode t
encodes-flat [] = refl
encodes-flat (c ∷ cs) = ap (λ z. encode c ++ z) (encodes-flat cs)

-- ---- names have no dots

continue-dot : is_id_continue 46 ≡ false
unfolding is_id_continue
continue-dot = is_xid_continue-ascii 46 (lit< tt)

no-dots : (t : List ℕ) → list_all is_id_continue t ≡ true → has 46 t ≡ false
no-dots [] h = refl
no-dots (c ∷ cs) h =
    let p = and_parts (is_id_continue c) (list_all is_id_continue cs) h in
    ap (λ (b : Bool). b || has 46 cs) (ne_eqb c 46 (λ e. let y : true ≡ false = sym p.0 ∙ ap is_id_continue e ∙ continue-dot in cc))
    ∙ no-dots cs p.1

name-dots : (t : List ℕ) → is_ident t ≡ true → has 46 t ≡ false
unfolding is_ident
name-dots [] h = refl
name-dots (c ∷ cs) h =
    let p = and_parts (is_id_start c) (list_all is_id_continue cs) h in
    ap (λ (b : Bool). b || has 46 cs) (ne_eqb c 46 (λ e. let y : true ≡ false = sym p.0 ∙ ap is_id_start e ∙ start-dot in cc))
    ∙ no-dots cs p.1

-- a text that starts with a name's token
raw-some : (z name : List ℕ) → first_lexeme z ≡ name_lexeme name → name ≡ [] → ⊥
raw-some z name is e = no-name z (is ∙ ap name_lexeme e)

-- ---- leaves

drop-leaves : (n : ℕ) (ls : List Lexed) → leaves_of (drop n ls) ≡ drop n (leaves_of ls)
drop-leaves zero ls = refl
drop-leaves (suc n) [] = refl
drop-leaves (suc n) (l ∷ ls) = drop-leaves n ls

joined-leaves : (ls : List Lexed) → joined (leaves_of ls) ≡ texts ls
unfolding joined
joined-leaves [] = refl
joined-leaves (l ∷ ls) = ap (λ cs. l.leaf.text ++ cs) (joined-leaves ls)

size-append : (xs ys : List ℕ) → size (xs ++ ys) ≡ size xs + size ys
unfolding size
size-append [] ys = omega arith
size-append (x ∷ xs) ys = let m = size-append xs ys in omega (arith, m)

offset-is : (n : ℕ) (ls : List Lexed) → offset ls n ≡ length (encodes (joined (take n (leaves_of ls))))
unfolding joined
offset-is zero ls = refl
offset-is (suc n) [] = refl
offset-is (suc n) (l ∷ ls) =
    let own = size-encodes l.leaf.text in
    let more = offset-is n ls in
    let all = size-encodes (l.leaf.text ++ joined (take n (leaves_of ls))) in
    let rest = size-encodes (joined (take n (leaves_of ls))) in
    let parts = size-append l.leaf.text (joined (take n (leaves_of ls))) in
    omega (arith, own, more, all, rest, parts)

one-fits : (e : Edition) (text : List ℕ) (t : Tree) (r : Rename) → IsPlainRename e text r → IsInTree e text t r → Fits encode (leaves_of (lexed e text)) t r
one-fits e text t r p i =
    let ls = lexed e text in
    record {
      is_leaf = sym (drop-leaves r.number ls) ∙ ap leaves_of (name-at e text r p).is ∙ ap (λ z. name_leaf r.old ∷ z) (drop-leaves (suc r.number) ls);
      old_some = raw-some (texts (drop r.number ls)) r.old p.raw;
      old_plain = name-dots r.old (raw-ident (texts (drop r.number ls)) r.old p.raw);
      new_plain = name-dots r.new p.new_ident;
      stands = i.stands ∙ ap (λ (x : List ℕ). let o : Term = Token (record { kind = IDENT; text = x }) in Some o) (encodes-flat r.old);
      starts = i.starts ∙ offset-is r.number ls ∙ ap length (encodes-flat (joined (take r.number (leaves_of ls))));
    }

all-fit : (e : Edition) (text : List ℕ) (t : Tree) (rs : List Rename) → ArePlainRenames e text rs → AreInTree e text t rs → AllFit encode (leaves_of (lexed e text)) t rs
all-fit e text t [] p i = tt
all-fit e text t (r ∷ rs) p i = (one-fits e text t r p.0 i.0, all-fit e text t rs p.1 i.1)

-- the new leaf, its text by `flat_map`
abbrev to_name : Rename → Replacement
to_name r = record { up = r.up; leaf = record { kind = IDENT; text = flat_map encode r.new } }

replacements-same : (rs : List Rename) → map replacement_of rs ≡ map to_name rs
replacements-same [] = refl
replacements-same (r ∷ rs) =
    ap (λ (x : List ℕ). let q : Replacement = record { up = r.up; leaf = record { kind = IDENT; text = x } } in q ∷ map replacement_of rs) (encodes-flat r.new)
    ∙ ap (λ (z : List Replacement). to_name r ∷ z) (replacements-same rs)

pub renames-trees : PlainRenamesRenameTrees
renames-trees e text rs f t good plain tree apart is =
    let ls = leaves_of (lexed e text) in
    let dots : 46 < 1114112 = lit< tt in
    let whole : joined ls ≡ text = joined-leaves (lexed e text) ∙ leaves-joined e text in
    let ls_low : list_all (below 1114112) (joined ls) ≡ true = ap (list_all (below 1114112)) whole ∙ scalars-low text good in
    let t_text : forest_text t.forest ≡ flat_map encode (joined ls) = sym (append-nil (forest_text t.forest)) ∙ ap forest_text (sym is) ∙ dressed-text encode f ls in
    let t_low : list_all (below 1114112) (forest_text t.forest) ≡ true = ap (list_all (below 1114112)) t_text ∙ low-all encode 1114112 encode-some encode-low dots (joined ls) ls_low in
    let same = replacements-same rs in
    ap (λ (x : List Leaf). dressed_forest encode (dress_root f x)) (renamed-leaves rs 0 (lexed e text))
    ∙ all-named encode 1114112 encode-some encode-low dots ls t ls_low t_low f rs (all-fit e text t rs plain tree) (subst AreApart same apart) is
    ∙ ap (λ (x : List Replacement). node t.kind (with_leaves x [] 0 t.forest) empty) (sym same)

pub renames-texts : PlainRenamesRenameTexts
renames-texts e text rs f t good plain tree apart is =
    let ms = renamed_leaves rs e text in
    let new = renames-trees e text rs f t good plain tree apart is in
    sym (append-nil (forest_text (with_leaves (map replacement_of rs) [] 0 t.forest)))
    ∙ ap forest_text (sym new) ∙ dressed-text encode f (leaves_of ms)
    ∙ ap (λ z. flat_map encode z) (joined-leaves ms) ∙ sym (encodes-flat (texts ms))

-- ---- characters of the renamed text

scalars-parts : (xs ys : List ℕ) → scalars (xs ++ ys) ≡ true → (scalars xs ≡ true) × (scalars ys ≡ true)
scalars-parts [] ys h = (refl, h)
scalars-parts (x ∷ xs) ys h =
    let a = and_parts (scalar x) (scalars (xs ++ ys)) h in
    let b = scalars-parts xs ys a.1 in
    (and_from _ _ a.0 b.0, b.1)

scalars-both : (xs ys : List ℕ) → scalars xs ≡ true → scalars ys ≡ true → scalars (xs ++ ys) ≡ true
scalars-both [] ys a b = b
scalars-both (x ∷ xs) ys a b = let z = and_parts (scalar x) (scalars xs) a in and_from _ _ z.0 (scalars-both xs ys z.1 b)

name-scalars : (rs : List Rename) (i : ℕ) (t : List ℕ) → list_all (λ r. scalars r.new) rs ≡ true → scalars t ≡ true → scalars (name_after rs i t) ≡ true
name-scalars [] i t a h = h
name-scalars (r ∷ rs) i t a h =
    let z = and_parts (scalars r.new) (list_all (λ r. scalars r.new) rs) a in
    elim (cases_Bool (r.number == i)) [
      | inl e ↦ ap (λ (b : Bool). scalars (if b then r.new else name_after rs i t)) e ∙ z.0
      | inr e ↦ ap (λ (b : Bool). scalars (if b then r.new else name_after rs i t)) e ∙ name-scalars rs i t z.1 h
    ]

leaves-scalars : (rs : List Rename) (i : ℕ) (ls : List Lexed) → list_all (λ r. scalars r.new) rs ≡ true → scalars (texts ls) ≡ true → scalars (texts (renamed_from rs i ls)) ≡ true
leaves-scalars rs i [] a h = refl
leaves-scalars rs i (l ∷ ls) a h =
    let z = scalars-parts l.leaf.text (texts ls) h in
    scalars-both (name_after rs i l.leaf.text) (texts (renamed_from rs (i + 1) ls)) (name-scalars rs i l.leaf.text a z.0) (leaves-scalars rs (i + 1) ls a z.1)

pub renamed-scalars : RenamedTextsAreScalars
renamed-scalars e text rs good names = leaves-scalars rs 0 (lexed e text) names (ap scalars (leaves-joined e text) ∙ good)
