-- The steps of a dressed tree are refused out of memory alone.
use Rattle.std.proofs.Common.{◌≡◌, ℕ, zero, suc, ◌+◌, ◌<◌, ◌≤◌, ◌^◌, Bool, true, false, List, [], ◌∷◌, ◌++◌, length, drop, encode_utf8_all, refl, sym, ◌∙◌, ap, subst, inl, inr, arith, append_assoc, append-nil, length-append, length-take, IsCharBoundary}
use Rattle.std.proofs.Math.Utf8.{encodes, scalar, scalars}
use Rattle.std.proofs.lemmas.Bool.{and_parts}
use Rattle.std.proofs.lemmas.Str.{encodes-append, IsCharBoundary-at_seam}
use Rattle.rowan_green.specs.Arena.{piece}
use Rattle.rowan_green.specs.Building.{Building}
use Rattle.rowan_green.specs.TextBuilding.{TextBuilding, text_given, MayNotFinish}
use Rattle.rowan_green.specs.Forest.{Tree, tree_text}
use Rattle.rowan_green.specs.Leaf.{Leaf}
use Rattle.rowan_green.specs.Term.{Term, term_len, texts_of, texts_of-append, tree_of}
use Rattle.rowan_green.specs.Refusal.{RefusesUnless}
use Rattle.rowan_green.specs.Word.{opens, token, closes, Partial, outside, inside, read, read_from-append, with_term, closed, innermost, words}
use Rattle.rowan_green.specs.declared.error.GreenError.{GreenError}
use Rattle.rowan_green.specs.declared.error.GreenError.TheVariants.{TooLong, Unbalanced, NoMemory}
use Rattle.rowan_green.specs.declared.utility_types.NodeOrToken.TheVariants.{Node, Token}
use Rattle.parser_input.specs.Leaf as leaves
use Rattle.parser_events.specs.Dress.{dress_root, joined}
use Rattle.parser_events.specs.Dressed as dressed
use Rattle.parser_events.specs.Dressed.{Dressed, text_of}
use Rattle.parser_events.specs.Forest as forest
use Rattle.parser_events.specs.Laying.{put_around}
use Rattle.parser_events.specs.Sinks.{FailsAtOne}
use Rattle.parser_events.specs.Steps.{Step}
use Rattle.parser_events.specs.TextSteps as texts
use Rattle.parser_events.specs.TextSteps.{TextStep, text_steps}
use Rattle.parser_events.proofs.Coverings.{dressed-is-put}
use Rattle.parser_events.proofs.Texts.{text-is-text}
use Rattle.rust_document.specs.TreeBuilt.{IsTreeOf}
use Rattle.rust_document.specs.TreeSinks.{built, IsTaken, MayNotClose, MayRefuse, IsRefused}
use Rattle.rust_document.specs.declared.tree_sink.TreeSink.{TreeSink}
use Rattle.rust_document.proofs.TreeSinks.{Begins, all_chars, begins-after, begins-whole, chars-tree}

-- ---- what is built of a word is no more than what the word has

-- the bytes of all that is built, and how many terms stand in the open nodes and outside
abbrev bytes_in : Partial → ℕ
bytes_in (outside es) = length (texts_of es)
bytes_in (inside p k es) = bytes_in p + length (texts_of es)

abbrev terms_in : Partial → ℕ
terms_in (outside es) = length es
terms_in (inside p k es) = terms_in p + length es

inner-bytes : (p : Partial) → length (texts_of (innermost p)) ≤ bytes_in p
inner-bytes (outside es) = omega arith
inner-bytes (inside p k es) = omega arith

inner-terms : (p : Partial) → length (innermost p) ≤ terms_in p
inner-terms (outside es) = omega arith
inner-terms (inside p k es) = omega arith

texts-one : (x : Term) → length (texts_of (x ∷ [])) ≡ term_len x
texts-one (Node t) = ap (λ (bs : List ℕ). length bs) (append-nil (tree_text t))
texts-one (Token l) = ap (λ (bs : List ℕ). length bs) (append-nil l.text)

texts-more : (es : List Term) (x : Term) → length (texts_of (es ++ x ∷ [])) ≡ length (texts_of es) + term_len x
texts-more es x = omega (arith, ap (λ (bs : List ℕ). length bs) (texts_of-append es (x ∷ [])), length-append (texts_of es) (texts_of (x ∷ [])), texts-one x)

with-bytes : (p : Partial) (x : Term) → bytes_in (with_term p x) ≡ bytes_in p + term_len x
with-bytes (outside es) x = texts-more es x
with-bytes (inside p k es) x = omega (arith, texts-more es x)

with-terms : (p : Partial) (x : Term) → terms_in (with_term p x) ≡ terms_in p + 1
with-terms (outside es) x = length-append es (x ∷ [])
with-terms (inside p k es) x = omega (arith, length-append es (x ∷ []))

closed-bytes : (p : Partial) → bytes_in (closed p) ≡ bytes_in p
closed-bytes (outside es) = refl
closed-bytes (inside p k es) = with-bytes p (Node (tree_of k es))

closed-terms : (p : Partial) → terms_in (closed p) ≤ terms_in p + 1
closed-terms (outside es) = omega arith
closed-terms (inside p k es) = omega (arith, with-terms p (Node (tree_of k es)))

-- ---- how many bytes the leaves of steps have, and whether only what was entered is left

abbrev step_bytes : TextStep → ℕ
step_bytes (texts.Token kind text) = length (encode_utf8_all text)
step_bytes (texts.Enter kind) = 0
step_bytes texts.Exit = 0
step_bytes (texts.Error message place) = 0

abbrev bytes_of : List TextStep → ℕ
bytes_of [] = 0
bytes_of (s ∷ ss) = step_bytes s + bytes_of ss

abbrev leaves_entered : ℕ → List TextStep → Bool
leaves_entered level [] = true
leaves_entered level (texts.Token kind text ∷ ss) = leaves_entered level ss
leaves_entered level (texts.Enter kind ∷ ss) = leaves_entered (suc level) ss
leaves_entered zero (texts.Exit ∷ ss) = false
leaves_entered (suc level) (texts.Exit ∷ ss) = leaves_entered level ss
leaves_entered level (texts.Error message place ∷ ss) = leaves_entered level ss

-- the bytes of what is built after a step
abbrev in_word : TextBuilding → Partial
in_word b = read b.building.word

-- the next piece of the builder's text
abbrev next_leaf : TextBuilding → ℕ → List ℕ → Leaf
next_leaf b kind text = record { kind = kind; text = piece b.text b.used (length (encode_utf8_all text)) }

bytes-built : (b : TextBuilding) (s : TextStep) → bytes_in (in_word (built b s)) ≤ bytes_in (in_word b) + step_bytes s
bytes-built b (texts.Token kind text) =
    let l = next_leaf b kind text in
    omega (
      arith,
      ap (λ (p : Partial). bytes_in p) (read_from-append (outside []) b.building.word (token l ∷ [])),
      with-bytes (in_word b) (Token l),
      length-take (length (encode_utf8_all text)) (drop b.used b.text),
    )
bytes-built b (texts.Enter kind) = omega (arith, ap (λ (p : Partial). bytes_in p) (read_from-append (outside []) b.building.word (opens kind ∷ [])))
bytes-built b texts.Exit =
    omega (arith, ap (λ (p : Partial). bytes_in p) (read_from-append (outside []) b.building.word (closes ∷ [])), closed-bytes (in_word b))
bytes-built b (texts.Error message place) = omega arith

terms-built : (b : TextBuilding) (s : TextStep) → terms_in (in_word (built b s)) ≤ terms_in (in_word b) + 1
terms-built b (texts.Token kind text) =
    let l = next_leaf b kind text in
    omega (arith, ap (λ (p : Partial). terms_in p) (read_from-append (outside []) b.building.word (token l ∷ [])), with-terms (in_word b) (Token l))
terms-built b (texts.Enter kind) = omega (arith, ap (λ (p : Partial). terms_in p) (read_from-append (outside []) b.building.word (opens kind ∷ [])))
terms-built b texts.Exit =
    omega (arith, ap (λ (p : Partial). terms_in p) (read_from-append (outside []) b.building.word (closes ∷ [])), closed-terms (in_word b))
terms-built b (texts.Error message place) = omega arith

started-built : (b : TextBuilding) (s : TextStep) → (built b s).building.started ≤ b.building.started + 1
started-built b (texts.Token kind text) = omega arith
started-built b (texts.Enter kind) = omega arith
started-built b texts.Exit = omega arith
started-built b (texts.Error message place) = omega arith

drop-level : (os : List ℕ) (ss : List TextStep) → leaves_entered (length os) (texts.Exit ∷ ss) ≡ true → leaves_entered (length (drop 1 os)) ss ≡ true
drop-level [] ss h = absurd (let z : false ≡ true = h in cc)
drop-level (o ∷ os) ss h = h

level-built : (b : TextBuilding) (s : TextStep) (ss : List TextStep) → leaves_entered (length b.building.open_numbers) (s ∷ ss) ≡ true → leaves_entered (length (built b s).building.open_numbers) ss ≡ true
level-built b (texts.Token kind text) ss h = h
level-built b (texts.Enter kind) ss h = h
level-built b texts.Exit ss h = drop-level b.building.open_numbers ss h
level-built b (texts.Error message place) ss h = h

-- ---- refusals

scalars-rest : (xs ys : List ℕ) → scalars (xs ++ ys) ≡ true → scalars ys ≡ true
scalars-rest [] ys h = h
scalars-rest (x ∷ xs) ys h = scalars-rest xs ys (and_parts (scalar x) (scalars (xs ++ ys)) h).1

-- There is room for the steps: bytes and counts stay in range, and no step leaves what was not entered.
record HasRoom (b : TextBuilding) (ss : List TextStep) : Type 0 where
  level : leaves_entered (length b.building.open_numbers) ss ≡ true
  bytes : bytes_in (in_word b) + bytes_of ss ≤ 16777216
  terms : terms_in (in_word b) + length ss < 2 ^ 32
  nodes : b.building.started + length ss < 2 ^ 64
  begins : Begins b ss
  good : scalars (all_chars ss) ≡ true

good-after : (s : TextStep) (ss : List TextStep) → scalars (all_chars (s ∷ ss)) ≡ true → scalars (all_chars ss) ≡ true
good-after (texts.Token kind text) ss h = scalars-rest text (all_chars ss) h
good-after (texts.Enter kind) ss h = h
good-after texts.Exit ss h = h
good-after (texts.Error message place) ss h = h

room-after : (b : TextBuilding) (s : TextStep) (ss : List TextStep) → HasRoom b (s ∷ ss) → HasRoom (built b s) ss
room-after b s ss r = record {
  level = level-built b s ss r.level;
  bytes = omega (arith, r.bytes, bytes-built b s);
  terms = omega (arith, r.terms, terms-built b s);
  nodes = omega (arith, r.nodes, started-built b s);
  begins = begins-after b s ss r.begins;
  good = good-after s ss r.good;
}

-- a leaf ends where the text may be cut
leaf-cut : (b : TextBuilding) (kind : ℕ) (text : List ℕ) (ss : List TextStep) → HasRoom b (texts.Token kind text ∷ ss) → IsCharBoundary b.text (b.used + length (encode_utf8_all text))
leaf-cut b kind text ss r =
    let own = encodes text in
    let rest = encodes (all_chars ss) in
    let front = r.begins.front ++ own in
    let whole : b.text ≡ front ++ rest = r.begins.text ∙ ap (λ (t : List ℕ). r.begins.front ++ t) (encodes-append text (all_chars ss)) ∙ sym (append_assoc r.begins.front own rest) in
    let cut : IsCharBoundary b.text (length front) = IsCharBoundary-at_seam b.text front rest whole (all_chars ss, (good-after (texts.Token kind text) ss r.good, refl)) in
    let size : length front ≡ b.used + length own = omega (arith, length-append r.begins.front own, r.begins.used) in
    subst (λ (n : ℕ). IsCharBoundary b.text n) size cut

-- where something fits, a refusal is one out of memory
pub memory-unless : (Fits : Type 0) (e : GreenError) → Fits → RefusesUnless Fits e → e ≡ NoMemory
memory-unless Fits TooLong f h = absurd (h f)
memory-unless Fits Unbalanced f h = absurd h
memory-unless Fits NoMemory f h = refl

memory-close : (b : TextBuilding) (ss : List TextStep) (e : GreenError) → HasRoom b (texts.Exit ∷ ss) → MayNotClose b.building e → e ≡ NoMemory
memory-close b ss TooLong r h =
    absurd (h (record { count = omega (arith, r.terms, inner-terms (in_word b)); text = omega (arith, r.bytes, inner-bytes (in_word b)) }))
memory-close b ss Unbalanced r h =
    let z : false ≡ true = ap (λ (os : List ℕ). leaves_entered (length os) (texts.Exit ∷ ss)) (sym h) ∙ r.level in absurd cc
memory-close b ss NoMemory r h = refl

memory-here : (b : TextBuilding) (s : TextStep) (ss : List TextStep) (e : GreenError) → HasRoom b (s ∷ ss) → MayRefuse b s e → e ≡ NoMemory
memory-here b (texts.Token kind text) ss e r h = memory-unless (IsCharBoundary b.text (b.used + length (encode_utf8_all text))) e (leaf-cut b kind text ss r) h
memory-here b (texts.Enter kind) ss e r h = memory-unless (b.building.started + 1 < 2 ^ 64) e (omega (arith, r.nodes)) h
memory-here b texts.Exit ss e r h = memory-close b ss e r h
memory-here b (texts.Error message place) ss e r h = h

-- where there is room, some step is refused out of memory alone
memory-in : (old new : TreeSink) (ss : List TextStep) (e : GreenError) → HasRoom old.builder ss → FailsAtOne IsTaken IsRefused old ss e new → e ≡ NoMemory
memory-in old new [] e r h = absurd h
memory-in old new (s ∷ ss) e r h = elim h [
  | inl refused ↦ memory-here old.builder s ss e r refused.reason
  | inr taken ↦ memory-in taken.0 new ss e (let P : TextBuilding → Type 0 = λ b. HasRoom b ss in subst P (sym taken.1.0.builder) (room-after old.builder s ss r)) taken.1.1
]

-- ---- the steps of a dressed tree

bytes-append : (xs ys : List TextStep) → bytes_of (xs ++ ys) ≡ bytes_of xs + bytes_of ys
bytes-append [] ys = omega arith
bytes-append (x ∷ xs) ys = omega (arith, bytes-append xs ys)

bytes-tree : (d : Dressed) → bytes_of (text_steps d) ≡ length (encodes (text_of d))
bytes-tree dressed.End = refl
bytes-tree (dressed.Leaf k t d) =
    ap (λ (n : ℕ). length (encodes t) + n) (bytes-tree d)
    ∙ sym (ap (λ (bs : List ℕ). length bs) (encodes-append t (text_of d)) ∙ length-append (encodes t) (encodes (text_of d)))
bytes-tree (dressed.Said m p d) = omega (arith, bytes-tree d)
bytes-tree (dressed.Node k c d) =
    omega (arith, bytes-append (text_steps c) (texts.Exit ∷ text_steps d), bytes-tree c, bytes-tree d, ap (λ (bs : List ℕ). length bs) (encodes-append (text_of c) (text_of d)), length-append (encodes (text_of c)) (encodes (text_of d)))

level-tree : (level : ℕ) (d : Dressed) (rest : List TextStep) → leaves_entered level (text_steps d ++ rest) ≡ leaves_entered level rest
level-tree level dressed.End rest = refl
level-tree level (dressed.Leaf k t d) rest = level-tree level d rest
level-tree level (dressed.Said m p d) rest = level-tree level d rest
level-tree level (dressed.Node k c d) rest =
    ap (λ (ss : List TextStep). leaves_entered (suc level) ss) (append_assoc (text_steps c) (texts.Exit ∷ text_steps d) rest)
    ∙ level-tree (suc level) c (texts.Exit ∷ (text_steps d ++ rest))
    ∙ level-tree level d rest

level-whole : (d : Dressed) → leaves_entered 0 (text_steps d) ≡ true
level-whole d = ap (λ (ss : List TextStep). leaves_entered 0 ss) (sym (append-nil (text_steps d))) ∙ level-tree 0 d []

-- There is room for the steps of a tree that is dressed with a text in range.
room-whole : (f : forest.Forest) (ls : List leaves.Leaf) → length (encode_utf8_all (joined ls)) ≤ 16777216 → length (text_steps (dress_root f ls)) < 2 ^ 32 → scalars (joined ls) ≡ true → HasRoom (text_given (encodes (joined ls))) (text_steps (dress_root f ls))
room-whole f ls bytes few good =
    let d = dress_root f ls in
    let own : bytes_of (text_steps d) ≡ length (encode_utf8_all (joined ls)) = bytes-tree d ∙ ap (λ (t : List ℕ). length (encodes t)) (text-is-text f ls) in
    record { level = level-whole d; bytes = omega (arith, own, bytes); terms = omega (arith, few); nodes = omega (arith, few); begins = begins-whole f ls; good = ap (λ (t : List ℕ). scalars t) (chars-tree d ∙ text-is-text f ls) ∙ good }

-- Over the text of the leaves, the steps of a tree are refused out of memory alone.
pub memory-alone :
    (old new : TreeSink) (ss : List Step) (ls : List leaves.Leaf) (e : GreenError) → old.builder ≡ text_given (encodes (joined ls)) → scalars (joined ls) ≡ true → IsTreeOf ss ls → FailsAtOne IsTaken IsRefused old (put_around ss ls) e new → e ≡ NoMemory
memory-alone old new ss ls e start good t h =
    let put : put_around ss ls ≡ text_steps (dress_root t.forest ls) =
    ap (λ (xs : List Step). put_around xs ls) t.steps_of.are ∙ dressed-is-put t.forest ls t.steps_of.rooted t.steps_of.fit in
    let P : List TextStep → Type 0 = λ xs. FailsAtOne IsTaken IsRefused old xs e new in
    let Q : TextBuilding → Type 0 = λ b. HasRoom b (text_steps (dress_root t.forest ls)) in
    memory-in old new (text_steps (dress_root t.forest ls)) e (subst Q (sym start) (room-whole t.forest ls t.bytes t.few good)) (subst P put h)

-- A tree that is whole is not finished out of memory alone.
pub memory-finish : (b : Building) (t : Tree) (e : GreenError) → b.word ≡ words (Node t ∷ []) → MayNotFinish b e → e ≡ NoMemory
memory-finish b t TooLong w h = absurd h
memory-finish b t Unbalanced w h = absurd (h t w)
memory-finish b t NoMemory w h = refl
