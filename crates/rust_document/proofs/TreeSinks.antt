-- What all steps of a dressed tree make of a builder and of a list of messages.
use Rattle.std.proofs.Common.{◌≡◌, ℕ, ◌+◌, ◌-◌, arith, true, List, [], ◌∷◌, ◌++◌, map, flat_map, slice_range, length, take, chars, encode_utf8_all, refl, sym, subst, ◌∙◌, ap, append_assoc, append-nil, length-append}
use Rattle.std.specs.Str.{IsUtf8}
use Rattle.std.proofs.Math.Seq.{take-length, drop-append_seam}
use Rattle.std.proofs.Math.Utf8.{encodes, scalars}
use Rattle.std.proofs.lemmas.List.{take-append-le}
use Rattle.std.proofs.lemmas.Str.{encodes-append, encodes-chars, scalars-chars}
use Rattle.rowan_green.specs.Arena.{piece}
use Rattle.rowan_green.specs.TextBuilding.{TextBuilding, text_given}
use Rattle.rowan_green.specs.Forest.{Tree}
use Rattle.rowan_green.specs.Word.{Sign, opens, token, closes, word, words, words-injective}
use Rattle.rowan_green.specs.declared.utility_types.NodeOrToken.TheVariants.{Node}
use Rattle.parser_input.specs.Leaf as leaves
use Rattle.parser_input.specs.Lexed.{Lexed, leaves_of}
use Rattle.parser_events.specs.Dress.{dress_root, joined, root, close_node, open_node}
use Rattle.parser_events.specs.Dressed as dressed
use Rattle.parser_events.specs.Dressed.{Dressed, sayings_of, text_of}
use Rattle.parser_events.specs.Fits.{fits, IsRooted}
use Rattle.parser_events.specs.Forest as forest
use Rattle.parser_events.specs.Sinks.{TakesAll}
use Rattle.parser_events.specs.Steps.{Step, steps}
use Rattle.parser_events.specs.TextSteps as texts
use Rattle.parser_events.specs.TextSteps.{TextStep, text_steps}
use Rattle.parser_events.proofs.Texts.{text-is-text}
use Rattle.rust_document.specs.Seen.{message_of_error}
use Rattle.rust_document.specs.Reading.{terms_of, root_of, Message, of_grammar}
use Rattle.rust_document.specs.TreeBuilt.{AreStepsOf, IsBuilt, IsTreeOf}
use Rattle.rust_document.specs.TreeSinks.{built, heard, IsTaken}
use Rattle.rust_document.specs.declared.syntax_error.SyntaxError.{SyntaxError}
use Rattle.rust_document.specs.declared.tree_sink.TreeSink.{TreeSink}
use Rattle.rust_document.proofs.MessageSinks.{all_heard, heard-tree}
use Rattle.rust_document.proofs.Sizes.{all-texts}

-- ---- steps one after another

-- what a step adds to a builder's word
abbrev signs : TextStep → List Sign
signs (texts.Token kind text) = token (record { kind = kind; text = encode_utf8_all text }) ∷ []
signs (texts.Enter kind) = opens kind ∷ []
signs texts.Exit = closes ∷ []
signs (texts.Error message place) = []

abbrev all_signs : List TextStep → List Sign
all_signs [] = []
all_signs (s ∷ ss) = signs s ++ all_signs ss

-- the characters of its leaf
abbrev own_chars : TextStep → List ℕ
own_chars (texts.Token kind text) = text
own_chars (texts.Enter kind) = []
own_chars texts.Exit = []
own_chars (texts.Error message place) = []

abbrev pub all_chars : List TextStep → List ℕ
all_chars [] = []
all_chars (s ∷ ss) = own_chars s ++ all_chars ss

-- what a builder's text has left is the leaves of the steps
pub record Begins (b : TextBuilding) (ss : List TextStep) : Type 0 where
  pub front : List ℕ
  pub text : b.text ≡ front ++ encodes (all_chars ss)
  pub used : b.used ≡ length front

pub begins-after : (b : TextBuilding) (s : TextStep) (ss : List TextStep) → Begins b (s ∷ ss) → Begins (built b s) ss
begins-after b (texts.Token kind text) ss r = record {
  front = r.front ++ encodes text;
  text = r.text ∙ ap (λ (t : List ℕ). r.front ++ t) (encodes-append text (all_chars ss)) ∙ sym (append_assoc r.front (encodes text) (encodes (all_chars ss)));
  used = ap (λ (n : ℕ). n + length (encodes text)) r.used ∙ sym (length-append r.front (encodes text));
}
begins-after b (texts.Enter kind) ss r = record { front = r.front; text = r.text; used = r.used }
begins-after b texts.Exit ss r = record { front = r.front; text = r.text; used = r.used }
begins-after b (texts.Error message place) ss r = record { front = r.front; text = r.text; used = r.used }

-- so the next piece is the step's leaf
piece-own : (b : TextBuilding) (kind : ℕ) (text : List ℕ) (ss : List TextStep) → Begins b (texts.Token kind text ∷ ss) → piece b.text b.used (length (encodes text)) ≡ encodes text
piece-own b kind text ss r =
    let e = encodes text in
    let rest = e ++ encodes (all_chars ss) in
    ap (λ (n : ℕ). piece b.text n (length e)) r.used
    ∙ ap (λ (t : List ℕ). piece t (length r.front) (length e)) (r.text ∙ ap (λ (t : List ℕ). r.front ++ t) (encodes-append text (all_chars ss)))
    ∙ ap (take (length e)) (drop-append_seam r.front rest)
    ∙ take-append-le (length e) e (encodes (all_chars ss)) (omega arith)
    ∙ take-length e

word-built : (b : TextBuilding) (s : TextStep) (ss : List TextStep) → Begins b (s ∷ ss) → (built b s).building.word ≡ b.building.word ++ signs s
word-built b (texts.Token kind text) ss r = ap (λ (t : List ℕ). b.building.word ++ token (record { kind = kind; text = t }) ∷ []) (piece-own b kind text ss r)
word-built b (texts.Enter kind) ss r = refl
word-built b texts.Exit ss r = refl
word-built b (texts.Error message place) ss r = sym (append-nil b.building.word)

-- the word of a builder that takes all steps
taken-word : (old new : TreeSink) (ss : List TextStep) → Begins old.builder ss → TakesAll IsTaken old ss new → new.builder.building.word ≡ old.builder.building.word ++ all_signs ss
taken-word old new [] r h = ap (λ (t : TreeSink). t.builder.building.word) h ∙ sym (append-nil old.builder.building.word)
taken-word old new (s ∷ ss) r h =
    let next = h.0 in
    let later : Begins next.builder ss = subst (λ (b : TextBuilding). Begins b ss) (sym h.1.0.builder) (begins-after old.builder s ss r) in
    taken-word next new ss later h.1.1
    ∙ ap (λ (w : List Sign). w ++ all_signs ss) (ap (λ (b : TextBuilding). b.building.word) h.1.0.builder ∙ word-built old.builder s ss r)
    ∙ append_assoc old.builder.building.word (signs s) (all_signs ss)

-- the messages
taken-told : (old new : TreeSink) (ss : List TextStep) → TakesAll IsTaken old ss new → map message_of_error new.errors.items ≡ map message_of_error old.errors.items ++ all_heard ss
taken-told old new [] h = ap (λ (t : TreeSink). map message_of_error t.errors.items) h ∙ sym (append-nil (map message_of_error old.errors.items))
taken-told old new (s ∷ ss) h =
    let next = h.0 in
    taken-told next new ss h.1.1
    ∙ ap (λ (w : List Message). w ++ all_heard ss) h.1.0.errors
    ∙ append_assoc (map message_of_error old.errors.items) (heard s) (all_heard ss)

-- ---- the steps of a dressed tree

signs-append : (xs ys : List TextStep) → all_signs (xs ++ ys) ≡ all_signs xs ++ all_signs ys
signs-append [] ys = refl
signs-append (x ∷ xs) ys = ap (λ (w : List Sign). signs x ++ w) (signs-append xs ys) ∙ sym (append_assoc (signs x) (all_signs xs) (all_signs ys))

-- their word is the word of the tree's terms
signs-tree : (d : Dressed) → all_signs (text_steps d) ≡ word (terms_of d)
signs-tree dressed.End = refl
signs-tree (dressed.Leaf k t d) = ap (λ (w : List Sign). token (record { kind = k; text = encode_utf8_all t }) ∷ w) (signs-tree d)
signs-tree (dressed.Said m p d) = signs-tree d
signs-tree (dressed.Node k c d) =
    ap (λ (w : List Sign). opens k ∷ w)
    (signs-append (text_steps c) (texts.Exit ∷ text_steps d)
    ∙ ap (λ (w : List Sign). w ++ closes ∷ all_signs (text_steps d)) (signs-tree c)
    ∙ ap (λ (w : List Sign). word (terms_of c) ++ closes ∷ w) (signs-tree d))

-- their leaves are its text
chars-append : (xs ys : List TextStep) → all_chars (xs ++ ys) ≡ all_chars xs ++ all_chars ys
chars-append [] ys = refl
chars-append (x ∷ xs) ys = ap (λ (t : List ℕ). own_chars x ++ t) (chars-append xs ys) ∙ sym (append_assoc (own_chars x) (all_chars xs) (all_chars ys))

pub chars-tree : (d : Dressed) → all_chars (text_steps d) ≡ text_of d
chars-tree dressed.End = refl
chars-tree (dressed.Leaf k t d) = ap (λ (w : List ℕ). t ++ w) (chars-tree d)
chars-tree (dressed.Said m p d) = chars-tree d
chars-tree (dressed.Node k c d) =
    chars-append (text_steps c) (texts.Exit ∷ text_steps d)
    ∙ ap (λ (w : List ℕ). w ++ all_chars (text_steps d)) (chars-tree c)
    ∙ ap (λ (w : List ℕ). text_of c ++ w) (chars-tree d)

-- a builder over the text of the leaves, on which nothing was called
pub begins-whole : (f : forest.Forest) (ls : List leaves.Leaf) → Begins (text_given (encodes (joined ls))) (text_steps (dress_root f ls))
begins-whole f ls = record {
  front = [];
  text = ap (λ (t : List ℕ). encodes t) (sym (chars-tree (dress_root f ls) ∙ text-is-text f ls));
  used = refl;
}

-- the characters of a text are those of all its leaves
chars-of-leaves : (ls : List Lexed) (n : ℕ) (text : List ℕ) → n ≡ length ls → chars text ≡ flat_map (λ (l : Lexed). l.leaf.text) (slice_range ls 0 n) → chars text ≡ joined (leaves_of ls)
chars-of-leaves ls n text size e =
    let P : ℕ → Type 0 = λ m. chars text ≡ flat_map (λ (l : Lexed). l.leaf.text) (slice_range ls 0 m) in
    let whole : chars text ≡ flat_map (λ (l : Lexed). l.leaf.text) (slice_range ls 0 (length ls)) = subst P size e in
    let same : length ls - 0 ≡ length ls = omega arith in
    whole
    ∙ ap (λ (k : ℕ). flat_map (λ (l : Lexed). l.leaf.text) (take k ls)) same
    ∙ ap (λ (xs : List Lexed). flat_map (λ (l : Lexed). l.leaf.text) xs) (take-length ls)
    ∙ sym (all-texts ls)

-- so the text is their encoding,
pub text-of-leaves : (ls : List Lexed) (n : ℕ) (text : List ℕ) → IsUtf8 text → n ≡ length ls → chars text ≡ flat_map (λ (l : Lexed). l.leaf.text) (slice_range ls 0 n) → text ≡ encodes (joined (leaves_of ls))
text-of-leaves ls n text u size e = sym (encodes-chars text u) ∙ ap (λ (cs : List ℕ). encodes cs) (chars-of-leaves ls n text size e)

-- and they are in the range of characters.
pub leaves-in-range : (ls : List Lexed) (n : ℕ) (text : List ℕ) → IsUtf8 text → n ≡ length ls → chars text ≡ flat_map (λ (l : Lexed). l.leaf.text) (slice_range ls 0 n) → scalars (joined (leaves_of ls)) ≡ true
leaves-in-range ls n text u size e = ap (λ (cs : List ℕ). scalars cs) (sym (chars-of-leaves ls n text size e)) ∙ scalars-chars text u

-- a node dressed with a text is one node
rooted-terms : (f : forest.Forest) (ls : List leaves.Leaf) → IsRooted f → word (terms_of (dress_root f ls)) ≡ words (Node (root_of (terms_of (dress_root f ls))) ∷ [])
unfolding dress_root root close_node open_node
rooted-terms forest.End ls h = absurd h
rooted-terms (forest.Leaf k n f) ls h = absurd h
rooted-terms (forest.Said m f) ls h = absurd h
rooted-terms (forest.ErrorLeaf m k f) ls h = absurd h
rooted-terms (forest.Node k c f) ls h = refl
rooted-terms (forest.Float e c f) ls h = refl

-- Over the text of the leaves, the word of what the steps of a rooted tree make is that of its root.
word-of-root :
    (old new : TreeSink) (f : forest.Forest) (ls : List leaves.Leaf) → old.builder ≡ text_given (encodes (joined ls)) → IsRooted f → TakesAll IsTaken old (text_steps (dress_root f ls)) new → new.builder.building.word ≡ words (Node (root_of (terms_of (dress_root f ls))) ∷ [])
word-of-root old new f ls start rooted h =
    let begins : Begins old.builder (text_steps (dress_root f ls)) = subst (λ (b : TextBuilding). Begins b (text_steps (dress_root f ls))) (sym start) (begins-whole f ls) in
    taken-word old new (text_steps (dress_root f ls)) begins h
    ∙ ap (λ (b : TextBuilding). b.building.word ++ all_signs (text_steps (dress_root f ls))) start
    ∙ signs-tree (dress_root f ls)
    ∙ rooted-terms f ls rooted

-- So a tree with this word is the root,
root-is : (t u : Tree) → words (Node t ∷ []) ≡ words (Node u ∷ []) → t ≡ u
root-is t u e = let same : (Node t ∷ []) ≡ (Node u ∷ []) = words-injective (Node t ∷ []) (Node u ∷ []) e in cc

-- and the messages are those that stand in it.
told-all :
    (old new : TreeSink) (d : Dressed) → old.errors.items ≡ [] → TakesAll IsTaken old (text_steps d) new → map message_of_error new.errors.items ≡ map of_grammar (sayings_of d)
told-all old new d start h =
    taken-told old new (text_steps d) h ∙ ap (λ (es : List SyntaxError). map message_of_error es ++ all_heard (text_steps d)) start ∙ heard-tree d

abbrev Takes : TreeSink → TreeSink → List Step → List leaves.Leaf → Type 0
Takes old new ss ls = (f : forest.Forest) → IsRooted f → ss ≡ steps f → fits ss ls ≡ true → TakesAll IsTaken old (text_steps (dress_root f ls)) new

takes-all : (old new : TreeSink) (ss : List Step) (ls : List leaves.Leaf) (f : forest.Forest) → Takes old new ss ls → AreStepsOf ss ls f → TakesAll IsTaken old (text_steps (dress_root f ls)) new
takes-all old new ss ls f h a = h f a.rooted a.are (ap (λ (xs : List Step). fits xs ls) a.are ∙ a.fit)

-- what is finished after all steps is the tree, with its messages
pub is-built :
    (old new : TreeSink) (ss : List Step) (ls : List leaves.Leaf) (root : Tree) → old.builder ≡ text_given (encodes (joined ls)) → old.errors.items ≡ [] → Takes old new ss ls → new.builder.building.word ≡ words (Node root ∷ []) → IsBuilt ss ls root new.errors.items
is-built old new ss ls root start silent h word = record {
  root_is = λ f a. root-is root (root_of (terms_of (dress_root f ls))) (sym word ∙ word-of-root old new f ls start a.rooted (takes-all old new ss ls f h a));
  errors_are = λ f a. told-all old new (dress_root f ls) silent (takes-all old new ss ls f h a);
}

-- and it can be finished
pub is-whole :
    (old new : TreeSink) (ss : List Step) (ls : List leaves.Leaf) (t : IsTreeOf ss ls) → old.builder ≡ text_given (encodes (joined ls)) → Takes old new ss ls → new.builder.building.word ≡ words (Node (root_of (terms_of (dress_root t.forest ls))) ∷ [])
is-whole old new ss ls t start h = word-of-root old new t.forest ls start t.steps_of.rooted (takes-all old new ss ls t.forest h t.steps_of)
