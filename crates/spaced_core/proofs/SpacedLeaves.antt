-- The leaves of a text whose parts are spaced leaves.
use Rattle.std.proofs.Common.{◌≡◌, ℕ, Bool, true, false, not, ◌||◌, ◌==◌, List, [], ◌∷◌, ◌++◌, append_assoc, append-nil, drop, map, chars, refl, sym, ◌∙◌, ap, subst, inl, inr, if◌then◌else◌}
use Rattle.std.specs.List.{list_all}
use Rattle.std.specs.Str.{IsUtf8}
use Rattle.std.proofs.lemmas.Bool.{and_from, and_parts, cases_Bool}
use Rattle.std.proofs.lemmas.List.{map-append}
use Rattle.std.proofs.lemmas.List.Folds.{list_all-append}
use Rattle.std.proofs.lemmas.List.Sums.{AllPass-from_list_all}
use Rattle.rustc_lexer.specs.Characters.{is_whitespace}
use Rattle.rustc_lexer.specs.Scan.{peek}
use Rattle.rustc_lexer.specs.Lexeme.{lexeme}
use Rattle.rustc_lexer.specs.Tokens as lexer
use Rattle.rustc_lexer.specs.Tokens.{Lexeme, tokens}
use Rattle.rustc_lexer.proofs.Cutting.{tokens-cons, tokens-joined}
use Rattle.rowan_green.specs.Leaf as green
use Rattle.parser_input.specs.Input.{touches}
use Rattle.parser_input.specs.Kind as kind
use Rattle.parser_input.specs.Kinds.{COMMENT, WHITESPACE}
use Rattle.parser_input.specs.Leaf.{Leaf, is_trivia, kind_of, leaf_of, leaves}
use Rattle.parser_input.specs.Lexed.{is_split}
use Rattle.parser_input.specs.Messages.{message_of}
use Rattle.parser_input.specs.declared.edition.Edition.{Edition}
use Rattle.parser_events.specs.Dress.{joined}
use Rattle.plain_names.specs.ClosedTokens.{is_closed}
use Rattle.plain_names.proofs.CalmLexeme.{space-ends}
use Rattle.spaced_core.specs.WellSpaced.{AreSpaced, IsSpelled, characters_of, is_parted, is_sound, is_space}
use Rattle.spaced_core.specs.SpacedText.{AreRead, IsLeaf, nothing, one, solid, space, text_of}
use Rattle.spaced_core.proofs.Sound.{all-closed, is_solid}
use Rattle.spaced_core.proofs.Spaces.{space-first, space-tokens, space_token}
use Rattle.spaced_core.proofs.Characters.{all-solid, are_solid, solid-kind}

-- the leaves of tokens
abbrev pub leaves_by : Edition → List Lexeme → List Leaf
leaves_by edition ts = map (leaf_of edition) ts

-- A text reads as these leaves of a tree, and each of its tokens is one leaf without a message.
pub record Goes (edition : Edition) (ls : List green.Leaf) (text : List ℕ) : Type 0 where
  pub reads : AreRead edition ls (leaves_by edition (tokens text))
  pub sound : list_all (is_sound edition) (tokens text) ≡ true

empty-goes : (edition : Edition) → Goes edition [] []
unfolding tokens lexer.cut
empty-goes edition = record { reads = nothing; sound = refl }

-- ---- whitespace

space-kind : (edition : Edition) (t : List ℕ) → is_trivia (leaf_of edition (space_token t)) ≡ true
unfolding leaf_of is_trivia kind_of
space-kind edition t = refl

space-sound : (edition : Edition) (t : List ℕ) (ts : List Lexeme) → list_all (is_sound edition) (space_token t ∷ ts) ≡ list_all (is_sound edition) ts
unfolding is_sound is_split message_of
space-sound edition t ts = refl

space-goes : (edition : Edition) (ls : List green.Leaf) (c : ℕ) (ws rest : List ℕ) → is_whitespace c ≡ true → list_all is_whitespace ws ≡ true → is_whitespace (peek 0 rest) ≡ false → Goes edition ls rest → Goes edition ls (c ∷ ws ++ rest)
space-goes edition ls c ws rest white all ends g =
    let is = space-tokens c ws rest white all ends in
    record {
      reads = subst (λ (ts : List Lexeme). AreRead edition ls (leaves_by edition ts)) (sym is) (space (leaf_of edition (space_token (c ∷ ws))) (space-kind edition (c ∷ ws)) g.reads);
      sound = ap (list_all (is_sound edition)) is ∙ space-sound edition (c ∷ ws) (tokens rest) ∙ g.sound;
    }

spaces-go : (edition : Edition) (ls : List green.Leaf) (ws rest : List ℕ) → list_all is_whitespace ws ≡ true → is_whitespace (peek 0 rest) ≡ false → Goes edition ls rest → Goes edition ls (ws ++ rest)
spaces-go edition ls [] rest all ends g = g
spaces-go edition ls (c ∷ ws) rest all ends g =
    let both = and_parts (is_whitespace c) (list_all is_whitespace ws) all in
    space-goes edition ls c ws rest both.0 both.1 ends g

-- ---- a spelled leaf

-- the end of the text, or whitespace
abbrev pub begins_apart : List ℕ → Bool
begins_apart [] = true
begins_apart (c ∷ cs) = is_whitespace c

-- tokens end before it
ends-before : (text rest : List ℕ) → list_all (λ t. is_closed t.kind) (tokens text) ≡ true → begins_apart rest ≡ true → tokens (text ++ rest) ≡ tokens text ++ tokens rest
unfolding tokens lexer.cut
ends-before text [] closed h = ap tokens (append-nil text) ∙ sym (append-nil (tokens text))
ends-before text (c ∷ rest) closed h = space-ends text c rest h (AllPass-from_list_all (λ (t : Lexeme). is_closed t.kind) (tokens text) closed)

apart-leaves : (edition : Edition) (rest : List ℕ) → begins_apart rest ≡ true → touches (leaves_by edition (tokens rest)) ≡ false
unfolding tokens lexer.cut touches
apart-leaves edition [] h = refl
apart-leaves edition (c ∷ cs) h =
    ap (λ (ts : List Lexeme). touches (leaves_by edition ts)) (tokens-cons c cs)
    ∙ ap (λ (t : Lexeme). not (is_trivia (leaf_of edition t))) (space-first c cs h)
    ∙ ap not (space-kind edition _)

joined-leaves : (edition : Edition) (ts : List Lexeme) → joined (leaves_by edition ts) ≡ lexer.joined ts
unfolding joined leaf_of
joined-leaves edition [] = refl
joined-leaves edition (t ∷ ts) = ap (λ (cs : List ℕ). t.text ++ cs) (joined-leaves edition ts)

leaf-is : (edition : Edition) (l : green.Leaf) → IsUtf8 l.text → kind.is_trivia l.kind ≡ false → IsSpelled edition l.kind (chars l.text) → IsLeaf edition l (leaves edition (chars l.text))
unfolding leaves
leaf-is edition l utf8 none s = record {
  kinds = s.kinds;
  text = joined-leaves edition (tokens (chars l.text)) ∙ tokens-joined (chars l.text);
  utf8 = utf8;
  name = s.name;
  pipe = s.pipe;
  solid = none;
}

leaf-goes : (edition : Edition) (l : green.Leaf) (ls : List green.Leaf) (rest : List ℕ) → IsUtf8 l.text → kind.is_trivia l.kind ≡ false → IsSpelled edition l.kind (chars l.text) → begins_apart rest ≡ true → Goes edition ls rest → Goes edition (l ∷ ls) (chars l.text ++ rest)
unfolding leaves
leaf-goes edition l ls rest utf8 none s h g =
    let text = chars l.text in
    let own : is_solid l.kind ≡ true = ap not none in
    let kinds_solid : list_all is_solid (map (λ m. m.kind) (leaves edition text)) ≡ true = ap (list_all is_solid) s.kinds ∙ all-solid (characters_of l.kind) (solid-kind l.kind own) in
    let closed = all-closed edition (tokens text) s.sound kinds_solid in
    let is = ends-before text rest closed h in
    let both : leaves_by edition (tokens (text ++ rest)) ≡ leaves edition text ++ leaves_by edition (tokens rest) = ap (leaves_by edition) is ∙ map-append (leaf_of edition) (tokens text) (tokens rest) in
    record {
      reads = one l (leaves edition text) (leaves_by edition (tokens rest)) (leaf-is edition l utf8 none s) (apart-leaves edition rest h) g.reads both;
      sound = ap (list_all (is_sound edition)) is ∙ list_all-append (is_sound edition) (tokens text) (tokens rest) ∙ and_from _ _ s.sound g.sound;
    }

-- a spelled text begins with no whitespace
no-kinds : (edition : Edition) (k : ℕ) → is_solid k ≡ true → map (λ l. l.kind) (leaves edition []) ≡ characters_of k → ⊥
unfolding leaves tokens lexer.cut are_solid
no-kinds edition k own e = let z : false ≡ true = ap are_solid e ∙ solid-kind k own in cc

abbrev kinds_by : Edition → List Lexeme → List ℕ
kinds_by edition ts = map (λ l. l.kind) (leaves_by edition ts)

space-unsolid : (edition : Edition) (t : List ℕ) (ts : List Lexeme) → are_solid (kinds_by edition (space_token t ∷ ts)) ≡ false
unfolding are_solid leaf_of kind_of
space-unsolid edition t ts = refl

space-kinds : (edition : Edition) (c : ℕ) (cs : List ℕ) → is_whitespace c ≡ true → are_solid (map (λ l. l.kind) (leaves edition (c ∷ cs))) ≡ false
unfolding leaves
space-kinds edition c cs h =
    let rest = tokens (drop (lexeme (c ∷ cs)).taken (c ∷ cs)) in
    ap (λ (ts : List Lexeme). are_solid (kinds_by edition ts)) (tokens-cons c cs)
    ∙ ap (λ (t : Lexeme). are_solid (kinds_by edition (t ∷ rest))) (space-first c cs h)
    ∙ space-unsolid edition _ rest

pub spelled-first : (edition : Edition) (k : ℕ) (text : List ℕ) → is_solid k ≡ true → IsSpelled edition k text → (c : ℕ) × ((cs : List ℕ) × ((text ≡ c ∷ cs) × (is_whitespace c ≡ false)))
spelled-first edition k [] own s = absurd (no-kinds edition k own s.kinds)
spelled-first edition k (c ∷ cs) own s = elim (cases_Bool (is_whitespace c)) [
  | inr h ↦ (c, (cs, (refl, h)))
  | inl h ↦ let z : false ≡ true = sym (space-kinds edition c cs h) ∙ ap are_solid s.kinds ∙ solid-kind k own in absurd (cc)
]

first-peek : (text rest : List ℕ) → (c : ℕ) × ((cs : List ℕ) × ((text ≡ c ∷ cs) × (is_whitespace c ≡ false))) → is_whitespace (peek 0 (text ++ rest)) ≡ false
first-peek text rest f = ap (λ (t : List ℕ). is_whitespace (peek 0 (t ++ rest))) f.1.1.0 ∙ f.1.1.1

-- ---- leaves one after another

-- what follows a leaf that is no whitespace
rest-apart : (edition : Edition) (l : green.Leaf) (ls : List green.Leaf) → (l.kind == WHITESPACE) ≡ false → is_parted l ls ≡ true → AreSpaced edition ls → begins_apart (text_of ls) ≡ true
rest-apart edition l [] none parted s = refl
rest-apart edition l (m ∷ ls) none parted s =
    let white : (m.kind == WHITESPACE) ≡ true = ap (λ (b : Bool). b || (m.kind == WHITESPACE)) (sym none) ∙ parted in
    starts (chars m.text) (s.0.space white)
  where
    starts : (t : List ℕ) → is_space t ≡ true → begins_apart (t ++ text_of ls) ≡ true
    starts [] h = absurd (let z : false ≡ true = h in cc)
    starts (c ∷ cs) h = (and_parts (is_whitespace c) (list_all is_whitespace cs) h).0

pub space-all : (t : List ℕ) → is_space t ≡ true → list_all is_whitespace t ≡ true
space-all [] h = refl
space-all (c ∷ cs) h = h

pub white-trivia : (k : ℕ) → (k == WHITESPACE) ≡ true → kind.is_trivia k ≡ true
white-trivia k h = ap (λ (b : Bool). b || (k == COMMENT)) h

pub solid-none : (k : ℕ) → (k == WHITESPACE) ≡ false → (k == COMMENT) ≡ false → kind.is_trivia k ≡ false
solid-none k h g = ap (λ (b : Bool). b || (k == COMMENT)) h ∙ g

pub solid-skips : (l : green.Leaf) (ls : List green.Leaf) → kind.is_trivia l.kind ≡ true → solid (l ∷ ls) ≡ solid ls
solid-skips l ls h = ap (λ (b : Bool). if b then solid ls else l ∷ solid ls) h

pub solid-takes : (l : green.Leaf) (ls : List green.Leaf) → kind.is_trivia l.kind ≡ false → solid (l ∷ ls) ≡ l ∷ solid ls
solid-takes l ls h = ap (λ (b : Bool). if b then solid ls else l ∷ solid ls) h

end-white : is_whitespace (peek 0 []) ≡ false
unfolding is_whitespace
end-white = refl

-- spaced leaves after whitespace
leaves-go : (edition : Edition) (ls : List green.Leaf) (ws : List ℕ) → list_all is_whitespace ws ≡ true → AreSpaced edition ls → Goes edition (solid ls) (ws ++ text_of ls)
leaves-go edition [] ws all s = spaces-go edition [] ws [] all end-white (empty-goes edition)
leaves-go edition (l ∷ ls) ws all s = elim (cases_Bool (l.kind == WHITESPACE)) [
  | inl h ↦
      let text = chars l.text in
      let more : list_all is_whitespace (ws ++ text) ≡ true = list_all-append is_whitespace ws text ∙ and_from _ _ all (space-all text (s.0.space h)) in
      subst (λ (t : List ℕ). Goes edition (solid (l ∷ ls)) t) (append_assoc ws text (text_of ls))
      (subst (λ (xs : List green.Leaf). Goes edition xs ((ws ++ text) ++ text_of ls)) (sym (solid-skips l ls (white-trivia l.kind h))) (leaves-go edition ls (ws ++ text) more s.2))
  | inr h ↦
      let none = solid-none l.kind h s.0.no_comment in
      let spelled = s.0.spelled h in
      let next = leaves-go edition ls [] refl s.2 in
      let here = leaf-goes edition l (solid ls) (text_of ls) s.0.utf8 none spelled (rest-apart edition l ls h s.1 s.2) next in
      let first = first-peek (chars l.text) (text_of ls) (spelled-first edition l.kind (chars l.text) (ap not none) spelled) in
      subst (λ (xs : List green.Leaf). Goes edition xs (ws ++ (chars l.text ++ text_of ls))) (sym (solid-takes l ls none)) (spaces-go edition (l ∷ solid ls) ws (chars l.text ++ text_of ls) all first here)
]

pub spaced-go : (edition : Edition) (ls : List green.Leaf) → AreSpaced edition ls → Goes edition (solid ls) (text_of ls)
spaced-go edition ls s = leaves-go edition ls [] refl s

pub spaced-read : (edition : Edition) (ls : List green.Leaf) → AreSpaced edition ls → AreRead edition (solid ls) (leaves edition (text_of ls))
unfolding leaves
spaced-read edition ls s = (spaced-go edition ls s).reads
