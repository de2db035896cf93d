-- Paths: one of one word takes that word; one without arguments ends where no further segment begins.
use Rattle.std.proofs.Common.{◌≡◌, ℕ, ◌<◌, Bool, true, false, not, ◌==◌, List, [], ◌∷◌, length, drop, refl, sym, ap, subst, ◌∙◌, arith, if◌then◌else◌}
use Rattle.std.proofs.lemmas.Bool.{eqb-true, ltb-true}
use Rattle.std.proofs.lemmas.List.{length-drop}
use Rattle.parser_input.specs.Kinds.{COLON, COLON2, BANG, IDENT, NAME_REF, PATH, PATH_SEGMENT}
use Rattle.parser_input.specs.Input.{Token}
use Rattle.parser_events.specs.Forest.{Forest, Message, Expected}
use Rattle.rust_grammar.specs.Rule.{name_ref, path, expr_path, Rule, Look, Either, Not, Nothing, One, Then, Opt, Star, Want, When, Unless, begins, passes, is_silent, from_start, there_at}
use Rattle.rust_grammar.specs.Meaning.{Reading, read, meaning, sees, ahead, look_of, leaf, fresh, node, wrapped, after}
use Rattle.rust_grammar.specs.Notation.{◌▸◌, ⁅◌⁆, ◌!, ◌⟨◌⟩, ◌<⟨◌⟩, ◌before◌, row, one_of}
use Rattle.rust_grammar.specs.Words.{'::', '<'}
use Rattle.rust_grammar.specs.Calls.{Ref, GenericArgs}
use Rattle.rust_grammar.specs.Shared.{colons_before_more}
use Rattle.rust_grammar.specs.Paths.{paths}
use Rattle.rust_grammar.specs.Types.{types}
use Rattle.rust_grammar.specs.Patterns.{patterns}
use Rattle.rust_grammar.specs.Expressions.{expressions}
use Rattle.rust_grammar.specs.Statements.{statements}
use Rattle.rust_grammar.specs.Items.{items}
use Rattle.rust_grammar.specs.Whole.{rule, whole}
use Rattle.rust_grammar.proofs.WholeTable.{whole-means, whole-begins}
use Rattle.rust_grammar.proofs.Known.{token-left, both-if-l, both-if-r, if-first}
use Rattle.rust_grammar.proofs.Elsewhere.{from_start-seen}
use Rattle.rust_grammar.proofs.Spelling.{counts}
use Rattle.rust_grammar.proofs.Spelled.{counted}
use Rattle.rust_grammar.proofs.Shrinks.{shrinks, turns-end, no-turns}

-- the word of a segment is one token
name_ref-takes : (c : Bool) (s : Reading) → (meaning whole name_ref c s).rest ≡ drop 1 s.rest
unfolding counts rule items statements expressions patterns types paths
name_ref-takes c s = ap (λ (u : Reading). u.rest) (whole-means name_ref c s) ∙ counted (look_of whole) (meaning whole) (rule name_ref) 1 c s refl

next-after : (ts : List Token) → ahead 0 (drop 1 ts) ≡ ahead 1 ts
unfolding ahead
next-after [] = refl
next-after (t ∷ ts) = refl

-- a path's segment with such arguments, and one more segment
abbrev first_segment : Rule → Rule
first_segment args = PATH ⟨ PATH_SEGMENT ⟨ ⁅ One '::' ⁆ ▸ Ref ! ▸ args ⟩ ⟩

abbrev next_segment : Rule → Rule
next_segment args = Unless colons_before_more (PATH <⟨ One '::' ▸ (PATH_SEGMENT ⟨ Ref ▸ args ⟩) ! ⟩)

abbrev expression_args : Rule
expression_args = ⁅ When ('::' before '<') GenericArgs ⁆

-- what a rule gives
abbrev pub gives : Bool → Rule → Reading → Reading
gives c a s = read (look_of whole) (meaning whole) c a s

skipped : (a : Rule) (c : Bool) (s : Reading) → sees c s (begins (look_of whole) a) ≡ false → gives c (Opt a) s ≡ s
unfolding read
skipped a c s e = rw e refl

wanted-there : (a : Rule) (m : Message) (c : Bool) (s : Reading) → sees c s (begins (look_of whole) a) ≡ true → gives c (Want a m) s ≡ gives c a s
unfolding read
wanted-there a m c s e = rw e refl

no-more : (a : Rule) (c : Bool) (s : Reading) → sees c s (begins (look_of whole) a) ≡ false → gives c (Star a) s ≡ s
unfolding read
no-more a c s e = no-turns (length s.rest) (λ t. sees c t (begins (look_of whole) a)) (read (look_of whole) (meaning whole) c a) s e

then-is : (a b : Rule) (c : Bool) (s : Reading) → (gives c (Then a b) s).rest ≡ (gives c b (gives c a s)).rest
unfolding read
then-is a b c s = refl

leaf-rest : (k n : ℕ) (s : Reading) → length (leaf k n s).rest ≡ length (drop n s.rest)
unfolding leaf
leaf-rest k n s = refl

pub star-ends : (a : Rule) (c : Bool) (s : Reading) → ((v : Reading) → sees c v (begins (look_of whole) a) ≡ true → length (gives c a v).rest < length v.rest) → sees c (gives c (Star a) s) (begins (look_of whole) a) ≡ false
unfolding read
star-ends a c s each = turns-end (length s.rest) (λ t. sees c t (begins (look_of whole) a)) (read (look_of whole) (meaning whole) c a) s each (omega arith)

ends-so : (c : Bool) (w : Reading) (v : Forest) → sees c w (begins (look_of whole) (next_segment Nothing)) ≡ false → sees c (record { given = v; rest = w.rest }) (Either (Not (there_at 0 (COLON ∷ COLON ∷ []))) colons_before_more) ≡ true
unfolding sees begins passes is_silent there_at row one_of
ends-so c w v e = either-ends (sees c w colons_before_more) (sees c w (there_at 0 (COLON ∷ COLON ∷ []))) e
  where
    either-ends : (a b : Bool) → (if not a then b else false) ≡ false → (if not b then true else a) ≡ true
    either-ends true true e = refl
    either-ends true false e = refl
    either-ends false true e = sym e
    either-ends false false e = refl

-- a kind is another
other-kind : (n i j : ℕ) → (n == i) ≡ true → (i == j) ≡ false → (n == j) ≡ false
other-kind n i j e d = ap (λ (m : ℕ). m == j) (eqb-true n i e) ∙ d

no-colons : (c : Bool) (s : Reading) → ((ahead 0 s.rest).kind == COLON) ≡ false → sees c s (there_at 0 (COLON ∷ COLON ∷ [])) ≡ false
unfolding sees there_at
no-colons c s e = rw e refl

no-generics : (c : Bool) (s : Reading) → ((ahead 0 s.rest).kind == COLON) ≡ false → sees c s ('::' before '<') ≡ false
unfolding sees there_at row
no-generics c s e = rw e refl

no-segment : (args : Rule) (c : Bool) (s : Reading) → ((ahead 0 s.rest).kind == COLON) ≡ false → sees c s (begins (look_of whole) (next_segment args)) ≡ false
unfolding sees begins passes is_silent
no-segment args c s e = and-false (not (sees c s colons_before_more)) (sees c s (there_at 0 (COLON ∷ COLON ∷ []))) (no-colons c s e)
  where
    and-false : (a b : Bool) → b ≡ false → (if a then b else false) ≡ false
    and-false true b e = e
    and-false false b e = refl

word-begins : (c : Bool) (s : Reading) → ((ahead 0 s.rest).kind == IDENT) ≡ true → sees c s (look_of whole name_ref) ≡ true
unfolding sees begins from_start there_at rule items statements expressions patterns types paths
word-begins c s e = ap (λ (l : Look). sees c s l) (whole-begins name_ref) ∙ if-first ((ahead 0 s.rest).kind == IDENT) _ e

-- the first segment of a word before a `!` is that word
word-segment : (c : Bool) (s : Reading) → ((ahead 0 s.rest).kind == IDENT) ≡ true → ((ahead 1 s.rest).kind == BANG) ≡ true → (gives c (first_segment expression_args) s).rest ≡ drop 1 s.rest
unfolding read fresh node after begins
word-segment c s e d =
    let f = fresh (fresh s) in
    let w = gives c Ref f in
    let rest : w.rest ≡ drop 1 s.rest = name_ref-takes c (fresh f) in
    let colons : gives c ⁅ One '::' ⁆ f ≡ f = skipped (One '::') c f (no-colons c f (other-kind (ahead 0 s.rest).kind IDENT COLON e refl)) in
    let word : gives c (Ref !) f ≡ w = wanted-there Ref (Expected NAME_REF) c f (from_start-seen c f (look_of whole name_ref) ∙ word-begins c (fresh f) e) in
    let kind : ((ahead 0 w.rest).kind == BANG) ≡ true = ap (λ (ts : List Token). (ahead 0 ts).kind == BANG) rest ∙ ap (λ (t : Token). t.kind == BANG) (next-after s.rest) ∙ d in
    let none : gives c expression_args w ≡ w = skipped (When ('::' before '<') GenericArgs) c w (no-generics c w (other-kind (ahead 0 w.rest).kind BANG COLON kind refl)) in
    let all : gives c (⁅ One '::' ⁆ ▸ Ref ! ▸ expression_args) f ≡ w = ap (λ (u : Reading). gives c expression_args (gives c (Ref !) u)) colons ∙ ap (λ (u : Reading). gives c expression_args u) word ∙ none in
    ap (λ (u : Reading). u.rest) all ∙ rest

-- So is the path.
pub word-path : (c : Bool) (s : Reading) → ((ahead 0 s.rest).kind == IDENT) ≡ true → ((ahead 1 s.rest).kind == BANG) ≡ true → (meaning whole expr_path c s).rest ≡ drop 1 s.rest
unfolding rule items statements expressions patterns types paths
word-path c s e d =
    let u = gives c (first_segment expression_args) s in
    let rest : u.rest ≡ drop 1 s.rest = word-segment c s e d in
    let kind : ((ahead 0 u.rest).kind == BANG) ≡ true = ap (λ (ts : List Token). (ahead 0 ts).kind == BANG) rest ∙ ap (λ (t : Token). t.kind == BANG) (next-after s.rest) ∙ d in
    let last : gives c (Star (next_segment expression_args)) u ≡ u = no-more (next_segment expression_args) c u (no-segment expression_args c u (other-kind (ahead 0 u.rest).kind BANG COLON kind refl)) in
    ap (λ (v : Reading). v.rest) (whole-means expr_path c s) ∙ then-is (first_segment expression_args) (Star (next_segment expression_args)) c s ∙ ap (λ (v : Reading). v.rest) last ∙ rest

-- a further segment takes its `::`
segment-takes : (c : Bool) (s : Reading) → sees c s (begins (look_of whole) (next_segment Nothing)) ≡ true → length (gives c (next_segment Nothing) s).rest < length s.rest
unfolding read wrapped begins passes is_silent sees there_at
segment-takes c s e =
    let there = both-if-r (not (sees c s colons_before_more)) _ e in
    let kind = both-if-l ((ahead 0 s.rest).kind == COLON) _ there in
    let some = ltb-true 0 (length s.rest) (token-left COLON s.rest refl kind) in
    let v = leaf COLON2 2 s in
    let rest : length v.rest ≡ length (drop 2 s.rest) = leaf-rest COLON2 2 s in
    omega (arith, some, rest, length-drop 2 s.rest, shrinks ((PATH_SEGMENT ⟨ Ref ▸ Nothing ⟩) !) c v)

-- A path without arguments ends where no segment is next.
pub path-ends : (c : Bool) (s : Reading) (v : Forest) → sees c (record { given = v; rest = (meaning whole path c s).rest }) (Either (Not (there_at 0 (COLON ∷ COLON ∷ []))) colons_before_more) ≡ true
unfolding rule items statements expressions patterns types paths
path-ends c s v =
    let u = gives c (first_segment Nothing) s in
    let w = gives c (Star (next_segment Nothing)) u in
    let end : sees c w (begins (look_of whole) (next_segment Nothing)) ≡ false = star-ends (next_segment Nothing) c u (λ t e. segment-takes c t e) in
    let same : (meaning whole path c s).rest ≡ w.rest = ap (λ (v : Reading). v.rest) (whole-means path c s) ∙ then-is (first_segment Nothing) (Star (next_segment Nothing)) c s in
    subst (λ (ts : List Token). sees c (record { given = v; rest = ts }) (Either (Not (there_at 0 (COLON ∷ COLON ∷ []))) colons_before_more) ≡ true) (sym same) (ends-so c w v end)
