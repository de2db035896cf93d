-- Words: a list of terms, written out as the calls that build it, and read back from them.
use Rattle.std.specs.Prelude.{◌≡◌, ℕ, List, [], ◌∷◌, ◌++◌, refl}
use Rattle.std.proofs.Common.{ap, ◌∙◌, sym, append_assoc}
use Rattle.std.proofs.lemmas.List.{append-nil}
use Rattle.rowan_green.specs.Leaf.{Leaf}
use Rattle.rowan_green.specs.Forest.{Forest, empty, node, leaf}
use Rattle.rowan_green.specs.Term.{Term, terms, forest_of, terms-forest_of, forest_of-terms, tree_of}
use Rattle.rowan_green.specs.declared.utility_types.NodeOrToken.TheVariants.{Node, Token}

-- a node of this kind opens; a leaf; the innermost open node closes
pub data Sign : Type 0 where
  opens : ℕ → Sign
  token : Leaf → Sign
  closes : Sign

-- the word of a forest: each node opens, has the word of its children, and closes
abbrev pub word : Forest → List Sign
word empty = []
word (node k f r) = opens k ∷ (word f ++ closes ∷ word r)
word (leaf l r) = token l ∷ word r

-- the word of a list of terms
abbrev pub words : List Term → List Sign
words es = word (forest_of es)

-- what a word that may leave nodes open has built: the terms outside all nodes, and in each open node, outermost first, its kind and its children
pub data Partial : Type 0 where
  outside : List Term → Partial
  inside : Partial → ℕ → List Term → Partial

-- one more term in the innermost open node
abbrev pub with_term : Partial → Term → Partial
with_term (outside es) x = outside (es ++ x ∷ [])
with_term (inside p k es) x = inside p k (es ++ x ∷ [])

-- the innermost open node is a term of the next one; with none open nothing changes
abbrev pub closed : Partial → Partial
closed (outside es) = outside es
closed (inside p k es) = with_term p (Node (tree_of k es))

-- what is built after these signs too
abbrev pub read_from : Partial → List Sign → Partial
read_from p [] = p
read_from p (opens k ∷ w) = read_from (inside p k []) w
read_from p (token l ∷ w) = read_from (with_term p (Token l)) w
read_from p (closes ∷ w) = read_from (closed p) w

-- what a word has built
abbrev pub read : List Sign → Partial
read w = read_from (outside []) w

-- the children of the innermost open node, or the terms outside where none is open
abbrev pub innermost : Partial → List Term
innermost (outside es) = es
innermost (inside p k es) = es

-- these terms too
abbrev pub with_terms : Partial → List Term → Partial
with_terms p [] = p
with_terms p (x ∷ xs) = with_terms (with_term p x) xs

pub read_from-append : (p : Partial) (v w : List Sign) → read_from p (v ++ w) ≡ read_from (read_from p v) w
read_from-append p [] w = refl
read_from-append p (opens k ∷ v) w = read_from-append (inside p k []) v w
read_from-append p (token l ∷ v) w = read_from-append (with_term p (Token l)) v w
read_from-append p (closes ∷ v) w = read_from-append (closed p) v w

pub with_terms-outside : (es xs : List Term) → with_terms (outside es) xs ≡ outside (es ++ xs)
with_terms-outside es [] = ap outside (sym (append-nil es))
with_terms-outside es (x ∷ xs) = with_terms-outside (es ++ x ∷ []) xs ∙ ap outside (append_assoc es (x ∷ []) xs)

pub with_terms-inside : (p : Partial) (k : ℕ) (es xs : List Term) → with_terms (inside p k es) xs ≡ inside p k (es ++ xs)
with_terms-inside p k es [] = ap (inside p k) (sym (append-nil es))
with_terms-inside p k es (x ∷ xs) = with_terms-inside p k (es ++ x ∷ []) xs ∙ ap (inside p k) (append_assoc es (x ∷ []) xs)

-- the word of a forest builds its terms
read_from-word : (p : Partial) (f : Forest) (w : List Sign) → read_from p (word f ++ w) ≡ read_from (with_terms p (terms f)) w
read_from-word p empty w = refl
read_from-word p (node k f r) w =
    ap (λ v. read_from (inside p k []) v) (append_assoc (word f) (closes ∷ word r) w)
    ∙ read_from-word (inside p k []) f (closes ∷ (word r ++ w))
    ∙ ap (λ q. read_from (closed q) (word r ++ w)) (with_terms-inside p k [] (terms f))
    ∙ ap (λ g. read_from (with_term p (Node (record { kind = k; forest = g }))) (word r ++ w)) (forest_of-terms f)
    ∙ read_from-word (with_term p (Node (record { kind = k; forest = f }))) r w
read_from-word p (leaf l r) w = read_from-word (with_term p (Token l)) r w

-- the word of a list of terms builds these terms
pub read_from-words : (p : Partial) (es : List Term) → read_from p (words es) ≡ with_terms p es
read_from-words p es =
    ap (read_from p) (sym (append-nil (words es)))
    ∙ read_from-word p (forest_of es) []
    ∙ ap (with_terms p) (terms-forest_of es)

pub words-append : (xs ys : List Term) → words (xs ++ ys) ≡ words xs ++ words ys
words-append [] ys = refl
words-append (Node t ∷ xs) ys =
    ap (λ w. opens t.kind ∷ (word t.forest ++ closes ∷ w)) (words-append xs ys)
    ∙ ap (λ w. opens t.kind ∷ w) (sym (append_assoc (word t.forest) (closes ∷ words xs) (words ys)))
words-append (Token l ∷ xs) ys = ap (λ w. token l ∷ w) (words-append xs ys)

-- a word is that of one list of terms alone
pub words-injective : (es xs : List Term) → words es ≡ words xs → es ≡ xs
words-injective es xs e =
    ap innermost
    (sym (read_from-words (outside []) es ∙ with_terms-outside [] es) ∙ ap read e ∙ (read_from-words (outside []) xs ∙ with_terms-outside [] xs))
