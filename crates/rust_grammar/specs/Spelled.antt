-- Over which tokens the leaves of a forest stand.
use Rattle.std.specs.Prelude.{ℕ, ◌==◌, Bool, true, false, not, ◌&&◌, ◌||◌, List, [], ◌∷◌, length, drop, Option, Some, None, if◌then◌else◌}
use Rattle.parser_input.specs.Kinds.{FLOAT_NUMBER, PIPE_GT}
use Rattle.parser_input.specs.Input.{Token}
use Rattle.parser_events.specs.Forest as forest
use Rattle.parser_events.specs.Forest.{Forest}
use Rattle.rust_grammar.specs.Rule.{Spelling}
use Rattle.rust_grammar.specs.Words.{'dots', 'dots_eq', '::', '==', '=>', '!=', '->', '<=', '>=', '&&', '||', '|>', '<<', '>>', '+=', '-=', '*=', '/=', '%=', '&=', '|=', '^=', '<<=', '>>='}

-- the marks of several characters
unfoldable pub marks : List Spelling
marks = 'dots' ∷ 'dots_eq' ∷ '::' ∷ '==' ∷ '=>' ∷ '!=' ∷ '->' ∷ '<=' ∷ '>=' ∷ '&&' ∷ '||' ∷ '|>' ∷ '<<' ∷ '>>' ∷ '+=' ∷ '-=' ∷ '*=' ∷ '/=' ∷ '%=' ∷ '&=' ∷ '|=' ∷ '^=' ∷ '<<=' ∷ '>>=' ∷ []

-- tokens of these kinds are next, and each but the last touches the one after it
unfoldable pub are_next : List ℕ → List Token → Bool
are_next [] ts = true
are_next (k ∷ ks) [] = false
are_next (k ∷ []) (t ∷ ts) = t.kind == k
are_next (k ∷ l ∷ ks) (t ∷ ts) = t.kind == k && t.joint && are_next (l ∷ ks) ts

-- a token of this kind is next
unfoldable pub is_token : ℕ → List Token → Bool
is_token kind [] = false
is_token kind (t ∷ ts) = t.kind == kind

-- the next token is of this contextual kind
unfoldable pub is_contextual : ℕ → List Token → Bool
is_contextual kind [] = false
is_contextual kind (t ∷ ts) = t.contextual == kind

-- a word is next that is a contextual keyword of this kind; `|>` is no word
unfoldable pub is_contextual_word : ℕ → List Token → Bool
is_contextual_word kind ts = is_contextual kind ts && not (kind == PIPE_GT)

-- the next token is of the contextual kind that is asked, if one is
unfoldable pub has_contextual : Option ℕ → List Token → Bool
has_contextual None ts = true
has_contextual (Some kind) ts = is_contextual kind ts

-- one of these spellings is of this kind and of `count` tokens, and they are next
unfoldable pub is_one_of : List Spelling → (kind count : ℕ) → List Token → Bool
is_one_of [] kind count ts = false
is_one_of (x ∷ xs) kind count ts = (x.kind == kind && length x.parts == count && (has_contextual x.contextual ts && are_next x.parts ts)) || is_one_of xs kind count ts

-- A leaf of this kind over `count` tokens is spelled here: one token of its kind or a contextual keyword, or a mark.
unfoldable pub is_spelled : (kind count : ℕ) → List Token → Bool
is_spelled kind count ts = (count == 1 && (is_token kind ts || is_contextual_word kind ts)) || is_one_of marks kind count ts

-- a float is next that ends in a dot just where this says so; it is joint where it does not
unfoldable pub is_float : (ends_in_dot : Bool) → List Token → Bool
is_float ends_in_dot [] = false
is_float ends_in_dot (t ∷ ts) = t.kind == FLOAT_NUMBER && (if ends_in_dot then not t.joint else t.joint)

-- the tokens without the first `count`, if this holds of them
unfoldable pub drop_if : Bool → ℕ → List Token → Option (List Token)
drop_if holds count ts = if holds then Some (drop count ts) else None

unfoldable pub then_after : Option (List Token) → (List Token → Option (List Token)) → Option (List Token)
then_after None more = None
then_after (Some ts) more = more ts

-- The tokens after those of a forest: its leaves stand over the tokens one after another, and each is spelled there.
unfoldable pub tokens_after : Forest → List Token → Option (List Token)
tokens_after forest.End ts = Some ts
tokens_after (forest.Leaf kind count f) ts = then_after (drop_if (is_spelled kind count ts) count ts) (tokens_after f)
tokens_after (forest.Said message f) ts = tokens_after f ts
tokens_after (forest.ErrorLeaf message kind f) ts = then_after (drop_if (is_token kind ts) 1 ts) (tokens_after f)
tokens_after (forest.Node kind children f) ts = then_after (tokens_after children ts) (tokens_after f)
tokens_after (forest.Float ends_in_dot receiver f) ts =
    then_after (tokens_after receiver ts) (λ us. then_after (drop_if (is_float ends_in_dot us) 1 us) (tokens_after f))
