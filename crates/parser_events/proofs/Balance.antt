-- Steps leave what they enter.
use Rattle.std.proofs.Common.{◌≡◌, ℕ, suc, true, false, List, [], ◌∷◌, ◌++◌, Some, refl, ap, sym, ◌∙◌, append_assoc, append-nil}
use Rattle.parser_input.specs.Kinds.{ERROR, FIELD_EXPR}
use Rattle.parser_events.specs.Forest as forest
use Rattle.parser_events.specs.Forest.{Forest}
use Rattle.parser_events.specs.Marked.{Marked, End, Leaf, Said, Node, Split, walk, marked}
use Rattle.parser_events.specs.Steps.{Step, Token, FloatSplit, Enter, Exit, Error, steps, level_after}

-- what is after balanced trees begins where they began
walk-then : (f : Marked) (level : ℕ) (ss : List Step) → level_after level (walk f ++ ss) ≡ level_after level ss
unfolding walk level_after
walk-then End level ss = refl
walk-then (Leaf k n f) level ss = walk-then f level ss
walk-then (Said m f) level ss = walk-then f level ss
walk-then (Node k c f) level ss =
    ap (level_after (suc level)) (append_assoc (walk c) (Exit ∷ walk f) ss)
    ∙ walk-then c (suc level) (Exit ∷ (walk f ++ ss))
    ∙ walk-then f level ss
walk-then (Split e c f) level ss =
    ap (level_after (suc level)) (append_assoc (walk c) (FloatSplit e ∷ walk f) ss)
    ∙ walk-then c (suc level) (FloatSplit e ∷ (walk f ++ ss))
    ∙ walk-then f level ss

pub walk-balanced : (f : Marked) (level : ℕ) → level_after level (walk f) ≡ Some level
unfolding level_after
walk-balanced f level = ap (level_after level) (sym (append-nil (walk f))) ∙ walk-then f level []

pub walk-marked : (f : Forest) → walk (marked f) ≡ steps f
unfolding walk marked steps
walk-marked forest.End = refl
walk-marked (forest.Leaf k n f) = ap (λ (ss : List Step). Token k n ∷ ss) (walk-marked f)
walk-marked (forest.Said m f) = ap (λ (ss : List Step). Error m ∷ ss) (walk-marked f)
walk-marked (forest.ErrorLeaf m k f) = ap (λ (ss : List Step). Enter ERROR ∷ Error m ∷ Token k 1 ∷ Exit ∷ ss) (walk-marked f)
walk-marked (forest.Node k c f) =
    ap (λ (ss : List Step). Enter k ∷ (walk (marked c) ++ Exit ∷ ss)) (walk-marked f)
    ∙ ap (λ (ss : List Step). Enter k ∷ (ss ++ Exit ∷ steps f)) (walk-marked c)
walk-marked (forest.Float true c f) =
    ap (λ (ss : List Step). Enter FIELD_EXPR ∷ (walk (marked c) ++ FloatSplit true ∷ ss)) (walk-marked f)
    ∙ ap (λ (ss : List Step). Enter FIELD_EXPR ∷ (ss ++ FloatSplit true ∷ steps f)) (walk-marked c)
walk-marked (forest.Float false c f) =
    ap (λ (ss : List Step). Enter FIELD_EXPR ∷ Enter FIELD_EXPR ∷ ss) (append_assoc (walk (marked c)) (FloatSplit false ∷ []) (Exit ∷ walk (marked f)))
    ∙ ap (λ (ss : List Step). Enter FIELD_EXPR ∷ Enter FIELD_EXPR ∷ (walk (marked c) ++ FloatSplit false ∷ Exit ∷ ss)) (walk-marked f)
    ∙ ap (λ (ss : List Step). Enter FIELD_EXPR ∷ Enter FIELD_EXPR ∷ (ss ++ FloatSplit false ∷ Exit ∷ steps f)) (walk-marked c)

pub steps-balanced : (f : Forest) (level : ℕ) → level_after level (steps f) ≡ Some level
steps-balanced f level = ap (level_after level) (sym (walk-marked f)) ∙ walk-balanced (marked f) level
