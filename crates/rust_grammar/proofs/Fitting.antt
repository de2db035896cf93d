-- The steps of a node that covers all tokens of a text in order fit its leaves.
use Rattle.std.proofs.Common.{◌≡◌, ℕ, suc, Bool, true, false, ◌&&◌, List, [], ◌∷◌, ◌++◌, drop, Some, refl, ap, sym, ◌∙◌, append_assoc}
use Rattle.parser_input.specs.Input.{Token, input}
use Rattle.parser_input.specs.Leaf.{Leaf}
use Rattle.parser_input.specs.declared.edition.Edition.{Edition}
use Rattle.parser_events.specs.Fits.{from_token, covers, leaves_root, has_one_root, fits, IsRooted}
use Rattle.parser_events.specs.Forest as forest
use Rattle.parser_events.specs.Forest.{Forest}
use Rattle.parser_events.specs.Steps as walk
use Rattle.parser_events.specs.Steps.{Step, steps}
use Rattle.rust_grammar.specs.Spelled.{is_token, is_spelled, is_float, drop_if, then_after, tokens_after}
use Rattle.rust_grammar.proofs.Covering.{Covers, after-some, dropped, leaf-stands, token-stands, float-stands, no-next}

covers-forest : (wide : Bool) (edition : Edition) (f : Forest) (ss : List Step) (ls : List Leaf) (us : List Token) → tokens_after f (input wide edition ls) ≡ Some us → Covers wide edition f ss ls us
unfolding tokens_after steps
covers-forest wide edition forest.End ss ls us e = record { rest = ls; tokens = cc; same = refl }
covers-forest wide edition (forest.Leaf k n f) ss ls us e =
    let first = after-some (drop_if (is_spelled k n (input wide edition ls)) n (input wide edition ls)) (tokens_after f) us e in
    let taken = dropped (is_spelled k n (input wide edition ls)) n (input wide edition ls) first.0 first.1.0 in
    let here = leaf-stands wide edition k n ls taken.0 in
    let more = covers-forest wide edition f ss (drop n (from_token ls)) us (ap (λ (ts : List Token). tokens_after f ts) (here.more ∙ taken.1) ∙ first.1.1) in
    record { rest = more.rest; tokens = more.tokens; same = rw here.unbroken more.same }
covers-forest wide edition (forest.Said m f) ss ls us e = let more = covers-forest wide edition f ss ls us e in record { rest = more.rest; tokens = more.tokens; same = more.same }
covers-forest wide edition (forest.ErrorLeaf m k f) ss ls us e =
    let first = after-some (drop_if (is_token k (input wide edition ls)) 1 (input wide edition ls)) (tokens_after f) us e in
    let taken = dropped (is_token k (input wide edition ls)) 1 (input wide edition ls) first.0 first.1.0 in
    let here = token-stands wide edition k ls taken.0 in
    let more = covers-forest wide edition f ss (drop 1 (from_token ls)) us (ap (λ (ts : List Token). tokens_after f ts) (here.more ∙ taken.1) ∙ first.1.1) in
    record { rest = more.rest; tokens = more.tokens; same = rw here.unbroken more.same }
covers-forest wide edition (forest.Node k c f) ss ls us e =
    let first = after-some (tokens_after c (input wide edition ls)) (tokens_after f) us e in
    let inside = covers-forest wide edition c (walk.Exit ∷ (steps f ++ ss)) ls first.0 first.1.0 in
    let more = covers-forest wide edition f ss inside.rest us (ap (λ (ts : List Token). tokens_after f ts) inside.tokens ∙ first.1.1) in
    record {
      rest = more.rest;
      tokens = more.tokens;
      same = ap (λ (t : List Step). covers t ls) (append_assoc (steps c) (walk.Exit ∷ steps f) ss) ∙ inside.same ∙ more.same;
    }
covers-forest wide edition (forest.Float true c f) ss ls us e =
    let first = after-some (tokens_after c (input wide edition ls)) (λ ts. then_after (drop_if (is_float true ts) 1 ts) (tokens_after f)) us e in
    let second = after-some (drop_if (is_float true first.0) 1 first.0) (tokens_after f) us first.1.1 in
    let taken = dropped (is_float true first.0) 1 first.0 second.0 second.1.0 in
    let inside = covers-forest wide edition c (walk.FloatSplit true ∷ (steps f ++ ss)) ls first.0 first.1.0 in
    let here = float-stands wide edition true inside.rest first.0 inside.tokens taken.0 in
    let more = covers-forest wide edition f ss (drop 1 (from_token inside.rest)) us (ap (λ (ts : List Token). tokens_after f ts) (here.1 ∙ taken.1) ∙ second.1.1) in
    let split : covers (walk.FloatSplit true ∷ (steps f ++ ss)) inside.rest ≡ covers (steps f ++ ss) (drop 1 (from_token inside.rest)) = rw here.0 refl in
    record {
      rest = more.rest;
      tokens = more.tokens;
      same = ap (λ (t : List Step). covers t ls) (append_assoc (steps c) (walk.FloatSplit true ∷ steps f) ss) ∙ inside.same ∙ split ∙ more.same;
    }
covers-forest wide edition (forest.Float false c f) ss ls us e =
    let first = after-some (tokens_after c (input wide edition ls)) (λ ts. then_after (drop_if (is_float false ts) 1 ts) (tokens_after f)) us e in
    let second = after-some (drop_if (is_float false first.0) 1 first.0) (tokens_after f) us first.1.1 in
    let taken = dropped (is_float false first.0) 1 first.0 second.0 second.1.0 in
    let inside = covers-forest wide edition c (walk.FloatSplit false ∷ walk.Exit ∷ (steps f ++ ss)) ls first.0 first.1.0 in
    let here = float-stands wide edition false inside.rest first.0 inside.tokens taken.0 in
    let more = covers-forest wide edition f ss (drop 1 (from_token inside.rest)) us (ap (λ (ts : List Token). tokens_after f ts) (here.1 ∙ taken.1) ∙ second.1.1) in
    let split : covers (walk.FloatSplit false ∷ walk.Exit ∷ (steps f ++ ss)) inside.rest ≡ covers (steps f ++ ss) (drop 1 (from_token inside.rest)) = rw here.0 refl in
    record {
      rest = more.rest;
      tokens = more.tokens;
      same = ap (λ (t : List Step). covers t ls) (append_assoc (steps c) (walk.FloatSplit false ∷ walk.Exit ∷ steps f) ss) ∙ inside.same ∙ split ∙ more.same;
    }

-- trees leave what they enter
stays : (f : Forest) (level : ℕ) (ss : List Step) → leaves_root level (steps f ++ ss) ≡ leaves_root level ss
unfolding steps
stays forest.End level ss = refl
stays (forest.Leaf k n f) level ss = stays f level ss
stays (forest.Said m f) level ss = stays f level ss
stays (forest.ErrorLeaf m k f) level ss = stays f level ss
stays (forest.Node k c f) level ss =
    ap (leaves_root (suc level)) (append_assoc (steps c) (walk.Exit ∷ steps f) ss) ∙ stays c (suc level) (walk.Exit ∷ (steps f ++ ss)) ∙ stays f level ss
stays (forest.Float true c f) level ss =
    ap (leaves_root (suc level)) (append_assoc (steps c) (walk.FloatSplit true ∷ steps f) ss) ∙ stays c (suc level) (walk.FloatSplit true ∷ (steps f ++ ss)) ∙ stays f level ss
stays (forest.Float false c f) level ss =
    ap (leaves_root (suc (suc level))) (append_assoc (steps c) (walk.FloatSplit false ∷ walk.Exit ∷ steps f) ss)
    ∙ stays c (suc (suc level)) (walk.FloatSplit false ∷ walk.Exit ∷ (steps f ++ ss))
    ∙ stays f level ss

one-root : (f : Forest) → IsRooted f → has_one_root (steps f) ≡ true
unfolding steps
one-root (forest.Node k c forest.End) r = stays c 0 (walk.Exit ∷ [])
one-root (forest.Float false c forest.End) r = stays c 1 (walk.FloatSplit false ∷ walk.Exit ∷ [])
one-root (forest.Node k c (forest.Leaf j n f)) r = absurd r
one-root (forest.Node k c (forest.Said m f)) r = absurd r
one-root (forest.Node k c (forest.ErrorLeaf m j f)) r = absurd r
one-root (forest.Node k c (forest.Node j d f)) r = absurd r
one-root (forest.Node k c (forest.Float b d f)) r = absurd r
one-root (forest.Float false c (forest.Leaf j n f)) r = absurd r
one-root (forest.Float false c (forest.Said m f)) r = absurd r
one-root (forest.Float false c (forest.ErrorLeaf m j f)) r = absurd r
one-root (forest.Float false c (forest.Node j d f)) r = absurd r
one-root (forest.Float false c (forest.Float b d f)) r = absurd r
one-root (forest.Float true c f) r = absurd r
one-root forest.End r = absurd r
one-root (forest.Leaf k n f) r = absurd r
one-root (forest.Said m f) r = absurd r
one-root (forest.ErrorLeaf m k f) r = absurd r

nothing-after : (ss : List Step) → ss ++ [] ≡ ss
nothing-after [] = refl
nothing-after (s ∷ ss) = ap (λ (ts : List Step). s ∷ ts) (nothing-after ss)

pub rooted-fits : (wide : Bool) (edition : Edition) (ls : List Leaf) (f : Forest) → IsRooted f → tokens_after f (input wide edition ls) ≡ Some [] → fits (steps f) ls ≡ true
rooted-fits wide edition ls f rooted all =
    let end = covers-forest wide edition f [] ls [] all in
    let covered : covers (steps f) ls ≡ true = ap (λ (ss : List Step). covers ss ls) (sym (nothing-after (steps f))) ∙ end.same ∙ no-next wide edition end.rest end.tokens in
    ap (λ (b : Bool). b && covers (steps f) ls) (one-root f rooted) ∙ covered
