-- What the code of kept changes goes by.
use Rattle.std.proofs.Common.{◌≡◌, ℕ, List, [], ◌∷◌, ◌++◌, Option, Some, None, Bool, true, false, ◌&&◌, not, cond, refl, ap, sym, ◌∙◌, subst, is_none, option_map, option_and_then, append_assoc}
use Rattle.std.specs.List.{list_any}
use Rattle.std.proofs.lemmas.Bool.{and_parts, or_parts, or_left, or_right, false≢true}
use Rattle.std.proofs.lemmas.List.{append-nil}
use Rattle.rowan_green.specs.Forest.{Tree}
use Rattle.rowan_green.specs.declared.utility_types.NodeOrToken.TheVariants.{Node}
use Rattle.rowan.specs.Place.{Place, term_at, term_by}
use Rattle.syntax_tree.specs.Element.{Way, Element, term_of, is_node}
use Rattle.syntax_tree.specs.Mapping.{Mapping}
use Rattle.tree_rewrite.specs.Change.{Change, insert, replace, covers, is_within, replaces, is_nested, is_dropped, is_node_by_node, holder_of, owner_of}
use Rattle.tree_rewrite.specs.Rewrite.{Job, payload_at, job_of, jobs_from, kept_of}
use Rattle.tree_rewrite.proofs.JobLemmas.{some_same, held_above}

-- ---- a kept change that has an owner lies in the payload of a node by a node
within_above : (f : Way) (n : ℕ) (v u : Way) → covers f n u ≡ true → is_within f n (v ++ u) ≡ true
within_above f n [] [] h = h
within_above f n [] (i ∷ u) h = or_left (covers f n (i ∷ u)) _ h
within_above f n (x ∷ v) u h = or_right (covers f n (x ∷ (v ++ u))) _ (within_above f n v u h)

within_held : (cs : List Change) (f : Way) (n : ℕ) (p u : Way) → holder_of cs p ≡ Some u → covers f n u ≡ true → is_within f n p ≡ true
within_held cs f n p u h c = let x = held_above cs p u h in subst (λ w. is_within f n w ≡ true) x.1 (within_above f n x.0 u c)

owner_nests : (cs : List Change) (c r : Change) (u : Way) → owner_of cs c ≡ Some u → replaces r u ≡ true → is_nested c r ≡ true
owner_nests cs c (insert q k others) u o h = absurd (false≢true h)
owner_nests cs (insert p i new) (replace f n others s) u o h = or_left (is_within f n p) _ (within_held cs f n p u o h)
owner_nests cs (replace [] m new t) (replace f n others s) u o h = absurd (false≢true (sym (ap is_none o)))
owner_nests cs (replace (i ∷ p) m new t) (replace f n others s) u o h = within_held cs f n p u o h

node_payload : (t : Tree) (f : Way) (n : ℕ) (e : Element) (es : List Element) (s : Bool) → is_node_by_node t (replace f n (e ∷ es) s) ≡ true → is_node (term_of e) ≡ true
node_payload t f n e [] s h = (and_parts (is_node (term_of e)) _ (and_parts s _ h).1).0
node_payload t f n e (d ∷ es) s h = absurd (false≢true h)

not_dropped : (n k : Bool) → n ≡ true → (n && not k) ≡ false → k ≡ true
not_dropped n true e h = refl
not_dropped true false e h = absurd (false≢true (sym h))
not_dropped false false e h = e

-- the first of these does not drop the change, nor do the others
drops_none : (t : Tree) (c r : Change) (ds : List Change) → list_any (λ d. is_nested c d && not (is_node_by_node t d)) (r ∷ ds) ≡ false
    → ((is_nested c r && not (is_node_by_node t r)) ≡ false) × (list_any (λ d. is_nested c d && not (is_node_by_node t d)) ds ≡ false)
drops_none t c r ds h = or_parts (is_nested c r && not (is_node_by_node t r)) (list_any (λ d. is_nested c d && not (is_node_by_node t d)) ds) h

kept_in : (t : Tree) (c : Change) (u : Way) (b : Element) → ((r : Change) → replaces r u ≡ true → is_nested c r ≡ true)
    → (ds : List Change) → list_any (λ r. is_nested c r && not (is_node_by_node t r)) ds ≡ false → payload_at ds u ≡ Some b → is_node (term_of b) ≡ true
kept_in t c u b f [] h e = absurd (false≢true (sym (ap is_none e)))
kept_in t c u b f (insert p i new ∷ ds) h e = kept_in t c u b f ds (drops_none t c (insert p i new) ds h).1 e
kept_in t c u b f (replace g n [] s ∷ ds) h e = kept_in t c u b f ds (drops_none t c (replace g n [] s) ds h).1 e
kept_in t c u b f (replace g n (x ∷ xs) s ∷ ds) h e = by_test (kept_in t c u b f ds (drops_none t c (replace g n (x ∷ xs) s) ds h).1) (covers g n u) refl e
  where
    by_test : (payload_at ds u ≡ Some b → is_node (term_of b) ≡ true) → (k : Bool) → covers g n u ≡ k → cond k (Some x) (payload_at ds u) ≡ Some b → is_node (term_of b) ≡ true
    by_test r false k m = r m
    by_test r true k m =
        let alone = not_dropped (is_nested c (replace g n (x ∷ xs) s)) _ (f (replace g n (x ∷ xs) s) k) (drops_none t c (replace g n (x ∷ xs) s) ds h).0 in
        subst (λ y. is_node (term_of y) ≡ true) (some_same x b m) (node_payload t g n x xs s alone)

-- the payload in which a kept change is made is a node
pub kept_payload : (t : Tree) (cs : List Change) (c : Change) (u : Way) (b : Element) → is_dropped t cs c ≡ false → owner_of cs c ≡ Some u → payload_at cs u ≡ Some b → is_node (term_of b) ≡ true
kept_payload t cs c u b h o e = kept_in t c u b (λ r g. owner_nests cs c r u o g) cs h e

-- ---- jobs, one after another

-- jobs in front of others
abbrev pub after_jobs : List Job → Option (List Job) → Option (List Job)
after_jobs js o = option_map (λ is. js ++ is) o

pub jobs_from-more : (top : Element) (cs : List Change) (ms : Mapping) (c : Change) (ds : List Change) (js : List Job) (j : Job)
    → Some j ≡ job_of top cs ms c → after_jobs js (jobs_from top cs ms (c ∷ ds)) ≡ after_jobs (js ++ j ∷ []) (jobs_from top cs ms ds)
jobs_from-more top cs ms c ds js j e =
    ap (λ o. after_jobs js (option_and_then (λ k. option_map (λ is. k ∷ is) (jobs_from top cs ms ds)) o)) (sym e) ∙ by_rest (jobs_from top cs ms ds)
  where
    by_rest : (o : Option (List Job)) → after_jobs js (option_map (λ is. j ∷ is) o) ≡ after_jobs (js ++ j ∷ []) o
    by_rest None = refl
    by_rest (Some is) = ap Some (sym (append_assoc js (j ∷ []) is))

pub jobs_from-none : (top : Element) (cs : List Change) (ms : Mapping) (c : Change) (ds : List Change) (js : List Job)
    → None ≡ job_of top cs ms c → after_jobs js (jobs_from top cs ms (c ∷ ds)) ≡ None
jobs_from-none top cs ms c ds js e = ap (λ o. after_jobs js (option_and_then (λ k. option_map (λ is. k ∷ is) (jobs_from top cs ms ds)) o)) (sym e)

pub after_jobs-all : (js : List Job) → after_jobs js (Some []) ≡ Some js
after_jobs-all js = ap Some (append-nil js)

pub after_no_jobs : (o : Option (List Job)) → o ≡ after_jobs [] o
after_no_jobs None = refl
after_no_jobs (Some js) = refl

-- a change that is not dropped has the next job
pub next_kept : (top : Element) (cs : List Change) (ms : Mapping) (c : Change) (ds : List Change) (js : List Job) (j : Job)
    → is_dropped top.place.root cs c ≡ false → Some j ≡ job_of top cs ms c
    → after_jobs js (jobs_from top cs ms (kept_of top.place.root cs (c ∷ ds))) ≡ after_jobs (js ++ j ∷ []) (jobs_from top cs ms (kept_of top.place.root cs ds))
next_kept top cs ms c ds js j h e =
    let rest = kept_of top.place.root cs ds in
    ap (λ b. after_jobs js (jobs_from top cs ms (cond (not b) (c ∷ rest) rest))) h ∙ jobs_from-more top cs ms c rest js j e

-- a change that is dropped has none
pub next_dropped : (top : Element) (cs : List Change) (ms : Mapping) (c : Change) (ds : List Change) (js : List Job) → is_dropped top.place.root cs c ≡ true
    → after_jobs js (jobs_from top cs ms (kept_of top.place.root cs (c ∷ ds))) ≡ after_jobs js (jobs_from top cs ms (kept_of top.place.root cs ds))
next_dropped top cs ms c ds js h =
    let rest = kept_of top.place.root cs ds in
    ap (λ b. after_jobs js (jobs_from top cs ms (cond (not b) (c ∷ rest) rest))) h

pub next_none : (top : Element) (cs : List Change) (ms : Mapping) (c : Change) (ds : List Change) (js : List Job)
    → is_dropped top.place.root cs c ≡ false → None ≡ job_of top cs ms c → after_jobs js (jobs_from top cs ms (kept_of top.place.root cs (c ∷ ds))) ≡ None
next_none top cs ms c ds js h e =
    let rest = kept_of top.place.root cs ds in
    ap (λ b. after_jobs js (jobs_from top cs ms (cond (not b) (c ∷ rest) rest))) h ∙ jobs_from-none top cs ms c rest js e

-- the term of a root
pub root_green : (p : Place) (g : Tree) → p.up ≡ [] → term_at p ≡ Some (Node g) → g ≡ p.root
root_green p g u h = let top : Some (Node g) ≡ Some (Node p.root) = sym h ∙ ap (term_by p.root) u in cc
