-- A tree stays one node: the root is replaced by one node alone, and no change in a payload replaces that payload itself.
use Rattle.std.proofs.Common.{◌≡◌, ℕ, ◌+◌, List, [], ◌∷◌, length, reverse, map, Option, Some, None, Bool, true, false, ◌&&◌, not, ◌++◌, cond, refl, ap, sym, ◌∙◌, subst, is_none, option_and_then}
use Rattle.std.specs.List.{All}
use Rattle.std.proofs.lemmas.Bool.{and_parts, false≢true}
use Rattle.std.proofs.lemmas.List.Elements.{All-nil, All-cons, All-head, All-tail, All-push, All-same, All-map, All-filter}
use Rattle.std.proofs.lemmas.List.{reverse-append}
use Rattle.rowan_green.specs.Forest.{Tree}
use Rattle.rowan_green.specs.Term.{Term}
use Rattle.rowan_green.specs.declared.utility_types.NodeOrToken.TheVariants.{Node, Token}
use Rattle.rowan.specs.Place.{term_by, children_in, first_number}
use Rattle.syntax_tree.specs.Element.{Way, Element, term_of, is_node, element_at}
use Rattle.syntax_tree.specs.Mapping.{Mapping}
use Rattle.tree_rewrite.specs.Change.{Change, insert, replace, covers, replaces, owner_of, is_dropped, IsOneNode, KeepsRoot}
use Rattle.tree_rewrite.specs.Recorded.{recorded, KeepsOneRoot}
use Rattle.tree_rewrite.specs.declared.change.Change as declared
use Rattle.tree_rewrite.specs.Moved.{change_in, change_below, way_to, carried, way_above, has_gap, same_kinds}
use Rattle.tree_rewrite.specs.Marked.{Marked, nothing, inner, forest_in, with_put, slot, Sheet, or_own, filled, read_from, reading_of, readings_of}
use Rattle.tree_rewrite.specs.Rewrite.{Job, same_sheet, sets, set_by, written, payload_of, payload_at, sheet_of, terms_of, terms_within, rewritten, jobs, jobs_from, job_of, change_at, kept, or_no_jobs}
use Rattle.tree_rewrite.specs.Fits.{IsNode}
use Rattle.tree_rewrite.specs.Laws.{RootStays}
use Rattle.tree_rewrite.specs.Plan.{KeepsTop}
use Rattle.tree_rewrite.proofs.OrderLemmas.{same_sheet-sound}
use Rattle.tree_rewrite.proofs.SheetLemmas.{join-nothing}
use Rattle.tree_rewrite.proofs.GreenLemmas.{forest_in-with_put}
use Rattle.tree_rewrite.proofs.JobLemmas.{some_same, are_jobs, job_parts}

-- ---- the planned changes of such changes
root_covered : (first : Way) (n : ℕ) → covers first n [] ≡ true → first ≡ []
root_covered [] n h = refl
root_covered (a ∷ p) n h = absurd (false≢true h)

replaced_by_one : (c : Change) → KeepsRoot c → replaces c [] ≡ true → IsOneNode (payload_of c)
replaced_by_one (insert p i new) k h = absurd (false≢true h)
replaced_by_one (replace first n new single) k h = k (root_covered first n h)

-- a change at its place in a payload does not replace that itself
below_payload : (t : Tree) (u : Way) (b : Element) (to : Way) (c d : Change) → change_below t u b to c ≡ Some d → replaces d [] ≡ true → ⊥
below_payload t u b to (insert p i new) d e h = by_test (has_gap (term_by t p) (term_by b.place.root (carried u to p ++ b.place.up)) i) e
  where
    by_test : (x : Bool) → cond x (Some (insert (carried u to p) i new)) None ≡ Some d → ⊥
    by_test true f = false≢true (subst (λ v. replaces v [] ≡ true) (sym (some_same (insert (carried u to p) i new) d f)) h)
    by_test false f = false≢true (sym (ap is_none f))
below_payload t u b to (replace first n new single) d e h = by_test (same_kinds (children_in (term_by t (way_above first))) (children_in (term_by b.place.root (carried u to (way_above first) ++ b.place.up))) (first_number first) (n + 1)) e
  where
    by_test : (x : Bool) → cond x (Some (replace (first_number first ∷ carried u to (way_above first)) n new single)) None ≡ Some d → ⊥
    by_test true f = false≢true (subst (λ v. replaces v [] ≡ true) (sym (some_same (replace (first_number first ∷ carried u to (way_above first)) n new single) d f)) h)
    by_test false f = false≢true (sym (ap is_none f))

in_payload : (top : Element) (ms : Mapping) (u : Way) (c d : Change) (o : Option Element) → option_and_then (λ b. change_in top ms u b c) o ≡ Some d → replaces d [] ≡ true → ⊥
in_payload top ms u c d None e h = false≢true (sym (ap is_none e))
in_payload top ms u c d (Some b) e h = by_climb (way_to (length ms + 1) ms b (element_at top.number top.place.root u)) e
  where
    by_climb : (o : Option Way) → option_and_then (λ to. change_below top.place.root u b to c) o ≡ Some d → ⊥
    by_climb None f = false≢true (sym (ap is_none f))
    by_climb (Some to) f = below_payload top.place.root u b to c d f h

job_keeps : (top : Element) (cs : List Change) (ms : Mapping) (c : Change) (j : Job) → job_of top cs ms c ≡ Some j → KeepsRoot c → KeepsTop j
job_keeps top cs ms c j e k h =
    let x = job_parts (change_at top cs ms (owner_of cs c) c) _ _ j e in
    by_owner (owner_of cs c) x.0 x.1
  where
    by_owner : (o : Option Way) → change_at top cs ms o c ≡ Some j.change → o ≡ j.sheet → (j.sheet ≡ None) × IsOneNode (payload_of j.change)
    by_owner None f s =
        let same = some_same c j.change f in
        (sym s, subst (λ d. IsOneNode (payload_of d)) same (replaced_by_one c k (subst (λ d. replaces d [] ≡ true) (sym same) h)))
    by_owner (Some u) f s = absurd (in_payload top ms u c j.change (payload_at cs u) f h)

all_keep : (top : Element) (cs : List Change) (ms : Mapping) (ds : List Change) (js : List Job) → jobs_from top cs ms ds ≡ Some js → All KeepsRoot ds → All KeepsTop js
all_keep top cs ms [] js f h = subst (λ l. All KeepsTop l) (some_same [] js f) (All-nil KeepsTop)
all_keep top cs ms (d ∷ ds) js f h =
    let r = are_jobs top cs ms d ds js f in
    subst (λ l. All KeepsTop l) (sym r.is) (All-cons KeepsTop r.job r.rest (job_keeps top cs ms d r.job r.of (All-head KeepsRoot d ds h)) (all_keep top cs ms ds r.rest r.more (All-tail KeepsRoot d ds h)))

pub jobs_keep : (top : Element) (cs : List Change) (ms : Mapping) (js : List Job) → jobs top cs ms ≡ Some js → All KeepsRoot cs → All KeepsTop js
jobs_keep top cs ms js f h = all_keep top cs ms (kept top.place.root cs) js f (All-filter (λ c. not (is_dropped top.place.root cs c)) KeepsRoot cs h)

pub recorded_keep : (cs : List declared.Change) → All KeepsOneRoot cs → All KeepsRoot (map recorded cs)
recorded_keep cs h = All-map KeepsRoot recorded cs h

-- ---- the contents of the slot of the root
abbrev OneNode : Marked → Type 0
OneNode m = (t : Tree) × IsNode m t

abbrev OneNodeIf : Option Marked → Type 0
OneNodeIf None = Unit {0}
OneNodeIf (Some m) = OneNode m

one_own : (s : Sheet) (e : Element) → OneNodeIf (s (slot [])) → is_node (term_of e) ≡ true → OneNode (reading_of s e)
one_own s e h n = by_term (term_of e) n
  where
    by_slot : (t : Tree) (o : Option Marked) → OneNodeIf o → OneNode (or_own o (inner (record { origin = e; put = false }) t.kind (filled s e [] 0 t.forest) nothing))
    by_slot t None g = (record { kind = t.kind; forest = forest_in (filled s e [] 0 t.forest) }, refl)
    by_slot t (Some m) g = g

    by_term : (o : Option Term) → is_node o ≡ true → OneNode (read_from s e o)
    by_term None g = absurd (false≢true g)
    by_term (Some (Token l)) g = absurd (false≢true g)
    by_term (Some (Node t)) g = by_slot t (s (slot [])) h

-- no planned change determines the slot of a payload
slot_free : (c : Job → Marked) (w : Way) (js : List Job) → All KeepsTop js → written c js (Some w) (slot []) ≡ None
slot_free c w [] h = refl
slot_free c w (j ∷ js) h = by_test (slot_free c w js (All-tail KeepsTop j js h)) (All-head KeepsTop j js h) (same_sheet j.sheet (Some w) && sets j.change (slot [])) refl
  where
    no_sheet : (n : Option Way) → n ≡ None → n ≡ Some w → ⊥
    no_sheet n a b = false≢true (ap is_none (sym b ∙ a))

    sets_replaces : (d : Change) → sets d (slot []) ≡ true → replaces d [] ≡ true
    sets_replaces (insert p i new) g = absurd (false≢true g)
    sets_replaces (replace f n new s) g = g

    by_test : written c js (Some w) (slot []) ≡ None → KeepsTop j → (b : Bool) → (same_sheet j.sheet (Some w) && sets j.change (slot [])) ≡ b
        → cond b (Some (set_by j.change (slot []) (c j) (written c js (Some w) (slot [])))) (written c js (Some w) (slot [])) ≡ None
    by_test r k true g =
        let x = and_parts (same_sheet j.sheet (Some w)) _ g in
        absurd (no_sheet j.sheet (k (sets_replaces j.change x.1)).0 (same_sheet-sound j.sheet (Some w) x.0))
    by_test r k false g = r

-- the slot of the root contains the terms of a planned change that keeps one node there
slot_kept : (c : Job → Marked) (js : List Job) → ((j : Job) → IsOneNode (payload_of j.change) → OneNode (c j)) → All KeepsTop js → OneNodeIf (written c js None (slot []))
slot_kept c [] f h = tt
slot_kept c (j ∷ js) f h = by_test (slot_kept c js f (All-tail KeepsTop j js h)) (All-head KeepsTop j js h) (same_sheet j.sheet None && sets j.change (slot [])) refl
  where
    by_change : KeepsTop j → (d : Change) → j.change ≡ d → sets d (slot []) ≡ true → OneNode (set_by d (slot []) (c j) (written c js None (slot [])))
    by_change k (insert p i new) e g = absurd (false≢true g)
    by_change k (replace [] n new s) e g = f j (k (ap (λ d. replaces d []) e)).1
    by_change k (replace (a ∷ p) n new s) e g = absurd (false≢true g)

    by_test : OneNodeIf (written c js None (slot [])) → KeepsTop j → (b : Bool) → (same_sheet j.sheet None && sets j.change (slot [])) ≡ b
        → OneNodeIf (cond b (Some (set_by j.change (slot []) (c j) (written c js None (slot [])))) (written c js None (slot [])))
    by_test r k true g = by_change k j.change refl (and_parts (same_sheet j.sheet None) _ g).1
    by_test r k false g = r

one_put : (b : Bool) (m : Marked) → OneNode m → OneNode (with_put b m)
one_put b m h = (h.0, forest_in-with_put b m ∙ h.1)

-- a payload that is one node stays one
one_given : (c : Job → Marked) (all : List Job) → All KeepsTop all → (j : Job) → IsOneNode (payload_of j.change) → OneNode (terms_of (written c all) j)
one_given c all h j p = one_put (is_none j.sheet) _ (by_list (payload_of j.change) p)
  where
    free : (o : Option Way) → sheet_of (written c all) o (slot []) ≡ None
    free None = refl
    free (Some w) = slot_free c w all h

    by_list : (es : List Element) → IsOneNode es → OneNode (readings_of (sheet_of (written c all) j.own) es)
    by_list [] q = absurd q
    by_list (e ∷ (d ∷ es)) q = absurd q
    by_list (e ∷ []) q =
        let one = one_own (sheet_of (written c all) j.own) e (subst OneNodeIf (sym (free j.own)) tt) q in
        (one.0, ap forest_in (join-nothing (reading_of (sheet_of (written c all) j.own) e)) ∙ one.1)

pub root_kept : (e : Element) (js : List Job) → is_node (term_of e) ≡ true → All KeepsTop js → OneNode (rewritten e js)
root_kept e [] n h = one_own (written (λ i. terms_within 0 [] i) [] None) e tt n
root_kept e (j ∷ js) n h =
    let all : List Job = j ∷ js in
    let c : Job → Marked = λ i. terms_within (length all) all i in
    one_own (written c all None) e (slot_kept c all (λ i p. one_given (λ k. terms_within (length js) all k) all h i p) h) n

-- ---- in recorded order
all_reversed : (P : Job → Type 0) (js : List Job) → All P js → All P (reverse js)
all_reversed P [] h = All-nil P
all_reversed P (j ∷ js) h =
    All-same P (reverse (j ∷ js)) (reverse js ++ j ∷ []) (reverse-append (j ∷ []) js) (All-push P (reverse js) j (all_reversed P js (All-tail P j js h)) (All-head P j js h))

pub root_node : (e : Element) (js : List Job) → is_node (term_of e) ≡ true → All KeepsTop js → (t : Tree) × IsNode (rewritten e (reverse js)) t
root_node e js n h = root_kept e (reverse js) n (all_reversed KeepsTop js h)

pub root_stays : RootStays
root_stays top cs ms n h = by_jobs (jobs top cs ms) refl
  where
    by_jobs : (o : Option (List Job)) → jobs top cs ms ≡ o → OneNode (rewritten top (reverse (or_no_jobs o)))
    by_jobs None f = root_node top [] n (All-nil KeepsTop)
    by_jobs (Some js) f = root_node top js n (jobs_keep top cs ms js f h)
