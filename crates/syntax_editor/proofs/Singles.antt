-- Changes of an element that was named alone.
use Rattle.std.proofs.Common.{◌≡◌, ℕ, zero, suc, ◌-◌, ◌<◌, List, [], ◌∷◌, ◌++◌, length, map, Bool, true, false, Option, Some, None, option_map, cond, get_or, set, refl, ap, sym, ◌∙◌, subst, arith}
use Rattle.std.proofs.lemmas.List.{get_or-map, map-set}
use Rattle.rowan.specs.Place.{index_of}
use Rattle.syntax_tree.specs.Element.{Way, same_way, Element}
use Rattle.syntax_tree.specs.Handle.{element_of}
use Rattle.syntax_tree.specs.declared.element.SyntaxElement.{SyntaxElement}
use Rattle.tree_rewrite.specs.Change.{Change, replace}
use Rattle.tree_rewrite.specs.Recorded.{recorded}
use Rattle.tree_rewrite.specs.Rewrite.{payload_of}
use Rattle.tree_rewrite.specs.declared.change.Change as declared
use Rattle.syntax_editor.specs.Editing.{Editing, with_changes}
use Rattle.syntax_editor.specs.Recording.{is_single_at, is_empty, over, with_single}
use Rattle.syntax_editor.specs.Noted.{first_single}
use Rattle.syntax_editor.proofs.NotedLemmas.{single-of, first-there}

-- if there is none, one more is appended
pub with_single-none : (cs : List Change) (w : Way) (new : List Element) → first_single w cs ≡ None → with_single cs w new ≡ cs ++ replace w 0 new true ∷ []
with_single-none [] w new h = refl
with_single-none (c ∷ cs) w new h = by_test (is_single_at w c) (first_single w cs) (λ e. with_single-none cs w new e) refl h
  where
    by_test : (b : Bool) (o : Option ℕ) → (first_single w cs ≡ None → with_single cs w new ≡ cs ++ replace w 0 new true ∷ []) → first_single w cs ≡ o → cond b (Some 0) (option_map suc o) ≡ None
        → cond b (over c (replace w 0 new true) ∷ cs) (c ∷ with_single cs w new) ≡ c ∷ (cs ++ replace w 0 new true ∷ [])
    by_test true o rest e is = cc
    by_test false (Some k) rest e is = cc
    by_test false None rest e is = ap (λ l. c ∷ l) (rest e)

-- else it comes over the first
pub with_single-some : (cs : List Change) (w : Way) (new : List Element) (n : ℕ) (d : Change) → first_single w cs ≡ Some n
    → with_single cs w new ≡ set cs n (over (get_or cs n d) (replace w 0 new true))
with_single-some [] w new n d h = cc
with_single-some (c ∷ cs) w new n d h = by_test (is_single_at w c) (first_single w cs) (λ k e. with_single-some cs w new k d e) refl h
  where
    by_test : (b : Bool) (o : Option ℕ) → ((k : ℕ) → first_single w cs ≡ Some k → with_single cs w new ≡ set cs k (over (get_or cs k d) (replace w 0 new true)))
        → first_single w cs ≡ o → cond b (Some 0) (option_map suc o) ≡ Some n
        → cond b (over c (replace w 0 new true) ∷ cs) (c ∷ with_single cs w new) ≡ set (c ∷ cs) n (over (get_or (c ∷ cs) n d) (replace w 0 new true))
    by_test true o rest e is = let z : zero ≡ n = cc in subst (λ k. over c (replace w 0 new true) ∷ cs ≡ set (c ∷ cs) k (over (get_or (c ∷ cs) k d) (replace w 0 new true))) z refl
    by_test false None rest e is = cc
    by_test false (Some k) rest e is =
        let z : suc k ≡ n = cc in
        subst (λ j. c ∷ with_single cs w new ≡ set (c ∷ cs) j (over (get_or (c ∷ cs) j d) (replace w 0 new true))) z (ap (λ l. c ∷ l) (rest k e))

-- a change that replaces one that inserts something
pub over_new :
    (items : List declared.Change) (cs : List Change) (n : ℕ) (old new : declared.Change) → map recorded items ≡ cs → old ≡ get_or items n old → n < length items → is_empty (payload_of (recorded old)) ≡ false
    → map recorded (set items n new) ≡ set cs n (over (get_or cs n (recorded new)) (recorded new))
over_new items cs n old new all is within puts =
    let there : get_or cs n (recorded new) ≡ recorded old =
    ap (λ l. get_or l n (recorded new)) (sym all) ∙ get_or-map recorded items n old (recorded new) within ∙ ap recorded (sym is) in
    map-set recorded items n new
    ∙ ap (λ l. set l n (recorded new)) all
    ∙ ap (λ b. set cs n (cond b (recorded old) (recorded new))) (sym puts)
    ∙ ap (λ o. set cs n (over o (recorded new))) (sym there)

abbrev pub alone : SyntaxElement → SyntaxElement → List Element → Change
alone old last new = replace (element_of old).place.up (index_of (element_of last).place - index_of (element_of old).place) new true

alone-is : (old last : SyntaxElement) (new : List Element) → last ≡ old → alone old last new ≡ replace (element_of old).place.up 0 new true
alone-is old last new same =
    ap (λ n. replace (element_of old).place.up n new true) (omega (arith, ap (λ e. index_of (element_of e).place) same))

pub put_after :
    (e : Editing) (old last : SyntaxElement) (new : List Element) (w : Way) → last ≡ old → w ≡ (element_of old).place.up → first_single w e.changes ≡ None
    → with_changes e (e.changes ++ alone old last new ∷ []) ≡ with_changes e (with_single e.changes (element_of old).place.up new)
put_after e old last new w same way none =
    ap (with_changes e)
    (ap (λ c. e.changes ++ c ∷ []) (alone-is old last new same)
    ∙ sym (with_single-none e.changes (element_of old).place.up new (ap (λ v. first_single v e.changes) (sym way) ∙ none)))

pub put_before :
    (e : Editing) (old last : SyntaxElement) (new : List Element) (w : Way) (n : ℕ) (d : Change) → last ≡ old → w ≡ (element_of old).place.up → first_single w e.changes ≡ Some n
    → with_changes e (set e.changes n (over (get_or e.changes n d) (alone old last new))) ≡ with_changes e (with_single e.changes (element_of old).place.up new)
put_before e old last new w n d same way some =
    ap (with_changes e)
    (ap (λ c. set e.changes n (over (get_or e.changes n d) c)) (alone-is old last new same)
    ∙ sym (with_single-some e.changes (element_of old).place.up new n d (ap (λ v. first_single v e.changes) (sym way) ∙ some)))

-- it names the same element alone as the one in whose place it comes
pub put-single : (cs : List Change) (old last : SyntaxElement) (new : List Element) (v : Way) (n : ℕ) → v ≡ (element_of old).place.up → first_single v cs ≡ Some n
    → (w : Way) → is_single_at w (alone old last new) ≡ is_single_at w (get_or cs n (alone old last new))
put-single cs old last new v n way some w =
    ap (λ u. same_way u w) (sym way) ∙ sym (single-of v (get_or cs n (alone old last new)) (first-there v cs n (alone old last new) some).1 w)
