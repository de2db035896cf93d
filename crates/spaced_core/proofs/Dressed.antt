-- A well-spaced tree's shape, dressed with the leaves of its text.
use Rattle.std.proofs.Common.{◌≡◌, ℕ, zero, suc, ◌+◌, ◌-◌, ◌≤◌, Bool, true, false, not, ◌&&◌, List, [], ◌∷◌, ◌++◌, append-nil, append_assoc, chars, drop, encode_utf8, length, map, take, refl, sym, ◌∙◌, ap, subst, arith, inl, inr}
use Rattle.std.specs.List.{flat_map, list_all, prefix_len}
use Rattle.std.specs.Str.{IsUtf8}
use Rattle.std.proofs.Math.Seq.{drop-append_seam, take-append_seam}
use Rattle.std.proofs.lemmas.Bool.{cases_Bool}
use Rattle.std.proofs.lemmas.List.{length-map}
use Rattle.std.proofs.lemmas.Str.{encodes-chars}
use Rattle.rowan_green.specs.Forest.{Forest, empty, node, leaf, Tree}
use Rattle.rowan_green.specs.Leaf as green
use Rattle.parser_input.specs.Kind as kind
use Rattle.parser_input.specs.Leaf.{Leaf, is_trivia}
use Rattle.parser_input.specs.declared.edition.Edition.{Edition}
use Rattle.parser_events.specs.Forest as parser
use Rattle.parser_events.specs.Dressed as dressed
use Rattle.parser_events.specs.Dressed.{Dressed, ◌followed_by◌}
use Rattle.parser_events.specs.Trivia.{attached, pending}
use Rattle.parser_events.specs.Dress.{Dressing, as_dressed, close_node, dress, dress_root, joined, open_node, put, put_each, put_leaf, put_pending, reach, root}
use Rattle.parser_events.proofs.Coverings.{attached-most}
use Rattle.plain_names.specs.Trees.{dressed_forest, forest_by}
use Rattle.plain_names.proofs.PlainTrees.{encodes-flat}
use Rattle.spaced_core.specs.WellSpaced.{IsWellSpaced, characters_of, leaves_of, shape}
use Rattle.spaced_core.specs.SpacedText.{AreRead, IsLeaf, nothing, one, solid, space}
use Rattle.spaced_core.specs.Laws.{shape_of, text_leaves, without_trivia}
use Rattle.spaced_core.proofs.Characters.{all-solid, are_solid, solid-kind}
use Rattle.spaced_core.proofs.CoreInputs.{leaf-shape, skip-shape}
use Rattle.spaced_core.proofs.CoreStarts.{solid-append}
use Rattle.spaced_core.proofs.Sound.{is_solid}
use Rattle.spaced_core.proofs.SpacedLeaves.{solid-skips, solid-takes}
use Rattle.spaced_core.proofs.TreeTexts.{tree-read}

-- ---- forests one after another

beside : Forest → Forest → Forest
beside empty g = g
beside (node k f r) g = node k f (beside r g)
beside (leaf l r) g = leaf l (beside r g)

beside-empty : (f : Forest) → beside f empty ≡ f
unfolding beside
beside-empty empty = refl
beside-empty (node k f r) = ap (λ (g : Forest). node k f g) (beside-empty r)
beside-empty (leaf l r) = ap (λ (g : Forest). leaf l g) (beside-empty r)

beside-assoc : (a b c : Forest) → beside (beside a b) c ≡ beside a (beside b c)
unfolding beside
beside-assoc empty b c = refl
beside-assoc (node k f r) b c = ap (λ (g : Forest). node k f g) (beside-assoc r b c)
beside-assoc (leaf l r) b c = ap (λ (g : Forest). leaf l g) (beside-assoc r b c)

-- dressed elements as a forest without whitespace and comments
shown : Dressed → Forest
shown d = without_trivia (dressed_forest encode_utf8 d)

abbrev green_leaf : ℕ → List ℕ → green.Leaf
green_leaf k t = record { kind = k; text = flat_map encode_utf8 t }

shown-followed : (a b : Dressed) → shown (a followed_by b) ≡ beside (shown a) (shown b)
unfolding shown beside
shown-followed dressed.End b = refl
shown-followed (dressed.Leaf k t d) b = elim (cases_Bool (kind.is_trivia k)) [
  | inl h ↦ rw h (shown-followed d b)
  | inr h ↦ rw h (ap (λ (g : Forest). leaf (green_leaf k t) g) (shown-followed d b))
]
shown-followed (dressed.Said m p d) b = shown-followed d b
shown-followed (dressed.Node k c d) b = ap (λ (g : Forest). node k (shown c) g) (shown-followed d b)

-- ---- pending leaves

pending-trivia : (l : Leaf) (ls : List Leaf) → is_trivia l ≡ true → length (pending (l ∷ ls)) ≡ suc (length (pending ls))
unfolding pending
pending-trivia l ls h = rw h (let e : 1 + prefix_len is_trivia ls ≡ suc (prefix_len is_trivia ls) = omega arith in ap (λ (n : ℕ). length (take n (l ∷ ls))) e)

pending-solid : (l : Leaf) (ls : List Leaf) → is_trivia l ≡ false → pending (l ∷ ls) ≡ []
unfolding pending
pending-solid l ls h = rw h refl

pending-end : pending [] ≡ []
unfolding pending
pending-end = refl

-- no more than the pending leaves
abbrev IsWithin : ℕ → List Leaf → Type 0
IsWithin n ls = n ≤ length (pending ls)

within-rest : (n : ℕ) (l : Leaf) (ls : List Leaf) → is_trivia l ≡ true → IsWithin (suc n) (l ∷ ls) → IsWithin n ls
within-rest n l ls h w = omega (arith, w, pending-trivia l ls h)

within-none : (n : ℕ) (l : Leaf) (ls : List Leaf) → is_trivia l ≡ false → IsWithin (suc n) (l ∷ ls) → ⊥
within-none n l ls h w = omega (arith, w, ap length (pending-solid l ls h))

within-end : (n : ℕ) → IsWithin (suc n) [] → ⊥
within-end n w = omega (arith, w, ap length pending-end)

pending-left : (n : ℕ) (ls : List Leaf) → IsWithin n ls → length (pending (drop n ls)) ≡ length (pending ls) - n
pending-left zero ls w = omega arith
pending-left (suc n) [] w = absurd (within-end n w)
pending-left (suc n) (l ∷ ls) w = elim (cases_Bool (is_trivia l)) [
  | inl h ↦ omega (arith, pending-left n ls (within-rest n l ls h w), pending-trivia l ls h)
  | inr h ↦ absurd (within-none n l ls h w)
]

shown-pending : (n : ℕ) (ls : List Leaf) → IsWithin n ls → shown (as_dressed (take n ls)) ≡ empty
unfolding shown as_dressed is_trivia
shown-pending zero ls w = refl
shown-pending (suc n) [] w = refl
shown-pending (suc n) (l ∷ ls) w = elim (cases_Bool (is_trivia l)) [
  | inl h ↦ rw h (shown-pending n ls (within-rest n l ls h w))
  | inr h ↦ absurd (within-none n l ls h w)
]

each-shown : (n : ℕ) (s : Dressing) → IsWithin n s.left → shown (put_each n s).given ≡ shown s.given
unfolding put_each put
each-shown n s w =
    shown-followed s.given (as_dressed (take n s.left)) ∙ ap (λ (g : Forest). beside (shown s.given) g) (shown-pending n s.left w) ∙ beside-empty (shown s.given)

close-shown : (k : ℕ) (before s : Dressing) → shown (close_node k before s).given ≡ beside (shown before.given) (node k (shown s.given) empty)
unfolding close_node shown
close-shown k before s = shown-followed before.given (dressed.Node k s.given dressed.End)

open-shown : (s : Dressing) → shown (open_node s).given ≡ empty
unfolding open_node shown
open-shown s = refl

-- ---- leaves that are read

module _ (edition : Edition) where
  abbrev Reads : List green.Leaf → List Leaf → Type 0
  Reads ls ms = AreRead edition ls ms

  kinds-solid : (l : green.Leaf) (ps : List Leaf) → IsLeaf edition l ps → are_solid (map (λ p. p.kind) ps) ≡ true
  kinds-solid l ps is = ap are_solid is.kinds ∙ solid-kind l.kind (ap not is.solid)

  none-solid : are_solid [] ≡ true → ⊥
  unfolding are_solid
  none-solid h = cc

  not-true : (b : Bool) (c : Bool) → (not b && c) ≡ true → (b ≡ false) × (c ≡ true)
  not-true true c h = absurd (let z : false ≡ true = h in cc)
  not-true false c h = (refl, h)

  first-solid : (p : Leaf) (ps : List Leaf) → are_solid (map (λ p. p.kind) (p ∷ ps)) ≡ true → is_trivia p ≡ false
  unfolding are_solid is_trivia
  first-solid p ps h = (not-true (kind.is_trivia p.kind) _ h).0

  -- the first of a leaf's pieces is not pending
  leaf-pending : (l : green.Leaf) (ps ms : List Leaf) → IsLeaf edition l ps → pending (ps ++ ms) ≡ []
  leaf-pending l [] ms is = absurd (none-solid (kinds-solid l [] is))
  leaf-pending l (p ∷ ps) ms is = pending-solid p (ps ++ ms) (first-solid p ps (kinds-solid l (p ∷ ps) is))

  -- pending leaves that are left out
  drop-read : (n : ℕ) (ls : List green.Leaf) (ms : List Leaf) → Reads ls ms → IsWithin n ms → Reads ls (drop n ms)
  drop-read zero ls ms r w = r
  drop-read (suc n) _ _ nothing w = absurd (within-end n w)
  drop-read (suc n) ls _ (space x {ls = _} {ms} h r) w = drop-read n ls ms r (within-rest n x ms h w)
  drop-read (suc n) _ all (one l ps ms {ls} {all = _} is t r e) w =
      let z : length (pending all) ≡ 0 = ap (λ (xs : List Leaf). length (pending xs)) e ∙ ap length (leaf-pending l ps ms is) in
      absurd (omega (arith, z, w))

  -- where nothing is left to read, all is pending
  end-pending : (ms : List Leaf) → Reads [] ms → length (pending ms) ≡ length ms
  end-pending _ nothing = ap length pending-end
  end-pending _ (space x {ls = _} {ms} h r) = pending-trivia x ms h ∙ ap suc (end-pending ms r)

  -- ---- a leaf

  list-solid : (l : green.Leaf) (ps : List Leaf) → IsLeaf edition l ps → list_all is_solid (map (λ p. p.kind) ps) ≡ true
  list-solid l ps is = all-solid (map (λ p. p.kind) ps) (kinds-solid l ps is)

  reach-one : (p : Leaf) (ps : List Leaf) (n : ℕ) → is_trivia p ≡ false → reach (suc n) (p ∷ ps) ≡ suc (reach n ps)
  unfolding reach
  reach-one p ps n h = rw h (let e : 1 + reach n ps ≡ suc (reach n ps) = omega arith in e)

  no-reach : (ms : List Leaf) → reach 0 ms ≡ 0
  unfolding reach
  no-reach ms = refl

  own-solid : (p : Leaf) (b : Bool) → (is_solid p.kind && b) ≡ true → (is_trivia p ≡ false) × (b ≡ true)
  unfolding is_trivia
  own-solid p b h = not-true (kind.is_trivia p.kind) b h

  reach-leaf : (ps ms : List Leaf) → list_all is_solid (map (λ p. p.kind) ps) ≡ true → reach (length ps) (ps ++ ms) ≡ length ps
  reach-leaf [] ms h = no-reach ms
  reach-leaf (p ∷ ps) ms h =
      let both = own-solid p (list_all is_solid (map (λ p. p.kind) ps)) h in
      reach-one p (ps ++ ms) (length ps) both.0 ∙ ap suc (reach-leaf ps ms both.1)

  -- the pieces of the next leaf, and what is after them
  record Next (l : green.Leaf) (more : List green.Leaf) (ms : List Leaf) : Type 0 where
    ps : List Leaf
    rest : List Leaf
    is : IsLeaf edition l ps
    own : ms ≡ ps ++ rest
    reads : Reads more rest

  next-leaf : (l : green.Leaf) (more : List green.Leaf) (ms : List Leaf) → Reads (l ∷ more) ms → pending ms ≡ [] → Next l more ms
  next-leaf l more _ (space x {ls = _} {ms} h r) none = absurd (omega (arith, pending-trivia x ms h, ap length none))
  next-leaf _ more all (one l ps ms {ls = _} {all = _} is t r e) none = record { ps = ps; rest = ms; is = is; own = e; reads = r }

  leaf-count : (l : green.Leaf) (ps : List Leaf) → IsLeaf edition l ps → length (characters_of l.kind) ≡ length ps
  leaf-count l ps is = ap (λ (ks : List ℕ). length ks) (sym is.kinds) ∙ length-map ps (λ (p : Leaf). p.kind)

  -- The dressing after trees: what is left, and what is shown.
  record Done (f : Forest) (more : List green.Leaf) (s after : Dressing) : Type 0 where
    reads : Reads more after.left
    same : shown after.given ≡ beside (shown s.given) (without_trivia f)

  leaf-bytes : (l : green.Leaf) → IsUtf8 l.text → green_leaf l.kind (chars l.text) ≡ l
  leaf-bytes l u = ap (λ (bs : List ℕ). let m : green.Leaf = record { kind = l.kind; text = bs } in m) (sym (encodes-flat (chars l.text)) ∙ encodes-chars l.text u)

  leaf-shown : (l : green.Leaf) → kind.is_trivia l.kind ≡ false → IsUtf8 l.text → shown (dressed.Leaf l.kind (chars l.text) dressed.End) ≡ leaf l empty
  unfolding shown
  leaf-shown l h u = rw h (ap (λ (m : green.Leaf). leaf m empty) (leaf-bytes l u))

  leaf-alone : (l : green.Leaf) → kind.is_trivia l.kind ≡ false → without_trivia (leaf l empty) ≡ leaf l empty
  leaf-alone l h = rw h refl

  put-done : (l : green.Leaf) (more : List green.Leaf) (s : Dressing) → Next l more s.left → Done (leaf l empty) more s (put_leaf l.kind (length (characters_of l.kind)) s)
  unfolding put_leaf put
  put-done l more s n =
      let count : reach (length (characters_of l.kind)) s.left ≡ length n.ps =
      ap (λ (k : ℕ). reach k s.left) (leaf-count l n.ps n.is) ∙ ap (λ (ms : List Leaf). reach (length n.ps) ms) n.own ∙ reach-leaf n.ps n.rest (list-solid l n.ps n.is) in
      let taken : take (reach (length (characters_of l.kind)) s.left) s.left ≡ n.ps =
      ap (λ (k : ℕ). take k s.left) count ∙ ap (λ (ms : List Leaf). take (length n.ps) ms) n.own ∙ take-append_seam n.ps n.rest in
      let gone : drop (reach (length (characters_of l.kind)) s.left) s.left ≡ n.rest =
      ap (λ (k : ℕ). drop k s.left) count ∙ ap (λ (ms : List Leaf). drop (length n.ps) ms) n.own ∙ drop-append_seam n.ps n.rest in
      let text : joined (take (reach (length (characters_of l.kind)) s.left) s.left) ≡ chars l.text = ap joined taken ∙ n.is.text in
      record {
        reads = subst (λ (ms : List Leaf). Reads more ms) (sym gone) n.reads;
        same =
            shown-followed s.given (dressed.Leaf l.kind (joined (take (reach (length (characters_of l.kind)) s.left) s.left)) dressed.End)
            ∙ ap (λ (cs : List ℕ). beside (shown s.given) (shown (dressed.Leaf l.kind cs dressed.End))) text
            ∙ ap (λ (g : Forest). beside (shown s.given) g) (leaf-shown l n.is.solid n.is.utf8 ∙ sym (leaf-alone l n.is.solid));
      }

  pending-done : (ls : List green.Leaf) (s : Dressing) → Reads ls s.left → Reads ls (put_pending s).left
  unfolding put_pending put_each put
  pending-done ls s r = drop-read (length (pending s.left)) ls s.left r (omega arith)

  pending-none : (s : Dressing) → pending (put_pending s).left ≡ []
  unfolding put_pending put_each put
  pending-none s = none-pending (pending (drop (length (pending s.left)) s.left)) (let e = pending-left (length (pending s.left)) s.left (omega arith) in omega (arith, e))
    where
      none-pending : (ls : List Leaf) → length ls ≡ 0 → ls ≡ []
      none-pending [] e = refl
      none-pending (l ∷ ls) e = absurd (omega (arith, e))

  pending-shown : (s : Dressing) → shown (put_pending s).given ≡ shown s.given
  unfolding put_pending
  pending-shown s = each-shown (length (pending s.left)) s (omega arith)

  -- trees and those after them
  both-done : (a b : Forest) (more rest : List green.Leaf) (s middle after : Dressing) → Done a more s middle → Done b rest middle after → Reads rest after.left × (shown after.given ≡ beside (shown s.given) (beside (without_trivia a) (without_trivia b)))
  both-done a b more rest s middle after x y = (
    y.reads,
    y.same ∙ ap (λ (g : Forest). beside g (without_trivia b)) x.same ∙ beside-assoc (shown s.given) (without_trivia a) (without_trivia b),
  )

  leaf-first : (l : green.Leaf) (r : Forest) → kind.is_trivia l.kind ≡ false → beside (without_trivia (leaf l empty)) (without_trivia r) ≡ without_trivia (leaf l r)
  unfolding beside
  leaf-first l r h = rw h refl

  leaf-done : (l : green.Leaf) (r : Forest) (more rest : List green.Leaf) (s after : Dressing) → kind.is_trivia l.kind ≡ false → Reads (l ∷ more) s.left
      → Done r rest (put_leaf l.kind (length (characters_of l.kind)) (put_pending s)) after → Done (leaf l r) rest s after
  leaf-done l r more rest s after h reads d =
      let p = put_pending s in
      let here = put-done l more p (next-leaf l more p.left (pending-done (l ∷ more) s reads) (pending-none s)) in
      let all = both-done (leaf l empty) r more rest p (put_leaf l.kind (length (characters_of l.kind)) p) after here d in
      record {
        reads = all.0;
        same = all.1 ∙ ap (λ (g : Forest). beside (shown p.given) g) (leaf-first l r h) ∙ ap (λ (g : Forest). beside g (without_trivia (leaf l r))) (pending-shown s);
      }

  -- ---- a node

  -- what is put before a node, and where its inside starts
  outside : ℕ → Dressing → Dressing
  outside k s = put_each (length (pending s.left) - attached k (pending s.left)) s

  inside : ℕ → Dressing → Dressing
  inside k s = put_each (attached k (pending s.left)) (open_node (outside k s))

  outside-within : (k : ℕ) (s : Dressing) → IsWithin (length (pending s.left) - attached k (pending s.left)) s.left
  outside-within k s = omega arith

  outside-reads : (k : ℕ) (ls : List green.Leaf) (s : Dressing) → Reads ls s.left → Reads ls (open_node (outside k s)).left
  unfolding outside put_each put open_node
  outside-reads k ls s r = drop-read (length (pending s.left) - attached k (pending s.left)) ls s.left r (outside-within k s)

  outside-shown : (k : ℕ) (s : Dressing) → shown (outside k s).given ≡ shown s.given
  unfolding outside
  outside-shown k s = each-shown (length (pending s.left) - attached k (pending s.left)) s (outside-within k s)

  inside-within : (k : ℕ) (s : Dressing) → IsWithin (attached k (pending s.left)) (open_node (outside k s)).left
  unfolding outside put_each put open_node
  inside-within k s =
      let most = attached-most k (pending s.left) in
      let left = pending-left (length (pending s.left) - attached k (pending s.left)) s.left (outside-within k s) in
      omega (arith, most, left)

  inside-reads : (k : ℕ) (ls : List green.Leaf) (s : Dressing) → Reads ls s.left → Reads ls (inside k s).left
  unfolding inside put_each put
  inside-reads k ls s r = drop-read (attached k (pending s.left)) ls (open_node (outside k s)).left (outside-reads k ls s r) (inside-within k s)

  inside-shown : (k : ℕ) (s : Dressing) → shown (inside k s).given ≡ empty
  unfolding inside
  inside-shown k s = each-shown (attached k (pending s.left)) (open_node (outside k s)) (inside-within k s) ∙ open-shown (outside k s)

  node-alone : (k : ℕ) (f r : Forest) → beside (node k (without_trivia f) empty) (without_trivia r) ≡ without_trivia (node k f r)
  unfolding beside
  node-alone k f r = refl

  from-nothing : (s : Dressing) (g : Forest) → shown s.given ≡ empty → beside (shown s.given) g ≡ g
  unfolding beside
  from-nothing s g h = ap (λ (e : Forest). beside e g) h

  closed-left : (k : ℕ) (before s : Dressing) → (close_node k before s).left ≡ s.left
  unfolding close_node
  closed-left k before s = refl

  node-done : (k : ℕ) (f r : Forest) (rest more : List green.Leaf) (s children after : Dressing) → Done f rest (inside k s) children → Done r more (close_node k (outside k s) children) after → Done (node k f r) more s after
  node-done k f r rest more s children after c d =
      let own : shown children.given ≡ without_trivia f = c.same ∙ from-nothing (inside k s) (without_trivia f) (inside-shown k s) in
      let closed : shown (close_node k (outside k s) children).given ≡ beside (shown s.given) (node k (without_trivia f) empty) =
      close-shown k (outside k s) children ∙ ap (λ (g : Forest). beside (shown (outside k s).given) (node k g empty)) own ∙ ap (λ (g : Forest). beside g (node k (without_trivia f) empty)) (outside-shown k s) in
      record {
        reads = d.reads;
        same =
            d.same
            ∙ ap (λ (g : Forest). beside g (without_trivia r)) closed
            ∙ beside-assoc (shown s.given) (node k (without_trivia f) empty) (without_trivia r)
            ∙ ap (λ (g : Forest). beside (shown s.given) g) (node-alone k f r);
      }

  -- ---- the whole

  abbrev solid_of : Forest → List green.Leaf
  solid_of f = solid (leaves_of f)

  dress-node : (k : ℕ) (f r : parser.Forest) (s : Dressing) → dress (parser.Node k f r) s ≡ dress r (close_node k (outside k s) (dress f (inside k s)))
  unfolding dress outside inside
  dress-node k f r s = refl

  dress-leaf : (k n : ℕ) (r : parser.Forest) (s : Dressing) → dress (parser.Leaf k n r) s ≡ dress r (put_leaf k n (put_pending s))
  unfolding dress
  dress-leaf k n r s = refl

  put-reads : (l : green.Leaf) (more : List green.Leaf) (s : Dressing) → Reads (l ∷ more) s.left → Reads more (put_leaf l.kind (length (characters_of l.kind)) (put_pending s)).left
  put-reads l more s r = (put-done l more (put_pending s) (next-leaf l more (put_pending s).left (pending-done (l ∷ more) s r) (pending-none s))).reads

  shape-done : (f : Forest) (more : List green.Leaf) (s : Dressing) → Reads (solid_of f ++ more) s.left → Done f more s (dress (shape f) s)
  unfolding shape dress
  shape-done empty more s r = record { reads = r; same = sym (beside-empty (shown s.given)) }
  shape-done (node k f r) more s reads =
      let parted : solid_of (node k f r) ++ more ≡ solid_of f ++ (solid_of r ++ more) =
      ap (λ (ls : List green.Leaf). ls ++ more) (solid-append (leaves_of f) (leaves_of r)) ∙ append_assoc (solid_of f) (solid_of r) more in
      let all = subst (λ (ls : List green.Leaf). Reads ls s.left) parted reads in
      let children = shape-done f (solid_of r ++ more) (inside k s) (inside-reads k (solid_of f ++ (solid_of r ++ more)) s all) in
      let closed = close_node k (outside k s) (dress (shape f) (inside k s)) in
      let next = shape-done r more closed (subst (λ (ms : List Leaf). Reads (solid_of r ++ more) ms) (sym (closed-left k (outside k s) (dress (shape f) (inside k s)))) children.reads) in
      subst (λ (after : Dressing). Done (node k f r) more s after) (sym (dress-node k (shape f) (shape r) s))
      (node-done k f r (solid_of r ++ more) more s (dress (shape f) (inside k s)) (dress (shape r) closed) children next)
  shape-done (leaf l r) more s reads = elim (cases_Bool (kind.is_trivia l.kind)) [
    | inl h ↦
        let all = subst (λ (ls : List green.Leaf). Reads (ls ++ more) s.left) (solid-skips l (leaves_of r) h) reads in
        let next = shape-done r more s all in
        let same : without_trivia r ≡ without_trivia (leaf l r) = rw h refl in
        record {
          reads = subst (λ (g : parser.Forest). Reads more (dress g s).left) (sym (skip-shape l r h)) next.reads;
          same = ap (λ (g : parser.Forest). shown (dress g s).given) (skip-shape l r h) ∙ next.same ∙ ap (λ (g : Forest). beside (shown s.given) g) same;
        }
    | inr h ↦
        let n = length (characters_of l.kind) in
        let all = subst (λ (ls : List green.Leaf). Reads (ls ++ more) s.left) (solid-takes l (leaves_of r) h) reads in
        let p = put_leaf l.kind n (put_pending s) in
        let next = shape-done r more p (put-reads l (solid_of r ++ more) s all) in
        subst (λ (g : parser.Forest). Done (leaf l r) more s (dress g s)) (sym (leaf-shape l r h))
        (subst (λ (after : Dressing). Done (leaf l r) more s after) (sym (dress-leaf l.kind n (shape r) s))
        (leaf-done l r (solid_of r ++ more) more s (dress (shape r) p) h all next))
  ]

  abbrev start : List Leaf → Dressing
  start ms = record { given = dressed.End; place = 0; left = ms }

  start-shown : (ms : List Leaf) (g : Forest) → beside (shown (start ms).given) g ≡ g
  unfolding shown beside
  start-shown ms g = refl

  root-shown : (k : ℕ) (s : Dressing) → without_trivia (dressed_forest encode_utf8 (root k s).given) ≡ node k (shown (put_each (length s.left) s).given) empty
  unfolding root close_node open_node shown
  root-shown k s = refl

  dressed-root : (k : ℕ) (f : parser.Forest) (ms : List Leaf) → forest_by encode_utf8 (parser.Node k f parser.End) ms ≡ dressed_forest encode_utf8 (root k (dress f (start ms))).given
  unfolding dress_root
  dressed-root k f ms = refl

  whole-dressed : (k : ℕ) (f : Forest) (ms : List Leaf) → Reads (solid_of f) ms → without_trivia (forest_by encode_utf8 (parser.Node k (shape f) parser.End) ms) ≡ without_trivia (node k f empty)
  whole-dressed k f ms r =
      let s = dress (shape f) (start ms) in
      let done = shape-done f [] (start ms) (subst (λ (ls : List green.Leaf). Reads ls ms) (sym (append-nil (solid_of f))) r) in
      let last : IsWithin (length s.left) s.left = let e = end-pending s.left done.reads in omega (arith, e) in
      ap without_trivia (dressed-root k (shape f) ms)
      ∙ root-shown k s
      ∙ ap (λ (g : Forest). node k g empty) (each-shown (length s.left) s last ∙ done.same ∙ start-shown ms (without_trivia f))

pub tree-dressed : (edition : Edition) (t : Tree) → IsWellSpaced edition t → without_trivia (forest_by encode_utf8 (shape_of t) (text_leaves edition t)) ≡ without_trivia (node t.kind t.forest empty)
tree-dressed edition t w = whole-dressed edition t.kind t.forest (text_leaves edition t) (tree-read edition t w)
