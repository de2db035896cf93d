-- What the steps of a forest put is the dressed tree: forest by forest.
use Rattle.std.proofs.Common.{◌≡◌, ℕ, zero, suc, ◌+◌, ◌-◌, Bool, true, false, not, ◌&&◌, List, [], ◌∷◌, ◌++◌, length, take, drop, encode_utf8_all, refl, ap, sym, subst, ◌∙◌, append_assoc, append-nil, take_while, arith, if◌then◌else◌}
use Rattle.std.specs.List.{prefix_len}
use Rattle.std.proofs.Math.Seq.{take-length}
use Rattle.std.proofs.Math.Nat.{add-zero, sub-zero}
use Rattle.parser_input.specs.Kinds.{ERROR, FIELD_EXPR, NAME_REF, INT_NUMBER, FLOAT_NUMBER, DOT}
use Rattle.parser_input.specs.Leaf as leaves
use Rattle.parser_input.specs.Leaf.{is_trivia}
use Rattle.parser_events.specs.Forest as forest
use Rattle.parser_events.specs.Forest.{Forest}
use Rattle.parser_events.specs.Dressed.{Dressed, End, Leaf, Said, Node, ◌followed_by◌}
use Rattle.parser_events.specs.Dress.{Dressing, dress, dress_root, root, access, access_dot, number, is_empty, put, put_each, put_leaf, reach, put_pending, open_node, close_node, say, joined, as_dressed, next_text, before_dot, from_dot}
use Rattle.parser_events.specs.Laying.{Place, after, after_pending, after_step, put_by, put_inside, put_around, split_steps}
use Rattle.parser_events.specs.Steps as walk
use Rattle.parser_events.specs.Steps.{Step, steps}
use Rattle.parser_events.specs.TextSteps.{TextStep, Token, Enter, Exit, Error, leaf_steps, text_steps}
use Rattle.parser_events.specs.Trivia.{pending, attached}

-- how far the text was put
abbrev pub reached : Dressing → Place
reached d = record { bytes = d.place; left = d.left }

-- what was put, and what the steps put after it
abbrev pub through : Dressing → List Step → List TextStep
through d ss = text_steps d.given ++ put_inside ss (reached d)

pub steps-then : (u v : Dressed) → text_steps (u followed_by v) ≡ text_steps u ++ text_steps v
steps-then End v = refl
steps-then (Leaf k t d) v = ap (λ (l : List TextStep). Token k t ∷ l) (steps-then d v)
steps-then (Said m p d) v = ap (λ (l : List TextStep). Error m p ∷ l) (steps-then d v)
steps-then (Node k c d) v =
    ap (λ (l : List TextStep). Enter k ∷ (text_steps c ++ Exit ∷ l)) (steps-then d v)
    ∙ ap (λ (l : List TextStep). Enter k ∷ l) (sym (append_assoc (text_steps c) (Exit ∷ text_steps d) (text_steps v)))

pub steps-leaves : (ls : List leaves.Leaf) → text_steps (as_dressed ls) ≡ leaf_steps ls
unfolding as_dressed
steps-leaves [] = refl
steps-leaves (l ∷ ls) = ap (λ (r : List TextStep). Token l.kind l.text ∷ r) (steps-leaves ls)

each-steps : (n : ℕ) (d : Dressing) → text_steps (put_each n d).given ≡ text_steps d.given ++ leaf_steps (take n d.left)
unfolding put_each put
each-steps n d = steps-then d.given (as_dressed (take n d.left)) ∙ ap (λ (l : List TextStep). text_steps d.given ++ l) (steps-leaves (take n d.left))

pub step-through : (step : Step) (xs : List Step) (r : Step) (rs : List Step) (s : Place) →
    put_inside (step ∷ (xs ++ r ∷ rs)) s ≡ put_by step s ++ put_inside (xs ++ r ∷ rs) (after_step step s)
step-through step [] r rs s = refl
step-through step (x ∷ xs) r rs s = refl

-- one step that appends its elements to the present ones
one-step : (step : Step) (d e : Dressing) (xs : List Step) (r : Step) (rs : List Step) →
    text_steps e.given ≡ text_steps d.given ++ put_by step (reached d) → reached e ≡ after_step step (reached d) →
    through d (step ∷ (xs ++ r ∷ rs)) ≡ through e (xs ++ r ∷ rs)
one-step step d e xs r rs puts at =
    let more = xs ++ r ∷ rs in
    ap (λ (l : List TextStep). text_steps d.given ++ l) (step-through step xs r rs (reached d))
    ∙ sym (append_assoc (text_steps d.given) (put_by step (reached d)) (put_inside more (after_step step (reached d))))
    ∙ ap (λ (l : List TextStep). l ++ put_inside more (after_step step (reached d))) (sym puts)
    ∙ ap (λ (p : Place). text_steps e.given ++ put_inside more p) (sym at)

take-taken : (n : ℕ) (ls : List leaves.Leaf) → take (length (take n ls)) ls ≡ take n ls
take-taken zero ls = refl
take-taken (suc n) [] = refl
take-taken (suc n) (l ∷ ls) = ap (λ (r : List leaves.Leaf). l ∷ r) (take-taken n ls)

pub take-own : (ls : List leaves.Leaf) → take (length (pending ls)) ls ≡ pending ls
unfolding pending
take-own ls = take-taken (prefix_len is_trivia ls) ls

pending-steps : (d : Dressing) → text_steps (put_pending d).given ≡ text_steps d.given ++ leaf_steps (pending d.left)
unfolding put_pending
pending-steps d = each-steps (length (pending d.left)) d ∙ ap (λ (l : List leaves.Leaf). text_steps d.given ++ leaf_steps l) (take-own d.left)

pending-reached : (d : Dressing) → reached (put_pending d) ≡ after_pending (reached d)
unfolding put_pending put_each put
pending-reached d = refl

-- A leaf.
leaf-steps : (k n : ℕ) (d : Dressing) → text_steps (put_leaf k n (put_pending d)).given ≡ text_steps d.given ++ put_by (walk.Token k n) (reached d)
unfolding put_leaf put
leaf-steps k n d =
    let p = put_pending d in
    let text = joined (take (reach n p.left) p.left) in
    steps-then p.given (Leaf k text End)
    ∙ ap (λ (l : List TextStep). l ++ Token k text ∷ []) (pending-steps d)
    ∙ append_assoc (text_steps d.given) (leaf_steps (pending d.left)) (Token k text ∷ [])
    ∙ ap (λ (q : Place). text_steps d.given ++ (leaf_steps (pending d.left) ++ Token k (joined (take (reach n q.left) q.left)) ∷ [])) (pending-reached d)

leaf-reached : (k n : ℕ) (d : Dressing) → reached (put_leaf k n (put_pending d)) ≡ after_step (walk.Token k n) (reached d)
unfolding put_leaf put put_pending put_each
leaf-reached k n d = refl

-- A message.
say-steps : (m : forest.Message) (d : Dressing) → text_steps (say m d).given ≡ text_steps d.given ++ put_by (walk.Error m) (reached d)
unfolding say
say-steps m d = steps-then d.given (Said m d.place End)

say-reached : (m : forest.Message) (d : Dressing) → reached (say m d) ≡ reached d
unfolding say
say-reached m d = refl

each-reached : (count inside : ℕ) (d : Dressing) → after inside (after count (reached d)) ≡ reached (put_each inside (open_node (put_each count d)))
unfolding put_each put open_node
each-reached count inside d = refl

each-left : (count inside k : ℕ) (d : Dressing) →
    leaf_steps (take count d.left) ++ Enter k ∷ leaf_steps (take inside (after count (reached d)).left)
    ≡ leaf_steps (take count d.left) ++ Enter k ∷ leaf_steps (take inside (put_each count d).left)
unfolding put_each put
each-left count inside k d = refl

-- A node is entered: the trivia outside it comes before its opening, the attached trivia after it.
enter-node : (k : ℕ) (d : Dressing) (xs : List Step) (r : Step) (rs : List Step) →
    through d (walk.Enter k ∷ (xs ++ r ∷ rs))
    ≡ (text_steps (put_each (length (pending d.left) - attached k (pending d.left)) d).given ++ Enter k ∷ [])
    ++ through (put_each (attached k (pending d.left)) (open_node (put_each (length (pending d.left) - attached k (pending d.left)) d))) (xs ++ r ∷ rs)
unfolding open_node
enter-node k d xs r rs =
    let count = length (pending d.left) - attached k (pending d.left) in
    let inside = attached k (pending d.left) in
    let before = put_each count d in
    let inner = put_each inside (open_node before) in
    let more = xs ++ r ∷ rs in
    let out = leaf_steps (take count d.left) in
    let in_leaves = leaf_steps (take inside before.left) in
    let at : after_step (walk.Enter k) (reached d) ≡ reached inner = each-reached count inside d in
    let rest = put_inside more (reached inner) in
    let left_is : put_by (walk.Enter k) (reached d) ≡ out ++ Enter k ∷ in_leaves = each-left count inside k d in
    ap (λ (l : List TextStep). text_steps d.given ++ l)
    (step-through (walk.Enter k) xs r rs (reached d)
    ∙ ap (λ (p : Place). put_by (walk.Enter k) (reached d) ++ put_inside more p) at
    ∙ ap (λ (l : List TextStep). l ++ rest) left_is
    ∙ append_assoc out (Enter k ∷ in_leaves) rest)
    ∙ sym (append_assoc (text_steps d.given) out (Enter k ∷ (in_leaves ++ rest)))
    ∙ ap (λ (l : List TextStep). l ++ Enter k ∷ (in_leaves ++ rest)) (sym (each-steps count d))
    ∙ sym (append_assoc (text_steps before.given) (Enter k ∷ []) (in_leaves ++ rest))
    ∙ ap (λ (l : List TextStep). (text_steps before.given ++ Enter k ∷ []) ++ (l ++ rest)) (sym (each-steps inside (open_node before)))

none-reached : (b : Dressing) → reached (put_each 0 (open_node b)) ≡ reached b
unfolding put_each put open_node joined
none-reached b = ap (λ (n : ℕ). let p : Place = record { bytes = n; left = b.left } in p) (add-zero b.place)

-- A node that takes nothing inside is entered.
enter-plain : (k : ℕ) (d : Dressing) (xs : List Step) (r : Step) (rs : List Step) → attached k (pending d.left) ≡ 0 →
    through d (walk.Enter k ∷ (xs ++ r ∷ rs))
    ≡ (text_steps (put_pending d).given ++ Enter k ∷ []) ++ put_inside (xs ++ r ∷ rs) (reached (put_pending d))
unfolding put_pending put_each put open_node as_dressed
enter-plain k d xs r rs none =
    let count = length (pending d.left) in
    let more = xs ++ r ∷ rs in
    let shape : ℕ → List TextStep = λ n.
    (text_steps (put_each (count - n) d).given ++ Enter k ∷ []) ++ through (put_each n (open_node (put_each (count - n) d))) more in
    enter-node k d xs r rs ∙ ap shape none
    ∙ ap (λ (n : ℕ). (text_steps (put_each n d).given ++ Enter k ∷ []) ++ through (put_each 0 (open_node (put_each n d))) more) (sub-zero count)
    ∙ ap (λ (p : Place). (text_steps (put_each count d).given ++ Enter k ∷ []) ++ put_inside more p) (none-reached (put_each count d))

-- A node is left.
exit-node : (k : ℕ) (before d : Dressing) (xs : List Step) (r : Step) (rs : List Step) →
    (text_steps before.given ++ Enter k ∷ []) ++ through d (walk.Exit ∷ (xs ++ r ∷ rs)) ≡ through (close_node k before d) (xs ++ r ∷ rs)
unfolding close_node
exit-node k before d xs r rs =
    let rest = put_inside (xs ++ r ∷ rs) (reached d) in
    ap (λ (l : List TextStep). (text_steps before.given ++ Enter k ∷ []) ++ (text_steps d.given ++ l)) (step-through walk.Exit xs r rs (reached d))
    ∙ append_assoc (text_steps before.given) (Enter k ∷ []) (text_steps d.given ++ Exit ∷ rest)
    ∙ ap (λ (l : List TextStep). text_steps before.given ++ (Enter k ∷ l)) (sym (append_assoc (text_steps d.given) (Exit ∷ []) rest))
    ∙ sym (append_assoc (text_steps before.given) (Enter k ∷ (text_steps d.given ++ Exit ∷ [])) rest)
    ∙ ap (λ (l : List TextStep). l ++ rest) (sym (steps-then before.given (Node k d.given End)))

-- Each split that says that its float ends in a dot stands at a float with one.
abbrev pub Told : List Step → Place → Type 0
Told [] s = Unit {0}
Told (walk.FloatSplit true ∷ ss) s =
    (is_empty (from_dot (next_text (after_pending s).left)) ≡ false) × Told ss (after_step (walk.FloatSplit true) s)
Told (walk.FloatSplit false ∷ ss) s = Told ss (after_step (walk.FloatSplit false) s)
Told (walk.Token k n ∷ ss) s = Told ss (after_step (walk.Token k n) s)
Told (walk.Enter k ∷ ss) s = Told ss (after_step (walk.Enter k) s)
Told (walk.Exit ∷ ss) s = Told ss s
Told (walk.Error m ∷ ss) s = Told ss s

told-at : (ss : List Step) (p q : Place) → p ≡ q → Told ss p → Told ss q
told-at ss p q e h = subst (λ (x : Place). Told ss x) e h

-- A float.

next-one : (ls : List leaves.Leaf) → joined (take 1 ls) ≡ next_text ls
unfolding joined next_text
next-one [] = refl
next-one (l ∷ ls) = append-nil l.text

split-left : (e : Bool) (d : Dressing) →
    put_by (walk.FloatSplit e) (reached d) ≡ leaf_steps (pending d.left) ++ split_steps e (put_pending d).place (next_text (put_pending d).left)
unfolding put_pending put_each put
split-left e d = refl

-- what a split puts after the receiver of an access, and where it leads
split-node : (e : Bool) (before d outer : Dressing) (xs : List Step) (r : Step) (rs : List Step) →
    text_steps outer.given ≡ text_steps before.given ++ Enter FIELD_EXPR ∷ (text_steps (put_pending d).given ++ split_steps e (put_pending d).place (next_text (put_pending d).left)) →
    reached outer ≡ after 1 (reached (put_pending d)) →
    (text_steps before.given ++ Enter FIELD_EXPR ∷ []) ++ through d (walk.FloatSplit e ∷ (xs ++ r ∷ rs)) ≡ through outer (xs ++ r ∷ rs)
split-node e before d outer xs r rs puts at =
    let p = put_pending d in
    let split = split_steps e p.place (next_text p.left) in
    let own = leaf_steps (pending d.left) in
    let more = xs ++ r ∷ rs in
    let rest = put_inside more (reached outer) in
    ap (λ (l : List TextStep). (text_steps before.given ++ Enter FIELD_EXPR ∷ []) ++ (text_steps d.given ++ l))
    (step-through (walk.FloatSplit e) xs r rs (reached d)
    ∙ ap (λ (q : Place). put_by (walk.FloatSplit e) (reached d) ++ put_inside more (after 1 q)) (sym (pending-reached d))
    ∙ ap (λ (q : Place). put_by (walk.FloatSplit e) (reached d) ++ put_inside more q) (sym at)
    ∙ ap (λ (l : List TextStep). l ++ rest) (split-left e d))
    ∙ append_assoc (text_steps before.given) (Enter FIELD_EXPR ∷ []) (text_steps d.given ++ ((own ++ split) ++ rest))
    ∙ ap (λ (l : List TextStep). text_steps before.given ++ (Enter FIELD_EXPR ∷ l))
    (ap (λ (l : List TextStep). text_steps d.given ++ l) (append_assoc own split rest)
    ∙ sym (append_assoc (text_steps d.given) own (split ++ rest))
    ∙ ap (λ (l : List TextStep). l ++ (split ++ rest)) (sym (pending-steps d))
    ∙ sym (append_assoc (text_steps p.given) split rest))
    ∙ sym (append_assoc (text_steps before.given) (Enter FIELD_EXPR ∷ (text_steps p.given ++ split)) rest)
    ∙ ap (λ (l : List TextStep). l ++ rest) (sym puts)

-- an access with more after it
access-steps : (before given tail : Dressed) →
    text_steps ((before followed_by Node FIELD_EXPR given End) followed_by tail) ≡ text_steps before ++ Enter FIELD_EXPR ∷ (text_steps given ++ Exit ∷ text_steps tail)
access-steps before given tail =
    steps-then (before followed_by Node FIELD_EXPR given End) tail
    ∙ ap (λ (l : List TextStep). l ++ text_steps tail) (steps-then before (Node FIELD_EXPR given End))
    ∙ append_assoc (text_steps before) (Enter FIELD_EXPR ∷ (text_steps given ++ Exit ∷ [])) (text_steps tail)
    ∙ ap (λ (l : List TextStep). text_steps before ++ Enter FIELD_EXPR ∷ l) (append_assoc (text_steps given) (Exit ∷ []) (text_steps tail))

-- the number before the dot, in an access with more after it
numbers : (before given : Dressed) (text : List ℕ) (tail : Dressed) →
    text_steps ((before followed_by Node FIELD_EXPR (given followed_by number text) End) followed_by tail)
    ≡ text_steps before ++ Enter FIELD_EXPR ∷ (text_steps given ++ Enter NAME_REF ∷ Token INT_NUMBER text ∷ Exit ∷ Exit ∷ text_steps tail)
unfolding number
numbers before given text tail =
    access-steps before (given followed_by number text) tail
    ∙ ap (λ (l : List TextStep). text_steps before ++ Enter FIELD_EXPR ∷ (l ++ Exit ∷ text_steps tail)) (steps-then given (number text))
    ∙ ap (λ (l : List TextStep). text_steps before ++ Enter FIELD_EXPR ∷ l)
    (append_assoc (text_steps given) (Enter NAME_REF ∷ Token INT_NUMBER text ∷ Exit ∷ []) (Exit ∷ text_steps tail))

-- a place that nothing more is put after
place-same : (place : ℕ) (ls : List leaves.Leaf) → (let p : Place = record { bytes = place + 0; left = ls } in p) ≡ record { bytes = place; left = ls }
place-same place ls = ap (λ (n : ℕ). let p : Place = record { bytes = n; left = ls } in p) (add-zero place)

abbrev after_text : List ℕ → Dressing → Place
after_text t p = record { bytes = p.place + length (encode_utf8_all t); left = drop 1 p.left }

dot-reached : (before p : Dressing) → reached (access_dot before p) ≡ after 1 (reached p)
unfolding access_dot put close_node
dot-reached before p = place-same _ _ ∙ ap (λ (t : List ℕ). after_text t p) (sym (next-one p.left))

access-reached : (outer p : Dressing) → reached (access outer p) ≡ after 1 (reached p)
unfolding access put close_node say
access-reached outer p = whichever (is_empty (from_dot (next_text p.left))) refl
  where
    whichever : (b : Bool) → is_empty (from_dot (next_text p.left)) ≡ b → reached (access outer p) ≡ after 1 (reached p)
    whichever true e = rw e (ap (λ (t : List ℕ). after_text t p) (sym (next-one p.left)))
    whichever false e = rw e (place-same _ _ ∙ ap (λ (t : List ℕ). after_text t p) (sym (next-one p.left)))

dot-puts : (before p : Dressing) → is_empty (from_dot (next_text p.left)) ≡ false →
    text_steps (access_dot before p).given ≡ text_steps before.given ++ Enter FIELD_EXPR ∷ (text_steps p.given ++ split_steps true p.place (next_text p.left))
unfolding access_dot put close_node
dot-puts before p some = rw some (numbers before.given p.given (before_dot (next_text p.left)) (Leaf DOT (from_dot (next_text p.left)) End))

dot-node : (before d : Dressing) (xs : List Step) (r : Step) (rs : List Step) → is_empty (from_dot (next_text (put_pending d).left)) ≡ false →
    (text_steps before.given ++ Enter FIELD_EXPR ∷ []) ++ through d (walk.FloatSplit true ∷ (xs ++ r ∷ rs)) ≡ through (access_dot before (put_pending d)) (xs ++ r ∷ rs)
dot-node before d xs r rs some = split-node true before d (access_dot before (put_pending d)) xs r rs (dot-puts before (put_pending d) some) (dot-reached before (put_pending d))

access-puts : (b : Bool) (outer p : Dressing) → is_empty (from_dot (next_text p.left)) ≡ b →
    text_steps (access outer p).given ≡ text_steps outer.given ++ Enter FIELD_EXPR ∷ (text_steps p.given ++ split_steps false p.place (next_text p.left))
unfolding access put close_node say number
access-puts true outer p e = rw e (
    steps-then outer.given (Node FIELD_EXPR ((p.given followed_by Said forest.IllegalFloat p.place End) followed_by Node ERROR (Leaf FLOAT_NUMBER (next_text p.left) End) End) End)
    ∙ ap (λ (l : List TextStep). text_steps outer.given ++ Enter FIELD_EXPR ∷ (l ++ Exit ∷ []))
    (steps-then (p.given followed_by Said forest.IllegalFloat p.place End) (Node ERROR (Leaf FLOAT_NUMBER (next_text p.left) End) End)
    ∙ ap (λ (l : List TextStep). l ++ Enter ERROR ∷ Token FLOAT_NUMBER (next_text p.left) ∷ Exit ∷ []) (steps-then p.given (Said forest.IllegalFloat p.place End)))
    ∙ ap (λ (l : List TextStep). text_steps outer.given ++ Enter FIELD_EXPR ∷ l)
    (simp append_assoc refl)
    )
access-puts false outer p e = rw e (numbers outer.given p.given (before_dot (next_text p.left)) (Leaf DOT (take 1 (from_dot (next_text p.left))) (number (drop 1 (from_dot (next_text p.left))))))

access-node : (outer d : Dressing) (xs : List Step) (r : Step) (rs : List Step) →
    (text_steps outer.given ++ Enter FIELD_EXPR ∷ []) ++ through d (walk.FloatSplit false ∷ (xs ++ r ∷ rs)) ≡ through (access outer (put_pending d)) (xs ++ r ∷ rs)
access-node outer d xs r rs =
    let p = put_pending d in
    split-node false outer d (access outer p) xs r rs (access-puts (is_empty (from_dot (next_text p.left))) outer p refl) (access-reached outer p)

-- Forests.

error-plain : (ls : List leaves.Leaf) → attached ERROR ls ≡ 0
unfolding attached
error-plain ls = refl

access-plain : (ls : List leaves.Leaf) → attached FIELD_EXPR ls ≡ 0
unfolding attached
access-plain ls = refl

one-more : (n : ℕ) → 1 + n ≡ suc n
one-more n = omega arith

past-taken : (n : ℕ) (l : leaves.Leaf) (ls : List leaves.Leaf) → drop (length (take (1 + n) (l ∷ ls))) (l ∷ ls) ≡ drop (length (take n ls)) ls
past-taken n l ls = ap (λ (k : ℕ). drop (length (take k (l ∷ ls))) (l ∷ ls)) (one-more n)

pub settled : (ls : List leaves.Leaf) → pending (drop (length (pending ls)) ls) ≡ []
unfolding pending
settled [] = refl
settled (l ∷ ls) = whichever (is_trivia l) refl (settled ls)
  where
    whichever : (b : Bool) → is_trivia l ≡ b → take_while is_trivia (drop (length (take_while is_trivia ls)) ls) ≡ [] →
        take_while is_trivia (drop (length (take_while is_trivia (l ∷ ls))) (l ∷ ls)) ≡ []
    whichever true e more = rw e (ap (λ (r : List leaves.Leaf). take_while is_trivia r) (past-taken (prefix_len is_trivia ls) l ls) ∙ more)
    whichever false e more = rw e (rw e refl)

followed-end : (d : Dressed) → d followed_by End ≡ d
followed-end End = refl
followed-end (Leaf k t d) = ap (Leaf k t) (followed-end d)
followed-end (Said m p d) = ap (Said m p) (followed-end d)
followed-end (Node k c d) = ap (Node k c) (followed-end d)

-- where nothing is pending nothing is put
put-none : (d : Dressing) → pending d.left ≡ [] → put_pending d ≡ d
unfolding put_pending put_each put joined as_dressed
put-none d none = rw none (
    ap (λ (n : ℕ). let e : Dressing = record { given = d.given followed_by End; place = n; left = d.left } in e) (add-zero d.place)
    ∙ ap (λ (g : Dressed). let e : Dressing = record { given = g; place = d.place; left = d.left } in e) (followed-end d.given)
    )

plain-reached : (k : ℕ) (d : Dressing) → attached k (pending d.left) ≡ 0 → after_step (walk.Enter k) (reached d) ≡ reached (put_pending d)
unfolding put_pending put_each put joined
plain-reached k d none =
    let count = length (pending d.left) in
    let shape : ℕ → Place = λ n. after n (after (count - n) (reached d)) in
    ap shape none ∙ ap (λ (n : ℕ). after 0 (after n (reached d))) (sub-zero count) ∙ place-same _ _

opened-said : (m : forest.Message) (d : Dressing) → pending (say m (open_node (put_pending d))).left ≡ []
unfolding say open_node put_pending put_each put
opened-said m d = settled d.left

some-told : (d : Dressing) → is_empty (from_dot (next_text (after_pending (reached d)).left)) ≡ false → is_empty (from_dot (next_text (put_pending d).left)) ≡ false
unfolding put_pending put_each put
some-told d h = h

opened : (d : Dressing) → pending (open_node (put_pending d)).left ≡ []
unfolding open_node put_pending put_each put
opened d = settled d.left

dress-dot : (c f : Forest) (d : Dressing) → is_empty (from_dot (next_text (put_pending (dress c (open_node (put_pending d)))).left)) ≡ false →
    dress (forest.Float true c f) d ≡ dress f (access_dot (put_pending d) (put_pending (dress c (open_node (put_pending d)))))
unfolding dress
dress-dot c f d some =
    let before = put_pending d in
    let receiver = put_pending (dress c (open_node before)) in
    ap (λ (b : Bool). dress f (if true && not b then access_dot before receiver else close_node FIELD_EXPR before (access (open_node before) receiver))) some

pub dressed-steps : (f : Forest) (d : Dressing) (r : Step) (rs : List Step) → Told (steps f ++ r ∷ rs) (reached d) →
    (through d (steps f ++ r ∷ rs) ≡ through (dress f d) (r ∷ rs)) × Told (r ∷ rs) (reached (dress f d))
unfolding steps dress open_node close_node
dressed-steps forest.End d r rs h = (refl, h)
dressed-steps (forest.Leaf k n f) d r rs h =
    let e = put_leaf k n (put_pending d) in
    let rest = dressed-steps f e r rs (told-at (steps f ++ r ∷ rs) _ _ (sym (leaf-reached k n d)) h) in
    (one-step (walk.Token k n) d e (steps f) r rs (leaf-steps k n d) (leaf-reached k n d) ∙ rest.0, rest.1)
dressed-steps (forest.Said m f) d r rs h =
    let e = say m d in
    let rest = dressed-steps f e r rs (told-at (steps f ++ r ∷ rs) _ _ (sym (say-reached m d)) h) in
    (one-step (walk.Error m) d e (steps f) r rs (say-steps m d) (say-reached m d) ∙ rest.0, rest.1)
dressed-steps (forest.ErrorLeaf m k f) d r rs h =
    let more = steps f ++ r ∷ rs in
    let before = put_pending d in
    let inner = say m (open_node before) in
    let last = put_leaf k 1 inner in
    let none : put_pending inner ≡ inner = put-none inner (opened-said m d) in
    let last-puts : text_steps last.given ≡ text_steps inner.given ++ put_by (walk.Token k 1) (reached inner) =
    ap (λ (p : Dressing). text_steps (put_leaf k 1 p).given) (sym none) ∙ leaf-steps k 1 inner in
    let last-at : reached last ≡ after_step (walk.Token k 1) (reached inner) = ap (λ (p : Dressing). reached (put_leaf k 1 p)) (sym none) ∙ leaf-reached k 1 inner in
    let at : after_step (walk.Token k 1) (after_step (walk.Enter ERROR) (reached d)) ≡ reached last =
    ap (λ (p : Place). after_step (walk.Token k 1) p) (plain-reached ERROR d (error-plain (pending d.left)) ∙ sym (say-reached m (open_node before))) ∙ sym last-at in
    let rest = dressed-steps f (close_node ERROR before last) r rs (told-at more _ _ at h) in
    let front = text_steps before.given ++ Enter ERROR ∷ [] in (
      enter-plain ERROR d (walk.Error m ∷ walk.Token k 1 ∷ walk.Exit ∷ steps f) r rs (error-plain (pending d.left))
          ∙ ap (λ (l : List TextStep). front ++ l)
          (one-step (walk.Error m) (open_node before) inner (walk.Token k 1 ∷ walk.Exit ∷ steps f) r rs (say-steps m (open_node before)) (say-reached m (open_node before))
          ∙ one-step (walk.Token k 1) inner last (walk.Exit ∷ steps f) r rs last-puts last-at)
          ∙ exit-node ERROR before last (steps f) r rs
          ∙ rest.0,
      rest.1,
    )
dressed-steps (forest.Node k c f) d r rs h =
    let count = length (pending d.left) - attached k (pending d.left) in
    let inside = attached k (pending d.left) in
    let before = put_each count d in
    let inner = put_each inside (open_node before) in
    let more = steps f ++ r ∷ rs in
    let a = append_assoc (steps c) (walk.Exit ∷ steps f) (r ∷ rs) in
    let told : Told (steps c ++ walk.Exit ∷ more) (reached inner) =
    told-at (steps c ++ walk.Exit ∷ more) _ _ (each-reached count inside d) (subst (λ (ss : List Step). Told ss (after_step (walk.Enter k) (reached d))) a h) in
    let own = dressed-steps c inner walk.Exit more told in
    let rest = dressed-steps f (close_node k before (dress c inner)) r rs own.1 in (
      ap (λ (ss : List Step). through d (walk.Enter k ∷ ss)) a
          ∙ enter-node k d (steps c) walk.Exit more
          ∙ ap (λ (l : List TextStep). (text_steps before.given ++ Enter k ∷ []) ++ l) own.0
          ∙ exit-node k before (dress c inner) (steps f) r rs
          ∙ rest.0,
      rest.1,
    )
dressed-steps (forest.Float true c f) d r rs h =
    let more = steps f ++ r ∷ rs in
    let before = put_pending d in
    let a = append_assoc (steps c) (walk.FloatSplit true ∷ steps f) (r ∷ rs) in
    let told : Told (steps c ++ walk.FloatSplit true ∷ more) (reached (open_node before)) =
    told-at (steps c ++ walk.FloatSplit true ∷ more) _ _ (plain-reached FIELD_EXPR d (access-plain (pending d.left)))
    (subst (λ (ss : List Step). Told ss (after_step (walk.Enter FIELD_EXPR) (reached d))) a h) in
    let own = dressed-steps c (open_node before) (walk.FloatSplit true) more told in
    let receiver = dress c (open_node before) in
    let some : is_empty (from_dot (next_text (put_pending receiver).left)) ≡ false = some-told receiver own.1.0 in
    let e = access_dot before (put_pending receiver) in
    let rest = dressed-steps f e r rs (told-at more _ _ (ap (after 1) (sym (pending-reached receiver)) ∙ sym (dot-reached before (put_pending receiver))) own.1.1) in
    let found : through d (steps (forest.Float true c f) ++ r ∷ rs) ≡ through (dress f e) (r ∷ rs) =
    ap (λ (ss : List Step). through d (walk.Enter FIELD_EXPR ∷ ss)) a
    ∙ enter-plain FIELD_EXPR d (steps c) (walk.FloatSplit true) more (access-plain (pending d.left))
    ∙ ap (λ (l : List TextStep). (text_steps before.given ++ Enter FIELD_EXPR ∷ []) ++ l) own.0
    ∙ dot-node before receiver (steps f) r rs some
    ∙ rest.0 in
    subst (λ (x : Dressing). (through d (steps (forest.Float true c f) ++ r ∷ rs) ≡ through x (r ∷ rs)) × Told (r ∷ rs) (reached x)) (sym (dress-dot c f d some)) (found, rest.1)
dressed-steps (forest.Float false c f) d r rs h =
    let more = steps f ++ r ∷ rs in
    let before = put_pending d in
    let outer = open_node before in
    let a = append_assoc (steps c) (walk.FloatSplit false ∷ walk.Exit ∷ steps f) (r ∷ rs) in
    let tail = walk.FloatSplit false ∷ walk.Exit ∷ more in
    let none : put_pending outer ≡ outer = put-none outer (opened d) in
    let at : after_step (walk.Enter FIELD_EXPR) (after_step (walk.Enter FIELD_EXPR) (reached d)) ≡ reached outer =
    ap (after_step (walk.Enter FIELD_EXPR)) (plain-reached FIELD_EXPR d (access-plain (pending d.left)))
    ∙ plain-reached FIELD_EXPR outer (access-plain (pending outer.left))
    ∙ ap reached none in
    let told : Told (steps c ++ tail) (reached outer) =
    told-at (steps c ++ tail) _ _ at (subst (λ (ss : List Step). Told (walk.Enter FIELD_EXPR ∷ walk.Enter FIELD_EXPR ∷ ss) (reached d)) a h) in
    let own = dressed-steps c outer (walk.FloatSplit false) (walk.Exit ∷ more) told in
    let receiver = dress c outer in
    let inner = access outer (put_pending receiver) in
    let rest = dressed-steps f (close_node FIELD_EXPR before inner) r rs (told-at more _ _ (ap (after 1) (sym (pending-reached receiver)) ∙ sym (access-reached outer (put_pending receiver))) own.1) in (
      ap (λ (ss : List Step). through d (walk.Enter FIELD_EXPR ∷ walk.Enter FIELD_EXPR ∷ ss)) a
          ∙ enter-plain FIELD_EXPR d (walk.Enter FIELD_EXPR ∷ steps c) (walk.FloatSplit false) (walk.Exit ∷ more) (access-plain (pending d.left))
          ∙ ap (λ (l : List TextStep). (text_steps before.given ++ Enter FIELD_EXPR ∷ []) ++ l)
          (enter-plain FIELD_EXPR outer (steps c) (walk.FloatSplit false) (walk.Exit ∷ more) (access-plain (pending outer.left))
          ∙ ap (λ (p : Dressing). (text_steps p.given ++ Enter FIELD_EXPR ∷ []) ++ put_inside (steps c ++ tail) (reached p)) none
          ∙ ap (λ (l : List TextStep). (text_steps outer.given ++ Enter FIELD_EXPR ∷ []) ++ l) own.0
          ∙ access-node outer receiver (walk.Exit ∷ steps f) r rs)
          ∙ exit-node FIELD_EXPR before inner (steps f) r rs
          ∙ rest.0,
      rest.1,
    )

-- the root takes all that is left
root-end : (k : ℕ) (d : Dressing) → Enter k ∷ through d (walk.Exit ∷ []) ≡ text_steps (root k d).given
unfolding root close_node open_node
root-end k d =
    ap (λ (l : List TextStep). Enter k ∷ l)
    (sym (append_assoc (text_steps d.given) (leaf_steps d.left) (Exit ∷ []))
    ∙ ap (λ (ls : List leaves.Leaf). (text_steps d.given ++ leaf_steps ls) ++ Exit ∷ []) (sym (take-length d.left))
    ∙ ap (λ (l : List TextStep). l ++ Exit ∷ []) (sym (each-steps (length d.left) d)))

abbrev pub from_front : List leaves.Leaf → Place
from_front ls = record { bytes = 0; left = ls }

pub node-root : (k : ℕ) (c : Forest) (ls : List leaves.Leaf) → Told (steps c ++ walk.Exit ∷ []) (from_front ls) →
    put_around (steps (forest.Node k c forest.End)) ls ≡ text_steps (dress_root (forest.Node k c forest.End) ls)
unfolding steps dress_root
node-root k c ls h =
    let start : Dressing = record { given = End; place = 0; left = ls } in
    ap (λ (l : List TextStep). Enter k ∷ l) (dressed-steps c start walk.Exit [] h).0 ∙ root-end k (dress c start)

pub float-root : (c : Forest) (ls : List leaves.Leaf) → Told (walk.Enter FIELD_EXPR ∷ (steps c ++ walk.FloatSplit false ∷ walk.Exit ∷ [])) (from_front ls) →
    put_around (steps (forest.Float false c forest.End)) ls ≡ text_steps (dress_root (forest.Float false c forest.End) ls)
unfolding steps dress_root open_node
float-root c ls h =
    let start : Dressing = record { given = End; place = 0; left = ls } in
    let before = put_pending start in
    let tail = walk.FloatSplit false ∷ walk.Exit ∷ [] in
    let receiver = dress c (open_node before) in
    let told : Told (steps c ++ tail) (reached (open_node before)) = told-at (steps c ++ tail) _ _ (plain-reached FIELD_EXPR start (access-plain (pending ls))) h in
    let own = dressed-steps c (open_node before) (walk.FloatSplit false) (walk.Exit ∷ []) told in
    ap (λ (l : List TextStep). Enter FIELD_EXPR ∷ l)
    (enter-plain FIELD_EXPR start (steps c) (walk.FloatSplit false) (walk.Exit ∷ []) (access-plain (pending ls))
    ∙ ap (λ (l : List TextStep). (text_steps before.given ++ Enter FIELD_EXPR ∷ []) ++ l) own.0
    ∙ access-node before receiver [] walk.Exit [])
    ∙ root-end FIELD_EXPR (access before (put_pending receiver))
