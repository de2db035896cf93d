-- What the parser's calls do.
use Rattle.std.proofs.Common.{◌≡◌, ℕ, suc, ◌+◌, ◌-◌, List, [], ◌∷◌, drop, length, Option, Some, None, IfSome, refl, ap, sym, subst, ◌∙◌, arith}
use Rattle.std.proofs.lemmas.List.{drop-drop}
use Rattle.parser_events.specs.Forest as forest
use Rattle.parser_events.specs.Forest.{Message, ◌then◌}
use Rattle.parser_events.specs.Marked as marks
use Rattle.parser_events.specs.Marked.{Marked, ◌beside◌, marked, size, front, after}
use Rattle.parser_events.specs.Stack as stack
use Rattle.parser_events.specs.Stack.{Becomes, with_tree, with_node, closed, extended, left_out, level, IsInnermost, IsChild, IsAmong, Place, place_of, total_size}
use Rattle.parser_events.specs.View.{View}
use Rattle.parser_events.proofs.Forests.{marked-then}
use Rattle.parser_events.proofs.Stacks.{front-beside, after-beside}
use Rattle.rust_productions.specs.Stands.{left, Holds}
use Rattle.rust_grammar.specs.Meaning.{leaf, say, wrapped}
use Rattle.rust_productions.specs.Moves.{Opens, Closes, Leaves, Extends, Does}

-- how a call changes the open nodes, unless an allocation fails
pub becomes : (f : List Marked → List Marked) (old new : Option (List Marked)) (nodes : List Marked) → Becomes f old new → Holds old nodes → Holds new (f nodes)
becomes f None None nodes b h = tt
becomes f None (Some new) nodes b h = absurd b
becomes f (Some old) None nodes b h = tt
becomes f (Some old) (Some new) nodes b h = b ∙ ap f h

-- a tree more leaves the innermost node the innermost one
grown : (tree : Marked) (around : ℕ) (old new : Option (List Marked)) → Becomes (with_tree tree) old new → IsInnermost around old → IsInnermost around new
grown tree around None None b i = tt
grown tree around None (Some new) b i = absurd b
grown tree around (Some old) None b i = tt
grown tree around (Some []) (Some new) b i = absurd (let z : 0 ≡ suc around = i in cc)
grown tree around (Some (f ∷ below)) (Some new) b i = ap level b ∙ i

-- the tokens left do not change where only the open nodes do
same-rest : (old new : View) {n : Option (List Marked)} → new ≡ record old { nodes = n } → left new ≡ left old
same-rest old new e = ap left e

pub does-token :
    (kind count : ℕ) (old new : View) → Becomes (with_tree (marks.Leaf kind count marks.End)) old.nodes new.nodes → new ≡ record old { position = old.position + count; nodes = new.nodes } → Does (leaf kind count) old new
unfolding marked leaf
does-token kind count old new b same = record {
  input = ap (λ (v : View). v.input) same;
  rest = λ s e. ap left same ∙ sym (drop-drop count old.position old.input) ∙ ap (λ ts. drop count ts) e;
  nodes = λ s below e h.
      subst (λ (t : Marked). Holds new.nodes (t ∷ below)) (sym (marked-then s.given (forest.Leaf kind count forest.End)))
      (becomes (with_tree (marks.Leaf kind count marks.End)) old.nodes new.nodes (marked s.given ∷ below) b h);
  innermost = λ around i. grown (marks.Leaf kind count marks.End) around old.nodes new.nodes b i;
}

pub does-say :
    (message : Message) (old new : View) → Becomes (with_tree (marks.Said message marks.End)) old.nodes new.nodes → new ≡ record old { nodes = new.nodes } → Does (say message) old new
unfolding marked say
does-say message old new b same = record {
  input = ap (λ (v : View). v.input) same;
  rest = λ s e. ap left same ∙ e;
  nodes = λ s below e h.
      subst (λ (t : Marked). Holds new.nodes (t ∷ below)) (sym (marked-then s.given (forest.Said message forest.End)))
      (becomes (with_tree (marks.Said message marks.End)) old.nodes new.nodes (marked s.given ∷ below) b h);
  innermost = λ around i. grown (marks.Said message marks.End) around old.nodes new.nodes b i;
}

-- a look
pub does-look : (old new : View) (looks : ℕ) → new ≡ record old { looks = looks } → Does (λ s. s) old new
does-look old new looks same = record {
  input = ap (λ (v : View). v.input) same;
  rest = λ s e. ap left same ∙ e;
  nodes = λ s below e h. subst (λ (n : Option (List Marked)). Holds n (marked s.given ∷ below)) (sym (ap (λ (v : View). v.nodes) same)) h;
  innermost = λ around i. subst (IsInnermost around) (sym (ap (λ (v : View). v.nodes) same)) i;
}

pub opens : (old new : View) → Becomes with_node old.nodes new.nodes → new ≡ record old { nodes = new.nodes } → Opens old new
opens old new b same = record {
  input = ap (λ (v : View). v.input) same;
  rest = ap left same;
  nodes = λ given below h. becomes with_node old.nodes new.nodes (given ∷ below) b h;
  innermost = λ around i. deeper around old.nodes new.nodes b i;
}
  where
    deeper : (around : ℕ) (o n : Option (List Marked)) → Becomes with_node o n → IsInnermost around o → IsInnermost (suc around) n
    deeper around None None b i = tt
    deeper around None (Some n) b i = absurd b
    deeper around (Some o) None b i = tt
    deeper around (Some []) (Some n) b i = absurd (let z : 0 ≡ suc around = i in cc)
    deeper around (Some (f ∷ below)) (Some n) b i = ap level b ∙ ap suc i

pub closes : (kind : ℕ) (old new : View) → Becomes (closed kind) old.nodes new.nodes → new ≡ record old { nodes = new.nodes } → Closes kind old new
closes kind old new b same = record {
  input = ap (λ (v : View). v.input) same;
  rest = ap left same;
  nodes = λ inside given below h. becomes (closed kind) old.nodes new.nodes (inside ∷ given ∷ below) b h;
  innermost = λ around i. higher around old.nodes new.nodes b i;
}
  where
    higher : (around : ℕ) (o n : Option (List Marked)) → Becomes (closed kind) o n → IsInnermost (suc around) o → IsInnermost around n
    higher around None None b i = tt
    higher around None (Some n) b i = absurd b
    higher around (Some o) None b i = tt
    higher around (Some []) (Some n) b i = absurd (let z : 0 ≡ suc (suc around) = i in cc)
    higher around (Some (f ∷ [])) (Some n) b i = absurd (let z : 0 ≡ suc (suc around) = i in cc)
    higher around (Some (f ∷ g ∷ below)) (Some n) b i = ap level b ∙ one-less i
      where
        one-less : suc (length below) ≡ suc (suc around) → length below ≡ suc around
        one-less e = omega (arith, e)

pub leaves : (old new : View) → Becomes left_out old.nodes new.nodes → new ≡ record old { nodes = new.nodes } → Leaves old new
leaves old new b same = record {
  input = ap (λ (v : View). v.input) same;
  rest = ap left same;
  nodes = λ inside given below h. becomes left_out old.nodes new.nodes (inside ∷ given ∷ below) b h;
  innermost = λ around i. higher around old.nodes new.nodes b i;
}
  where
    higher : (around : ℕ) (o n : Option (List Marked)) → Becomes left_out o n → IsInnermost (suc around) o → IsInnermost around n
    higher around None None b i = tt
    higher around None (Some n) b i = absurd b
    higher around (Some o) None b i = tt
    higher around (Some []) (Some n) b i = absurd (let z : 0 ≡ suc (suc around) = i in cc)
    higher around (Some (f ∷ [])) (Some n) b i = absurd (let z : 0 ≡ suc (suc around) = i in cc)
    higher around (Some (f ∷ g ∷ below)) (Some n) b i = ap level b ∙ one-less i
      where
        one-less : suc (length below) ≡ suc (suc around) → length below ≡ suc around
        one-less e = omega (arith, e)

pub extends : (old new : View) → Becomes extended old.nodes new.nodes → new ≡ record old { nodes = new.nodes } → Extends old new
extends old new b same = record {
  input = ap (λ (v : View). v.input) same;
  rest = ap left same;
  nodes = λ inside given below h. becomes extended old.nodes new.nodes (inside ∷ given ∷ below) b h;
  innermost = λ around i. higher around old.nodes new.nodes b i;
}
  where
    higher : (around : ℕ) (o n : Option (List Marked)) → Becomes extended o n → IsInnermost (suc around) o → IsInnermost around n
    higher around None None b i = tt
    higher around None (Some n) b i = absurd b
    higher around (Some o) None b i = tt
    higher around (Some []) (Some n) b i = absurd (let z : 0 ≡ suc (suc around) = i in cc)
    higher around (Some (f ∷ [])) (Some n) b i = absurd (let z : 0 ≡ suc (suc around) = i in cc)
    higher around (Some (f ∷ g ∷ below)) (Some n) b i = ap level b ∙ one-less i
      where
        one-less : suc (length below) ≡ suc (suc around) → length below ≡ suc around
        one-less e = omega (arith, e)

-- a closed node is a child of the innermost one
pub child : (kind around : ℕ) (place : Place) (old new : Option (List Marked)) → IsInnermost around old → Becomes (closed kind) old new → IfSome old (λ nodes. place ≡ place_of nodes) → IsChild place new
child kind around place None None i b p = tt
child kind around place None (Some n) i b p = absurd b
child kind around place (Some o) None i b p = tt
child kind around place (Some []) (Some n) i b p = absurd (let z : 0 ≡ suc around = i in cc)
child kind around place (Some (f ∷ [])) (Some n) i b p = absurd (let z : 0 ≡ suc around = i in cc)
child kind around place (Some (f ∷ g ∷ below)) (Some n) i b p = record {
  earlier = g;
  kind = kind;
  children = f;
  later = marks.End;
  below = below;
  are = b;
  before = ap (λ (q : Place). q.before) p;
  inside = ap (λ (q : Place). q.inside) p;
}

-- what is opened around a closed node has that node alone
pub around-closed :
    (kind around : ℕ) (place : Place) (old mid new : Option (List Marked))
    → IsInnermost around old
    → Becomes (closed kind) old mid
    → IfSome old (λ nodes. place ≡ place_of nodes)
    → Becomes (stack.wrapped place.before) mid new
    → (f : Marked) (below : List Marked)
    → Holds old (f ∷ below)
    → Holds new (marks.Node kind f marks.End ∷ below)
around-closed kind around place old mid None i b p w f below h = tt
around-closed kind around place old None (Some n) i b p w f below h = absurd w
around-closed kind around place None (Some m) (Some n) i b p w f below h = absurd b
around-closed kind around place (Some o) (Some m) (Some n) i b p w f [] h = absurd (let z : 0 ≡ suc around = sym (ap level h) ∙ i in cc)
around-closed kind around place (Some o) (Some m) (Some n) i b p w f (g ∷ below) h =
    let whole = g beside marks.Node kind f marks.End in
    let was : m ≡ whole ∷ below = b ∙ ap (closed kind) h in
    let before : place.before ≡ size g + total_size below = ap (λ (q : Place). q.before) (p ∙ ap place_of h) in
    let n_is : place.before - total_size below ≡ size g = omega (arith, before) in
    w ∙ ap (stack.wrapped place.before) was
    ∙ ap (λ (k : ℕ). after k whole ∷ front k whole ∷ below) n_is
    ∙ ap (λ (t : Marked). t ∷ front (size g) whole ∷ below) (after-beside g (marks.Node kind f marks.End))
    ∙ ap (λ (t : Marked). marks.Node kind f marks.End ∷ t ∷ below) (front-beside g (marks.Node kind f marks.End))

-- a node is closed, and one is opened around it: so far all that the present production gave stands in that
pub does-wrap :
    (kind around : ℕ) (place : Place) (old mid new : View)
    → IsInnermost around old.nodes
    → Becomes (closed kind) old.nodes mid.nodes
    → mid ≡ record old { nodes = mid.nodes }
    → IfSome old.nodes (λ nodes. place ≡ place_of nodes)
    → Becomes (stack.wrapped place.before) mid.nodes new.nodes
    → new ≡ record mid { nodes = new.nodes }
    → Does (wrapped kind) old new
unfolding marked wrapped
does-wrap kind around place old mid new i b same p w again = record {
  input = ap (λ (v : View). v.input) again ∙ ap (λ (v : View). v.input) same;
  rest = λ s e. ap left again ∙ ap left same ∙ e;
  nodes = λ s below e h. around-closed kind around place old.nodes mid.nodes new.nodes i b p w (marked s.given) below h;
  innermost = λ n j. stays n old.nodes mid.nodes new.nodes i j b p w;
}
  where
    stays :
        (n : ℕ) (o m l : Option (List Marked))
        → IsInnermost around o
        → IsInnermost n o
        → Becomes (closed kind) o m
        → IfSome o (λ nodes. place ≡ place_of nodes)
        → Becomes (stack.wrapped place.before) m l
        → IsInnermost n l
    stays n o m None i j b p w = tt
    stays n o None (Some l) i j b p w = absurd w
    stays n None (Some m) (Some l) i j b p w = absurd b
    stays n (Some []) (Some m) (Some l) i j b p w = absurd (let z : 0 ≡ suc around = i in cc)
    stays n (Some (f ∷ below)) (Some m) (Some l) i j b p w = ap level (around-closed kind around place (Some (f ∷ below)) (Some m) (Some l) i b p w f below refl) ∙ j
