-- What a rule gives stands after what was given before, whatever that is, where no part of it wraps that or asks for it.
use Rattle.std.proofs.Common.{◌≡◌, ℕ, zero, suc, Bool, true, false, ◌&&◌, length, drop, nat_lt, not, List, refl, sym, ap, ◌∙◌, if◌then◌else◌}
use Rattle.parser_input.specs.Input.{Token}
use Rattle.parser_events.specs.Forest as forest
use Rattle.parser_events.specs.Forest.{Forest, End, ◌then◌}
use Rattle.rust_grammar.specs.Rule.{Production, Look, Always, Never, Kind, Contextual, Joint, Whole, Left, InCondition, Given, Both, Either, Not, Rule, Nothing, One, Any, Then, Near, Or, Opt, Star, Node, Wrap, Want, Say, Skip, Split, When, Unless, Call, Continue, Mode, Lead, begins}
use Rattle.rust_grammar.specs.Meaning.{Reading, Calls, ahead, sees, fresh, after, node, say, skip, leaf, turns, read, look_of, meaning}
use Rattle.rust_grammar.specs.Whole.{whole}
use Rattle.rust_productions.specs.Reads.{looks}
use Rattle.rust_productions.proofs.Forests.{then-end, then-assoc}

-- a look that does not ask what was given
abbrev pub no_given : Look → Bool
no_given Given = false
no_given (Both a b) = no_given a && no_given b
no_given (Either a b) = no_given a && no_given b
no_given (Not a) = no_given a
no_given l = true

-- a rule that does not ask what was given before, and does not change it
abbrev pub is_after : (Production → Look) → Rule → Bool
is_after f Nothing = true
is_after f (One x) = true
is_after f Any = true
is_after f (Then a b) = is_after f a && is_after f b
is_after f (Near w a b) = is_after f a && is_after f b
is_after f (Or a b) = no_given (begins f a) && (is_after f a && is_after f b)
is_after f (When l a) = is_after f a
is_after f (Unless l a) = is_after f a
is_after f (Opt a) = no_given (begins f a) && is_after f a
is_after f (Star a) = no_given (begins f a) && is_after f a
is_after f (Node k a) = true
is_after f (Wrap k a) = false
is_after f (Want a m) = no_given (begins f a) && is_after f a
is_after f (Say m) = true
is_after f (Skip m) = true
is_after f Split = false
is_after f (Call x) = true
is_after f (Continue x) = false
is_after f (Mode c a) = is_after f a
is_after f (Lead a) = false

and_l : (x y : Bool) → (x && y) ≡ true → x ≡ true
and_l true y e = refl
and_l false y e = e

and_r : (x y : Bool) → (x && y) ≡ true → y ≡ true
and_r true y e = e
and_r false y e = absurd (let z : false ≡ true = e in cc)

-- a reading with `g` given before its own trees
abbrev onto : Forest → Reading → Reading
onto g s = record { given = g then s.given; rest = s.rest }

sees-after : (c : Bool) (g : Forest) (s : Reading) (l : Look) → no_given l ≡ true → sees c (onto g s) l ≡ sees c s l
unfolding sees
sees-after c g s Always e = refl
sees-after c g s Never e = refl
sees-after c g s (Kind n k) e = refl
sees-after c g s (Contextual n k) e = refl
sees-after c g s (Joint n) e = refl
sees-after c g s (Whole n) e = refl
sees-after c g s Left e = refl
sees-after c g s InCondition e = refl
sees-after c g s Given e = absurd (let z : false ≡ true = e in cc)
sees-after c g s (Both a b) e = rw (sees-after c g s a (and_l (no_given a) (no_given b) e), sees-after c g s b (and_r (no_given a) (no_given b) e)) refl
sees-after c g s (Either a b) e = rw (sees-after c g s a (and_l (no_given a) (no_given b) e), sees-after c g s b (and_r (no_given a) (no_given b) e)) refl
sees-after c g s (Not a) e = ap not (sees-after c g s a e)

choose : (b : Bool) (x y u v : Reading) (g : Forest) → x ≡ onto g u → y ≡ onto g v → (if b then x else y) ≡ onto g (if b then u else v)
choose true x y u v g p q = p
choose false x y u v g p q = q

turns-after :
    (n : ℕ) (test : Reading → Bool) (turn : Reading → Reading) (g : Forest) (s : Reading)
    → ((t : Reading) → test (onto g t) ≡ test t)
    → ((t : Reading) → turn (onto g t) ≡ onto g (turn t))
    → turns n test turn (onto g s) ≡ onto g (turns n test turn s)
unfolding turns
turns-after zero test turn g s p q = refl
turns-after (suc n) test turn g s p q =
    rw (p s, q s)
    (choose (test s) _ _ (if nat_lt (length (turn s).rest) (length s.rest) then turns n test turn (turn s) else turn s) s g
    (choose (nat_lt (length (turn s).rest) (length s.rest)) _ _ (turns n test turn (turn s)) (turn s) g (turns-after n test turn g (turn s) p q) refl)
    refl)

grown : (g f h : Forest) (ts : List Token) → record { given = (g then f) then h; rest = ts } ≡ onto g (record { given = f then h; rest = ts })
grown g f h ts = ap (λ (x : Forest). record { given = x; rest = ts }) (then-assoc g f h)

read-after : (f : Production → Look) (call : Calls) (c : Bool) (r : Rule) (g : Forest) (s : Reading) → is_after f r ≡ true → read f call c r (onto g s) ≡ onto g (read f call c r s)
unfolding read leaf say skip node after fresh
read-after f call c Nothing g s e = refl
read-after f call c (One x) g s e = grown g s.given (forest.Leaf x.kind (length x.parts) End) (drop (length x.parts) s.rest)
read-after f call c Any g s e = grown g s.given (forest.Leaf (ahead 0 s.rest).kind 1 End) (drop 1 s.rest)
read-after f call c (Then a b) g s e = ap (λ t. read f call c b t) (read-after f call c a g s (and_l _ _ e)) ∙ read-after f call c b g (read f call c a s) (and_r _ _ e)
read-after f call c (Near w a b) g s e = ap (λ t. read f call c b t) (read-after f call c a g s (and_l _ _ e)) ∙ read-after f call c b g (read f call c a s) (and_r _ _ e)
read-after f call c (Or a b) g s e =
    rw (sees-after c g s (begins f a) (and_l (no_given (begins f a)) (is_after f a && is_after f b) e))
    (choose (sees c s (begins f a)) _ _ (read f call c a s) (read f call c b s) g
    (read-after f call c a g s (and_l _ _ (and_r _ _ e))) (read-after f call c b g s (and_r _ _ (and_r _ _ e))))
read-after f call c (When l a) g s e = read-after f call c a g s e
read-after f call c (Unless l a) g s e = read-after f call c a g s e
read-after f call c (Opt a) g s e =
    rw (sees-after c g s (begins f a) (and_l (no_given (begins f a)) (is_after f a) e))
    (choose (sees c s (begins f a)) _ _ (read f call c a s) s g (read-after f call c a g s (and_r _ _ e)) refl)
read-after f call c (Star a) g s e =
    turns-after (length s.rest) (λ t. sees c t (begins f a)) (read f call c a) g s
    (λ t. sees-after c g t (begins f a) (and_l _ _ e)) (λ t. read-after f call c a g t (and_r _ _ e))
read-after f call c (Node k a) g s e = let t = read f call c a (fresh s) in grown g s.given (forest.Node k t.given End) t.rest
read-after f call c (Wrap k a) g s e = absurd (let z : false ≡ true = e in cc)
read-after f call c (Want a m) g s e =
    rw (sees-after c g s (begins f a) (and_l (no_given (begins f a)) (is_after f a) e))
    (choose (sees c s (begins f a)) _ _ (read f call c a s) (say m s) g (read-after f call c a g s (and_r _ _ e))
    (grown g s.given (forest.Said m End) s.rest))
read-after f call c (Say m) g s e = grown g s.given (forest.Said m End) s.rest
read-after f call c (Skip m) g s e = grown g s.given (forest.ErrorLeaf m (ahead 0 s.rest).kind End) (drop 1 s.rest)
read-after f call c Split g s e = absurd (let z : false ≡ true = e in cc)
read-after f call c (Call x) g s e = let t = call x c (fresh s) in grown g s.given t.given t.rest
read-after f call c (Continue x) g s e = absurd (let z : false ≡ true = e in cc)
read-after f call c (Mode d a) g s e = read-after f call d a g s e
read-after f call c (Lead a) g s e = absurd (let z : false ≡ true = e in cc)

-- such a rule reads the same after what was given
pub reads-from_start : (c : Bool) (r : Rule) (s : Reading) → is_after looks r ≡ true → read (look_of whole) (meaning whole) c r s ≡ after s (read (look_of whole) (meaning whole) c r (fresh s))
unfolding after fresh
reads-from_start c r s plain =
    ap (λ (g : Forest). read (look_of whole) (meaning whole) c r (record { given = g; rest = s.rest })) (sym (then-end s.given))
    ∙ read-after (look_of whole) (meaning whole) c r s.given (fresh s) plain
