-- What is picked from two lists that go side by side.
use Rattle.std.proofs.Common.{◌≡◌, List, [], ◌∷◌, ◌++◌, map, Bool, true, false, cond, refl, ap, sym, ◌∙◌, append_assoc}
use Rattle.std.proofs.lemmas.List.{append-nil}
use Rattle.std.specs.List.{filter, zip}
use Rattle.annotated_elements.specs.Found.{picked}

abbrev pub if_picked : {X : Type 0} → Bool → X → List X → List X
if_picked true x xs = x ∷ xs
if_picked false x xs = xs

pub picked-more : {X Y : Type 0} (p : Y → Bool) (x : X) (y : Y) (xs : List (X × Y)) → picked p ((x, y) ∷ xs) ≡ if_picked (p y) x (picked p xs)
picked-more {X} {Y} p x y xs = by_test (p y)
  where
    by_test : (b : Bool) → map (λ z. z.0) (cond b ((x, y) ∷ filter (λ z. p z.1) xs) (filter (λ z. p z.1) xs)) ≡ if_picked b x (picked p xs)
    by_test true = refl
    by_test false = refl

map-if_picked : {X Z : Type 0} (f : X → Z) (b : Bool) (x : X) (xs : List X) → map f (if_picked b x xs) ≡ if_picked b (f x) (map f xs)
map-if_picked f true x xs = refl
map-if_picked f false x xs = refl

append-if_picked : {X : Type 0} (b : Bool) (x : X) (xs ys : List X) → if_picked b x xs ++ ys ≡ if_picked b x (xs ++ ys)
append-if_picked true x xs ys = refl
append-if_picked false x xs ys = refl

-- what is picked is as what it was picked from
pub picked-map : {X Y Z : Type 0} (p : Y → Bool) (f : X → Z) (xs : List X) (ys : List Y) → map f (picked p (zip xs ys)) ≡ picked p (zip (map f xs) ys)
picked-map p f [] ys = refl
picked-map p f (x ∷ xs) [] = refl
picked-map p f (x ∷ xs) (y ∷ ys) =
    ap (map f) (picked-more p x y (zip xs ys))
    ∙ map-if_picked f (p y) x (picked p (zip xs ys))
    ∙ ap (if_picked (p y) (f x)) (picked-map p f xs ys)
    ∙ sym (picked-more p (f x) y (zip (map f xs) ys))

-- of pairs, by something of their second parts
pub picked-pairs : {X Y Z W : Type 0} (p : W → Bool) (f : X → Z) (g : Y → W) (xs : List (X × Y))
    → picked p (zip (map (λ x. f x.0) xs) (map (λ x. g x.1) xs)) ≡ map f (picked (λ y. p (g y)) xs)
picked-pairs p f g [] = refl
picked-pairs p f g (x ∷ xs) =
    picked-more p (f x.0) (g x.1) (zip (map (λ z. f z.0) xs) (map (λ z. g z.1) xs))
    ∙ ap (if_picked (p (g x.1)) (f x.0)) (picked-pairs p f g xs)
    ∙ sym (map-if_picked f (p (g x.1)) x.0 (picked (λ y. p (g y)) xs))
    ∙ ap (map f) (sym (picked-more (λ y. p (g y)) x.0 x.1 xs))

pub picked-append : {X Y : Type 0} (p : Y → Bool) (xs ys : List (X × Y)) → picked p (xs ++ ys) ≡ picked p xs ++ picked p ys
picked-append p [] ys = refl
picked-append p (x ∷ xs) ys =
    picked-more p x.0 x.1 (xs ++ ys)
    ∙ ap (if_picked (p x.1) x.0) (picked-append p xs ys)
    ∙ sym (append-if_picked (p x.1) x.0 (picked p xs) (picked p ys))
    ∙ ap (λ l. l ++ picked p ys) (sym (picked-more p x.0 x.1 xs))

-- one more, if it is picked, and the rest
pub picked-on : {X Y : Type 0} (p : Y → Bool) (b : Bool) (x : X) (y : Y) (new old xs all_x : List X) (ys all_y : List Y)
    → new ≡ old ++ cond b (x ∷ []) [] → b ≡ p y → all_x ≡ x ∷ xs → all_y ≡ y ∷ ys → new ++ picked p (zip xs ys) ≡ old ++ picked p (zip all_x all_y)
picked-on {X} p b x y new old xs all_x ys all_y is same first second =
    let rest = picked p (zip xs ys) in
    ap (λ l. l ++ rest) is
    ∙ append_assoc old (cond b (x ∷ []) []) rest
    ∙ ap (λ l. old ++ l) (by_test b ∙ ap (λ c. if_picked c x rest) same ∙ sym (picked-more p x y (zip xs ys)))
    ∙ (λ i. old ++ picked p (zip (sym first i) (sym second i)))
  where
    by_test : (c : Bool) → cond c (x ∷ []) [] ++ picked p (zip xs ys) ≡ if_picked c x (picked p (zip xs ys))
    by_test true = refl
    by_test false = refl

abbrev nil_of : (Y : Type 0) → List Y
nil_of Y = []

zip-nil : {X Y : Type 0} (xs : List X) → zip xs (nil_of Y) ≡ []
zip-nil [] = refl
zip-nil (x ∷ xs) = refl

-- nothing is left on one side
pub none-left : {X Y : Type 0} (p : Y → Bool) (now all : List X) (ys : List Y) → now ++ picked p (zip [] ys) ≡ all → now ≡ all
none-left p now all ys h = sym (append-nil now) ∙ h

pub none-beside : {X Y : Type 0} (p : Y → Bool) (now all xs : List X) → now ++ picked p (zip xs (nil_of Y)) ≡ all → now ≡ all
none-beside p now all xs h = sym (append-nil now) ∙ ap (λ l. now ++ picked p l) (sym (zip-nil xs)) ∙ h
