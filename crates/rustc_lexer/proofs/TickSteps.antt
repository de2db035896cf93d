-- Characters: what the loop over them does, step by step.
use Rattle.std.proofs.Common.{◌≡◌, ℕ, true, false, ◌==◌, List, [], ◌∷◌, drop, get_or, refl, sym, ◌∙◌, ap}
use Rattle.rustc_lexer.specs.Characters.{backslash, tick}
use Rattle.rustc_lexer.specs.Scan.{past, stops_character, ticked}
use Rattle.rustc_lexer.specs.Reads.{Reads}
use Rattle.rustc_lexer.proofs.Steps.{ticked-closes, ticked-stops, ticked-goes}
use Rattle.rustc_lexer.proofs.Alike.{Alike, alike-refl, one_on, two_on}

pub tick-close : (xs : List ℕ) → (get_or xs 0 0 == tick) ≡ true → Reads (ticked false) xs true (drop 1 xs)
tick-close [] h = let w : false ≡ true = h in cc
tick-close (x ∷ xs) h =
    let e = ticked-closes x xs h in
    record { value_is = ap (λ r. r.value) e; rest_is = sym (ap (λ r. drop r.taken (x ∷ xs)) e) }

pub tick-stop : (xs : List ℕ) → (get_or xs 0 0 == tick) ≡ false → stops_character (get_or xs 0 0) (get_or xs 1 0) ≡ true → Reads (ticked false) xs false xs
tick-stop [] g h = let w : false ≡ true = h in cc
tick-stop (x ∷ xs) g h =
    let e = ticked-stops x xs g h in
    record { value_is = ap (λ r. r.value) e; rest_is = sym (ap (λ r. drop r.taken (x ∷ xs)) e) }

pub tick-goes : (xs : List ℕ) → (get_or xs 0 0 == tick) ≡ false → stops_character (get_or xs 0 0) (get_or xs 1 0) ≡ false → (get_or xs 0 0 == backslash) ≡ false → Alike (ticked false) (drop 1 xs) (ticked false) xs
tick-goes [] g h b = alike-refl (ticked false) []
tick-goes (x ∷ xs) g h b = one_on (ticked false) (ticked false) x xs (ticked-goes x xs g h ∙ ap (λ e. past (ticked e xs)) b)

pub tick-escape : (xs : List ℕ) → (get_or xs 0 0 == tick) ≡ false → stops_character (get_or xs 0 0) (get_or xs 1 0) ≡ false → (get_or xs 0 0 == backslash) ≡ true → Alike (ticked false) (drop 2 xs) (ticked false) xs
unfolding ticked
tick-escape [] g h b = alike-refl (ticked false) []
tick-escape (x ∷ []) g h b =
    let e = ticked-goes x [] g h ∙ ap (λ t. past (ticked t [])) b in
    record { value_same = sym (ap (λ r. r.value) e); rest_same = sym (ap (λ r. drop r.taken (x ∷ [])) e) }
tick-escape (x ∷ y ∷ xs) g h b =
    two_on (ticked false) (ticked false) x y xs (ticked-goes x (y ∷ xs) g h ∙ ap (λ e. past (ticked e (y ∷ xs))) b)

pub tick-end : (xs : List ℕ) → xs ≡ [] → Reads (ticked false) xs false xs
unfolding ticked
tick-end [] h = record { value_is = refl; rest_is = refl }
tick-end (x ∷ xs) h = cc
