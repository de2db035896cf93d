-- The loop that lexes after the front, a turn of it.
use Rattle.std.proofs.Common.{◌≡◌, ◌≢◌, ℕ, ◌+◌, ◌<◌, ◌≤◌, inl, inr, List, [], ◌∷◌, ◌++◌, length, drop, sym, ◌∙◌, ap, subst, arith, length-append}
use Rattle.std.proofs.lemmas.List.{append_assoc, drop_at}
use Rattle.std.proofs.lemmas.List.Elements.{All-head}
use Rattle.std.proofs.lemmas.List.Sums.{sum_by-cons}
use Rattle.std.specs.List.{All, sum_by}
use Rattle.rustc_lexer.specs.Characters.{size}
use Rattle.rustc_lexer.specs.Tokens.{next_lexeme, token, token_list}
use Rattle.rustc_lexer.specs.declared.token.Token.{Token}
use Rattle.rustc_lexer.proofs.Agree.{lt_or_ge}
use Rattle.rustc_lexer.proofs.Cutting.{each-length, lengths-sum, list-cons}
use Rattle.lexed_text.specs.Inside.{left, Meets, Passes}
use Rattle.lexed_text.proofs.Sums.{left-mono}

-- `done` were taken, k of them, and `rest` is left of the text; no boundary was shared up to here, and the old ones before the
-- j-th have more bytes after them than any that comes
pub record Turn (old : List Token) (text : List ℕ) (front most : ℕ) (rest : List ℕ) (done : List Token) (k j beyond : ℕ) : Type 0 where
  pub parts : done ++ token_list rest ≡ token_list text
  pub count : k ≡ length done
  pub onward : front ≤ j
  pub within : j ≤ length old
  pub is_left : beyond ≡ left j old
  pub passed : (i : ℕ) → front ≤ i → i < j → size rest < left i old
  pub first : (i n : ℕ) → i < k → front ≤ n → n ≤ length old → left i (token_list text) ≤ most → left i (token_list text) ≡ left n old → ⊥

-- what is left of the tokens
left_here : (text rest : List ℕ) (done : List Token) (k : ℕ) → done ++ token_list rest ≡ token_list text → k ≡ length done → left k (token_list text) ≡ size rest
left_here text rest done k parts count =
    ap (λ z. left k z) (sym parts) ∙ ap (λ z. left 0 z) (drop_at done (token_list rest) k (sym count)) ∙ lengths-sum rest

-- nothing was taken
pub turn-none : (old : List Token) (text : List ℕ) (front most : ℕ) (rest : List ℕ) (done : List Token) (beyond : ℕ) → rest ≡ text → done ≡ [] → front ≤ length old → beyond ≡ left front old → Turn old text front most rest done 0 front beyond
turn-none old text front most rest done beyond whole none within is = record {
  parts = ap (λ z. z ++ token_list rest) none ∙ ap token_list whole;
  count = sym (ap length none);
  onward = omega arith;
  within = within;
  is_left = is;
  passed = λ i from upto. absurd (omega arith);
  first = λ i n less from upto low same. absurd (omega arith);
}

-- a boundary that is shared
pub turn-meets : (old : List Token) (text : List ℕ) (front most : ℕ) (rest : List ℕ) (done : List Token) (k j beyond n m here : ℕ) → Turn old text front most rest done k j beyond → here ≡ size rest → here ≤ most → Passes old j here n m → m ≡ here → Meets old (token_list text) front most k n
turn-meets old text front most rest done k j beyond n m here t at low p same =
    let l = left_here text rest done k t.parts t.count in
    let sum = ap length t.parts in
    let c : k ≡ length done = t.count in
    let is : m ≡ left n old = p.is_left in
    let o : front ≤ j = t.onward in
    let q : j ≤ n = p.onward in
    record {
      within_new = omega (arith, length-append done (token_list rest));
      within_old = p.within;
      onward = omega arith;
      low = omega arith;
      same = omega arith;
      first = t.first;
    }

pub turn-taken : (old : List Token) (text : List ℕ) (front most : ℕ) (rest : List ℕ) (done : List Token) (k j beyond n m here : ℕ) → Turn old text front most rest done k j beyond → here ≡ size rest → Passes old j here n m → m ≢ here → Turn old text front most rest done k n m
turn-taken old text front most rest done k j beyond n m here t at p other = record {
  parts = t.parts;
  count = t.count;
  onward = let o : front ≤ j = t.onward in let q : j ≤ n = p.onward in omega arith;
  within = p.within;
  is_left = p.is_left;
  passed = λ i from upto. elim (lt_or_ge i j) [
    | inl less ↦ t.passed i from less
    | inr more ↦ let h : here < left i old = p.high i more upto in omega arith
  ];
  first = t.first;
}

-- where the old boundary has fewer bytes after it, none is shared here
pub apart : (old : List Token) (text : List ℕ) (front most : ℕ) (rest : List ℕ) (done : List Token) (k j beyond n m here : ℕ) → Turn old text front most rest done k j beyond → here ≡ size rest → Passes old j here n m → m ≢ here → (i : ℕ) → front ≤ i → i ≤ length old → size rest ≡ left i old → ⊥
apart old text front most rest done k j beyond n m here t at p other i from upto same =
    elim (lt_or_ge i j) [
      | inl less ↦ let h : size rest < left i old = t.passed i from less in omega arith
      | inr more ↦ elim (lt_or_ge i n) [
        | inl less ↦ let h : here < left i old = p.high i more less in omega arith
        | inr far ↦
            let low : m ≤ here = p.low in
            let is : m ≡ left n old = p.is_left in
            let l = left-mono old n i far in
            other (omega arith)
      ]
    ]

some_left : (rest : List ℕ) → 0 < size rest → 1 ≤ length rest
unfolding size
some_left [] h = absurd (omega arith)
some_left (c ∷ rest) h = omega arith

-- a token has a byte
pub shorter : (rest after : List ℕ) → 0 < size rest → after ≡ drop (length (next_lexeme rest).text) rest → size after + 1 ≤ size rest
shorter rest after some is =
    let cons = list-cons rest (some_left rest some) in
    let each = subst (λ z. All (λ (t : Token). 1 ≤ t.len) z) cons (each-length rest) in
    let beyond = drop (length (next_lexeme rest).text) rest in
    let one : 1 ≤ (token (next_lexeme rest)).len = All-head (λ (t : Token). 1 ≤ t.len) (token (next_lexeme rest)) (token_list beyond) each in
    let sum = ap (λ z. sum_by (λ (t : Token). t.len) z) cons ∙ sum_by-cons (λ (t : Token). t.len) (token (next_lexeme rest)) (token_list beyond) in
    let a = lengths-sum rest in
    let b = lengths-sum beyond in
    let c = ap size is in
    omega arith

-- one token more
pub turn-next : (old : List Token) (text : List ℕ) (front most : ℕ) (rest : List ℕ) (done : List Token) (k j beyond : ℕ) → Turn old text front most rest done k j beyond → 0 < size rest → ((i : ℕ) → front ≤ i → i ≤ length old → size rest ≤ most → size rest ≡ left i old → ⊥) → (t : Token) (after : List ℕ) (more : List Token) → t ≡ token (next_lexeme rest) → after ≡ drop (length (next_lexeme rest).text) rest → more ≡ done ++ t ∷ [] → Turn old text front most after more (k + 1) j beyond
turn-next old text front most rest done k j beyond t some none next after more is left_is more_is =
    let cons = list-cons rest (some_left rest some) in
    let tail : next ∷ token_list after ≡ token_list rest = ap (λ z. z ∷ token_list after) is ∙ ap (λ z. token (next_lexeme rest) ∷ token_list z) left_is ∙ sym cons in
    let c : k ≡ length done = t.count in
    let less_left = shorter rest after some left_is in
    let here = left_here text rest done k t.parts t.count in
    record {
      parts = ap (λ z. z ++ token_list after) more_is ∙ append_assoc done (next ∷ []) (token_list after) ∙ ap (λ z. done ++ z) tail ∙ t.parts;
      count = let len = ap length more_is in omega (arith, length-append done (next ∷ []));
      onward = t.onward;
      within = t.within;
      is_left = t.is_left;
      passed = λ i from upto. let h : size rest < left i old = t.passed i from upto in omega arith;
      first = λ i n less from upto low same. elim (lt_or_ge i k) [
        | inl before ↦ t.first i n before from upto low same
        | inr at ↦
            let e : i ≡ k = omega arith in
            let l = ap (λ z. left z (token_list text)) e in
            none n from upto (omega arith) (omega arith)
      ];
    }

-- text is left, and no boundary is shared here
pub record Turned (old : List Token) (text : List ℕ) (front most : ℕ) (rest : List ℕ) (done : List Token) (k j beyond : ℕ) : Type 0 where
  pub turn : Turn old text front most rest done k j beyond
  pub some : 0 < size rest
  pub none : (i : ℕ) → front ≤ i → i ≤ length old → size rest ≤ most → size rest ≡ left i old → ⊥

pub turned-passed : (old : List Token) (text : List ℕ) (front most : ℕ) (rest : List ℕ) (done : List Token) (k j beyond n m here p q : ℕ) → Turn old text front most rest done k j beyond → here ≡ size rest → Passes old j here n m → m ≢ here → p ≡ n → q ≡ m → Turned old text front most rest done k p q
turned-passed old text front most rest done k j beyond n m here p q t at pass other pn qm =
    let low : m ≤ here = pass.low in
    let some : 0 < size rest = elim (lt_or_ge 0 (size rest)) [ inl more ↦ more | inr none_left ↦ absurd (other (omega arith)) ] in
    let whole : Turned old text front most rest done k n m = record {
      turn = turn-taken old text front most rest done k j beyond n m here t at pass other;
      some = some;
      none = λ i from upto low same. apart old text front most rest done k j beyond n m here t at pass other i from upto same;
    } in
    rw (pn, qm) whole

pub turned-kept : (old : List Token) (text : List ℕ) (front most : ℕ) (rest : List ℕ) (done : List Token) (k j beyond here p q : ℕ) → Turn old text front most rest done k j beyond → here ≡ size rest → most < here → p ≡ j → q ≡ beyond → Turned old text front most rest done k p q
turned-kept old text front most rest done k j beyond here p q t at far pj qb =
    let whole : Turned old text front most rest done k j beyond = record {
      turn = t;
      some = omega arith;
      none = λ i from upto low same. absurd (omega arith);
    } in
    rw (pj, qb) whole
