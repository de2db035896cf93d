-- What all steps of a dressed tree make of the list of elements.
use Rattle.std.proofs.Common.{◌≡◌, ◌+◌, ℕ, List, [], ◌∷◌, ◌++◌, length, map, encode_utf8_all, refl, sym, ap, ◌∙◌, append_assoc, append-nil, length-append, arith}
use Rattle.std.proofs.lemmas.List.{length-map}
use Rattle.parser_events.specs.Dressed as dressed
use Rattle.parser_events.specs.Dressed.{Dressed, Saying, sayings_of}
use Rattle.parser_events.specs.Sinks.{TakesAll}
use Rattle.parser_events.specs.TextSteps.{TextStep, Enter, Exit, text_steps}
use Rattle.tree_lines.specs.Elements.{Element, bytes_of, elements}
use Rattle.tree_lines.specs.Listed.{closed, element_of, saying_of, IsTaken, IsLeft}
use Rattle.tree_lines.specs.declared.rows.Row.{Row}
use Rattle.tree_lines.specs.declared.rows.Said.{Said}
use Rattle.tree_lines.specs.declared.rows.Rows.{Rows}
use Rattle.tree_lines.proofs.Closing.{closed-after}

-- what is listed after some dressed elements
pub record IsListed (old : Rows) (d : Dressed) (new : Rows) : Type 0 where
  pub elements_are : map element_of new.rows.items ≡ map element_of old.rows.items ++ elements (length old.entered.items) old.offset d
  pub entered : new.entered.items ≡ old.entered.items
  pub place : new.offset ≡ old.offset + bytes_of d
  pub sayings : map saying_of new.said.items ≡ map saying_of old.said.items ++ sayings_of d

-- steps are taken in two parts
takes-split : (old new : Rows) (xs ys : List TextStep) → TakesAll IsTaken old (xs ++ ys) new →
    (mid : Rows) × (TakesAll IsTaken old xs mid × TakesAll IsTaken mid ys new)
takes-split old new [] ys h = (old, (refl, h))
takes-split old new (x ∷ xs) ys h =
    let more = takes-split h.0 new xs ys h.1.1 in
    (more.0, ((h.0, (h.1.0, more.1.0)), more.1.1))

-- the elements from the same place
elements-from : (d : Dressed) (m n i j : ℕ) → m ≡ n → i ≡ j → elements m i d ≡ elements n j d
elements-from d m n i j p q = ap (λ (k : ℕ). elements k i d) p ∙ ap (λ (k : ℕ). elements n k d) q

-- The innermost node is the one that was entered before what it holds.
node-left : (s a b e : Rows) (kind : ℕ) (c : Dressed) → IsTaken s (Enter kind) a → IsListed a c b → IsTaken b Exit e → IsLeft b s.entered.items (length s.rows.items) e
node-left s a b e kind c h w x =
    x s.entered.items (length s.rows.items) (w.entered ∙ h.entered)
    (omega (
      arith,
      ap (λ (l : List Element). length l) w.elements_are,
      ap (λ (l : List Element). length l) h.elements,
      length-append (map element_of a.rows.items) (elements (length a.entered.items) a.offset c),
      length-map b.rows.items element_of,
      length-map a.rows.items element_of,
      length-map s.rows.items element_of,
      length-append (map element_of s.rows.items) (record { depth = length s.entered.items; kind = kind; start = s.offset; end = s.offset + 0 } ∷ []),
    ))

pub listed : (d : Dressed) (s t : Rows) → TakesAll IsTaken s (text_steps d) t → IsListed s d t
listed dressed.End s t h = record {
  elements_are = ap (λ (r : Rows). map element_of r.rows.items) h ∙ sym (append-nil (map element_of s.rows.items));
  entered = ap (λ (r : Rows). r.entered.items) h;
  place = ap (λ (r : Rows). r.offset) h ∙ omega arith;
  sayings = ap (λ (r : Rows). map saying_of r.said.items) h ∙ sym (append-nil (map saying_of s.said.items));
}
listed (dressed.Leaf kind text d) s t h =
    let a = h.0 in
    let p = h.1.0 in
    let w = listed d a t h.1.1 in
    let n = length (encode_utf8_all text) in
    let e : Element = record { depth = length s.entered.items; kind = kind; start = s.offset; end = s.offset + n } in
    record {
      elements_are =
          w.elements_are
          ∙ ap (λ (l : List Element). l ++ elements (length a.entered.items) a.offset d) p.elements
          ∙ append_assoc (map element_of s.rows.items) (e ∷ []) (elements (length a.entered.items) a.offset d)
          ∙ ap (λ (l : List Element). map element_of s.rows.items ++ e ∷ l)
          (elements-from d (length a.entered.items) (length s.entered.items) a.offset (s.offset + n) (ap (λ (l : List ℕ). length l) p.entered) p.place);
      entered = w.entered ∙ p.entered;
      place = omega (arith, w.place, p.place);
      sayings = w.sayings ∙ ap (λ (l : List Said). map saying_of l ++ sayings_of d) p.sayings;
    }
listed (dressed.Said message at d) s t h =
    let a = h.0 in
    let p = h.1.0 in
    let w = listed d a t h.1.1 in
    let m : Saying = record { message = message; place = at } in
    record {
      elements_are =
          w.elements_are
          ∙ ap (λ (l : List Row). map element_of l ++ elements (length a.entered.items) a.offset d) p.elements
          ∙ ap (λ (l : List Element). map element_of s.rows.items ++ l)
          (elements-from d (length a.entered.items) (length s.entered.items) a.offset s.offset (ap (λ (l : List ℕ). length l) p.entered) p.place);
      entered = w.entered ∙ p.entered;
      place = w.place ∙ ap (λ (n : ℕ). n + bytes_of d) p.place;
      sayings =
          w.sayings
          ∙ ap (λ (l : List Saying). l ++ sayings_of d) p.sayings
          ∙ append_assoc (map saying_of s.said.items) (m ∷ []) (sayings_of d);
    }
listed (dressed.Node kind c d) s t h =
    let a = h.0 in
    let p = h.1.0 in
    let parts = takes-split a t (text_steps c) (Exit ∷ text_steps d) h.1.1 in
    let b = parts.0 in
    let w = listed c a b parts.1.0 in
    let e = parts.1.1.0 in
    let x = node-left s a b e kind c p w parts.1.1.1.0 in
    let v = listed d e t parts.1.1.1.1 in
    let old = map element_of s.rows.items in
    let begun : Element = record { depth = length s.entered.items; kind = kind; start = s.offset; end = s.offset + 0 } in
    let beyond = s.offset + bytes_of c in
    let whole : Element = record { depth = length s.entered.items; kind = kind; start = s.offset; end = beyond } in
    let inner = elements (length s.entered.items + 1) s.offset c in
    let after = elements (length s.entered.items) beyond d in
    let deeper : length a.entered.items ≡ length s.entered.items + 1 = ap (λ (l : List ℕ). length l) p.entered ∙ length-append s.entered.items (length s.rows.items ∷ []) in
    let starts : a.offset ≡ s.offset = omega (arith, p.place) in
    let ends : b.offset ≡ beyond = omega (arith, w.place, p.place) in
    let inside : map element_of b.rows.items ≡ old ++ begun ∷ inner =
    w.elements_are
    ∙ ap (λ (l : List Element). l ++ elements (length a.entered.items) a.offset c) p.elements
    ∙ append_assoc old (begun ∷ []) (elements (length a.entered.items) a.offset c)
    ∙ ap (λ (l : List Element). old ++ begun ∷ l) (elements-from c (length a.entered.items) (length s.entered.items + 1) a.offset s.offset deeper starts) in
    let left : map element_of e.rows.items ≡ old ++ whole ∷ inner =
    x.elements
    ∙ ap (λ (n : ℕ). closed n b.offset (map element_of b.rows.items)) (sym (length-map s.rows.items element_of))
    ∙ ap (λ (l : List Element). closed (length old) b.offset l) inside
    ∙ closed-after old begun inner b.offset
    ∙ ap (λ (n : ℕ). old ++ record { depth = length s.entered.items; kind = kind; start = s.offset; end = n } ∷ inner) ends in
    record {
      elements_are =
          v.elements_are
          ∙ ap (λ (l : List Element). l ++ elements (length e.entered.items) e.offset d) left
          ∙ append_assoc old (whole ∷ inner) (elements (length e.entered.items) e.offset d)
          ∙ ap (λ (l : List Element). old ++ whole ∷ (inner ++ l))
          (elements-from d (length e.entered.items) (length s.entered.items) e.offset beyond (ap (λ (l : List ℕ). length l) x.entered) (x.place ∙ ends));
      entered = v.entered ∙ x.entered;
      place = omega (arith, v.place, x.place, ends);
      sayings =
          v.sayings
          ∙ ap (λ (l : List Said). map saying_of l ++ sayings_of d) x.sayings
          ∙ ap (λ (l : List Saying). l ++ sayings_of d) w.sayings
          ∙ ap (λ (l : List Said). (map saying_of l ++ sayings_of c) ++ sayings_of d) p.sayings
          ∙ append_assoc (map saying_of s.said.items) (sayings_of c) (sayings_of d);
    }
