-- The calls of a builder over a text that is given whole, on what it keeps.
use Rattle.std.proofs.Common.{◌≡◌, ℕ, ◌+◌, List, [], ◌∷◌, ◌++◌, length, take, drop, reverse, refl, ap, ◌∙◌, subst, string_bytes}
use Rattle.rowan_green.specs.Leaf.{Leaf}
use Rattle.rowan_green.specs.Term.{Term, tree_of}
use Rattle.rowan_green.specs.declared.utility_types.NodeOrToken.TheVariants.{Node, Token}
use Rattle.rowan_green.specs.declared.arena.Arena.{Arena}
use Rattle.rowan_green.specs.declared.arena.Entry.{Entry}
use Rattle.rowan_green.specs.declared.builder.OpenNode.{OpenNode}
use Rattle.rowan_green.specs.Arena.{piece, terms_over}
use Rattle.rowan_green.specs.OpenNodes.{IsNested, building_of}
use Rattle.rowan_green.specs.TextBuilding.{TextBuilding, with_piece, with_end}
use Rattle.rowan_green.proofs.OpenNodeLemmas.{token_built, close_built}

-- what these are seen as
abbrev pub seen_as : List OpenNode → Arena → List Entry → ℕ → TextBuilding
seen_as os a done n = record { building = building_of os (terms_over a done) n; text = string_bytes a.text; used = a.used }

pub piece_built :
    (b : TextBuilding) (os : List OpenNode) (a new : Arena) (done more : List Entry) (n kind len : ℕ) → seen_as os a done n ≡ b → IsNested (reverse os) (length (terms_over a done))
    → terms_over new more ≡ terms_over a done ++ Token (record { kind = kind; text = piece (string_bytes a.text) a.used len }) ∷ [] → string_bytes new.text ≡ string_bytes a.text → new.used ≡ a.used + len → seen_as os new more n ≡ with_piece b kind len
piece_built b os a new done more n kind len e s ok text used =
    let es = terms_over a done in
    let l : Leaf = record { kind = kind; text = piece (string_bytes a.text) a.used len } in
    let built = ap (λ (ts : List Term). building_of os ts n) ok ∙ token_built (building_of os es n) os es n l refl s in
    let P : TextBuilding → Type 0 = λ x. seen_as os new more n ≡ with_piece x kind len in
    subst P e (λ i. record { building = built i; text = text i; used = used i })

pub end_built :
    (b : TextBuilding) (os rest : List OpenNode) (o : OpenNode) (a new : Arena) (done more : List Entry) (n : ℕ) → seen_as os a done n ≡ b → reverse os ≡ o ∷ reverse rest → IsNested (reverse os) (length (terms_over a done))
    → terms_over new more ≡ take o.first (terms_over a done) ++ Node (tree_of o.kind (drop o.first (terms_over a done))) ∷ [] → string_bytes new.text ≡ string_bytes a.text → new.used ≡ a.used → seen_as rest new more n ≡ with_end b
end_built b os rest o a new done more n e r s ok text used =
    let es = terms_over a done in
    let built = close_built (building_of os es n) os rest o es (terms_over new more) n refl r s ok in
    let P : TextBuilding → Type 0 = λ x. seen_as rest new more n ≡ with_end x in
    subst P e (λ i. record { building = built i; text = text i; used = used i })
