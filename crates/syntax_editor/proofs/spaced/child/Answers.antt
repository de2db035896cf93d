-- The child with an index is the element with this index in the list of all children.
use Rattle.std.proofs.Common.{◌≡◌, ℕ, zero, suc, ◌+◌, List, [], ◌∷◌, Some, None, refl, ap, sym, ◌∙◌, arith, map, slice_get, option_map, Option, IfOk, subst}
use Rattle.std.proofs.lemmas.Option.{slice_get-map}
use Rattle.rowan_green.specs.Term.{Term}
use Rattle.rowan.specs.Place.{Place, below, terms_below}
use Rattle.rowan.specs.Around.{Cursor, children, cursor_at, cursor_in, cursor_of, numbered}
use Rattle.syntax_tree.specs.Handle.{with_cursor}
use Rattle.syntax_tree.specs.declared.element.SyntaxElement.{SyntaxElement}
use Rattle.syntax_editor.proofs.spaced.child.Goals as goal

numbered_at : (p : Place) (j : ℕ) (es : List Term) (i : ℕ) → slice_get (numbered p j es) i ≡ cursor_in (below p (j + i)) (slice_get es i)
numbered_at p j [] i = refl
numbered_at p j (e ∷ es) zero =
    let n : j ≡ j + 0 = omega arith in
    ap (λ (k : ℕ). Some (cursor_of (below p k) e)) n
numbered_at p j (e ∷ es) (suc i) =
    let n : j + 1 + i ≡ j + suc i = omega arith in
    numbered_at p (j + 1) es i ∙ ap (λ (k : ℕ). cursor_in (below p k) (slice_get es i)) n

child_at : (n : ℕ) (p : Place) (i : ℕ) → option_map (with_cursor n) (cursor_at (below p i)) ≡ slice_get (map (with_cursor n) (children p)) i
child_at n p i =
    let number : 0 + i ≡ i = omega arith in
    let standing = numbered_at p 0 (terms_below p) i ∙ ap (λ (k : ℕ). cursor_in (below p k) (slice_get (terms_below p) i)) number in
    sym (slice_get-map (with_cursor n) (children p) i ∙ ap (option_map (with_cursor n)) standing)

pub returns : goal.returns
returns c =
    let parent = c.args.parent.now in
    let P : Option SyntaxElement → Type 0 = λ child. IfOk c.nth_child_or_token.result (λ r. r ≡ child) in
    subst P (child_at parent.number parent.place c.args.number) c.nth_child_or_token.ensures
