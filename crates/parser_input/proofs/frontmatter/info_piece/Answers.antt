use Rattle.std.proofs.Common.{◌≡◌, ◌≤◌, ◌+◌, ◌-◌, ◌∙◌, ℕ, List, [], sym, ap, take, drop, true, false, chars, refl, arith, Option, Some}
use Rattle.rustc_lexer.specs.Characters.{size, is_whitespace}
use Rattle.rustc_lexer.specs.Scan.{run_len}
use Rattle.rustc_lexer.specs.Shebang.{line_len}
use Rattle.rustc_lexer.proofs.Alike.{none_left}
use Rattle.rustc_lexer.proofs.Sizes.{size-chars, size-parts, size-drop}
use Rattle.parser_input.specs.Lines.{first_line, solid_len}
use Rattle.parser_input.specs.Preface.{Piece, place, info_piece}
use Rattle.parser_input.proofs.Prefaces.{empty-none, some-piece}
use Rattle.parser_input.proofs.frontmatter.info_piece.Goals as goal

abbrev solid_of : List ℕ → List ℕ
solid_of after = drop (run_len is_whitespace (first_line after)) (first_line after)

abbrev info_of : List ℕ → List ℕ
info_of solid = take (solid_len solid) solid

-- the parts take no more bytes than what they are parts of
within : (text after line solid info : List ℕ) → line ≡ first_line after → solid ≡ solid_of after → info ≡ info_of solid → (size line ≤ size after) × (size solid ≤ size line) × (size info ≤ size solid)
within text after line solid info is_line is_solid is_info =
    let whole : size line ≤ size after = omega (arith, ap size is_line, size-parts (line_len after) after) in
    let front : size solid ≤ size line = omega (arith, ap size is_solid, ap size is_line, size-drop (run_len is_whitespace (first_line after)) (first_line after)) in
    let middle : size info ≤ size solid = omega (arith, ap size is_info, size-parts (solid_len solid) solid) in
    (whole, front, middle)

pub returns-then-is_empty : goal.returns-then-is_empty
unfolding info_piece
returns-then-is_empty c =
    let after = c.args.after.now in
    let line = first_line after in
    let is_solid = c.eat_whitespace.ensures ∙ ap (λ (t : List ℕ). drop (run_len is_whitespace t) t) (c.here-solid.ensures ∙ c.first_line-line.ensures) in
    let end = c.eat_solid.ensures ∙ ap (λ (t : List ℕ). drop (solid_len t) t) c.here-end.ensures in
    let is_info = c.until-info.ensures (solid_len c.eat_whitespace.new.self) end ∙ ap (λ (t : List ℕ). info_of t) is_solid in
    empty-none (place c.args.text.now after + place line (solid_of after)) (info_of (solid_of after)) (sym is_info ∙ none_left _ _ c.is_empty.ensures c.if-is_empty.true)

pub overflow_sub-start-2 : goal.overflow_sub-start-2
overflow_sub-start-2 c =
    let is_solid = c.eat_whitespace.ensures ∙ ap (λ (t : List ℕ). drop (run_len is_whitespace t) t) (c.here-solid.ensures ∙ c.first_line-line.ensures) in
    let parts = within c.args.text.now c.args.after.now _ _ (info_of c.eat_whitespace.new.self) c.first_line-line.ensures is_solid refl in
    omega (arith, parts.1, c.remaining-3.ensures, c.remaining-4.ensures)

pub overflow_add-start : goal.overflow_add-start
overflow_add-start c =
    let is_solid = c.eat_whitespace.ensures ∙ ap (λ (t : List ℕ). drop (run_len is_whitespace t) t) (c.here-solid.ensures ∙ c.first_line-line.ensures) in
    let parts = within c.args.text.now c.args.after.now _ _ (info_of c.eat_whitespace.new.self) c.first_line-line.ensures is_solid refl in
    omega (arith, parts.0, parts.1, c.requires, c.remaining.ensures, c.remaining-2.ensures, c.remaining-3.ensures, c.remaining-4.ensures)

pub new-requires : goal.new-requires
new-requires c =
    let is_solid = c.eat_whitespace.ensures ∙ ap (λ (t : List ℕ). drop (run_len is_whitespace t) t) (c.here-solid.ensures ∙ c.first_line-line.ensures) in
    let end = c.eat_solid.ensures ∙ ap (λ (t : List ℕ). drop (solid_len t) t) c.here-end.ensures in
    let is_info = c.until-info.ensures (solid_len c.eat_whitespace.new.self) end in
    let parts = within c.args.text.now c.args.after.now _ _ _ c.first_line-line.ensures is_solid is_info in
    let bytes = size-chars c.as_str.result.now c.as_str.utf8 ∙ ap size c.as_str.ensures in
    omega (arith, bytes, parts.0, parts.1, parts.2, c.requires, c.remaining.ensures, c.remaining-2.ensures, c.remaining-3.ensures, c.remaining-4.ensures)

pub returns : goal.returns
unfolding info_piece
returns c =
    let text = c.args.text.now in
    let after = c.args.after.now in
    let line = first_line after in
    let is_solid = c.eat_whitespace.ensures ∙ ap (λ (t : List ℕ). drop (run_len is_whitespace t) t) (c.here-solid.ensures ∙ c.first_line-line.ensures) in
    let end = c.eat_solid.ensures ∙ ap (λ (t : List ℕ). drop (solid_len t) t) c.here-end.ensures in
    let is_info = c.until-info.ensures (solid_len c.eat_whitespace.new.self) end ∙ ap (λ (t : List ℕ). info_of t) is_solid in
    let some : info_of (solid_of after) ≡ [] → ⊥ = λ e. let z : true ≡ false = sym (c.is_empty.ensures.1 (is_info ∙ e)) ∙ c.if-is_empty.false in absurd (cc) in
    let start : c.remaining.result - c.remaining-2.result + (c.remaining-3.result - c.remaining-4.result) ≡ place text after + place line (solid_of after) =
    rw (c.remaining.ensures, c.remaining-2.ensures, c.remaining-3.ensures, c.remaining-4.ensures, c.first_line-line.ensures, is_solid) refl in
    let K : ℕ → List ℕ → Option Piece = λ n t. Some record { start = n; text = t } in
    let value = ap (λ (p : Piece). Some p) c.new.ensures in
    value ∙ ap (λ n. K n (chars c.as_str.result.now)) start ∙ ap (λ t. K (place text after + place line (solid_of after)) t) (c.as_str.ensures ∙ is_info)
    ∙ some-piece (place text after + place line (solid_of after)) (info_of (solid_of after)) some
