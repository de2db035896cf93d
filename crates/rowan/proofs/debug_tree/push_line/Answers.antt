use Rattle.std.proofs.Common.{◌≡◌, ap, sym, ◌∙◌}
use Rattle.std.specs.Prelude.{string_bytes}
use Rattle.rowan.specs.Place.{kind_at, start_of, end_of}
use Rattle.rowan.specs.Around.{place_in}
use Rattle.rowan.specs.Debug.{line_front, line_text, line_end}
use Rattle.rowan.proofs.Printing.{line_done}
use Rattle.rowan.proofs.debug_tree.push_line.Goals as goal

pub returns-in_ok-push_text-in-Token-clause-line : goal.returns-in_ok-push_text-in-Token-clause-line
returns-in_ok-push_text-in-Token-clause-line g c =
    let place = place_in c.args.element.now in
    let name = c.kind_name-name.result.now in
    let kind = g.L.Language.name_of (g.L.Language.from_raw (kind_at place)) in
    let k : name ≡ kind = c.kind_name-name.ensures ∙ ap g.L.Language.name_of c.kind.ensures in
    let s : c.start.result.0 ≡ start_of place = ap (λ v. v.0) c.start.ensures ∙ c.text_range-range.ensures.start in
    let e : c.end.result.0 ≡ end_of place = ap (λ v. v.0) c.end.ensures ∙ c.text_range-range.ensures.end in
    let f : line_front c.args.depth name c.start.result.0 c.end.result.0 ≡ line_front c.args.depth kind (start_of place) (end_of place) = ap (λ v. line_front c.args.depth v c.start.result.0 c.end.result.0) k ∙ ap (λ v. line_front c.args.depth kind v c.end.result.0) s ∙ ap (λ v. line_front c.args.depth kind (start_of place) v) e in
    line_done (string_bytes c.args.to.now) (string_bytes c.push_front.new.to) (string_bytes c.push_text.new.to) _ _ (line_text c.text.result.now) (line_end c.args.element.now) c.in_ok-push_front.ensures.front f c.in_ok-push_text-in-Token.ensures (ap line_end c.in-Token.is ∙ ap line_text (sym c.text.ensures))
