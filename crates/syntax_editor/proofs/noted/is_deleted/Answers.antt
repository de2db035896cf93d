use Rattle.std.proofs.Common.{◌≡◌, ap, ◌∙◌, map, arith}
use Rattle.std.proofs.lemmas.List.{length-map}
use Rattle.std.specs.Option.{unwrap_or}
use Rattle.tree_rewrite.specs.Recorded.{recorded}
use Rattle.syntax_editor.specs.ByWay.{way_of, number_at}
use Rattle.syntax_editor.proofs.NotedLemmas.{start-within, deleted-after, any-deletion}
use Rattle.syntax_editor.proofs.noted.is_deleted.Goals as goal

pub split_at-requires : goal.split_at-requires
split_at-requires c =
    let at : c.unwrap_or-start.result ≡ unwrap_or (number_at c.args.singles.now (way_of c.args.element.now)) c.args.noted = c.unwrap_or-start.ensures ∙ ap (λ o. unwrap_or o c.args.noted) c.number_at.ensures in
    let within = start-within c.args.singles.now c.args.noted (map recorded c.args.changes.now) (way_of c.args.element.now) c.requires in
    let long = length-map c.args.changes.now recorded in
    omega arith

pub returns : goal.returns
returns c = λ top sound.
    let at : c.unwrap_or-start.result ≡ unwrap_or (number_at c.args.singles.now (way_of c.args.element.now)) c.args.noted = c.unwrap_or-start.ensures ∙ ap (λ o. unwrap_or o c.args.noted) c.number_at.ensures in
    c.has_deletion_of.ensures
    ∙ deleted-after c.args.singles.now c.args.noted c.args.changes.now c.split_at.result.1.now c.args.element.now c.unwrap_or-start.result c.split_at.ensures.back at c.requires
    ∙ any-deletion top c.args.element.now c.args.changes.now sound
