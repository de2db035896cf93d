use Rattle.std.proofs.Common.{◌≡◌, ◌∙◌, ◌==◌, not, Option, sym, ap, drop, take}
use Rattle.rustc_lexer.specs.Characters.{line_feed}
use Rattle.rustc_lexer.specs.Scan.{skip, run, ◌▸◌}
use Rattle.rustc_lexer.specs.Reads.{Reads}
use Rattle.rustc_lexer.specs.Lexeme.{line_comment, doc_style}
use Rattle.rustc_lexer.specs.declared.token.DocStyle.{DocStyle}
use Rattle.rustc_lexer.specs.declared.token.TokenKind.{TokenKind}
use Rattle.rustc_lexer.specs.declared.token.TokenKind.TheVariants.{LineComment}
use Rattle.rustc_lexer.proofs.Reading.{reads-next, reads-two, reads-run, reads-spelled, reads-give}
use Rattle.rustc_lexer.proofs.cursor.Cursor.line_comment.Goals as goal

pub until-requires : goal.until-requires
until-requires c =
    let r : Reads (skip 2 ▸ λ _. run (λ c. not (c == line_feed))) c.args.self.now _ c.eat_line.new.self = reads-next _ (reads-two c.bump.ensures c.bump-2.ensures) (reads-run _ c.eat_line.ensures) in
    (_, r.rest_is ∙ ap (λ z. drop ((skip 2 ▸ λ _. run (λ c. not (c == line_feed))) c.args.self.now).taken z) (sym c.here-start.ensures))

pub returns : goal.returns
unfolding line_comment
returns c =
    let n = ((skip 2 ▸ λ _. run (λ c. not (c == line_feed))) c.args.self.now).taken in
    let r : Reads (skip 2 ▸ λ _. run (λ c. not (c == line_feed))) c.args.self.now _ c.eat_line.new.self = reads-next _ (reads-two c.bump.ensures c.bump-2.ensures) (reads-run _ c.eat_line.ensures) in
    let text : c.until.result ≡ take n c.args.self.now =
    c.until.ensures n (r.rest_is ∙ ap (λ z. drop n z) (sym c.here-start.ensures)) ∙ ap (λ z. take n z) c.here-start.ensures in
    let K : Option DocStyle → TokenKind = λ d. LineComment d in
    reads-next _ (reads-spelled r) (reads-give (ap K (sym (c.doc_style.ensures ∙ ap doc_style text))))
