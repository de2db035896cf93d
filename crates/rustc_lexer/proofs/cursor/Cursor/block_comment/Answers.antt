use Rattle.std.proofs.Common.{◌≡◌, ◌∙◌, Option, sym, ap, drop, take}
use Rattle.rustc_lexer.specs.Scan.{skip, block, ◌▸◌}
use Rattle.rustc_lexer.specs.Reads.{Reads}
use Rattle.rustc_lexer.specs.Lexeme.{block_comment, doc_style}
use Rattle.rustc_lexer.specs.declared.token.DocStyle.{DocStyle}
use Rattle.rustc_lexer.specs.declared.token.TokenKind.{TokenKind}
use Rattle.rustc_lexer.specs.declared.token.TokenKind.TheVariants.{BlockComment}
use Rattle.rustc_lexer.proofs.Reading.{reads-next, reads-two, reads-spelled, reads-give}
use Rattle.rustc_lexer.proofs.cursor.Cursor.block_comment.Goals as goal

pub until-requires : goal.until-requires
until-requires c =
    let r : Reads (skip 2 ▸ λ _. block 0) c.args.self.now _ c.eat_block-terminated.new.self = reads-next _ (reads-two c.bump.ensures c.bump-2.ensures) (c.eat_block-terminated.ensures) in
    (_, r.rest_is ∙ ap (λ z. drop ((skip 2 ▸ λ _. block 0) c.args.self.now).taken z) (sym c.here-start.ensures))

pub returns : goal.returns
unfolding block_comment
returns c =
    let n = ((skip 2 ▸ λ _. block 0) c.args.self.now).taken in
    let r : Reads (skip 2 ▸ λ _. block 0) c.args.self.now _ c.eat_block-terminated.new.self = reads-next _ (reads-two c.bump.ensures c.bump-2.ensures) (c.eat_block-terminated.ensures) in
    let text : c.until.result ≡ take n c.args.self.now =
    c.until.ensures n (r.rest_is ∙ ap (λ z. drop n z) (sym c.here-start.ensures)) ∙ ap (λ z. take n z) c.here-start.ensures in
    let K : Option DocStyle → TokenKind = λ d. BlockComment d c.eat_block-terminated.result in
    reads-next _ (reads-spelled r) (reads-give (ap K (sym (c.doc_style.ensures ∙ ap doc_style text))))
