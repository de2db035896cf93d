-- Equal prefaces are recognized by their bytes, those of the shebangs, and whether there are frontmatters.
use Rattle.std.proofs.Common.{◌≡◌, ◌≤◌, chars, sym, ◌∙◌, ap, arith}
use Rattle.rustc_lexer.specs.Characters.{size}
use Rattle.plain_names.specs.LeafNames.{texts}
use Rattle.rust_document.specs.KeptTokens.{preface_size}
use Rattle.rust_document.proofs.Boundaries.{in-order}
use Rattle.rust_document.proofs.ContentEdits.{sizes, begun, edited-behind}
use Rattle.rust_document.proofs.Prefaces.{flags-differ, flags-equal, same-fence, same-preface, same-shebang, shebangs-differ, shebangs-equal}
use Rattle.rust_document.proofs.content_edit.kept_preface.Goals as goal

pub overflow_sub-bytes : goal.overflow_sub-bytes
overflow_sub-bytes c =
    let e = c.args.edit.now in
    omega (arith, sizes e.before.now c.args.kept.now c.requires.edit.before_text c.utf8.kept c.requires.kept)

pub overflow_sub-edit : goal.overflow_sub-edit
overflow_sub-edit c =
    let e = c.args.edit.now in
    let after = c.parts_of-after in
    omega (arith, sizes e.after.now after.result.content.now c.requires.edit.after_text after.ensures.text after.ensures.content)

pub returns-then-bytes-from : goal.returns-then-bytes-from
returns-then-bytes-from c = λ same.
    let e = c.args.edit.now in
    let low : preface_size e.before.now ≤ e.range.start.0 = same.behind in
    let at : c.from.result ≡ e.range.start.0 = cc in
    absurd (omega (arith, low, at, c.if-bytes-from.true, sizes e.before.now c.args.kept.now c.requires.edit.before_text c.utf8.kept c.requires.kept))

pub returns-then-edit-after : goal.returns-then-edit-after
returns-then-edit-after c = λ same.
    let e = c.args.edit.now in
    let after = c.parts_of-after in
    let long : preface_size e.before.now ≡ preface_size e.after.now = ap (λ p. size (texts p)) same.same in
    absurd
    (c.if-edit-after.true
    (omega (
      arith,
      long,
      sizes e.before.now c.args.kept.now c.requires.edit.before_text c.utf8.kept c.requires.kept,
      sizes e.after.now after.result.content.now c.requires.edit.after_text after.ensures.text after.ensures.content,
    )))

pub returns-then-ne : goal.returns-then-ne
returns-then-ne c = λ same.
    let e = c.args.edit.now in
    let a = c.parts_of-before in
    let b = c.parts_of-after in
    shebangs-differ a.result.shebang b.result.shebang c.ne.result c.ne.ensures c.if-ne.true
    (a.ensures.shebang ∙ same-shebang (chars e.before.now) (chars e.after.now) same.same ∙ sym b.ensures.shebang)

pub returns-then-before-after : goal.returns-then-before-after
returns-then-before-after c = λ same.
    let e = c.args.edit.now in
    let a = c.parts_of-before in
    let b = c.parts_of-after in
    flags-differ a.result.has_frontmatter b.result.has_frontmatter c.if-before-after.true
    (a.ensures.frontmatter ∙ same-fence (chars e.before.now) (chars e.after.now) same.same ∙ sym b.ensures.frontmatter)

pub returns : goal.returns
returns c =
    let e = c.args.edit.now in
    let a = c.parts_of-before in
    let b = c.parts_of-after in
    let ks = c.args.kept.now in
    let own = sizes e.before.now ks c.requires.edit.before_text c.utf8.kept c.requires.kept in
    let other = sizes e.after.now b.result.content.now c.requires.edit.after_text b.ensures.text b.ensures.content in
    let at : c.from.result ≡ e.range.start.0 = cc in
    let low : preface_size e.before.now ≤ e.range.start.0 = omega (arith, own, at, c.if-bytes-from.false) in
    let ordered = in-order e.before.now e.range.start.0 e.range.end.0 c.requires.edit.can_be in
    let long : preface_size e.before.now ≡ preface_size e.after.now = omega (arith, own, other, c.if-edit-after.false) in
    let begins = c.requires.edit.after_is ∙ edited-behind e.before.now ks c.requires.edit.before_text c.utf8.kept c.requires.kept e.range.start.0 e.range.end.0 e.put.now low ordered in
    let same =
    same-preface (chars e.before.now) (chars e.after.now) _
    (begun e.before.now ks c.requires.edit.before_text c.utf8.kept c.requires.kept e.after.now _ begins)
    (sym a.ensures.shebang ∙ shebangs-equal a.result.shebang b.result.shebang c.ne.result c.ne.ensures c.if-ne.false ∙ b.ensures.shebang)
    (sym a.ensures.frontmatter ∙ flags-equal a.result.has_frontmatter b.result.has_frontmatter c.if-before-after.false ∙ b.ensures.frontmatter)
    long in
    (record { same = same; behind = low }, omega (arith, own))
