-- An edit behind the preface is one of the content.
use Rattle.std.proofs.Common.{◌≡◌, ℕ, ◌-◌, ◌≤◌, List, false, true, chars, length, sym, ◌∙◌, ap, subst, refl, arith, drop}
use Rattle.std.specs.Str.{IsUtf8}
use Rattle.parser_input.specs.Lexed.{content}
use Rattle.rust_document.specs.Edit.{edited}
use Rattle.rust_document.specs.KeptTokens.{preface_size}
use Rattle.rust_document.proofs.ContentEdits.{behind, can-edit-at, can-edit-behind, kept-at, kept-content, leaves-tell, leaves-told}
use Rattle.rust_document.proofs.content_edit.edit_content.Goals as goal

less : (a b p q : ℕ) → a ≡ b → p ≡ q → a - p ≡ b - q
less a b p q e f = rw (e, f) refl

pub edit-requires : goal.edit-requires
edit-requires c =
    let e = c.args.edit.now in
    let u = subst IsUtf8 c.text.ensures c.text.utf8 in
    let at : c.from.result ≡ e.range.start.0 = cc in
    let to : c.from-2.result ≡ e.range.end.0 = cc in
    let fits : length (edited e.before.now e.range.start.0 e.range.end.0 e.put.now) ≤ 16777216 =
    omega (arith, c.requires.edit.fits, ap (λ (z : List ℕ). length z) c.requires.edit.after_is) in
    can-edit-at c.args.kept.now c.in_ok-edited.edited _ _ _ _ (length e.put.now) c.in_ok-edited.ensures (less _ _ _ _ at c.in-Some.ensures.1)
    (less _ _ _ _ to c.in-Some.ensures.1)
    (can-edit-behind e.before.now c.args.kept.now c.requires.edit.before_text u c.requires.kept e.range.start.0 e.range.end.0 e.put.now
    c.requires.edit.can_be c.in-Some.ensures.0.behind fits)

pub returns-then-has_split-2-clause-content : goal.returns-then-has_split-2-clause-content
returns-then-has_split-2-clause-content c =
    let e = c.args.edit.now in
    let u = subst IsUtf8 c.text.ensures c.text.utf8 in
    let at : c.from.result ≡ e.range.start.0 = cc in
    let to : c.from-2.result ≡ e.range.end.0 = cc in
    kept-content e.before.now c.args.kept.now c.in_ok-edited.edited e.put.now e.after.now _ e.range.start.0 e.range.end.0 _ _ c.requires.edit.before_text u
    c.requires.kept c.requires.edit.can_be c.requires.edit.after_is c.in-Some.ensures.0 c.in_ok-edited.ensures (less _ _ _ _ at c.in-Some.ensures.1)
    (less _ _ _ _ to c.in-Some.ensures.1) c.in_ok-counts.ensures.text

pub returns-clause-content : goal.returns-clause-content
returns-clause-content c =
    let e = c.args.edit.now in
    let u = subst IsUtf8 c.text.ensures c.text.utf8 in
    let at : c.from.result ≡ e.range.start.0 = cc in
    let to : c.from-2.result ≡ e.range.end.0 = cc in
    kept-content e.before.now c.args.kept.now c.in_ok-edited.edited e.put.now e.after.now _ e.range.start.0 e.range.end.0 _ _ c.requires.edit.before_text u
    c.requires.kept c.requires.edit.can_be c.requires.edit.after_is c.in-Some.ensures.0 c.in_ok-edited.ensures (less _ _ _ _ at c.in-Some.ensures.1)
    (less _ _ _ _ to c.in-Some.ensures.1) c.in_ok-counts.ensures.text

pub returns-then-has_split-2-clause-counts : goal.returns-then-has_split-2-clause-counts
returns-then-has_split-2-clause-counts c = λ leaves.
    let e = c.args.edit.now in
    let own = returns-then-has_split-2-clause-content c in
    let none = c.has_split-2.ensures.1 (leaves-tell c.args.edition c.tokens-2.result.now (content (chars e.after.now)) _ c.tokens-2.ensures own leaves.new_tokens) in
    let z : false ≡ true = sym none ∙ c.if-has_split-2.true in
    cc

pub returns-clause-counts : goal.returns-clause-counts
returns-clause-counts c =
    let e = c.args.edit.now in
    let ks = c.args.kept.now in
    let u = subst IsUtf8 c.text.ensures c.text.utf8 in
    let p = preface_size e.before.now in
    let at : c.from.result ≡ e.range.start.0 = cc in
    let to : c.from-2.result ≡ e.range.end.0 = cc in
    let own = returns-clause-content c in
    let same = c.in_ok-edited.ensures ∙ sym (behind e.before.now ks c.requires.edit.before_text u c.requires.kept) in (
      record {
        keeps_preface = c.in-Some.ensures.0;
        old_tokens = leaves-told c.args.edition c.tokens.result.now (content (chars e.before.now)) _ c.tokens.ensures c.requires.kept (c.has_split.ensures.0 c.if-has_split.false);
        new_tokens = leaves-told c.args.edition c.tokens-2.result.now (content (chars e.after.now)) _ c.tokens-2.ensures own (c.has_split-2.ensures.0 c.if-has_split-2.false);
      },
      kept-at (drop p e.before.now) c.in_ok-edited.edited e.put.now (e.range.start.0 - p) (e.range.end.0 - p) _ _ c.in_ok-counts.counts same
          (less _ _ _ _ at c.in-Some.ensures.1) (less _ _ _ _ to c.in-Some.ensures.1) c.in_ok-counts.ensures.kept,
    )
