use Rattle.std.proofs.Common.{ℕ, List, length, chars, sym, ◌∙◌, ap, subst, arith}
use Rattle.std.proofs.lemmas.Str.{IsUtf8-string_bytes}
use Rattle.std.specs.String.{string_bytes}
use Rattle.std.specs.Str.{IsUtf8, IsCharBoundary}
use Rattle.rustc_lexer.specs.Tokens.{token_list}
use Rattle.lexed_text.proofs.Edits.{begun, front-in, front-left, front-seam, edited-is, renewed-all, cut-start, cut-end, restored-is}
use Rattle.lexed_text.proofs.lexed_text.LexedText.edit.Goals as goal

pub overflow_sub-after_front : goal.overflow_sub-after_front
overflow_sub-after_front c =
    let b = begun c.args.self.now c.args.range.start c.args.range.end c.args.replacement.now c.self.view_is (IsUtf8-string_bytes c.self.inside.text) c.requires c.self.invariant.0 c.as_str-old.ensures.value c.as_slice-2.ensures.value c.range-2.ensures.value c.find_front-front.ensures in
    front-in b

pub range_from-rest-requires : goal.range_from-rest-requires
range_from-rest-requires c =
    let b = begun c.args.self.now c.args.range.start c.args.range.end c.args.replacement.now c.self.view_is (IsUtf8-string_bytes c.self.inside.text) c.requires c.self.invariant.0 c.as_str-old.ensures.value c.as_slice-2.ensures.value c.range-2.ensures.value c.find_front-front.ensures in
    let is = edited-is c.args.self.now (string_bytes c.try_reserve.new.self) (string_bytes c.replace_range.new.self) c.args.replacement.now c.args.range.start c.args.range.end (c.in_ok-try_reserve.ensures.bytes ∙ c.self.view_is) c.in_ok-replace_range.ensures.bytes in
    let seam = front-seam b c.utf8.replacement is (IsUtf8-string_bytes c.replace_range.new.self) in
    λ _. subst (λ (z : List ℕ). IsCharBoundary z c.find_front-front.result.bytes) (sym c.as_str-new.ensures.value) seam.boundary

pub renew-requires-clause-is_left : goal.renew-requires-clause-is_left
renew-requires-clause-is_left c =
    let b = begun c.args.self.now c.args.range.start c.args.range.end c.args.replacement.now c.self.view_is (IsUtf8-string_bytes c.self.inside.text) c.requires c.self.invariant.0 c.as_str-old.ensures.value c.as_slice-2.ensures.value c.range-2.ensures.value c.find_front-front.ensures in
    front-left b

pub invariant_of-self-in-Ok : goal.invariant_of-self-in-Ok
invariant_of-self-in-Ok c =
    let b = begun c.args.self.now c.args.range.start c.args.range.end c.args.replacement.now c.self.view_is (IsUtf8-string_bytes c.self.inside.text) c.requires c.self.invariant.0 c.as_str-old.ensures.value c.as_slice-2.ensures.value c.range-2.ensures.value c.find_front-front.ensures in
    let is = edited-is c.args.self.now (string_bytes c.try_reserve.new.self) (string_bytes c.replace_range.new.self) c.args.replacement.now c.args.range.start c.args.range.end (c.in_ok-try_reserve.ensures.bytes ∙ c.self.view_is) c.in_ok-replace_range.ensures.bytes in
    ((renewed-all b c.utf8.replacement is (IsUtf8-string_bytes c.replace_range.new.self) c.as_str-new.ensures.value c.range_from-rest.ensures.value c.in-Ok.ensures.renewed).1, c.in-Ok.ensures.runs)

pub returns-in-Ok-clause-kept : goal.returns-in-Ok-clause-kept
returns-in-Ok-clause-kept c =
    let b = begun c.args.self.now c.args.range.start c.args.range.end c.args.replacement.now c.self.view_is (IsUtf8-string_bytes c.self.inside.text) c.requires c.self.invariant.0 c.as_str-old.ensures.value c.as_slice-2.ensures.value c.range-2.ensures.value c.find_front-front.ensures in
    let is = edited-is c.args.self.now (string_bytes c.try_reserve.new.self) (string_bytes c.replace_range.new.self) c.args.replacement.now c.args.range.start c.args.range.end (c.in_ok-try_reserve.ensures.bytes ∙ c.self.view_is) c.in_ok-replace_range.ensures.bytes in
    (renewed-all b c.utf8.replacement is (IsUtf8-string_bytes c.replace_range.new.self) c.as_str-new.ensures.value c.range_from-rest.ensures.value c.in-Ok.ensures.renewed).0

pub replace_range-restored-requires-clause-start_boundary : goal.replace_range-restored-requires-clause-start_boundary
replace_range-restored-requires-clause-start_boundary c =
    let u : IsUtf8 c.args.self.now = subst IsUtf8 c.self.view_is (IsUtf8-string_bytes c.self.inside.text) in
    let is = edited-is c.args.self.now (string_bytes c.try_reserve.new.self) (string_bytes c.replace_range.new.self) c.args.replacement.now c.args.range.start c.args.range.end (c.in_ok-try_reserve.ensures.bytes ∙ c.self.view_is) c.in_ok-replace_range.ensures.bytes in
    let at = cut-start c.args.self.now c.args.range.start c.args.range.end c.args.replacement.now (string_bytes c.replace_range.new.self) u c.utf8.replacement c.requires is in
    (at.0, λ _. at.1)

pub replace_range-restored-requires-clause-end_boundary : goal.replace_range-restored-requires-clause-end_boundary
replace_range-restored-requires-clause-end_boundary c =
    let u : IsUtf8 c.args.self.now = subst IsUtf8 c.self.view_is (IsUtf8-string_bytes c.self.inside.text) in
    let is = edited-is c.args.self.now (string_bytes c.try_reserve.new.self) (string_bytes c.replace_range.new.self) c.args.replacement.now c.args.range.start c.args.range.end (c.in_ok-try_reserve.ensures.bytes ∙ c.self.view_is) c.in_ok-replace_range.ensures.bytes in
    let at = cut-end c.args.self.now c.args.range.start c.args.range.end c.args.replacement.now (string_bytes c.replace_range.new.self) u c.utf8.replacement c.requires is in
    (at.0, λ _. at.1)

pub invariant_of-self-in-Err : goal.invariant_of-self-in-Err
invariant_of-self-in-Err c =
    let is = edited-is c.args.self.now (string_bytes c.try_reserve.new.self) (string_bytes c.replace_range.new.self) c.args.replacement.now c.args.range.start c.args.range.end (c.in_ok-try_reserve.ensures.bytes ∙ c.self.view_is) c.in_ok-replace_range.ensures.bytes in
    let len = ap length (c.as_str.ensures.value ∙ c.in_ok-removed.ensures.ok) in
    let same = restored-is c.args.self.now c.args.replacement.now c.as_str-old.result.now c.as_str.result.now (string_bytes c.replace_range.new.self) (string_bytes c.replace_range-restored.new.self) c.args.range.start c.args.range.end c.replace_range-restored.result c.requires (c.as_str-old.ensures.value ∙ c.self.view_is) (c.as_str.ensures.value ∙ c.in_ok-removed.ensures.ok ∙ c.range.ensures.value) is c.replace_range-restored.ensures.bytes c.replace_range-restored.ensures.full (λ full. omega (arith, full, len, c.range.ensures.len, c.in_ok-try_reserve.ensures.ok, c.in_ok-replace_range.ensures.len)) in
    let list = c.self.invariant.0 ∙ ap (λ (z : List ℕ). token_list (chars z)) (c.self.view_is ∙ sym same) in
    (c.in-Err.ensures.refused ∙ list, c.in-Err.ensures.runs)

pub returns-clause-refused : goal.returns-clause-refused
returns-clause-refused c =
    let is = edited-is c.args.self.now (string_bytes c.try_reserve.new.self) (string_bytes c.replace_range.new.self) c.args.replacement.now c.args.range.start c.args.range.end (c.in_ok-try_reserve.ensures.bytes ∙ c.self.view_is) c.in_ok-replace_range.ensures.bytes in
    let len = ap length (c.as_str.ensures.value ∙ c.in_ok-removed.ensures.ok) in
    let same = restored-is c.args.self.now c.args.replacement.now c.as_str-old.result.now c.as_str.result.now (string_bytes c.replace_range.new.self) (string_bytes c.replace_range-restored.new.self) c.args.range.start c.args.range.end c.replace_range-restored.result c.requires (c.as_str-old.ensures.value ∙ c.self.view_is) (c.as_str.ensures.value ∙ c.in_ok-removed.ensures.ok ∙ c.range.ensures.value) is c.replace_range-restored.ensures.bytes c.replace_range-restored.ensures.full (λ full. omega (arith, full, len, c.range.ensures.len, c.in_ok-try_reserve.ensures.ok, c.in_ok-replace_range.ensures.len)) in
    same
