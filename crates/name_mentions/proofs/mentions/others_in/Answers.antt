use Rattle.std.proofs.Common.{◌≡◌, ◌∙◌, ℕ, ◌+◌, ◌<◌, ◌++◌, List, ap, sym, refl, arith, length}
use Rattle.rustc_lexer.specs.Characters.{size}
use Rattle.rustc_lexer.proofs.Sizes.{size-chars}
use Rattle.parser_input.specs.Kind.{raw_of}
use Rattle.parser_input.specs.Stored.{leaf_at, offset}
use Rattle.name_mentions.specs.Mentions.{mentions_by, mentions_of_leaf, place_of}
use Rattle.name_mentions.specs.declared.place.Mention.{Mention}
use Rattle.name_mentions.proofs.MentionLemmas.{leaf-mentions, mentions-end, mentions-more}
use Rattle.name_mentions.proofs.mentions.others_in.Goals as goal

pub loop-i-init : goal.loop-i-init
loop-i-init c = rw c.new-found.ensures.items refl

pub push_token-requires : goal.push_token-requires
push_token-requires c =
    let l = leaf_at c.args.tokens.now.leaves c.loop-i.i in
    let long : length c.text.result.now ≡ size l.leaf.text = size-chars c.text.result.now c.text.utf8 ∙ ap size c.text.ensures in
    let bytes : length c.as_bytes-text.result.now ≡ length c.text.result.now = ap length c.as_bytes-text.ensures.value in
    let start = c.text_range-range.ensures.start in
    let end = c.text_range-range.ensures.end in
    omega arith

pub loop-i-preserved : goal.loop-i-preserved
loop-i-preserved c =
    let name = c.args.name.now in
    let leaves = c.args.tokens.now.leaves in
    let i = c.loop-i.i in
    let l = leaf_at leaves i in
    let h : i < length leaves = omega arith in
    let text = c.text.result.now in
    let now = c.push_token.new.found.items in
    let found = c.loop-i.found.items in
    let kind = raw_of c.kind.result in
    let bytes = c.as_bytes-text.result.now in
    let start = c.text_range-range.result.start in
    let pushed : now ≡ found ++ mentions_by (place_of kind bytes) c.as_bytes.result.now start bytes = c.in_ok-push_token.ensures in
    let named : now ≡ found ++ mentions_by (place_of kind text) name start text =
    pushed
    ∙ ap (λ (b : List ℕ). found ++ mentions_by (place_of kind b) c.as_bytes.result.now start b) c.as_bytes-text.ensures.value
    ∙ ap (λ (n : List ℕ). found ++ mentions_by (place_of kind text) n start text) c.as_bytes.ensures.value in
    let here : now ≡ found ++ mentions_of_leaf name (offset leaves i) l =
    named
    ∙ ap (λ (ms : List Mention). found ++ ms) (leaf-mentions name kind text start l c.text.utf8 c.kind.ensures c.text.ensures)
    ∙ ap (λ (at : ℕ). found ++ mentions_of_leaf name at l) c.text_range-range.ensures.start in
    mentions-more now found name leaves i h here ∙ c.loop-i.invariant

pub returns : goal.returns
returns c =
    let name = c.args.name.now in
    let leaves = c.args.tokens.now.leaves in
    let i = c.loop-i.i in
    sym (mentions-end c.loop-i.found.items name (offset leaves i) leaves i (omega arith)) ∙ c.loop-i.invariant
