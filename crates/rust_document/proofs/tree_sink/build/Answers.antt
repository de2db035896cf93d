-- What is finished after all steps is the dressed tree.
use Rattle.std.proofs.Common.{◌≡◌, ◌∙◌, List, ℕ, ap, arith, length, encode_utf8_all}
use Rattle.rowan_green.specs.Term.{FitsToken}
use Rattle.rowan_green.specs.TextBuilding.{text_given}
use Rattle.parser_input.specs.Lexed.{leaves_of}
use Rattle.parser_events.specs.Dress.{dress_root, joined}
use Rattle.rust_document.specs.Reading.{root_of, terms_of}
use Rattle.rust_document.specs.declared.tree_sink.TreeSink.{TreeSink}
use Rattle.rust_document.proofs.TreeRefusals.{memory-alone, memory-finish, memory-unless}
use Rattle.rust_document.proofs.TreeSinks.{is-built, is-whole, leaves-in-range, text-of-leaves}
use Rattle.rust_document.proofs.tree_sink.build.Goals as goal

pub want_of_memory-requires : goal.want_of_memory-requires
want_of_memory-requires c =
    let text = c.range_text-text.result.now in
    let whole : text ≡ encode_utf8_all (joined (leaves_of c.args.lexed.now.leaves)) =
    text-of-leaves c.args.lexed.now.leaves c.len.result text c.range_text-text.utf8 c.len.ensures c.range_text-text.ensures in
    memory-unless (FitsToken text) c.in-Err.error (omega (arith, ap (λ (t : List ℕ). length t) whole, c.requires.bytes)) c.in-Err.ensures.refused

pub want_of_memory-requires-in-Err-intersperse_trivia : goal.want_of_memory-requires-in-Err-intersperse_trivia
want_of_memory-requires-in-Err-intersperse_trivia c =
    let text = c.range_text-text.result.now in
    let leaves = c.args.lexed.now.leaves in
    let old : TreeSink = record { builder = c.in-Ok.builder; errors = c.new-2.result } in
    let whole = text-of-leaves leaves c.len.result text c.range_text-text.utf8 c.len.ensures c.range_text-text.ensures in
    let start : old.builder ≡ text_given (encode_utf8_all (joined (leaves_of leaves))) = c.in-Ok.ensures.ok ∙ ap (λ (t : List ℕ). text_given t) whole in
    let good = leaves-in-range leaves c.len.result text c.range_text-text.utf8 c.len.ensures c.range_text-text.ensures in
    memory-alone old c.intersperse_trivia.new.sink c.args.output.now.steps (leaves_of leaves) c.in-Err-intersperse_trivia.error start good c.requires c.in-Err-intersperse_trivia.ensures.refused

pub want_of_memory-requires-in-Err-finish : goal.want_of_memory-requires-in-Err-finish
want_of_memory-requires-in-Err-finish c =
    let text = c.range_text-text.result.now in
    let leaves = c.args.lexed.now.leaves in
    let ls = leaves_of leaves in
    let old : TreeSink = record { builder = c.in-Ok.builder; errors = c.new-2.result } in
    let new = c.intersperse_trivia.new.sink in
    let whole = text-of-leaves leaves c.len.result text c.range_text-text.utf8 c.len.ensures c.range_text-text.ensures in
    let start : old.builder ≡ text_given (encode_utf8_all (joined ls)) = c.in-Ok.ensures.ok ∙ ap (λ (t : List ℕ). text_given t) whole in
    let word = is-whole old new c.args.output.now.steps ls c.requires start c.in-Ok-intersperse_trivia.ensures.tree in
    memory-finish new.builder.building (root_of (terms_of (dress_root c.requires.forest ls))) c.in-Err-finish.error word c.in-Err-finish.ensures.refused

pub returns-in-Ok-finish : goal.returns-in-Ok-finish
returns-in-Ok-finish c =
    let text = c.range_text-text.result.now in
    let leaves = c.args.lexed.now.leaves in
    let ls = leaves_of leaves in
    let old : TreeSink = record { builder = c.in-Ok.builder; errors = c.new-2.result } in
    let whole = text-of-leaves leaves c.len.result text c.range_text-text.utf8 c.len.ensures c.range_text-text.ensures in
    let start : old.builder ≡ text_given (encode_utf8_all (joined ls)) = c.in-Ok.ensures.ok ∙ ap (λ (t : List ℕ). text_given t) whole in
    is-built old c.intersperse_trivia.new.sink c.args.output.now.steps ls c.in-Ok-finish.root start c.new-2.ensures.items c.in-Ok-intersperse_trivia.ensures.tree c.in-Ok-finish.ensures.ok
