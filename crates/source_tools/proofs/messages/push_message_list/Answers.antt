use Rattle.std.proofs.Common.{◌≡◌, ◌∙◌, arith}
use Rattle.source_tools.proofs.messages.push_message_list.Goals as goal

pub push_error_items-requires : goal.push_error_items-requires
push_error_items-requires c =
    let same : c.in_ok-index.index ≡ c.args.document.now.text = c.in_ok-index.ensures ∙ c.text.ensures.text in
    rw same (omega (arith, c.text.ensures.fits))
