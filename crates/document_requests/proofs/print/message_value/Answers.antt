use Rattle.std.proofs.Common.{◌∙◌, ap}
use Rattle.serde_json.specs.Data.{array}
use Rattle.serde_json.proofs.Views.{view-Array}
use Rattle.document_requests.proofs.Named.{words-are}
use Rattle.document_requests.proofs.Rows.{pair-view, text-view}
use Rattle.document_requests.proofs.print.message_value.Goals as goal

pub returns : goal.returns
returns c =
    view-Array _ ∙ ap array (pair-view _ _ _ _ _ c.in_ok-vec.ensures.items c.from-offset.ensures (text-view _ _ (c.in_ok-format.ensures.ok ∙ words-are c.args.error.message)))
