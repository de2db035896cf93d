-- A message in code.
use Rattle.std.specs.Prelude.{Option, option_map}
use Rattle.serde_json.specs.Data.{Data}
use Rattle.serde_json.specs.View.{view}
use Rattle.session_words.specs.Messages as messages
use Rattle.session_words.specs.declared.message.Id.{Id}
use Rattle.session_words.specs.declared.message.Id.TheVariants.{Number, Word}
use Rattle.session_words.specs.declared.message.Message.{Message}
use Rattle.session_words.specs.declared.message.Message.TheVariants.{Request, Notice, Answer, Invalid}

abbrev pub id_of : Id → messages.Id
id_of (Number n) = messages.Number n
id_of (Word w) = messages.Word w.now

abbrev pub message_of : Message → messages.Message
message_of (Request id method params) = messages.Request (id_of id) method.now (option_map (λ v. view v.now) params)
message_of (Notice method params) = messages.Notice method.now (option_map (λ v. view v.now) params)
message_of Answer = messages.Answer
message_of (Invalid id) = messages.Invalid (option_map id_of id)
