use Rattle.std.proofs.Common.{refl}
use Rattle.message_frames.proofs.HeaderLemmas.{long-whole, refused}
use Rattle.message_frames.proofs.header.header_in.Goals as goal

pub returns-in_default-2 : goal.returns-in_default-2
returns-in_default-2 c =
    let at = rw c.in-Ok-Complete.field-0-is at c.in-Ok-Complete.ensures.complete in
    let within = rw c.in-Ok-Complete.field-0-is at c.in-Ok-Complete.ensures.within in
    long-whole _ _ at.0 at.1 at.2.reads at.2.len_is c.if-len-le-MAX_HEADER.false within.len_fits

pub returns-in_default-3 : goal.returns-in_default-3
returns-in_default-3 c = refused _ _ _ _ c.in_default.is refl c.parse_headers.ensures.invalid c.parse_headers.ensures.no_room c.parse_headers.ensures.too_many
