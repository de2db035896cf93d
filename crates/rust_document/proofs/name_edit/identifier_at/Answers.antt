-- The token contains the range.
use Rattle.std.proofs.Common.{◌<◌, length, refl, rules, arith}
use Rattle.std.proofs.lemmas.Option.{slice_get_read}
use Rattle.rust_document.proofs.name_edit.identifier_at.Goals as goal

pub returns : goal.returns
returns c =
    let within : c.args.index < length c.args.tokens.now = search (rules, arith) in
    record {
      token = c.index-tokens-index.result;
      is_at = slice_get_read c.args.tokens.now (length c.args.tokens.now) c.args.index c.index-tokens-index.result refl within c.index-tokens-index.is;
      own_range = refl;
      from_start = search (rules, arith);
      to_end = search (rules, arith);
    }
