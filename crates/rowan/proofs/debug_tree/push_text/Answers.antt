use Rattle.std.proofs.Common.{Some}
use Rattle.std.specs.Prelude.{string_bytes}
use Rattle.std.specs.Fmt.{debug_str, ◌++?◌}
use lib.Chars.{codes}
use Rattle.rowan.specs.Debug.{excerpt}
use Rattle.rowan.proofs.Printing.{appends_more}
use Rattle.rowan.proofs.debug_tree.push_text.Goals as goal

pub returns : goal.returns
returns c =
    let a = string_bytes c.args.to.now in
    let b = string_bytes c.push_str.new.self in
    let d = string_bytes c.push_quoted.new.to in
    let e = string_bytes c.push_str-2.new.self in
    let quoted = debug_str (excerpt c.args.text.now) in
    appends_more a b e (Some (codes " ")) (quoted ++? Some (codes "\n")) c.in_ok-push_str.ensures.bytes (appends_more b d e quoted (Some (codes "\n")) c.in_ok-push_quoted.ensures c.in_ok-push_str-2.ensures.bytes)
