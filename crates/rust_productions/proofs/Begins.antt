-- Paths with and without arguments begin alike.
use Rattle.std.proofs.Common.{◌≡◌, Bool, refl, sym, subst}
use Rattle.parser_events.specs.View.{View}
use Rattle.rust_grammar.specs.Expressions.{expressions}
use Rattle.rust_grammar.specs.Items.{items}
use Rattle.rust_grammar.specs.Meaning.{begins_below, look_of}
use Rattle.rust_grammar.specs.Notation.{leaf_of, any_of, is_longer, no_longer, longest, one_of, row}
use Rattle.rust_grammar.specs.Paths.{path_begins, paths}
use Rattle.rust_grammar.specs.Patterns.{patterns}
use Rattle.rust_grammar.specs.Rule as rules
use Rattle.rust_grammar.specs.Rule.{Look, begins, in_mode, from_start, is_silent, passes, shift, there_at}
use Rattle.rust_grammar.specs.Shared.{ref_keywords}
use Rattle.rust_grammar.specs.Statements.{statements}
use Rattle.rust_grammar.specs.Words.{'ident'}
use Rattle.rust_productions.specs.Reads.{looks, Saw, Condition}
use Rattle.rust_grammar.specs.Types.{types}
use Rattle.rust_grammar.specs.Whole.{rule, whole}

type_path-begins : looks rules.type_path ≡ looks rules.path
unfolding look_of begins_below whole rule items statements expressions patterns types paths there_at shift passes is_silent begins in_mode from_start row one_of any_of no_longer longest is_longer
type_path-begins = refl

expr_path-begins : looks rules.expr_path ≡ looks rules.path
unfolding look_of begins_below whole rule items statements expressions patterns types paths there_at shift passes is_silent begins in_mode from_start row one_of any_of no_longer longest is_longer
expr_path-begins = refl

alike : {c : Condition} {l m : Look} {v : View} {b : Bool} → m ≡ l → Saw c l v b → Saw c m v b
alike {c} {l} {m} {v} {b} e saw = subst (λ (k : Look). Saw c k v b) (sym e) saw

pub saw-type-path : {c : Condition} {v : View} {b : Bool} → Saw c (looks rules.path) v b → Saw c (looks rules.type_path) v b
saw-type-path = alike type_path-begins

pub saw-expr-path : {c : Condition} {v : View} {b : Bool} → Saw c (looks rules.path) v b → Saw c (looks rules.expr_path) v b
saw-expr-path = alike expr_path-begins

path_begins-is : path_begins ≡ looks rules.path
unfolding look_of begins_below whole rule items statements expressions patterns types paths there_at shift passes is_silent begins in_mode from_start row one_of any_of no_longer longest is_longer
path_begins-is = refl

pub saw-path-begins : {c : Condition} {v : View} {b : Bool} → Saw c (looks rules.path) v b → Saw c path_begins v b
saw-path-begins = alike path_begins-is

-- and where such a look sees one, a path begins
pub saw-begun-path : {c : Condition} {v : View} {b : Bool} → Saw c path_begins v b → Saw c (looks rules.path) v b
saw-begun-path = alike (sym path_begins-is)

ref-is : leaf_of 'ident' ref_keywords ≡ looks rules.name_ref
unfolding look_of begins_below whole rule items statements expressions patterns types paths there_at shift passes is_silent begins in_mode from_start row one_of any_of no_longer longest is_longer
ref-is = refl

pub saw-ref : {c : Condition} {v : View} {b : Bool} → Saw c (looks rules.name_ref) v b → Saw c (leaf_of 'ident' ref_keywords) v b
saw-ref = alike ref-is
