-- Where patterns, their fields, parameters, types and generic arguments begin does not go by the mode.
use Rattle.std.proofs.Common.{Bool}
use Rattle.parser_events.specs.View.{View}
use Rattle.rust_grammar.specs.Expressions.{expressions}
use Rattle.rust_grammar.specs.Items.{items}
use Rattle.rust_grammar.specs.Meaning.{begins_below, look_of, sees}
use Rattle.rust_grammar.specs.Notation.{any_of, is_longer, no_longer, longest, one_of, row}
use Rattle.rust_grammar.specs.Paths.{paths, type_arg}
use Rattle.rust_grammar.specs.Patterns.{patterns}
use Rattle.rust_grammar.specs.Rule as rules
use Rattle.rust_grammar.specs.Rule.{Call, begins, in_mode, from_start, is_silent, passes, shift, there_at}
use Rattle.rust_grammar.specs.Statements.{statements}
use Rattle.rust_grammar.specs.Types.{fn_ptr_param, types}
use Rattle.rust_grammar.specs.Whole.{rule, whole}
use Rattle.rust_productions.specs.Reads.{looks, Saw}
use Rattle.rust_productions.specs.declared.condition.Condition.{Condition}
use Rattle.rust_productions.specs.declared.condition.Condition.TheVariants.{Off}

pub pattern-field-anywhere : {c : Condition} {b : Bool} {v : View} → Saw Off (begins looks (Call rules.pattern_field)) v b → Saw c (looks rules.pattern_field) v b
unfolding look_of begins_below whole rule items statements expressions patterns types paths there_at shift passes is_silent begins in_mode from_start row one_of any_of no_longer longest is_longer sees
pattern-field-anywhere saw = record { at = λ s e. saw.at s e }

pub pattern-anywhere : {c : Condition} {b : Bool} {v : View} → Saw Off (begins looks (Call rules.pattern)) v b → Saw c (looks rules.pattern) v b
unfolding look_of begins_below whole rule items statements expressions patterns types paths there_at shift passes is_silent begins in_mode from_start row one_of any_of no_longer longest is_longer sees
pattern-anywhere saw = record { at = λ s e. saw.at s e }

pub param-anywhere : {c : Condition} {b : Bool} {v : View} → Saw Off (begins looks (Call rules.param)) v b → Saw c (looks rules.param) v b
unfolding look_of begins_below whole rule items statements expressions patterns types paths there_at shift passes is_silent begins in_mode from_start row one_of any_of no_longer longest is_longer sees
param-anywhere saw = record { at = λ s e. saw.at s e }

pub pattern-mode : {c d : Condition} {b : Bool} {v : View} → Saw c (looks rules.pattern) v b → Saw d (looks rules.pattern) v b
unfolding look_of begins_below whole rule items statements expressions patterns types paths there_at shift passes is_silent begins in_mode from_start row one_of any_of no_longer longest is_longer sees
pattern-mode saw = record { at = λ s e. saw.at s e }

pub type-anywhere : {c : Condition} {b : Bool} {v : View} → Saw Off (begins looks (Call rules.any_type)) v b → Saw c (looks rules.any_type) v b
unfolding look_of begins_below whole rule items statements expressions patterns types paths there_at shift passes is_silent begins in_mode from_start row one_of any_of no_longer longest is_longer sees
type-anywhere saw = record { at = λ s e. saw.at s e }

pub type-mode : {c : Condition} {b : Bool} {v : View} → Saw Off (looks rules.any_type) v b → Saw c (looks rules.any_type) v b
unfolding look_of begins_below whole rule items statements expressions patterns types paths there_at shift passes is_silent begins in_mode from_start row one_of any_of no_longer longest is_longer sees
type-mode saw = record { at = λ s e. saw.at s e }

pub type-arg-anywhere : {c : Condition} {b : Bool} {v : View} → Saw Off (begins looks type_arg) v b → Saw c (looks rules.any_type) v b
unfolding look_of begins_below whole rule items statements expressions patterns types paths there_at shift passes is_silent begins in_mode from_start row one_of any_of no_longer longest is_longer sees
type-arg-anywhere saw = record { at = λ s e. saw.at s e }

pub generic-arg-anywhere : {c : Condition} {b : Bool} {v : View} → Saw Off (begins looks (Call rules.generic_arg)) v b → Saw c (looks rules.generic_arg) v b
unfolding look_of begins_below whole rule items statements expressions patterns types paths there_at shift passes is_silent begins in_mode from_start row one_of any_of no_longer longest is_longer sees
generic-arg-anywhere saw = record { at = λ s e. saw.at s e }

pub meta-mode : {c d : Condition} {b : Bool} {v : View} → Saw c (looks rules.meta) v b → Saw d (looks rules.meta) v b
unfolding look_of begins_below whole rule items statements expressions patterns types paths there_at shift passes is_silent begins in_mode from_start row one_of any_of no_longer longest is_longer sees
meta-mode saw = record { at = λ s e. saw.at s e }

pub fn-ptr-param-anywhere : {c : Condition} {b : Bool} {v : View} → Saw Off (begins looks fn_ptr_param) v b → Saw c (begins looks fn_ptr_param) v b
unfolding look_of begins_below whole rule items statements expressions patterns types paths there_at shift passes is_silent begins in_mode from_start row one_of any_of no_longer longest is_longer sees
fn-ptr-param-anywhere saw = record { at = λ s e. saw.at s e }
