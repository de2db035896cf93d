-- The editor that is committed only replaces matches.
use Rattle.std.proofs.Common.{rules, arith}
use Rattle.tree_replace.proofs.replacing.replace.Goals as goal

pub returns-clause-replaced : goal.returns-clause-replaced
returns-clause-replaced c some = record {
  matches = c.in_ok-matches.matches.items;
  found = first_of (search rules, grind arith);
  editing = c.record.new.editor;
  only = first_of (search rules, grind arith);
  is = first_of (search rules, grind arith);
}
