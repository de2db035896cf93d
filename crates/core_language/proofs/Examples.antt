-- The examples, by their derivations; a tree that is not the one of the derivation is refused, since an input has one tree.
use Rattle.std.proofs.Common.{false, refl, arith}
use Rattle.core_language.specs.Types.{Immutable, Name, PathType, ReferenceType}
use Rattle.core_language.specs.Operators.{Integer, Plus, Times}
use Rattle.core_language.specs.Expressions.{Literal, Named, MethodCall, Binary, LastArgument}
use Rattle.core_language.specs.Statements.{NamePattern, Run, NoStatement, StatementThen, Braces}
use Rattle.core_language.specs.Items.{Private, LastElement, TypedPattern, NoReturnType, Function, NoItem, ItemThen}
use Rattle.core_language.specs.Language.{IsCoreFile, IsCoreExpression}
use Rattle.core_language.specs.Examples.{a_file, a_file_tree, a_sum, a_sum_tree, another_tree, ExamplesAreCore}
use Rattle.core_language.proofs.Read.{expressions-one}

file-is-core : IsCoreFile a_file a_file_tree
file-is-core =
    let parameters = LastElement (TypedPattern (NamePattern Immutable false) false (ReferenceType false Immutable (PathType (Name false)))) in
    let call = MethodCall (Named (Name false)) false false false (LastArgument (Literal Integer false)) false in
    let body = Braces false (StatementThen (Run call false) NoStatement) false in
    record {
      items = ItemThen (Function Private false false false parameters false NoReturnType body) NoItem;
      well_formed = (((tt, omega arith, tt), tt), tt);
      has_tokens = refl;
      has_tree = refl;
    }

sum-is-core : IsCoreExpression a_sum a_sum_tree
sum-is-core = record {
  expression = Binary (Named (Name false)) Plus false (Binary (Named (Name false)) Times false (Named (Name false)));
  well_formed = (tt, (tt, tt, omega arith, omega arith, refl), omega arith, omega arith, refl);
  has_tokens = refl;
  has_tree = refl;
}

not-another : IsCoreExpression a_sum another_tree → ⊥
not-another c =
    let same = expressions-one a_sum a_sum_tree another_tree sum-is-core c in
    absurd cc

pub examples-are-core : ExamplesAreCore
examples-are-core = (file-is-core, sum-is-core, not-another)
