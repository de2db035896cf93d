-- The reading of a text after another one: by the output before, if the inputs are equal.
use Rattle.std.proofs.Common.{◌≡◌, ◌≤◌, List, false, true, chars, Option, Some, refl, sym, ap, subst, ◌∙◌, arith}
use Rattle.std.specs.Prelude.{IfSome}
use Rattle.rowan_green.specs.Forest.{Tree}
use Rattle.parser_input.specs.Equal.{same_input-Decides}
use Rattle.parser_input.specs.Input.{Token}
use Rattle.parser_input.specs.Stored.{Whole}
use Rattle.parser_input.specs.declared.edition.Edition.{Edition}
use Rattle.ra_parser.specs.declared.entry_points.TopEntryPoint.TheVariants.{SourceFile}
use Rattle.rust_document.specs.Costs.{steps_for}
use Rattle.rust_document.specs.IsReading.{IsReading}
use Rattle.rust_document.specs.NextReading.{tokens_in}
use Rattle.rust_document.specs.Reading.{tree_in}
use Rattle.rust_document.proofs.Readings.{few-tokens, input-is, leaves-behind, steps-are}
use Rattle.rust_document.proofs.read.read_next.Goals as goal

pub overflow_sub-leaves : goal.overflow_sub-leaves
overflow_sub-leaves c =
    let parts = c.parts_of in
    omega (
      arith,
      leaves-behind c.args.edition (chars c.args.next.text.now) c.in_ok-lexed.lexed c.len.result parts.result.shebang parts.result.has_frontmatter
          c.preface_len.result c.in_ok-lexed.ensures c.len.ensures parts.ensures.shebang parts.ensures.frontmatter c.preface_len.ensures,
    )

-- a tree that is known
known : (o : Option Tree) (t : Tree) (P : Tree → Type 0) → o ≡ Some t → IfSome o P → P t
known o t P is h = subst (λ (x : Option Tree). IfSome x P) is h

pub returns-in-Some : goal.returns-in-Some
returns-in-Some c =
    let text = chars c.args.next.text.now in
    let parts = c.parts_of in
    let own = known c.args.next.root c.in-Some.root _ c.in-Some.is c.requires.next.root_is in
    let behind =
    leaves-behind c.args.edition text c.in_ok-lexed.lexed c.len.result parts.result.shebang parts.result.has_frontmatter
    c.preface_len.result c.in_ok-lexed.ensures c.len.ensures parts.ensures.shebang parts.ensures.frontmatter c.preface_len.ensures in
    let parsed = steps-are SourceFile c.args.grammar c.args.edition text c.in_ok-lexed.lexed c.args.before.now.input _ c.in_ok-lexed.ensures own.1 c.requires.before in
    let same_edition = ap (λ (w : Whole). w.edition) c.in_ok-lexed.ensures in
    let root = own.0 ∙ ap (λ (e : Edition). tree_in c.args.grammar e text) (sym same_edition) in
    let r = c.in_ok-reading.reading in
    record {
      reading_is =
          subst (λ (e : Edition). IsReading c.args.grammar e text r.tokens.items r.root r.errors.items) same_edition
          (c.in_ok-reading.ensures c.args.grammar parsed root);
      kept_is = c.requires.next.kept_is;
      parse_is = own.1;
      leaves_are = omega (arith, behind);
      steps_are = (λ _. own.1, λ _. refl);
      few_steps = omega arith;
    }

pub read_leaves-requires-clause-parsed : goal.read_leaves-requires-clause-parsed
read_leaves-requires-clause-parsed c =
    let text = chars c.args.next.text.now in
    let made = input-is c.args.grammar c.args.edition text c.in_ok-lexed.lexed _ c.in_ok-lexed.ensures c.in_ok-input.ensures in
    let same = (same_input-Decides c.in_ok-input.input c.args.before.now.input).0 (sym c.eq.ensures ∙ c.if-eq.true) in
    (SourceFile, (c.args.grammar, steps-are SourceFile c.args.grammar c.args.edition text c.in_ok-lexed.lexed c.args.before.now.input _ c.in_ok-lexed.ensures (sym same ∙ made) c.requires.before))

pub returns-then-eq : goal.returns-then-eq
returns-then-eq c =
    let text = chars c.args.next.text.now in
    let parts = c.parts_of in
    let made = input-is c.args.grammar c.args.edition text c.in_ok-lexed.lexed _ c.in_ok-lexed.ensures c.in_ok-input.ensures in
    let same = (same_input-Decides c.in_ok-input.input c.args.before.now.input).0 (sym c.eq.ensures ∙ c.if-eq.true) in
    let own = steps-are SourceFile c.args.grammar c.args.edition text c.in_ok-lexed.lexed c.args.before.now.input _ c.in_ok-lexed.ensures (sym same ∙ made) c.requires.before in
    let behind =
    leaves-behind c.args.edition text c.in_ok-lexed.lexed c.len.result parts.result.shebang parts.result.has_frontmatter
    c.preface_len.result c.in_ok-lexed.ensures c.len.ensures parts.ensures.shebang parts.ensures.frontmatter c.preface_len.ensures in
    let r = c.in_ok-reading-2.reading in
    record {
      reading_is =
          subst (λ (e : Edition). IsReading c.args.grammar e text r.tokens.items r.root r.errors.items) (ap (λ (w : Whole). w.edition) c.in_ok-lexed.ensures)
          (c.in_ok-reading-2.ensures SourceFile c.args.grammar own);
      kept_is = c.requires.next.kept_is;
      parse_is = sym same ∙ made;
      leaves_are = omega (arith, behind);
      steps_are = (λ _. sym same ∙ made, λ _. refl);
      few_steps = omega arith;
    }

pub parse_input-requires : goal.parse_input-requires
parse_input-requires c = few-tokens c.args.grammar c.args.edition c.args.next.text.now _ _ c.requires.next.utf8 c.in_ok-lexed.ensures c.in_ok-input.ensures c.requires.next.fits

pub read_leaves-requires-2-clause-parsed : goal.read_leaves-requires-2-clause-parsed
read_leaves-requires-2-clause-parsed c =
    let text = chars c.args.next.text.now in
    let made = input-is c.args.grammar c.args.edition text c.in_ok-lexed.lexed _ c.in_ok-lexed.ensures c.in_ok-input.ensures in
    (SourceFile, (c.args.grammar, steps-are SourceFile c.args.grammar c.args.edition text c.in_ok-lexed.lexed _ _ c.in_ok-lexed.ensures made c.in_ok-output.ensures.parsed))

pub returns : goal.returns
returns c =
    let text = chars c.args.next.text.now in
    let parts = c.parts_of in
    let made = input-is c.args.grammar c.args.edition text c.in_ok-lexed.lexed _ c.in_ok-lexed.ensures c.in_ok-input.ensures in
    let own = steps-are SourceFile c.args.grammar c.args.edition text c.in_ok-lexed.lexed _ _ c.in_ok-lexed.ensures made c.in_ok-output.ensures.parsed in
    let behind =
    leaves-behind c.args.edition text c.in_ok-lexed.lexed c.len.result parts.result.shebang parts.result.has_frontmatter
    c.preface_len.result c.in_ok-lexed.ensures c.len.ensures parts.ensures.shebang parts.ensures.frontmatter c.preface_len.ensures in
    let other : c.in_ok-input.input ≡ c.args.before.now.input → ⊥ =
    λ same. let z : false ≡ true = sym c.if-eq.false ∙ c.eq.ensures ∙ (same_input-Decides c.in_ok-input.input c.args.before.now.input).1 same in cc in
    let few : c.in_ok-output.output.looks ≤ steps_for (tokens_in c.args.grammar c.args.edition text) =
    subst (λ (ts : List Token). c.in_ok-output.output.looks ≤ steps_for ts) made c.in_ok-output.ensures.looks in
    let r = c.in_ok-reading-3.reading in
    record {
      reading_is =
          subst (λ (e : Edition). IsReading c.args.grammar e text r.tokens.items r.root r.errors.items) (ap (λ (w : Whole). w.edition) c.in_ok-lexed.ensures)
          (c.in_ok-reading-3.ensures SourceFile c.args.grammar own);
      kept_is = c.requires.next.kept_is;
      parse_is = record { input_is = made; own = c.in_ok-output.ensures.parsed };
      leaves_are = omega (arith, behind);
      steps_are = (λ none. absurd (omega (arith, none, c.steps-steps.ensures, c.in_ok-output.ensures.looked)), λ same. absurd (other (made ∙ sym same)));
      few_steps = omega (arith, few, c.steps-steps.ensures);
    }
