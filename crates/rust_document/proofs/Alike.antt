-- Editors whose changes end alike have one verdict, and one tree where that is acceptance.
use Rattle.std.proofs.Common.{◌≡◌, Option, Some, None, is_none, is_some, Bool, true, false, not, ◌&&◌, ◌||◌, nat_lt, List, length, refl, sym, ◌∙◌, ap}
use Rattle.rustc_lexer.specs.Rows.{first_fit}
use Rattle.rowan_green.specs.Forest.{tree_text}
use Rattle.tree_rewrite.specs.Change.{Change, has_collision}
use Rattle.tree_rewrite.specs.Fits.{new_fits}
use Rattle.tree_rewrite.specs.Laws.{AreAlike}
use Rattle.tree_rewrite.specs.Marked.{Marked, forest_in}
use Rattle.tree_rewrite.specs.Rewrite.{jobs, is_placeable}
use Rattle.parser_input.specs.declared.edition.Edition.{Edition}
use Rattle.syntax_editor.specs.Editing.{Editing, with_changes}
use Rattle.syntax_editor.specs.Rewriting.{rewriting}
use Rattle.ra_parser.specs.declared.grammar.Grammar.{Grammar}
use Rattle.rust_document.specs.Laws.{CommitsAlike}
use Rattle.rust_document.specs.Reading.{root_of}
use Rattle.rust_document.specs.Rewrite.{rewritten}
use Rattle.rust_document.specs.Step.{State, is_foreign, is_too_long, is_faithful, MAX_TEXT, verdict, Accepted}
use Rattle.rust_document.proofs.Verdicts.{chosen, misses, verdict-is}

abbrev is_long : Marked → Bool
is_long m = nat_lt MAX_TEXT (length (tree_text (root_of (forest_in m)))) || not (new_fits m)

abbrev is_unfaithful : Grammar → Edition → Marked → Bool
is_unfaithful grammar edition m = not (is_faithful grammar edition (root_of (forest_in m)))

intersecting : (f m l u n k v : Bool) → chosen f true m l u ≡ chosen f true n k v
unfolding first_fit
intersecting true m l u n k v = refl
intersecting false m l u n k v = refl

missing : (f l u k v : Bool) → chosen f false true l u ≡ chosen f false true k v
unfolding first_fit
missing true l u k v = refl
missing false l u k v = refl

none_too : {A : Type 0} (o : Option A) → is_some o ≡ false → is_none o ≡ true
none_too None h = refl
none_too (Some x) h = absurd (cc)

some_too : {A : Type 0} (o : Option A) → is_some o ≡ true → is_none o ≡ false
some_too None h = absurd (cc)
some_too (Some x) h = refl

module _ (d : State) (e : Editing) (cs ds : List Change) (alike : AreAlike e.top cs ds e.mapping) where
  abbrev one : Editing
  one = with_changes e cs

  abbrev other : Editing
  other = with_changes e ds

  apart : (x y : Bool) → has_collision cs ≡ x → has_collision ds ≡ x → is_some (jobs e.top cs e.mapping) ≡ y → x ≡ false → is_some (jobs e.top ds e.mapping) ≡ y
  apart x y p q r is_apart =
      let own : is_placeable e.top cs e.mapping ≡ y = ap (λ (b : Bool). not b && is_some (jobs e.top cs e.mapping)) (p ∙ is_apart) ∙ r in
      let its : is_placeable e.top ds e.mapping ≡ is_some (jobs e.top ds e.mapping) = ap (λ (b : Bool). not b && is_some (jobs e.top ds e.mapping)) (q ∙ is_apart) in
      sym its ∙ sym alike.placeable ∙ own

  by_place : (y : Bool) → is_some (jobs e.top cs e.mapping) ≡ y → is_some (jobs e.top ds e.mapping) ≡ y → has_collision cs ≡ false → has_collision ds ≡ false → verdict d one ≡ verdict d other
  by_place true p q a b =
      let placeable : is_placeable e.top cs e.mapping ≡ true = ap (λ (x : Bool). not x && is_some (jobs e.top cs e.mapping)) a ∙ p in
      let same : rewriting one ≡ rewriting other = alike.same placeable in
      verdict-is d one (is_foreign d one) false false (is_too_long one) (not (is_faithful d.grammar d.edition (rewritten one))) refl a (some_too (jobs e.top cs e.mapping) p) refl refl
      ∙ ap (λ (m : Marked). chosen (is_foreign d one) false false (is_long m) (is_unfaithful d.grammar d.edition m)) same
      ∙ sym (verdict-is d other (is_foreign d other) false false (is_too_long other) (not (is_faithful d.grammar d.edition (rewritten other))) refl b (some_too (jobs e.top ds e.mapping) q) refl refl)
  by_place false p q a b =
      verdict-is d one (is_foreign d one) false true (is_too_long one) (not (is_faithful d.grammar d.edition (rewritten one))) refl a (none_too (jobs e.top cs e.mapping) p) refl refl
      ∙ missing (is_foreign d one) (is_too_long one) (not (is_faithful d.grammar d.edition (rewritten one))) (is_too_long other) (not (is_faithful d.grammar d.edition (rewritten other)))
      ∙ sym (verdict-is d other (is_foreign d other) false true (is_too_long other) (not (is_faithful d.grammar d.edition (rewritten other))) refl b (none_too (jobs e.top ds e.mapping) q) refl refl)

  by_collision : (x : Bool) → has_collision cs ≡ x → has_collision ds ≡ x → verdict d one ≡ verdict d other
  by_collision true p q =
      verdict-is d one (is_foreign d one) true (misses one) (is_too_long one) (not (is_faithful d.grammar d.edition (rewritten one))) refl p refl refl refl
      ∙ intersecting (is_foreign d one) (misses one) (is_too_long one) (not (is_faithful d.grammar d.edition (rewritten one))) (misses other) (is_too_long other) (not (is_faithful d.grammar d.edition (rewritten other)))
      ∙ sym (verdict-is d other (is_foreign d other) true (misses other) (is_too_long other) (not (is_faithful d.grammar d.edition (rewritten other))) refl q refl refl refl)
  by_collision false p q =
      let y = is_some (jobs e.top cs e.mapping) in
      by_place y refl (apart false y p q refl refl) p q

  verdicts : verdict d one ≡ verdict d other
  verdicts = by_collision (has_collision cs) refl (sym alike.colliding)

apart_and_placed : (f i m l u : Bool) → chosen f i m l u ≡ Accepted → (i ≡ false) × (m ≡ false)
unfolding first_fit
apart_and_placed true i m l u h = absurd (cc)
apart_and_placed false true m l u h = absurd (cc)
apart_and_placed false false true l u h = absurd (cc)
apart_and_placed false false false l u h = (refl, refl)

placed : (i : Bool) {A : Type 0} (o : Option A) → i ≡ false → is_none o ≡ false → (not i && is_some o) ≡ true
placed true o a b = absurd (cc)
placed false None a b = absurd (cc)
placed false (Some x) a b = refl

pub commits_alike : (d : State) (e : Editing) (cs ds : List Change) → AreAlike e.top cs ds e.mapping → CommitsAlike d (with_changes e cs) (with_changes e ds)
commits_alike d e cs ds alike =
    let one = with_changes e cs in
    record {
      verdicts = verdicts d e cs ds alike;
      trees = λ accepted.
          let is = sym (verdict-is d one (is_foreign d one) (has_collision cs) (misses one) (is_too_long one) (not (is_faithful d.grammar d.edition (rewritten one))) refl refl refl refl refl) ∙ accepted in
          let has = apart_and_placed _ _ _ _ _ is in
          ap (λ (m : Marked). root_of (forest_in m)) (alike.same (placed (has_collision cs) (jobs e.top cs e.mapping) has.0 has.1));
    }
