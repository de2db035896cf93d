-- Which kinds are those of keywords, as the code tells them: by one range, but for the words of later editions.
use Rattle.std.proofs.Common.{◌≡◌, ℕ, Bool, refl, ◌&&◌, ◌≤◌, ◌<◌, nat_le, ◌⊎◌, inl, inr, arith}
use Rattle.std.proofs.lemmas.Bool.Decides.{nat_tests}
use Rattle.parser_input.specs.declared.edition.Edition.{Edition}
use Rattle.parser_input.specs.declared.edition.Edition.TheVariants.{Edition2015, Edition2018, Edition2024, EditionNext}
use Rattle.parser_input.specs.declared.syntax_kind.SyntaxKind.{SyntaxKind}
use Rattle.parser_input.specs.declared.syntax_kind.SyntaxKind.TheVariants.{ASYNC_KW, AWAIT_KW, TRY_KW, GEN_KW, DEFER_KW}
use Rattle.parser_input.specs.Edition.{is_from}
use Rattle.parser_input.specs.Kind.{raw_of}
use Rattle.parser_input.specs.Keywords.{is_keyword, words}
use Rattle.parser_input.specs.Kinds as kinds

at_async : (edition : Edition) → is_from Edition2018 edition ≡ is_keyword edition kinds.ASYNC_KW
unfolding is_keyword words
at_async Edition2015 = refl
at_async _ = refl

at_await : (edition : Edition) → is_from Edition2018 edition ≡ is_keyword edition kinds.AWAIT_KW
unfolding is_keyword words
at_await Edition2015 = refl
at_await _ = refl

at_try : (edition : Edition) → is_from Edition2018 edition ≡ is_keyword edition kinds.TRY_KW
unfolding is_keyword words
at_try Edition2015 = refl
at_try _ = refl

pub is_keyword-2018 : (edition : Edition) (kind : SyntaxKind) → (kind ≡ ASYNC_KW) ⊎ ((kind ≡ AWAIT_KW) ⊎ (kind ≡ TRY_KW)) → is_from Edition2018 edition ≡ is_keyword edition (raw_of kind)
is_keyword-2018 edition kind (inl e) = rw e (at_async edition)
is_keyword-2018 edition kind (inr (inl e)) = rw e (at_await edition)
is_keyword-2018 edition kind (inr (inr e)) = rw e (at_try edition)

at_gen : (edition : Edition) → is_from Edition2024 edition ≡ is_keyword edition kinds.GEN_KW
unfolding is_keyword words
at_gen Edition2015 = refl
at_gen _ = refl

pub is_keyword-2024 : (edition : Edition) (kind : SyntaxKind) → kind ≡ GEN_KW → is_from Edition2024 edition ≡ is_keyword edition (raw_of kind)
is_keyword-2024 edition kind e = rw e (at_gen edition)

at_defer : (edition : Edition) → is_from EditionNext edition ≡ is_keyword edition kinds.DEFER_KW
unfolding is_keyword words
at_defer Edition2015 = refl
at_defer _ = refl

pub is_keyword-next : (edition : Edition) (kind : SyntaxKind) → kind ≡ DEFER_KW → is_from EditionNext edition ≡ is_keyword edition (raw_of kind)
is_keyword-next edition kind e = rw e (at_defer edition)

abbrev pub in_range : ℕ → Bool
in_range kind = nat_le kinds.AS_KW kind && nat_le kind kinds.UNION_KW

pub is_keyword-other : (edition : Edition) (kind : SyntaxKind) → (kind ≡ ASYNC_KW → ⊥) → (kind ≡ AWAIT_KW → ⊥) → (kind ≡ TRY_KW → ⊥) → (kind ≡ GEN_KW → ⊥) → (kind ≡ DEFER_KW → ⊥) → in_range (raw_of kind) ≡ is_keyword edition (raw_of kind)
unfolding is_keyword words
is_keyword-other edition ASYNC_KW a b c d f = absurd (a refl)
is_keyword-other edition AWAIT_KW a b c d f = absurd (b refl)
is_keyword-other edition TRY_KW a b c d f = absurd (c refl)
is_keyword-other edition GEN_KW a b c d f = absurd (d refl)
is_keyword-other edition DEFER_KW a b c d f = absurd (f refl)
is_keyword-other edition kind a b c d f = elim edition as (λ e. in_range (raw_of kind) ≡ is_keyword e (raw_of kind)) [ Edition2015 ↦ refl | _ ↦ refl ]

pub in_range-from : (kind : ℕ) → kinds.AS_KW ≤ kind → in_range kind ≡ nat_le kind kinds.UNION_KW
in_range-from kind h = grind (arith, nat_tests)

pub in_range-below : (kind : ℕ) → kind < kinds.AS_KW → in_range kind ≡ nat_le kinds.AS_KW kind
in_range-below kind h = grind (arith, nat_tests)
