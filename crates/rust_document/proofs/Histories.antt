-- Lists of commands, command by command.
use Rattle.std.proofs.Common.{◌≡◌, List, [], ◌∷◌, chars, refl}
use Rattle.rust_document.specs.Histories.{Event, Accepted, Refused, EditsAreOpenings, HistoriesEndInReadings, HistoriesGoOn, after, opened, taken, text_after}
use Rattle.rust_document.specs.Laws.{Agree}
use Rattle.rust_document.specs.Reading.{messages_in, tree_in}
use Rattle.rust_document.specs.Step.{State}
use Rattle.rust_document.specs.Tokens.{tokens_of}

agree : (d e : State) → d.edition ≡ e.edition → d.grammar ≡ e.grammar → d.text ≡ e.text → Agree d e
agree d e same_edition same_grammar same_text =
    record {
      tokens = λ i. tokens_of (same_edition i) (chars (same_text i));
      told = λ i. messages_in (same_grammar i) (same_edition i) (chars (same_text i));
      trees = λ i. tree_in (same_grammar i) (same_edition i) (chars (same_text i));
    }

pub edits-are-openings : EditsAreOpenings
edits-are-openings d start end put number other = agree _ _ refl refl refl

edition-stays : (d : State) (es : List Event) → (after d es).edition ≡ d.edition
edition-stays d [] = refl
edition-stays d (Accepted c number ∷ es) = edition-stays (taken d c number) es
edition-stays d (Refused c ∷ es) = edition-stays d es

grammar-stays : (d : State) (es : List Event) → (after d es).grammar ≡ d.grammar
grammar-stays d [] = refl
grammar-stays d (Accepted c number ∷ es) = grammar-stays (taken d c number) es
grammar-stays d (Refused c ∷ es) = grammar-stays d es

text-is : (d : State) (es : List Event) → (after d es).text ≡ text_after d.text es
text-is d [] = refl
text-is d (Accepted c number ∷ es) = text-is (taken d c number) es
text-is d (Refused c ∷ es) = text-is d es

pub end-in-readings : HistoriesEndInReadings
end-in-readings d es is = record {
  text_is = text-is d es;
  agrees = λ number. agree (after d es) (opened d (text_after d.text es) number) (edition-stays d es) (grammar-stays d es) (text-is d es);
}

pub go-on : HistoriesGoOn
go-on d [] fs is more = record { same = refl; history = more }
go-on d (Accepted c number ∷ es) fs is more =
    let rest = go-on (taken d c number) es fs is.1 more in
    record { same = rest.same; history = (is.0, rest.history) }
go-on d (Refused c ∷ es) fs is more =
    let rest = go-on d es fs is more in
    record { same = rest.same; history = rest.history }
