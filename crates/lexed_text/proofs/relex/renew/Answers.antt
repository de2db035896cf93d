use Rattle.std.proofs.Common.{◌≡◌, ℕ, ◌+◌, ◌-◌, ◌<◌, ◌≤◌, ◌++◌, ◌⊎◌, inl, inr, List, length, take, drop, chars, refl, sym, ◌∙◌, ap, subst, arith, rules}
use Rattle.rustc_lexer.specs.Tokens.{token_list}
use Rattle.rustc_lexer.specs.declared.token.Token.{Token}
use Rattle.lexed_text.specs.declared.runs.Run.{Run}
use Rattle.lexed_text.specs.Inside.{taken, Meets}
use Rattle.lexed_text.specs.Runs.{run_tokens, RunsFrom}
use Rattle.lexed_text.proofs.Renewals.{Changed, changed-fits, runs-before, runs-after}
use Rattle.lexed_text.proofs.relex.renew.Goals as goal
use Rattle.lexed_text.proofs.relex.renew.Goals.{then-next-len, else-next-len}

-- what `lex` finds of a slice holds of the list that it shows
met-in : {seen old fresh : List Token} {f most l j : ℕ} → seen ≡ old → Meets seen fresh f most l j → Meets old fresh f most l j
met-in {seen} {old} {fresh} {f} {most} {l} {j} is met = subst (λ (z : List Token). Meets z fresh f most l j) is met

-- `replace` puts the tokens that were lexed
parts-are : (old fresh : List Token) (f l j : ℕ) {put new : List Token} → new ≡ take f old ++ (put ++ drop j old) → put ≡ take l fresh → new ≡ take f old ++ (take l fresh ++ drop j old)
parts-are old fresh f l j is lexed = is ∙ ap (λ (z : List Token). take f old ++ (z ++ drop j old)) lexed

pub renew_runs-requires : goal.renew_runs-requires
renew_runs-requires c =
    let lexing = c.in_ok-lexing.lexing in
    let old = c.args.tokens.now.items in
    let N = token_list (chars c.args.text.now) in
    let new = c.as_slice-4.result.now in
    let met = met-in c.as_slice.ensures.value c.in_ok-lexing.ensures.meets in
    let changed : Changed old N new c.args.front.count lexing.lexed lexing.stop = record {
      front_in = c.requires.within;
      fresh_in = met.within_new;
      stop_in = met.within_old;
      parts = c.as_slice-4.ensures.value ∙ parts-are _ _ _ _ _ c.in_ok-replace.ensures.replaced (c.deref.ensures.value ∙ c.in_ok-lexing.ensures.tokens);
    } in
    let runs = c.args.runs.now.items in
    let first = c.last_within-first.result in
    let first_in : first.run ≤ length runs = subst (λ (z : List Run). first.run ≤ length z) c.as_slice-2.ensures.value c.last_within-first.ensures.within in
    let first_count : first.count ≡ run_tokens first.run runs = c.last_within-first.ensures.is_count ∙ ap (λ (z : List Run). run_tokens first.run z) c.as_slice-2.ensures.value in
    let low : first.count ≤ c.args.front.count = c.last_within-first.ensures.low in
    let before = runs-before old N new c.args.front.count lexing.lexed lexing.stop first.run runs changed c.requires.runs first_in (omega arith) in
    let next = c.first_past-next.result in
    let slice = c.as_slice-3.ensures.value in
    let next_in : next.run ≤ length runs = subst (λ (z : List Run). next.run ≤ length z) slice c.first_past-next.ensures.within in
    let next_count : next.count ≡ run_tokens next.run runs = c.first_past-next.ensures.is_count ∙ ap (λ (z : List Run). run_tokens next.run z) slice in
    let past = subst (λ (z : List Run). next.run < length z → lexing.stop ≤ next.count) slice c.first_past-next.ensures.past in
    let len = c.len-2.ensures ∙ c.room_for.new.runs.ok.0 ∙ ap length c.room_for.ensures.runs in
    let whole : length new ≡ c.replace.new.items.len = ap length c.as_slice-4.ensures.value ∙ sym c.replace.new.items.ok.0 in
    let where_to : ((next.run < length runs) × (c.if-next-len.to ≡ c.args.front.count + lexing.lexed + (next.count - lexing.stop))) ⊎ ((length runs ≤ next.run) × (c.if-next-len.to ≡ length new)) =
    elim c.if-next-len.branch [
      | then-next-len w ↦ inl (omega arith, w.to-is)
      | else-next-len w ↦ inr (omega arith, w.to-is ∙ w.len-to.ensures ∙ sym whole)
    ] in
    let later = runs-after old N new c.args.front.count lexing.lexed lexing.stop next.run next.count c.if-next-len.to runs changed c.requires.runs next_in next_count past where_to in
    let same = sym c.room_for.ensures.runs in
    record {
      room = search rules;
      in_order = search rules;
      within = subst (λ (z : List Run). next.run ≤ length z) same next_in;
      is_count = first_count ∙ ap (λ (z : List Run). run_tokens first.run z) same;
      onward = let onward : c.args.front.count ≤ c.if-next-len.to = later.onward in omega arith;
      ends = later.ends;
      fits = changed-fits old new c.args.text.now c.args.front.count lexing.lexed lexing.stop c.args.most c.utf8.text changed met c.requires.fits;
      front = subst (λ (z : List Run). RunsFrom 0 0 (take first.run z) new) same before;
      back = subst (λ (z : List Run). RunsFrom c.if-next-len.to (taken c.if-next-len.to new) (drop next.run z) new) same later.back;
    }

pub returns-clause-renewed : goal.returns-clause-renewed
returns-clause-renewed c =
    let old = c.args.tokens.now.items in
    let met = met-in c.as_slice.ensures.value c.in_ok-lexing.ensures.meets in
    let inside : c.in_ok-lexing.lexing.stop ≤ length old = met.within_old in
    let len : c.len.result ≡ length old = c.len.ensures ∙ c.args.tokens.now.ok.0 in
    record {
      front_is = refl;
      stop = c.in_ok-lexing.lexing.stop;
      back = omega arith;
      meets = met;
      tokens = parts-are _ _ _ _ _ c.in_ok-replace.ensures.replaced (c.deref.ensures.value ∙ c.in_ok-lexing.ensures.tokens);
    }
