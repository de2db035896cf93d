-- What the first character of a name is not.
use Rattle.std.proofs.Common.{◌≡◌, ℕ, ◌<◌, true, false, ◌&&◌, ◌||◌, ◌==◌, leb, refl, sym, ◌∙◌, ap, arith, lit<, inl, inr, eqb-true}
use Rattle.std.proofs.lemmas.Bool.{or_cases}
use Rattle.std.proofs.lemmas.Bool.Decides.{nat_tests}
use Rattle.std.specs.Char.{is_ascii_alphabetic}
use Rattle.unicode_ident.proofs.IdentLemmas.{is_xid_start-ascii}
use Rattle.unicode_ident.proofs.Computing.{unicode_ident}
use Rattle.rustc_lexer.specs.Characters.{line_feed, double_quote, hash, tick, star, dot, slash, backslash, is_whitespace, is_id_start}
use Rattle.rustc_lexer.proofs.Booleans.{bool_cases}

pub start-line_feed : is_id_start line_feed ≡ false
unfolding is_id_start
start-line_feed = is_xid_start-ascii line_feed (lit< tt)

pub start-double_quote : is_id_start double_quote ≡ false
unfolding is_id_start
start-double_quote = is_xid_start-ascii double_quote (lit< tt)

pub start-hash : is_id_start hash ≡ false
unfolding is_id_start
start-hash = is_xid_start-ascii hash (lit< tt)

pub start-tick : is_id_start tick ≡ false
unfolding is_id_start
start-tick = is_xid_start-ascii tick (lit< tt)

pub start-star : is_id_start star ≡ false
unfolding is_id_start
start-star = is_xid_start-ascii star (lit< tt)

pub start-dot : is_id_start dot ≡ false
unfolding is_id_start
start-dot = is_xid_start-ascii dot (lit< tt)

pub start-slash : is_id_start slash ≡ false
unfolding is_id_start
start-slash = is_xid_start-ascii slash (lit< tt)

pub start-backslash : is_id_start backslash ≡ false
unfolding is_id_start
start-backslash = is_xid_start-ascii backslash (lit< tt)

pub start-return : is_id_start 13 ≡ false
unfolding is_id_start
start-return = is_xid_start-ascii 13 (lit< tt)

pub start-dash : is_id_start 45 ≡ false
unfolding is_id_start
start-dash = is_xid_start-ascii 45 (lit< tt)

pub start-tab : is_id_start 9 ≡ false
unfolding is_id_start
start-tab = is_xid_start-ascii 9 (lit< tt)

pub start-space : is_id_start 32 ≡ false
unfolding is_id_start
start-space = is_xid_start-ascii 32 (lit< tt)

-- a name does not begin with a character that none begins with
pub other-than : (k x : ℕ) → is_id_start k ≡ false → is_id_start x ≡ true → (x == k) ≡ false
other-than k x none starts = elim (bool_cases (x == k)) [
  | inr h ↦ h
  | inl h ↦ let w : true ≡ false = sym starts ∙ ap is_id_start (eqb-true x k h) ∙ none in cc
]

-- whitespace starts no name
at-code : (k c : ℕ) → (c == k) ≡ true → is_id_start k ≡ false → is_id_start c ≡ false
at-code k c h none = ap is_id_start (eqb-true c k h) ∙ none

low-white : (c : ℕ) → (leb 9 c && leb c 13) ≡ true → is_id_start c ≡ false
unfolding is_id_start
low-white c h =
    let small : c < 128 = grind (arith, nat_tests) in
    let letter : ((c == 95) || is_ascii_alphabetic c) ≡ false = grind (arith, nat_tests) in
    ap (λ z. (c == 95) || z) (is_xid_start-ascii c small) ∙ letter

pub white-starts-none : (c : ℕ) → is_whitespace c ≡ true → is_id_start c ≡ false
unfolding is_whitespace is_id_start unicode_ident
white-starts-none c h =
    elim (or_cases _ _ h) [
      | inr a ↦ at-code 0x2029 c a refl
      | inl h ↦ elim (or_cases _ _ h) [
        | inr a ↦ at-code 0x2028 c a refl
        | inl h ↦ elim (or_cases _ _ h) [
          | inr a ↦ at-code 0x200F c a refl
          | inl h ↦ elim (or_cases _ _ h) [
            | inr a ↦ at-code 0x200E c a refl
            | inl h ↦ elim (or_cases _ _ h) [
              | inr a ↦ at-code 0x85 c a refl
              | inl h ↦ elim (or_cases _ _ h) [
                | inr a ↦ at-code 32 c a refl
                | inl h ↦ low-white c h
              ]
            ]
          ]
        ]
      ]
    ]

pub no-white : (x : ℕ) → is_id_start x ≡ true → is_whitespace x ≡ false
no-white x starts = elim (bool_cases (is_whitespace x)) [
  | inr h ↦ h
  | inl h ↦ let w : true ≡ false = sym starts ∙ white-starts-none x h in cc
]
