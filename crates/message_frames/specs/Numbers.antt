-- Numbers in decimal digits.
use Rattle.std.specs.Prelude.{ℕ, ◌+◌, ◌-◌, ◌*◌, ◌^◌, ◌&&◌, nat_le, nat_lt, Bool, List, [], ◌∷◌, Option, Some, None, if◌then◌else◌}

abbrev pub is_digit : ℕ → Bool
is_digit b = nat_le 48 b && nat_le b 57

-- the number that the digits of n and one more write; None if that is no digit, or the number is not below 2^64
abbrev pub with_digit : ℕ → ℕ → Option ℕ
with_digit n b = if is_digit b && nat_lt (n * 10 + (b - 48)) (2 ^ 64) then Some (n * 10 + (b - 48)) else None

-- the number that the digits of n and these write
unfoldable pub written : ℕ → List ℕ → Option ℕ
written n [] = Some n
written n (b ∷ bs) = elim (with_digit n b) [ None ↦ None | Some m ↦ written m bs ]

-- the number that digits write; None without digits
abbrev pub number : List ℕ → Option ℕ
number [] = None
number (b ∷ bs) = written 0 (b ∷ bs)
