-- The bytes that a line knows, told apart.
use Rattle.std.specs.Prelude.{◌≡◌, ◌≢◌, ℕ, ◌-◌, ◌≤◌, ◌<◌}
use Rattle.std.proofs.Common.{ap, ◌∙◌, arith}
use Rattle.std.proofs.Math.Logic.{ite, if_pos, if_neg}
use Rattle.std.proofs.Math.Decide.{dec_lt, ℕ_discrete}
use Rattle.digits.specs.Decimal as byte
use Rattle.labeltext.specs.Form as form

pub data Symbol : Type 0 where
  digit : ℕ → Symbol
  space : Symbol
  comma : Symbol
  other : Symbol

-- the byte is this symbol
abbrev pub Is : ℕ → Symbol → Type 0
Is b (digit d) = (d < 10) × (b ≡ byte.digit d)
Is b space = b ≡ byte.space
Is b comma = b ≡ form.comma
Is b other = (b < 48 → (b ≢ byte.space) × (b ≢ form.comma)) × (48 ≤ b → 58 ≤ b)

unfoldable pub symbol_of : ℕ → Symbol
unfolding dec_lt ℕ_discrete
symbol_of b =
    ite (ℕ_discrete b byte.space) space
    (ite (ℕ_discrete b form.comma) comma
    (ite (dec_lt b 48) other
    (ite (dec_lt b 58) (digit (b - 48))
    other)))

-- each byte is its symbol
pub symbol_is : (b : ℕ) → Is b (symbol_of b)
unfolding symbol_of
symbol_is b = go (ℕ_discrete b byte.space) (ℕ_discrete b form.comma) (dec_lt b 48) (dec_lt b 58)
  where
    go : (s : Dec (b ≡ byte.space)) (c : Dec (b ≡ form.comma)) (l : Dec (b < 48)) (h : Dec (b < 58))
        → Is b (ite s space (ite c comma (ite l other (ite h (digit (b - 48)) other))))
    go (yes s) c l h = s
    go (no s) (yes c) l h = c
    go (no s) (no c) (yes l) h = (λ k. (s, c), λ k. absurd (omega arith))
    go (no s) (no c) (no l) (yes h) = (omega arith, omega arith)
    go (no s) (no c) (no l) (no h) = (λ k. (s, c), λ k. omega arith)

-- a digit's byte is that digit
pub digit_symbol : (d : ℕ) → d < 10 → symbol_of (byte.digit d) ≡ digit d
unfolding symbol_of
digit_symbol d small =
    if_neg (ℕ_discrete (byte.digit d) byte.space) (λ h. omega arith) _ _
    ∙ if_neg (ℕ_discrete (byte.digit d) form.comma) (λ h. omega arith) _ _
    ∙ if_neg (dec_lt (byte.digit d) 48) (λ h. omega arith) _ _
    ∙ if_pos (dec_lt (byte.digit d) 58) (omega arith) _ _
    ∙ ap digit (omega arith)
