-- Rooms one after the other along a line, as the code goes over them: of each room one side lies on the line, and it starts where the
-- room before it ends. The line is told by its coordinate, and `on`, `from` and `to` give, of each room, the side that may lie on it,
-- where the room starts and where it ends.
use Rattle.std.specs.Prelude.{◌≡◌, ◌⊎◌, ℕ, ◌<◌}
use Rattle.std.proofs.Common.{zero-le}
use Rattle.orders.specs.Starts.{Starts}

-- room c is reached from the point
pub data Reached (n : ℕ) (on from to : ℕ → ℕ) (line point : ℕ) : ℕ → Type 0 where
  first : {c : ℕ} → c < n → on c ≡ line → from c ≡ point → Reached n on from to line point c
  further : {c d : ℕ} → Reached n on from to line point c → d < n → on d ≡ line → from d ≡ to c → Reached n on from to line point d

-- room c is the last that is reached
pub record End (n : ℕ) (on from to : ℕ → ℕ) (line point c : ℕ) : Type 0 where
  pub reached : Reached n on from to line point c
  pub stop : ¬ Starts n on from line (to c)

-- Room c follows room b: it is the last one down the line of b's right side, from b's upper-right corner; or the last one to the left
-- along the line of b's top. That is the rule of positions. With bottom and top exchanged it is the rule of labels: from b's lower-right
-- corner up, or to the left along the line of b's bottom.
pub data Follows (n : ℕ) (left bottom right top : ℕ → ℕ) (b c : ℕ) : Type 0 where
  beside : End n left top bottom (right b) (top b) c → Follows n left bottom right top b c
  across : End n bottom right left (top b) (right b) c → Follows n left bottom right top b c

-- a room starts at b's corner, on one of the two lines
abbrev pub StartsAtCorner : (n : ℕ) (left bottom right top : ℕ → ℕ) (b : ℕ) → Type 0
StartsAtCorner n left bottom right top b = Starts n left top (right b) (top b) ⊎ Starts n bottom right (top b) (right b)

module _ {n : ℕ} {on from to : ℕ → ℕ} {line point : ℕ} where
  pub reached→room : {c : ℕ} → Reached n on from to line point c → c < n
  reached→room (first h e f) = h
  reached→room (further r h e f) = h

  pub reached→on : {c : ℕ} → Reached n on from to line point c → on c ≡ line
  reached→on (first h e f) = e
  reached→on (further r h e f) = e

  pub reached→starts : {c : ℕ} → Reached n on from to line point c → Starts n on from line point
  reached→starts (first {c = c} h e f) = (c, zero-le, h, (e, f))
  reached→starts (further r h e f) = reached→starts r

pub follows→room : {n : ℕ} {left bottom right top : ℕ → ℕ} {b c : ℕ} → Follows n left bottom right top b c → c < n
follows→room (beside e) = reached→room e.reached
follows→room (across e) = reached→room e.reached
