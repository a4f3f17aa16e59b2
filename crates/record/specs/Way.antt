-- The two ways to look along the labels, up and down, so that what holds above a label and below it is said once.
use Rattle.std.specs.Prelude.{◌≡◌, refl, ◌⊎◌, ℕ, ◌+◌, ◌-◌, ◌<◌}
use Rattle.std.proofs.Common.{inl, inr, arith}
use Rattle.std.proofs.Math.Decide.{dec_lt, ℕ_discrete}

pub data Way : Type 0 where
  up down : Way

abbrev pub other : Way → Way
other up = down
other down = up

-- a fact for both ways, from one for each
pub both : (P : Way → Type 0) → P up → P down → (way : Way) → P way
both P u d up = u
both P u d down = d

abbrev pub Less : Way → ℕ → ℕ → Type 0
Less up x y = x < y
Less down x y = y < x

-- going that way, y comes after x
pub record Past (way : Way) (x y : ℕ) : Type 0 where
  pub less : Less way x y

abbrev pub Follows : Way → ℕ → ℕ → Type 0
Follows up x y = x + 1 ≡ y
Follows down x y = y + 1 ≡ x

-- going that way, y is the next number after x
pub record Beside (way : Way) (x y : ℕ) : Type 0 where
  pub next : Follows way x y

pub past_trans : {way : Way} {x y z : ℕ} → Past way x y → Past way y z → Past way x z
past_trans {way = up} p q = omega arith
past_trans {way = down} p q = omega arith

pub past_not_self : {way : Way} {x : ℕ} → Past way x x → ⊥
past_not_self {way = up} p = omega arith
past_not_self {way = down} p = omega arith

pub past_not_back : {way : Way} {x y : ℕ} → Past way x y → Past way y x → ⊥
past_not_back p q = past_not_self (past_trans p q)

pub past_turn : {way : Way} {x y : ℕ} → Past way x y → Past (other way) y x
past_turn {way = up} p = omega arith
past_turn {way = down} p = omega arith

pub past_turn_back : (way : Way) {x y : ℕ} → Past (other way) x y → Past way y x
past_turn_back up p = omega arith
past_turn_back down p = omega arith

pub beside_past : {way : Way} {x y : ℕ} → Beside way x y → Past way x y
beside_past {way = up} b = omega arith
beside_past {way = down} b = omega arith

pub beside_turn_back : (way : Way) {x y : ℕ} → Beside (other way) x y → Beside way y x
beside_turn_back up b = omega arith
beside_turn_back down b = omega arith

pub beside_one : {way : Way} {x y z : ℕ} → Beside way x y → Beside way x z → y ≡ z
beside_one {way = up} b c = omega arith
beside_one {way = down} b c = omega arith

-- ---- how two numbers stand
pub data Order (way : Way) (x y : ℕ) : Type 0 where
  before : Past way x y → Order way x y
  same : x ≡ y → Order way x y
  after : Past way y x → Order way x y

pub order : (way : Way) (x y : ℕ) → Order way x y
order way x y = go way (dec_lt x y) (dec_lt y x)
  where
    go : (way : Way) → Dec (x < y) → Dec (y < x) → Order way x y
    go up (yes p) q = before (omega arith)
    go up (no p) (yes q) = after (omega arith)
    go up (no p) (no q) = same (omega arith)
    go down (yes p) q = after (omega arith)
    go down (no p) (yes q) = before (omega arith)
    go down (no p) (no q) = same (omega arith)

pub not_past_same : (way : Way) {x y : ℕ} → ¬ Past way x y → ¬ Past way y x → x ≡ y
not_past_same way {x} {y} a b = go (order way x y)
  where
    go : Order way x y → x ≡ y
    go (before p) = absurd (a p)
    go (same e) = e
    go (after p) = absurd (b p)

-- nothing lies between a number and the next one
pub beside_tight : {way : Way} {x y z : ℕ} → Beside way x y → Past way x z → (y ≡ z) ⊎ Past way y z
beside_tight {way} {x} {y} {z} b p = go way b p (ℕ_discrete y z)
  where
    go : (way : Way) → Beside way x y → Past way x z → Dec (y ≡ z) → (y ≡ z) ⊎ Past way y z
    go way b p (yes e) = inl e
    go up b p (no n) = inr (omega arith)
    go down b p (no n) = inr (omega arith)

-- the next number on the way to one that is past
pub next_toward : {way : Way} {x z : ℕ} → Past way x z → (y : ℕ) × Beside way x y
next_toward {way = up} {x} p = (x + 1, record { next = refl })
next_toward {way = down} {x} p = (x - 1, omega arith)
