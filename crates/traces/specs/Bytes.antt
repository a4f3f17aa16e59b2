-- Rows of moves as bytes: each row of moves that are known is that of some bytes, and the first moves of a trace are those of its first
-- bytes.
use Rattle.std.specs.Prelude.{List, [], ◌∷◌, ◌≢◌, ◌≡◌, refl, ℕ, zero, suc, ◌+◌, ◌*◌, ◌≤◌, ◌<◌, length, take}
use Rattle.std.proofs.Math.Logic.{ite, if_pos, if_neg}
use Rattle.std.proofs.Common.{sym, ap, subst, ◌∙◌, arith}
use Rattle.std.proofs.Math.Decide.{dec_lt}
use Rattle.bits.specs.Bit.{bit}
use Rattle.record.specs.Triple.{Triple, triple}
use Rattle.record.specs.TripleNumber.{triple_of, triple_of_bits}
use Rattle.steps.specs.Told.{bit_le}
use Rattle.traces.specs.Move.{Move, add, take_away, claim, unknown, moves_of}

-- a triple as a number, "with the first bit worth 4"
abbrev pub triple_number : Triple → ℕ
triple_number (triple first second third) = 4 * bit first + 2 * bit second + bit third

-- the bytes of a row of moves; a move that is unknown gets kind 0
abbrev pub bytes_of : List Move → List ℕ
bytes_of [] = []
bytes_of (add t ∷ moves) = 1 ∷ (triple_number t ∷ bytes_of moves)
bytes_of (take_away ∷ moves) = 2 ∷ bytes_of moves
bytes_of (claim ∷ moves) = 3 ∷ bytes_of moves
bytes_of (unknown ∷ moves) = 0 ∷ bytes_of moves

-- every move of the row is known
abbrev pub Known : List Move → Type 0
Known [] = Unit
Known (add t ∷ moves) = Known moves
Known (take_away ∷ moves) = Known moves
Known (claim ∷ moves) = Known moves
Known (unknown ∷ moves) = ⊥

read_add : (t : Triple) (rest : List ℕ) → moves_of (1 ∷ (triple_number t ∷ rest)) ≡ add t ∷ moves_of rest
unfolding moves_of
read_add (triple first second third) rest =
    let number : ℕ = 4 * bit first + 2 * bit second + bit third in
    let small : number < 8 = omega (arith, bit_le first, bit_le second, bit_le third) in
    if_pos (dec_lt number 8) small _ _ ∙ ap (λ (t : Triple). add t ∷ moves_of rest) (triple_of_bits first second third)

pub moves_of_bytes : (moves : List Move) → Known moves → moves_of (bytes_of moves) ≡ moves
unfolding moves_of
moves_of_bytes [] k = refl
moves_of_bytes (add t ∷ moves) k = read_add t (bytes_of moves) ∙ ap (λ (ms : List Move). add t ∷ ms) (moves_of_bytes moves k)
moves_of_bytes (take_away ∷ moves) k = ap (λ (ms : List Move). take_away ∷ ms) (moves_of_bytes moves k)
moves_of_bytes (claim ∷ moves) k = ap (λ (ms : List Move). claim ∷ ms) (moves_of_bytes moves k)
moves_of_bytes (unknown ∷ moves) k = elim k [ ]

-- ---- 28 by the bytes
-- "an unknown kind, a missing body or a triple above 7"
pub data BadBytes : List ℕ → Type 0 where
  unknown_kind : {kind : ℕ} {rest : List ℕ} → kind ≢ 1 → kind ≢ 2 → kind ≢ 3 → BadBytes (kind ∷ rest)
  missing_body : BadBytes (1 ∷ [])
  above_7 : {body : ℕ} {rest : List ℕ} → ¬ (body < 8) → BadBytes (1 ∷ (body ∷ rest))

pub bad→unknown : {bytes : List ℕ} → BadBytes bytes → moves_of bytes ≡ unknown ∷ []
unfolding moves_of
bad→unknown (unknown_kind {kind} {rest} a b c) = go kind a b c
  where
    go : (kind : ℕ) → kind ≢ 1 → kind ≢ 2 → kind ≢ 3 → moves_of (kind ∷ rest) ≡ unknown ∷ []
    go zero a b c = refl
    go (suc zero) a b c = absurd (a refl)
    go (suc (suc zero)) a b c = absurd (b refl)
    go (suc (suc (suc zero))) a b c = absurd (c refl)
    go (suc (suc (suc (suc kind)))) a b c = refl
bad→unknown missing_body = refl
bad→unknown (above_7 {body} h) = if_neg (dec_lt body 8) h _ _

-- the first move is unknown
abbrev FirstUnknown : List Move → Type 0
FirstUnknown [] = ⊥
FirstUnknown (add t ∷ moves) = ⊥
FirstUnknown (take_away ∷ moves) = ⊥
FirstUnknown (claim ∷ moves) = ⊥
FirstUnknown (unknown ∷ moves) = Unit

first_unknown→bad : (bytes : List ℕ) → FirstUnknown (moves_of bytes) → BadBytes bytes
unfolding moves_of
first_unknown→bad [] f = absurd f
first_unknown→bad (zero ∷ rest) f = unknown_kind {kind = 0} {rest = rest} (omega arith) (omega arith) (omega arith)
first_unknown→bad (suc zero ∷ []) f = missing_body
first_unknown→bad (suc zero ∷ (body ∷ rest)) f = go (dec_lt body 8) f
  where
    go : (d : Dec (body < 8)) → FirstUnknown (ite d (add (triple_of body) ∷ moves_of rest) (unknown ∷ [])) → BadBytes (1 ∷ (body ∷ rest))
    go (yes d) f = absurd f
    go (no d) f = above_7 d
first_unknown→bad (suc (suc zero) ∷ rest) f = absurd f
first_unknown→bad (suc (suc (suc zero)) ∷ rest) f = absurd f
first_unknown→bad (suc (suc (suc (suc kind))) ∷ rest) f =
    unknown_kind {kind = suc (suc (suc (suc kind)))} {rest = rest} (omega arith) (omega arith) (omega arith)

pub unknown→bad : (bytes : List ℕ) → moves_of bytes ≡ unknown ∷ [] → BadBytes bytes
unknown→bad bytes e = first_unknown→bad bytes (subst FirstUnknown (sym e) tt)

-- ---- lengths, and a trace that is cut
-- a move has at least one byte
pub moves_few : (bytes : List ℕ) → length (moves_of bytes) ≤ length bytes
unfolding moves_of
moves_few [] = omega arith
moves_few (zero ∷ rest) = omega arith
moves_few (suc zero ∷ []) = omega arith
moves_few (suc zero ∷ (body ∷ rest)) = go (dec_lt body 8) (moves_few rest)
  where
    go : (d : Dec (body < 8)) → length (moves_of rest) ≤ length rest
        → length (ite d (add (triple_of body) ∷ moves_of rest) (unknown ∷ [])) ≤ suc (suc (length rest))
    go (yes d) few = omega arith
    go (no d) few = omega arith
moves_few (suc (suc zero) ∷ rest) = omega (arith, moves_few rest)
moves_few (suc (suc (suc zero)) ∷ rest) = omega (arith, moves_few rest)
moves_few (suc (suc (suc (suc kind))) ∷ rest) = omega arith

-- a row of bytes cut at a place has the first k of its moves
abbrev Cut : List ℕ → ℕ → Type 0
Cut bytes k = (place : ℕ) × (moves_of (take place bytes) ≡ take k (moves_of bytes))

cut_none : (bytes : List ℕ) → Cut bytes 0
cut_none bytes = (0, unfold moves_of in refl)

pub cut_bytes : (bytes : List ℕ) (k : ℕ) → k < length (moves_of bytes) → Cut bytes k
unfolding moves_of
cut_bytes [] k h = absurd (omega arith)
cut_bytes (zero ∷ rest) zero h = cut_none (0 ∷ rest)
cut_bytes (zero ∷ rest) (suc k) h = absurd (omega arith)
cut_bytes (suc zero ∷ []) zero h = cut_none (1 ∷ [])
cut_bytes (suc zero ∷ []) (suc k) h = absurd (omega arith)
cut_bytes (suc zero ∷ (body ∷ rest)) zero h = cut_none (1 ∷ (body ∷ rest))
cut_bytes (suc zero ∷ (body ∷ rest)) (suc k) h = go (dec_lt body 8) (cut_bytes rest k) h
  where
    go : (d : Dec (body < 8)) → (k < length (moves_of rest) → Cut rest k)
        → suc k < length (ite d (add (triple_of body) ∷ moves_of rest) (unknown ∷ []))
        → (place : ℕ) ×
        (moves_of (take place (1 ∷ (body ∷ rest))) ≡ take (suc k) (ite d (add (triple_of body) ∷ moves_of rest) (unknown ∷ [])))
    go (yes d) cut h =
        let (place, e) = cut (omega arith) in
        (suc (suc place), if_pos (dec_lt body 8) d _ _ ∙ ap (λ (ms : List Move). add (triple_of body) ∷ ms) e)
    go (no d) cut h = absurd (omega arith)
cut_bytes (suc (suc zero) ∷ rest) zero h = cut_none (2 ∷ rest)
cut_bytes (suc (suc zero) ∷ rest) (suc k) h =
    let (place, e) = cut_bytes rest k (omega arith) in (suc place, ap (λ (ms : List Move). take_away ∷ ms) e)
cut_bytes (suc (suc (suc zero)) ∷ rest) zero h = cut_none (3 ∷ rest)
cut_bytes (suc (suc (suc zero)) ∷ rest) (suc k) h =
    let (place, e) = cut_bytes rest k (omega arith) in (suc place, ap (λ (ms : List Move). claim ∷ ms) e)
cut_bytes (suc (suc (suc (suc kind))) ∷ rest) zero h = cut_none (suc (suc (suc (suc kind))) ∷ rest)
cut_bytes (suc (suc (suc (suc kind))) ∷ rest) (suc k) h = absurd (omega arith)
