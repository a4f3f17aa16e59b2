-- A body is told by the triples that are read from it and by its spare bits.
use Rattle.std.specs.Prelude.{Bool, true, false, ◌&&◌, List, ◌≡◌, refl, ℕ, zero, suc, ◌+◌, ◌-◌, ◌*◌, ◌/◌, ◌%◌, ◌≤◌, ◌<◌, ltb, length}
use Rattle.std.proofs.Common.{sym, ap, ◌∙◌, arith, ltb-true, ltb-false}
use Rattle.bits.specs.Bit.{bit_at, Bytes, pack}
use Rattle.bits.proofs.Pack.{length_pack, bytes_pack, bit_at_pack, same_bits}
use Rattle.record.specs.Triple.{Triple}
use Rattle.record.specs.Record.{triple_bit, body_bit, triple_in}

-- bit m of the triple that is read
triple_bit_lem : (body : List ℕ) (k m i : ℕ) → m < 3 → 3 * k + m ≡ i → triple_bit (triple_in body (suc (suc k))) m ≡ bit_at body i
triple_bit_lem body k zero i h e = ap (bit_at body) (omega arith)
triple_bit_lem body k (suc zero) i h e = ap (bit_at body) e
triple_bit_lem body k (suc (suc zero)) i h e = ap (bit_at body) e
triple_bit_lem body k (suc (suc (suc m))) i h e = absurd (omega arith)

-- a body from which the triples of positions 2 to n are read, and whose other bits are 0, is made of these triples
pub body_of_triples : (triples : ℕ → Triple) (n : ℕ) (body : List ℕ) → Bytes body
    → ((i : ℕ) → 2 ≤ i → i ≤ n → triple_in body i ≡ triples i)
    → ((b : ℕ) → 3 * n - 3 ≤ b → b < 8 * length body → bit_at body b ≡ false)
    → body ≡ pack (body_bit triples n) (length body)
unfolding body_bit
body_of_triples triples n body all has spare =
    same_bits body (pack bits (length body)) all (bytes_pack bits (length body)) (sym (length_pack bits (length body)))
    (λ b h. same b h (ltb b (3 * n - 3)) refl ∙ sym (bit_at_pack bits (length body) b h))
  where
    bits : ℕ → Bool
    bits = body_bit triples n

    masked : (b : ℕ) (x : Bool) → ltb b (3 * n - 3) ≡ x → bits b ≡ (x && triple_bit (triples (suc (suc (b / 3)))) (b % 3))
    masked b x e = ap (λ (y : Bool). y && triple_bit (triples (suc (suc (b / 3)))) (b % 3)) e

    same : (b : ℕ) → b < 8 * length body → (x : Bool) → ltb b (3 * n - 3) ≡ x → bit_at body b ≡ bits b
    same b h true e =
        sym (triple_bit_lem body (b / 3) (b % 3) b (omega arith) (omega arith))
        ∙ ap (λ (t : Triple). triple_bit t (b % 3)) (has (suc (suc (b / 3))) (omega arith) (omega (arith, ltb-true b (3 * n - 3) e)))
        ∙ sym (masked b true e)
    same b h false e = spare b (ltb-false b (3 * n - 3) e) h ∙ sym (masked b false e)
