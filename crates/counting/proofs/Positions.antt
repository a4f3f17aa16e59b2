-- Triples by position, as a walk takes them, and the list of those of positions 2 to k + 1.
use Rattle.std.specs.Prelude.{List, [], ◌∷◌, ◌++◌, ◌≡◌, refl, false, ℕ, zero, suc, ◌+◌, length, get_or}
use Rattle.std.proofs.Common.{sym, ap, ◌∙◌, arith, ext_get_or}
use Rattle.finite.specs.Sum.{sum_empty, sum_last}
use Rattle.finite.specs.Table.{table, length_table, get_d_table}
use Rattle.record.specs.Triple.{Triple, triple}
use Rattle.record.specs.Rises.{rises}
use Rattle.record.specs.Walk.{Counts, counts, step, and_then, walk}
use Rattle.counting.proofs.Sequences.{onward, rise, rises_in}

abbrev pub listed : (ℕ → Triple) → (k : ℕ) → List Triple
listed triples k = table (λ i. triples (suc (suc i))) k

-- the triple of a position of 2, 3, .. in a list
abbrev pub placed : List Triple → ℕ → Triple
placed ts zero = triple false false false
placed ts (suc zero) = triple false false false
placed ts (suc (suc i)) = get_or ts i (triple false false false)

pub listed_placed : (ts : List Triple) (k : ℕ) → length ts ≡ k → listed (placed ts) k ≡ ts
listed_placed ts k e =
    ext_get_or (triple false false false) (listed (placed ts) k) ts (length_table (λ i. placed ts (suc (suc i))) k ∙ sym e)
    (λ i h. get_d_table (λ i. placed ts (suc (suc i))) k i (triple false false false) (omega (arith, length_table (λ i. placed ts (suc (suc i))) k)))

-- ---- one triple more
listed_more : (f : ℕ → Triple) (k : ℕ) → table f (suc k) ≡ table f k ++ (f k ∷ [])
unfolding table
listed_more f zero = refl
listed_more f (suc k) = ap (λ (rest : List Triple). f 0 ∷ rest) (listed_more (λ i. f (suc i)) k)

onward_more : (ts : List Triple) (t : Triple) (c : Counts) → onward (ts ++ (t ∷ [])) c ≡ and_then (onward ts c) (step t)
onward_more [] t c = refl
onward_more (u ∷ ts) t c = onward_more ts t (and_then c (step u))

rises_more : (ts : List Triple) (t : Triple) → rises_in (ts ++ (t ∷ [])) ≡ rises_in ts + rise t
rises_more [] t = omega arith
rises_more (u ∷ ts) t = omega (arith, rises_more ts t)

-- ---- the walk and the rises of the list
pub walk_onward : (triples : ℕ → Triple) (k : ℕ) → walk triples k ≡ onward (listed triples k) (counts 0 0)
unfolding walk table
walk_onward triples zero = refl
walk_onward triples (suc k) =
    ap (λ (c : Counts). and_then c (step (triples (suc (suc k))))) (walk_onward triples k)
    ∙ sym (ap (λ (ts : List Triple). onward ts (counts 0 0)) (listed_more (λ i. triples (suc (suc i))) k) ∙ onward_more (listed triples k) (triples (suc (suc k))) (counts 0 0))

pub rises_listed : (triples : ℕ → Triple) (k : ℕ) → rises triples (suc k) ≡ rises_in (listed triples k)
unfolding table rises
rises_listed triples zero = sum_empty (λ i. rise (triples i)) 2 2 (omega arith)
rises_listed triples (suc k) =
    omega (arith, sum_last (λ i. rise (triples i)) 2 (suc (suc k)) (omega arith), rises_listed triples k, rises_more (listed triples k) (triples (suc (suc k))), ap rises_in (listed_more (λ i. triples (suc (suc i))) k))
