-- How a store grows by a part, and parts that are put one after the other.
use Rattle.std.specs.Prelude.{List, [], ◌∷◌, ◌++◌, ◌≡◌, refl, ℕ, ◌+◌, ◌<◌, length, take, set}
use Rattle.std.proofs.Common.{append-nil, append_assoc, sym, ap, subst, ◌∙◌, arith, add-one, length-set, length-append, take-suc-set}

-- a store held something that ended at `at`: now the part follows it, and ends at `end`
pub record Put (before : List ℕ) (at : ℕ) (part after : List ℕ) (end : ℕ) : Type 0 where
  pub next : end ≡ at + length part
  pub front : take end after ≡ take at before ++ part
  pub size : length after ≡ length before

-- nothing is put
pub put_none : (store : List ℕ) (at : ℕ) → Put store at [] store at
put_none store at = record { next = omega arith; front = sym (append-nil (take at store)); size = refl }

-- one entry, stored
pub put_one : (store : List ℕ) (at entry : ℕ) → at < length store → Put store at (entry ∷ []) (set store at entry) (at + 1)
put_one store at entry h = record {
  next = refl;
  front = rw (add-one at) (take-suc-set store at entry h);
  size = length-set store at entry;
}

module _ {before middle after part rest : List ℕ} {at next end : ℕ} where
  -- one part after the other
  pub put_more : Put before at part middle next → Put middle next rest after end → Put before at (part ++ rest) after end
  put_more p q = record {
    next = omega (arith, p.next, q.next, length-append part rest);
    front = q.front ∙ ap (λ (l : List ℕ). l ++ rest) p.front ∙ append_assoc (take at before) part rest;
    size = q.size ∙ p.size;
  }

-- the same part by another name
pub put_as : {before after part other : List ℕ} {at end : ℕ} → part ≡ other → Put before at part after end → Put before at other after end
put_as {before} {after} {part} {other} {at} {end} e p = subst (λ (l : List ℕ). Put before at l after end) e p
