-- The body of a record by itself: the labels whose triples it has, and when it can be walked along. That of a record which is not refused
-- can, and its labels are the record's.
use Rattle.std.specs.Prelude.{List, ◌≡◌, ℕ, ◌≤◌, length, drop}
use Rattle.std.proofs.Common.{inr, sym, subst, arith}
use Rattle.record.specs.Walk.{Accepted}
use Rattle.record.specs.Record.{body_length, triple_in}
use Rattle.record.specs.Decode.{decode}
use Rattle.record.specs.Read.{kind_of, labels_of}
use Rattle.record.specs.Checked.{Readable}
use Rattle.record.proofs.Demand2Read.{readable_accepted}
use Rattle.judging.specs.Judge.{Body}
use Rattle.judging.specs.Passed.{tail, body_is, some_bytes, tail_length}

-- the labels of the n rooms whose triples a body has
abbrev pub labels_in : (body : List ℕ) (n : ℕ) → List ℕ
labels_in body n = decode (triple_in body) n

-- the body of a record of n rooms whose triples are accepted
pub record Walkable (body : List ℕ) (n : ℕ) : Type 0 where
  pub some : 1 ≤ n
  pub few : n ≤ 255
  pub long : length body ≡ body_length n
  pub accepted : Accepted (triple_in body) n

-- ---- a record of n rooms that is not refused
module _ {bytes : List ℕ} {n : ℕ} (readable : Readable bytes) (kind : n ≡ kind_of bytes) where
  -- it has a room
  pub some_rooms : 1 ≤ n
  some_rooms = let some : ¬ (kind_of bytes ≡ 0) = λ e. readable.kind (inr e) in omega arith

  module _ (few : n ≤ 255) where
    body : Body bytes n
    body = record {
      kind = kind;
      some = some_rooms;
      few = few;
      has_kind = readable.kind;
      long = readable.long;
      short = readable.short;
      spare = readable.spare;
    }

    pub readable_has_bytes : 1 ≤ length bytes
    readable_has_bytes = some_bytes body

    pub readable_walkable : Walkable (tail bytes) n
    readable_walkable = record {
      some = some_rooms;
      few = few;
      long = tail_length body;
      accepted = subst (λ (body : List ℕ). Accepted (triple_in body) n) (sym (body_is bytes))
          (subst (Accepted (triple_in (drop 1 bytes))) (sym kind) (readable_accepted bytes readable));
    }

-- its labels are the record's
pub labels_in_body : (bytes : List ℕ) {n : ℕ} → n ≡ kind_of bytes → labels_in (tail bytes) n ≡ labels_of bytes
unfolding labels_of
labels_in_body bytes kind = λ i. decode (triple_in (body_is bytes i)) (kind i)
