-- The record of a Baxter list of n labels is an accepted record of n rooms.
use Rattle.std.specs.Prelude.{List, ◌≡◌, ℕ, zero, suc, ◌≤◌, ◌<◌, length}
use Rattle.std.proofs.Common.{arith}
use Rattle.bits.specs.Bit.{Bytes}
use Rattle.bits.proofs.Pack.{bytes_pack}
use Rattle.record.specs.Labels.{label_at}
use Rattle.record.specs.Barred.{Baxter}
use Rattle.record.specs.Triple.{triple_at}
use Rattle.record.specs.Record.{body_length, body_bit, record_of}
use Rattle.record.proofs.Demand2Read.{demand2_written_read}
use Rattle.counting.specs.Counted.{AcceptedRecord}

record_bytes : (labels : List ℕ) → length labels < 256 → Bytes (record_of labels)
unfolding record_of
record_bytes labels h zero = h
record_bytes labels h (suc i) = bytes_pack (body_bit (triple_at (label_at labels)) (length labels)) (body_length (length labels)) i

pub record_accepted : (n : ℕ) → 1 ≤ n → n ≤ 255 → (labels : List ℕ) → Baxter labels → length labels ≡ n → AcceptedRecord n (record_of labels)
unfolding record_of
record_accepted n some few labels baxter size = record {
  all_bytes = record_bytes labels (omega arith);
  read = demand2_written_read labels (omega arith) baxter;
  rooms = size;
}
