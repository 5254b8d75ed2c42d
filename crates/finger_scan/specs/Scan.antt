-- What a scan of a bucket's fingerprints for a byte finds, as a number whose bit s is of record slot s.
use Rattle.std.specs.Prelude.{◌≡◌, ℕ, ◌<◌, List, slice_index}
use Rattle.std.specs.Int.{bit_at}
use Rattle.bucket_meta.specs.Bucket.{record_slots}

-- bit s is set exactly where s is a record slot whose fingerprint is the byte
pub record IsScanOf (fps : List ℕ) (byte result : ℕ) : Type 0 where
  pub set : (s : ℕ) → s < record_slots → slice_index fps s ≡ byte → bit_at result s ≡ 1
  pub only_slots : (s : ℕ) → bit_at result s ≡ 1 → s < record_slots
  pub only_byte : (s : ℕ) → bit_at result s ≡ 1 → slice_index fps s ≡ byte

-- fingerprints and a byte have one scan
abbrev pub ScanIsDetermined : Type 0
ScanIsDetermined = (fps : List ℕ) (byte a b : ℕ) → IsScanOf fps byte a → IsScanOf fps byte b → a ≡ b
