-- The word's own bytes are the bytes that it was made of, and each is eight of its bits.
use Rattle.std.proofs.Common.{◌≡◌, ◌%◌, get_or, ap, rules, arith}
use Rattle.std.specs.Int.{w64, to_le_bytes}
use Rattle.std.proofs.lemmas.Nat.{le_bytes_8}
use Rattle.bucket_meta.proofs.fields.Each.{each_byte}
use Rattle.bucket_meta.proofs.metadata.word_of.Goals as goal

pub returns : goal.returns
returns c =
    let same : to_le_bytes w64 c.from_le_bytes.result ≡ c.args.bytes =
    le_bytes_8 c.args.bytes _ (search rules) (search rules) c.from_le_bytes.ensures in
    let first : c.from_le_bytes.result % 256 ≡ get_or c.args.bytes 0 0 = ap (λ bytes. get_or bytes 0 0) same in
    each_byte _
    (omega arith) (ap (λ bytes. get_or bytes 1 0) same)
    (ap (λ bytes. get_or bytes 2 0) same) (ap (λ bytes. get_or bytes 3 0) same)
    (ap (λ bytes. get_or bytes 4 0) same) (ap (λ bytes. get_or bytes 5 0) same)
    (ap (λ bytes. get_or bytes 6 0) same) (ap (λ bytes. get_or bytes 7 0) same)
