-- A slot more gives its record, or none.
use Rattle.std.proofs.Common.{◌≡◌, ℕ, ◌+◌, ◌*◌, ◌≤◌, List, [], ◌∷◌, ◌++◌, length, sym, ap, ◌∙◌, subst, arith, append_assoc, length-append}
use Rattle.std.specs.Prelude.{All}
use Rattle.std.proofs.lemmas.List.Elements.{All-append, All-cons, All-nil}
use Rattle.bucket_meta.specs.Bucket.{allocated}
use Rattle.sound_image.specs.Records.{key_hash}
use Rattle.stash.specs.Segment.{Stashed, IsStashed}
use Rattle.whole_segment.specs.Records.{first_in, key_in}
use Rattle.whole_segment.specs.Notes.{entries_below}
use Rattle.whole_segment.specs.Gathered.{records_of}
use Rattle.whole_segment.specs.declared.stash_records.StashRecords.{StashRecords}
use Rattle.whole_segment.proofs.StashLists.{with_slot, without_slot}
use Rattle.whole_segment.proofs.stash_records.StashRecords.extend.Goals as goal
use Rattle.whole_segment.proofs.stash_records.StashRecords.extend.Goals.{then-is_taken, else-is_taken}

-- one record is stashed where it is
all_one : (e : Stashed) → IsStashed e → All IsStashed (e ∷ [])
all_one e is = All-cons IsStashed e [] is (All-nil IsStashed)

pub loop-slot-preserved : goal.loop-slot-preserved
loop-slot-preserved c =
    let first : ℕ → ℕ = first_in c.args.loaded.now in
    let key : ℕ → ℕ → ℕ = key_in c.args.loaded.now in
    let hash : ℕ → ℕ = key_hash c.args.geometry.now in
    let index = c.args.index in
    let slot = c.loop-slot.slot in
    let began = records_of c.args.self.now in
    let before = records_of c.loop-slot.self in
    let so_far = entries_below first key hash index slot in
    let now = c.loop-slot.invariant in
    let of_bucket : ℕ → Type 0 = λ (b : ℕ). allocated slot (first b) ≡ 1 in
    let bucket = c.stash_bucket.ensures.is in
    let P : StashRecords → Type 0 = λ gathered. record {
      more : records_of gathered ≡ began ++ entries_below first key hash index (slot + 1);
      most : length (records_of gathered) ≤ 14 * index + (slot + 1);
      stashed : All IsStashed (records_of gathered);
    } in
    elim c.if-is_taken.branch [
      | then-is_taken w ↦
          let e : Stashed = w.stash_record.result in
          let pushed : records_of w.push.new.self ≡ before ++ e ∷ [] = w.push.ensures in
          let one = with_slot first key hash index slot (subst of_bucket bucket (c.is_taken.ensures.0 w.if-is_taken.true)) in
          let Q : List Stashed → Type 0 = All IsStashed in
          subst P (sym w.self-is) (record {
            more = pushed ∙ (ap (λ xs. xs ++ e ∷ []) now.more ∙ (append_assoc began so_far (e ∷ [])
                ∙ (ap (λ x. began ++ (so_far ++ x ∷ [])) w.stash_record.ensures.is ∙ ap (λ xs. began ++ xs) (sym one))));
            most = omega (arith, ap length pushed, length-append before (e ∷ []), now.most);
            stashed = subst Q (sym pushed) (All-append IsStashed before (e ∷ []) now.stashed (all_one e w.stash_record.ensures.stashed));
          })
      | else-is_taken w ↦
          let none = without_slot first key hash index slot (λ taken. let yes = c.is_taken.ensures.1 (subst of_bucket (sym bucket) taken) in let not = w.if-is_taken.false in absurd (cc)) in
          subst P (sym w.self-is) (record {
            more = now.more ∙ ap (λ xs. began ++ xs) (sym none);
            most = omega (arith, now.most);
            stashed = now.stashed;
          })
    ]
