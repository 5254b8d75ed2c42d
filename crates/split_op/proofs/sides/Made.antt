-- The words of a side, beside those of the segment, are a copy in whichever other slot they stand.
use Rattle.std.proofs.Common.{◌≡◌, ◌≢◌, ℕ, suc, ◌+◌, ◌*◌, ◌^◌, ◌<◌, ◌≤◌, List, ◌++◌, length, sym, ap, subst, ◌∙◌, arith}
use Rattle.bucket_meta.specs.Bucket.{allocated, member, finger, overflow_count, record_slots}
use Rattle.bucket_meta.specs.Notes.{OverflowNote, AreExact, notes_by}
use Rattle.hash_word.specs.Hash.{Covers, probing_of, top}
use Rattle.segment_head.specs.HeadWord.{version_in, depth_in, pattern_in, splitting}
use Rattle.segment_head.proofs.Headers.{header_depth, header_pattern}
use Rattle.segment_table.proofs.frames.Regions.{top_below}
use Rattle.image_layout.proofs.Areas.{power_le}
use Rattle.way.proofs.Leading.{leading_is}
use Rattle.trace.specs.Events.{Words}
use Rattle.image_layout.specs.Places.{Shape, bucket_at, homes, buckets, block, words_of_buckets}
use Rattle.sound_image.specs.Segments.{frame_of, InOneSide}
use Rattle.sound_image.specs.Records.{key_hash}
use Rattle.sound_image.specs.Records as image
use Rattle.bucket_words.specs.Buckets.{IsTaken, key_in}
use Rattle.bucket_words.specs.Hits.{Hit}
use Rattle.frame_facts.specs.Copies.{HasRecordOf, IsRecordOfOneSide}
use Rattle.map_model.specs.declared.call.Call.{Call}
use Rattle.image_layout.specs.Standing.{stashed_of}
use Rattle.world.specs.declared.site.Site.{Site}
use Rattle.world.specs.Ground.{Ground, IsGround}
use Rattle.world.specs.areas.Areas.{header_word}
use Rattle.enclose_op.specs.declared.enclosed.Enclosed.{Enclosed}
use Rattle.enclose_op.specs.Whole.{kept_word, kept_words, kept_first, IsOf, IsWhole, kept_key}
use Rattle.enclose_op.proofs.Places.{kept_there}
use Rattle.split_op.specs.declared.copied.Copied.{Copied}
use Rattle.split_op.specs.Copied.{split_head, copied_words, IsCopy}
use Rattle.split_op.specs.Sides.{side_word, side_words}
use Rattle.split_op.specs.Fits.{CopiesFrom}
use Rattle.split_op.proofs.Finished.{own_header, own_bucket, side_bucket}
use Rattle.split_op.proofs.sides.Siding.{IsSide, is_side, side_small, side_long}
use Rattle.whole_segment.proofs.Stashing.{stashed_same}

module _ (site : Ground) (here : Site) (call : Call) (e : Enclosed) (is : IsOf site here call e) (whole : IsWhole site e) (words : List ℕ) (side : IsSide e words)
    (n : ℕ) (slot : n < site.shape.segments) (apart : n ≢ e.segment) where
  abbrev c : Copied
  c = record { whole = e; side = n; words = words }

  abbrev g : e.site.geometry ≡ site.shape
  g = is.located.shape

  abbrev word : Words
  word = copied_words c

  abbrev s : ℕ
  s = e.segment

  -- ---- words of buckets
  own_is : (b m : ℕ) → b < buckets → m < block → word (bucket_at site.shape s b + m) ≡ kept_word e b m
  own_is b m near low = own_bucket site c g apart b m near low ∙ kept_there site e is.located b m

  side_is : (b m : ℕ) → b < buckets → m < block → word (bucket_at site.shape n b + m) ≡ side_word words b m
  side_is b m near low = side_bucket site c g apart b m near low

  joined : (f a r : ℕ) → f + a + 2 * r ≡ f + (a + 2 * r)
  joined f a r = omega arith

  own_record : (b a r : ℕ) → b < buckets → a ≤ 5 → r < record_slots → word (bucket_at site.shape s b + a + 2 * r) ≡ kept_word e b (a + 2 * r)
  own_record b a r near some low = ap word (joined (bucket_at site.shape s b) a r) ∙ own_is b (a + 2 * r) near (omega (arith, some, low))

  side_record : (b a r : ℕ) → b < buckets → 4 ≤ a → a ≤ 5 → r < record_slots → word (bucket_at site.shape n b + a + 2 * r) ≡ kept_word e b (a + 2 * r)
  side_record b a r near from some low =
      ap word (joined (bucket_at site.shape n b) a r) ∙ side_is b (a + 2 * r) near (omega (arith, some, low)) ∙ side.records b (a + 2 * r) near (omega (arith, from)) (omega (arith, some, low))

  -- ---- the 1-side of the segment
  head_is : word (header_word site.shape s) ≡ split_head e
  head_is = own_header site c g apart

  depth_is : depth_in (word (header_word site.shape s)) + 1 ≡ suc (depth_in e.head)
  depth_is =
      let same = header_depth (version_in e.head) splitting (depth_in e.head) (pattern_in e.head) (omega arith) (omega arith) (omega arith) in
      let head = ap depth_in head_is in omega (arith, same, head)

  pattern_is : 2 * pattern_in (word (header_word site.shape s)) + 1 ≡ 2 * pattern_in e.head + 1
  pattern_is =
      let same = header_pattern (version_in e.head) splitting (depth_in e.head) (pattern_in e.head) (omega arith) (omega arith) (omega arith) in
      let head = ap pattern_in head_is in omega (arith, same, head)

  -- the hashes that it covers
  inside_from : (h : ℕ) → Covers (suc (depth_in e.head)) (2 * pattern_in e.head + 1) h → InOneSide (frame_of site.shape word) s h
  inside_from h covers = subst (λ (d : ℕ). Covers d (2 * pattern_in (word (header_word site.shape s)) + 1) h) (sym depth_is) (subst (λ (p : ℕ). Covers (suc (depth_in e.head)) p h) (sym pattern_is) covers)

  inside_to : (h : ℕ) → InOneSide (frame_of site.shape word) s h → Covers (suc (depth_in e.head)) (2 * pattern_in e.head + 1) h
  inside_to h inside = subst (λ (p : ℕ). Covers (suc (depth_in e.head)) p h) pattern_is (subst (λ (d : ℕ). Covers d (2 * pattern_in (word (header_word site.shape s)) + 1) h) depth_is inside)

  hash_is : (k : ℕ) → key_hash e.site.geometry k ≡ key_hash site.shape k
  hash_is k = ap (λ (z : Shape). key_hash z k) g

  -- ---- slot by slot
  mark_is : (b : ℕ) → b < buckets → word (bucket_at site.shape n b + 1) ≡ side_word words b 1
  mark_is b near = side_is b 1 near (omega arith)

  own_mark : (b : ℕ) → b < buckets → word (bucket_at site.shape s b + 1) ≡ kept_first e b
  own_mark b near = own_is b 1 near (omega arith)

  own_key : (b r : ℕ) → b < buckets → r < record_slots → key_in word (bucket_at site.shape s b) r ≡ kept_key e b r
  own_key b r near low = own_record b 4 r near (omega arith) low

  taken_to : (b r : ℕ) → b < buckets → r < record_slots → IsTaken word (bucket_at site.shape n b) r → IsRecordOfOneSide site.shape word s b r
  taken_to b r near low taken =
      let o = (side.taken b r near low).0 (ap (allocated r) (sym (mark_is b near)) ∙ taken) in
      record {
        taken = ap (allocated r) (own_mark b near) ∙ o.0;
        inside = inside_from (key_hash site.shape (key_in word (bucket_at site.shape s b) r))
            (subst (λ (h : ℕ). Covers (suc (depth_in e.head)) (2 * pattern_in e.head + 1) h) (hash_is (kept_key e b r) ∙ ap (key_hash site.shape) (sym (own_key b r near low))) o.1);
      }

  taken_from : (b r : ℕ) → b < buckets → r < record_slots → IsRecordOfOneSide site.shape word s b r → IsTaken word (bucket_at site.shape n b) r
  taken_from b r near low o =
      ap (allocated r) (mark_is b near)
      ∙ (side.taken b r near low).1 (
        ap (allocated r) (sym (own_mark b near)) ∙ o.taken,
        subst (λ (h : ℕ). Covers (suc (depth_in e.head)) (2 * pattern_in e.head + 1) h) (ap (key_hash site.shape) (own_key b r near low) ∙ sym (hash_is (kept_key e b r)))
            (inside_to (key_hash site.shape (key_in word (bucket_at site.shape s b) r)) o.inside),
      )

  same_record : (b r : ℕ) → b < buckets → r < record_slots → IsTaken word (bucket_at site.shape n b) r → HasRecordOf site.shape word (bucket_at site.shape n b) (bucket_at site.shape s b) r
  same_record b r near low taken =
      let is_taken : allocated r (side_word words b 1) ≡ 1 = ap (allocated r) (sym (mark_is b near)) ∙ taken in
      record {
        key = side_record b 4 r near (omega arith) (omega arith) low ∙ sym (own_record b 4 r near (omega arith) low);
        value = side_record b 5 r near (omega arith) (omega arith) low ∙ sym (own_record b 5 r near (omega arith) low);
        membership = ap (member r) (mark_is b near) ∙ side.membership b r near low is_taken ∙ ap (member r) (sym (own_mark b near));
        fingerprint =
            ap (λ (x : ℕ). finger r x (word (bucket_at site.shape n b + 3))) (side_is b 2 near (omega arith)) ∙ ap (finger r (side_word words b 2)) (side_is b 3 near (omega arith))
            ∙ side.fingers b r near low is_taken
            ∙ ap (λ (x : ℕ). finger r x (kept_word e b 3)) (sym (own_is b 2 near (omega arith))) ∙ ap (finger r (word (bucket_at site.shape s b + 2))) (sym (own_is b 3 near (omega arith)));
      }

  -- ---- the notes
  -- the records in the stash, by the words of the image
  stash_is : (b : ℕ) → image.stashed_of site.shape word n b ≡ stashed_of (λ d. side_word words d 1) (kept_key e) (key_hash e.site.geometry) b
  stash_is b =
      stashed_same (λ d. side_word words d 1) (λ d. word (bucket_at site.shape n d + 1)) (kept_key e) (λ d r. word (bucket_at site.shape n d + 4 + 2 * r)) (key_hash site.shape)
      (λ d stash near. mark_is d near) (λ d r near low. side_record d 4 r near (omega arith) (omega arith) low) b
      ∙ ap (λ (z : Shape). stashed_of (λ d. side_word words d 1) (kept_key e) (key_hash z) b) (sym g)

  exact_there : (b : ℕ) → b < homes → image.HasExactNotes site.shape word n b
  exact_there b home =
      let next : ℕ = probing_of b in
      let near : next < homes = omega arith in
      let here_near : b < buckets = omega (arith, home) in
      let next_near : next < buckets = omega (arith, near) in
      let by : (f h u w : ℕ) → List OverflowNote → Type 0 = λ f h u w stashed. AreExact (notes_by f h 0 ++ notes_by u w 1) (overflow_count f) stashed in
      let last : List OverflowNote = image.stashed_of site.shape word n b in
      subst (λ (x : ℕ). by x (word (bucket_at site.shape n b + 3)) (word (bucket_at site.shape n next + 1)) (word (bucket_at site.shape n next + 3)) last) (sym (mark_is b here_near))
      (subst (λ (x : ℕ). by (side_word words b 1) x (word (bucket_at site.shape n next + 1)) (word (bucket_at site.shape n next + 3)) last) (sym (side_is b 3 here_near (omega arith)))
      (subst (λ (x : ℕ). by (side_word words b 1) (side_word words b 3) x (word (bucket_at site.shape n next + 3)) last) (sym (mark_is next next_near))
      (subst (λ (x : ℕ). by (side_word words b 1) (side_word words b 3) (side_word words next 1) x last) (sym (side_is next 3 next_near (omega arith)))
      (subst (λ (x : List OverflowNote). by (side_word words b 1) (side_word words b 3) (side_word words next 1) (side_word words next 3) x) (sym (stash_is b)) (side.exact b home)))))

  -- ---- each key stands once in the segment
  hit_kept : (b r k : ℕ) → Hit site.shape word s b r k → Hit site.shape (kept_words e) s b r k
  hit_kept b r k hit = record {
    segment = hit.segment;
    bucket = hit.bucket;
    slot = hit.slot;
    taken = ap (allocated r) (sym (own_bucket site c g apart b 1 hit.bucket (omega arith))) ∙ hit.taken;
    key = ap (kept_words e) (joined (bucket_at site.shape s b) 4 r) ∙ sym (own_bucket site c g apart b (4 + 2 * r) hit.bucket (let low = hit.slot in omega (arith, low)))
        ∙ ap word (sym (joined (bucket_at site.shape s b) 4 r)) ∙ hit.key;
  }

  pub is_copy : length words ≡ words_of_buckets → IsCopy site c
  is_copy each = record {
    slot = slot;
    apart = apart;
    each_word = each;
    copied = record { taken = λ b r near low. (taken_to b r near low, taken_from b r near low); same = same_record };
    exact = exact_there;
    once = λ b r d t k hit other. whole.once b r d t k (hit_kept b r k hit) (hit_kept d t k other);
  }

-- THE WORDS OF A SIDE are what a split copies: depth and pattern of a segment that is to be split are small
pub copies_from : (site : Ground) → IsGround site → (here : Site) (call : Call) (e : Enclosed) → IsOf site here call e → IsWhole site e → CopiesFrom site e (side_words e)
copies_from site ground here call e is whole =
    let lead = leading_is e.head e.hash whole.head.leads in
    let shallow = whole.shallow in
    let deepest = ground.shape.depth in
    let below : top (depth_in e.head) e.hash < 2 ^ depth_in e.head = top_below (depth_in e.head) e.hash lead.low is.fits in
    let most = power_le (depth_in e.head) 16 (omega (arith, shallow, deepest)) in
    let covers = lead.covers in
    let side = is_side e whole.small (omega (arith, shallow, deepest)) (omega (arith, below, most, covers)) in
    record {
      each_word = side_long e;
      small = side_small e whole.small;
      copy = λ n slot apart. is_copy site here call e is whole (side_words e) side n slot apart (side_long e);
    }
