-- What a whole segment was found to be, by what the attempt did that enclosed it: enclosed, of this depth, and without room for the call's
-- key.
use Rattle.std.proofs.Common.{◌≡◌, ℕ, ◌+◌, ◌<◌, true, sym, ap, ◌∙◌, subst, arith}
use Rattle.hash_word.specs.Hash.{home_of, probing_of, next_of, previous_of}
use Rattle.bucket_meta.specs.Slots.{IsFull}
use Rattle.segment_head.specs.HeadWord.{depth_in}
use Rattle.trace.specs.Events.{Words}
use Rattle.image_layout.specs.Places.{buckets, homes}
use Rattle.sound_image.specs.Records.{key_hash}
use Rattle.whole_segment.specs.Room.{HasNoRoom, has_no_room}
use Rattle.whole_segment.proofs.Telling.{tells_room}
use Rattle.map_model.specs.declared.call.Call.{Call}
use Rattle.map_model.specs.Map.{key_of}
use Rattle.world.specs.declared.site.Site.{Site}
use Rattle.world.specs.Ground.{Ground}
use Rattle.part.specs.Doings.{Doings}
use Rattle.part.specs.Causes.{hash_for, WasMeta, WasFull, HasDepth}
use Rattle.part.specs.Splits.{HasEnclosed, FoundNoRoom}
use Rattle.phase.proofs.Handing.{key_called}
use Rattle.enclose_op.specs.declared.enclosed.Enclosed.{Enclosed}
use Rattle.enclose_op.specs.Whole.{kept_first, IsOf, RemembersEnclosing}

module _ (site : Ground) (here : Site) (call : Call) (e : Enclosed) (is : IsOf site here call e) (words : Words) (did : Doings) (r : RemembersEnclosing site e did) where
  pub has_enclosed : HasEnclosed site.shape words did call e.segment
  has_enclosed = record { slot = is.located.within; guard = r.taken.guard; locks = r.taken.locks }

  pub has_depth : (Passes : ℕ → Type 0) → Passes (depth_in e.head) → HasDepth site.shape words did call e.segment Passes
  has_depth Passes passes = (e.head, r.header, passes)

  -- the hash is that of the call's key
  hash_is : e.hash ≡ hash_for site.shape words did call
  hash_is = is.hashed ∙ ap (key_hash site.shape) (sym (key_called e.change) ∙ ap key_of is.same)

  module _ (crowded : has_no_room (kept_first e) (home_of e.hash) ≡ true) where
    abbrev hash : ℕ
    hash = hash_for site.shape words did call

    room : HasNoRoom (kept_first e) (home_of hash)
    room = (tells_room (kept_first e) (home_of hash)).0 (subst (λ (h : ℕ). has_no_room (kept_first e) (home_of h) ≡ true) hash_is crowded)

    was_meta : (b : ℕ) → b < buckets → WasMeta site.shape did.loads e.segment b (kept_first e b)
    was_meta b near = r.words b 1 near (omega arith) (omega arith)

    was_full : (b : ℕ) → b < buckets → IsFull (kept_first e b) → WasFull site.shape did.loads e.segment b (kept_first e b)
    was_full b near full = record { loaded = was_meta b near; full = full }

    pub found_no_room : FoundNoRoom site.shape words did call e.segment
    found_no_room = record {
      home = kept_first e (home_of hash);
      probing = kept_first e (probing_of (home_of hash));
      next_meta = kept_first e (next_of (home_of hash));
      previous = kept_first e (previous_of (home_of hash));
      first = kept_first e homes;
      second = kept_first e (homes + 1);
      home_full = was_full (home_of hash) (omega arith) room.crowded.own;
      probing_full = was_full (probing_of (home_of hash)) (omega arith) room.crowded.probing;
      next_loaded = was_meta (next_of (home_of hash)) (omega arith);
      previous_loaded = was_meta (previous_of (home_of hash)) (omega arith);
      first_full = was_full homes (omega arith) room.crowded.stash;
      second_full = was_full (homes + 1) (omega arith) room.crowded.last;
      moves = record { forward = room.moves.forward; backward = room.moves.backward };
    }
