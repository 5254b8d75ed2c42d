-- A stale segment that claims none of its 1-side has a ready side: the slot that it has linked.
use Rattle.std.proofs.Common.{◌≡◌, ℕ, suc, ◌+◌, ◌*◌, ◌<◌, ◌≤◌, inr, sym, ap, subst, ◌∙◌, arith, add-one}
use Rattle.trace.specs.Events.{Words}
use Rattle.hash_word.specs.Hash.{first_hash_of}
use Rattle.segment_head.specs.HeadWord.{state_in, depth_in, pattern_in, splitting}
use Rattle.image_layout.specs.Places.{Shape, root_word}
use Rattle.sound_image.specs.Segments.{Frame, frame_of, IsLive, IsReadySide, HasReadySide}
use Rattle.frame_facts.specs.Claims.{ClaimsNoOneSide, ClaimsNone}
use Rattle.frame_facts.proofs.Claimers.{ready_claims_none}
use Rattle.world.specs.Ground.{Ground, IsGround, IsStructured}
use Rattle.world.specs.areas.Areas.{header_word, link_word}
use Rattle.world.specs.areas.Repairing.{side_depth_in, side_pattern_in}
use Rattle.world.proofs.holders.repairing.SideEntries.{side_later}

module _ (site : Ground) (ground : IsGround site) (word us : Words) (s n g : ℕ) (slot : s < site.shape.segments) (splits : state_in (word (header_word site.shape s)) ≡ splitting)
    (structure : IsStructured site us) (header : us (header_word site.shape s) ≡ word (header_word site.shape s)) (link : us (link_word site.shape s) ≡ suc n) (root : us root_word ≡ g)
    (none : ClaimsNone (frame_of site.shape us) s (suc (depth_in (word (header_word site.shape s)))) (2 * pattern_in (word (header_word site.shape s)) + 1)) where
  abbrev shape : Shape
  shape = site.shape

  abbrev frame : Frame
  frame = frame_of shape us

  abbrev head : ℕ
  head = us (header_word shape s)

  pub live : IsLive frame s
  live = inr (ap state_in header ∙ splits)

  none_of_side : ClaimsNoOneSide frame s
  none_of_side = subst (λ (k : ℕ). ClaimsNone frame s k (2 * pattern_in head + 1)) (sym (add-one (depth_in head)))
      (subst (λ (z : ℕ). ClaimsNone frame s (suc (depth_in z)) (2 * pattern_in z + 1)) (sym header) none)

  some : HasReadySide frame s
  some = (ready_claims_none shape.depth ground.shape.depth frame structure.sound s slot live).1 none_of_side

  pub ready : IsReadySide frame s n
  ready = subst (IsReadySide frame s) (one_less some.0 n (sym some.1.named ∙ link)) some.1
    where
      one_less : (a b : ℕ) → suc a ≡ suc b → a ≡ b
      one_less a b e = omega (arith, e)

  -- so the root is deeper than the segment
  pub deeper : depth_in (word (header_word shape s)) < g
  deeper = by (depth_in (word (header_word shape s))) (depth_in head) (depth_in (us (header_word shape n))) (us root_word) g (ap depth_in header) ready.deeper
      (structure.sound.not_deep n ready.slot ready.live) root
    where
      by : (a b c r g : ℕ) → b ≡ a → b < c → c ≤ r → r ≡ g → a < g
      by a b c r g e less low is = omega (arith, e, less, low, is)

  pub small : us root_word ≤ 64
  small = omega (arith, structure.sound.root, ground.shape.depth)

  -- and its side begins behind its first hash
  pub later : first_hash_of (depth_in (word (header_word shape s))) (pattern_in (word (header_word shape s)))
      < first_hash_of (side_depth_in (word (header_word shape s))) (side_pattern_in (word (header_word shape s)))
  later = side_later (depth_in (word (header_word shape s))) (pattern_in (word (header_word shape s)))
      (omega (arith, deeper, root, small))
