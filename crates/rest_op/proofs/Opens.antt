-- The whole segment is opened: its first lock is given back, and then the others are to be.
use Rattle.std.proofs.Common.{◌≡◌, ℕ, suc, ◌+◌, ◌*◌, ◌^◌, ◌<◌, ◌≤◌, List, [], ◌∷◌, refl, sym, ap, ◌∙◌, subst, arith}
use Rattle.std.specs.Prelude.{not, if◌then◌else◌, slice_index}
use Rattle.std.proofs.lemmas.Bool.{eq-eqb}
use Rattle.hash_word.specs.Hash.{Covers}
use Rattle.op_core.specs.declared.want.Want.TheVariants.{Store}
use Rattle.segment_head.specs.HeadWord.{state_in, depth_in, pattern_in}
use Rattle.segment_head.specs.SplitHeads.{finished_head}
use Rattle.image_layout.specs.Places.{bucket_at, homes, buckets}
use Rattle.sound_image.specs.Records.{key_hash}
use Rattle.bucket_words.specs.Hits.{Hit}
use Rattle.map_model.specs.declared.call.Call.{Call}
use Rattle.world.specs.declared.site.Site.{Site}
use Rattle.world.specs.Ground.{Ground, IsGround}
use Rattle.world.specs.Views.{View, IsLoose}
use Rattle.world.specs.areas.Areas.{Area, Segment, Whole, header_word, all_but, is_whole_at}
use Rattle.world.specs.areas.Kinds.{opens, wanted_at, view_then}
use Rattle.world.specs.areas.Asking.{MayAt}
use Rattle.world.proofs.moving.Holding.{out_of_slot_has}
use Rattle.world.proofs.holders.directing.Finishing.{may_finish}
use Rattle.rounds.proofs.Settling.{settled_firm}
use Rattle.enclose_op.specs.declared.enclosed.Enclosed.{Enclosed}
use Rattle.enclose_op.specs.declared.give.Give.TheVariants.{Lock}
use Rattle.enclose_op.specs.Whole.{IsOf, IsWhole}
use Rattle.enclose_op.specs.Giving.{lock_of, free_value, give_wanted}
use Rattle.enclose_op.specs.Fits.{HoldsPart}
use Rattle.enclose_op.proofs.Places.{lock_is, free_is}
use Rattle.enclose_op.proofs.Held.{hold_less}
use Rattle.rest_op.specs.declared.op.RestOp.{RestOp}
use Rattle.rest_op.specs.Reckoned.{cleared_of, IsReckoned}
use Rattle.rest_op.specs.Stands.{first_before, third_before, IsNoting}
use Rattle.rest_op.proofs.whole.Words.{rest_words, header_here}
use Rattle.rest_op.proofs.whole.Known.{whole_held, settled_holder, knows_word, knows_head}
use Rattle.rest_op.proofs.whole.Halving.{depth_low, rest_is}
use Rattle.rest_op.proofs.Opening.{own, once, exact}
use Rattle.rest_op.proofs.Noting.{first_all, third_all, first_behind}

-- without the whole segment its guard is left
opened_areas : (s : ℕ) (areas : List Area) → areas ≡ Whole s ∷ Segment s ∷ [] → all_but (is_whole_at s) areas ≡ Segment s ∷ []
opened_areas s areas is =
    let both : List Area = Whole s ∷ Segment s ∷ [] in
    let guard : List Area = Segment s ∷ [] in
    ap (all_but (is_whole_at s)) is ∙ ap (λ t. if not t then both else guard) (eq-eqb s s refl)

-- ---- THE SEGMENT IS OPENED
module _ (site : Ground) (ground : IsGround site) (here : Site) (call : Call) (op : RestOp) (is : IsOf site here call op.whole) (whole : IsWhole site op.whole) (reckoned : IsReckoned op)
    (v : View) (c : IsNoting site op (2 * homes) v) where
  abbrev k : Enclosed
  k = op.whole

  abbrev first : ℕ → ℕ
  first = first_before op (2 * homes)

  abbrev third : ℕ → ℕ
  third = third_before op (2 * homes)

  abbrev word : ℕ → ℕ
  word = rest_words site.shape k first third (finished_head k.head) c.all.link.0

  header_now : word (header_word site.shape k.segment) ≡ finished_head k.head
  header_now = header_here site.shape k first third (finished_head k.head) c.all.link.0

  stashes : (b : ℕ) → homes ≤ b → b < buckets → first b ≡ cleared_of k b
  stashes b high near = first_behind op b high ∙ reckoned.cleared b near

  own_now : (b r key : ℕ) → Hit site.shape word k.segment b r key
      → Covers (depth_in (word (header_word site.shape k.segment))) (pattern_in (word (header_word site.shape k.segment))) (key_hash site.shape key)
  own_now b r key hit =
      let head = rest_is site ground here call k is whole in
      let low = depth_low site ground here call k is whole in
      let covers : Covers (suc (depth_in k.head)) (2 * pattern_in k.head) (key_hash site.shape key)
      = own site op is.located whole reckoned first third (finished_head k.head) c.all.link.0 (first_all op) (third_all op) stashes b r key hit (omega (arith, low)) in
      subst (λ d. Covers d (pattern_in (word (header_word site.shape k.segment))) (key_hash site.shape key)) (sym (ap depth_in header_now ∙ head.depth_is))
      (subst (λ p. Covers (suc (depth_in k.head)) p (key_hash site.shape key)) (sym (ap pattern_in header_now ∙ head.pattern_is)) covers)

  loose_none : (p : ℕ × ℕ) → IsLoose v p → ⊥
  loose_none p loose = settled_firm v c.settled p loose

  zero_near : 0 < buckets
  zero_near = omega arith

  next_lock : suc (slice_index k.locks 0 + 1) ≡ free_value k 0 + 2
  next_lock = let free : free_value k 0 ≡ slice_index k.locks 0 = free_is k 0 zero_near in omega (arith, free)

  pub open_may : MayAt site (opens k.segment (lock_of k 0) (free_value k 0 + 2)) v
  open_may =
      let may = (may_finish site v ground).reopens k.segment 0 (slice_index k.locks 0 + 1) word (settled_holder site k first third (finished_head k.head) v c.all is.located) (whole_held site k first third (finished_head k.head) v c.all) zero_near
      (c.all.locks.has 0 (omega arith) zero_near)
      (knows_head site k first third (finished_head k.head) v c.all is.located (λ y loose. loose_none _ loose) (λ y loose. loose_none _ loose))
      (ap state_in header_now ∙ (rest_is site ground here call k is whole).state_is)
      (λ b n near from low. knows_word site k first third (finished_head k.head) v c.all b n near from low (λ y loose. loose_none _ loose))
      (λ p loose inside. loose_none p loose)
      own_now
      (once site op is.located whole reckoned first third (finished_head k.head) c.all.link.0 (first_all op) (third_all op) stashes)
      (exact site op is.located whole reckoned first third (finished_head k.head) c.all.link.0 (first_all op) (third_all op) stashes) in
      subst (λ i. MayAt site (opens k.segment i (free_value k 0 + 2)) v) (sym (lock_is site k is.located 0 zero_near))
      (subst (λ x. MayAt site (opens k.segment (bucket_at site.shape k.segment 0) x) v) next_lock may)

  pub open_wants : give_wanted k (Lock 0 buckets) ≡ wanted_at site.shape (opens k.segment (lock_of k 0) (free_value k 0 + 2))
  open_wants =
      let free : slice_index k.locks 0 + 2 < 2 ^ 64 = (c.all.locks.free 0 (omega arith) zero_near).1 in
      let same : free_value k 0 ≡ slice_index k.locks 0 = free_is k 0 zero_near in
      ap (Store (lock_of k 0)) (omega (arith, free, same))

  pub open_stands : (n : ℕ) → HoldsPart site k 1 buckets (view_then site.shape (opens k.segment (lock_of k 0) (free_value k 0 + 2)) n v)
  open_stands n =
      let u : View = view_then site.shape (opens k.segment (lock_of k 0) (free_value k 0 + 2)) n v in
      record {
        areas = opened_areas k.segment v.areas c.all.areas;
        locks = hold_less site k is.located 0 buckets v zero_near (omega arith) c.all.locks u refl;
        known = λ p has. c.all.known p (out_of_slot_has site.shape p.0 k.segment p.1 v.known has).1;
        quiet = record { dirty = c.settled.dirty; flushed = c.settled.flushed; planned = c.all.idle.planned; moving = c.all.idle.moving; owed = c.all.idle.owed };
      }
