-- What was closed may be opened again: the image's words are the same, so its structure, its table and its current segments are.
use Rattle.std.proofs.Common.{◌≡◌, inl, ℕ, ◌+◌, ◌*◌, ◌%◌, ◌^◌, ◌<◌, List, sym, ap, ◌∙◌, subst, arith}
use Rattle.trace.specs.Events.{Words}
use Rattle.segment_head.specs.HeadWord.{version_in, state_in, HasLiveState}
use Rattle.image_layout.specs.Places.{Shape, IsShape, state_word, words_of, bucket_at, buckets, first_segment, block}
use Rattle.segment_table.specs.Claims.{HasSoundFrame}
use Rattle.bucket_words.specs.Core.{core_of}
use Rattle.bucket_words.specs.Standing.{IsTable}
use Rattle.world.specs.Ground.{Ground, IsCurrentIn}
use Rattle.world.specs.Views.{View}
use Rattle.world.specs.Media.{IsPossible}
use Rattle.world.specs.Invariant.{Holds}
use Rattle.world.specs.areas.Areas.{header_word}
use Rattle.world.specs.areas.Beginning.{IsRepaired}
use Rattle.world.proofs.basics.Tables.{core_owner}
use Rattle.world.proofs.fitting.Rows.{head_near}
use Rattle.world.proofs.mild.Mild.{order_stays}
use Rattle.vlock.specs.declared.table.Opening.{Opening}
use Rattle.vlock.specs.Ruling.{word, ground_of}
use Rattle.vlock.specs.Ends.{OpensAgain}

bucket_near : (f s n b i : ℕ) → s < n → b < 66 → i < 32 → f + 2144 * s + 32 + 32 * b + i < f + 2144 * n
bucket_near f s n b i slot near inside = omega (arith, slot, near, inside)

module _ (site : Ground) (words us : Words) (same : (i : ℕ) → i < words_of site.shape → us i ≡ words i) where
  module _ (views : List View) (h : Holds site words views) where
    possible : IsPossible site words views us
    possible i within = inl (ap (λ (x : ℕ). core_of site.shape i x) (same i within))

    pub sound : HasSoundFrame site.shape us
    sound = (h.structure.sound us possible).sound

    pub table : IsTable site.shape us
    table = h.media.table us possible

    pub same_state : us state_word ≡ site.front state_word
    same_state = (h.structure.sound us possible).fixed state_word (omega arith) (λ e. omega (arith, e))

  same_head : (s : ℕ) → s < site.shape.segments → us (header_word site.shape s) ≡ words (header_word site.shape s)
  same_head s slot = same (header_word site.shape s) (head_near site s slot)

  same_bucket : (s b i : ℕ) → s < site.shape.segments → b < buckets → i < block → us (bucket_at site.shape s b + i) ≡ words (bucket_at site.shape s b + i)
  same_bucket s b i slot near inside = same (bucket_at site.shape s b + i) (bucket_near (first_segment site.shape) s site.shape.segments b i slot near inside)

  same_lock : (s b : ℕ) → s < site.shape.segments → b < buckets → us (bucket_at site.shape s b) ≡ words (bucket_at site.shape s b)
  same_lock s b slot near = same (bucket_at site.shape s b) (let e = bucket_near (first_segment site.shape) s site.shape.segments b 0 slot near (omega arith) in omega (arith, e))

  pub was_current : (s : ℕ) → IsCurrentIn site us s → IsCurrentIn site words s
  was_current s c =
      let e = same_head s c.live.slot in
      record { live = record { slot = c.live.slot; live = subst HasLiveState e c.live.live }; current = ap version_in (sym e) ∙ c.current }

  pub still_repaired : (s : ℕ) → s < site.shape.segments → IsRepaired site words s → IsRepaired site us s
  still_repaired s slot r = record {
    normal = ap state_in (same_head s slot) ∙ r.normal;
    in_order = order_stays site words us s slot (λ within c n near from inside. same_bucket s c n within near inside)
        (core_owner site words us (λ i within. ap (λ (x : ℕ). core_of site.shape i x) (same i within))) r.in_order;
    free = λ b near. ap (λ (n : ℕ). n % 2) (same_lock s b slot near) ∙ r.free b near;
  }

-- the same by another name of the shape
abbrev shaped : Ground → Shape → Ground
shaped site g = record site { shape = g }

current_there : (key : Opening) (site : Ground) (s : ℕ) → key.geometry ≡ site.shape → word key.words.value.items state_word ≡ site.front state_word
    → IsCurrentIn (ground_of key) (word key.words.value.items) s → IsCurrentIn site (word key.words.value.items) s
current_there key site s same state c =
    subst (λ (g : Shape). IsCurrentIn (shaped site g) (word key.words.value.items) s) same (record { live = c.live; current = c.current ∙ ap (λ (n : ℕ). n % 2 ^ 8) state })

repaired_there : (key : Opening) (site : Ground) (s : ℕ) → key.geometry ≡ site.shape → IsRepaired site (word key.words.value.items) s → IsRepaired (ground_of key) (word key.words.value.items) s
repaired_there key site s same r =
    let there : IsRepaired (shaped site key.geometry) (word key.words.value.items) s = subst (λ (g : Shape). IsRepaired (shaped site g) (word key.words.value.items) s) (sym same) r in
    record { normal = there.normal; in_order = record { own = there.in_order.own; once = there.in_order.once; exact = there.in_order.exact }; free = there.free }

pub opens_again : OpensAgain
opens_again site words views key ended left =
    let us = word key.words.value.items in
    let views_then = ended.nobody.views in
    let h = ended.nobody.well.holds in
    record {
      words = left.length_is;
      ground = record { shape = subst IsShape (sym left.geometry) h.site_is.shape; few = left.few };
      sound = subst (λ (g : Shape). HasSoundFrame g us) (sym left.geometry) (sound site words us left.same views_then h);
      table = subst (λ (g : Shape). IsTable g us) (sym left.geometry) (table site words us left.same views_then h);
      behind = left.behind;
      repaired = λ s current.
          let here = current_there key site s left.geometry (same_state site words us left.same views_then h) current in
          repaired_there key site s left.geometry
          (still_repaired site words us left.same s here.live.slot (ended.repaired s (was_current site words us left.same s here)));
    }
