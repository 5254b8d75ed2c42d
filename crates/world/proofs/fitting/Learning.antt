-- What loads of the root, of an entry and of a header tell of all media.
use Rattle.std.proofs.Common.{◌≡◌, ℕ, ◌^◌, ◌<◌, cond, List, inl, inr, sym, ap, subst, arith}
use Rattle.std.proofs.lemmas.Bool.{cases_Bool, lt-ltb, le-ltb}
use Rattle.std.specs.Prelude.{nat_lt}
use Rattle.trace.specs.Events.{Words}
use Rattle.image_layout.specs.Places.{root_word, first_segment, entry_at}
use Rattle.image_layout.proofs.Areas.{entry_before}
use Rattle.sound_image.specs.Segments.{frame_of}
use Rattle.frame_facts.proofs.Moved.{live_same}
use Rattle.frame_facts.specs.Facts.{Rooted, IsLiveSlot, HoldsFact}
use Rattle.frame_facts.proofs.Told.{current_told, begins_told, rooted_told}
use Rattle.world.specs.Ground.{Ground, version_of}
use Rattle.world.specs.Views.{View}
use Rattle.world.specs.Media.{MayLeave, IsPossible}
use Rattle.world.specs.areas.Areas.{header_word}
use Rattle.world.specs.areas.Fitting.{HasGrounds}
use Rattle.world.specs.areas.Lasting.{AreSoundMedia}
use Rattle.world.specs.areas.Learning.{RootsTell, EntriesTell, HeadersTell}
use Rattle.world.proofs.holding.Beside.{newest}

module _ (site : Ground) (words : Words) (views : List View) (g : HasGrounds site words views) (sound : AreSoundMedia site words views) (m : Words) (p : IsPossible site words views m) where
  -- the medium with the newest words in front of the segments
  abbrev fronted : Words
  fronted n = cond (nat_lt n (first_segment site.shape)) (words n) (m n)

  fronted_possible : IsPossible site words views fronted
  fronted_possible n within = elim (cases_Bool (nat_lt n (first_segment site.shape))) [
    | inl t ↦ subst (λ b. MayLeave site words views n (cond b (words n) (m n))) (sym t) (newest site words views n within)
    | inr f ↦ subst (λ b. MayLeave site words views n (cond b (words n) (m n))) (sym f) (p n within)
  ]

  in_front : (n : ℕ) → n < first_segment site.shape → fronted n ≡ words n
  in_front n l = ap (λ b. cond b (words n) (m n)) (lt-ltb n (first_segment site.shape) l)

  root_same : fronted root_word ≡ words root_word
  root_same = in_front root_word (omega arith)

  head_same : (s : ℕ) → m (header_word site.shape s) ≡ fronted (header_word site.shape s)
  head_same s = sym (ap (λ b. cond b (words (header_word site.shape s)) (m (header_word site.shape s))) (le-ltb (header_word site.shape s) (first_segment site.shape) (omega arith)))

  told : HoldsFact site.shape (version_of site) fronted (Rooted (fronted root_word)) m
  told = rooted_told site.shape (version_of site) fronted m g.site_is.shape (sound fronted fronted_possible)
      (λ s l. record { slot = l.slot; live = live_same (frame_of site.shape fronted) (frame_of site.shape m) s (head_same s) l.live })

  pub root_told : HoldsFact site.shape (version_of site) words (Rooted (words root_word)) m
  root_told = (
    omega arith,
    λ i below.
        let t : IsLiveSlot (frame_of site.shape m) (fronted (entry_at (fronted root_word) i)) = told.1 i (subst (λ r. i < 2 ^ r) (sym root_same) below) in
        subst (IsLiveSlot (frame_of site.shape m)) (in_front (entry_at (words root_word) i) (entry_before site.shape (words root_word) i g.sound.root below))
        (subst (λ r. IsLiveSlot (frame_of site.shape m) (fronted (entry_at r i))) root_same t),
  )

pub roots_tell : RootsTell
roots_tell site words views g sound m p = root_told site words views g sound m p

pub entries_tell : EntriesTell
entries_tell site words views e i below said m p = (said m p).1 i below

pub headers_tell : HeadersTell
headers_tell site words views s o said = (
  λ is m p. let l = said words (newest site words views) in current_told site.shape (version_of site) words m s l.slot l.live is,
  λ m p. begins_told site.shape (version_of site) words m s (o.steady m p) (said m p),
)
