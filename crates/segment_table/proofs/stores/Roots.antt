-- The stores of a link, of the root and of the state word, and those that the frame does not show.
use Rattle.std.proofs.Common.{◌≡◌, ◌≢◌, ℕ, ◌+◌, ◌/◌, ◌%◌, ◌^◌, ◌<◌, ◌≤◌, inl, inr, sym, ap, subst, ◌∙◌, arith}
use Rattle.std.proofs.lemmas.Bool.{cases_eq}
use Rattle.hash_word.specs.Hash.{top, index_of}
use Rattle.segment_head.specs.HeadWord.{version_in, state_in}
use Rattle.sound_image.specs.Segments.{Frame, state_at}
use Rattle.segment_table.specs.Claims.{IsSoundFrame}
use Rattle.segment_table.specs.Stores.{Keeps, Links, Opens}
use Rattle.segment_table.proofs.frames.Regions.{one_fewer, top_below}
use Rattle.segment_table.proofs.stores.Moved.{SameHeaders, numbers, numbers_same}
use Rattle.segment_table.proofs.stores.Alike.{alike_keeps, same_headers_alike}
use Rattle.segment_table.proofs.stores.SameRegion.{same_entries}

-- what is the same after a store that is none to a header
pub record Beside (before after : Frame) : Type 0 where
  pub same : SameHeaders before after
  pub root : after.root ≡ before.root
  pub status : after.status ≡ before.status
  pub links : (t : ℕ) → t < before.segments → after.link t ≡ before.link t
  pub entries : (i : ℕ) → i < 2 ^ before.root → after.entry i ≡ before.entry i

module _ (greatest : ℕ) (most : greatest ≤ 16) (before after : Frame) (sound : IsSoundFrame greatest before) where
  -- NOTHING that the frame shows
  pub untouched_keeps : Beside before after → Keeps greatest before after
  untouched_keeps is = alike_keeps greatest before after sound (same_headers_alike greatest before after is.same
      (λ s n slot side. is.links s slot) (λ s n slot side. is.links s slot) (same_entries greatest most before after sound is.root is.entries)
      (omega (arith, is.root))
      (numbers_same greatest before after (numbers greatest before sound) is.same (omega (arith, is.root, sound.root))
      (subst (λ w. 1 ≤ w % 2 ^ 8) (sym is.status) sound.version)
      (λ s slot taken. subst (λ l. l ≤ before.segments) (sym (is.links s slot)) (sound.link s slot taken))
      (λ s slot. subst (λ w. version_in (before.header s) ≤ w % 2 ^ 8) (sym is.status) (sound.past s slot))))

  -- THE LINK of a segment that is not splitting
  pub links_keeps : (s l : ℕ) → SameHeaders before after → after.root ≡ before.root → after.status ≡ before.status → after.link s ≡ l
      → ((t : ℕ) → t < before.segments → t ≢ s → after.link t ≡ before.link t) → ((i : ℕ) → i < 2 ^ before.root → after.entry i ≡ before.entry i)
      → Links before s l → Keeps greatest before after
  links_keeps s l same root status here others entries may = alike_keeps greatest before after sound (same_headers_alike greatest before after same
      (λ t n slot side. others t slot (λ e. may.not_splitting (ap (λ u. state_at before u) (sym e) ∙ side.splits)))
      (λ t n slot side. others t slot (λ e. may.not_splitting (ap (λ u. state_at before u) (sym e) ∙ sym (ap state_in (same.headers t slot)) ∙ side.splits)))
      (same_entries greatest most before after sound root entries)
      (omega (arith, root))
      (numbers_same greatest before after (numbers greatest before sound) same (omega (arith, root, sound.root))
      (subst (λ w. 1 ≤ w % 2 ^ 8) (sym status) sound.version)
      (λ t slot taken. elim (cases_eq t s) [
        | inl at ↦ subst (λ k. k ≤ before.segments) (sym (ap after.link at ∙ here)) may.in_range
        | inr other ↦ subst (λ k. k ≤ before.segments) (sym (others t slot other)) (sound.link t slot taken)
      ])
      (λ t slot. subst (λ w. version_in (before.header t) ≤ w % 2 ^ 8) (sym status) (sound.past t slot))))

  -- THE STATE WORD
  pub opens_keeps : (x : ℕ) → SameHeaders before after → after.root ≡ before.root → after.status ≡ x
      → ((t : ℕ) → t < before.segments → after.link t ≡ before.link t) → ((i : ℕ) → i < 2 ^ before.root → after.entry i ≡ before.entry i)
      → Opens before x → Keeps greatest before after
  opens_keeps x same root status links entries may = alike_keeps greatest before after sound (same_headers_alike greatest before after same
      (λ s n slot side. links s slot) (λ s n slot side. links s slot) (same_entries greatest most before after sound root entries)
      (omega (arith, root))
      (numbers_same greatest before after (numbers greatest before sound) same (omega (arith, root, sound.root))
      (subst (λ w. 1 ≤ w % 2 ^ 8) (sym status) may.some)
      (λ s slot taken. subst (λ l. l ≤ before.segments) (sym (links s slot)) (sound.link s slot taken))
      (λ s slot. subst (λ w. version_in (before.header s) ≤ w % 2 ^ 8) (sym status) (may.past s slot))))

  -- THE ROOT, one deeper, over an area that names what the one before it names
  pub doubles_keeps : SameHeaders before after → after.root ≡ before.root + 1 → after.status ≡ before.status
      → ((t : ℕ) → t < before.segments → after.link t ≡ before.link t) → ((i : ℕ) → i < 2 ^ (before.root + 1) → after.entry i ≡ before.entry (i / 2))
      → before.root < greatest → Keeps greatest before after
  doubles_keeps same root status links entries room = alike_keeps greatest before after sound (same_headers_alike greatest before after same
      (λ s n slot side. links s slot) (λ s n slot side. links s slot)
      (λ h fits.
      let deep : before.root + 1 ≤ 64 = omega (arith, room, most) in
      ap (λ r. after.entry (index_of r h)) root ∙ entries (top (before.root + 1) h) (top_below (before.root + 1) h deep fits)
      ∙ ap before.entry (sym (one_fewer before.root h (omega (arith, deep)))))
      (omega (arith, root))
      (numbers_same greatest before after (numbers greatest before sound) same (omega (arith, root, room))
      (subst (λ w. 1 ≤ w % 2 ^ 8) (sym status) sound.version)
      (λ s slot taken. subst (λ l. l ≤ before.segments) (sym (links s slot)) (sound.link s slot taken))
      (λ s slot. subst (λ w. version_in (before.header s) ≤ w % 2 ^ 8) (sym status) (sound.past s slot))))
