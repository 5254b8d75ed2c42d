-- A hash that a segment gives away is led to its owner from that segment exactly where it is from the next one.
use Rattle.std.proofs.Common.{◌≡◌, ℕ, ◌^◌, ◌<◌, subst, arith}
use Rattle.image_layout.specs.Places.{Shape, entry_at}
use Rattle.sound_image.specs.Segments.{ImageWords, Frame, frame_of, IsLiveFor, LeadsToOwner, arrived, on}
use Rattle.sound_image.specs.Directory.{EntryLeads}
use Rattle.sound_image.specs.Rules.{EntriesLead}
use Rattle.image_rules.specs.Breach.{IsLeast}
use Rattle.image_rules.specs.Divided.{IsDivided}
use Rattle.image_rules.specs.Steps.{IsGivenTo}
use Rattle.image_rules.proofs.covered.Owners.{Owns-kept}

pub lost_leads : (frame : Frame) (h s : ℕ) → (IsLiveFor frame h s → ⊥) → LeadsToOwner frame h s → ⊥
lost_leads frame h s none (arrived o) = none o.own
lost_leads frame h s none (on l ready side rest) = none l

pub on_leads : (frame : Frame) (h s n : ℕ) → IsGivenTo frame h s n → LeadsToOwner frame h n → LeadsToOwner frame h s
on_leads frame h s n given rest = on given.over given.ready given.in_side rest

module _ (shape : Shape) (word : ImageWords) (i : IsDivided shape word) (h : ℕ) (fits : h < 2 ^ 64) where
  abbrev frame : Frame
  frame = frame_of shape word

  pub leads_on : (s n : ℕ) → IsGivenTo frame h s n → LeadsToOwner frame h s → LeadsToOwner frame h n
  leads_on s n given (arrived o) =
      absurd (Owns-kept shape word i s h given.over.slot fits given.over.live o (record { ready = (n, given.ready); in_side = given.in_side }))
  leads_on s n given (on l ready side rest) =
      let link = given.ready.named in
      let other = ready.named in
      let same : _ ≡ n = omega (arith, link, other) in
      subst (LeadsToOwner frame h) same rest

module _ (shape : Shape) (word : ImageWords) where
  pub entries_lead : ((k : ℕ) → k < 2 ^ word 8 → EntryLeads (frame_of shape word) k) → (w : ℕ) → EntriesLead shape word w
  entries_lead each w k below at = each k below

  pub first_lost : (e : ℕ) → e < 2 ^ word 8 → (EntryLeads (frame_of shape word) e → ⊥) → ((k : ℕ) → k < e → EntryLeads (frame_of shape word) k)
      → IsLeast (EntriesLead shape word) (entry_at (word 8) e)
  first_lost e below lost before =
      record {
        broken = λ lead. lost (lead e below (λ _. entry_at (word 8) e));
        words_before = λ v less k fits at. before k (omega (arith, less, at));
      }
