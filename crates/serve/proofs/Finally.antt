-- What is left of calls that were served.
use Rattle.std.proofs.Common.{◌≡◌, ℕ, zero, suc, List, [], ◌∷◌, None, true, false, refl, sym, ap, ◌∙◌, subst, map}
use Rattle.std.specs.Prelude.{replicate, slice_index}
use Rattle.std.specs.FinMap.{get}
use Rattle.atomic_table.specs.declared.shared.Seat.{Seat}
use Rattle.map_model.specs.declared.call.Call.{Call}
use Rattle.map_model.specs.declared.entry.Entry.{Entry}
use Rattle.map_model.specs.Map.{Map}
use Rattle.map_model.specs.Roomed.{Roomed, lists_of}
use Rattle.image_layout.specs.Places.{Shape}
use Rattle.sound_image.specs.Segments.{frame_of, IsClean}
use Rattle.sound_image.specs.Image.{IsSoundImage}
use Rattle.session.specs.Left.{HasPairsOf}
use Rattle.session.specs.Session.{IsSession, SessionEnd}
use Rattle.session.specs.Transcript.{Told, transcript_of}
use Rattle.shared_image.specs.Restarted.{words_at_end}
use Rattle.reply_text.specs.Told.{tolds_of}
use Rattle.world.specs.Ground.{Ground}
use Rattle.shared_image.specs.Watch.{Watch}
use Rattle.shared_image.specs.declared.image.SharedImage.{SharedImage}
use Rattle.shared_image.specs.Closed.{HasWhatWasReplied, WasEnded, replies_of}
use Rattle.serve.specs.declared.job.Job.{Job}
use Rattle.serve.specs.Served.{told_by, WasShared}
use Rattle.serve.specs.Jobs.{AreCollected, full_of}
use Rattle.serve.proofs.ToSession.{served_is_session}

-- no caller stopped
pub none_stopped : (lists : List (List Entry)) (n : ℕ) → tolds_of lists (replicate n None) ≡ map told_by lists
none_stopped [] n = refl
none_stopped (es ∷ lists) zero = ap (λ (ts : List Told). told_by es ∷ ts) (no_more lists)
  where
    no_more : (ls : List (List Entry)) → tolds_of ls [] ≡ map told_by ls
    no_more [] = refl
    no_more (l ∷ ls) = ap (λ (ts : List Told). told_by l ∷ ts) (no_more ls)
none_stopped (es ∷ lists) (suc n) = ap (λ (ts : List Told). told_by es ∷ ts) (none_stopped lists n)

pub entries_listed : (jobs : List Job) → lists_of (map (λ (j : Job). full_of j.told.items) jobs) ≡ map (λ (j : Job). j.told.items) jobs
entries_listed [] = refl
entries_listed (j ∷ jobs) = ap (λ (ls : List (List Entry)). j.told.items ∷ ls) (entries_listed jobs)

-- an image that was powered on, shared and closed
pub was_shared : (site : Ground) (shape : Shape) (first last : List ℕ) (image : SharedImage) (jobs : List Job) (passes : List (Seat ℕ Watch)) (lists : List Roomed)
    → site.shape ≡ shape → IsSoundImage shape first → site.front ≡ words_at_end shape first
    → ((m : Map) → HasPairsOf shape (slice_index first) m → (k : ℕ) → get m k ≡ site.start k)
    → IsSoundImage site.shape last → IsClean (frame_of site.shape (slice_index last)) → HasWhatWasReplied site (replies_of passes) last → WasEnded site (replies_of passes) last
    → AreCollected image jobs passes lists → WasShared site first (map (λ (j : Job). j.told.items) jobs) last
was_shared site shape first last image jobs passes lists same before restarted started sound clean replied ended c =
    let back = sym same in
    record {
      power_on = record {
        image = subst (λ (s : Shape). IsSoundImage s first) back before;
        restarted = subst (λ (s : Shape). site.front ≡ words_at_end s first) back restarted;
        started = subst (λ (s : Shape). (m : Map) → HasPairsOf s (slice_index first) m → (k : ℕ) → get m k ≡ site.start k) back started;
      };
      sound = sound;
      clean = clean;
      replied = subst (λ (es : List (List Entry)). HasWhatWasReplied site ([] ∷ es) last) c.replies replied;
      ended = subst (λ (es : List (List Entry)). WasEnded site ([] ∷ es) last) c.replies ended;
    }

abbrev Ending : SessionEnd
Ending = record { closed = true; scheduled = false }

-- the session of the calls of all jobs
pub session_of : (site : Ground) (shape : Shape) (first last : List ℕ) (image : SharedImage) (jobs : List Job) (passes : List (Seat ℕ Watch)) (lists : List Roomed) (scripts : List (List Call)) (opening : Map)
    → site.shape ≡ shape → WasShared site first (map (λ (j : Job). j.told.items) jobs) last → AreCollected image jobs passes lists → map (λ (j : Job). j.calls.items) jobs ≡ scripts
    → HasPairsOf shape (slice_index first) opening
    → IsSession shape first last scripts Ending (transcript_of (tolds_of (lists_of lists) (replicate 64 None)))
session_of site shape first last image jobs passes lists scripts opening same was c calls has =
    let told : List (List Entry) = map (λ (j : Job). j.told.items) jobs in
    let here = (served_is_session site first last (map (λ (j : Job). j.calls.items) jobs) told was c.made opening
    (subst (λ (s : Shape). HasPairsOf s (slice_index first) opening) (sym same) has)).0 in
    let told_is : tolds_of (lists_of lists) (replicate 64 None) ≡ map told_by told =
    ap (λ (ls : List Roomed). tolds_of (lists_of ls) (replicate 64 None)) c.listed
    ∙ ap (λ (es : List (List Entry)). tolds_of es (replicate 64 None)) (entries_listed jobs)
    ∙ none_stopped told 64 in
    subst (λ (ts : List Told). IsSession shape first last scripts Ending (transcript_of ts)) (sym told_is)
    (subst (λ (css : List (List Call)). IsSession shape first last css Ending (transcript_of (map told_by told))) calls
    (subst (λ (s : Shape). IsSession s first last (map (λ (j : Job). j.calls.items) jobs) Ending (transcript_of (map told_by told))) same here))
