-- The words that the restart of a medium leaves may be opened, and the image is on then.
use Rattle.std.proofs.Common.{◌≡◌, ℕ, ◌%◌, ◌^◌, ◌<◌, List, [], length, sym, ap, ◌∙◌, subst, arith}
use Rattle.std.specs.Prelude.{slice_index}
use Rattle.std.specs.FinMap.{get}
use Rattle.trace.specs.Events.{Words}
use Rattle.image_layout.specs.Places.{Shape, state_word}
use Rattle.image_layout.specs.Volatile.{all_words_of}
use Rattle.image_layout.specs.StateWord.{marker_in}
use Rattle.map_model.specs.Map.{Map}
use Rattle.sound_image.specs.Image.{SaysShape, IsSoundImage}
use Rattle.session.specs.Left.{HasPairsOf}
use Rattle.segment_table.specs.Claims.{HasSoundFrame}
use Rattle.bucket_words.specs.Standing.{IsTable}
use Rattle.bucket_words.specs.Hits.{find}
use Rattle.world.specs.Ground.{Ground, IsCurrentIn, version_of}
use Rattle.world.specs.areas.Beginning.{Begins, IsRepaired}
use Rattle.restart_op.specs.Restart.{started_for}
use Rattle.restart_op.specs.Restarted.{words_at_end, site_of, world_of}
use Rattle.restart_op.proofs.restarts.Beginning.{ends_started, restart_begins, keeps_pairs}
use Rattle.restart_op.proofs.Quiet.{quiet_after_restart}
use Rattle.vlock.specs.declared.table.Opening.{Opening}
use Rattle.vlock.specs.Ruling.{word, ground_of, first_of}
use Rattle.vlock.specs.Plays.{IsSeatOf, IsWhole}
use Rattle.vlock.specs.Ends.{IsOpened}
use Rattle.vlock.proofs.Opened.{first_is_idle}
use Rattle.shared_image.specs.declared.image.SharedImage.{SharedImage}
use Rattle.shared_image.specs.declared.image.Keeper.{Keeper}
use Rattle.shared_image.specs.Powered.{KeepsStill, IsKeeperOf, IsOn, ground_in}

-- what is fixed by words
abbrev ground_by : Shape → ℕ → Words → Ground
ground_by shape callers words = record { shape = shape; front = words; start = find shape words; callers = callers }

-- what an opening of the words of a restarted medium is
pub record IsOfRestart (key : Opening) (base : List ℕ) : Type 0 where
  pub sound : IsSoundImage key.geometry base
  pub some : 0 < key.callers
  pub few : key.callers < 2 ^ 32
  pub words_are : word key.words.value.items ≡ words_at_end key.geometry base
  pub whole : length key.words.value.items ≡ all_words_of key.geometry

module _ (key : Opening) (base : List ℕ) (o : IsOfRestart key base) where
  begins : Begins (site_of key.geometry base key.callers) (slice_index base) (world_of key.geometry base key.callers)
  begins = restart_begins key.geometry base key.callers o.sound o.few

  pub opens : IsOpened key
  opens = record {
    words = o.whole;
    ground = record { shape = o.sound.in_range; few = o.few };
    sound = subst (λ (ws : Words). HasSoundFrame key.geometry ws) (sym o.words_are) begins.restarted.structured.sound;
    table = subst (λ (ws : Words). IsTable key.geometry ws) (sym o.words_are) begins.restarted.table;
    behind = λ i from below. ap (λ (ws : Words). ws i) o.words_are ∙ begins.restarted.behind i from below;
    repaired = subst (λ (ws : Words). (s : ℕ) → IsCurrentIn (ground_by key.geometry key.callers ws) ws s → IsRepaired (ground_by key.geometry key.callers ws) ws s) (sym o.words_are) begins.repaired;
  }

  -- its version is the one that the restart left
  version_is : (started_for (slice_index base state_word)).version ≡ version_of (ground_of key)
  version_is =
      let ends = ends_started key.geometry base o.sound in
      let fits = ends.fits in
      let state : word key.words.value.items state_word ≡ (started_for (slice_index base state_word)).version = ap (λ (ws : Words). ws state_word) o.words_are ∙ ends.left.state in
      sym (ap (λ (n : ℕ). n % 2 ^ 8) state ∙ omega (arith, fits))

  says : SaysShape key.geometry (word key.words.value.items)
  says = subst (λ (ws : Words). SaysShape key.geometry ws) (sym o.words_are) (quiet_after_restart key.geometry base key.callers o.sound o.few).says

  unmarked : marker_in (word key.words.value.items state_word) ≡ 0
  unmarked = ap (λ (ws : Words). marker_in (ws state_word)) o.words_are ∙ (quiet_after_restart key.geometry base key.callers o.sound o.few).structure.not_clean

  first_keeps : KeepsStill (first_of key)
  first_keeps = record {
    stands = o.some;
    idle = first_is_idle key;
  }

  module _ (image : SharedImage) (same : image.table.shared.key ≡ key) where
    pub on : image.geometry ≡ key.geometry → image.started ≡ started_for (slice_index base state_word) → image.room.items ≡ key.words.value.items
        → IsWhole image.table.shared.table_id image.table.shared.key → IsOn image
    on geometry started room whole = record {
      whole = whole;
      laid_out = geometry ∙ sym (ap (λ (k : Opening). k.geometry) same);
      version = ap (λ s. s.version) started ∙ version_is ∙ sym (ap (λ (k : Opening). version_of (ground_of k)) same);
      room = ap length room ∙ o.whole ∙ sym (ap (λ (k : Opening). all_words_of k.geometry) same) ∙ sym whole.words;
      says = subst (λ (k : Opening). SaysShape k.geometry (word k.words.value.items)) (sym same) says;
      unmarked = subst (λ (k : Opening). marker_in (word k.words.value.items state_word) ≡ 0) (sym same) unmarked;
    }

    pub keeps : (keeper : Keeper) → IsSeatOf image.table.shared.table_id image.table.shared.key keeper.seat → keeper.seat.me ≡ (first_of key, []) → IsKeeperOf image keeper
    keeps keeper seat me = record { seat = seat; still = subst KeepsStill (sym (ap (λ m. m.0) me)) first_keeps }

    pub starts_with : (m : Map) → HasPairsOf key.geometry (slice_index base) m → (k : ℕ) → get m k ≡ (ground_in image).start k
    starts_with m has k =
        (keeps_pairs key.geometry base m o.sound).0 has k
        ∙ ap (λ (ws : Words). find key.geometry ws k) (sym o.words_are)
        ∙ sym (ap (λ (z : Opening). find z.geometry (word z.words.value.items) k) same)
