-- The stores to the directory: an entry of a deeper area, the root, and an entry that is to name a claimer.
use Rattle.std.proofs.Common.{◌≡◌, ℕ, suc, ◌+◌, ◌*◌, ◌-◌, ◌/◌, ◌^◌, ◌<◌, ◌≤◌, inl, inr, refl, sym, ap, subst, ◌∙◌, arith, add-one}
use Rattle.std.proofs.lemmas.Nat.{pow_pos}
use Rattle.std.proofs.Math.Nat.{pow-suc}
use Rattle.trace.specs.Events.{Words}
use Rattle.image_layout.specs.Places.{Shape, root_word, entry_at, first_segment}
use Rattle.image_layout.proofs.Areas.{entry_before}
use Rattle.sound_image.specs.Segments.{frame_of}
use Rattle.frame_facts.specs.Stores.{Doubles, NamesClaimer, StoreKeeps}
use Rattle.frame_facts.proofs.FrameWords.{other_areas_apart}
use Rattle.frame_facts.proofs.StoreLaws.{doubles, names_claimer, stores_apart}
use Rattle.frame_facts.specs.Claims.{ClaimsAll}
use Rattle.frame_facts.specs.Facts.{Owns}
use Rattle.frame_facts.specs.Keeping.{KeepsFacts}
use Rattle.frame_facts.proofs.Records.{structure_apart}
use Rattle.frame_facts.proofs.Stores.{doubled, named_claimer, deeper_area}
use Rattle.frame_facts.proofs.Told.{claimer_by_claims}
use Rattle.world.specs.Ground.{Ground, IsGround, IsLockWord, version_of, IsStructured}
use Rattle.world.specs.Views.{View, Has}
use Rattle.world.specs.Holders.{KnowsWord}
use Rattle.world.specs.areas.Areas.{Directory, IsDirectoryWord}
use Rattle.world.specs.areas.Kinds.{sets}
use Rattle.world.specs.areas.Asking.{IsHarmlessStore, EndsNothing, MayAt}
use Rattle.world.specs.areas.Splitting.{IsSettledHolder}
use Rattle.world.proofs.basics.Structures.{lock_no_structure, lock_of_live}
use Rattle.world.proofs.holders.filling.Known.{both_sound, known_there}
use Rattle.world.proofs.holders.filling.Filling.{under_whole}
use Rattle.world.proofs.holders.directing.Known.{front_far, kept_all}

-- where the words of the directory stand
directory_low : (shape : Shape) (i : ℕ) → IsDirectoryWord shape i → i < first_segment shape
directory_low shape i (inl e) = omega (arith, e, front_far shape)
directory_low shape i (inr k) = k.1

pub entry_word : (shape : Shape) (e i : ℕ) → e ≤ shape.depth → i < 2 ^ e → IsDirectoryWord shape (entry_at e i)
entry_word shape e i within below = inr (omega (arith, pow_pos e), entry_before shape e i within below)

no_state : (shape : Shape) (i : ℕ) → IsDirectoryWord shape i → i ≡ 16 → ⊥
no_state shape i (inl e) is = omega (arith, e, is)
no_state shape i (inr k) is = omega (arith, k.0, is)

pub first_is_root : (shape : Shape) (i : ℕ) → IsDirectoryWord shape i → i < 32 → i ≡ root_word
first_is_root shape i (inl e) low = e
first_is_root shape i (inr k) low = absurd (omega (arith, k.0, low))

module _ (site : Ground) (ground : IsGround site) (v : View) (holder : IsSettledHolder site.shape v) (guard : Has Directory v.areas) where
  abbrev shape : Shape
  shape = site.shape

  -- A STORE TO A WORD OF THE DIRECTORY, that is harmless
  pub set_front : (i x : ℕ) → IsDirectoryWord shape i → IsHarmlessStore site v (EndsNothing site) i x → MayAt site (sets i x) v
  set_front i x word harmless = record {
    holds = inr (Directory, guard, word);
    no_header = λ s slot e. before (first_segment shape) s i low e;
    no_state = no_state shape i word;
    under_whole = under_whole site v holder i;
    under_dead = λ n side inside. absurd (before_slot (first_segment shape) n i low inside.from);
    planned = holder.planned;
    owed = holder.owed;
    even = λ lock. absurd (no_lock lock);
    spent = λ words new spent. absurd (no_lock (lock_of_live shape words i spent.0));
    harmless = harmless;
  }
    where
      low : i < first_segment shape
      low = directory_low shape i word

      before : (f s i : ℕ) → i < f → i ≡ f + 2144 * s + 1 → ⊥
      before f s i low e = omega (arith, low, e)

      before_slot : (f n i : ℕ) → i < f → f + 2144 * n ≤ i → ⊥
      before_slot f n i low from = omega (arith, low, from)

      no_lock : IsLockWord shape i → ⊥
      no_lock lock = lock_no_structure shape i lock (inl low)

  -- no root is deeper than the image allows
  low_root : (us : Words) → IsStructured site us → (g : ℕ) → us root_word ≡ g → g ≤ 16
  low_root us sound g e = omega (arith, e, sound.sound.root, ground.shape.depth)

  -- ---- an entry of a deeper area
  pub fill : (g e i x : ℕ) → KnowsWord v root_word g → g < e → e ≤ shape.depth → i < 2 ^ e → MayAt site (sets (entry_at e i) x) v
  fill g e i x root above within below = set_front (entry_at e i) x (entry_word shape e i within below) (λ words medium new side.
      let here = new.knows root_word g root.known in
      let other = known_there site ground v words medium new side root_word g root in
      kept_all site ground words medium (EndsNothing site medium) (entry_at e i) x side.structure side.table (first_is_root shape (entry_at e i) (entry_word shape e i within below))
      (structure_apart shape (entry_at e i) (inl (entry_before shape e i within below)))
      (stores_apart shape medium ground.shape side.structure.sound (entry_at e i) x (other_areas_apart shape medium side.structure.sound.root e i within below (λ same. omega (arith, same, other, above))))
      (deeper_area shape (version_of site) words medium (both_sound site ground v words medium new side) (other ∙ sym here) e i x (subst (λ (z : ℕ). z < e) (sym here) above) within below))

  -- ---- the root
  -- words that have the known root and entries may have it one deeper
  doubles_in : (us : Words) (g : ℕ) (word : Words) → us root_word ≡ g → g < shape.depth → ((i : ℕ) → i < 2 ^ g → us (entry_at g i) ≡ word (entry_at g i))
      → ((i : ℕ) → i < 2 ^ suc g → us (entry_at (suc g) i) ≡ word (entry_at (suc g) i)) → ((i : ℕ) → i < 2 ^ suc g → word (entry_at (suc g) i) ≡ word (entry_at g (i / 2)))
      → Doubles shape us
  doubles_in us g word root room upper deeper filled = record {
    room = subst (λ (z : ℕ). z < shape.depth) (sym root) room;
    filled = subst (λ (r : ℕ). (i : ℕ) → i < 2 ^ (r + 1) → us (entry_at (r + 1) i) ≡ us (entry_at r (i / 2))) (sym root)
        (subst (λ (n : ℕ). (i : ℕ) → i < 2 ^ n → us (entry_at n i) ≡ us (entry_at g (i / 2))) (sym (add-one g))
        (λ i below. deeper i below ∙ filled i below ∙ sym (upper (i / 2) (half i below))));
  }
    where
      half : (i : ℕ) → i < 2 ^ suc g → i / 2 < 2 ^ g
      half i below = omega (arith, below, pow-suc 2 g)

  module _ (g : ℕ) (word : Words) (root : KnowsWord v root_word g) (room : g < shape.depth) (upper : (i : ℕ) → i < 2 ^ g → KnowsWord v (entry_at g i) (word (entry_at g i)))
      (deeper : (i : ℕ) → i < 2 ^ suc g → KnowsWord v (entry_at (suc g) i) (word (entry_at (suc g) i)))
      (filled : (i : ℕ) → i < 2 ^ suc g → word (entry_at (suc g) i) ≡ word (entry_at g (i / 2))) where
    pub double : MayAt site (sets root_word (suc g)) v
    double = set_front root_word (suc g) (inl refl) (λ words medium new side.
        let known_now : (k x : ℕ) → KnowsWord v k x → words k ≡ x = λ k x knows. new.knows k x knows.known in
        let known_there = known_there site ground v words medium new side in
        let here = known_now root_word g root in
        let other = known_there root_word g root in
        let may_now = doubles_in words g word here room (λ i l. known_now (entry_at g i) _ (upper i l)) (λ i l. known_now (entry_at (suc g) i) _ (deeper i l)) filled in
        let may_there = doubles_in medium g word other room (λ i l. known_there (entry_at g i) _ (upper i l)) (λ i l. known_there (entry_at (suc g) i) _ (deeper i l)) filled in
        kept_all site ground words medium (EndsNothing site medium) root_word (suc g) side.structure side.table (λ low. refl) (structure_apart shape root_word (inl (root_low)))
        (subst (λ (r : ℕ). StoreKeeps shape medium root_word r) (ap (λ (z : ℕ). z + 1) other ∙ add-one g) (doubles shape medium ground.shape side.structure.sound may_there))
        (subst (λ (r : ℕ). KeepsFacts shape (version_of site) words medium root_word r) (ap (λ (z : ℕ). z + 1) here ∙ add-one g)
        (doubled shape (version_of site) words medium (both_sound site ground v words medium new side) (other ∙ sym here) (may_now, may_there))))
      where
        root_low : root_word < first_segment shape
        root_low = omega (arith, front_far shape)

  -- ---- an entry is to name who owns its hashes
  module _ (g i n d p : ℕ) (root : KnowsWord v root_word g) (within : g ≤ shape.depth) (less : d ≤ g) (below : i < 2 ^ g) (inside : i / 2 ^ (g - d) ≡ p) (owns : Has (Owns n d p) v.facts) where
    names_in : (us : Words) → IsStructured site us → us root_word ≡ g → ClaimsAll (frame_of shape us) n d p → NamesClaimer (frame_of shape us) i n
    names_in us sound e claims = claimer_by_claims (frame_of shape us) n d (g - d) p i (omega (arith, e, less)) (omega (arith, less, low_root us sound g e))
        (subst (λ (r : ℕ). i < 2 ^ r) (sym e) below) inside claims

    pub enter : MayAt site (sets (entry_at g i) n) v
    enter = set_front (entry_at g i) n (entry_word shape g i within below) (λ words medium new side.
        let here = new.knows root_word g root.known in
        let other = known_there site ground v words medium new side root_word g root in
        let may_now = names_in words new.structure here (new.says (Owns n d p) owns) in
        let may_there = names_in medium side.structure other (side.says (Owns n d p) owns) in
        kept_all site ground words medium (EndsNothing site medium) (entry_at g i) n side.structure side.table (first_is_root shape (entry_at g i) (entry_word shape g i within below))
        (structure_apart shape (entry_at g i) (inl (entry_before shape g i within below)))
        (subst (λ (r : ℕ). StoreKeeps shape medium (entry_at r i) n) other (names_claimer shape medium ground.shape side.structure.sound i n may_there))
        (subst (λ (r : ℕ). KeepsFacts shape (version_of site) words medium (entry_at r i) n) here
        (named_claimer shape (version_of site) words medium (both_sound site ground v words medium new side) (other ∙ sym here) i n (may_now, may_there))))
