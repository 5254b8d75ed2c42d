-- What words become at a step of a caller spares what readers noted: a noted lock word does not fall, and no header changes.
use Rattle.std.proofs.Common.{◌≡◌, ℕ, ◌%◌, ◌<◌, ◌≤◌, List, inl, inr, sym, ap, ◌∙◌, subst, arith}
use Rattle.std.proofs.lemmas.Bool.{cases_eq}
use Rattle.trace.specs.Events.{Words, with_word}
use Rattle.trace.proofs.Replaced.{replaced_same, replaced_other}
use Rattle.image_layout.specs.Places.{words_of}
use Rattle.frame_facts.specs.Owners.{HasStructure}
use Rattle.world.specs.Ground.{Ground, IsLockWord, IsUnder}
use Rattle.world.specs.Views.{Glance, View, At, IsGuarded}
use Rattle.world.specs.Parts.{Locks, IsPastLock}
use Rattle.world.specs.areas.Areas.{header_word}
use Rattle.world.proofs.basics.Grounds.{one_lock, lock_apart, lock_within}
use Rattle.world.proofs.basics.Structures.{lock_of_current, header_is, same_current, lock_structure}
use Rattle.world.proofs.basics.Seats.{guarded_no_lock, guarded_structure}
use Rattle.world.proofs.fitting.lasting.Lasting.{same_live}
use Rattle.world.proofs.mild.Noted.{SparesNotes}

-- a noted lock word does not fall, and while it has the noted value nothing under it changed
abbrev pub Rises : Words → Words → Glance → Type 0
Rises words us n = (words n.word ≤ us n.word) × (us n.word ≡ n.value → (words n.word ≡ n.value) × ((i : ℕ) → IsUnder n.word i → us i ≡ words i))

module _ (site : Ground) (words : Words) where
  -- where the structure is as it was, that is enough
  spares : (us : Words) → HasStructure site.shape words us → ((n : Glance) → IsPastLock site words n → Rises words us n) → SparesNotes site words us
  spares us structure rises = record {
    rises = rises;
    currents = same_current site words us structure;
    heads = λ s live. (
      same_live site.shape words us (λ t slot. structure (header_word site.shape t) (header_is site.shape t slot)) s live,
      inl (structure (header_word site.shape s) (header_is site.shape s live.slot)),
    );
  }

  -- a word behind the image changes
  pub spares_behind : (i x : ℕ) → words_of site.shape ≤ i → HasStructure site.shape words (with_word words i x) → SparesNotes site words (with_word words i x)
  spares_behind i x far structure = spares (with_word words i x) structure (λ n l.
      let near = lock_within site.shape n.word (lock_of_current site words n.word l.lock) in
      let same : with_word words i x n.word ≡ words n.word = replaced_other words i x n.word (λ e. omega (arith, near, far, e)) in (
        omega (arith, same),
        λ e. (sym same ∙ e, λ m under. replaced_other words i x m (λ s. let u = under.1 in omega (arith, near, far, u, s))),
      ))

  -- a lock word grows
  pub spares_growing : (lock x : ℕ) → IsLockWord site.shape lock → words lock < x → SparesNotes site words (with_word words lock x)
  spares_growing lock x is grows = spares (with_word words lock x) (lock_structure site.shape words lock x is) (λ n l. elim (cases_eq n.word lock) [
    | inl e ↦
        let new : with_word words lock x n.word ≡ x = ap (with_word words lock x) e ∙ replaced_same words lock x in
        let was = ap words e in (
          most (words n.word) (words lock) x (with_word words lock x n.word) was new grows,
          λ q. absurd (passed (words n.word) (words lock) x (with_word words lock x n.word) n.value was new grows l.past q),
        )
    | inr other ↦
        let same : with_word words lock x n.word ≡ words n.word = replaced_other words lock x n.word other in (
          omega (arith, same),
          λ e. (
            sym same ∙ e,
            λ m under. replaced_other words lock x m (λ s. lock_apart site.shape n.word lock (lock_of_current site words n.word l.lock) is (subst (λ (z : ℕ). IsUnder n.word z) s under)),
          ),
        )
  ])
    where
      most : (a b x c : ℕ) → a ≡ b → c ≡ x → b < x → a ≤ c
      most a b x c e f g = omega (arith, e, f, g)

      passed : (a b x c value : ℕ) → a ≡ b → c ≡ x → b < x → value ≤ a → c ≡ value → ⊥
      passed a b x c value e f g p q = omega (arith, e, f, g, p, q)

  -- a word under a lock changes, which is held, so that its lock word is none that was noted free
  pub spares_guarded : (views : List View) (j : ℕ) (v : View) → Locks site words views → At views j v → (i x : ℕ) → IsGuarded v.held i → SparesNotes site words (with_word words i x)
  spares_guarded views j v locks at i x g = spares (with_word words i x) (guarded_structure site words views locks j v i x at g words) (λ n l.
      let held = locks.locked j v g.0 g.1.0 at g.1.1 in
      let is = lock_of_current site words n.word l.lock in
      let same : with_word words i x n.word ≡ words n.word = replaced_other words i x n.word (λ e. guarded_no_lock site words views locks j v i n.word at g is (sym e)) in (
        omega (arith, same),
        λ e. (
          sym same ∙ e,
          λ m under. replaced_other words i x m (λ s.
              let one = one_lock site.shape n.word g.0 i is held.0 (subst (λ (z : ℕ). IsUnder n.word z) s under) g.2 in
              odd (words n.word) (words g.0) g.1.0 n.value (ap words one) held.1 held.2 (sym same ∙ e) l.free),
        ),
      ))
    where
      odd : (a b y value : ℕ) → a ≡ b → b ≡ y → y % 2 ≡ 1 → a ≡ value → value % 2 ≡ 0 → ⊥
      odd a b y value e f is g even = omega (arith, e, f, is, g, even)
