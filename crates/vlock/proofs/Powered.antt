-- Each kind of step leaves the power word off where a seat's view says so.
use Rattle.std.proofs.Common.{◌≡◌, ◌≢◌, ◌⊎◌, inl, inr, ℕ, ◌%◌, ◌^◌, nat_lt, Bool, true, false, eqb, Option, None, Some, List, refl, sym, ap, ◌∙◌, subst}
use Rattle.trace.specs.Events.{Words}
use Rattle.trace.proofs.Replaced.{replaced_same}
use Rattle.image_layout.specs.Places.{Shape}
use Rattle.image_layout.specs.Volatile.{power_word}
use Rattle.world.specs.Ground.{Ground}
use Rattle.world.specs.Views.{Answer, View, At}
use Rattle.world.specs.Kinds.{Kind, finds_room, looks, validates, tries, cuts_power, all_again, marked, with_answer, with_look, with_count, with_lock, view_after}
use Rattle.world.specs.StepKinds.{StepKind, of_call, of_structure, view_by, MayTake}
use Rattle.world.specs.StepLaws.{found_of, words_of_step}
use Rattle.world.specs.Invariant.{Holds}
use Rattle.world.proofs.calls.mildly.Leaving.{power_stays}
use Rattle.world.proofs.mild.Rest.{same_view}

-- a kind of calls is the store of the power word, or leaves whether it was stored
leaves : (shape : Shape) (kind : Kind) (n : ℕ) (v : View) → (kind ≡ cuts_power) ⊎ ((kind ≢ cuts_power) × ((view_after shape kind n v).stored_power ≡ v.stored_power))
leaves shape cuts_power n v = inl refl
leaves shape (finds_room call) n v = inr (λ e. absurd (cc), by (nat_lt n (2 ^ 63)))
  where
    by : (b : Bool) → (with_count b call n v).stored_power ≡ v.stored_power
    by true = refl
    by false = refl
leaves shape (looks lock) n v = inr (λ e. absurd (cc), by (eqb (n % 2) 0))
  where
    by : (b : Bool) → (with_look b lock n v).stored_power ≡ v.stored_power
    by true = refl
    by false = refl
leaves shape (validates lock) n v = inr (λ e. absurd (cc), by (all_again (marked lock n v.notes)) v.answer)
  where
    by : (b : Bool) (o : Option Answer) → (with_answer b o (record v { notes = marked lock n v.notes })).stored_power ≡ v.stored_power
    by false o = refl
    by true None = refl
    by true (Some a) = refl
leaves shape (tries lock free) n v = inr (λ e. absurd (cc), by (eqb n free))
  where
    by : (b : Bool) → (with_lock b lock free v).stored_power ≡ v.stored_power
    by true = refl
    by false = refl
leaves shape kind n v = inr (λ e. absurd (cc), refl)

-- the call that a kind of step is made for
abbrev call_in : Kind → StepKind → Kind
call_in other (of_call kind) = kind
call_in other (of_structure kind) = other

module _ (site : Ground) (words : Words) (views : List View) (j : ℕ) (v : View) (h : Holds site words views) (at : At views j v) where
  -- WHAT THE VIEW AFTER A STEP SAYS of the power is so, where what the view before says is
  pub off_after : (kind : StepKind) (c n : ℕ) → n ≡ found_of site kind words → MayTake site kind v → (v.stored_power ≡ true → words (power_word site.shape) ≡ 1)
      → (view_by site.shape kind n v).stored_power ≡ true → words_of_step site kind c words (power_word site.shape) ≡ 1
  off_after (of_call kind) c n found may off now = elim (leaves site.shape kind n v) [
    | inl is ↦ subst (λ (k : Kind). words_of_step site (of_call k) c words (power_word site.shape) ≡ 1) (sym is) (replaced_same words (power_word site.shape) 1)
    | inr o ↦ power_stays site words views j v (of_call kind) c h at (λ e. o.0 (ap (call_in cuts_power) e)) may ∙ off (sym o.1 ∙ now)
  ]
  off_after (of_structure kind) c n found may off now =
      power_stays site words views j v (of_structure kind) c h at (λ e. absurd (cc)) may
      ∙ off (sym (same_view site words v kind).stored_power ∙ subst (λ (x : ℕ). (view_by site.shape (of_structure kind) x v).stored_power ≡ true) found now)

  -- and what other views say stays so
  pub off_still : (kind : StepKind) (c : ℕ) → MayTake site kind v → words (power_word site.shape) ≡ 1 → words_of_step site kind c words (power_word site.shape) ≡ 1
  off_still (of_call kind) c may off = elim (leaves site.shape kind 0 v) [
    | inl is ↦ subst (λ (k : Kind). words_of_step site (of_call k) c words (power_word site.shape) ≡ 1) (sym is) (replaced_same words (power_word site.shape) 1)
    | inr o ↦ power_stays site words views j v (of_call kind) c h at (λ e. o.0 (ap (call_in cuts_power) e)) may ∙ off
  ]
  off_still (of_structure kind) c may off = power_stays site words views j v (of_structure kind) c h at (λ e. absurd (cc)) may ∙ off
