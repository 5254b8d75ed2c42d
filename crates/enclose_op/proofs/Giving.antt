-- What machines cite that give a segment back: each event is answered that it passed, stays within the image and puts a word there, flushes
-- nothing, enters and makes nothing, and leaves the power on; and while it goes on nothing is planned, and no segment is whole.
use Rattle.std.proofs.Common.{◌≡◌, ◌≢◌, ℕ, ◌+◌, ◌%◌, ◌^◌, ◌<◌, [], refl, arith}
use Rattle.op_core.specs.declared.want.Want.TheVariants.{Flush, Done}
use Rattle.op_core.specs.declared.want.Ans.{Ans}
use Rattle.op_core.specs.declared.want.Ans.TheVariants.{Passed}
use Rattle.op_core.specs.Answers.{IsAnswer}
use Rattle.image_layout.specs.Places.{Shape, buckets}
use Rattle.image_layout.specs.Volatile.{all_words_of}
use Rattle.world.specs.Ground.{Ground}
use Rattle.world.specs.Views.{View}
use Rattle.world.specs.Wants.{answer_to}
use Rattle.world.specs.Kinds.{cuts_power}
use Rattle.world.specs.areas.Bridging.{HasNoWhole}
use Rattle.world.specs.StepKinds.{of_call, view_by}
use Rattle.world.specs.StepLaws.{IsPublishingStep}
use Rattle.world.proofs.basics.Grounds.{lock_within}
use Rattle.part.specs.Asks.{IsWithin, PutsWord}
use Rattle.phase.specs.Giving.{IsLocated}
use Rattle.enclose_op.specs.declared.enclosed.Enclosed.{Enclosed}
use Rattle.enclose_op.specs.declared.give.Give.{Give}
use Rattle.enclose_op.specs.declared.give.Give.TheVariants.{Lock, Guard}
use Rattle.enclose_op.specs.Giving.{guard_of, lock_of, free_value, give_wanted}
use Rattle.enclose_op.specs.Fits.{give_kind, SuitsGive}
use Rattle.enclose_op.proofs.Places.{guard_is, is_lock}
use Rattle.enclose_op.proofs.Held.{no_whole}

module _ (e : Enclosed) where
  -- ---- the event
  pub give_some : (give : Give) → give_wanted e give ≢ Done
  give_some (Lock b to) same = absurd (cc)
  give_some Guard same = absurd (cc)

  pub give_answer : (give : Give) (n : ℕ) → answer_to (give_wanted e give) n ≡ Passed
  give_answer (Lock b to) n = refl
  give_answer Guard n = refl

  pub give_answered : (give : Give) (a : Ans) → IsAnswer (give_wanted e give) a → a ≡ Passed
  give_answered (Lock b to) Passed i = refl
  give_answered (Lock b to) a i = absurd i
  give_answered Guard Passed i = refl
  give_answered Guard a i = absurd i

  pub give_flushes : (give : Give) (l : ℕ) → give_wanted e give ≡ Flush l → ⊥
  give_flushes (Lock b to) l same = absurd (cc)
  give_flushes Guard l same = absurd (cc)

  pub give_puts : (give : Give) → PutsWord (give_wanted e give)
  give_puts (Lock b to) = record {
    stores = λ i x same. (let is : (free_value e b + 2) % 2 ^ 64 ≡ x = cc in omega (arith, is));
    exchanges = λ i a b e. absurd (cc);
  }
  give_puts Guard = record { stores = λ i x same. (let is : 0 ≡ x = cc in omega (arith, is)); exchanges = λ i a b e. absurd (cc) }

  -- ---- its kind, and the view after it
  pub give_makes : (give : Give) → IsPublishingStep (give_kind e give) → ⊥
  give_makes (Lock b to) p = p
  give_makes Guard p = p

  pub give_power : (give : Give) → give_kind e give ≢ of_call cuts_power
  give_power (Lock b to) same = absurd (cc)
  give_power Guard same = absurd (cc)

pub give_own : (shape : Shape) (e : Enclosed) (give : Give) (n : ℕ) (v : View) → (view_by shape (give_kind e give) n v).own ≡ v.own
give_own shape e (Lock b to) n v = refl
give_own shape e Guard n v = refl

pub give_seen : (shape : Shape) (e : Enclosed) (give : Give) (n : ℕ) (v : View) → (view_by shape (give_kind e give) n v).seen ≡ v.seen
give_seen shape e (Lock b to) n v = refl
give_seen shape e Guard n v = refl

module _ (site : Ground) (e : Enclosed) where
  -- ---- while it goes on
  pub give_plan : (give : Give) (v : View) → SuitsGive site e give v → v.planned ≡ []
  give_plan (Lock b to) v s = s.2.quiet.planned
  give_plan Guard v s = s.quiet.planned

  pub give_whole : (give : Give) (v : View) → SuitsGive site e give v → HasNoWhole v
  give_whole (Lock b to) v s = no_whole e v s.2.areas
  give_whole Guard v s = no_whole e v s.areas

  -- ---- where it asks
  module _ (l : IsLocated site e.site e.segment) where
    pub guard_low : guard_of e < all_words_of site.shape
    guard_low = let at = guard_is site e l in let within = l.within in omega (arith, at, within)

    pub lock_low : (b : ℕ) → b < buckets → lock_of e b < all_words_of site.shape
    lock_low b near = let low = lock_within site.shape (lock_of e b) (is_lock site e l b near) in omega (arith, low)

    pub give_in : (give : Give) (v : View) → SuitsGive site e give v → IsWithin site.shape (give_wanted e give)
    give_in (Lock b to) v s = record { word = (let low = s.0 in let most = s.1 in lock_low b (omega (arith, low, most))); line = λ n e. absurd (cc) }
    give_in Guard v s = record { word = guard_low; line = λ n e. absurd (cc) }
