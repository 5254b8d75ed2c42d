-- The header and the words of the buckets are loaded: each event is of its kind, which the view may take, and makes its word known.
use Rattle.std.proofs.Common.{◌≡◌, ◌≢◌, ℕ, ◌+◌, ◌*◌, ◌/◌, ◌%◌, ◌^◌, ◌<◌, ◌≤◌, Bool, true, false, List, [], ◌∷◌, length, slice_index, inl, inr, refl, sym, ap, ◌∙◌, subst, arith, length-set}
use Rattle.std.specs.Prelude.{◌==◌, if◌then◌else◌}
use Rattle.std.proofs.lemmas.Bool.{cases_eq, eqb-true, eqb-false, and_parts}
use Rattle.std.proofs.lemmas.List.{get_or-set_same, get_or-set_other}
use Rattle.segment_head.specs.HeadWord.{version_in}
use Rattle.image_layout.specs.Places.{head_at, bucket_at, buckets, block, last_of_buckets}
use Rattle.way.specs.Ways.{head_word, bucket_word, is_leading}
use Rattle.world.specs.DeadSlots.{IsInSlot}
use Rattle.map_model.specs.declared.call.Call.{Call}
use Rattle.world.specs.declared.site.Site.{Site}
use Rattle.world.specs.Ground.{Ground, IsUnder}
use Rattle.world.specs.Views.{View, Has, IsGuarded}
use Rattle.world.specs.areas.Areas.{Segment, header_word}
use Rattle.world.specs.areas.Splitting.{KnowsBuckets}
use Rattle.world.specs.StepKinds.{wanted_of, MayTake}
use Rattle.phase.specs.Stands.{IsThere}
use Rattle.phase.specs.Giving.{IsLocated}
use Rattle.enclose_op.specs.declared.enclosed.Enclosed.{Enclosed}
use Rattle.enclose_op.specs.declared.op.NotEnclosed.TheVariants.{Room}
use Rattle.enclose_op.specs.declared.op.EncloseStep.TheVariants.{Head, Fill}
use Rattle.enclose_op.specs.Whole.{kept_words, IsOf}
use Rattle.enclose_op.specs.Steps.{giving, is_followed, with_head, headed, with_word, wanted_in}
use Rattle.enclose_op.specs.Fits.{kind_at, IsTakingLock, IsFilling, IsHeaded, SuitsStep}
use Rattle.enclose_op.specs.EnclosePart.{EnclosureStands}
use Rattle.enclose_op.proofs.Places.{in_slot, head_in_slot, head_is, bucket_is, kept_there}
use Rattle.enclose_op.proofs.Held.{no_whole, has_guard, settled_word, hold_same}
use Rattle.enclose_op.proofs.Backing.{quiet_still, give_suits}

module _ (site : Ground) (here : Site) (call : Call) (e : Enclosed) (is : IsOf site here call e) where
  -- what runs is the same with another header, and with another word
  pub is_with_head : (head : ℕ) → IsOf site here call (with_head e head)
  is_with_head head = record {
    at = is.at;
    same = is.same;
    insert = is.insert;
    located = record { shape = is.located.shape; within = is.located.within };
    hashed = is.hashed;
    fits = is.fits;
    version = is.version;
    numbered = is.numbered;
    caller = is.caller;
    each_lock = is.each_lock;
    each_word = is.each_word;
  }

  pub is_with_word : (at seen : ℕ) → IsOf site here call (with_word e at seen)
  is_with_word at seen = record {
    at = is.at;
    same = is.same;
    insert = is.insert;
    located = record { shape = is.located.shape; within = is.located.within };
    hashed = is.hashed;
    fits = is.fits;
    version = is.version;
    numbered = is.numbered;
    caller = is.caller;
    each_lock = is.each_lock;
    each_word = length-set e.buckets at seen ∙ is.each_word;
  }

-- a view with one word more known, of the slot, holds what it held
pub taking_known : (site : Ground) (e d : Enclosed) (b i n : ℕ) (v : View) → d.segment ≡ e.segment → d.locks ≡ e.locks → ((p : ℕ × ℕ) → p ≡ (i, n) → IsInSlot site.shape e.segment p.0)
    → IsTakingLock site e b v → IsTakingLock site d b (record v { known = (i, n) ∷ v.known })
taking_known site e d b i n v segment locks inside t = record {
  near = t.near;
  there = subst (λ (s : ℕ). IsThere site s v.facts) (sym segment) t.there;
  part = record {
    areas = t.part.areas ∙ ap (λ (s : ℕ). Segment s ∷ []) (sym segment);
    locks = hold_same site e 0 b v (record v { known = (i, n) ∷ v.known }) d segment locks refl t.part.locks;
    known = λ p has. subst (λ (s : ℕ). IsInSlot site.shape s p.0) (sym segment) (elim has [ inl e ↦ inside p e | inr was ↦ t.part.known p was ]);
    quiet = quiet_still v (record v { known = (i, n) ∷ v.known }) refl refl refl refl refl t.part.quiet;
  };
}

module _ (site : Ground) (here : Site) (call : Call) (e : Enclosed) (is : IsOf site here call e) (v : View) where
  abbrev l : IsLocated site e.site e.segment
  l = is.located

  -- ---- the header
  pub head_wants : wanted_in e Head ≡ wanted_of site.shape (kind_at e Head)
  head_wants = refl

  pub head_may : SuitsStep site here call e Head v → MayTake site (kind_at e Head) v
  head_may s = inr (Segment e.segment, has_guard e v s.0.part.areas, inl (head_is site e l))

  module _ (n : ℕ) (small : n < 2 ^ 64) (s : SuitsStep site here call e Head v) where
    abbrev i : ℕ
    i = head_word e.site.geometry e.segment

    abbrev seen : View
    seen = record v { known = (i, n) ∷ v.known }

    abbrev d : Enclosed
    d = with_head e n

    head_inside : (p : ℕ × ℕ) → p ≡ (i, n) → IsInSlot site.shape e.segment p.0
    head_inside p same =
        subst (λ (z : ℕ). IsInSlot site.shape e.segment z) (sym (ap (λ (z : ℕ × ℕ). z.0) same ∙ head_is site e l)) (head_in_slot site.shape e.segment)

    head_taking : IsTakingLock site d buckets seen
    head_taking = taking_known site e d buckets i n v refl refl head_inside s.0

    head_by : (t : Bool) → is_followed e n ≡ t → SuitsStep site here call d (if t then Fill 1 else giving buckets Room) seen
    head_by true follows =
        let parts = and_parts (version_in n == e.site.version) (is_leading n e.hash) follows in (
          record {
            taking = head_taking;
            head = record { head_fits = small; current = eqb-true (version_in n) e.site.version parts.0 ∙ is.version; leads = parts.1 };
            header = settled_word seen (header_word site.shape e.segment) n head_taking.part.quiet (inl (ap (λ (z : ℕ). (z, n)) (sym (head_is site e l))));
            small = s.1;
          },
          record { from = omega arith; last = omega arith; no_lock = λ same. absurd (cc); same = λ j low apart. absurd (let none : j ≡ 0 = omega (arith, low) in apart (ap (λ (z : ℕ). z % 32) none)) },
        )
    head_by false leads_not = give_suits site d 0 buckets seen (omega arith) (omega arith) head_taking.part

    pub head_stands : EnclosureStands site here call (headed e n) seen
    head_stands = record { is = is_with_head site here call e is n; view = head_by (is_followed e n) refl }

  -- ---- a word
  module _ (at : ℕ) (s : SuitsStep site here call e (Fill at) v) where
    abbrev word : ℕ
    word = bucket_word e.site.geometry e.segment 0 + at

    word_is : word ≡ bucket_at site.shape e.segment 0 + at
    word_is = ap (λ (z : ℕ). z + at) (bucket_is site e l 0)

    -- it lies in its bucket, behind the lock word
    behind : (f at : ℕ) → f + 32 + 32 * 0 + at ≡ f + 32 + 32 * (at / 32) + at % 32
    behind f at = omega arith

    word_there : word ≡ bucket_at site.shape e.segment (at / 32) + at % 32
    word_there = word_is ∙ behind (head_at site.shape e.segment) at

    near : at / 32 < buckets
    near = let last = s.1.last in omega (arith, last)

    under : IsUnder (bucket_at site.shape e.segment (at / 32)) word
    under =
        let is = word_there in
        let some = s.1.no_lock in
        let rest : 1 ≤ at % 32 = omega (arith, some) in
        (omega (arith, is, rest), omega (arith, is))

    guarded : IsGuarded v.held word
    guarded = (
      bucket_at site.shape e.segment (at / 32),
      (slice_index e.locks (at / 32) + 1, s.0.taking.part.locks.has (at / 32) (omega arith) near),
      under,
    )

    pub fill_may : MayTake site (kind_at e (Fill at)) v
    fill_may = (guarded, no_whole e v s.0.taking.part.areas)

    module _ (n : ℕ) (small : n < 2 ^ 64) where
      abbrev u : View
      u = record v { known = (word, n) ∷ v.known }

      abbrev f : Enclosed
      f = with_word e at n

      abbrev long : at < length e.buckets
      long = let last = s.1.last in let each = is.each_word in omega (arith, last, each)

      own_word : slice_index f.buckets at ≡ n
      own_word = get_or-set_same e.buckets at n 0 long

      other_word : (j : ℕ) → (j ≡ at → ⊥) → slice_index f.buckets j ≡ slice_index e.buckets j
      other_word j apart = get_or-set_other e.buckets at j n 0 apart

      word_inside : (p : ℕ × ℕ) → p ≡ (word, n) → IsInSlot site.shape e.segment p.0
      word_inside p same =
          subst (λ (z : ℕ). IsInSlot site.shape e.segment z) (sym (ap (λ (z : ℕ × ℕ). z.0) same ∙ word_there))
          (in_slot site.shape e.segment (at / 32) (at % 32) near (omega arith))

      fill_taking : IsTakingLock site f buckets u
      fill_taking = taking_known site e f buckets word n v refl refl word_inside s.0.taking

      pub fill_headed : IsHeaded site f u
      fill_headed = record {
        taking = fill_taking;
        head = record { head_fits = s.0.head.head_fits; current = s.0.head.current; leads = s.0.head.leads };
        header = settled_word u (header_word site.shape e.segment) e.head fill_taking.part.quiet (inr s.0.header.known);
        small = λ j. elim (cases_eq j at) [
          | inl same ↦ subst (λ (z : ℕ). z < 2 ^ 64) (sym (ap (slice_index f.buckets) same ∙ own_word)) small
          | inr apart ↦ subst (λ (z : ℕ). z < 2 ^ 64) (sym (other_word j apart)) (s.0.small j)
        ];
      }

      -- the words up to this one, in a list that had those before it
      pub upto_in : (l : List (ℕ × ℕ)) → ((j : ℕ) → j < at → j % block ≢ 0 → Has (bucket_at site.shape e.segment 0 + j, slice_index e.buckets j) l)
          → (j : ℕ) → j < at + 1 → j % block ≢ 0 → Has (bucket_at site.shape e.segment 0 + j, slice_index f.buckets j) ((word, n) ∷ l)
      upto_in l before j low plain = elim (cases_eq j at) [
        | inl same ↦ inl (let number : bucket_at site.shape e.segment 0 + j ≡ word = ap (λ (z : ℕ). bucket_at site.shape e.segment 0 + z) same ∙ sym word_is in
            ap (λ (z : ℕ). (z, slice_index f.buckets j)) number ∙ ap (λ (z : ℕ). (word, z)) (ap (slice_index f.buckets) same ∙ own_word))
        | inr apart ↦ inr (subst (λ (z : ℕ). Has (bucket_at site.shape e.segment 0 + j, z) l) (sym (other_word j apart)) (before j (omega (arith, low, apart)) plain))
      ]

      -- they are known
      upto : (j : ℕ) → j < at + 1 → j % block ≢ 0 → Has (bucket_at site.shape e.segment 0 + j, slice_index f.buckets j) u.known
      upto = upto_in v.known s.1.same

      -- the word of a number of all is one of a bucket
      number_of : (f b n : ℕ) → f + 32 + 32 * 0 + (32 * b + n) ≡ f + 32 + 32 * b + n
      number_of f b n = omega arith

      -- words of all numbers are words of all buckets
      pub by_buckets : (l : List (ℕ × ℕ)) → last_of_buckets ≤ at → ((j : ℕ) → j < at + 1 → j % block ≢ 0 → Has (bucket_at site.shape e.segment 0 + j, slice_index f.buckets j) l)
          → (b k : ℕ) → b < buckets → 1 ≤ k → k < block → Has (bucket_at site.shape e.segment b + k, slice_index f.buckets (32 * b + k)) l
      by_buckets l last all b k near from low =
          let has = all (32 * b + k) (omega (arith, last, near, low)) (λ same. (let none : k ≡ 0 = omega (arith, same, low) in omega (arith, none, from))) in
          subst (λ (z : ℕ). Has (z, slice_index f.buckets (32 * b + k)) l) (number_of (head_at site.shape e.segment) b k) has

      -- the next one
      pub fill_next : at < last_of_buckets → (t : Bool) → ((at + 1) % 32 == 0) ≡ t → IsFilling site f (if t then at + 2 else at + 1) u
      fill_next low true turns =
          let is = eqb-true ((at + 1) % 32) 0 turns in
          record {
            from = omega arith;
            last = omega (arith, low, is);
            no_lock = λ same. omega (arith, is, same);
            same = λ j below plain. elim (cases_eq j (at + 1)) [
              | inl same ↦ absurd (plain (ap (λ (z : ℕ). z % 32) same ∙ is))
              | inr apart ↦ upto j (omega (arith, below, apart)) plain
            ];
          }
      fill_next low false stays = record {
        from = omega arith;
        last = omega (arith, low);
        no_lock = λ same. eqb-false ((at + 1) % 32) 0 stays same;
        same = λ j below plain. upto j below plain;
      }

      -- after the last one all are known
      pub all_known : last_of_buckets ≤ at → KnowsBuckets site.shape u e.segment (kept_words f)
      all_known last b k near from low =
          settled_word u (bucket_at site.shape e.segment b + k) (kept_words f (bucket_at site.shape e.segment b + k)) fill_taking.part.quiet
          (subst (λ (z : ℕ). Has (bucket_at site.shape e.segment b + k, z) u.known) (sym (kept_there site f (record { shape = l.shape; within = l.within }) b k)) (by_buckets u.known last upto b k near from low))
