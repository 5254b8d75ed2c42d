-- What a power cut may leave of a shared image: sound images with what was replied, each planned change whole or absent.
use Rattle.std.proofs.Common.{◌≡◌, ◌⊎◌, inl, inr, ℕ, zero, suc, ◌^◌, ◌<◌, ◌≤◌, List, [], ◌∷◌, ◌++◌, length, Option, refl, sym, ap, ◌∙◌, subst, arith, append_assoc, append-nil}
use Rattle.std.specs.Prelude.{slice_index, take, map, Contains}
use Rattle.std.specs.FinMap.{get}
use Rattle.std.proofs.lemmas.List.{get_or-take, length-take-le}
use Rattle.std.proofs.lemmas.List.Elements.{Contains-append_right}
use mathlib.Core.Option.{some-injective, some-ne-none}
use Rattle.atomic_table.specs.declared.shared.Seat.{Seat}
use Rattle.trace.specs.Events.{Words}
use Rattle.trace.proofs.Listed.{has_append_left, has_append_right}
use Rattle.image_layout.specs.Places.{Shape, IsShape, state_word, words_of}
use Rattle.image_layout.specs.StateWord.{marker_in}
use Rattle.map_model.specs.declared.call.Call.{Call}
use Rattle.map_model.specs.declared.entry.Reply.TheVariants.{Done}
use Rattle.map_model.specs.declared.entry.Entry.{Entry}
use Rattle.map_model.specs.Map.{Map, key_of, reply_of, after}
use Rattle.map_model.specs.Weave.{weave}
use Rattle.map_model.specs.Legal.{replay, IsLegal}
use Rattle.sound_image.specs.Records.{HasAt}
use Rattle.sound_image.specs.Image.{SaysShape, IsSoundImage}
use Rattle.session.specs.Left.{AgreesAt, IsLeft}
use Rattle.bucket_words.specs.Core.{core_of}
use Rattle.bucket_words.specs.Hits.{find}
use Rattle.world.specs.Ground.{Ground}
use Rattle.world.specs.Views.{View, Has, At, IsLoose}
use Rattle.world.specs.History.{reply_by}
use Rattle.world.specs.Media.{IsPossible}
use Rattle.world.specs.StepLaws.{IsGoodMedium}
use Rattle.world.specs.Attempts.{OwesNothing}
use Rattle.world.proofs.Legality.{after_has}
use Rattle.restart_op.proofs.images.Rules.{unmarked_rules}
use Rattle.restart_op.proofs.images.Pairs.{has_of_found}
use Rattle.vlock.specs.declared.knows.Watch.{Watch}
use Rattle.vlock.specs.Ruling.{word}
use Rattle.vlock.specs.Seats.{both}
use Rattle.vlock.specs.Ends.{IsPowerCut}
use Rattle.shared_image.specs.Closed.{with_all, replies_of}
use Rattle.shared_image.specs.Cutting.{views_of, planned_in, MayBeLeft, LeavesGoodMedia, WasCut}

-- ---- lists joined
contained : (calls : List Call) (call : Call) → Has call calls → Contains calls call
contained [] call h = absurd h
contained (c ∷ calls) call h = elim h [
  | inl e ↦ (0, (omega arith), sym e)
  | inr q ↦ Contains-append_right (c ∷ []) calls call (contained calls call q)
]

-- ---- what the keeper has that took passes in
loose_joined : (p q : Watch) (x : ℕ × ℕ) → IsLoose p.view x ⊎ IsLoose q.view x → IsLoose (both p q).view x
loose_joined p q x l = elim l [
  | inl mine ↦ elim mine [ inl d ↦ inl (has_append_left x p.view.dirty q.view.dirty d) | inr f ↦ inr (has_append_left x p.view.flushed q.view.flushed f) ]
  | inr its ↦ elim its [ inl d ↦ inl (has_append_right x p.view.dirty q.view.dirty d) | inr f ↦ inr (has_append_right x p.view.flushed q.view.flushed f) ]
]

loose_stays : (p : Watch) (passes : List (Seat ℕ Watch)) (x : ℕ × ℕ) → IsLoose p.view x → IsLoose (with_all p passes).view x
loose_stays p [] x l = l
loose_stays p (pass ∷ passes) x l = loose_stays (both p pass.me.0) passes x (loose_joined p pass.me.0 x (inl l))

-- what a pass has loose it has
loose_with : (p : Watch) (passes : List (Seat ℕ Watch)) (j : ℕ) (u : View) (x : ℕ × ℕ) → At (views_of passes) j u → IsLoose u x → IsLoose (with_all p passes).view x
loose_with p [] j u x at l = absurd (some-ne-none u (sym at))
loose_with p (pass ∷ passes) zero u x at l = loose_stays (both p pass.me.0) passes x (loose_joined p pass.me.0 x (inr (subst (λ (v : View). IsLoose v x) (sym (some-injective pass.me.0.view u at)) l)))
loose_with p (pass ∷ passes) (suc j) u x at l = loose_with (both p pass.me.0) passes j u x at l

-- and it has planned what they have
planned_with : (p : Watch) (passes : List (Seat ℕ Watch)) → (with_all p passes).view.planned ≡ p.view.planned ++ planned_in passes
planned_with p [] = sym (append-nil p.view.planned)
planned_with p (pass ∷ passes) = planned_with (both p pass.me.0) passes ∙ append_assoc p.view.planned pass.me.0.view.planned (planned_in passes)

-- ---- a cut
module _ (site : Ground) (before newest : List ℕ) (p : Watch) (passes : List (Seat ℕ Watch)) (is_shape : IsShape site.shape)
    (cut : IsPowerCut site (word before) ((with_all p passes).view ∷ (with_all p passes).past)) (nothing : OwesNothing p.view) (own : map (λ v. v.own) ((with_all p passes).view ∷ (with_all p passes).past) ≡ replies_of passes)
    (says : SaysShape site.shape site.front) (unmarked : marker_in (site.front state_word) ≡ 0)
    (given : newest ≡ take (words_of site.shape) before) (long : words_of site.shape ≤ length before) (fits : (i : ℕ) → slice_index newest i < 2 ^ 64) where
  abbrev keeper : View
  keeper = (with_all p passes).view

  abbrev all : List View
  all = keeper ∷ (with_all p passes).past

  same_word : (i : ℕ) → i < words_of site.shape → slice_index newest i ≡ word before i
  same_word i within = ap (λ (ws : List ℕ). slice_index ws i) given ∙ get_or-take (words_of site.shape) before i 0 within

  module _ (medium : List ℕ) (may : MayBeLeft site passes newest medium) where
    abbrev left : Words
    left = slice_index medium

    by_keeper : IsPossible site (word before) all left
    by_keeper i within = elim (may.possible i within) [
      | inl same ↦ inl (same ∙ ap (λ (x : ℕ). core_of site.shape i x) (same_word i within))
      | inr l ↦ inr (0, keeper, l.2, refl, loose_with p passes l.0 l.1 (i, l.2) l.3 l.4, l.5)
    ]

    good : IsGoodMedium site all cut.log left
    good = cut.media left by_keeper

    front_is : (i : ℕ) → i < 4 → left i ≡ site.front i
    front_is i low = good.structure.fixed i (omega (arith, low)) (λ e. omega (arith, low, e))

    sound : IsSoundImage site.shape medium
    sound = record {
      in_range = is_shape;
      whole = may.whole;
      each_fits = may.each_fits;
      says_shape = record {
        magic_word = front_is 0 (omega arith) ∙ says.magic_word;
        format = front_is 1 (omega arith) ∙ says.format;
        segments = front_is 2 (omega arith) ∙ says.segments;
        depth = front_is 3 (omega arith) ∙ says.depth;
      };
      follows = unmarked_rules site.shape left is_shape good.structure.sound good.table may.each_fits (ap marker_in (good.structure.fixed state_word (omega arith) (λ e. omega (arith, e))) ∙ unmarked);
    }

    has_at : (k : ℕ) (a : Option ℕ) → find site.shape left k ≡ a → HasAt site.shape left k a
    has_at k a is = has_of_found site.shape is_shape left good.structure.sound may.each_fits good.table k a is

    -- who has a change planned is the keeper, for one of the passes
    among_passes : (j : ℕ) (u : View) (call : Call) → At all j u → Has call u.planned → Contains (planned_in passes) call
    among_passes zero u call at has =
        contained (planned_in passes) call (subst (λ (calls : List Call). Has call calls)
        (sym (ap (λ (v : View). v.planned) (some-injective keeper u at)) ∙ (planned_with p passes ∙ ap (λ (calls : List Call). calls ++ planned_in passes) nothing.planned)) has)
    among_passes (suc j) u call at has = absurd (subst (λ (calls : List Call). Has call calls) (cut.taken_in j u at).planned has)

    module _ (start : Map) (same : (k : ℕ) → get start k ≡ site.start k) where
      abbrev now : Map
      now = replay start (weave (map (λ v. v.own) all))

      done : (j : ℕ) (u : View) (call : Call) → At all j u → Has call u.planned → Done ≡ reply_by (get now (key_of call)) call
      done j u call at has = cut.planned j u call at has ∙ ap (λ (a : Option ℕ). reply_by a call) (sym (cut.replay_is start same (key_of call)))

      is_left : IsLeft site.shape left now (planned_in passes)
      is_left k = elim (good.stands k) [
        | inl is ↦ inl (has_at k (get now k) (is ∙ sym (cut.replay_is start same k)))
        | inr q ↦ (let call = q.2 in let key = q.5 in
            inr (
              call,
              among_passes q.0 q.1 call q.3 q.4,
              key,
              subst (λ (n : ℕ). AgreesAt site.shape left (after now call (reply_of now call)) n) key
                  (has_at (key_of call) (get (after now call (reply_of now call)) (key_of call))
                  (ap (λ (n : ℕ). find site.shape left n) key ∙ sym q.6 ∙ sym (after_has now call (done q.0 q.1 call q.3 q.4)))),
            ))
      ]

  newest_left : MayBeLeft site passes newest newest
  newest_left = record {
    whole = ap length given ∙ length-take-le (words_of site.shape) before long;
    each_fits = fits;
    possible = λ i within. inl refl;
  }

  pub leaves_good : LeavesGoodMedia site passes newest
  leaves_good = record {
    legal = λ start same. subst (λ (replies : List (List Entry)). IsLegal start replies) own (cut.legal start same);
    sound = sound;
    left = λ medium may start same. subst (λ (replies : List (List Entry)). IsLeft site.shape (slice_index medium) (replay start (weave replies)) (planned_in passes)) own (is_left medium may start same);
    front = λ medium may. (good medium may).structure.fixed;
    newest_may = newest_left;
  }

  pub was_cut : WasCut site (replies_of passes) newest
  was_cut = record { words = word before; views = all; cut = cut; told = own; same = same_word }

-- A CUT LEAVES GOOD MEDIA, by other names of the shape and of what the keeper knows
pub cut_leaves : (site : Ground) (shape : Shape) (before newest : List ℕ) (p q : Watch) (passes : List (Seat ℕ Watch)) → shape ≡ site.shape → IsShape site.shape → q ≡ with_all p passes
    → IsPowerCut site (word before) (q.view ∷ q.past) → OwesNothing p.view → map (λ v. v.own) (q.view ∷ q.past) ≡ replies_of passes → SaysShape site.shape site.front
    → marker_in (site.front state_word) ≡ 0 → newest ≡ take (words_of shape) before → words_of site.shape ≤ length before → ((i : ℕ) → slice_index newest i < 2 ^ 64)
    → LeavesGoodMedia site passes newest × WasCut site (replies_of passes) newest
cut_leaves site shape before newest p q passes same is_shape is cut nothing own says unmarked given long fits =
    let by_all : IsPowerCut site (word before) ((with_all p passes).view ∷ (with_all p passes).past) = subst (λ (w : Watch). IsPowerCut site (word before) (w.view ∷ w.past)) is cut in
    let told : map (λ v. v.own) ((with_all p passes).view ∷ (with_all p passes).past) ≡ replies_of passes =
    subst (λ (w : Watch). map (λ v. v.own) (w.view ∷ w.past) ≡ replies_of passes) is own in
    let taken : newest ≡ take (words_of site.shape) before = given ∙ ap (λ (g : Shape). take (words_of g) before) same in (
      leaves_good site before newest p passes is_shape by_all nothing told says unmarked taken long fits,
      was_cut site before newest p passes is_shape by_all nothing told says unmarked taken long fits,
    )
