-- What callers were told of an image that was restarted, shared and closed is a session.
use Rattle.std.proofs.Common.{◌≡◌, ◌≢◌, ℕ, ◌^◌, ◌<◌, List, inl, inr, refl, sym, ap, ◌∙◌, subst, arith}
use Rattle.std.specs.Prelude.{map, slice_index, Contains}
use Rattle.std.specs.List.{AllByRecursion, AllZip}
use Rattle.std.specs.FinMap.{get}
use Rattle.trace.specs.Events.{Words}
use Rattle.segment_head.specs.HeadWord.{free}
use Rattle.image_layout.specs.Places.{Shape}
use Rattle.map_model.specs.declared.call.Call.{Call}
use Rattle.map_model.specs.declared.entry.Entry.{Entry}
use Rattle.map_model.specs.declared.entry.Reply.TheVariants.{Full, Spent}
use Rattle.map_model.specs.Map.{Map}
use Rattle.map_model.specs.Weave.{all_of, draws, weave}
use Rattle.map_model.specs.Legal.{IsLegal, replay}
use Rattle.map_model.specs.ByPlaces.{map_at}
use Rattle.map_model.proofs.Elements.{All-from_each}
use Rattle.sound_image.specs.Segments.{frame_of, state_at}
use Rattle.session.specs.Left.{HasPairsOf}
use Rattle.session.specs.Session.{IsClosed, HadNoRoom, HasSpentBucket}
use Rattle.world.specs.Ground.{Ground}
use Rattle.world.specs.Views.{View}
use Rattle.play.specs.Runs.{all_own}
use Rattle.play.proofs.Causing.{had_room, drawn}
use Rattle.play.proofs.CutSession.{same_shape}
use Rattle.serve.specs.Served.{AreMade, told_by, IsServedSession, WasShared, ServedIsSession}
use Rattle.serve.proofs.Told.{histories, all_follow, all_answered}
use Rattle.serve.proofs.Owners.{whose, among}
use Rattle.serve.proofs.SameWords.{none_free as no_slot_free, spent_bucket}

module _ (site : Ground) (first last : List ℕ) (scripts : List (List Call)) (lists : List (List Entry)) (w : WasShared site first lists last) (made : AllZip AreMade scripts lists)
    (opening : Map) (has : HasPairsOf site.shape (slice_index first) opening) where
  abbrev shape : Shape
  shape = site.shape

  starts : (k : ℕ) → get opening k ≡ site.start k
  starts k = w.power_on.started opening has k

  abbrev words : Words
  words = w.ended.words

  abbrev views : List View
  views = w.ended.views

  -- the entries of all views are those of all callers
  all_told : all_own views ≡ all_of lists
  all_told = ap all_of w.ended.told

  legal : IsLegal opening lists
  legal = let l = (w.replied opening starts).0 in record { callers = l.callers.1; places = l.places; each_once = l.each_once; replies = l.replies }

  had_all : AllByRecursion (λ e. HadNoRoom shape (map_at opening (all_own views) e.place) e) (all_own views)
  had_all = All-from_each _ (all_own views) (λ e is_in. let o = whose views e is_in in had_room site words views w.ended.ended.log w.ended.ended.history opening starts o.0 o.1 e o.2 o.3)

  none_free : (e : Entry) → Contains (all_of lists) e → e.reply ≡ Full → (s : ℕ) → s < shape.segments
      → state_at (frame_of shape (slice_index first)) s ≡ free → state_at (frame_of shape (slice_index last)) s ≢ free
  none_free e there is s slot was now =
      let o = whose views e (among (all_own views) e (subst (λ (es : List Entry). Contains es e) (sym all_told) there)) in
      no_slot_free site first last w.power_on words w.ended.same (w.ended.ended.causes.full o.0 o.1 e o.2 o.3 is) s slot was now

  spent : (e : Entry) → Contains (all_of lists) e → e.reply ≡ Spent → draws (all_of lists) < 2 ^ 63 → HasSpentBucket shape last
  spent e there is few =
      let o = whose views e (among (all_own views) e (subst (λ (es : List Entry). Contains es e) (sym all_told) there)) in
      elim (w.ended.ended.causes.spent o.0 o.1 e o.2 o.3 is) [
        | inl many ↦ absurd (let d = sym (ap draws all_told) ∙ drawn site words views w.ended.ended.log w.ended.ended.history in omega (arith, many, few, d))
        | inr lock ↦ spent_bucket site first last w.power_on words w.ended.same lock
      ]

  abbrev Hists : List (List Entry) → Type 0
  Hists ls = IsLegal opening ls × IsClosed shape last scripts (map told_by lists) (replay opening (weave ls))
      × AllByRecursion (λ e. HadNoRoom shape (map_at opening (all_of ls) e.place) e) (all_of ls)
      × ((e : Entry) → Contains (all_of ls) e → e.reply ≡ Full → (s : ℕ) → s < shape.segments → state_at (frame_of shape (slice_index first)) s ≡ free → state_at (frame_of shape (slice_index last)) s ≢ free)
      × ((e : Entry) → Contains (all_of ls) e → e.reply ≡ Spent → draws (all_of ls) < 2 ^ 63 → HasSpentBucket shape last)

  all_hists : Hists lists
  all_hists = (
    legal,
    record { answered = all_answered scripts lists made; clean = w.clean; pairs = (w.replied opening starts).1 },
    subst (λ (es : List Entry). AllByRecursion (λ e. HadNoRoom shape (map_at opening es e.place) e) es) all_told had_all,
    none_free,
    spent,
  )

  session : IsServedSession shape first scripts lists last
  session =
      let h = subst Hists (sym (histories lists)) all_hists in (
        record {
          tolds = map told_by lists;
          printed = refl;
          scripted = all_follow scripts lists made;
          opening = opening;
          opening_pairs = has;
          legal = h.0;
          sound = w.sound;
          same_shape = same_shape shape first last w.power_on.image.says_shape w.sound.says_shape;
          after_close = λ _. h.1;
          after_cut = λ cut. absurd (let z = cut in cc);
          had_no_room = h.2;
          none_free = h.3;
          spent = λ e there is few _. h.4 e there is few;
        },
        made,
      )

pub served_is_session : ServedIsSession
served_is_session site first last scripts lists w made opening has = session site first last scripts lists w made opening has
