-- What callers were told of an image that was restarted, shared and cut is a session.
use Rattle.std.proofs.Common.{◌≡◌, ◌≢◌, ℕ, ◌^◌, ◌<◌, Option, None, Some, cond, Bool, true, false, List, [], ◌∷◌, is_some, inl, inr, refl, sym, ap, ◌∙◌, subst, arith}
use Rattle.std.specs.Prelude.{map, slice_index, Contains, if◌then◌else◌}
use Rattle.std.specs.List.{AllByRecursion, AllZip}
use Rattle.std.specs.FinMap.{get}
use Rattle.atomic_table.specs.declared.shared.Seat.{Seat}
use Rattle.trace.specs.Events.{Words}
use Rattle.image_layout.specs.Places.{Shape}
use Rattle.map_model.specs.declared.call.Call.{Call}
use Rattle.map_model.specs.declared.call.Call.TheVariants.{Get, Insert, Update, Remove}
use Rattle.map_model.specs.declared.entry.Entry.{Entry}
use Rattle.map_model.specs.declared.entry.Reply.TheVariants.{Absent, Done, Exists, Full, Spent}
use Rattle.map_model.specs.Map.{Map, key_of, shown, is_done, reply_of, after}
use Rattle.map_model.specs.Weave.{all_of, draws, weave}
use Rattle.map_model.specs.Legal.{IsLegal, replay}
use Rattle.map_model.specs.ByPlaces.{map_at}
use Rattle.map_model.proofs.Elements.{Has as IsIn, All-from_each, Has-append_left, Has-append_right, Has-append_cases}
use Rattle.sound_image.specs.Segments.{frame_of, state_at}
use Rattle.sound_image.specs.Records.{HasAt}
use Rattle.segment_head.specs.HeadWord.{free}
use Rattle.session.specs.Callers.{history_of, undrawn}
use Rattle.session.specs.Left.{HasPairsOf, IsLeft}
use Rattle.session.specs.Session.{HadNoRoom, HasSpentBucket, IsSession}
use Rattle.session.specs.Transcript.{Told, transcript_of}
use Rattle.engine.specs.Holding.{HasUntold}
use Rattle.engine.proofs.sessions.Cut.{cut_history}
use Rattle.play.specs.Runs.{all_own}
use Rattle.play.proofs.Causing.{had_room, drawn}
use Rattle.play.proofs.CutSession.{same_shape}
use Rattle.shared_image.specs.Closed.{replies_of}
use Rattle.shared_image.specs.Cutting.{planned_in}
use Rattle.shared_image.specs.Watch.{Watch}
use Rattle.world.specs.Ground.{Ground}
use Rattle.world.specs.History.{map_now, reply_by}
use Rattle.world.specs.Parts.{History}
use Rattle.world.specs.Views.{View}
use Rattle.world.proofs.Legality.{after_has, entries_legal}
use Rattle.serve.specs.AtCut.{CallerAtCut, told_of, StoodAtCut, WasSharedAndCut, ServedCutIsSession}
use Rattle.serve.proofs.cutting.AtCut.{all_follow, all_untold, all_planned, all_replies}
use Rattle.serve.proofs.Owners.{whose, among}
use Rattle.serve.proofs.SameWords.{none_free as no_slot_free, spent_bucket}

-- ---- a call on two maps that have the same at its key
either : (b : Bool) (m : Map) → cond b m m ≡ m
either true m = refl
either false m = refl

-- what it leaves its key with, by what that had
abbrev leaves : Option ℕ → Call → Option ℕ
leaves o (Get k) = o
leaves None (Insert k v) = Some v
leaves (Some x) (Insert k v) = Some x
leaves None (Update k v) = None
leaves (Some x) (Update k v) = Some v
leaves o (Remove k) = None

after_leaves : (m : Map) (call : Call) → get (after m call (reply_of m call)) (key_of call) ≡ leaves (get m (key_of call)) call
after_leaves m (Get k) = ap (λ (z : Map). get z k) (either (is_done (shown (get m k))) m)
after_leaves m (Insert k v) = by (get m k) refl
  where
    by : (o : Option ℕ) → get m k ≡ o → get (after m (Insert k v) (reply_of m (Insert k v))) k ≡ leaves o (Insert k v)
    by None is = after_has m (Insert k v) (ap (λ (a : Option ℕ). reply_by a (Insert k v)) (sym is))
    by (Some x) is = ap (λ (a : Option ℕ). get (after m (Insert k v) (if is_some a then Exists else Done)) k) is ∙ is
after_leaves m (Update k v) = by (get m k) refl
  where
    by : (o : Option ℕ) → get m k ≡ o → get (after m (Update k v) (reply_of m (Update k v))) k ≡ leaves o (Update k v)
    by None is = ap (λ (a : Option ℕ). get (after m (Update k v) (if is_some a then Done else Absent)) k) is ∙ is
    by (Some x) is = after_has m (Update k v) (ap (λ (a : Option ℕ). reply_by a (Update k v)) (sym is))
after_leaves m (Remove k) = by (get m k) refl
  where
    by : (o : Option ℕ) → get m k ≡ o → get (after m (Remove k) (reply_of m (Remove k))) k ≡ leaves o (Remove k)
    by None is = ap (λ (a : Option ℕ). get (after m (Remove k) (if is_some a then Done else Absent)) k) is ∙ is
    by (Some x) is = after_has m (Remove k) (ap (λ (a : Option ℕ). reply_by a (Remove k)) (sym is))

same_after : (m n : Map) (call : Call) → get m (key_of call) ≡ get n (key_of call) → get (after m call (reply_of m call)) (key_of call) ≡ get (after n call (reply_of n call)) (key_of call)
same_after m n call same = after_leaves m call ∙ (ap (λ o. leaves o call) same ∙ sym (after_leaves n call))

-- what may be left of one map may be left of another that has the same at each key, and of more open calls
left_alike : (shape : Shape) (word : Words) (m n : Map) (calls others : List Call) → ((k : ℕ) → get m k ≡ get n k) → ((call : Call) → Contains calls call → Contains others call)
    → IsLeft shape word m calls → IsLeft shape word n others
left_alike shape word m n calls others same more left k = elim (left k) [
  | inl agrees ↦ inl (subst (λ (o : Option ℕ). HasAt shape word k o) (same k) agrees)
  | inr one ↦ (let call = one.0 in
      inr (
        call,
        more call one.1,
        one.2,
        subst (λ (o : Option ℕ). HasAt shape word k o)
            (subst (λ (q : ℕ). get (after m call (reply_of m call)) q ≡ get (after n call (reply_of n call)) q) one.2 (same_after m n call (same (key_of call))))
            one.3,
      ))
]

-- ---- the views with the entries that were told
abbrev cut_own : List (List Entry) → List View → List View
cut_own [] views = []
cut_own (es ∷ lists) [] = []
cut_own (es ∷ lists) (v ∷ views) = record v { own = es } ∷ cut_own lists views

abbrev AreUntold : List (List Entry) → List View → Type 0
AreUntold lists views = AllZip HasUntold lists (map (λ (v : View). v.own) views)

cuts : (lists : List (List Entry)) (views : List View) → AreUntold lists views → AllZip (λ (v w : View). HasUntold w.own v.own × (w.seen ≡ v.seen)) views (cut_own lists views)
cuts [] [] all = tt
cuts [] (v ∷ views) all = absurd all
cuts (es ∷ lists) [] all = absurd all
cuts (es ∷ lists) (v ∷ views) all = ((all.0, refl), cuts lists views all.1)

own_of_cut : (lists : List (List Entry)) (views : List View) → AreUntold lists views → map (λ (v : View). v.own) (cut_own lists views) ≡ lists
own_of_cut [] [] all = refl
own_of_cut [] (v ∷ views) all = absurd all
own_of_cut (es ∷ lists) [] all = absurd all
own_of_cut (es ∷ lists) (v ∷ views) all = ap (λ (ls : List (List Entry)). es ∷ ls) (own_of_cut lists views all.1)

-- what was told is among what the views have
told_in_own : (told own : List Entry) (e : Entry) → HasUntold told own → IsIn told e → IsIn own e
told_in_own told own e untold there = elim untold [
  | inl same ↦ subst (λ (es : List Entry). IsIn es e) (sym same) there
  | inr one ↦ subst (λ (es : List Entry). IsIn es e) (sym one.1) (Has-append_left told (one.0 ∷ []) e there)
]

told_in_all : (lists owns : List (List Entry)) (e : Entry) → AllZip HasUntold lists owns → IsIn (all_of lists) e → IsIn (all_of owns) e
told_in_all [] owns e all there = absurd there
told_in_all (es ∷ lists) [] e all there = absurd all
told_in_all (es ∷ lists) (own ∷ owns) e all there = elim (Has-append_cases es (all_of lists) e there) [
  | inl its ↦ Has-append_left own (all_of owns) e (told_in_own es own e all.0 its)
  | inr others ↦ Has-append_right own (all_of owns) e (told_in_all lists owns e all.1 others)
]

module _ (site : Ground) (first last : List ℕ) (callers : List CallerAtCut) (w : WasSharedAndCut site first (map (λ c. c.pass) callers) last) (all : AllByRecursion StoodAtCut callers)
    (opening : Map) (has : HasPairsOf site.shape (slice_index first) opening) where
  abbrev shape : Shape
  shape = site.shape

  abbrev passes : List (Seat ℕ Watch)
  passes = map (λ c. c.pass) callers

  abbrev scripts : List (List Call)
  scripts = map (λ c. c.script) callers

  abbrev tolds : List Told
  tolds = map told_of callers

  abbrev hists : List (List Entry)
  hists = map history_of tolds

  abbrev words : Words
  words = w.cut.words

  abbrev views : List View
  views = w.cut.views

  starts : (k : ℕ) → get opening k ≡ site.start k
  starts k = w.power_on.started opening has k

  untold : AreUntold ([] ∷ hists) views
  untold = subst (λ (os : List (List Entry)). AllZip HasUntold ([] ∷ hists) os) (sym (w.cut.told ∙ ap (λ (ls : List (List Entry)). [] ∷ ls) (all_replies callers all)))
      (inl refl, all_untold callers all)

  abbrev others : List View
  others = cut_own ([] ∷ hists) views

  all_told : map (λ (v : View). v.own) others ≡ [] ∷ hists
  all_told = own_of_cut ([] ∷ hists) views untold

  history : History site words others w.cut.cut.log
  history = cut_history site words views others w.cut.cut.log (cuts ([] ∷ hists) views untold) w.cut.cut.history

  abbrev Legal : List (List Entry) → Type 0
  Legal lists = IsLegal opening lists × ((k : ℕ) → get (replay opening (weave lists)) k ≡ map_now site.start w.cut.cut.log k)

  legal_told : Legal ([] ∷ hists)
  legal_told = subst Legal all_told (entries_legal site words others w.cut.cut.log history opening starts)

  legal : IsLegal opening hists
  legal = let l = legal_told.0 in record { callers = l.callers.1; places = l.places; each_once = l.each_once; replies = l.replies }

  -- the map of what the passes have, and of what was told
  same_map : (k : ℕ) → get (replay opening (weave (replies_of passes))) k ≡ get (replay opening (weave hists)) k
  same_map k = subst (λ (ls : List (List Entry)). get (replay opening (weave ls)) k ≡ map_now site.start w.cut.cut.log k) w.cut.told (w.cut.cut.replay_is opening starts k)
      ∙ sym (legal_told.1 k)

  left : IsLeft shape (slice_index last) (replay opening (weave hists)) (undrawn scripts tolds)
  left = left_alike shape (slice_index last) (replay opening (weave (replies_of passes))) (replay opening (weave hists)) (planned_in passes) (undrawn scripts tolds) same_map
      (all_planned callers all) (w.media.left last w.media.newest_may opening starts)

  had_room_all : AllByRecursion (λ e. HadNoRoom shape (map_at opening (all_of hists) e.place) e) (all_of hists)
  had_room_all = subst (λ (ls : List (List Entry)). AllByRecursion (λ e. HadNoRoom shape (map_at opening (all_of ls) e.place) e) (all_of ls)) all_told
      (All-from_each _ (all_own others) (λ e is_in. let o = whose others e is_in in had_room site words others w.cut.cut.log history opening starts o.0 o.1 e o.2 o.3))

  -- who has an entry that was told
  owner : (e : Entry) → Contains (all_of hists) e → IsIn (all_own views) e
  owner e there = told_in_all ([] ∷ hists) (map (λ (v : View). v.own) views) e untold (among (all_of hists) e there)

  none_free : (e : Entry) → Contains (all_of hists) e → e.reply ≡ Full → (s : ℕ) → s < shape.segments
      → state_at (frame_of shape (slice_index first)) s ≡ free → state_at (frame_of shape (slice_index last)) s ≢ free
  none_free e there is = let o = whose views e (owner e there) in
      no_slot_free site first last w.power_on words (λ i within other. w.cut.same i within) (w.cut.cut.causes.full o.0 o.1 e o.2 o.3 is)

  spent : (e : Entry) → Contains (all_of hists) e → e.reply ≡ Spent → draws (all_of hists) < 2 ^ 63 → HasSpentBucket shape last
  spent e there is few =
      let o = whose views e (owner e there) in
      elim (w.cut.cut.causes.spent o.0 o.1 e o.2 o.3 is) [
        | inl many ↦ absurd (let d = ap (λ ls. draws (all_of ls)) (sym all_told) ∙ drawn site words others w.cut.cut.log history in omega (arith, many, few, d))
        | inr lock ↦ spent_bucket site first last w.power_on words (λ i within other. w.cut.same i within) lock
      ]

  session : IsSession shape first last scripts (record { closed = false; scheduled = false }) (transcript_of tolds)
  session = let sound = w.media.sound last w.media.newest_may in record {
    tolds = tolds;
    printed = refl;
    scripted = all_follow callers all;
    opening = opening;
    opening_pairs = has;
    legal = legal;
    sound = sound;
    same_shape = same_shape shape first last w.power_on.image.says_shape sound.says_shape;
    after_close = λ closed. absurd (let z = closed in cc);
    after_cut = λ _. left;
    had_no_room = had_room_all;
    none_free = none_free;
    spent = λ e there is few _. spent e there is few;
  }

pub served_cut_is_session : ServedCutIsSession
served_cut_is_session site first last callers w all opening has = session site first last callers w all opening has
