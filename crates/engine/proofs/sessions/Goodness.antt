-- A core that holds is good.
use Rattle.std.proofs.Common.{◌≡◌, ℕ, zero, suc, ◌^◌, ◌<◌, ◌≤◌, ◌⊎◌, Bool, true, false, List, [], ◌∷◌, ◌++◌, length, map, slice_get, slice_index, Contains, Option, None, Some, inl, inr, refl, sym, ap, ◌∙◌, subst, arith}
use mathlib.Core.Option.{some-injective, some-ne-none}
use Rattle.std.specs.List.{AllZip}
use Rattle.std.specs.FinMap.{get}
use Rattle.std.proofs.lemmas.Bool.{cases_lt}
use Rattle.std.proofs.lemmas.List.{get_or_past}
use Rattle.std.proofs.lemmas.List.Elements.{Contains-append_left, Contains-append_right}
use Rattle.std.proofs.lemmas.Option.{none-some, same_Some}
use Rattle.trace.specs.Events.{Words}
use Rattle.trace.specs.Media.{IsPossible as DevicePossible}
use Rattle.image_layout.specs.Places.{state_word, words_of}
use Rattle.image_layout.specs.StateWord.{marker_in}
use Rattle.map_model.specs.declared.call.Call.{Call}
use Rattle.map_model.specs.declared.entry.Reply.TheVariants as reply
use Rattle.map_model.specs.declared.entry.Entry.{Entry}
use Rattle.map_model.specs.Map.{Map, key_of, reply_of, after}
use Rattle.map_model.specs.Weave.{weave}
use Rattle.map_model.specs.Legal.{replay}
use Rattle.sound_image.specs.Records.{HasAt}
use Rattle.sound_image.specs.Image.{IsSoundImage}
use Rattle.session.specs.Left.{AgreesAt}
use Rattle.session.specs.Callers.{undrawn_call, undrawn}
use Rattle.segment_table.specs.Claims.{HasSoundFrame}
use Rattle.bucket_words.specs.Hits.{find}
use Rattle.bucket_words.specs.Standing.{IsTable}
use Rattle.world.specs.Ground.{Ground, IsStructured}
use Rattle.world.specs.Views.{View, Has, At}
use Rattle.world.specs.History.{result_of, reply_by}
use Rattle.world.specs.Media.{IsPossible}
use Rattle.world.specs.World.{fresh_view}
use Rattle.world.specs.Laws.{EntriesAreLegal}
use Rattle.world.specs.areas.Worlds.{DeviceLeaves}
use Rattle.world.proofs.Legality.{after_has}
use Rattle.restart_op.proofs.images.Rules.{unmarked_rules}
use Rattle.restart_op.proofs.images.Pairs.{has_of_found}
use Rattle.engine.specs.Core.{Caller, Core, current, open_of, told_of, tolds_of, histories}
use Rattle.engine.specs.Good.{IsGood}
use Rattle.engine.specs.Holding.{HasEntries, DoesCall, CallerFits, world_of, CoreHolds, HoldingIsGood}
use Rattle.engine.proofs.sessions.Causing.{full_had, spent_had}
use Rattle.engine.proofs.holding.Planned.{planned_is}
use Rattle.phase.proofs.Handing.{none_has}
use Rattle.part.specs.Part.{IsPart}
use Rattle.engine.specs.OpPart.{op_part}
use Rattle.engine.proofs.Places.{one_more}
use Rattle.engine.proofs.holding.Scripted.{all_follow}
use Rattle.engine.proofs.sessions.Cut.{told_had, told_full, told_spent, told_legal, IsLegalWith}

-- ---- the open calls
-- a caller that has planned a change has its call open, and has not drawn
pub record HasOpen (c : Caller) (call : Call) : Type 0 where
  pub is_current : current c ≡ Some call
  pub open_call : (told_of c).left_open ≡ Some None

not_longer : (xs ys : List Entry) (e : Entry) → xs ≡ ys ++ e ∷ [] → xs ≡ ys → ⊥
not_longer xs ys e p q = let l = ap length (sym q ∙ p) ∙ one_more ys e in omega (arith, l)

none_drawn : (told own : List Entry) (drew : Option Entry) → HasEntries told drew own → own ≡ told → drew ≡ None
none_drawn told own None has same = refl
none_drawn told own (Some e) has same = absurd (not_longer own told e has same)

begun_open : (b : Bool) (drew : Option Entry) → (b ≡ false → ⊥) → drew ≡ None → open_of b drew ≡ Some None
begun_open false drew not_idle none = absurd (not_idle refl)
begun_open true drew not_idle none = ap Some none

opens : IsPart op_part → (site : Ground) (c : Caller) (v : View) (call : Call) → CallerFits site c v → Has call v.planned → HasOpen c call
opens part site c v call fits has = by c.engine fits.does
  where
    by : (engine : _) → DoesCall site c engine v → HasOpen c call
    by None d = absurd (none_has v.planned call d.nothing.planned has)
    by (Some e) d =
        let p = planned_is site c.site d.call d.before v part e call d.suits has in
        record {
          is_current = d.is_current ∙ ap Some (sym p.0);
          open_call = begun_open c.begun c.drew (λ idle. none_has v.planned call (d.planned idle) has) (none_drawn c.entries v.own c.drew d.entries (p.1 ∙ d.own_before));
        }

pub caller_at : (site : Ground) (callers : List Caller) (views : List View) (j : ℕ) (v : View) → AllZip (CallerFits site) callers views → At views j v
    → (c : Caller) × (slice_get callers j ≡ Some c) × CallerFits site c v
caller_at site [] [] j v all at = absurd (some-ne-none v (sym at))
caller_at site [] (w ∷ views) j v all at = absurd all
caller_at site (c ∷ callers) [] j v all at = absurd all
caller_at site (c ∷ callers) (w ∷ views) zero v all at = (c, refl, subst (λ z. CallerFits site c z) (some-injective w v at) all.0)
caller_at site (c ∷ callers) (w ∷ views) (suc j) v all at = caller_at site callers views j v all.1 at

in_front : (call : Call) → Contains (call ∷ []) call
in_front call = (0, (omega arith), refl)

undrawn_has : (callers : List Caller) (j : ℕ) (c : Caller) (call : Call) → slice_get callers j ≡ Some c → HasOpen c call
    → Contains (undrawn (map (λ (c : Caller). c.calls) callers) (map told_of callers)) call
undrawn_has [] j c call is open_here = absurd (none-some c is)
undrawn_has (x ∷ callers) zero c call is open_here =
    let at_x : HasOpen x call = subst (λ (z : Caller). HasOpen z call) (sym (same_Some x c is)) open_here in
    Contains-append_left (undrawn_call (current x) (told_of x).left_open) (undrawn (map (λ (c : Caller). c.calls) callers) (map told_of callers)) call
    (subst (λ o. Contains (undrawn_call o (told_of x).left_open) call) (sym at_x.is_current)
    (subst (λ o. Contains (undrawn_call (Some call) o) call) (sym at_x.open_call) (in_front call)))
undrawn_has (x ∷ callers) (suc j) c call is open_here =
    Contains-append_right (undrawn_call (current x) (told_of x).left_open) (undrawn (map (λ (c : Caller). c.calls) callers) (map told_of callers)) call
    (undrawn_has callers j c call is open_here)

-- ---- the core
module _ (part : IsPart op_part) (legal : EntriesAreLegal) (leaves : DeviceLeaves)
    (site : Ground) (start : Words) (core : Core) (opening : Map) (h : CoreHolds site start core) (same : (k : ℕ) → get opening k ≡ site.start k) where
  abbrev now : Map
  now = replay opening (weave (histories core))

  told : IsLegalWith opening h.well.holds.log site.start (histories core)
  told = told_legal legal site core.words core h.views h.well.holds.log h.each h.well.holds.history opening same

  module _ (medium : List ℕ) (whole : length medium ≡ words_of site.shape) (possible : DevicePossible (words_of site.shape) start core.trace (slice_index medium)) where
    abbrev word : Words
    word = slice_index medium

    by_views : IsPossible site core.words (fresh_view 0 ∷ h.views) word
    by_views = leaves site start (world_of core h.views) word h.well possible

    structure : IsStructured site word
    structure = h.well.holds.structure.sound word by_views

    table : IsTable site.shape word
    table = h.well.holds.media.table word by_views

    frame : HasSoundFrame site.shape word
    frame = structure.sound

    each_fits : (i : ℕ) → word i < 2 ^ 64
    each_fits i = elim (cases_lt i (words_of site.shape)) [
      | inl within ↦ (let may = possible i within in subst (λ x. x < 2 ^ 64) (sym may.is_value) (h.fits i may.t))
      | inr past ↦ subst (λ x. x < 2 ^ 64) (sym (get_or_past medium i 0 (subst (λ n. n ≤ i) (sym whole) past))) (omega arith)
    ]

    front_is : (i : ℕ) → i < 4 → word i ≡ site.front i
    front_is i low = structure.fixed i (omega (arith, low)) (λ e. omega (arith, low, e))

    is_sound : IsSoundImage site.shape medium
    is_sound = record {
      in_range = h.well.holds.site_is.shape;
      whole = whole;
      each_fits = each_fits;
      says_shape = record {
        magic_word = front_is 0 (omega arith) ∙ h.says.magic_word;
        format = front_is 1 (omega arith) ∙ h.says.format;
        segments = front_is 2 (omega arith) ∙ h.says.segments;
        depth = front_is 3 (omega arith) ∙ h.says.depth;
      };
      follows = unmarked_rules site.shape word h.well.holds.site_is.shape frame table each_fits (ap marker_in (structure.fixed state_word (omega arith) (λ e. omega (arith, e))) ∙ h.served.not_clean);
    }

    has_at : (k : ℕ) (a : Option ℕ) → find site.shape word k ≡ a → HasAt site.shape word k a
    has_at k a is = has_of_found site.shape h.well.holds.site_is.shape word frame each_fits table k a is

    abbrev IsLeftAt : ℕ → Type 0
    IsLeftAt k = AgreesAt site.shape word now k ⊎ ((call : Call) × Contains (undrawn (map (λ c. c.calls) core.callers) (tolds_of core)) call × (key_of call ≡ k)
        × AgreesAt site.shape word (after now call (reply_of now call)) k)

    module _ (j : ℕ) (u : View) (call : Call) (at : At (fresh_view 0 ∷ h.views) j u) (has : Has call u.planned) where
      whose : (i : ℕ) → At (fresh_view 0 ∷ h.views) i u → Contains (undrawn (map (λ (c : Caller). c.calls) core.callers) (tolds_of core)) call
      whose zero first = absurd (subst (λ (z : View). Has call z.planned) (sym (some-injective (fresh_view 0) u first)) has)
      whose (suc i) later = let c = caller_at site core.callers h.views i u h.each later in undrawn_has core.callers i c.0 call c.1 (opens part site c.0 u call c.2 has)

      done : reply.Done ≡ reply_by (get now (key_of call)) call
      done = h.well.holds.plans.fits j u call at has ∙ ap (λ a. reply_by a call) (sym (told.1 (key_of call)))

      planned_at : find site.shape word (key_of call) ≡ result_of call → AgreesAt site.shape word (after now call (reply_of now call)) (key_of call)
      planned_at is = has_at (key_of call) (get (after now call (reply_of now call)) (key_of call)) (is ∙ sym (after_has now call done))

    left_at : (k : ℕ) → IsLeftAt k
    left_at k = elim (h.well.holds.media.stands word by_views k) [
      | inl is ↦ inl (has_at k (get now k) (is ∙ sym (told.1 k)))
      | inr p ↦ (let call = p.2 in let key = p.5 in
          inr (
            call,
            whose p.0 p.1 call p.3 p.4 p.0 p.3,
            key,
            subst (λ q. AgreesAt site.shape word (after now call (reply_of now call)) q) key
                (planned_at p.0 p.1 call p.3 p.4 (ap (λ q. find site.shape word q) key ∙ sym p.6)),
          ))
    ]

  is_good : IsGood site.shape start opening core
  is_good = record {
    scripted = all_follow site core.callers h.views h.each;
    legal = told.0;
    media = record { sound = is_sound; left = left_at };
    had_no_room = told_had site core h.views h.each (full_had site core.words (fresh_view 0 ∷ h.views) h.well.holds) opening same;
    full = told_full leaves site start core h.views h.well h.each h.freed h.full;
    spent = told_spent site core h.views h.each (spent_had site core.words (fresh_view 0 ∷ h.views) h.well.holds);
  }

pub holding_is_good : IsPart op_part → EntriesAreLegal → DeviceLeaves → HoldingIsGood
holding_is_good part legal leaves site start core opening h same = is_good part legal leaves site start core opening h same
