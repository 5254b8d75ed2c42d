-- The law of a kind of step is what a step on the table owes.
use Rattle.std.proofs.Common.{◌≡◌, ◌⊎◌, inl, inr, ℕ, ◌+◌, ◌%◌, ◌^◌, ◌<◌, List, [], ◌∷◌, get_or, set, cond, Bool, true, false, refl, sym, ap, ◌∙◌, subst, arith, length-set}
use Rattle.std.specs.Prelude.{◌==◌}
use prog.Atomic.{either}
use Rattle.atomic_table.specs.Table.{Me, keeps, Allows}
use Rattle.trace.specs.Events.{Words, with_word}
use Rattle.image_layout.specs.Places.{Shape}
use Rattle.image_layout.specs.Volatile.{all_words_of, power_word}
use Rattle.op_core.specs.declared.want.Want.{Want}
use Rattle.op_core.specs.declared.want.Want.TheVariants.{Load, Store, Exchange, Flush, Fence, Draw, Power}
use Rattle.world.specs.Ground.{Ground}
use Rattle.world.specs.Views.{View, Has, At}
use Rattle.world.specs.Wants.{word_of, left_by, words_after}
use Rattle.world.specs.areas.Areas.{Area, Stale, Side}
use Rattle.world.specs.areas.Kinds.{StructureKind, Guard, takes, takes_for_side, finds_stale, finds_free, finds_side, is_new_side, with_guard, with_guard_for, with_area, with_slot, view_then}
use Rattle.world.specs.StepKinds.{StepKind, of_call, of_structure, view_by}
use Rattle.world.specs.StepLaws.{found_of, words_of_step}
use Rattle.world.specs.Invariant.{Holds}
use Rattle.world.proofs.basics.Lists.{at_set}
use Rattle.world.proofs.calls.standing.Every.{every_step}
use Rattle.world.proofs.device.Worlds.{one_word}
use Rattle.world.proofs.stepping.Steps.{callers_stay}
use Rattle.vlock.specs.declared.knows.Watch.{Watch}
use Rattle.vlock.specs.declared.table.Opening.{Opening}
use Rattle.vlock.specs.Ruling.{word, ground_of, all_views, Kept}
use Rattle.vlock.specs.Refused.{HasNoFreeSlot}
use Rattle.vlock.specs.Plays.{Met, MayDo, watched, Acted}
use Rattle.vlock.proofs.Lists.{place, at_place, set_place, stored_word}
use Rattle.vlock.proofs.Powered.{off_after, off_still}
use Rattle.vlock.proofs.Refusing.{refused, stays_refused}

-- ---- no step changes for how many callers a view stands
by_guard : (t : Bool) (guard : Guard) (v : View) → (with_guard t guard v).callers ≡ v.callers
by_guard true guard v = refl
by_guard false guard v = refl

by_guard_for : (shape : Shape) (t : Bool) (n : ℕ) (v : View) → (with_guard_for shape t n v).callers ≡ v.callers
by_guard_for shape true n v = refl
by_guard_for shape false n v = refl

by_area : (t : Bool) (area : Area) (i x : ℕ) (v : View) → (with_area t area i x v).callers ≡ v.callers
by_area true area i x v = refl
by_area false area i x v = refl

by_slot : (t : Bool) (n i x : ℕ) (v : View) → (with_slot t n i x v).callers ≡ v.callers
by_slot true n i x v = refl
by_slot false n i x v = refl

same_callers_then : (shape : Shape) (kind : StructureKind) (n : ℕ) (v : View) → (view_then shape kind n v).callers ≡ v.callers
same_callers_then shape (takes guard caller) n v = by_guard (n == 0) guard v
same_callers_then shape (takes_for_side m caller) n v = by_guard_for shape (n == 0) m v
same_callers_then shape (finds_stale s version) n v = by_area _ (Stale s) _ n v
same_callers_then shape (finds_free m) n v = by_slot _ m _ n v
same_callers_then shape (finds_side p m depth pattern) n v = by_area (is_new_side depth pattern n) (Side m) _ n v
same_callers_then shape kind n v = refl

same_callers : (shape : Shape) (kind : StepKind) (n : ℕ) (v : View) → (view_by shape kind n v).callers ≡ v.callers
same_callers shape (of_call kind) n v = callers_stay shape kind n v
same_callers shape (of_structure kind) n v = same_callers_then shape kind n v

-- ---- where the step changes the word as the event does, and the seat may do it
acts : (site : Ground) (want : Want) (kind : ℕ → StepKind) (slots id : ℕ) (m : Me ℕ Watch) (f : ℕ → ℕ) → word_of site.shape want < all_words_of site.shape
    → m.1 ≡ [] → MayDo site want kind m.0.view → ((n : ℕ) → f n ≡ left_by site.shape want n)
    → Allows (Kept site) slots id m (word_of site.shape want) f (Acted site want kind m)
acts site want kind slots id m f inside none may same s h _ at low =
    let i = word_of site.shape want in
    let x = get_or s.words i 0 in
    let j = place s.views id in
    let there : At (all_views s.views) j m.0.view = at_place s.views id m.0 at in
    let met : Met site want m.0.view x = (record { words = word s.words; views = all_views s.views; seat = j; holds = h.holds; there = there }, low, refl) in
    let w = watched site.shape want (kind x) x m.0 in
    let law : Holds site (words_after site.shape want j (word s.words)) (set (all_views s.views) j w.view) =
    subst (λ (u : Want). Holds site (words_after site.shape u j (word s.words)) (set (all_views s.views) j (view_by site.shape (kind x) (get_or s.words (word_of site.shape u) 0) m.0.view))) (sym (may.1 x met).0)
    (every_step site (kind x) (word s.words) (all_views s.views) j m.0.view h.holds there (may.1 x met).1).0 in
    let bridge : words_after site.shape want j (word s.words) ≡ word (set s.words i (f x)) =
    one_word site.shape want j (word s.words)
    ∙ (ap (λ (y : ℕ). with_word (word s.words) i y) (sym (same x))
    ∙ stored_word s.words i (f x) (let e = h.words in omega (arith, inside, e))) in
    let went : words_of_step site (kind x) j (word s.words) ≡ word (set s.words i (f x)) =
    sym (ap (λ (u : Want). words_after site.shape u j (word s.words)) (may.1 x met).0) ∙ bridge in
    let found_is : x ≡ found_of site (kind x) (word s.words) = ap (λ (u : Want). get_or s.words (word_of site.shape u) 0) (may.1 x met).0 in (
      w,
      keeps,
      tt,
      record {
        words = length-set s.words i (f x) ∙ h.words;
        holds = subst (λ (ws : Words). Holds site ws (all_views (set s.views id w))) bridge
            (subst (λ (vs : List View). Holds site (words_after site.shape want j (word s.words)) vs) (set_place s.views id m.0 w at refl) law);
        past = λ i p u a q. elim (at_set s.views id i w p a) [
          | inl e ↦ h.past id m.0 u at (subst (λ (z : Watch). Has u z.past) (sym e.1) q)
          | inr e ↦ h.past i p u e.1 q
        ];
        idle = λ i p a zero_left. elim (at_set s.views id i w p a) [
          | inl e ↦ absurd (let n = may.0 in let k = same_callers site.shape (kind x) x m.0.view in let t = ap (λ (z : Watch). z.view.callers) e.1 in omega (arith, n, k, t, zero_left))
          | inr e ↦ h.idle i p e.1 zero_left
        ];
        off = λ i p a on. subst (λ (us : Words). us (power_word site.shape) ≡ 1) went (elim (at_set s.views id i w p a) [
          | inl e ↦ off_after site (word s.words) (all_views s.views) j m.0.view h.holds there (kind x) j x found_is (may.1 x met).1 (λ was. h.off id m.0 at was)
              (subst (λ (z : Watch). z.view.stored_power ≡ true) (sym e.1) on)
          | inr e ↦ off_still site (word s.words) (all_views s.views) j m.0.view h.holds there (kind x) j (may.1 x met).1 (h.off i p e.1 on)
        ]);
        full = λ i p u e a among has no_slot. subst (λ (us : Words). HasNoFreeSlot site us) went
            (stays_refused site (word s.words) (all_views s.views) j m.0.view h.holds there (kind x) j (may.1 x met).1 (elim (at_set s.views id i w p a) [
              | inl q ↦ elim (subst (λ (z : Watch). Has u (z.view ∷ z.past)) (sym q.1) among) [
                | inl is ↦ elim (refused site (word s.words) (all_views s.views) j m.0.view h.holds there (kind x) x found_is (may.1 x met).1 e (subst (λ (z : View). Has e z.own) is has) no_slot) [
                  | inl old ↦ h.full id m.0 m.0.view e at (inl refl) old no_slot
                  | inr all ↦ all
                ]
                | inr past ↦ h.full id m.0 u e at (inr past) has no_slot
              ]
              | inr q ↦ h.full i p u e q.1 among has no_slot
            ]));
      },
      (refl, met),
    )

either_cond : (c : Bool) (n b : ℕ) → either c b n ≡ cond c b n
either_cond true n b = refl
either_cond false n b = refl

-- a load, a flush, a fence and a look at the power leave the word as it is
abbrev pub IsOfLoad : Want → Type 0
IsOfLoad want = ((i : ℕ) × (want ≡ Load i)) ⊎ (((l : ℕ) × (want ≡ Flush l)) ⊎ ((want ≡ Fence) ⊎ (want ≡ Power)))

left_as_is : (shape : Shape) (want : Want) → IsOfLoad want → (n : ℕ) → n ≡ left_by shape want n
left_as_is shape want (inl (i, is)) n = ap (λ (w : Want). left_by shape w n) (sym is)
left_as_is shape want (inr (inl (l, is))) n = ap (λ (w : Want). left_by shape w n) (sym is)
left_as_is shape want (inr (inr (inl is))) n = ap (λ (w : Want). left_by shape w n) (sym is)
left_as_is shape want (inr (inr (inr is))) n = ap (λ (w : Want). left_by shape w n) (sym is)

-- ---- what each call of the table owes: `key` is the table's, `site` and `want` are named by who calls, and `given` is the event
module _ (key : Opening) (site : Ground) (want given : Want) (kind : ℕ → StepKind) (slots id words : ℕ) (m : Me ℕ Watch) (same : ground_of key ≡ site) (is : given ≡ want)
    (whole : words ≡ all_words_of key.geometry) (inside : word_of key.geometry given < all_words_of key.geometry) (none : m.1 ≡ []) (may : MayDo site want kind m.0.view) where
  -- the word lies in the table, and the step is allowed
  abbrev IsOwed : ℕ → (ℕ → ℕ) → Type 0
  IsOwed i f = (i < words) × Allows (Kept (ground_of key)) slots id m i f (Acted site want kind m)

  named : (u : Want) (i : ℕ) (f : ℕ → ℕ) → given ≡ u → i ≡ word_of key.geometry given → ((n : ℕ) → f n ≡ left_by key.geometry u n) → IsOwed i f
  named u i f e there does =
      let owed : (z : Ground) → ground_of key ≡ z → MayDo z want kind m.0.view → Allows (Kept (ground_of key)) slots id m i f (Acted z want kind m) = λ z q can.
      subst (λ (y : Ground). Allows (Kept (ground_of key)) slots id m i f (Acted y want kind m)) q
      (subst (λ (n : ℕ). Allows (Kept (ground_of key)) slots id m n f (Acted (ground_of key) want kind m)) (ap (λ (w : Want). word_of key.geometry w) (sym is) ∙ sym there)
      (acts (ground_of key) want kind slots id m f
      (subst (λ (w : Want). word_of key.geometry w < all_words_of key.geometry) is inside) none (subst (λ (y : Ground). MayDo y want kind m.0.view) (sym q) can)
      (λ n. does n ∙ ap (λ (w : Want). left_by key.geometry w n) (sym e ∙ is)))) in
      (omega (arith, there, whole, inside), owed site same may)

  pub for_load : (i : ℕ) → i ≡ word_of key.geometry given → IsOfLoad given → IsOwed i (λ n. n)
  for_load i there of_load = named given i (λ n. n) refl there (left_as_is key.geometry given of_load)

  pub for_store : (i j x : ℕ) → i ≡ word_of key.geometry given → given ≡ Store j x → IsOwed i (λ _. x)
  for_store i j x there e = named (Store j x) i (λ _. x) e there (λ n. refl)

  pub for_exchange : (i j a b : ℕ) → i ≡ word_of key.geometry given → given ≡ Exchange j a b → IsOwed i (λ n. either (n == a) b n)
  for_exchange i j a b there e = named (Exchange j a b) i (λ n. either (n == a) b n) e there (λ n. either_cond (n == a) n b)

  pub for_draw : (i : ℕ) → i ≡ word_of key.geometry given → given ≡ Draw → IsOwed i (λ n. (n + 1) % 2 ^ 64)
  for_draw i there e = named Draw i (λ n. (n + 1) % 2 ^ 64) e there (λ n. refl)
