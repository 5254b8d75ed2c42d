-- What an event does to the replies of a caller, against what the caller was told.
use Rattle.std.proofs.Common.{◌≡◌, ℕ, suc, ◌≤◌, Bool, true, false, cond, eqb, List, [], ◌∷◌, ◌++◌, length, Option, None, Some, inl, inr, ◌⊎◌, refl, sym, ap, ◌∙◌, subst, arith, length-append}
use Rattle.op_core.specs.declared.want.Want.{Want}
use Rattle.op_core.specs.declared.want.Want.TheVariants.{Load, Store, Exchange, Flush, Fence, Draw, Power, Done}
use Rattle.op_core.specs.declared.want.Ans.TheVariants.{Won, Lost}
use Rattle.image_layout.specs.Places.{Shape}
use Rattle.map_model.specs.declared.call.Call.{Call}
use Rattle.map_model.specs.declared.entry.Reply.TheVariants as reply
use Rattle.map_model.specs.declared.entry.Entry.{Entry}
use Rattle.world.specs.Ground.{Ground}
use Rattle.world.specs.Views.{View, Has}
use Rattle.world.specs.Kinds.{Kind, finds_room, refuses, validates, draws_place, wanted as wanted_by, view_after}
use Rattle.world.specs.Conditions.{May}
use Rattle.world.specs.StepKinds.{StepKind, of_call, of_structure, wanted_of, view_by, MayTake}
use Rattle.world.specs.Wants.{answer_to}
use Rattle.world.specs.Entering.{IsMadeBy}
use Rattle.world.specs.areas.Kinds.{StructureKind, takes, wanted_at, view_then}
use Rattle.world.proofs.stepping.Steps.{steps_enter}
use Rattle.world.proofs.mild.Kept.{steps_reply_nothing}
use Rattle.engine.specs.Core.{Caller, drawn_by, entry_of}
use Rattle.engine.specs.Holding.{HasUntold, HasEntries}

-- an event that draws no place
abbrev DrawsNone : Want → Type 0
DrawsNone (Load i) = Unit {0}
DrawsNone (Store i x) = Unit {0}
DrawsNone (Exchange i a b) = Unit {0}
DrawsNone (Flush l) = Unit {0}
DrawsNone Fence = Unit {0}
DrawsNone Draw = ⊥
DrawsNone Power = Unit {0}
DrawsNone Done = Unit {0}

module _ (c : Caller) (call : Call) where
  not_drawn : (w : Want) (n : ℕ) → DrawsNone w → drawn_by c call (answer_to w n) ≡ c.drew
  not_drawn (Load i) n none = refl
  not_drawn (Store i x) n none = refl
  not_drawn (Exchange i a b) n none = by (eqb n a)
    where
      by : (t : Bool) → drawn_by c call (cond t Won (Lost n)) ≡ c.drew
      by true = refl
      by false = refl
  not_drawn (Flush l) n none = refl
  not_drawn Fence n none = refl
  not_drawn Draw n none = absurd none
  not_drawn Power n none = refl
  not_drawn Done n none = refl

-- ---- one entry more at the most
-- where no place is drawn the entry drew none
made_untold : (shape : Shape) (kind : Kind) (n : ℕ) (v : View) (e : Entry) → DrawsNone (wanted_by shape kind) → IsMadeBy kind n v e → e.drew ≡ false
made_untold shape (finds_room call) n v e none made = ap (λ (x : Entry). x.drew) made.1
made_untold shape (refuses call r) n v e none made = ap (λ (x : Entry). x.drew) made
made_untold shape (validates lock) n v e none made = ap (λ (x : Entry). x.drew) made.2
made_untold shape (draws_place call) n v e none made = absurd none
made_untold shape kind n v e none made = absurd made

untold_after : (shape : Shape) (kind : Kind) (n : ℕ) (v : View) → DrawsNone (wanted_by shape kind) → HasUntold v.own (view_after shape kind n v).own
untold_after shape kind n v none = elim (steps_enter shape kind n v) [
  | inl same ↦ inl same
  | inr one ↦ inr (one.0, one.1, made_untold shape kind n v one.0 none one.2)
]

two_longer : (xs ys zs : List Entry) (e d : Entry) → xs ≡ ys ++ e ∷ [] → ys ≡ zs ++ d ∷ [] → length xs ≤ suc (length zs) → ⊥
two_longer xs ys zs e d p q le =
    let l = ap length p ∙ length-append ys (e ∷ []) in
    let m = ap length q ∙ length-append zs (d ∷ []) in omega (arith, l, m, le)

-- it is the first one that is not told yet
grown : (told own more : List Entry) (drew : Option Entry) → HasEntries told drew own → HasUntold own more → length more ≤ suc (length told) → HasEntries told drew more
grown told own more None has grows short = elim grows [
  | inl same ↦ elim has [ inl is ↦ inl (same ∙ is) | inr one ↦ inr (one.0, same ∙ one.1, one.2) ]
  | inr new ↦ elim has [ inl is ↦ inr (new.0, new.1 ∙ ap (λ (es : List Entry). es ++ new.0 ∷ []) is, new.2) | inr one ↦ absurd (two_longer more own told new.0 one.0 new.1 one.1 short) ]
]
grown told own more (Some d) has grows short = elim grows [
  | inl same ↦ same ∙ has
  | inr new ↦ absurd (two_longer more own told new.0 d new.1 has short)
]

draws_or_not : (shape : Shape) (kind : Kind) → ((call : Call) × (kind ≡ draws_place call)) ⊎ DrawsNone (wanted_by shape kind)
draws_or_not shape (draws_place call) = inl (call, refl)
draws_or_not shape kind = inr tt

structure_draws_none : (shape : Shape) (kind : StructureKind) → DrawsNone (wanted_at shape kind)
structure_draws_none shape (takes guard caller) = tt
structure_draws_none shape kind = tt

module _ (site : Ground) (c : Caller) (call : Call) (v : View) (n : ℕ) (has : HasEntries c.entries c.drew v.own)
    (only : (planned : Call) → Has planned v.planned → (planned ≡ call) × (v.own ≡ c.entries)) where
  drawing : (kind : Kind) (planned : Call) → kind ≡ draws_place planned → May site kind v
      → HasEntries c.entries (drawn_by c call (answer_to (wanted_by site.shape kind) n)) (view_after site.shape kind n v).own
  drawing kind planned is may = subst (λ (k : Kind). HasEntries c.entries (drawn_by c call (answer_to (wanted_by site.shape k) n)) (view_after site.shape k n v).own) (sym is)
      (let may_draw = subst (λ (k : Kind). May site k v) is may in
      let p = only planned may_draw.0 in
      ap (λ (es : List Entry). es ++ record { serial = suc (length es); call = planned; reply = reply.Done; place = n; drew = true } ∷ []) p.1
      ∙ ap (λ (k : Call). c.entries ++ entry_of c k reply.Done n ∷ []) p.0)

  -- THE ENTRIES after an event of a caller's kind
  entries_after : (kind : Kind) → May site kind v → length (view_after site.shape kind n v).own ≤ suc (length c.entries)
      → HasEntries c.entries (drawn_by c call (answer_to (wanted_by site.shape kind) n)) (view_after site.shape kind n v).own
  entries_after kind may short = elim (draws_or_not site.shape kind) [
    | inl draw ↦ drawing kind draw.0 draw.1 may
    | inr none ↦ subst (λ d. HasEntries c.entries d (view_after site.shape kind n v).own) (sym (not_drawn c call (wanted_by site.shape kind) n none))
        (grown c.entries v.own (view_after site.shape kind n v).own c.drew has (untold_after site.shape kind n v none) short)
  ]

  -- after one at the structure they are as before
  entries_stay : (kind : StructureKind) → HasEntries c.entries (drawn_by c call (answer_to (wanted_at site.shape kind) n)) (view_then site.shape kind n v).own
  entries_stay kind = subst (λ d. HasEntries c.entries d (view_then site.shape kind n v).own) (sym (not_drawn c call (wanted_at site.shape kind) n (structure_draws_none site.shape kind)))
      (subst (λ (es : List Entry). HasEntries c.entries c.drew es) (sym (steps_reply_nothing.own site kind (λ i. n) v)) has)

  pub entries_by : (step : StepKind) → MayTake site step v → length (view_by site.shape step n v).own ≤ suc (length c.entries)
      → HasEntries c.entries (drawn_by c call (answer_to (wanted_of site.shape step) n)) (view_by site.shape step n v).own
  entries_by (of_call kind) may short = entries_after kind may.0 short
  entries_by (of_structure kind) may short = entries_stay kind
