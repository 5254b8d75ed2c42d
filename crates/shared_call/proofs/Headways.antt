-- How far events bring a call, and that each keeps the entry of the call as its headway says.
use Rattle.std.proofs.Common.{◌≡◌, ℕ, suc, ◌≤◌, true, false, inl, inr, Option, None, Some, option_map, List, [], ◌∷◌, ◌++◌, length, refl, sym, ap, ◌∙◌, subst, arith, append_assoc, length-append}
use Rattle.std.proofs.lemmas.List.{append_cancel_right}
use Rattle.op_core.specs.declared.want.Want.{Want}
use Rattle.op_core.specs.declared.want.Ans.{Ans}
use Rattle.op_core.specs.declared.want.Ans.TheVariants.{Drawn}
use Rattle.map_model.specs.declared.call.Call.{Call}
use Rattle.map_model.specs.declared.entry.Entry.{Entry}
use Rattle.map_model.specs.declared.entry.Reply.{Reply}
use Rattle.map_model.specs.declared.entry.Reply.TheVariants.{Done}
use Rattle.map_model.specs.Map.{is_done}
use Rattle.world.specs.declared.site.Site.{Site}
use Rattle.world.specs.Ground.{Ground}
use Rattle.world.specs.Views.{View}
use Rattle.world.specs.Wants.{answer_to}
use Rattle.world.specs.Kinds.{next_entry}
use Rattle.world.specs.StepKinds.{StepKind, wanted_of, view_by, MayTake}
use Rattle.world.specs.Attempts.{HasNoMore, EntersReply}
use Rattle.engine.specs.Core.{Caller, drawn_by}
use Rattle.engine.specs.Holding.{HasEntries}
use Rattle.engine.proofs.holding.Told.{entries_by}
use Rattle.vlock.specs.declared.knows.Watch.{Watch}
use Rattle.shared_call.specs.declared.headway.Headway.{Headway}
use Rattle.shared_call.specs.Headway.{headway_with, headway_after, HasHeadway, PlansCall, HasDrawn}

-- ---- the headway
-- what it is by these events it is by any list of them
pub headway_of : (p q : Watch) (before now : Headway) (events : List (Want × ℕ)) → q.took ≡ events ++ p.took → now ≡ headway_after events before → HasHeadway p before q now
headway_of p q before now events took is others others_took =
    is ∙ ap (λ (es : List (Want × ℕ)). headway_after es before) (append_cancel_right events others p.took (sym took ∙ others_took))

-- of none
pub headway_of_none : (p : Watch) (before : Headway) → HasHeadway p before p before
headway_of_none p before = headway_of p p before before [] refl refl

-- of one
pub headway_of_one : (p q : Watch) (before now : Headway) (want : Want) (found : ℕ) (ans : Ans) → q.took ≡ (want, found) ∷ p.took → ans ≡ answer_to want found → now ≡ headway_with before ans
    → HasHeadway p before q now
headway_of_one p q before now want found ans took is headway = headway_of p q before now ((want, found) ∷ []) took (headway ∙ ap (headway_with before) is)

-- of some, and more behind them
pub after_both : (more events : List (Want × ℕ)) (before : Headway) → headway_after (more ++ events) before ≡ headway_after more (headway_after events before)
after_both [] events before = refl
after_both (x ∷ more) events before = ap (λ (n : Headway). headway_with n (answer_to x.0 x.1)) (after_both more events before)

pub headway_on : (p q r : Watch) (before between now : Headway) (events more : List (Want × ℕ)) → q.took ≡ events ++ p.took → r.took ≡ more ++ q.took → HasHeadway p before q between
    → HasHeadway q between r now → HasHeadway p before r now
headway_on p q r before between now events more took then first last =
    headway_of p r before now (more ++ events) (then ∙ ap (λ (es : List (Want × ℕ)). more ++ es) took ∙ sym (append_assoc more events p.took))
    (last more then ∙ ap (headway_after more) (first events took) ∙ sym (after_both more events before))

-- which place is drawn does not depend on what else was done
with_same : (a b : Headway) (ans : Ans) → a.drew ≡ b.drew → (headway_with a ans).drew ≡ (headway_with b ans).drew
with_same a b (Drawn place) same = refl
with_same a b ans same = same

pub after_same : (events : List (Want × ℕ)) (a b : Headway) → a.drew ≡ b.drew → (headway_after events a).drew ≡ (headway_after events b).drew
after_same [] a b same = same
after_same (x ∷ events) a b same = with_same (headway_after events a) (headway_after events b) (answer_to x.0 x.1) (after_same events a b same)

-- a call has begun as soon as an event was taken
with_begun : (n : Headway) (ans : Ans) → (headway_with n ans).begun ≡ true
with_begun n (Drawn place) = refl
with_begun n ans = refl

pub unbegun : (events : List (Want × ℕ)) (before : Headway) → (headway_after events before).begun ≡ false → events ≡ []
unbegun [] before idle = refl
unbegun (x ∷ events) before idle = absurd (let no : true ≡ false = sym (with_begun (headway_after events before) (answer_to x.0 x.1)) ∙ idle in cc)

-- ---- the entry of a call
-- a view that has no more than before has drawn none
pub none_drawn : (call : Call) (before v : View) (drew : Option ℕ) → HasNoMore before v → HasDrawn call before drew v → drew ≡ None
none_drawn call before v None same has = refl
none_drawn call before v (Some place) same has =
    let more = ap length has ∙ length-append before.own (next_entry before call Done place true ∷ []) in
    let no = ap length same.own in absurd (omega (arith, more, no))

-- who began with the entries of another view
pub drawn_since : (call : Call) (u before v : View) (drew : Option ℕ) → HasNoMore u before → HasDrawn call before drew v → HasDrawn call u drew v
drawn_since call u before v None same has = elim has [ inl is ↦ inl (is ∙ same.own) | inr one ↦ inr (one.0, one.1 ∙ ap (λ (es : List Entry). es ++ one.0 ∷ []) same.own, one.2) ]
drawn_since call u before v (Some place) same has =
    has ∙ ap (λ (es : List Entry). es ++ record { serial = suc (length es); call = call; reply = Done; place = place; drew = true } ∷ []) same.own

-- ---- an event
-- a caller of `engine` with the entries of a view, whose call has drawn this
abbrev caller_of : Site → Call → View → Headway → Caller
caller_of here call before n = record {
  site = here;
  calls = [];
  entries = before.own;
  engine = None;
  begun = n.begun;
  drew = option_map (λ place. next_entry before call Done place true) n.drew;
}

notes_alike : (here : Site) (call : Call) (before : View) (n : Headway) (ans : Ans) → drawn_by (caller_of here call before n) call ans ≡ (caller_of here call before (headway_with n ans)).drew
notes_alike here call before n (Drawn place) = refl
notes_alike here call before n ans = refl

entries_of : (call : Call) (before v : View) (drew : Option ℕ) → HasDrawn call before drew v → HasEntries before.own (option_map (λ place. next_entry before call Done place true) drew) v.own
entries_of call before v None has = has
entries_of call before v (Some place) has = has

drawn_of : (call : Call) (before v : View) (drew : Option ℕ) → HasEntries before.own (option_map (λ place. next_entry before call Done place true) drew) v.own → HasDrawn call before drew v
drawn_of call before v None has = has
drawn_of call before v (Some place) has = has

short : (call : Call) (before v : View) (reply : Option (Reply × ℕ)) → EntersReply call reply before v → length v.own ≤ suc (length before.own)
short call before v None enters = let same = ap length enters.own in omega (arith, same)
short call before v (Some r) enters =
    let more = ap length enters.own ∙ length-append before.own (next_entry before call r.0 r.1 (is_done r.0) ∷ []) in omega (arith, more)

-- THE EVENT of a caller's kind keeps the entry as the headway says
pub draws : (site : Ground) (here : Site) (call : Call) (before v : View) (step : StepKind) (want : Want) (found : ℕ) (reply : Option (Reply × ℕ)) → want ≡ wanted_of site.shape step
    → MayTake site step v → PlansCall call before v → EntersReply call reply before (view_by site.shape step found v)
    → (n : Headway) → HasDrawn call before n.drew v → HasDrawn call before (headway_with n (answer_to want found)).drew (view_by site.shape step found v)
draws site here call before v step want found reply wants may only enters n has =
    drawn_of call before (view_by site.shape step found v) (headway_with n (answer_to want found)).drew
    (subst (λ (drew : Option Entry). HasEntries before.own drew (view_by site.shape step found v).own) (notes_alike here call before n (answer_to want found))
    (subst (λ (w : Want). HasEntries before.own (drawn_by (caller_of here call before n) call (answer_to w found)) (view_by site.shape step found v).own) (sym wants)
    (entries_by site (caller_of here call before n) call v found (entries_of call before v n.drew has) only step may
    (short call before (view_by site.shape step found v) reply enters))))
