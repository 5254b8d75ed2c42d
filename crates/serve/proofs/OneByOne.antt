-- One call more is made.
use Rattle.std.proofs.Common.{◌≡◌, ℕ, suc, ◌+◌, List, [], ◌∷◌, ◌++◌, length, refl, sym, ap, ◌∙◌, subst, arith, map, take}
use Rattle.std.proofs.lemmas.List.{map-append}
use Rattle.atomic_table.specs.declared.shared.Seat.{Seat}
use Rattle.map_model.specs.declared.call.Call.{Call}
use Rattle.map_model.specs.declared.entry.Entry.{Entry}
use Rattle.map_model.specs.declared.entry.Reply.{Reply}
use Rattle.map_model.specs.Map.{is_done}
use Rattle.shared_image.specs.Watch.{Watch}
use Rattle.world.specs.Attempts.{HoldsOnly}
use Rattle.shared_image.specs.declared.image.SharedImage.{SharedImage}
use Rattle.shared_image.specs.Powered.{IsPassOf}
use Rattle.shared_image.specs.Waiting.{HasReplied}
use Rattle.serve.specs.Jobs.{HasMade}

pub starts : (image : SharedImage) (calls : List Call) (told : List Entry) (pass : Seat ℕ Watch) → IsPassOf image pass → HoldsOnly [] pass.me.0.view → pass.me.0.view.own ≡ [] → told ≡ []
    → HasMade image (take 0 calls) pass.me.0 told pass
starts image calls told pass of nothing own none = record {
  pass_of = of;
  entries = none ∙ sym own;
  made = ap (λ (es : List Entry). map (λ (e : Entry). e.call) es) none ∙ none_taken calls;
  nothing = nothing;
  callers = refl;
  past = refl;
}
  where
    none_taken : (cs : List Call) → [] ≡ take 0 cs
    none_taken [] = refl
    none_taken (c ∷ cs) = refl

pub goes_on : (image : SharedImage) (calls : List Call) (p : Watch) (told new : List Entry) (pass next : Seat ℕ Watch) (i : ℕ) (call : Call) (reply : Reply) (place serial : ℕ)
    → HasMade image (take i calls) p told pass → take (i + 1) calls ≡ take i calls ++ call ∷ [] → length told ≡ i → serial ≡ i + 1
    → new ≡ told ++ record { serial = serial; call = call; reply = reply; place = place; drew = is_done reply } ∷ []
    → IsPassOf image next → HasReplied call pass.me.0 reply place next.me.0 → next.me.0.view.callers ≡ pass.me.0.view.callers → next.me.0.past ≡ pass.me.0.past
    → HasMade image (take (i + 1) calls) p new next
goes_on image calls p told new pass next i call reply place serial m taken long number is of r callers past =
    let e : Entry = record { serial = serial; call = call; reply = reply; place = place; drew = is_done reply } in
    let serial_is : serial ≡ suc (length pass.me.0.view.own) =
    number ∙ (let l = sym (ap length m.entries) ∙ long in omega (arith, l)) in
    let entry_is : e ≡ record { serial = suc (length pass.me.0.view.own); call = call; reply = reply; place = place; drew = is_done reply } =
    ap (λ (n : ℕ). record { serial = n; call = call; reply = reply; place = place; drew = is_done reply }) serial_is in
    record {
      pass_of = of;
      entries = is ∙ ap (λ (es : List Entry). es ++ e ∷ []) m.entries ∙ ap (λ (z : Entry). pass.me.0.view.own ++ z ∷ []) entry_is ∙ sym r.entry.own;
      made = ap (λ (es : List Entry). map (λ (z : Entry). z.call) es) is ∙ map-append (λ (z : Entry). z.call) told (e ∷ []) ∙ ap (λ (cs : List Call). cs ++ call ∷ []) m.made ∙ sym taken;
      nothing = r.nothing;
      callers = callers ∙ m.callers;
      past = past ∙ m.past;
    }

pub whole : (image : SharedImage) (calls : List Call) (p : Watch) (told : List Entry) (pass given : Seat ℕ Watch) (i : ℕ) → HasMade image (take i calls) p told pass → take i calls ≡ calls → given ≡ pass
    → HasMade image calls p told given
whole image calls p told pass given i m all is = subst (λ (s : Seat ℕ Watch). HasMade image calls p told s) (sym is) (subst (λ (cs : List Call). HasMade image cs p told pass) all m)
