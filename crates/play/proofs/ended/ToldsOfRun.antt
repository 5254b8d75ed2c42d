-- What the callers of a run were told, by their entries and by where they stopped, is what the run's core says.
use Rattle.std.proofs.Common.{◌≡◌, refl, sym, ap, Bool, true, false, Option, None, Some, List, [], ◌∷◌, ◌++◌, map}
use Rattle.std.specs.Prelude.{if◌then◌else◌}
use Rattle.map_model.specs.declared.call.Call.{Call}
use Rattle.map_model.specs.declared.entry.Entry.{Entry}
use Rattle.map_model.specs.declared.entry.Stop.{Stop}
use Rattle.reply_text.specs.Told.{left_by, tolds_of}
use Rattle.core_run.specs.Engines.{Caller, current, open_of, told_of}
use Rattle.core_run.specs.Run.{stop_for, stop_of}
use Rattle.play.proofs.ended.Begun.{HaveNoneBegun}

same_open : (begun : Bool) (drew : Option Entry) → (if begun then Some drew else None) ≡ open_of begun drew
same_open true drew = refl
same_open false drew = refl

left_is : (c : Caller) (call : Option Call) → (call ≡ None → c.begun ≡ false) → left_by (stop_for c call) ≡ open_of c.begun c.drew
left_is c None rests = ap (λ (begun : Bool). open_of begun c.drew) (sym (rests refl))
left_is c (Some call) rests = same_open c.begun c.drew

pub same_tolds : (cs : List Caller) (more : List (Option Stop)) → HaveNoneBegun cs → tolds_of (map (λ c. c.entries) cs) (map stop_of cs ++ more) ≡ map told_of cs
same_tolds [] more all = refl
same_tolds (c ∷ cs) more all =
    rw (left_is c (current c) all.0, same_tolds cs more all.1) refl
