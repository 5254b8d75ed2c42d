-- What a caller in the midst of a call has planned is its call's change, and then it has no new entry; and it never has more
-- than one new entry.
use Rattle.std.proofs.Common.{◌≡◌, ℕ, ◌≤◌, suc, Option, None, Some, List, [], ◌∷◌, ◌++◌, length, ap, ◌∙◌, arith, length-append}
use Rattle.map_model.specs.declared.call.Call.{Call}
use Rattle.map_model.specs.declared.entry.Reply.{Reply}
use Rattle.map_model.specs.declared.entry.Entry.{Entry}
use Rattle.world.specs.declared.site.Site.{Site}
use Rattle.world.specs.Ground.{Ground}
use Rattle.world.specs.Views.{View, Has}
use Rattle.world.specs.Attempts.{EntersReply}
use Rattle.part.specs.Outcomes.{reply_of}
use Rattle.part.specs.Part.{IsPart}
use Rattle.engine.specs.declared.engine.Engine.{Engine}
use Rattle.engine.specs.OpPart.{op_part}
use Rattle.engine.specs.Fits.{Suits}

-- a list with nothing in it has nothing
same_length : (xs ys : List Entry) → xs ≡ ys → length xs ≤ suc (length ys)
same_length xs ys e = let l = ap length e in omega (arith, l)

one_longer : (xs ys : List Entry) (e : Entry) → xs ≡ ys ++ e ∷ [] → length xs ≤ suc (length ys)
one_longer xs ys e is = let l = ap length is ∙ length-append ys (e ∷ []) in omega (arith, l)

short_by : (call : Call) (o : Option (Reply × ℕ)) (before v : View) → EntersReply call o before v → length v.own ≤ suc (length before.own)
short_by call None before v enters = same_length v.own before.own enters.own
short_by call (Some r) before v enters = one_longer v.own before.own _ enters.own

module _ (site : Ground) (here : Site) (call : Call) (before v : View) where
  pub planned_is : IsPart op_part → (e : Engine) (planned : Call) → Suits site here call e before v → Has planned v.planned → (planned ≡ call) × (v.own ≡ before.own)
  planned_is part e planned s has = part.plans site here call e.op before v planned s.suits has

  pub at_most_one : (e : Engine) → Suits site here call e before v → length v.own ≤ suc (length before.own)
  at_most_one e s = short_by call (reply_of (op_part.outcome e.op)) before v s.suits.enters
