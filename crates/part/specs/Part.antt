-- WHAT AN ENGINE HAS TO KNOW OF A MACHINE, and nothing else: what it wants and makes of an answer, and why; how its caller's view
-- stands; how it ends; and how long it goes on. A machine of which the laws below hold is a part of a call.
use Rattle.std.specs.Prelude.{◌≡◌, ◌≢◌, ℕ, ◌+◌, ◌^◌, ◌<◌, ◌≤◌, ⊤, ◌⊎◌, Bool, true, false, Option, Some, List, []}
use Rattle.op_core.specs.declared.want.Want.{Want}
use Rattle.op_core.specs.declared.want.Want.TheVariants.{Flush, Fence, Done}
use Rattle.op_core.specs.declared.want.Ans.{Ans}
use Rattle.op_core.specs.Answers.{IsAnswer}
use Rattle.trace.specs.Events.{Words}
use Rattle.world.specs.Facts.{Fact, Lives}
use Rattle.map_model.specs.declared.call.Call.{Call}
use Rattle.map_model.specs.declared.entry.Reply.TheVariants as reply
use Rattle.world.specs.declared.site.Site.{Site}
use Rattle.world.specs.Ground.{Ground, IsGround}
use Rattle.world.specs.Views.{View, Has, At}
use Rattle.world.specs.Wants.{answer_to, word_of}
use Rattle.world.specs.Kinds.{cuts_power}
use Rattle.world.specs.Attempts.{HoldsOnly, EntersReply}
use Rattle.world.specs.Invariant.{Holds}
use Rattle.world.specs.StepKinds.{StepKind, of_call, wanted_of, view_by, MayTake}
use Rattle.world.specs.StepLaws.{IsPublishingStep}
use Rattle.part.specs.Doings.{Doings}
use Rattle.part.specs.Outcomes.{Outcome, replied, stale, need_split, off, finished, reply_of}
use Rattle.part.specs.Asks.{IsWithin, PutsWord}

pub record Part (M : Type 0) : Type 1 where
  -- the event that it wants, and what an answer makes of it
  pub wanted : M → Want
  pub taken : M → Ans → M
  -- the kind of that event, by the value that the event finds
  pub kind : M → ℕ → StepKind
  -- how the view of its caller stands: what it holds, knows and owes, and what it noted
  pub Stands : Ground → Site → Call → M → View → Type 0
  -- how its attempt ends, once that is decided: a reply is then entered, and what is held may still be given back
  pub outcome : M → Option Outcome
  -- what it remembers of what its attempt did
  pub Remembers : Ground → M → Doings → Type 0
  -- its own work is done, by what its attempt did: the cause of an end that gives the call no reply
  pub HasWorked : Ground → M → Doings → Type 0
  -- the one store that makes its change was done
  pub HasMade : M → Type 0
  -- at most so many events are left, of so many
  pub left : M → ℕ
  pub most_events : ℕ
  -- it waits for a guard that another has: what it does is done again until the guard is won
  pub is_waiting : M → Bool
  -- at most so many lines are flushed and not fenced, and never more than so many
  pub waiting : M → ℕ
  pub most_waiting : ℕ
  -- it wants nothing more and keeps what it holds, and another part goes on
  pub hands_on : M → Bool

-- A SEGMENT OF THE IMAGE of which a view relies on that it is live
pub record IsKnownLive (site : Ground) (segment : ℕ) (facts : List Fact) : Type 0 where
  pub within : segment < site.shape.segments
  pub lives : Has (Lives segment) facts

-- WHAT AN END LEAVES KNOWN: a segment that is stale, which is to be repaired before any bucket of it is touched
abbrev pub LeavesKnown : Ground → Option Outcome → List Fact → Type 0
LeavesKnown site (Some (stale segment version)) facts = IsKnownLive site segment facts
LeavesKnown site outcome facts = ⊤

module _ {M : Type 0} (p : Part M) where
  -- THE VIEW SUITS the machine, in a call whose attempt began with the view `before`
  pub record Suits (site : Ground) (here : Site) (call : Call) (op : M) (before v : View) : Type 0 where
    pub stands : p.Stands site here call op v
    pub enters : EntersReply call (reply_of (p.outcome op)) before v
    pub callers : 0 < v.callers

  -- the value that the next event finds, the machine after it, and the view
  module _ (site : Ground) (words : Words) (op : M) where
    abbrev pub finds : ℕ
    finds = words (word_of site.shape (p.wanted op))

    abbrev pub next : M
    next = p.taken op (answer_to (p.wanted op) finds)

    abbrev pub next_view : View → View
    next_view v = view_by site.shape (p.kind op finds) finds v

  -- ---- the laws
  -- the event is that of its kind, which the view may take; the view after it stands for the next state, with the reply of that
  -- entered, where a word was found; and if it is the event that makes a change, the change was not made before it, and is made after it
  pub record StepsWell (site : Ground) (here : Site) (call : Call) (words : Words) (op : M) (before v : View) : Type 0 where
    pub wants : p.wanted op ≡ wanted_of site.shape (p.kind op (finds site words op))
    pub may : MayTake site (p.kind op (finds site words op)) v
    pub stands : finds site words op < 2 ^ 64 → p.Stands site here call (next site words op) (next_view site words op v)
    pub enters : finds site words op < 2 ^ 64 → EntersReply call (reply_of (p.outcome (next site words op))) before (next_view site words op v)
    pub makes : IsPublishingStep (p.kind op (finds site words op)) → (p.HasMade op → ⊥) × p.HasMade (next site words op)

  -- EACH STEP, beside any other callers
  abbrev pub KeepsSuits : Type 0
  KeepsSuits = (site : Ground) (here : Site) (call : Call) (words : Words) (views : List View) (j : ℕ) (op : M) (before v : View)
      → Holds site words views → At views j v → Suits site here call op before v → p.wanted op ≢ Done → StepsWell site here call words op before v

  -- a machine that wants nothing more holds, knows and owes nothing, but where it hands on, and where it found the power off
  abbrev pub EndsBare : Type 0
  EndsBare = (site : Ground) (here : Site) (call : Call) (op : M) (v : View) → p.Stands site here call op v → p.wanted op ≡ Done → p.hands_on op ≡ false → p.outcome op ≢ Some off
      → HoldsOnly [] v

  -- it waited and goes on waiting, with as many events left as before, and does not hand on
  abbrev pub IsWait : M → Ans → Type 0
  IsWait op a = (p.is_waiting op ≡ true) × (p.is_waiting (p.taken op a) ≡ true) × (p.left (p.taken op a) ≡ p.left op) × (p.hands_on (p.taken op a) ≡ false)

  -- each answer of the kind that was asked for leaves fewer events, or it goes on waiting, and as many are left as before
  pub record EndsInTime : Type 0 where
    pub falls : (op : M) (a : Ans) → IsAnswer (p.wanted op) a → (p.left (p.taken op a) < p.left op) ⊎ IsWait op a
    pub most : (op : M) → p.left op ≤ p.most_events

  -- it asks for words of the image and those behind it alone
  abbrev pub AsksWithin : Type 0
  AsksWithin = (site : Ground) (here : Site) (call : Call) (op : M) (before v : View) → IsGround site → Suits site here call op before v → IsWithin site.shape (p.wanted op)

  -- it puts words alone into the memory
  abbrev pub PutsWords : Type 0
  PutsWords = (site : Ground) (here : Site) (call : Call) (op : M) (before v : View) → Suits site here call op before v → PutsWord (p.wanted op)

  -- each flush is counted among the lines that wait, no event but a fence lets one go, and at the end none waits
  pub record FlushesFew : Type 0 where
    pub most : (op : M) → p.waiting op ≤ p.most_waiting
    pub flushes : (op : M) (a : Ans) (l : ℕ) → IsAnswer (p.wanted op) a → p.wanted op ≡ Flush l → p.waiting op + 1 ≤ p.waiting (p.taken op a)
    pub keeps : (op : M) (a : Ans) → IsAnswer (p.wanted op) a → p.wanted op ≢ Fence → p.waiting op ≤ p.waiting (p.taken op a)
    pub ends : (op : M) → p.wanted op ≡ Done → p.waiting op ≡ 0

  -- a change that is made stays so, and ends as done
  pub record EndsAsDone : Type 0 where
    pub stays : (op : M) (a : Ans) → IsAnswer (p.wanted op) a → p.HasMade op → p.HasMade (p.taken op a)
    pub done : (op : M) → p.HasMade op → p.wanted op ≡ Done → (place : ℕ) × (p.outcome op ≡ Some (replied reply.Done place))

  -- what its caller has planned is the call's change, and then no reply is entered yet
  abbrev pub PlansItsCall : Type 0
  PlansItsCall = (site : Ground) (here : Site) (call : Call) (op : M) (before v : View) (planned : Call) → Suits site here call op before v → Has planned v.planned
      → (planned ≡ call) × (v.own ≡ before.own)

  -- where it ends since a segment is stale, its caller's view relies on that segment as a live one
  abbrev pub KnowsStale : Type 0
  KnowsStale = (site : Ground) (here : Site) (call : Call) (op : M) (v : View) → p.Stands site here call op v → LeavesKnown site (p.outcome op) v.facts

  -- a machine that hands on wants nothing more
  abbrev pub HandsOnAtEnd : Type 0
  HandsOnAtEnd = (op : M) → p.hands_on op ≡ true → p.wanted op ≡ Done

  -- it never cuts the power
  abbrev pub KeepsPower : Type 0
  KeepsPower = (op : M) (n : ℕ) → p.kind op n ≢ of_call cuts_power

  -- THE MACHINE IS A PART OF A CALL
  pub record IsPart : Type 0 where
    pub steps : KeepsSuits
    pub ends : EndsBare
    pub time : EndsInTime
    pub within : AsksWithin
    pub words : PutsWords
    pub flushes : FlushesFew
    pub made : EndsAsDone
    pub plans : PlansItsCall
    pub relies : KnowsStale
    pub hands : HandsOnAtEnd
    pub power : KeepsPower

  -- ---- beside these laws: how a part may end
  -- it never ends as one that has done its work
  abbrev pub NeverFinished : Type 0
  NeverFinished = (op : M) → p.outcome op ≡ Some finished → ⊥

  -- nor with a segment that is to be split
  abbrev pub NeverSplits : Type 0
  NeverSplits = (op : M) (segment : ℕ) → p.outcome op ≡ Some (need_split segment) → ⊥

  -- where it wants nothing more, its outcome is the one that is told of it
  abbrev pub EndsAsTold : (M → Option Outcome) → Type 0
  EndsAsTold told = (op : M) → p.wanted op ≡ Done → p.outcome op ≡ told op
