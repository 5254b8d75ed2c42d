-- The settled value of a word, event by event: only a fence changes it, to the value at the latest flush that it fences.
use Rattle.std.proofs.Common.{◌≡◌, ℕ, ◌≤◌, max, ◌∷◌, ◌∙◌, ap, arith}
use Rattle.std.specs.Prelude.{◌↔◌}
use Rattle.trace.specs.Events.{Words, line_of, Event, Trace, value_at}
use Rattle.trace.specs.Events.Event.{fenced}
use Rattle.trace.specs.Settling.{IsSettledValue}
use Rattle.trace.specs.Progress.{pending, latest_of, settled_moment}
use Rattle.trace.specs.Steps.{IsFence, settled_value}
use Rattle.trace.proofs.Moments.{value_at_more}
use Rattle.trace.proofs.Flushes.{latest_before, settled_kept, settled_before}
use Rattle.trace.proofs.Fenced.{settled_is, settled_only}

-- the settled value is the one at the settled moment
pub is_settled : (start : Words) (es : Trace) (i x : ℕ) → IsSettledValue start es i x → x ≡ settled_value start es i
is_settled start es i x s = s.is_value ∙ ap (λ t. value_at start es t i) (settled_only es (line_of i) s.t s.is_settled)

pub settled_here : (start : Words) (es : Trace) (i x : ℕ) → x ≡ settled_value start es i → IsSettledValue start es i x
settled_here start es i x h = record { t = settled_moment (line_of i) es; is_settled = settled_is es (line_of i); is_value = h }

pub settled_value_is : (start : Words) (es : Trace) (i x : ℕ) → IsSettledValue start es i x ↔ (x ≡ settled_value start es i)
settled_value_is start es i x = (is_settled start es i x, settled_here start es i x)

-- an event that is no fence keeps it
pub settled_value_more : (start : Words) (e : Event) (es : Trace) (i : ℕ) → (IsFence e → ⊥) → settled_value start (e ∷ es) i ≡ settled_value start es i
settled_value_more start e es i n =
    ap (λ t. value_at start (e ∷ es) t i) (settled_kept e es (line_of i) (λ c q. n (c, q)))
    ∙ value_at_more start e es (settled_moment (line_of i) es) i (settled_before es (line_of i))

-- a fence makes it the value at the later of the settled moment and the latest flush that it fences
pub settled_value_fence : (start : Words) (es : Trace) (c i : ℕ)
    → settled_value start (fenced c ∷ es) i ≡ value_at start es (max (settled_moment (line_of i) es) (latest_of (line_of i) (pending c es))) i
settled_value_fence start es c i =
    value_at_more start (fenced c) es (max (settled_moment (line_of i) es) (latest_of (line_of i) (pending c es))) i
    (omega (arith, settled_before es (line_of i), latest_before c es (line_of i)))

-- so a word whose line has no later flush among those keeps it
pub settled_value_earlier : (start : Words) (es : Trace) (c i : ℕ) → latest_of (line_of i) (pending c es) ≤ settled_moment (line_of i) es
    → settled_value start (fenced c ∷ es) i ≡ settled_value start es i
settled_value_earlier start es c i h =
    let q : max (settled_moment (line_of i) es) (latest_of (line_of i) (pending c es)) ≡ settled_moment (line_of i) es = omega arith in
    settled_value_fence start es c i ∙ ap (λ t. value_at start es t i) q

-- and one whose line has gets the value at that flush
pub settled_value_later : (start : Words) (es : Trace) (c i : ℕ) → settled_moment (line_of i) es ≤ latest_of (line_of i) (pending c es)
    → settled_value start (fenced c ∷ es) i ≡ value_at start es (latest_of (line_of i) (pending c es)) i
settled_value_later start es c i h =
    let q : max (settled_moment (line_of i) es) (latest_of (line_of i) (pending c es)) ≡ latest_of (line_of i) (pending c es) = omega arith in
    settled_value_fence start es c i ∙ ap (λ t. value_at start es t i) q
