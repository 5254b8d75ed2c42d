-- Both say the same of each slot.
use Rattle.whole_segment.proofs.laws.loaded_segments_are_of_images.Goals as goal

pub returns : goal.returns
returns c shape word s b r k low = (
  λ stands. (record { segment = low; bucket = stands.bucket; slot = stands.slot; is_allocated = stands.taken }, stands.has_key),
  λ there. record { bucket = there.0.bucket; slot = there.0.slot; taken = there.0.is_allocated; has_key = there.1 },
)
