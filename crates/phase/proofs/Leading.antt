-- The owner of a hash is the segment whose header leads to it: a normal segment has no ready side, so it claims each hash that it covers.
use Rattle.std.proofs.Common.{◌≡◌, ℕ, true, inl, sym, ◌∙◌, subst, arith}
use Rattle.sound_image.specs.Segments.{Frame, frame_of}
use Rattle.segment_table.proofs.frames.Owner.{claimer_found}
use Rattle.way.specs.Ways.{is_leading}
use Rattle.way.proofs.Leading.{leading_is}
use Rattle.phase.specs.Laws.{HeadersLead, PinnedLead, NotedLead}

pub headers_lead : HeadersLead
headers_lead site is words structure s hash within fits leads =
    let frame : Frame = frame_of site.shape words in
    let head = leading_is (frame.header s) hash leads in
    claimer_found site.shape.depth frame is.depth structure.sound s hash fits (record {
      live = record { slot = within; live = inl head.normal; covers = head.covers };
      kept = λ ready inside. let split = ready.1.splits in let normal_is = head.normal in omega (arith, split, normal_is);
    })

pub pinned_lead : PinnedLead
pinned_lead site hash segment v leads words new = headers_lead site leads.shape words new.structure segment hash leads.within leads.fits
    (subst (λ (h : ℕ). is_leading h hash ≡ true) (sym (new.pinned segment leads.head leads.has)) leads.leads)

pub noted_lead : NotedLead
noted_lead site hash path notes is fits within note has word value leads words now = headers_lead site is words now.structure path.segment hash within fits
    (subst (λ (h : ℕ). is_leading h hash ≡ true) (sym (now.heads path.segment note within has word ∙ value)) leads)
