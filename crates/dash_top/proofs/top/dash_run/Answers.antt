use Rattle.std.proofs.Common.{List, ℕ, subst, ◌∙◌}
use Rattle.std.specs.Io.KnownBytes.{Appends}
use Rattle.outside.specs.Causes.{AppendsFront}
use Rattle.dash_top.specs.Work.{output_bytes}
use Rattle.reply_text.specs.Texts.{usage_text, script_fault_text, image_fault_text}
use Rattle.dash_top.specs.Top.{of_done, of_bad_words, of_bad_script, of_bad_image}
use Rattle.dash_top.proofs.Headlines.{headline}
use Rattle.dash_top.proofs.Complete.{good_words, good_script, good_image, run_of_done}
use Rattle.dash_top.proofs.top.dash_run.Goals as goal

-- DONE
pub returns-in-Ok-clause-headline : goal.returns-in-Ok-clause-headline
returns-in-Ok-clause-headline g c = λ e mode form.
    headline mode _ _ _ (output_bytes c.in-Ok.output) (run_of_done _ _ (output_bytes c.in-Ok.output) mode form c.in-Ok.ensures.ok)
    (subst (λ (x : List ℕ). Appends (g.K.Sink.taken c.args.out.now) (g.K.Sink.taken c.finish.new.out) x) c.as_bytes.ensures (c.finish.ensures.all e))

pub returns-in-Ok-clause-sink_front : goal.returns-in-Ok-clause-sink_front
returns-in-Ok-clause-sink_front g c = λ e. (
  output_bytes c.in-Ok.output,
  subst (λ (x : List ℕ). AppendsFront (g.K.Sink.taken c.args.out.now) (g.K.Sink.taken c.finish.new.out) x) c.as_bytes.ensures (c.finish.ensures.front e),
  of_done c.in-Ok.ensures.ok,
)

pub returns-in-Ok-clause-readers_keep : goal.returns-in-Ok-clause-readers_keep
returns-in-Ok-clause-readers_keep g c = λ leaves. record { same = c.perform.ensures.readers_keep leaves; unwritten = c.perform.ensures.readers_write_nothing leaves }

-- BAD WORDS
pub returns-in-Err-Words-clause-bad_words : goal.returns-in-Err-Words-clause-bad_words
returns-in-Err-Words-clause-bad_words g c = λ e. (
  (rw c.in-Err-Words.field-0-is at c.in-Err-Words.ensures.err).0,
  subst (λ (x : List ℕ). Appends (g.K.Sink.taken c.args.out.now) (g.K.Sink.taken c.finish-in-Err-Words.new.out) x) c.as_bytes-in-Err-Words.ensures.value (c.finish-in-Err-Words.ensures.all e),
)

pub returns-in-Err-Words-clause-sink_front : goal.returns-in-Err-Words-clause-sink_front
returns-in-Err-Words-clause-sink_front g c = λ e. (
  usage_text,
  subst (λ (x : List ℕ). AppendsFront (g.K.Sink.taken c.args.out.now) (g.K.Sink.taken c.finish-in-Err-Words.new.out) x) c.as_bytes-in-Err-Words.ensures.value (c.finish-in-Err-Words.ensures.front e),
  of_bad_words (rw c.in-Err-Words.field-0-is at c.in-Err-Words.ensures.err).0 (rw c.in-Err-Words.field-0-is at c.in-Err-Words.ensures.err).1,
)

pub returns-in-Err-Words-clause-complete : goal.returns-in-Err-Words-clause-complete
returns-in-Err-Words-clause-complete g c = λ good none. absurd (good_words _ _ (rw c.in-Err-Words.field-0-is at c.in-Err-Words.ensures.err).0 good)

-- A BAD SCRIPT
pub returns-in-Ok-script_fault-clause-sink_front : goal.returns-in-Ok-script_fault-clause-sink_front
returns-in-Ok-script_fault-clause-sink_front g c = λ e.
    let refused = rw c.in-Err-Script.field-0-is at c.in-Err-Script.ensures.err in (
      script_fault_text c.in-Err-Script.fault,
      subst (λ (x : List ℕ). AppendsFront (g.K.Sink.taken c.args.out.now) (g.K.Sink.taken c.finish-in-Ok-script_fault.new.out) x)
          (c.as_bytes-in-Ok-script_fault.ensures.value ∙ c.in-Ok-script_fault.ensures) (c.finish-in-Ok-script_fault.ensures.front e),
      of_bad_script refused.0.0 refused.0.1 refused.0.2 refused.1,
    )

pub returns-in-Ok-script_fault-clause-complete : goal.returns-in-Ok-script_fault-clause-complete
returns-in-Ok-script_fault-clause-complete g c = λ good none.
    let refused = rw c.in-Err-Script.field-0-is at c.in-Err-Script.ensures.err in
    absurd (good_script _ _ refused.0.0 c.in-Err-Script.fault refused.0.1 refused.0.2 good)

pub returns-in-Ok-script_fault-clause-bad_script : goal.returns-in-Ok-script_fault-clause-bad_script
returns-in-Ok-script_fault-clause-bad_script g c = λ e.
    let refused = rw c.in-Err-Script.field-0-is at c.in-Err-Script.ensures.err in (
      refused.0.0,
      refused.0.1,
      (
        c.in-Err-Script.fault,
        refused.0.2,
        subst (λ (x : List ℕ). Appends (g.K.Sink.taken c.args.out.now) (g.K.Sink.taken c.finish-in-Ok-script_fault.new.out) x)
            (c.as_bytes-in-Ok-script_fault.ensures.value ∙ c.in-Ok-script_fault.ensures) (c.finish-in-Ok-script_fault.ensures.all e),
      ),
    )

-- A BAD IMAGE
pub returns-in-Ok-image_fault-clause-sink_front : goal.returns-in-Ok-image_fault-clause-sink_front
returns-in-Ok-image_fault-clause-sink_front g c = λ e. (
  image_fault_text c.in-Err-Image.fault,
  subst (λ (x : List ℕ). AppendsFront (g.K.Sink.taken c.args.out.now) (g.K.Sink.taken c.finish-in-Ok-image_fault.new.out) x)
      (c.as_bytes-in-Ok-image_fault.ensures.value ∙ c.in-Ok-image_fault.ensures) (c.finish-in-Ok-image_fault.ensures.front e),
  of_bad_image (rw c.in-Err-Image.field-0-is at c.in-Err-Image.ensures.err).0 (rw c.in-Err-Image.field-0-is at c.in-Err-Image.ensures.err).1,
)

pub returns-in-Ok-image_fault-clause-complete : goal.returns-in-Ok-image_fault-clause-complete
returns-in-Ok-image_fault-clause-complete g c = λ good none.
    absurd (good_image _ _ c.in-Err-Image.fault (rw c.in-Err-Image.field-0-is at c.in-Err-Image.ensures.err).0 good)

pub returns-in-Ok-image_fault-clause-bad_image : goal.returns-in-Ok-image_fault-clause-bad_image
returns-in-Ok-image_fault-clause-bad_image g c = λ e. (
  c.in-Err-Image.fault,
  (rw c.in-Err-Image.field-0-is at c.in-Err-Image.ensures.err).0,
  subst (λ (x : List ℕ). Appends (g.K.Sink.taken c.args.out.now) (g.K.Sink.taken c.finish-in-Ok-image_fault.new.out) x)
      (c.as_bytes-in-Ok-image_fault.ensures.value ∙ c.in-Ok-image_fault.ensures) (c.finish-in-Ok-image_fault.ensures.all e),
)
