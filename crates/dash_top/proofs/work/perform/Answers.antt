use Rattle.std.proofs.Common.{refl}
use Rattle.command_line.specs.Commands.ReadsImage.{for_check, for_list}
use Rattle.script_text.specs.declared.line.Mode.TheVariants.{Play as PlayMode, Serve as ServeMode}
use Rattle.dash_top.specs.Work.{by_format, by_check, by_list, by_run, by_storm}
use Rattle.dash_top.proofs.Causes.{cause_of_reading, cause_of_format, cause_of_run, err_of}
use Rattle.command_line.proofs.Forms.{check_is_no_run, list_is_no_run, format_is_no_reader, run_is_no_reader}
use Rattle.dash_top.proofs.work.perform.Goals as goal

-- FORMAT
pub returns-in_ok-format_image-in-Format-clause-ok : goal.returns-in_ok-format_image-in-Format-clause-ok
returns-in_ok-format_image-in-Format-clause-ok g c =
    by_format c.in-Format.ensures c.in_ok-format_image-in-Format.ensures.ok
    (record { once = c.in_ok-format_image-in-Format.ensures.once; kept = c.in_ok-format_image-in-Format.ensures.kept })

pub returns-in_err-format_image-in-Format-clause-err : goal.returns-in_err-format_image-in-Format-clause-err
returns-in_err-format_image-in-Format-clause-err g c =
    err_of _ c.from_residual.result c.in_err-format_image-in-Format.field-0.0 c.from_residual.ensures.1
    (cause_of_format _ _ _ _ _ _ _ c.in-Format.ensures c.in_err-format_image-in-Format.ensures.err)

pub returns-in_ok-format_image-in-Format-clause-readers_keep : goal.returns-in_ok-format_image-in-Format-clause-readers_keep
returns-in_ok-format_image-in-Format-clause-readers_keep g c = λ reader. absurd (format_is_no_reader _ c.in-Format.ensures reader)

pub returns-in_ok-format_image-in-Format-clause-readers_write_nothing : goal.returns-in_ok-format_image-in-Format-clause-readers_write_nothing
returns-in_ok-format_image-in-Format-clause-readers_write_nothing g c = λ reader. absurd (format_is_no_reader _ c.in-Format.ensures reader)

pub returns-in_err-format_image-in-Format-clause-readers_keep : goal.returns-in_err-format_image-in-Format-clause-readers_keep
returns-in_err-format_image-in-Format-clause-readers_keep g c = λ reader. absurd (format_is_no_reader _ c.in-Format.ensures reader)

pub returns-in_err-format_image-in-Format-clause-readers_write_nothing : goal.returns-in_err-format_image-in-Format-clause-readers_write_nothing
returns-in_err-format_image-in-Format-clause-readers_write_nothing g c = λ reader. absurd (format_is_no_reader _ c.in-Format.ensures reader)

-- CHECK
pub returns-in_ok-text-in-Check-clause-ok : goal.returns-in_ok-text-in-Check-clause-ok
returns-in_ok-text-in-Check-clause-ok g c =
    by_check c.in-Check.ensures c.in_ok-text-in-Check.ensures.ok
    (record { same = c.in_ok-text-in-Check.ensures.keeps; unwritten = c.in_ok-text-in-Check.ensures.unwritten })

pub returns-in_err-text-in-Check-clause-err : goal.returns-in_err-text-in-Check-clause-err
returns-in_err-text-in-Check-clause-err g c =
    err_of _ c.from_residual-in_err-text-in-Check.result c.in_err-text-in-Check.field-0.0 c.from_residual-in_err-text-in-Check.ensures.1
    (cause_of_reading _ _ _ _ _ _ _ (for_check c.in-Check.ensures) (λ mode form. absurd (check_is_no_run _ c.in-Check.ensures (mode, form)))
    (record { same = c.in_err-text-in-Check.ensures.keeps; unwritten = c.in_err-text-in-Check.ensures.unwritten }) c.in_err-text-in-Check.ensures.err)

-- LIST
pub returns-in_ok-text-in-List-clause-ok : goal.returns-in_ok-text-in-List-clause-ok
returns-in_ok-text-in-List-clause-ok g c =
    by_list c.in-List.ensures c.in_ok-text-in-List.ensures.ok
    (record { same = c.in_ok-text-in-List.ensures.keeps; unwritten = c.in_ok-text-in-List.ensures.unwritten })

pub returns-in_err-text-in-List-clause-err : goal.returns-in_err-text-in-List-clause-err
returns-in_err-text-in-List-clause-err g c =
    err_of _ c.from_residual-in_err-text-in-List.result c.in_err-text-in-List.field-0.0 c.from_residual-in_err-text-in-List.ensures.1
    (cause_of_reading _ _ _ _ _ _ _ (for_list c.in-List.ensures) (λ mode form. absurd (list_is_no_run _ c.in-List.ensures (mode, form)))
    (record { same = c.in_err-text-in-List.ensures.keeps; unwritten = c.in_err-text-in-List.ensures.unwritten }) c.in_err-text-in-List.ensures.err)

-- PLAY
pub returns-in_ok-lines-in-Play-clause-ok : goal.returns-in_ok-lines-in-Play-clause-ok
returns-in_ok-lines-in-Play-clause-ok g c =
    by_run PlayMode c.in-Play.ensures c.in_ok-lines-in-Play.ensures.ok
    (record { once = c.in_ok-lines-in-Play.ensures.once; kept = c.in_ok-lines-in-Play.ensures.kept })

pub returns-in_err-lines-in-Play-clause-err : goal.returns-in_err-lines-in-Play-clause-err
returns-in_err-lines-in-Play-clause-err g c =
    err_of _ c.from_residual-in_err-lines-in-Play.result c.in_err-lines-in-Play.field-0.0 c.from_residual-in_err-lines-in-Play.ensures.1
    (cause_of_run _ _ _ _ _ _ PlayMode _ c.in-Play.ensures c.in_err-lines-in-Play.ensures.err)

pub returns-in_ok-lines-in-Play-clause-readers_keep : goal.returns-in_ok-lines-in-Play-clause-readers_keep
returns-in_ok-lines-in-Play-clause-readers_keep g c = λ reader. absurd (run_is_no_reader _ PlayMode c.in-Play.ensures reader)

pub returns-in_ok-lines-in-Play-clause-readers_write_nothing : goal.returns-in_ok-lines-in-Play-clause-readers_write_nothing
returns-in_ok-lines-in-Play-clause-readers_write_nothing g c = λ reader. absurd (run_is_no_reader _ PlayMode c.in-Play.ensures reader)

pub returns-in_err-lines-in-Play-clause-readers_keep : goal.returns-in_err-lines-in-Play-clause-readers_keep
returns-in_err-lines-in-Play-clause-readers_keep g c = λ reader. absurd (run_is_no_reader _ PlayMode c.in-Play.ensures reader)

pub returns-in_err-lines-in-Play-clause-readers_write_nothing : goal.returns-in_err-lines-in-Play-clause-readers_write_nothing
returns-in_err-lines-in-Play-clause-readers_write_nothing g c = λ reader. absurd (run_is_no_reader _ PlayMode c.in-Play.ensures reader)

-- SERVE
pub returns-in_ok-lines-in-Serve-clause-ok : goal.returns-in_ok-lines-in-Serve-clause-ok
returns-in_ok-lines-in-Serve-clause-ok g c =
    by_run ServeMode c.in-Serve.ensures c.in_ok-lines-in-Serve.ensures.ok
    (record { once = c.in_ok-lines-in-Serve.ensures.once; kept = c.in_ok-lines-in-Serve.ensures.kept })

pub returns-in_err-lines-in-Serve-clause-err : goal.returns-in_err-lines-in-Serve-clause-err
returns-in_err-lines-in-Serve-clause-err g c =
    err_of _ c.from_residual-in_err-lines-in-Serve.result c.in_err-lines-in-Serve.field-0.0 c.from_residual-in_err-lines-in-Serve.ensures.1
    (cause_of_run _ _ _ _ _ _ ServeMode _ c.in-Serve.ensures c.in_err-lines-in-Serve.ensures.err)

pub returns-in_ok-lines-in-Serve-clause-readers_keep : goal.returns-in_ok-lines-in-Serve-clause-readers_keep
returns-in_ok-lines-in-Serve-clause-readers_keep g c = λ reader. absurd (run_is_no_reader _ ServeMode c.in-Serve.ensures reader)

pub returns-in_ok-lines-in-Serve-clause-readers_write_nothing : goal.returns-in_ok-lines-in-Serve-clause-readers_write_nothing
returns-in_ok-lines-in-Serve-clause-readers_write_nothing g c = λ reader. absurd (run_is_no_reader _ ServeMode c.in-Serve.ensures reader)

pub returns-in_err-lines-in-Serve-clause-readers_keep : goal.returns-in_err-lines-in-Serve-clause-readers_keep
returns-in_err-lines-in-Serve-clause-readers_keep g c = λ reader. absurd (run_is_no_reader _ ServeMode c.in-Serve.ensures reader)

pub returns-in_err-lines-in-Serve-clause-readers_write_nothing : goal.returns-in_err-lines-in-Serve-clause-readers_write_nothing
returns-in_err-lines-in-Serve-clause-readers_write_nothing g c = λ reader. absurd (run_is_no_reader _ ServeMode c.in-Serve.ensures reader)

-- STORM
pub returns-in_ok-text-in-Storm-clause-ok : goal.returns-in_ok-text-in-Storm-clause-ok
returns-in_ok-text-in-Storm-clause-ok g c = by_storm c.in-Storm.ensures c.in_ok-text-in-Storm.ensures (record { same = refl; unwritten = refl })
