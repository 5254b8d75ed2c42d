-- What an event makes of a run state, in each of its parts.
use Rattle.std.proofs.Common.{◌≡◌, ℕ, suc, Bool, false, Option, None, Some, List, ◌∷◌, map, length, refl, ap, sym, ◌∙◌, subst, arith}
use Rattle.std.specs.Prelude.{◌&&◌, slice_get, slice_set}
use Rattle.std.proofs.lemmas.List.{length-set, get_or-set_same}
use Rattle.std.proofs.lemmas.Option.{slice_get_within, slice_get_read}
use Rattle.op_core.specs.declared.want.Want.{Want}
use Rattle.op_core.specs.declared.want.Want.TheVariants as want
use Rattle.op_core.specs.declared.want.Ans.{Ans}
use Rattle.image_layout.specs.Places.{Shape}
use Rattle.map_model.specs.declared.call.Call.{Call}
use Rattle.map_model.specs.declared.entry.Entry.{Entry}
use Rattle.world.specs.Wants.{answer_to, word_of, event_of, words_after}
use Rattle.restart_op.specs.declared.restart.RestartOp.{RestartOp}
use Rattle.restart_op.specs.Restart.{wanted as restart_wanted, taken as restart_taken}
use Rattle.restart_op.specs.declared.close.CloseOp.{CloseOp}
use Rattle.restart_op.specs.Close.{wanted as close_wanted, taken as close_taken}
use Rattle.core_run.specs.Engines.{End, Engine, wanted, taken, end_of, op_part, tries_in_vain, waits_after, Caller, Core, drawn_by, answered}
use Rattle.pm_trace.specs.Memory.{Memory}
use Rattle.pm_trace.specs.TraceOf.{IsTraceOf, Follows}
use Rattle.core_run.specs.declared.keeper.Keeper.{Keeper}
use Rattle.core_run.specs.declared.keeper.Keeper.TheVariants.{Open}
use Rattle.core_run.specs.State.{State, awake, started_by, by_keeper, restarting, closing_keeper, end_by, restart_deed, close_deed, engine_deed}
use Rattle.core_run.specs.Run.{ends_call, ends_in_again}
use Rattle.core_run.specs.Running.{Setup, start_of}
use Rattle.play.specs.declared.run_state.RunState.{RunState}
use Rattle.play.specs.declared.caller.Caller.{Caller as PlayCaller}
use Rattle.play.specs.Callers.{caller_of, callers_of, told_with, counted_with, HaveRoom}
use Rattle.keeping.specs.Asked.{found_by}
use Rattle.play.specs.RunStates.{IsOf, IsAfter}
use Rattle.play.specs.declared.deeds.Ending.{Ending}
use Rattle.play.specs.Deeds.{NoneTold, HasCome, HasEnded, restarting_keeper, restarting_callers, lists_with}
use Rattle.play.proofs.driven.Answering.{HasTaken, answered_on, answered_ended, goes_on}
use Rattle.play.proofs.driven.Devices.{Holds, found_is, holds_after}
use Rattle.play.proofs.driven.Listed.{listed_at, listed_set, room_set, room_left, has_room_more, awake_callers, awake_room}

-- an event was done on the memory, and answered
pub record WasDone (old : Memory) (caller : ℕ) (w : Want) (ans : Ans) (new : Memory) : Type 0 where
  pub answer : ans ≡ answer_to w (found_by w old)
  pub follows : Follows old (event_of old.shape w (found_by w old) caller) new
  pub shape : new.shape ≡ old.shape
  pub callers : new.callers ≡ old.callers

pub holds_of : (t : Setup) (run_state : RunState) (s : State) → IsOf t run_state s → Holds t run_state.device s.core.words s.core.trace
holds_of t run_state s is = record { shape = is.shape; callers = is.callers; traced = is.traced; words_are = is.words }

pub answer_is : (t : Setup) (run_state : RunState) (s : State) (c : ℕ) (w : Want) (ans : Ans) (new : Memory) → IsOf t run_state s → WasDone run_state.device c w ans new
    → ans ≡ answer_to w (s.core.words (word_of t.shape w))
answer_is t run_state s c w ans new is done =
    done.answer ∙ ap (λ (n : ℕ). answer_to w n) (found_is t run_state.device s.core.words s.core.trace w (holds_of t run_state s is))

-- ---- the close
-- the run state after an event of the keeper, which leaves the callers alone
pub keeper_left : (t : Setup) (old new : RunState) (s : State) (w : Want) (ans : Ans) (k : Keeper) → IsOf t old s → WasDone old.device 0 w ans new.device
    → new.keeper ≡ k → new.callers.items ≡ old.callers.items → new.lists ≡ old.lists
    → IsOf t new (record { keeper = k; core = by_keeper t.shape w s.core })
keeper_left t old new s w ans k is done keeper callers lists =
    let h = holds_after t old.device new.device s.core.words s.core.trace 0 w (holds_of t old s is) done.shape done.callers done.follows in
    record {
      shape = h.shape;
      callers = h.callers;
      traced = h.traced;
      words = h.words_are;
      keeper = keeper;
      its_callers = rw (callers, lists) is.its_callers;
      room = rw (callers, lists) is.room;
    }

pub close_left : (t : Setup) (old new : RunState) (s : State) (op next : CloseOp) (w : Want) (ans : Ans) → IsOf t old s → WasDone old.device 0 w ans new.device
    → w ≡ close_wanted op → next ≡ close_taken op ans → new.keeper ≡ closing_keeper next (close_wanted next)
    → new.callers.items ≡ old.callers.items → new.lists ≡ old.lists → IsAfter t (record { want = w; replied = false; again = false; tried = false; waits = false }) (close_deed t.shape op s.core) new
close_left t old new s op next w ans is done wants took keeper callers lists =
    let answers : ans ≡ answer_to (close_wanted op) (s.core.words (word_of t.shape (close_wanted op))) =
    answer_is t old s 0 w ans new.device is done ∙ ap (λ (v : Want). answer_to v (s.core.words (word_of t.shape v))) wants in
    let said : next ≡ close_taken op (answer_to (close_wanted op) (s.core.words (word_of t.shape (close_wanted op)))) =
    took ∙ ap (λ (a : Ans). close_taken op a) answers in
    let keeps = keeper ∙ ap (λ (o : CloseOp). closing_keeper o (close_wanted o)) said in
    record {
      want = wants;
      replied = refl;
      again = refl;
      tried = refl;
      waits = refl;
      left = subst
          (λ (v : Want). IsOf t new (record {
            keeper = closing_keeper (close_taken op (answer_to (close_wanted op) (s.core.words (word_of t.shape (close_wanted op)))))
                (close_wanted (close_taken op (answer_to (close_wanted op) (s.core.words (word_of t.shape (close_wanted op))))));
            core = by_keeper t.shape v s.core;
          }))
          wants (keeper_left t old new s w ans _ is done keeps callers lists);
    }

-- ---- the restart
pub left_alone : (t : Setup) (middle new : RunState) (k l : Keeper) (core : Core) → IsOf t middle (record { keeper = k; core = core }) → new.device ≡ middle.device
    → new.keeper ≡ l → new.callers.items ≡ middle.callers.items → new.lists ≡ middle.lists → IsOf t new (record { keeper = l; core = core })
left_alone t middle new k l core is device keeper callers lists = record {
  shape = ap (λ (d : Memory). d.shape) device ∙ is.shape;
  callers = ap (λ (d : Memory). d.callers) device ∙ is.callers;
  traced = subst (λ (d : Memory). IsTraceOf (start_of t) core.trace d) (sym device) is.traced;
  words = is.words;
  keeper = keeper;
  its_callers = rw (callers, lists) is.its_callers;
  room = rw (callers, lists) is.room;
}

-- the run state stands for the state that a restart goes on with, or leaves to the callers
pub restarting_left : (t : Setup) (middle new : RunState) (k : Keeper) (core : Core) (op : RestartOp) (w : Want)
    → IsOf t middle (record { keeper = k; core = core }) → NoneTold middle.lists → new.device ≡ middle.device
    → new.keeper ≡ restarting_keeper op w → new.callers.items ≡ restarting_callers op w middle.callers.items → new.lists ≡ middle.lists
    → IsOf t new (restarting t.shape op w core)
restarting_left t middle new k core op (want.Load i) is none device keeper callers lists = left_alone t middle new k _ core is device keeper callers lists
restarting_left t middle new k core op (want.Store i x) is none device keeper callers lists = left_alone t middle new k _ core is device keeper callers lists
restarting_left t middle new k core op (want.Exchange i a b) is none device keeper callers lists =
    left_alone t middle new k _ core is device keeper callers lists
restarting_left t middle new k core op (want.Flush l) is none device keeper callers lists = left_alone t middle new k _ core is device keeper callers lists
restarting_left t middle new k core op want.Fence is none device keeper callers lists = left_alone t middle new k _ core is device keeper callers lists
restarting_left t middle new k core op want.Draw is none device keeper callers lists = left_alone t middle new k _ core is device keeper callers lists
restarting_left t middle new k core op want.Power is none device keeper callers lists = left_alone t middle new k _ core is device keeper callers lists
restarting_left t middle new k core op want.Done is none device keeper callers lists =
    let v = (started_by op).version in
    record {
      shape = ap (λ (d : Memory). d.shape) device ∙ is.shape;
      callers = ap (λ (d : Memory). d.callers) device ∙ is.callers;
      traced = subst (λ (d : Memory). IsTraceOf (start_of t) core.trace d) (sym device) is.traced;
      words = is.words;
      keeper = keeper;
      its_callers = rw (callers, lists) (awake_callers v middle.callers.items middle.lists none is.room ∙ ap (λ cs. map (awake v) cs) is.its_callers);
      room = rw (callers, lists) (awake_room v middle.callers.items middle.lists none is.room);
    }

pub restart_left : (t : Setup) (old new : RunState) (memory : Memory) (s : State) (op next : RestartOp) (w : Want) (ans : Ans) → IsOf t old s → NoneTold old.lists
    → WasDone old.device 0 w ans memory → w ≡ restart_wanted op → next ≡ restart_taken op ans → new.device ≡ memory
    → new.keeper ≡ restarting_keeper next (restart_wanted next)
    → new.callers.items ≡ restarting_callers next (restart_wanted next) old.callers.items → new.lists ≡ old.lists
    → IsAfter t (record { want = w; replied = false; again = false; tried = false; waits = false }) (restart_deed t.shape op s.core) new
restart_left t old new memory s op next w ans is none done wants took device keeper callers lists =
    let answers : ans ≡ answer_to (restart_wanted op) (s.core.words (word_of t.shape (restart_wanted op))) =
    answer_is t old s 0 w ans memory is done ∙ ap (λ (v : Want). answer_to v (s.core.words (word_of t.shape v))) wants in
    let said : next ≡ restart_taken op (answer_to (restart_wanted op) (s.core.words (word_of t.shape (restart_wanted op)))) =
    took ∙ ap (λ (a : Ans). restart_taken op a) answers in
    let middle : RunState = record old { device = memory } in
    let there : IsOf t middle (record { keeper = s.keeper; core = by_keeper t.shape w s.core }) =
    keeper_left t old middle s w ans s.keeper is done is.keeper refl refl in
    let gone : IsOf t new (restarting t.shape next (restart_wanted next) (by_keeper t.shape w s.core)) =
    restarting_left t middle new s.keeper (by_keeper t.shape w s.core) next (restart_wanted next) there none device keeper callers lists in
    record {
      want = wants;
      replied = refl;
      again = refl;
      tried = refl;
      waits = refl;
      left = subst (λ (o : RestartOp). IsOf t new (restarting t.shape o (restart_wanted o) (by_keeper t.shape (restart_wanted op) s.core))) said
          (subst (λ (v : Want). IsOf t new (restarting t.shape next (restart_wanted next) (by_keeper t.shape v s.core))) wants gone);
    }

-- ---- a call
-- what a caller made of an answer
pub record HasAnswered (r : PlayCaller) (call : Call) (e : Engine) (ans : Ans) (tried : Bool) (new : PlayCaller) (replied again : Bool) (entry : Option Entry) (waits : Bool) : Type 0 where
  pub caller : (told : List Entry) → length told ≡ r.ended → caller_of new (told_with entry told) ≡ answered (caller_of r told) call e ans
  pub count : new.ended ≡ counted_with entry r.ended
  pub calls : new.calls ≡ r.calls
  pub replied_is : replied ≡ ends_call (end_by r.site.geometry (taken e ans) (wanted (taken e ans)))
  pub again_is : again ≡ ends_in_again (end_by r.site.geometry (taken e ans) (wanted (taken e ans)))
  pub waits_is : waits ≡ (tried && op_part.is_waiting (taken e ans).op)

-- its attempt goes on
pub has_gone_on : (r next : PlayCaller) (call : Call) (e : Engine) (ans : Ans) (tried waits : Bool) → HasTaken r (taken e ans) next
    → ((told : List Entry) → length told ≡ r.ended → next.drew ≡ drawn_by (caller_of r told) call ans) → (wanted (taken e ans) ≡ want.Done → ⊥)
    → waits ≡ (tried && op_part.is_waiting (taken e ans).op) → HasAnswered r call e ans tried next false false None waits
has_gone_on r next call e ans tried waits is drew on waiting = record {
  caller = λ told many. answered_on r next call e ans told is (drew told many) on;
  count = ap (λ (q : PlayCaller). q.ended) is;
  calls = ap (λ (q : PlayCaller). q.calls) is;
  replied_is = ap (λ (o : Option End). ends_call o) (goes_on r.site.geometry (taken e ans) (wanted (taken e ans)) on);
  again_is = ap (λ (o : Option End). ends_in_again o) (goes_on r.site.geometry (taken e ans) (wanted (taken e ans)) on);
  waits_is = waiting;
}

-- its attempt has ended
pub has_come : (r next : PlayCaller) (call : Call) (e : Engine) (ans : Ans) (tried waits : Bool) (index : ℕ) (ending : Ending) (middle new : RunState)
    → HasTaken r (taken e ans) next
    → wanted (taken e ans) ≡ want.Done → (ended : HasEnded index call next (taken e ans) middle ending new)
    → waits ≡ (tried && op_part.is_waiting (taken e ans).op) → HasAnswered r call e ans tried ended.after ending.replied ending.again ended.entry waits
has_come r next call e ans tried waits index ending middle new is done ended waiting =
    let same : next.ended ≡ r.ended = ap (λ (q : PlayCaller). q.ended) is in
    let ends : Some (end_of (taken e ans)) ≡ end_by r.site.geometry (taken e ans) (wanted (taken e ans)) =
    ap (λ (w : Want). end_by r.site.geometry (taken e ans) w) (sym done) in
    record {
      caller = λ told many.
          answered_ended r next call e ans told (caller_of ended.after (told_with ended.entry told)) is done (ended.caller told (many ∙ sym same));
      count = ended.count ∙ ap (λ (n : ℕ). counted_with ended.entry n) same;
      calls = ended.calls ∙ ap (λ (q : PlayCaller). q.calls) is;
      replied_is = ended.replied ∙ ap (λ (o : Option End). ends_call o) ends;
      again_is = ended.again ∙ ap (λ (o : Option End). ends_in_again o) ends;
      waits_is = waiting;
    }

-- the caller at the index stands at that end, and its list has room
pub comes : (old middle : RunState) (index : ℕ) (call : Call) (r next : PlayCaller) (e : Engine) → HaveRoom old.callers.items old.lists
    → slice_get old.callers.items index ≡ Some r → slice_get r.calls.items r.ended ≡ Some call → HasTaken r e next → wanted e ≡ want.Done
    → middle.callers.items ≡ slice_set old.callers.items index next → middle.lists ≡ old.lists → HasCome index call next e middle
comes old middle index call r next e room its current is done callers lists =
    let listed = listed_at old.callers.items old.lists index r room its in
    let within = slice_get_within old.callers.items index r its in
    let long : length (slice_set old.callers.items index next) ≡ length old.callers.items = length-set old.callers.items index next in
    record {
      kept = listed.kept;
      is_there = ap (λ cs. slice_get cs index) callers
          ∙ slice_get_read (slice_set old.callers.items index next) (length (slice_set old.callers.items index next)) index next refl (omega arith)
          (sym (get_or-set_same old.callers.items index next next within));
      is_current = ap (λ (q : PlayCaller). slice_get q.calls.items q.ended) is ∙ current;
      its_engine = ap (λ (q : PlayCaller). q.engine) is;
      is_done = done;
      its_list = ap (λ ls. slice_get ls index) lists ∙ listed.its_list;
      spare = room_left r listed.kept call listed.room current;
    }

end_by_same : (a b : Shape) (e : Engine) (w : Want) → end_by a e w ≡ end_by b e w
end_by_same a b e (want.Load i) = refl
end_by_same a b e (want.Store i x) = refl
end_by_same a b e (want.Exchange i x y) = refl
end_by_same a b e (want.Flush l) = refl
end_by_same a b e want.Fence = refl
end_by_same a b e want.Draw = refl
end_by_same a b e want.Power = refl
end_by_same a b e want.Done = refl

pub call_left : (t : Setup) (old new : RunState) (s : State) (index number : ℕ) (call : Call) (e : Engine) (caller : Caller) (r after : PlayCaller) (w : Want)
    (ans : Ans) (tried replied again : Bool) (entry : Option Entry) (waits : Bool) → IsOf t old s → s.keeper ≡ Open → slice_get s.core.callers index ≡ Some caller
    → slice_get old.callers.items index ≡ Some r → slice_get r.calls.items r.ended ≡ Some call
    → number ≡ suc index → WasDone old.device number w ans new.device → w ≡ wanted e → HasAnswered r call e ans tried after replied again entry waits
    → new.keeper ≡ old.keeper → new.callers.items ≡ slice_set old.callers.items index after → new.lists ≡ lists_with old.lists index entry
    → tried ≡ tries_in_vain old.device.shape w ans → IsAfter t (record { want = w; replied = replied; again = again; tried = tried; waits = waits }) (engine_deed t.shape index s.core caller call e) new
call_left t old new s index number call e caller r after w ans tried replied again entry waits is opened there its current numbered was_done wants has keeper callers lists vain =
    let done : WasDone old.device (suc index) w ans new.device = subst (λ (n : ℕ). WasDone old.device n w ans new.device) numbered was_done in
    let listed = listed_at old.callers.items old.lists index r is.room its in
    let same : caller_of r listed.kept.entries ≡ caller =
    let a : slice_get s.core.callers index ≡ Some (caller_of r listed.kept.entries) = ap (λ cs. slice_get cs index) (sym is.its_callers) ∙ listed.its_caller in
    cc in
    let answers : ans ≡ answer_to (wanted e) (s.core.words (word_of t.shape (wanted e))) =
    answer_is t old s (suc index) w ans new.device is done ∙ ap (λ (v : Want). answer_to v (s.core.words (word_of t.shape v))) wants in
    let in_vain : tried ≡ tries_in_vain t.shape (wanted e) (answer_to (wanted e) (s.core.words (word_of t.shape (wanted e)))) =
    vain ∙ ap (λ (shape : Shape). tries_in_vain shape w ans) is.shape ∙ ap (λ (v : Want). tries_in_vain t.shape v ans) wants
    ∙ ap (λ (a : Ans). tries_in_vain t.shape (wanted e) a) answers in
    let moved : caller_of after (told_with entry listed.kept.entries) ≡ answered caller call e
    (answer_to (wanted e) (s.core.words (word_of t.shape (wanted e)))) =
    has.caller listed.kept.entries (sym listed.room.counted) ∙ ap (λ (c : Caller). answered c call e ans) same
    ∙ ap (λ (a : Ans). answered caller call e a) answers in
    let ends : end_by r.site.geometry (taken e ans) (wanted (taken e ans))
    ≡ end_by t.shape (taken e (answer_to (wanted e) (s.core.words (word_of t.shape (wanted e)))))
    (wanted (taken e (answer_to (wanted e) (s.core.words (word_of t.shape (wanted e)))))) =
    end_by_same r.site.geometry t.shape (taken e ans) (wanted (taken e ans))
    ∙ ap (λ (a : Ans). end_by t.shape (taken e a) (wanted (taken e a))) answers in
    let h = holds_after t old.device new.device s.core.words s.core.trace (suc index) w (holds_of t old s is) done.shape done.callers done.follows in
    let at_want : Holds t new.device (words_after t.shape (wanted e) (suc index) s.core.words)
    (event_of t.shape (wanted e) (s.core.words (word_of t.shape (wanted e))) (suc index) ∷ s.core.trace) =
    subst (λ (v : Want). Holds t new.device (words_after t.shape v (suc index) s.core.words)
    (event_of t.shape v (s.core.words (word_of t.shape v)) (suc index) ∷ s.core.trace)) wants h in
    record {
      want = wants;
      replied = has.replied_is ∙ ap (λ (o : Option End). ends_call o) ends;
      again = has.again_is ∙ ap (λ (o : Option End). ends_in_again o) ends;
      tried = in_vain;
      waits = has.waits_is ∙ ap (λ (b : Bool). b && op_part.is_waiting (taken e ans).op) in_vain
          ∙ ap (λ (a : Ans). waits_after t.shape (wanted e) (answer_to (wanted e) (s.core.words (word_of t.shape (wanted e)))) (taken e a)) answers;
      left = record {
        shape = at_want.shape;
        callers = at_want.callers;
        traced = at_want.traced;
        words = at_want.words_are;
        keeper = keeper ∙ is.keeper ∙ opened;
        its_callers = rw (callers, lists) (listed_set old.callers.items old.lists index r after entry listed.kept is.room listed.its_list
            ∙ ap (λ (c : Caller). slice_set (callers_of old.callers.items old.lists) index c) moved
            ∙ ap (λ cs. slice_set cs index (answered caller call e (answer_to (wanted e) (s.core.words (word_of t.shape (wanted e)))))) is.its_callers);
        room = rw (callers, lists) (room_set old.callers.items old.lists index after entry listed.kept is.room listed.its_list
            (has_room_more r after entry listed.kept call listed.room has.count has.calls current));
      };
    }
