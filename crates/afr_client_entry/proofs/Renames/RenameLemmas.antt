-- A rename stays sound, whatever is heard, its register notes each line, and the discipline allows what it asks.
use Rattle.std.proofs.Common.{◌≡◌, ℕ, ◌-◌, ◌<◌, ◌≤◌, ◌&&◌, not, suc, zero, Bool, true, false, List, [], Some, None, length, slice_get, refl, sym, ap, subst, ◌∙◌, arith, inl, inr, if◌then◌else◌}
use Rattle.std.proofs.lemmas.Bool.{and_parts}
use Rattle.afr_base.specs.Bricks.{is_nothing, lowest}
use Rattle.afr_base.specs.Majority.{is_majority}
use Rattle.afr_base.specs.declared.ids.BrickId.{BrickId}
use Rattle.afr_base.specs.declared.ids.Gfid.{Gfid}
use Rattle.afr_base.specs.declared.ids.NameId.{NameId}
use Rattle.afr_base.specs.declared.ids.Shape.{Shape}
use Rattle.afr_base.specs.declared.ids.What.{What}
use Rattle.afr_base.specs.declared.ids.What.TheVariants.{File, Dir}
use Rattle.afr_object.specs.Tables.{is_dir, is_file}
use Rattle.afr_object.specs.declared.change.Change.{Change}
use Rattle.afr_lines.specs.Told.{told_by}
use Rattle.afr_lines.specs.declared.answer.Answer.{Answer}
use Rattle.afr_lines.specs.declared.answer.Answer.TheVariants as answer
use Rattle.afr_lines.specs.declared.answer.Told.{Told}
use Rattle.afr_lines.specs.declared.line.Heard.TheVariants as heard
use Rattle.afr_lines.specs.declared.line.Next.{Next}
use Rattle.afr_lines.specs.declared.line.Next.TheVariants as next
use Rattle.afr_lines.specs.declared.reply.Reply.TheVariants as reply
use Rattle.afr_lines.specs.declared.request.Request.{Request}
use Rattle.afr_model_moves.specs.Lines.{is_ok}
use Rattle.afr_discipline.specs.Notes.{noted_ask, noted_begin}
use Rattle.afr_discipline.specs.declared.register.Move.{Move}
use Rattle.afr_discipline.specs.declared.register.Move.TheVariants as move
use Rattle.afr_discipline.specs.declared.register.Register.{Register}
use Rattle.afr_rule.specs.Choosing.{Calls}
use Rattle.afr_client_walk.specs.Choosing.{IsAmong, reader_of}
use Rattle.afr_discipline.specs.Free.{Allows, IsFree}
use Rattle.afr_client_walk.specs.Walk as walks
use Rattle.afr_client_walk.specs.Walk.{is_walking, next_in, noted, walked, walked_at}
use Rattle.afr_client_walk.specs.declared.walk.Walk.{Walk}
use Rattle.afr_client_walk.specs.declared.walk.WalkStep.{WalkStep}
use Rattle.afr_client_walk.specs.declared.walk.WalkStep.TheVariants as walking
use Rattle.afr_client_walk.proofs.ChoosingLemmas.{answers_among}
use Rattle.afr_discipline.proofs.FreeLemmas.{allows_end, shape_is}
use Rattle.afr_client_walk.proofs.WalkLemmas.{asks_allowed, is_walked, walked_notes}
use Rattle.afr_client_transaction.specs.Laws as transaction
use Rattle.afr_client_transaction.specs.Outcome.{outcome_of, reply_for, reply_of}
use Rattle.afr_client_transaction.specs.Progress as progress
use Rattle.afr_client_transaction.specs.Progress.{TransactionProgress, after, answered_by, fed, is_beginning, left, starting}
use Rattle.afr_client_transaction.specs.Sound.{IsUnused, Sound, Suits}
use Rattle.afr_client_transaction.specs.declared.reply.TransactionOutcome.{TransactionOutcome}
use Rattle.afr_client_transaction.specs.declared.reply.TransactionOutcome.TheVariants as outcome
use Rattle.afr_client_transaction.specs.declared.stage.Stage.{Stage}
use Rattle.afr_client_transaction.specs.declared.stage.Stage.TheVariants.{Locking, Looking, Closing}
use Rattle.afr_client_transaction.proofs.Acknowledged.{acknowledged_exactly}
use Rattle.afr_client_transaction.proofs.Allowed.{allowed_moves, moves_of}
use Rattle.afr_client_transaction.proofs.Kept.{sound_first, stays_sound as transaction_stays}
use Rattle.afr_client_transaction.proofs.NoteLemmas.{fed_change, fed_notes, noted_as}
use Rattle.afr_client_transaction.specs.Again.Again.{IsPlain}
use Rattle.afr_client_transaction.proofs.Again.AgainLemmas.{plain_first, rests}
use Rattle.afr_client_transaction.proofs.Again.FollowsLemmas.{again_allowed, again_sound}
use Rattle.afr_client_transaction.proofs.Again.PlainLemmas.{plain_begun, plain_kept, plain_read}
use Rattle.afr_client_entry.specs.declared.stage.Found.{Found}
use Rattle.afr_client_entry.proofs.AskedLemmas.{moves, unused}
use Rattle.afr_client_entry.proofs.EntryLemmas.{fed_fits}
use Rattle.afr_client_entry.specs.Renames.Against.{against_new, against_old, half_reply, is_acknowledged}
use Rattle.afr_client_entry.specs.Renames.Laws.{AllowedNext, FedIsAnswered, NotesBegin, NotesEach, StaysSound}
use Rattle.afr_client_entry.specs.Renames.Paths.{IsPaths, first_walked, found_in, has_arrived, making_of, reads_new, reads_old, removal_of, second_walked}
use Rattle.afr_client_entry.specs.Renames.Rename.{IsMaking, IsRename, IsSound, after_first, after_second, at_directory, choices_at, choices_heard, first_left, is_done, is_over, making_after, next_at, paths_after, register_at, second_begun, second_left, stage_after, stage_begun, turned, unread}
use Rattle.afr_client_entry.specs.Renames.Under.{choices_under, next_under}
use Rattle.afr_client_entry.specs.declared.renaming.paths.Paths.{Paths}
use Rattle.afr_client_entry.specs.declared.renaming.stage.RenameStage.{RenameStage}
use Rattle.afr_client_entry.specs.declared.renaming.stage.RenameStage.TheVariants.{Finding, Walking, Making, Removing, Ending}
use Rattle.afr_client_entry.proofs.Renames.UnderLemmas.{allowed_under, begun_kept, plain_after, plain_begun_after, progress_kept, under_begins, under_notes}

-- ---- the walks
-- an answer leaves the path, and the bricks
pub walked_path : (chosen : BrickId) (a : Answer) (at : ℕ) (w : Walk) → (walked chosen a at w).path ≡ w.path
walked_path chosen a at w = go w.step a
  where
    go : (step : WalkStep) (a : Answer) → (walked_at chosen step a (noted (next_in w) (told_by a) at w)).path ≡ w.path
    go (walking.Looking s) a = refl
    go (walking.Naming b) (answer.Entry (Some entry)) = refl
    go (walking.Naming b) (answer.Entry None) = refl
    go (walking.Naming b) a = refl
    go walking.Arrived a = refl
    go (walking.Stopped why) a = refl

walked_shape : (chosen : BrickId) (a : Answer) (at : ℕ) (w : Walk) → (walked chosen a at w).shape ≡ w.shape
walked_shape chosen a at w = go w.step a
  where
    go : (step : WalkStep) (a : Answer) → (walked_at chosen step a (noted (next_in w) (told_by a) at w)).shape ≡ w.shape
    go (walking.Looking s) a = refl
    go (walking.Naming b) (answer.Entry (Some entry)) = refl
    go (walking.Naming b) (answer.Entry None) = refl
    go (walking.Naming b) a = refl
    go walking.Arrived a = refl
    go (walking.Stopped why) a = refl

pub first_paths : (chosen : BrickId) (a : Answer) (at : ℕ) (x : Paths) → IsPaths x → is_walking x.first.step ≡ true → IsAmong (walks.choices_of a x.first) chosen → IsPaths (first_walked chosen a at x)
first_paths chosen a at x k goes among =
    let s = is_walked chosen a at x.first k.first goes among in
    let shape = walked_shape chosen a at x.first in
    record {
      first = s;
      second = record { few = k.second.few; some = k.second.some; within = k.second.within; step = k.second.step; free = subst (λ (n : Shape). IsFree n (walked chosen a at x.first).register) (shape ∙ sym k.shape) s.free };
      shape = k.shape ∙ sym shape;
      old = subst (λ (path : List NameId). slice_get path (length path - 1) ≡ Some x.old_name) (sym (walked_path chosen a at x.first)) k.old;
    }

pub second_paths : (chosen : BrickId) (a : Answer) (at : ℕ) (x : Paths) → IsPaths x → is_walking x.second.step ≡ true → IsAmong (walks.choices_of a x.second) chosen → IsPaths (second_walked chosen a at x)
second_paths chosen a at x k goes among = record {
  first = k.first;
  second = is_walked chosen a at x.second k.second goes among;
  shape = walked_shape chosen a at x.second ∙ k.shape;
  old = k.old;
}

-- a work that has only looked and read has noted nothing of a heal
free_plain : (shape : Shape) (r : Register) → IsFree shape r → IsPlain r
free_plain shape r (inl e) = subst IsPlain (sym e) (plain_first shape).none
free_plain shape r (inr e) = subst IsPlain (sym e) (plain_first shape).free

making_suits : (x : Paths) (dir : Gfid) → Suits (making_of x dir)
making_suits x dir = record { valid = refl; kind = refl }

pub removal_suits : (x : Paths) → Suits (removal_of x)
removal_suits x = record { valid = refl; kind = refl }

-- what a transaction needs of the walk that it goes on from
pub second_unused : (x : Paths) → IsPaths x → IsUnused x.second.register × (x.second.register.shape.n ≤ 5) × (0 < x.second.register.shape.n)
second_unused x k =
    let shape = shape_is x.second.shape x.second.register k.second.free in
    (unused x.second.shape x.second.register k.second.free, rw shape k.second.few, rw shape k.second.some)

-- where the walks leave it
pub is_at_directory : (x : Paths) → IsPaths x → found_in x ≡ true → IsSound x (at_directory x)
is_at_directory x k found = go (is_dir x.second.object.what)
  where
    shape : x.second.register.shape ≡ x.second.shape
    shape = shape_is x.second.shape x.second.register k.second.free

    go : (d : Bool) → IsSound x (if d then Making (starting (making_of x x.second.object.gfid) x.second.register) unread else Ending reply.NotDir)
    go true = record {
      found_file = found;
      under = record {
        sound = sound_first x.second.register (making_of x x.second.object.gfid) (unused x.second.shape x.second.register k.second.free) (rw shape k.second.few) (rw shape k.second.some) (making_suits x x.second.object.gfid);
        of = refl;
        in_turn = refl;
        reads = λ h. absurd (cc h);
      };
      plain = free_plain x.second.shape x.second.register k.second.free;
    }
    go false = tt

pub is_after_second : (x : Paths) → IsPaths x → found_in x ≡ true → IsSound x (after_second x)
is_after_second x k found = go x.second.step refl
  where
    go : (step : WalkStep) → x.second.step ≡ step → IsSound x (second_left step x)
    go (walking.Looking s) e = (ap is_walking e, found)
    go (walking.Naming b) e = (ap is_walking e, found)
    go walking.Arrived e = is_at_directory x k found
    go (walking.Stopped why) e = tt

pub is_after_first : (x : Paths) → IsPaths x → IsSound x (after_first x)
is_after_first x k = go x.first.step refl
  where
    file : (what : What) → is_dir what ≡ false → is_file what ≡ true
    file File e = refl
    file Dir e = absurd (cc e)

    found : x.first.step ≡ walking.Arrived → is_dir x.first.object.what ≡ false → found_in x ≡ true
    found e f = subst (λ (step : WalkStep). (if has_arrived step then is_file x.first.object.what else false) ≡ true) (sym e) (file x.first.object.what f)

    arrived : (d : Bool) → x.first.step ≡ walking.Arrived → is_dir x.first.object.what ≡ d → IsSound x (if d then Ending reply.IsDir else after_second x)
    arrived true e f = tt
    arrived false e f = is_after_second x k (found e f)

    go : (step : WalkStep) → x.first.step ≡ step → IsSound x (first_left step x)
    go (walking.Looking s) e = ap is_walking e
    go (walking.Naming b) e = ap is_walking e
    go walking.Arrived e = arrived (is_dir x.first.object.what) e refl
    go (walking.Stopped why) e = tt

-- ---- the turn
pub over_not_done : (o d : Bool) → (o && not d) ≡ false → d ≡ false → o ≡ false
over_not_done true true e f = absurd (cc f)
over_not_done true false e f = absurd (cc e)
over_not_done false d e f = refl

pub acknowledged_is : (o : TransactionOutcome) → is_acknowledged o ≡ true → o ≡ outcome.Acknowledged
acknowledged_is outcome.Acknowledged e = refl
acknowledged_is outcome.NoQuorum e = absurd (cc e)
acknowledged_is outcome.FewCopies e = absurd (cc e)
acknowledged_is (outcome.SplitBrain views) e = absurd (cc e)
acknowledged_is outcome.Failed e = absurd (cc e)

some_bricks : (n : ℕ) (s : List ℕ) → is_majority n s ≡ true → 0 < n
some_bricks zero s e = absurd (cc e)
some_bricks (suc n) s e = omega arith

-- it is over, acknowledged, and of some bricks
pub done_is : (t : TransactionProgress) → Sound t → is_done t ≡ true → (progress.is_over t.stage t ≡ true) × (outcome_of t.change t.register ≡ outcome.Acknowledged) × (0 < t.register.shape.n)
done_is t s e =
    let b = and_parts (progress.is_over t.stage t) (is_acknowledged (outcome_of t.change t.register)) e in
    let o = acknowledged_is (outcome_of t.change t.register) b.1 in
    (b.0, o, some_bricks t.register.shape.n t.register.post ((acknowledged_exactly t s).1 o))

locked_waits : (y : TransactionProgress) → is_beginning (after Locking y) ≡ false
locked_waits y = go (is_nothing (left Locking y)) (is_majority y.register.shape.n y.asked.locked_on)
  where
    go : (over most : Bool) → is_beginning (if over then (if most then Looking else Closing) else Locking) ≡ false
    go true true = refl
    go true false = refl
    go false most = refl

pub after_lock : (told : Told) (at : ℕ) (t : TransactionProgress) → is_beginning (fed Locking told at t).stage ≡ false
after_lock told at t = locked_waits (answered_by Locking (lowest (left Locking t)) told at t)

-- with its first lock the second transaction is as sound as a first one
pub is_turned : (told : Told) (at : ℕ) (x : Paths) (t : TransactionProgress) (found : Found) → IsMaking x t found → is_done t ≡ true → IsSound x (second_begun told at x t)
is_turned told at x t found k e =
    let d = done_is t k.under.sound e in
    let f = again_sound rests transaction_stays t (removal_of x) told at k.under.sound k.plain d.2 d.0 (removal_suits x) in
    record {
      found_file = k.found_file;
      under = record {
        sound = subst Sound (sym f.alike) f.sound;
        of = fed_change Locking told at (turned x t);
        in_turn = fed_fits unread Locking told at (turned x t) refl refl;
        reads = λ h. absurd (cc (h, after_lock told at (turned x t)));
      };
    }

-- ---- what is heard
pub kept_answer : (chosen : BrickId) (stage : RenameStage) (a : Answer) (at : ℕ) (x : Paths) → IsRename x stage → is_over stage ≡ false → IsAmong (choices_at stage a at x) chosen
    → IsRename (paths_after chosen stage a at x) (stage_after chosen stage a at (paths_after chosen stage a at x))
kept_answer chosen Finding a at x k more among =
    let p = first_paths chosen a at x k.paths k.sound among in
    record { paths = p; sound = is_after_first (first_walked chosen a at x) p }
kept_answer chosen Walking a at x k more among =
    let p = second_paths chosen a at x k.paths k.sound.0 among in
    record { paths = p; sound = is_after_second (second_walked chosen a at x) p k.sound.1 }
kept_answer chosen (Making t found) a at x k more among = record { paths = k.paths; sound = go (is_done t) refl among }
  where
    go : (d : Bool) → is_done t ≡ d → IsAmong (if d then [] else choices_under found (told_by a) at t) chosen → IsSound x (if d then second_begun (told_by a) at x t else making_after chosen found a at x t)
    go true e h = is_turned (told_by a) at x t found k.sound e
    go false e h = record {
      found_file = k.sound.found_file;
      under = progress_kept chosen found (against_new a) (reads_new x) (told_by a) at (making_of x x.second.object.gfid) t refl refl k.sound.under (over_not_done (progress.is_over t.stage t) (is_done t) more e) h;
      plain = plain_after plain_kept plain_read found (against_new a) (reads_new x) (told_by a) at (making_of x x.second.object.gfid) t refl k.sound.under k.sound.plain;
    }
kept_answer chosen (Removing t found) a at x k more among = record {
  paths = k.paths;
  sound = record {
    found_file = k.sound.found_file;
    under = progress_kept chosen found (against_old x.first.object.gfid a) (reads_old x) (told_by a) at (removal_of x) t refl refl k.sound.under more among;
  };
}
kept_answer chosen (Ending said) a at x k more among = absurd (cc more)

pub kept_begun : (stage : RenameStage) (at : ℕ) (x : Paths) → IsRename x stage → IsRename x (stage_begun stage at)
kept_begun Finding at x k = k
kept_begun Walking at x k = k
kept_begun (Making t found) at x k = record {
  paths = k.paths;
  sound = record { found_file = k.sound.found_file; under = begun_kept found at (making_of x x.second.object.gfid) t k.sound.under; plain = plain_begun_after plain_begun found at t k.sound.plain };
}
kept_begun (Removing t found) at x k = record { paths = k.paths; sound = record { found_file = k.sound.found_file; under = begun_kept found at (removal_of x) t k.sound.under } }
kept_begun (Ending said) at x k = k

-- whatever is heard of the next line, a rename stays sound
pub stays_sound : StaysSound
stays_sound m k more chosen (heard.Answer a at) among = kept_answer chosen m.stage a at m.paths k more among
stays_sound m k more chosen (heard.Begun at) among = kept_begun m.stage at m.paths k

-- what a rename has heard by some rule, it has heard by any rule
pub fed_is_answered : {F : Type 0} (calls : Calls F) (choose : F) → FedIsAnswered calls choose
fed_is_answered calls choose of old new k = record { chosen = reader_of k.picked; among = answers_among calls choose (choices_heard of old) k.picked k.answers; value = k.value }

-- ---- the register
second_register : (step : WalkStep) (x : Paths) → register_at (second_left step x) x ≡ x.second.register
second_register (walking.Looking s) x = refl
second_register (walking.Naming b) x = refl
second_register walking.Arrived x = go (is_dir x.second.object.what)
  where
    go : (d : Bool) → register_at (if d then Making (starting (making_of x x.second.object.gfid) x.second.register) unread else Ending reply.NotDir) x ≡ x.second.register
    go true = refl
    go false = refl
second_register (walking.Stopped why) x = refl

first_register : (step : WalkStep) (x : Paths) → x.second.register ≡ x.first.register → register_at (first_left step x) x ≡ x.first.register
first_register (walking.Looking s) x e = refl
first_register (walking.Naming b) x e = refl
first_register walking.Arrived x e = go (is_dir x.first.object.what)
  where
    go : (d : Bool) → register_at (if d then Ending reply.IsDir else after_second x) x ≡ x.first.register
    go true = e
    go false = second_register x.second.step x ∙ e
first_register (walking.Stopped why) x e = e

notes_at : (stage : RenameStage) (x : Paths) (at : ℕ) (brick : BrickId) (request : Request) → next_at at stage x ≡ next.Ask brick request → (chosen : BrickId) (a : Answer)
    → register_at (stage_after chosen stage a at (paths_after chosen stage a at x)) (paths_after chosen stage a at x) ≡ noted_ask (register_at stage x) at brick.0 request (told_by a)
notes_at Finding x at brick request e chosen a =
    first_register (walked chosen a at x.first).step (first_walked chosen a at x) refl ∙ walked_notes chosen x.first.step a (noted (next_in x.first) (told_by a) at x.first)
    ∙ noted_as x.first.register at (next_in x.first).0 brick (next_in x.first).1 request (told_by a) e
notes_at Walking x at brick request e chosen a =
    second_register (walked chosen a at x.second).step (second_walked chosen a at x) ∙ walked_notes chosen x.second.step a (noted (next_in x.second) (told_by a) at x.second)
    ∙ noted_as x.second.register at (next_in x.second).0 brick (next_in x.second).1 request (told_by a) e
notes_at (Making t found) x at brick request e chosen a = go (is_done t) e
  where
    go : (d : Bool) → (if d then progress.next_at Locking at (turned x t) else next_under found at (reads_new x) t) ≡ next.Ask brick request
        → register_at (if d then second_begun (told_by a) at x t else making_after chosen found a at x t) x ≡ noted_ask t.register at brick.0 request (told_by a)
    go true e = fed_notes Locking (turned x t) at brick request (told_by a) e
    go false e = under_notes found (against_new a) (reads_new x) t at brick request e (told_by a)
notes_at (Removing t found) x at brick request e chosen a = go (progress.is_over t.stage t) e
  where
    go : (d : Bool) → (if d then next.End (half_reply (outcome_of t.change t.register)) else next_under found at (reads_old x) t) ≡ next.Ask brick request
        → register_at (stage_after chosen (Removing t found) a at x) x ≡ noted_ask t.register at brick.0 request (told_by a)
    go true e = absurd (cc e)
    go false e = under_notes found (against_old x.first.object.gfid a) (reads_old x) t at brick request e (told_by a)
notes_at (Ending said) x at brick request e chosen a = absurd (cc e)

-- the register notes each request, and what was told
pub notes_each : NotesEach
notes_each m at brick request e chosen a = notes_at m.stage m.paths at brick request e chosen a

begins_notes : (stage : RenameStage) (x : Paths) (at : ℕ) (change : Change) → next_at at stage x ≡ next.Begin change → register_at (stage_begun stage at) x ≡ noted_begin (register_at stage x) at
begins_notes Finding x at change e = absurd (cc e)
begins_notes Walking x at change e = absurd (cc e)
begins_notes (Making t found) x at change e = go (is_done t) e
  where
    go : (d : Bool) → (if d then progress.next_at Locking at (turned x t) else next_under found at (reads_new x) t) ≡ next.Begin change → register_at (stage_begun (Making t found) at) x ≡ noted_begin t.register at
    go true e = absurd (cc e)
    go false e = under_begins found (reads_new x) t at change e
begins_notes (Removing t found) x at change e = go (progress.is_over t.stage t) e
  where
    go : (d : Bool) → (if d then next.End (half_reply (outcome_of t.change t.register)) else next_under found at (reads_old x) t) ≡ next.Begin change → register_at (stage_begun (Removing t found) at) x ≡ noted_begin t.register at
    go true e = absurd (cc e)
    go false e = under_begins found (reads_old x) t at change e
begins_notes (Ending said) x at change e = absurd (cc e)

-- and the number of each attempt
pub notes_begin : NotesBegin
notes_begin m at change e chosen = begins_notes m.stage m.paths at change e

-- ---- what is allowed
half_ok : (o : TransactionOutcome) → is_ok (half_reply o) ≡ is_ok (reply_for o)
half_ok outcome.Acknowledged = refl
half_ok outcome.NoQuorum = refl
half_ok outcome.FewCopies = refl
half_ok (outcome.SplitBrain views) = refl
half_ok outcome.Failed = refl

-- where a transaction is over its next line is the end
over_ends : (t : TransactionProgress) (at : ℕ) → progress.is_over t.stage t ≡ true → progress.next_at t.stage at t ≡ next.End (reply_of t.change t.register)
over_ends t at e = go t.stage e
  where
    go : (stage : Stage) → progress.is_over stage t ≡ true → progress.next_at stage at t ≡ next.End (reply_of t.change t.register)
    go Closing e = rw e refl
    go stage e = absurd (cc e)

half_allowed : (t : TransactionProgress) → Sound t → progress.is_over t.stage t ≡ true → (at : ℕ) → Allows t.register (next.End (half_reply (outcome_of t.change t.register)))
half_allowed t s over at = λ of is. allowed_moves t s at of (subst (λ (line : Next). transaction.IsMoveOf line of) (sym (over_ends t at over)) (as_reply of (moves (next.End (half_reply (outcome_of t.change t.register))) of is)))
  where
    as_reply : (of : Move) → transaction.IsMoveOf (next.End (half_reply (outcome_of t.change t.register))) of → transaction.IsMoveOf (next.End (reply_of t.change t.register)) of
    as_reply (move.End ok) is = is ∙ half_ok (outcome_of t.change t.register)
    as_reply of is = absurd is

turn_allowed : (x : Paths) (t : TransactionProgress) (found : Found) → IsMaking x t found → is_done t ≡ true → (at : ℕ) → Allows t.register (progress.next_at Locking at (turned x t))
turn_allowed x t found k e at =
    let d = done_is t k.under.sound e in
    λ of is. moves_of t.register (progress.next_at Locking at (turned x t)) of k.under.sound.base.outside
    (again_allowed rests acknowledged_exactly t (removal_of x) at k.under.sound d.2 d.0 d.1 (removal_suits x)) (moves (progress.next_at Locking at (turned x t)) of is)

allowed_at : (stage : RenameStage) (x : Paths) → IsRename x stage → (at : ℕ) → Allows (register_at stage x) (next_at at stage x)
allowed_at Finding x k at = asks_allowed x.first k.paths.first k.sound
allowed_at Walking x k at = asks_allowed x.second k.paths.second k.sound.0
allowed_at (Making t found) x k at = go (is_done t) refl
  where
    go : (d : Bool) → is_done t ≡ d → Allows t.register (if d then progress.next_at Locking at (turned x t) else next_under found at (reads_new x) t)
    go true e = turn_allowed x t found k.sound e at
    go false e = allowed_under found (reads_new x) (making_of x x.second.object.gfid) t refl k.sound.under at
allowed_at (Removing t found) x k at = go (progress.is_over t.stage t) refl
  where
    go : (d : Bool) → progress.is_over t.stage t ≡ d → Allows t.register (if d then next.End (half_reply (outcome_of t.change t.register)) else next_under found at (reads_old x) t)
    go true e = half_allowed t k.sound.under.sound e at
    go false e = allowed_under found (reads_old x) (removal_of x) t refl k.sound.under at
allowed_at (Ending said) x k at = allows_end x.second.shape x.second.register said k.paths.second.free

-- whatever the bricks have answered so far, the next line is allowed
pub allowed_next : AllowedNext
allowed_next m k at = allowed_at m.stage m.paths k at
