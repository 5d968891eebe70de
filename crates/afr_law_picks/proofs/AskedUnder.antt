-- What the rule is asked for by the looks under the lock of a name is what the lines say.
use Rattle.std.proofs.Common.{◌≡◌, ◌∙◌, ℕ, ◌+◌, ◌==◌, ◌&&◌, nat_lt, not, Bool, true, false, List, [], ◌∷◌, Option, None, Some, refl, sym, ap, subst, arith, length, map, if◌then◌else◌}
use Rattle.std.specs.Prelude.{is_some}
use Rattle.std.proofs.lemmas.Bool.Decides.{nat_tests}
use Rattle.afr_base.specs.Bricks.{added, is_nothing, lowest, minus}
use Rattle.afr_base.specs.declared.ids.ActorId.{ActorId}
use Rattle.afr_base.specs.declared.ids.BrickId.{BrickId}
use Rattle.afr_base.specs.declared.ids.Gfid.{Gfid}
use Rattle.afr_base.specs.declared.ids.Kind.{Kind}
use Rattle.afr_base.specs.declared.ids.Kind.TheVariants.{Names}
use Rattle.afr_base.specs.declared.ids.NameId.{NameId}
use Rattle.afr_base.specs.declared.ids.Shape.{Shape}
use Rattle.afr_choice.specs.declared.looked.Looked.{Looked}
use Rattle.afr_client_entry.specs.Entry.{offered}
use Rattle.afr_client_entry.specs.Job.{change_of, name_of}
use Rattle.afr_client_entry.specs.declared.job.EntryJob.{EntryJob}
use Rattle.afr_client_entry.specs.declared.stage.Found.TheVariants.{Unread}
use Rattle.afr_law_client.proofs.Entry.Changing.{IsLike}
use Rattle.afr_law_client.proofs.Entry.Words.{area_is, longer, path_is, refused_there, steps_are, unread_fits}
use Rattle.afr_law_client.specs.Entry.EntryTelling.{ChangesName, command_of}
use Rattle.afr_law_client.proofs.Read.Quiet.{looking_more}
use Rattle.afr_lines.specs.Areas.{area_for, kind_for}
use Rattle.afr_lines.specs.Work.{Work}
use Rattle.afr_lines.specs.declared.answer.Told.{Told}
use Rattle.afr_lines.specs.declared.line.Line.{Line}
use Rattle.afr_lines.specs.declared.line.Line.TheVariants.{Ask}
use Rattle.afr_lines.specs.declared.reply.Reply.{Reply}
use Rattle.afr_lines.specs.declared.reply.Reply.TheVariants as reply
use Rattle.afr_lines.specs.declared.request.Area.{Area}
use Rattle.afr_lines.specs.declared.request.Request.TheVariants as request
use Rattle.afr_model.specs.Answered.{by_posts}
use Rattle.afr_model.specs.Chosen as model
use Rattle.afr_model.specs.Commands.{area_on, path_of, steps_of}
use Rattle.afr_model.specs.Refusals.{by_locks, by_name, or_else, refusal}
use Rattle.afr_model.specs.Showing.{Path, At, among, looked_by, looking, path_by}
use Rattle.afr_discipline.specs.Tests.{ends_low}
use Rattle.afr_object.specs.Tables.{object_of}
use Rattle.afr_object.specs.declared.entry.Entry.{Entry}
use Rattle.afr_plan.specs.declared.command.Command.{Command}
use Rattle.afr_plan.specs.declared.plan.Plan.{Plan}
use Rattle.afr_law_picks.proofs.Entry.{looks_of_lines}
use Rattle.afr_law_picks.proofs.Rule.{candidates_are, numbers_of}
use Rattle.afr_law_picks.specs.Readings.{are_over, asked_at, granted, kind_here, locked_here}
use Rattle.afr_rule.specs.declared.candidate.Candidate.{Candidate}
use Rattle.afr_client_transaction.specs.Outcome.{reply_of}
use Rattle.afr_client_transaction.specs.Progress.{TransactionProgress, answered_by, fed, is_beginning, left, may_start}
use Rattle.afr_client_transaction.specs.Sound.{Sound}
use Rattle.afr_client_transaction.specs.declared.stage.Stage.{Stage}
use Rattle.afr_client_transaction.specs.declared.stage.Stage.TheVariants.{Beginning, Closing, Looking}
use Rattle.afr_law_client.proofs.About.{passes}
use Rattle.afr_law_client.proofs.Over.{replies_exactly}
use Rattle.afr_law_client.specs.About.{IsFitting}
use Rattle.afr_law_client.specs.Tells.{AreAllowed, During, HasSets, OnBegin}
use Rattle.afr_client_walk.specs.Choosing.{candidates_of}

or_none : (x : Option Reply) → or_else x None ≡ x
or_none None = refl
or_none (Some reply) = refl

some_is : (x : Option Reply) (r : Reply) → x ≡ Some r → not (is_some x) ≡ false
some_is x r e = ap (λ (y : Option Reply). not (is_some y)) e

-- ---- the words
module _ (job : EntryJob) (path : List NameId) where
  one_more : length (path_of (command_of job path)) ≡ length path + 1
  one_more = ap (λ (names : List NameId). length names) (path_is job path) ∙ longer path (name_of job)

  pub before_last : nat_lt (steps_of (command_of job path)) (length (path_of (command_of job path))) ≡ true
  before_last = let e = steps_are job path in let f = one_more in grind (arith, nat_tests, e, f)

  pub not_last : (steps_of (command_of job path) == length (path_of (command_of job path))) ≡ false
  not_last = let e = steps_are job path in let f = one_more in grind (arith, nat_tests, e, f)

-- ---- a look at the directory
module _ (p : Plan) (job : EntryJob) (path : List NameId) (dir : Entry) (t : TransactionProgress) (chosen : BrickId) (lines : Work) (a : ActorId) (told : Told) (took : Bool) (log : List Line) (at : ℕ) where
  abbrev c : Command
  c = command_of job path

  abbrev g : Gfid
  g = object_of t.change

  abbrev b : BrickId
  b = record { 0 = lowest (left Looking t) }

  abbrev more : Work
  more = (Ask a b (request.Look g) told took, log) ∷ lines

  abbrev now : TransactionProgress
  now = fed Looking told at t

  module _ (like : IsLike t.change (change_of dir.gfid job)) (low : ends_low t.change ≡ true) (sets : HasSets t lines) (d : During Looking p.shape t lines) (tells : ChangesName p c job dir now (Unread chosen) more) (sound : Sound now) where
    area_of : area_on dir.gfid c ≡ Some (area_for t.change)
    area_of = area_is job path dir.gfid ∙ ap (λ (x : Area). Some x) (sym like.area)

    locked_is : locked_here p c (path_by p more) more ≡ t.asked.locked_on
    locked_is =
        ap (λ (x : Path). locked_here p c x more) tells.name.path
        ∙ (rw (not_last job path) refl)
        ∙ ap (λ (x : Option Area). granted x more) area_of
        ∙ sym sets.granted

    looked_is : among (looking g) more ≡ added b.0 t.asked.looked_at
    looked_is = looking_more g a b told took log lines ∙ ap (added b.0) (sym d.looks.at)

    over_is : are_over p c g more ≡ is_nothing (minus t.asked.locked_on (added b.0 t.asked.looked_at))
    over_is = (rw d.locked.locked refl) ∙ (λ i. is_nothing (minus (locked_is i) (looked_is i)))

    refusal_is : refusal p c more ≡ by_locks p.shape (kind_for t.change) (area_for t.change) more
    refusal_is =
        refused_there p job path dir more tells.place tells.directory
        ∙ ap (λ (x : Bool). or_else (if x then Some reply.Failed else None) (or_else (by_locks p.shape (kind_for (change_of dir.gfid job)) (area_for (change_of dir.gfid job)) more) (by_name p c dir (path_by p more) more))) tells.name.unrefused
        ∙ ap (λ (x : Option Reply). or_else (by_locks p.shape (kind_for (change_of dir.gfid job)) (area_for (change_of dir.gfid job)) more) x) (ap (λ (x : Path). by_name p c dir x more) tells.name.path ∙ unread_fits p job path dir more)
        ∙ or_none (by_locks p.shape (kind_for (change_of dir.gfid job)) (area_for (change_of dir.gfid job)) more)
        ∙ (λ i. by_locks p.shape (sym like.kind i) (sym like.area i) more)

    -- where the locks and looks allow the attempt
    allowed : now.stage ≡ Beginning → by_locks p.shape (kind_for t.change) (area_for t.change) more ≡ None
    allowed e = passes p more now sound tells.on.0.tells (begins (subst (λ (s : Stage). During s p.shape now more) e tells.on.0.tells.during))
      where
        begins : OnBegin p.shape now.change now.register.looked now.asked.looked_at more → AreAllowed p.shape now.change more
        begins k = k.allows

    -- and where not
    fitting : IsFitting p.shape.n now.change (looked_by (object_of now.change) more)
    fitting = record {
      low = low;
      fits = tells.on.0.fitting d.locked.locked;
    }

    refused : now.stage ≡ Closing → by_locks p.shape (kind_for t.change) (area_for t.change) more ≡ Some (reply_of now.change now.register)
    refused e =
        sym (or_none (by_locks p.shape (kind_for t.change) (area_for t.change) more))
        ∙ ap (λ (x : Option Reply). or_else (by_locks p.shape (kind_for t.change) (area_for t.change) more) x) (sym none)
        ∙ replies_exactly p more now sound tells.on.0.tells e fitting
      where
        none : by_posts p.shape more ≡ None
        none = rw tells.name.unbegun refl

    abbrev from : List (ℕ × ℕ)
    from = model.candidates_of p.shape Names (looked_by g more)

    abbrev copies : List Candidate
    copies = candidates_of now.register.shape now.register.looked Names

    copies_are : now.stage ≡ Beginning → from ≡ map numbers_of copies
    copies_are e =
        sym (candidates_are now.register.shape now.register.looked Names
        ∙ ap (λ (s : Shape). model.candidates_of s Names now.register.looked) tells.on.0.tells.shape_is
        ∙ ap (λ (l : Looked). model.candidates_of p.shape Names l) (looks_of_lines p more now tells.on.0.tells (ap is_beginning e)))

    abbrev x : TransactionProgress
    x = answered_by Looking b.0 told at t

    by_stage : (o : Bool) → is_nothing (left Looking x) ≡ o → (m : Bool) → may_start x.register x.change ≡ m
        → (if o && not (is_some (by_locks p.shape (kind_for t.change) (area_for t.change) more)) then from else []) ≡ map numbers_of (if is_beginning (if o then (if m then Beginning else Closing) else Looking) then copies else [])
    by_stage false over m may = refl
    by_stage true over true may =
        let stage_is : now.stage ≡ Beginning = λ i. if over i then (if may i then Beginning else Closing) else Looking in
        ap (λ (y : Option Reply). if not (is_some y) then from else []) (allowed stage_is) ∙ copies_are stage_is
    by_stage true over false may =
        let stage_is : now.stage ≡ Closing = λ i. if over i then (if may i then Beginning else Closing) else Looking in
        ap (λ (y : Bool). if y then from else []) (some_is (by_locks p.shape (kind_for t.change) (area_for t.change) more) _ (refused stage_is))

    pub under_asks : asked_at p c g (kind_here c (path_by p more)) more ≡ map numbers_of (offered now)
    under_asks =
        ap (λ (y : Path). asked_at p c g (kind_here c y) more) tells.name.path
        ∙ ap (λ (y : Option Kind). asked_at p c g y more) kind_is_names
        ∙ (λ i. if over_is i && not (is_some (refusal_is i)) then from else [])
        ∙ by_stage (is_nothing (left Looking x)) refl (may_start x.register x.change) refl
      where
        kind_is_names : kind_here c (At (steps_of c) dir) ≡ Some Names
        kind_is_names = rw (before_last job path) refl
