-- The first lock of the old name: with it the second transaction begins, on the walk to the directory.
use Rattle.std.proofs.Common.{◌≡◌, ◌-◌, Bool, true, false, List, ◌∷◌, ◌++◌, Some, None, length, refl, sym, ◌∙◌, subst, inr}
use Rattle.afr_base.specs.Bricks.{lowest}
use Rattle.afr_base.specs.declared.ids.ActorId.{ActorId}
use Rattle.afr_base.specs.declared.ids.BrickId.{BrickId}
use Rattle.afr_base.specs.declared.ids.NameId.{NameId}
use Rattle.afr_discipline.specs.Tests.{fits_view}
use Rattle.afr_lines.specs.Work.{Work}
use Rattle.afr_lines.specs.declared.answer.Told.{Told}
use Rattle.afr_lines.specs.declared.line.Line.{Line}
use Rattle.afr_lines.specs.declared.line.Line.TheVariants.{Ask}
use Rattle.afr_lines.specs.declared.line.Next.TheVariants as next
use Rattle.afr_lines.specs.declared.request.Request.{Request}
use Rattle.afr_object.specs.Tables.{object_of}
use Rattle.afr_object.specs.declared.change.Change.{Change}
use Rattle.afr_object.specs.declared.entry.View.{View}
use Rattle.afr_plan.specs.declared.plan.Plan.{Plan}
use Rattle.afr_model.specs.Parts.{is_again, the_make, the_walk, upto_names}
use Rattle.afr_model.specs.Renamed.{AreLegs}
use Rattle.afr_model.specs.Showing.{NotAsked, has, reading_by, refuses_read}
use Rattle.afr_model.specs.Standing.{locks_any}
use Rattle.afr_model.proofs.Cut.Cut.{asked_before, first_all}
use Rattle.afr_client_transaction.specs.Progress.{TransactionProgress, fed, left, next_at as next_change, request_at, starting}
use Rattle.afr_client_transaction.specs.Sound.{Sound, Suits}
use Rattle.afr_client_transaction.specs.declared.stage.Stage.TheVariants.{Locking}
use Rattle.afr_client_transaction.proofs.Kept.{sound_first, stays_sound}
use Rattle.afr_law_client.specs.Tells.{AreIdle}
use Rattle.afr_law_client.proofs.Calm.{calm_first}
use Rattle.afr_law_client.proofs.Excused.{excused_first}
use Rattle.afr_law_client.proofs.First.{tells_first}
use Rattle.afr_client_transaction.specs.Again.Again.{FollowsOn, opened}
use Rattle.afr_client_transaction.proofs.Again.AgainLemmas.{rests}
use Rattle.afr_client_transaction.proofs.Again.FollowsLemmas.{again_sound}
use Rattle.afr_client_entry.specs.declared.job.EntryJob.TheVariants.{Unlink}
use Rattle.afr_client_entry.specs.declared.stage.Found.{Found}
use Rattle.afr_law_client.specs.Read.Lines.{OnlyReads}
use Rattle.afr_law_client.specs.Read.WalkLaws.{IsUntouched}
use Rattle.afr_law_client.proofs.Read.ReadsMore.{asks_same}
use Rattle.afr_law_client.proofs.Read.Untouched.{touches_nothing}
use Rattle.afr_law_client.specs.Write.WriteTelling.{CanTell}
use Rattle.afr_law_client.specs.Entry.EntryTelling.{OnChange, TransactionGoes}
use Rattle.afr_law_client.proofs.Entry.Held.{holds_first}
use Rattle.afr_law_client.proofs.Entry.Names.{upto_stays}
use Rattle.afr_law_client.proofs.Entry.Words.{suits_view}
use Rattle.afr_client_entry.specs.Renames.Paths.{removal_of}
use Rattle.afr_client_entry.specs.Renames.Rename.{IsMaking, is_done, turned, unread}
use Rattle.afr_client_entry.specs.declared.renaming.paths.Paths.{Paths}
use Rattle.afr_client_entry.proofs.Renames.RenameLemmas.{done_is}
use Rattle.afr_law_client.proofs.Second.HeldLemmas.{acknowledged_unlocks}
use Rattle.afr_law_client.specs.Rename.RenameTelling.{DropsOldName, HasWalked, MakesNewName, Removes, old_dir}
use Rattle.afr_law_client.proofs.Rename.MakingLocks.{asked_on}
use Rattle.afr_law_client.proofs.Rename.MakingParts.{again_by, has_append, one_less, or_left, tail_upto, upto_twice}
use Rattle.afr_law_client.proofs.Rename.MakingWalked.{unlocks_only, whole}
use Rattle.afr_law_client.proofs.Rename.RemovingPrefix.{all_before, few_upto, legs_before, none_before, only_before, unread_before, upto_whole}
use Rattle.afr_law_client.proofs.Rename.RemovingTurn.{HasMade, made_done, removes_more}

-- ---- the walk to the directory
module _ (p : Plan) (x : Paths) (lines : Work) (k : HasWalked p x lines) where
  abbrev from : List NameId
  from = x.first.path

  abbrev pub prefix : Work
  prefix = upto_names (length from - 1) lines

  -- it is a part of the walk
  within : upto_names (length from - 1) (the_walk from lines) ≡ prefix
  within = upto_twice (length from - 1) (length from) lines (one_less (length from))

  pub prefix_only : OnlyReads p.shape.n prefix
  prefix_only = subst (λ (w : Work). OnlyReads p.shape.n w) within (tail_upto (λ (w : Work). OnlyReads p.shape.n w) (only_before p.shape.n) (length from - 1) (the_walk from lines) k.goes.only)

  pub prefix_untouched : IsUntouched prefix
  prefix_untouched = touches_nothing p.shape.n prefix prefix_only

  pub prefix_unread : reading_by p prefix ≡ NotAsked
  prefix_unread = subst (λ (w : Work). reading_by p w ≡ NotAsked) within (tail_upto (λ (w : Work). reading_by p w ≡ NotAsked) (unread_before p) (length from - 1) (the_walk from lines) k.goes.unread)

  pub prefix_unrefused : has refuses_read prefix ≡ false
  prefix_unrefused = subst (λ (w : Work). has refuses_read w ≡ false) within (tail_upto (λ (w : Work). has refuses_read w ≡ false) (none_before refuses_read) (length from - 1) (the_walk from lines) k.goes.unrefused)

  prefix_idle : AreIdle prefix
  prefix_idle = let free = prefix_untouched in record {
    unbegun = free.unbegun;
    no_pre = free.none_preparing;
    no_pre_did = free.none_prepared;
    no_apply = free.none_applying;
    no_apply_did = free.none_applied;
    no_post = free.none_posting;
    no_post_did = free.none_posted;
  }

-- ---- the first lock
module _ (p : Plan) (x : Paths) (t : TransactionProgress) (found : Found) (lines : Work) (a : ActorId) (log : List Line) (k : MakesNewName p x t found lines) (sound : IsMaking x t found) (done : is_done t ≡ true) where
  abbrev change : Change
  change = removal_of x

  abbrev start : TransactionProgress
  start = starting change (opened t.register.shape)

  walked : HasWalked p x lines
  walked = k.on.walked

  suits : Suits change
  suits = record { valid = refl; kind = refl }

  follows : (told : Told) → FollowsOn t change told (length log)
  follows told =
      let d = done_is t sound.under.sound done in
      again_sound rests stays_sound t change told (length log) sound.under.sound sound.plain d.2 d.0 suits

  start_sound : Sound start
  start_sound = let d = done_is t sound.under.sound done in sound_first (opened t.register.shape) change (inr refl) sound.under.sound.base.few d.2 suits

  abbrev before : Work
  before = prefix p x lines walked

  -- it finds a work that has only walked to the directory
  start_goes : t.register.shape ≡ p.shape → TransactionGoes p start before
  start_goes shape = let free = prefix_untouched p x lines walked in let idle = prefix_idle p x lines walked in record {
    tells = tells_first p before start (record {
      shape_is = shape;
      stage_is = refl;
      nobody = refl;
      unseen = refl;
      first = refl;
      no_pre = refl;
      no_apply = refl;
      no_post = refl;
      unlocked = free.none_locked;
      idle = idle;
      looked = λ g apart seen b l. all_before p.shape.n (length x.first.path - 1) lines legs free.none_locked (asked_before (length x.first.path) lines walked.all) g seen b l;
    });
    excused = excused_first before free.none_locked idle;
    calm = calm_first before idle;
    fitting = λ locked. absurd (cc (locked, free.object_unlocked (object_of change)));
  }
    where
      legs : AreLegs p.shape.n before
      legs = tail_upto (λ (w : Work). AreLegs p.shape.n w) (legs_before p.shape.n) (length x.first.path - 1) lines (subst (λ (w : Work). AreLegs p.shape.n w) (first_all lines k.on.first) walked.legs)

  abbrev pub own : BrickId
  own = record { 0 = lowest (left Locking (turned x t)) }

  abbrev pub asked : Request
  asked = request_at Locking (turned x t)

  module _ (told : Told) (took : Bool) where
    abbrev line : Line
    line = Ask a own asked told took

    abbrev more : Work
    more = (line, log) ∷ lines

    abbrev after : TransactionProgress
    after = fed Locking told (length log) (turned x t)

    -- the first transaction has given its locks back
    pub is_second : is_again line lines ≡ true
    is_second =
        let d = done_is t sound.under.sound done in
        again_by line lines k.on.first
        ∙ unlocks_only p x lines k.on
        ∙ acknowledged_unlocks (the_make x.first.path lines) t sound.under.sound k.holds d.0 d.1

    -- what the first one has made
    stands : HasMade p x lines
    stands =
        let d = made_done p x t found lines k sound done in
        record { walked = walked; locked = subst (λ (w : Work). has locks_any w ≡ true) (sym (first_all lines k.on.first)) (has_locked d.1); last_leg = k.last_leg; done = d.0 }
      where
        has_locked : has locks_any (the_make x.first.path lines) ≡ true → has locks_any lines ≡ true
        has_locked locked =
            subst (λ (w : Work). has locks_any w ≡ true) (whole p x lines k.on)
            (has_append locks_any (the_make x.first.path lines) (the_walk x.first.path lines) ∙ or_left (has locks_any (the_make x.first.path lines)) (has locks_any (the_walk x.first.path lines)) locked)

    shows_view : (view : View) → view.what ≡ (old_dir x).what → fits_view (Some view) change ≡ true
    shows_view view e = suits_view x.dir (Unlink x.old_name) (old_dir x) view refl e

    on_lock : t.register.shape ≡ p.shape → CanTell (old_dir x) asked told → OnChange unread p after ((line, log) ∷ before)
    on_lock shape can = subst (λ (y : TransactionProgress). OnChange unread p y ((line, log) ∷ before)) (sym (follows told).alike)
        (asked_on p before a log start start_sound (old_dir x) shows_view own asked told took refl unread (record { 0 = 0 }) None asked refl
        (start_goes shape, holds_first change t.register.shape (opened t.register.shape) p.shape.n before (inr refl) (prefix_untouched p x lines walked).none_locked (prefix_only p x lines walked)) can)

    drops : t.register.shape ≡ p.shape → CanTell (old_dir x) asked told → DropsOldName p x after unread ((line, log) ∷ before)
    drops shape can = record {
      place = upto_stays (length x.first.path - 1) p before line log (old_dir x) (upto_whole p (length x.first.path - 1) before (few_upto (length x.first.path - 1) lines) ∙ walked.in_dir);
      unread = prefix_unread p x lines walked;
      name = record { path = walked.in_dir; unrefused = prefix_unrefused p x lines walked; unbegun = (prefix_untouched p x lines walked).unbegun };
      on = on_lock shape can;
    }

    pub turns : t.register.shape ≡ p.shape → CanTell (old_dir x) asked told → Removes p x after unread more
    turns shape can =
        removes_more p x lines line log after unread is_second stands tt
        (subst (λ (w : Work). DropsOldName p x after unread ((line, log) ∷ (w ++ before))) (sym k.on.first) (drops shape can))

  -- whatever it is told
  pub turn_more : t.register.shape ≡ p.shape → (b : BrickId) (request : Request) (told : Told) (took : Bool) → next_change Locking (length log) (turned x t) ≡ next.Ask b request → CanTell (old_dir x) request told
      → Removes p x (fed Locking told (length log) (turned x t)) unread ((Ask a b request told took, log) ∷ lines)
  turn_more shape b request told took e can =
      asks_same (λ (d : BrickId) (r : Request). CanTell (old_dir x) r told → Removes p x (fed Locking told (length log) (turned x t)) unread ((Ask a d r told took, log) ∷ lines))
      own b asked request e (λ can. turns told took shape can) can
