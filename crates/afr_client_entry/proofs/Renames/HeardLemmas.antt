-- What a rename hears is an answer to what its next line has asked.
use Rattle.std.proofs.Common.{◌≡◌, ℕ, ◌<◌, Bool, true, false, List, [], Option, refl, ap, subst, sym, ◌∙◌, if◌then◌else◌}
use Rattle.afr_base.specs.declared.ids.BrickId.{BrickId}
use Rattle.afr_base.specs.declared.ids.Kind.TheVariants.{Names}
use Rattle.afr_object.specs.declared.change.Change.{Change}
use Rattle.afr_choice.specs.VerdictLemmas.{good_below}
use Rattle.afr_lines.specs.Areas.{kind_for}
use Rattle.afr_lines.specs.Told.{told_by}
use Rattle.afr_lines.specs.declared.answer.Answer.{Answer}
use Rattle.afr_lines.specs.declared.answer.Told.{Told}
use Rattle.afr_lines.specs.declared.line.Next.TheVariants as next
use Rattle.afr_lines.specs.declared.request.Request.{Request}
use Rattle.afr_rule.specs.Choosing.{Calls}
use Rattle.afr_rule.specs.declared.candidate.Candidate.{Candidate}
use Rattle.afr_client_walk.specs.Choosing.{RuleAnswers, reader_of}
use Rattle.afr_client_walk.specs.Walk as walks
use Rattle.afr_client_walk.specs.Walk.{is_walking, walked}
use Rattle.afr_client_walk.specs.declared.walk.Walk.{Walk}
use Rattle.afr_client_walk.proofs.ChoosingLemmas.{answers_among}
use Rattle.afr_client_transaction.specs.Between.{is_read, noted_read}
use Rattle.afr_client_transaction.specs.Progress as progress
use Rattle.afr_client_transaction.specs.Progress.{TransactionProgress, fed, is_beginning, told_to}
use Rattle.afr_client_transaction.specs.declared.stage.Stage.{Stage}
use Rattle.afr_client_transaction.specs.declared.stage.Stage.TheVariants.{Locking}
use Rattle.afr_client_transaction.proofs.NoteLemmas.{fed_change}
use Rattle.afr_client_entry.specs.Entry.{found_by, offered, settled}
use Rattle.afr_client_entry.specs.Job.{reply_to}
use Rattle.afr_client_entry.specs.declared.refusal.Refusal.{Refusal}
use Rattle.afr_client_entry.specs.declared.stage.Found.{Found}
use Rattle.afr_client_entry.specs.declared.stage.Found.TheVariants.{Unread, Fits, Refused}
use Rattle.afr_client_entry.proofs.HeardLemmas.{is_unread}
use Rattle.afr_client_entry.specs.Renames.Against.{against_new, against_old}
use Rattle.afr_client_entry.specs.Renames.Paths.{IsPaths, found_in, reads_new, reads_old}
use Rattle.afr_client_entry.specs.Renames.Rename.{IsRename, after_first, after_second, choices_at, is_done, is_over, making_after, making_next, paths_after, second_begun, stage_after, turned, turned_anew}
use Rattle.afr_client_entry.specs.Renames.Under.{IsUnder, choices_under, found_after, next_under, progress_after}
use Rattle.afr_client_entry.specs.declared.renaming.paths.Paths.{Paths}
use Rattle.afr_client_entry.proofs.Renames.RenameLemmas.{first_paths, is_after_first, is_after_second, is_turned, kept_answer, second_paths}
use Rattle.afr_client_entry.specs.declared.renaming.stage.RenameStage.{RenameStage}
use Rattle.afr_client_entry.specs.declared.renaming.stage.RenameStage.TheVariants.{Walking, Making, Removing}

-- ---- while the name isn't asked for
pub unread_asks : (asked : Request) (t : TransactionProgress) (reader b : BrickId) (q : Request) (at : ℕ) → is_beginning t.stage ≡ false → next_under (Unread reader) at asked t ≡ next.Ask b q → progress.next_at t.stage at t ≡ next.Ask b q
unread_asks asked t reader b q at f e = go (is_beginning t.stage) f e
  where
    go : (x : Bool) → x ≡ false → (if x then next.Ask reader asked else progress.next_at t.stage at t) ≡ next.Ask b q → progress.next_at t.stage at t ≡ next.Ask b q
    go true f e = absurd (cc f)
    go false f e = e

pub progress_fed : (why : Option Refusal) (asked : Request) (t x : TransactionProgress) (reader : BrickId) (at : ℕ) (told : Told) → is_beginning t.stage ≡ false → x ≡ fed t.stage told at t → x ≡ progress_after (Unread reader) why asked told at t
progress_fed why asked t x reader at told f ex = go (is_beginning t.stage) f
  where
    go : (s : Bool) → s ≡ false → x ≡ (if s then settled why (noted_read reader.0 asked told at t) else fed t.stage told at t)
    go true f = absurd (cc f)
    go false f = ex

-- the rule is asked for what the answer has left
pub offered_fed : (t x : TransactionProgress) (reader : BrickId) (at : ℕ) (told : Told) → is_beginning t.stage ≡ false → x ≡ fed t.stage told at t → offered x ≡ choices_under (Unread reader) told at t
offered_fed t x reader at told f ex = go (is_beginning t.stage) f
  where
    go : (s : Bool) → s ≡ false → offered x ≡ (if s then [] else offered (fed t.stage told at t))
    go true f = absurd (cc f)
    go false f = ap offered ex

pub found_unread : (chosen x reader : BrickId) (why : Option Refusal) (stage : Stage) → is_beginning stage ≡ false → x ≡ chosen → Unread x ≡ found_after chosen (Unread reader) why stage
found_unread chosen x reader why stage f ex = go (is_beginning stage) f
  where
    go : (s : Bool) → s ≡ false → Unread x ≡ (if s then found_by why else Unread chosen)
    go true f = absurd (cc f)
    go false f = ap Unread ex

-- the change stays that of a name
pub names_fed : (t x : TransactionProgress) (at : ℕ) (told : Told) → kind_for t.change ≡ Names → x ≡ fed t.stage told at t → kind_for x.change ≡ Names
names_fed t x at told names ex = ap (λ (p : TransactionProgress). kind_for p.change) ex ∙ ap kind_for (fed_change t.stage told at t) ∙ names

-- ---- where the name is asked for
pub name_brick : (asked : Request) (t : TransactionProgress) (reader b : BrickId) (q : Request) (at : ℕ) → is_beginning t.stage ≡ true → next_under (Unread reader) at asked t ≡ next.Ask b q → reader ≡ b
name_brick asked t reader b q at f e = go (is_beginning t.stage) f e
  where
    go : (x : Bool) → x ≡ true → (if x then next.Ask reader asked else progress.next_at t.stage at t) ≡ next.Ask b q → reader ≡ b
    go true f e = cc e
    go false f e = absurd (cc f)

pub name_request : (asked : Request) (t : TransactionProgress) (reader b : BrickId) (q : Request) (at : ℕ) → is_beginning t.stage ≡ true → next_under (Unread reader) at asked t ≡ next.Ask b q → asked ≡ q
name_request asked t reader b q at f e = go (is_beginning t.stage) f e
  where
    go : (x : Bool) → x ≡ true → (if x then next.Ask reader asked else progress.next_at t.stage at t) ≡ next.Ask b q → asked ≡ q
    go true f e = cc e
    go false f e = absurd (cc f)

pub name_small : (c : Change) (asked : Request) (t : TransactionProgress) (reader b : BrickId) (q : Request) (at : ℕ) → IsUnder c t (Unread reader) → is_beginning t.stage ≡ true → next_under (Unread reader) at asked t ≡ next.Ask b q → b.0 < 5
name_small c asked t reader b q at k f e = subst (λ (x : BrickId). x.0 < 5) (name_brick asked t reader b q at f e) (good_below t.register.shape t.register.looked Names reader.0 (k.reads f))

pub name_reads : (asked : Request) (t : TransactionProgress) (reader b : BrickId) (q : Request) (at : ℕ) → is_read asked ≡ true → is_beginning t.stage ≡ true → next_under (Unread reader) at asked t ≡ next.Ask b q → is_read q ≡ true
name_reads asked t reader b q at reads f e = subst (λ (x : Request). is_read x ≡ true) (name_request asked t reader b q at f e) reads

pub name_heard : (why : Option Refusal) (asked : Request) (t x y : TransactionProgress) (reader b : BrickId) (q : Request) (at : ℕ) (told : Told) → is_beginning t.stage ≡ true → next_under (Unread reader) at asked t ≡ next.Ask b q
    → x ≡ noted_read b.0 q told at t → y ≡ settled why x → y ≡ progress_after (Unread reader) why asked told at t
name_heard why asked t x y reader b q at told f e ex ey = go (is_beginning t.stage) f
  where
    same : x ≡ noted_read reader.0 asked told at t
    same = ex ∙ ap (λ (c : BrickId). noted_read c.0 q told at t) (sym (name_brick asked t reader b q at f e)) ∙ ap (λ (r : Request). noted_read reader.0 r told at t) (sym (name_request asked t reader b q at f e))

    go : (s : Bool) → s ≡ true → y ≡ (if s then settled why (noted_read reader.0 asked told at t) else fed t.stage told at t)
    go true f = ey ∙ ap (λ (p : TransactionProgress). settled why p) same
    go false f = absurd (cc f)

-- what the name says leaves nothing to choose from
pub nothing_offered : (t : TransactionProgress) (reader : BrickId) (at : ℕ) (told : Told) → is_beginning t.stage ≡ true → [] ≡ choices_under (Unread reader) told at t
nothing_offered t reader at told f = go (is_beginning t.stage) f
  where
    go : (s : Bool) → s ≡ true → [] ≡ (if s then [] else offered (fed t.stage told at t))
    go true f = refl
    go false f = absurd (cc f)

pub found_named : (chosen reader : BrickId) (found : Found) (why : Option Refusal) (stage : Stage) → is_beginning stage ≡ true → found ≡ found_by why → found ≡ found_after chosen (Unread reader) why stage
found_named chosen reader found why stage f e = go (is_beginning stage) f
  where
    go : (s : Bool) → s ≡ true → found ≡ (if s then found_by why else Unread chosen)
    go true f = e
    go false f = absurd (cc f)

-- ---- once the name is read
pub found_asks : (asked : Request) (t : TransactionProgress) (found : Found) (b : BrickId) (q : Request) (at : ℕ) → is_unread found ≡ false → next_under found at asked t ≡ next.Ask b q → progress.next_at t.stage at t ≡ next.Ask b q
found_asks asked t (Unread reader) b q at u e = absurd (cc u)
found_asks asked t Fits b q at u e = e
found_asks asked t (Refused why) b q at u e = go (progress.is_over t.stage t) e
  where
    go : (x : Bool) → (if x then next.End (reply_to why) else progress.next_at t.stage at t) ≡ next.Ask b q → progress.next_at t.stage at t ≡ next.Ask b q
    go true e = absurd (cc e)
    go false e = e

-- a transaction that has asked is told
told_fed : (t x : TransactionProgress) (at : ℕ) (told : Told) → is_beginning t.stage ≡ false → x ≡ fed t.stage told at t → x ≡ told_to told at t
told_fed t x at told f ex = go (is_beginning t.stage) f
  where
    go : (s : Bool) → s ≡ false → x ≡ (if s then t else fed t.stage told at t)
    go true f = absurd (cc f)
    go false f = ex

pub found_told : (why : Option Refusal) (asked : Request) (t x : TransactionProgress) (found : Found) (at : ℕ) (told : Told) → is_unread found ≡ false → is_beginning t.stage ≡ false → x ≡ fed t.stage told at t → x ≡ progress_after found why asked told at t
found_told why asked t x (Unread reader) at told u f ex = absurd (cc u)
found_told why asked t x Fits at told u f ex = told_fed t x at told f ex
found_told why asked t x (Refused r) at told u f ex = told_fed t x at told f ex

pub found_same : (chosen : BrickId) (found : Found) (why : Option Refusal) (stage : Stage) → is_unread found ≡ false → found ≡ found_after chosen found why stage
found_same chosen (Unread reader) why stage u = absurd (cc u)
found_same chosen Fits why stage u = refl
found_same chosen (Refused r) why stage u = refl

pub found_offers : (found : Found) (t : TransactionProgress) (at : ℕ) (told : Told) → is_unread found ≡ false → [] ≡ choices_under found told at t
found_offers (Unread reader) t at told u = absurd (cc u)
found_offers Fits t at told u = refl
found_offers (Refused why) t at told u = refl

-- ---- what the code makes of an answer
-- the first walk's
pub first_kept : {F : Type 0} (calls : Calls F) (choose : F) (x : Paths) (picked : Option BrickId) (a : Answer) (at : ℕ) (w : Walk) → IsPaths x → is_walking x.first.step ≡ true → RuleAnswers calls choose (walks.choices_of a x.first) picked
    → w ≡ walked (reader_of picked) a at x.first → IsPaths (record x { first = w; second = record x.second { register = w.register }; dir = x.first.object.gfid })
first_kept calls choose x picked a at w k goes answers e =
    subst (λ (y : Walk). IsPaths (record x { first = y; second = record x.second { register = y.register }; dir = x.first.object.gfid })) (sym e)
    (first_paths (reader_of picked) a at x k goes (answers_among calls choose (walks.choices_of a x.first) picked answers))

pub first_leaves : (x : Paths) (stage : RenameStage) → IsPaths x → stage ≡ after_first x → IsRename x stage
first_leaves x stage k e = subst (λ (s : RenameStage). IsRename x s) (sym e) (record { paths = k; sound = is_after_first x k })

-- the second walk's
pub second_kept : {F : Type 0} (calls : Calls F) (choose : F) (x : Paths) (picked : Option BrickId) (a : Answer) (at : ℕ) (w : Walk) → IsRename x Walking → RuleAnswers calls choose (walks.choices_of a x.second) picked → w ≡ walked (reader_of picked) a at x.second
    → IsPaths (record x { second = w })
second_kept calls choose x picked a at w k answers e =
    subst (λ (y : Walk). IsPaths (record x { second = y })) (sym e) (second_paths (reader_of picked) a at x k.paths k.sound.0 (answers_among calls choose (walks.choices_of a x.second) picked answers))

pub second_leaves : (x : Paths) (stage : RenameStage) → IsPaths x → found_in x ≡ true → stage ≡ after_second x → IsRename x stage
second_leaves x stage k found e = subst (λ (s : RenameStage). IsRename x s) (sym e) (record { paths = k; sound = is_after_second x k found })

-- under the locks, by what the answer says
told_same : (found : Found) (t p : TransactionProgress) (at : ℕ) (why w : Option Refusal) (asked q : Request) (told h : Told) → why ≡ w → asked ≡ q → told ≡ h → p ≡ progress_after found why asked told at t → p ≡ progress_after found w q h at t
told_same found t p at why w asked q told h ew eq eh e =
    e ∙ ap (λ (y : Option Refusal). progress_after found y asked told at t) ew ∙ ap (λ (y : Request). progress_after found w y told at t) eq ∙ ap (λ (y : Told). progress_after found w q y at t) eh

-- the first transaction's, as long as it isn't done
pub making_kept : {F : Type 0} (calls : Calls F) (choose : F) (x : Paths) (t p : TransactionProgress) (found f : Found) (picked : Option BrickId) (why : Option Refusal) (asked : Request) (told : Told) (a : Answer) (at : ℕ) → IsRename x (Making t found)
    → is_over (Making t found) ≡ false → is_done t ≡ false → why ≡ against_new a → asked ≡ reads_new x → told ≡ told_by a → p ≡ progress_after found why asked told at t → f ≡ found_after (reader_of picked) found why t.stage
    → RuleAnswers calls choose (choices_under found told at t) picked → IsRename x (Making p f)
making_kept calls choose x t p found f picked why asked told a at k more e ew eq eh ep ef answers =
    subst (λ (stage : RenameStage). IsRename x stage) (sym same)
    (kept_answer (reader_of picked) (Making t found) a at x k more (answers_among calls choose (choices_at (Making t found) a at x) picked (subst (λ (cs : List Candidate). RuleAnswers calls choose cs picked) chooses answers)))
  where
    ends : (d : Bool) → d ≡ false → Making p f ≡ Making (progress_after found (against_new a) (reads_new x) (told_by a) at t) (found_after (reader_of picked) found (against_new a) t.stage)
        → Making p f ≡ (if d then second_begun (told_by a) at x t else making_after (reader_of picked) found a at x t)
    ends true e h = absurd (cc e)
    ends false e h = h

    same : Making p f ≡ stage_after (reader_of picked) (Making t found) a at x
    same =
        ends (is_done t) e
        (ap (λ (q : TransactionProgress). Making q f) (told_same found t p at why (against_new a) asked (reads_new x) told (told_by a) ew eq eh ep)
        ∙ ap (λ (g : Found). Making (progress_after found (against_new a) (reads_new x) (told_by a) at t) g) (ef ∙ ap (λ (y : Option Refusal). found_after (reader_of picked) found y t.stage) ew))

    chooses : choices_under found told at t ≡ choices_at (Making t found) a at x
    chooses = ap (λ (h : Told). choices_under found h at t) eh ∙ go (is_done t) e
      where
        go : (d : Bool) → d ≡ false → choices_under found (told_by a) at t ≡ (if d then [] else choices_under found (told_by a) at t)
        go true e = absurd (cc e)
        go false e = refl

-- once it is done
pub turn_heard : (chosen : BrickId) (x : Paths) (t : TransactionProgress) (found : Found) (stage after : RenameStage) (told : Told) (a : Answer) (at : ℕ) → stage ≡ Making t found → is_done t ≡ true → told ≡ told_by a → after ≡ second_begun told at x t
    → after ≡ stage_after chosen stage a at (paths_after chosen stage a at x)
turn_heard chosen x t found stage after told a at is e eh ea =
    subst (λ (s : RenameStage). after ≡ stage_after chosen s a at (paths_after chosen s a at x)) (sym is) (ea ∙ ap (λ (h : Told). second_begun h at x t) eh ∙ go (is_done t) e)
  where
    go : (d : Bool) → d ≡ true → second_begun (told_by a) at x t ≡ (if d then second_begun (told_by a) at x t else making_after chosen found a at x t)
    go true e = refl
    go false e = absurd (cc e)

pub turn_kept : (x : Paths) (t : TransactionProgress) (found : Found) (stage : RenameStage) (told : Told) (at : ℕ) → IsRename x (Making t found) → is_done t ≡ true → stage ≡ second_begun told at x t → IsRename x stage
turn_kept x t found stage told at k e is = subst (λ (s : RenameStage). IsRename x s) (sym is) (record { paths = k.paths; sound = is_turned told at x t found k.sound e })

-- there it asks for what a transaction of a new work asks for
pub turn_asks : (x : Paths) (t : TransactionProgress) (found : Found) (at : ℕ) → is_done t ≡ true → making_next found at x t ≡ progress.next_at Locking at (turned_anew x t)
turn_asks x t found at e = go (is_done t) e
  where
    go : (d : Bool) → d ≡ true → (if d then progress.next_at Locking at (turned x t) else next_under found at (reads_new x) t) ≡ progress.next_at Locking at (turned_anew x t)
    go true e = refl
    go false e = absurd (cc e)

-- the second transaction's
pub removing_kept : {F : Type 0} (calls : Calls F) (choose : F) (x : Paths) (t p : TransactionProgress) (found f : Found) (picked : Option BrickId) (why : Option Refusal) (asked : Request) (told : Told) (a : Answer) (at : ℕ) → IsRename x (Removing t found)
    → is_over (Removing t found) ≡ false → why ≡ against_old x.first.object.gfid a → asked ≡ reads_old x → told ≡ told_by a → p ≡ progress_after found why asked told at t → f ≡ found_after (reader_of picked) found why t.stage
    → RuleAnswers calls choose (choices_under found told at t) picked → IsRename x (Removing p f)
removing_kept calls choose x t p found f picked why asked told a at k more ew eq eh ep ef answers =
    subst (λ (stage : RenameStage). IsRename x stage) (sym same)
    (kept_answer (reader_of picked) (Removing t found) a at x k more
    (answers_among calls choose (choices_under found (told_by a) at t) picked (subst (λ (h : Told). RuleAnswers calls choose (choices_under found h at t) picked) eh answers)))
  where
    same : Removing p f ≡ stage_after (reader_of picked) (Removing t found) a at x
    same =
        ap (λ (q : TransactionProgress). Removing q f) (told_same found t p at why (against_old x.first.object.gfid a) asked (reads_old x) told (told_by a) ew eq eh ep)
        ∙ ap (λ (g : Found). Removing (progress_after found (against_old x.first.object.gfid a) (reads_old x) (told_by a) at t) g) (ef ∙ ap (λ (y : Option Refusal). found_after (reader_of picked) found y t.stage) ew)
