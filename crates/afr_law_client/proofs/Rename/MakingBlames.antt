-- Who is accused while the new name is made: what its part says of a post-op, the whole work says.
use Rattle.std.proofs.Common.{◌≡◌, ℕ, Bool, true, false, List, [], ◌∷◌, ◌++◌, Some, sym, ap, ◌∙◌, subst, if◌then◌else◌}
use Rattle.afr_base.specs.Bricks.{below, is_nothing, member, minus}
use Rattle.afr_base.specs.declared.ids.BrickId.{BrickId}
use Rattle.afr_base.specs.declared.ids.Gfid.{Gfid}
use Rattle.afr_base.specs.declared.ids.Kind.{Kind}
use Rattle.afr_choice.specs.declared.looked.Looked.{Looked}
use Rattle.afr_lines.specs.Work.{Work}
use Rattle.afr_lines.specs.declared.line.Line.{Line}
use Rattle.afr_lines.specs.declared.line.Line.TheVariants.{Begin}
use Rattle.afr_lines.specs.declared.line.Next.TheVariants as next
use Rattle.afr_lines.specs.declared.request.Request.{Request}
use Rattle.afr_object.specs.Tables.{object_of}
use Rattle.afr_plan.specs.declared.plan.Plan.{Plan}
use Rattle.afr_model.specs.Blamed.{IsBlaming, missing}
use Rattle.afr_model.specs.Showing.{among, applied_at, begins_attempt, begun_after, begun_by, has, locks, looked_by, posting}
use Rattle.afr_model.specs.Standing.{locks_any, since, suffices}
use Rattle.afr_client_transaction.specs.Outcome.{reply_of}
use Rattle.afr_client_transaction.specs.Progress.{TransactionProgress, asks, is_beginning, is_over, next_at as next_change}
use Rattle.afr_client_transaction.specs.Sound.{Sound}
use Rattle.afr_client_transaction.specs.declared.stage.Stage.{Stage}
use Rattle.afr_client_transaction.specs.declared.stage.Stage.TheVariants.{Locking, Looking, Beginning, Preparing, Applying, Posting, Closing}
use Rattle.afr_law_client.specs.About.{BlamesNext}
use Rattle.afr_law_client.specs.Tells.{During, Tells}
use Rattle.afr_law_client.proofs.About.{blames_kept}
use Rattle.afr_client_entry.specs.Job.{reply_to}
use Rattle.afr_client_entry.specs.declared.stage.Found.{Found}
use Rattle.afr_client_entry.specs.declared.stage.Found.TheVariants.{Unread, Fits, Refused}
use Rattle.afr_law_client.specs.Read.WalkLaws.{IsUntouched}
use Rattle.afr_law_client.specs.Entry.EntryTelling.{OnChange}
use Rattle.afr_client_entry.specs.Renames.Under.{next_under}
use Rattle.afr_law_client.proofs.Second.Folds.{none_since}
use Rattle.afr_law_client.proofs.Rename.Looks.{locked_alone}
use Rattle.afr_law_client.proofs.Rename.MakingParts.{among_front, changed_front, has_front}

-- ---- lines before that have locked and begun nothing don't count
begun_front : (s u : Work) (n : ℕ) → begun_by s ≡ Some n → begun_by (s ++ u) ≡ Some n
begun_front [] u n e = absurd (cc e)
begun_front (x ∷ s) u n e = go x.0 (λ f. begun_front s u n f) e
  where
    go : (line : Line) → (begun_by s ≡ Some n → begun_by (s ++ u) ≡ Some n) → begun_after line x.1 (begun_by s) ≡ Some n → begun_after line x.1 (begun_by (s ++ u)) ≡ Some n
    go (Begin a change) rest f = f
    go line rest f = rest f

since_front : (s u : Work) → has locks_any u ≡ false → since locks_any (s ++ u) ≡ since locks_any s
since_front [] u e = none_since u e
since_front (x ∷ s) u e =
    ap (λ (y : Bool). if y then x ∷ since locks_any (s ++ u) else (if locks_any x.0 then x ∷ [] else [])) (has_front locks_any s u e)
    ∙ ap (λ (w : Work). if has locks_any s then x ∷ w else (if locks_any x.0 then x ∷ [] else [])) (since_front s u e)

-- ---- a post-op
pub blamed_front : (p : Plan) (attempt : ℕ) (g : Gfid) (kind : Kind) (missed : List ℕ) (b : ℕ) (s u : Work) → IsUntouched u → has (locks g) s ≡ true → IsBlaming p attempt g kind missed b s → IsBlaming p attempt g kind missed b (s ++ u)
blamed_front p attempt g kind missed b s u free locked k =
    let did = among_front applied_at s u free.none_applied in
    record {
      change = k.change;
      begun = begun_front s u attempt k.begun;
      is_change = changed_front s u k.change k.is_change;
      object = k.object;
      counted = k.counted;
      once = subst (λ (y : List ℕ). member y b ≡ false) (sym (among_front posting s u free.none_posting)) k.once;
      did = subst (λ (y : List ℕ). member y b ≡ true) (sym did) k.did;
      enough = subst (λ (y : Looked). suffices p.shape kind y (among applied_at (s ++ u)) ≡ true) (sym (locked_alone g s u locked)) (subst (λ (y : List ℕ). suffices p.shape kind (looked_by g s) y ≡ true) (sym did) k.enough);
      others = subst (λ (y : List ℕ). missed ≡ minus (below p.shape.n) y) (sym did) k.others;
      why = λ c m. subst (λ (w : Work). member (among (missing g) w) c ≡ true) (sym (since_front s u free.none_locked)) (k.why c m);
    }

-- ---- the next line of a transaction
-- what goes over from a part to the whole at a post-op goes over at each line
pub blames_over : (p : Plan) (part whole : Work) (t : TransactionProgress) (at : ℕ)
    → ((attempt : ℕ) (kind : Kind) (missed : List ℕ) (b : ℕ) → has begins_attempt part ≡ true → has (locks (object_of t.change)) part ≡ true → IsBlaming p attempt (object_of t.change) kind missed b part → IsBlaming p attempt (object_of t.change) kind missed b whole)
    → Tells p part t → BlamesNext p part (next_change t.stage at t) → BlamesNext p whole (next_change t.stage at t)
blames_over p part whole t at over tells k = go t.stage tells.during k
  where
    closing : (x : Bool) → BlamesNext p whole (if x then next.End (reply_of t.change t.register) else asks Closing t)
    closing true = tt
    closing false = tt

    go : (stage : Stage) → During stage p.shape t part → BlamesNext p part (next_change stage at t) → BlamesNext p whole (next_change stage at t)
    go Locking d k = tt
    go Looking d k = tt
    go Beginning d k = tt
    go Preparing d k = tt
    go Applying d k = tt
    go Posting d k = over _ _ _ _ d.0.attempt.began d.0.allows.locked.locked k
    go Closing d k = closing (is_nothing t.register.held)

-- so it is under the locks of a name
pub under_blames : (p : Plan) (part whole : Work) (t : TransactionProgress) (at : ℕ) (asked : Request) (found : Found)
    → ((attempt : ℕ) (kind : Kind) (missed : List ℕ) (b : ℕ) → has begins_attempt part ≡ true → has (locks (object_of t.change)) part ≡ true → IsBlaming p attempt (object_of t.change) kind missed b part → IsBlaming p attempt (object_of t.change) kind missed b whole)
    → Sound t → ((b : BrickId) → BlamesNext p whole (next.Ask b asked)) → OnChange found p t part → BlamesNext p whole (next_under found at asked t)
under_blames p part whole t at asked (Unread copy) over sound read k = go (is_beginning t.stage)
  where
    go : (x : Bool) → BlamesNext p whole (if x then next.Ask copy asked else next_change t.stage at t)
    go true = read copy
    go false = blames_over p part whole t at over k.0.tells (blames_kept p part t at sound k.0.tells k.0.excused)
under_blames p part whole t at asked Fits over sound read k = blames_over p part whole t at over k.tells (blames_kept p part t at sound k.tells k.excused)
under_blames p part whole t at asked (Refused why) over sound read k = go (is_over t.stage t)
  where
    by_held : (x : Bool) → BlamesNext p whole (if x then next.End (reply_of t.change t.register) else asks Closing t)
    by_held true = tt
    by_held false = tt

    unlocks : (stage : Stage) → stage ≡ Closing → BlamesNext p whole (next_change stage at t)
    unlocks Closing e = by_held (is_nothing t.register.held)
    unlocks stage e = absurd (cc e)

    go : (x : Bool) → BlamesNext p whole (if x then next.End (reply_to why) else next_change t.stage at t)
    go true = tt
    go false = unlocks t.stage k.closing
