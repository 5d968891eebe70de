-- After one line more, whatever was told, the lines of a work show where its removal stands.
use Rattle.std.proofs.Common.{◌≡◌, Bool, true, false, List, ◌∷◌, length, subst, if◌then◌else◌}
use Rattle.afr_base.specs.declared.ids.ActorId.{ActorId}
use Rattle.afr_base.specs.declared.ids.BrickId.{BrickId}
use Rattle.afr_base.specs.declared.ids.NameId.{NameId}
use Rattle.afr_lines.specs.Told.{told_by}
use Rattle.afr_lines.specs.Work.{Work}
use Rattle.afr_lines.specs.declared.answer.Answer.{Answer}
use Rattle.afr_lines.specs.declared.line.Line.{Line}
use Rattle.afr_lines.specs.declared.line.Line.TheVariants.{Ask, Begin}
use Rattle.afr_lines.specs.declared.line.Next.TheVariants as next
use Rattle.afr_lines.specs.declared.request.Request.{Request}
use Rattle.afr_object.specs.declared.change.Change.{Change}
use Rattle.afr_plan.specs.declared.plan.Plan.{Plan}
use Rattle.afr_law_client.proofs.Read.ReadsMore.{asks_same}
use Rattle.afr_client_entry.specs.Removals.Removal.{Removing, answered, asks, begun, brick_at, is_over, next_at, reply_of, request_at}
use Rattle.afr_client_entry.specs.Removals.Sound as sound
use Rattle.afr_client_entry.specs.Removals.Sound.{Ready, Sound}
use Rattle.afr_client_entry.specs.declared.removing.stage.RemovalEnding.{RemovalEnding}
use Rattle.afr_client_entry.specs.declared.removing.stage.RemovalStage.{RemovalStage}
use Rattle.afr_client_entry.specs.declared.removing.stage.RemovalStage.TheVariants.{Locking, Looking, Listing, Beginning, Preparing, Applying, Posting, Closing}
use Rattle.afr_law_client.specs.Removal.RemovalLaws.{RemovalBegun, RemovalTellsMore}
use Rattle.afr_law_client.specs.Removal.RemovalTelling.{CanHear, During, RemovalTells}
use Rattle.afr_law_client.proofs.Removal.Listing.{list_told, told_begin, told_list}
use Rattle.afr_law_client.proofs.Removal.Locking.{told_lock}
use Rattle.afr_law_client.proofs.Removal.Looking.{told_look}
use Rattle.afr_law_client.proofs.Removal.Phases.{told_apply, told_post, told_pre}
use Rattle.afr_law_client.proofs.Removal.Unlocks.{told_unlock}

module _ (p : Plan) (path : List NameId) (m : Removing) (w : Work) (a : ActorId) (chosen : BrickId) (heard : Answer) (took : Bool) (log : List Line) (s : Sound m) where
  -- what was asked at a stage, and what follows
  abbrev After : RemovalStage → BrickId → Request → Type 0
  After stage b request = CanHear stage p b.0 request log heard → RemovalTells p path (answered chosen stage heard (length log) m) ((Ask a b request (told_by heard) took, log) ∷ w)

  -- the machine's own request
  abbrev Own : RemovalStage → Type 0
  Own stage = After stage (record { 0 = brick_at stage m }) (request_at stage m)

  asked : (stage : RemovalStage) (b : BrickId) (request : Request) → asks stage m ≡ next.Ask b request → Own stage → After stage b request
  asked stage b request e k = asks_same (After stage) (record { 0 = brick_at stage m }) b (request_at stage m) request e k

  over_asks : (x : Bool) (why : RemovalEnding) (b : BrickId) (request : Request) → (if x then next.End (reply_of why m.register) else asks (Closing why) m) ≡ next.Ask b request → asks (Closing why) m ≡ next.Ask b request
  over_asks true why b request e = absurd (cc e)
  over_asks false why b request e = e

  pub more_at : (stage : RemovalStage) → During stage p path m w → sound.During stage m → Ready stage m → (b : BrickId) (request : Request) → next_at stage m ≡ next.Ask b request → After stage b request
  more_at Locking (k, d) ds ready b request e = asked Locking b request e (λ can. told_lock p path m w a chosen heard took log s k d ds ready can)
  more_at Looking (k, d) ds ready b request e = asked Looking b request e (λ can. told_look p path m w a chosen heard took log s k d ready can)
  more_at Listing (k, opened, j) ds ready b request e = asked Listing b request e (λ can. told_list p path m w a took log s k opened j ds chosen heard (list_told p (brick_at Listing m) m.child.gfid log heard can))
  more_at Beginning d ds ready b request e = absurd (cc e)
  more_at Preparing (k, t, d) ds ready b request e = asked Preparing b request e (λ can. told_pre p path m w a chosen heard took log s k t d ds ready can)
  more_at Applying (k, t, d) ds ready b request e = asked Applying b request e (λ can. told_apply p path m w a chosen heard took log s k t d ds ready can)
  more_at Posting (k, t, d) ds ready b request e = asked Posting b request e (λ can. told_post p path m w a chosen heard took log s k t d ds ready can)
  more_at (Closing why) d ds ready b request e = asked (Closing why) b request (over_asks (is_over (Closing why) m) why b request e) (λ can. told_unlock p path m w a chosen heard took log s why d)

pub more : RemovalTellsMore
more p path m w a b request chosen heard took log s t e can = more_at p path m w a chosen heard took log s m.stage t s.during s.ready b request e can

pub begun_on : RemovalBegun
begun_on p path m w a change log s t e = go m.stage t e
  where
    over : (why : RemovalEnding) (x : Bool) → (if x then next.End (reply_of why m.register) else asks (Closing why) m) ≡ next.Begin change → ⊥
    over why true e = cc e
    over why false e = cc e

    go : (stage : RemovalStage) → During stage p path m w → next_at stage m ≡ next.Begin change → RemovalTells p path (begun (length log) m) ((Begin a change, log) ∷ w)
    go Beginning (k, idle, empty, j) e =
        let same : m.change ≡ change = cc e in
        subst (λ (x : Change). RemovalTells p path (begun (length log) m) ((Begin a x, log) ∷ w)) same (told_begin p path m w a log k idle empty j)
    go (Closing why) d e = absurd (over why (is_over (Closing why) m) e)
    go Locking d e = absurd (cc e)
    go Looking d e = absurd (cc e)
    go Listing d e = absurd (cc e)
    go Preparing d e = absurd (cc e)
    go Applying d e = absurd (cc e)
    go Posting d e = absurd (cc e)
