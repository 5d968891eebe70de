-- Small facts of sets of bricks, and of who missed something.
use Rattle.std.proofs.Common.{◌≡◌, ◌≢◌, ℕ, ◌==◌, ◌&&◌, ◌||◌, Bool, true, false, List, [], ◌∷◌, Some, None, filter, refl, ap, ◌∙◌, if◌then◌else◌, ◌⊎◌}
use Rattle.std.proofs.lemmas.Bool.{or_right}
use Rattle.afr_base.specs.Bricks.{member, IsIn}
use Rattle.afr_base.specs.declared.ids.Gfid.{Gfid}
use Rattle.afr_base.specs.declared.ids.Kind.{Kind}
use Rattle.afr_base.specs.declared.ids.Shape.{Shape}
use Rattle.afr_base.proofs.TestLemmas.{same_test}
use Rattle.afr_base.proofs.RisingLemmas.{has_passing}
use Rattle.afr_choice.specs.Verdict.{holders_of}
use Rattle.afr_choice.specs.declared.looked.Looked.{Looked}
use Rattle.afr_lines.specs.Work.{Work}
use Rattle.afr_lines.specs.declared.line.Line.{Line}
use Rattle.afr_lines.specs.declared.line.Line.TheVariants.{Ask}
use Rattle.afr_lines.specs.declared.request.Area.{Area}
use Rattle.afr_lines.specs.declared.request.Area.TheVariants.{Name}
use Rattle.afr_lines.specs.declared.request.Request.TheVariants as request
use Rattle.afr_lines.specs.declared.lock.Domain.TheVariants.{Work as WorkDomain}
use Rattle.afr_model.specs.Refusals.{both_locked, meets}
use Rattle.afr_model.specs.Showing.{among, has, looked_by}
use Rattle.afr_model.specs.Standing.{getting, holding, locks_any, suffices, up_to}
use Rattle.afr_law_client.proofs.Views.{suffices_grows}
use Rattle.afr_law_client.specs.Removal.RemovalTelling.{held_in}

-- ---- sets
-- the holders with both locks at the child's last line
pub both_are : (area : Area) (g child : Gfid) (w : Work) (b : ℕ) → member (both_locked (Some area) g child w) b ≡ (held_in area (up_to (meets child) w) b && (held_in (Name child None) (up_to (meets child) w) b && member (holders_of (looked_by g w)) b))
both_are area g child w b =
    has_passing (member (among (holding area) (up_to (meets child) w))) (filter (member (among (holding (Name child None)) (up_to (meets child) w))) (holders_of (looked_by g w))) b
    ∙ ap (λ (x : Bool). held_in area (up_to (meets child) w) b && x) (has_passing (member (among (holding (Name child None)) (up_to (meets child) w))) (holders_of (looked_by g w)) b)

-- sets with the same bricks suffice alike
pub suffices_same : (shape : Shape) (kind : Kind) (looked : Looked) (s t : List ℕ) → IsIn s t → IsIn t s → suffices shape kind looked s ≡ suffices shape kind looked t
suffices_same shape kind looked s t there back = same_test _ _ (suffices_grows shape kind looked s t there) (suffices_grows shape kind looked t s back)

-- ---- locks that were lost
-- whoever granted a lock was asked for one
pub any_granted : (area : Area) (w : Work) (b : ℕ) → member (among (getting area) w) b ≡ true → has locks_any w ≡ true
any_granted area [] b m = absurd (cc m)
any_granted area (x ∷ w) b m = go x.0 refl m (any_granted area w b)
  where
    go : (line : Line) → x.0 ≡ line → member (getting area line (among (getting area) w)) b ≡ true → (member (among (getting area) w) b ≡ true → has locks_any w ≡ true) → (locks_any x.0 || has locks_any w) ≡ true
    go (Ask a c (request.Lock WorkDomain other) told took) e m rest = rw e refl
    go line e m rest = or_right (locks_any x.0) (has locks_any w) (rest m)
