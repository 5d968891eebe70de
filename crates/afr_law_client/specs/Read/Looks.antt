-- The looks of a machine are the last looks of its lines.
use Rattle.std.specs.Prelude.{◌≡◌, ℕ, ◌≤◌, true, false, List, None, length}
use Rattle.afr_base.specs.Bricks.{member}
use Rattle.afr_base.specs.Majority.{is_majority}
use Rattle.afr_base.specs.Rising.{IsRising}
use Rattle.afr_base.specs.declared.ids.Gfid.{Gfid}
use Rattle.afr_base.specs.declared.ids.Kind.{Kind}
use Rattle.afr_choice.specs.Looks.{view_at}
use Rattle.afr_choice.specs.Verdict.{good_copies}
use Rattle.afr_choice.specs.declared.looked.Looked.{Looked}
use Rattle.afr_lines.specs.Work.{Work}
use Rattle.afr_plan.specs.declared.plan.Plan.{Plan}
use Rattle.afr_model.specs.Refusals.{by_looks}
use Rattle.afr_model.specs.Showing.{among, looked_by, looking}
use Rattle.afr_client_walk.specs.declared.looks.Looks.{Looks}

-- five places, and only bricks below n were reached
pub record IsPlain (n : ℕ) (looked : Looked) : Type 0 where
  pub rising : IsRising 0 looked.reached
  pub five : length looked.views ≡ 5
  pub none_reached : (b : ℕ) → n ≤ b → member looked.reached b ≡ false
  pub none_shown : (b : ℕ) → n ≤ b → view_at b looked ≡ None

-- each brick that the machine has asked shows it what it last showed
pub record Agree (n : ℕ) (s : Looks) (asked : List ℕ) (looked : Looked) : Type 0 where
  pub plain : IsPlain n s.looked
  pub among_asked : (b : ℕ) → member s.asked b ≡ true → member asked b ≡ true
  pub reached : (b : ℕ) → member s.asked b ≡ true → member s.looked.reached b ≡ member looked.reached b
  pub shown : (b : ℕ) → member s.asked b ≡ true → view_at b s.looked ≡ view_at b looked

-- the machine's looks at an object agree with those of its lines
abbrev pub LooksAgree : ℕ → Gfid → Looks → Work → Type 0
LooksAgree n g s w = Agree n s (among (looking g) w) (looked_by g w)

-- by the last looks, which a majority answered, the brick has a good copy of the object
pub record IsSource (p : Plan) (g : Gfid) (kind : Kind) (b : ℕ) (w : Work) : Type 0 where
  pub none : by_looks p.shape kind (looked_by g w) ≡ None
  pub answered : is_majority p.shape.n (looked_by g w).reached ≡ true
  pub good : member (good_copies p.shape (looked_by g w) kind) b ≡ true
