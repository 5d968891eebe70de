-- The lines of a work that only looks and reads, and what its bricks may tell.
use Rattle.std.specs.Prelude.{◌≡◌, ℕ, ◌<◌, ◌==◌, ◌&&◌, nat_lt, Bool, true, false, List, [], ◌∷◌, None}
use Rattle.afr_base.specs.Bricks.{member}
use Rattle.afr_base.specs.declared.ids.ActorId.{ActorId}
use Rattle.afr_base.specs.declared.ids.BrickId.{BrickId}
use Rattle.afr_base.specs.declared.ids.Gfid.{Gfid}
use Rattle.afr_lines.specs.Told.{told_by}
use Rattle.afr_lines.specs.Work.{Work}
use Rattle.afr_lines.specs.declared.answer.Answer.{Answer}
use Rattle.afr_lines.specs.declared.answer.Told.{Told}
use Rattle.afr_lines.specs.declared.answer.Told.TheVariants.{Given, NoObject, NotConnected, Failed}
use Rattle.afr_lines.specs.declared.line.Line.{Line}
use Rattle.afr_lines.specs.declared.line.Line.TheVariants.{Ask}
use Rattle.afr_lines.specs.declared.request.Request.{Request}
use Rattle.afr_lines.specs.declared.request.Request.TheVariants.{Look}
use Rattle.afr_plan.specs.declared.plan.Plan.{Plan}
use Rattle.afr_model.specs.Honest.{IsHonest, answer_by}
use Rattle.afr_model.specs.Showing.{among, has, looking, looks_at}
use Rattle.afr_model.specs.Tables.{holds}
use Rattle.afr_discipline.specs.Free.{is_free}

-- a line asks a brick below n for a look or a read
abbrev pub reads : ℕ → Line → Bool
reads n (Ask a b request told took) = nat_lt b.0 n && is_free request
reads n line = false

-- all lines of a work do
abbrev pub OnlyReads : ℕ → Work → Type 0
OnlyReads n [] = Unit {0}
OnlyReads n (x ∷ w) = (reads n x.0 ≡ true) × OnlyReads n w

-- every brick was looked at for each object that the work looked at
abbrev pub LookedAll : ℕ → Work → Type 0
LookedAll n w = (g : Gfid) → has (looks_at g) w ≡ true → (b : ℕ) → b < n → member (among (looking g) w) b ≡ true

-- the same of each object but one
abbrev pub LookedBut : ℕ → Gfid → Work → Type 0
LookedBut n but w = (g : Gfid) → (but.0 == g.0) ≡ false → has (looks_at g) w ≡ true → (b : ℕ) → b < n → member (among (looking g) w) b ≡ true

-- a look
abbrev pub is_look : Request → Bool
is_look (Look g) = true
is_look other = false

-- something was given, or the brick refused or couldn't be reached
abbrev pub gives_or_fails : Told → Bool
gives_or_fails Given = true
gives_or_fails NotConnected = true
gives_or_fails Failed = true
gives_or_fails other = false

-- what a brick may answer: a read is given what the brick's tables show, or it fails
pub record CanAnswer (p : Plan) (b : ℕ) (request : Request) (log : List Line) (heard : Answer) : Type 0 where
  pub given : told_by heard ≡ Given → heard ≡ answer_by None request (holds p log b) log
  pub told : is_look request ≡ false → gives_or_fails (told_by heard) ≡ true

-- what is honestly told of a read of an object that the brick has is so
abbrev pub HonestReads : Type 0
HonestReads =
    (p : Plan) (a : ActorId) (b : BrickId) (request : Request) (told : Told) (took : Bool) (older : List Line)
    → IsHonest p (Ask a b request told took) older → is_free request ≡ true → is_look request ≡ false → (told ≡ NoObject → ⊥) → gives_or_fails told ≡ true
