-- The cause of each reply of a heal and of a round.
use Rattle.std.specs.Prelude.{◌≡◌, ℕ, ◌<◌, ◌&&◌, ◌||◌, not, Bool, true, false, [], ◌∷◌, Option, Some, None, if◌then◌else◌}
use Rattle.std.specs.List.{list_all}
use Rattle.afr_base.specs.Bricks.{below, member, minus, is_nothing}
use Rattle.afr_base.specs.Majority.{is_majority}
use Rattle.afr_base.specs.Marks.{is_zero_marks}
use Rattle.afr_base.specs.declared.ids.ActorId.{ActorId}
use Rattle.afr_base.specs.declared.ids.Gfid.{Gfid}
use Rattle.afr_base.specs.declared.ids.Kind.{Kind}
use Rattle.afr_base.specs.declared.ids.Shape.{Shape}
use Rattle.afr_base.specs.declared.marks.Marks.{Marks}
use Rattle.afr_choice.specs.Looks.{view_at}
use Rattle.afr_choice.specs.Verdict.{good_copies, holders_of}
use Rattle.afr_choice.specs.declared.looked.Looked.{Looked}
use Rattle.afr_lines.specs.Work.{Work}
use Rattle.afr_lines.specs.declared.answer.Told.TheVariants as as_told
use Rattle.afr_lines.specs.declared.line.Line.{Line}
use Rattle.afr_lines.specs.declared.line.Line.TheVariants.{Ask, End, HealEnd}
use Rattle.afr_lines.specs.declared.reply.Good.TheVariants as good
use Rattle.afr_lines.specs.declared.reply.HealReply.{HealReply}
use Rattle.afr_lines.specs.declared.reply.HealReply.TheVariants as healed
use Rattle.afr_lines.specs.declared.reply.Reply.TheVariants as reply
use Rattle.afr_lines.specs.declared.request.Request.TheVariants as request
use Rattle.afr_model.specs.Healing.{First, first_by, heal_by, heal_asking, heal_getting, holders_in, settling, settled_at, busy_by, less_at, marks_in, whole_of}
use Rattle.afr_model.specs.Moved.{moved_by}
use Rattle.afr_model.specs.Showing.{among, has, is_fault}
use Rattle.afr_model.specs.Standing.{asking, getting}

-- ---- what ends a heal before it changes anything
abbrev pub or_else : Option HealReply → Option HealReply → Option HealReply
or_else (Some reply) next = Some reply
or_else None next = next

-- another heal is at it
abbrev pub by_owner : Option ActorId → Option HealReply
by_owner None = None
by_owner (Some owner) = Some (healed.Busy owner)

-- all numbers of the kind are 0 at the holders
abbrev pub is_clean : Kind → Looked → Bool
is_clean kind looked = list_all (λ b. is_zero_marks (marks_in kind (view_at b looked))) (holders_of looked)

-- too few bricks answered or hold the object, nothing is to be healed, or no copy is good
abbrev pub by_first : Shape → Kind → First → Option HealReply
by_first shape kind s =
    if not (is_majority shape.n (minus (below shape.n) s.missing)) then Some healed.Short
    else (if not (is_majority shape.n (holders_of s.looked)) then Some healed.Short
    else (if is_clean kind s.looked then Some healed.Nothing
    else (if is_nothing (good_copies shape s.looked kind) then Some (healed.Split s.looked.views) else None)))

-- ---- how a heal ends that has changed copies
-- each holder has settled
abbrev pub is_settled : Work → Bool
is_settled w = is_nothing (minus (holders_in w) (among settled_at w))

-- it was settled, or its source moved, or it failed
abbrev pub by_moved : Option ℕ → HealReply
by_moved None = healed.Failed
by_moved (Some x) = healed.Moved (record { 0 = x })

-- the reply of a heal by its lines: the first cause that applies
abbrev pub heal_reply : Shape → Gfid → Kind → Work → Option HealReply
heal_reply shape g kind w = or_else (by_owner (busy_by w)) (or_else (by_first shape kind (first_by w)) (Some (if is_settled w then healed.Settled else by_moved (moved_by shape g kind w))))

-- a line settles
abbrev pub settles : Line → Bool
settles (Ask a b (request.Settle g kind less) told took) = true
settles line = false

-- a line ends a heal with Failed: a request was told a fault, but not an unlock that failed, nor an unlock after the settling
abbrev pub fails_heal : Line → Work → Bool
fails_heal (Ask a b (request.Unlock domain area) as_told.NotConnected took) w = not (has settles w)
fails_heal (Ask a b (request.Unlock domain area) told took) w = false
fails_heal (Ask a b request told took) w = is_fault told
fails_heal line w = false

-- whether a line after the first looks did
abbrev pub is_failed : Work → Bool
is_failed [] = false
is_failed (x ∷ w) = ((first_by (x ∷ w)).begun && not (first_by (x ∷ w)).still && fails_heal x.0 w) || is_failed w

-- ---- nothing is skipped by a heal
-- each brick was asked for the Heal lock, those that granted it for the Work lock, and those that granted that were looked at, as long as they are a majority
pub record IsHealAsked (shape : Shape) (g : Gfid) (kind : Kind) (w : Work) : Type 0 where
  pub locked : (b : ℕ) → b < shape.n → member (among heal_asking w) b ≡ true
  pub worked : is_majority shape.n (among heal_getting w) ≡ true → (b : ℕ) → member (among heal_getting w) b ≡ true → member (among (asking (whole_of g kind)) w) b ≡ true
  pub looked : is_majority shape.n (among (getting (whole_of g kind)) w) ≡ true → (b : ℕ) → member (among (getting (whole_of g kind)) w) b ≡ true
      → (member (first_by w).looked.reached b || member (first_by w).missing b) ≡ true

-- a heal has ended: its reply has its cause, Failed was told by a brick, and nothing was skipped unless another heal was at it
pub record IsHealAnswered (shape : Shape) (g : Gfid) (kind : Kind) (w : Work) (said : HealReply) : Type 0 where
  pub caused : heal_reply shape g kind w ≡ Some said
  pub failed : said ≡ healed.Failed → is_failed w ≡ true
  pub asked : busy_by w ≡ None → IsHealAsked shape g kind w

-- ---- the lines of a round
-- the index was refused
abbrev pub refuses_index : Line → Bool
refuses_index (Ask a b request.Index told took) = is_fault told
refuses_index line = false

-- each holder settles once, by the numbers that the first looks showed
pub record IsSettling (shape : Shape) (kind : Kind) (less : Marks) (b : ℕ) (w : Work) : Type 0 where
  pub holder : member (holders_in w) b ≡ true
  pub once : member (among settling w) b ≡ false
  pub seen : less ≡ less_at shape kind w b

-- a settling takes back what was seen, a heal's end has its cause, and a round fails exactly where its index was refused
abbrev pub IsHealing : Shape → Line → Work → Type 0
IsHealing shape (Ask a b (request.Settle g kind less) told took) w = IsSettling shape kind less b.0 (heal_by w)
IsHealing shape (HealEnd a g kind said) w = IsHealAnswered shape g kind (heal_by w) said
IsHealing shape (End a said) w = said ≡ (if has refuses_index w then reply.Failed else reply.Ok good.Done)
IsHealing shape line w = Unit {0}
