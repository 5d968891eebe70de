-- The parts of the law, put together line by line.
use Rattle.std.proofs.Common.{◌≡◌, ◌⊎◌, ℕ, zero, suc, ◌<◌, List, [], ◌∷◌, arith, inl, inr, refl}
use Rattle.afr_base.specs.declared.ids.Gfid.{Gfid}
use Rattle.afr_base.specs.declared.ids.Kind.{Kind}
use Rattle.afr_lines.specs.Log.{EachLine}
use Rattle.afr_lines.specs.Work.{Work, ended, work}
use Rattle.afr_lines.specs.declared.line.Line.{Line}
use Rattle.afr_lines.specs.declared.line.Line.TheVariants as line_of
use Rattle.afr_lines.specs.declared.reply.HealReply.{HealReply}
use Rattle.afr_lines.specs.declared.reply.HealReply.TheVariants as healed
use Rattle.afr_plan.specs.declared.plan.Plan.{Plan}
use Rattle.afr_model.specs.Healing.{heal_by}
use Rattle.afr_law_quiet.specs.Undisturbed.{AreQuietWhole, EachHeal, IsQuietWhole, IsSplitReply, IsTold}
use Rattle.afr_law_quiet.specs.Copies.Repaired.{IsQuietKept, QuietRoundsAreRepaired}
use Rattle.afr_law_quiet.specs.Lists.Listed.{IsOneOfFour, IsQuietListed, IsToldOrMoved, QuietRoundsAreListed}
use Rattle.afr_law_quiet.specs.Moves.Moves.{IsQuietUnmoved, IsUnmoved, QuietRoundsAreUnmoved}
use Rattle.afr_law_quiet.specs.Rounds.Whole.{QuietRoundsAreWhole, RoundsAreLow}

-- ---- one heal
told : (p : Plan) (g : Gfid) (kind : Kind) (said : HealReply) (before : List Line) (w : Work) → IsToldOrMoved p g kind said w → IsUnmoved g kind said before → IsTold p g kind said w
told p g kind said before w t unmoved = record { begun = t.begun; is_begun = t.is_begun; few = few t.few; nothing = t.nothing; split = t.split }
  where
    few : IsOneOfFour said → (said ≡ healed.Nothing) ⊎ ((said ≡ healed.Settled) ⊎ IsSplitReply said)
    few (inl nothing) = inl nothing
    few (inr (inl settled)) = inr (inl settled)
    few (inr (inr (inl split))) = inr (inr split)
    few (inr (inr (inr moved))) = absurd (unmoved moved.0 moved.1)

-- ---- each heal of a round
each_told : (p : Plan) (a : ℕ) (w : Work) → EachHeal (λ g kind said before. IsToldOrMoved p g kind said (heal_by (work a before))) w → EachHeal IsUnmoved w → EachHeal (λ g kind said before. IsTold p g kind said (heal_by (work a before))) w
each_told p a [] t u = tt
each_told p a ((line_of.HealEnd x g kind said, older) ∷ w) t u = (told p g kind said older (heal_by (work a older)) t.0 u.0, each_told p a w t.1 u.1)
each_told p a ((line_of.Ask x b asked answer took, older) ∷ w) t u = (tt, each_told p a w t.1 u.1)
each_told p a ((line_of.Begin x change, older) ∷ w) t u = (tt, each_told p a w t.1 u.1)
each_told p a ((line_of.HealBegin x g kind, older) ∷ w) t u = (tt, each_told p a w t.1 u.1)
each_told p a ((line_of.End x said, older) ∷ w) t u = (tt, each_told p a w t.1 u.1)
each_told p a ((line_of.Event event, older) ∷ w) t u = (tt, each_told p a w t.1 u.1)

-- ---- each line
line_whole : (p : Plan) (line : Line) (older : List Line) → IsQuietListed p line older → IsQuietUnmoved p line older → IsQuietKept p line older → IsQuietWhole p line older
line_whole p (line_of.End a said) older l u k = λ healer b is quiet.
    let listed = l healer b is quiet in
    record { lists = listed.lists; both = listed.both; told = each_told p a.0 (work a.0 older) listed.told (u healer b is quiet); kept = k healer b is quiet }
line_whole p (line_of.Ask a b asked answer took) older l u k = tt
line_whole p (line_of.Begin a change) older l u k = tt
line_whole p (line_of.HealBegin a g kind) older l u k = tt
line_whole p (line_of.HealEnd a g kind said) older l u k = tt
line_whole p (line_of.Event event) older l u k = tt

all_whole : (p : Plan) (log : List Line) → EachLine (IsQuietListed p) log → EachLine (IsQuietUnmoved p) log → EachLine (IsQuietKept p) log → AreQuietWhole p log
all_whole p [] l u k = tt
all_whole p (line ∷ older) l u k = (line_whole p line older l.0 u.0 k.0, all_whole p older l.1 u.1 k.1)

-- ---- with no brick there is no round
none_ends : (p : Plan) (line : Line) (older : List Line) → RoundsAreLow p → p.shape.n ≡ 0 → IsQuietWhole p line older
none_ends p (line_of.End a said) older low none = λ healer b is quiet. let small = low a.0 (ended a.0 older) b is in absurd (omega (arith, small, none))
none_ends p (line_of.Ask a b asked answer took) older low none = tt
none_ends p (line_of.Begin a change) older low none = tt
none_ends p (line_of.HealBegin a g kind) older low none = tt
none_ends p (line_of.HealEnd a g kind said) older low none = tt
none_ends p (line_of.Event event) older low none = tt

none_whole : (p : Plan) (log : List Line) → RoundsAreLow p → p.shape.n ≡ 0 → AreQuietWhole p log
none_whole p [] low none = tt
none_whole p (line ∷ older) low none = (none_ends p line older low none, none_whole p older low none)

pub rounds_whole : QuietRoundsAreListed → QuietRoundsAreUnmoved → QuietRoundsAreRepaired → QuietRoundsAreWhole
rounds_whole listed unmoved repaired p log small clients short follows honest lawful replied low = by p.shape.n refl
  where
    by : (n : ℕ) → p.shape.n ≡ n → AreQuietWhole p log
    by zero none = none_whole p log low none
    by (suc n) many =
        let some : 0 < p.shape.n = omega (arith, many) in
        all_whole p log (listed p log small some clients short follows honest lawful replied) (unmoved p log small some short follows honest lawful replied) (repaired p log small some short follows honest lawful replied)
