-- What is known before and after undisturbed rounds, one right after the other.
use Rattle.std.proofs.Common.{arith, inl, inr, refl, subst, sym, ℕ, ◌∙◌, List, [], ◌∷◌, length}
use Rattle.afr_base.specs.Bricks.{below}
use Rattle.afr_base.specs.declared.ids.BrickId.{BrickId}
use Rattle.afr_base.specs.declared.ids.Gfid.{Gfid}
use Rattle.afr_base.specs.declared.ids.Kind.{Kind}
use Rattle.afr_object.specs.Tables.{Table}
use Rattle.afr_lines.specs.Log.{EachLine, EveryPrefix}
use Rattle.afr_lines.specs.Work.{work}
use Rattle.afr_lines.specs.declared.line.Line.{Line}
use Rattle.afr_lines.specs.declared.line.Line.TheVariants.{End}
use Rattle.afr_plan.specs.declared.plan.Plan.{Plan}
use Rattle.afr_model.specs.Safe.{log_before}
use Rattle.afr_model.specs.Splits.{IsSplit}
use Rattle.afr_model.specs.Tables.{holds}
use Rattle.afr_model_moves.proofs.Tests.{same_no, same_self}
use Rattle.afr_law_tables.specs.Clear.{IsClear}
use Rattle.afr_law_tables.specs.TableLaws.{copy_stays}
use Rattle.afr_law.specs.ModelKinds.{Before, Now, WasTable}
use Rattle.afr_law_quiet.specs.Undisturbed.{IsEverywhere}
use Rattle.afr_law_quiet.proofs.Copies.Premises.{Premises, sums}
use Rattle.afr_law_quiet.proofs.Copies.Stretch.{IsTail, before_tail}
use Rattle.afr_law_quiet.proofs.Lists.Premises.{Sound, sound_before}
use Rattle.afr_law_passes.specs.Converged.{AreRounds, HasConverged, IsQuietLeft, IsUnchanged}
use Rattle.afr_law_passes.proofs.Spared.{clear_still, spared, unchanged_on, unchanged_self}
use Rattle.afr_law_passes.proofs.Splits.{split_stays}

-- ---- what is known of a log
-- the premises of the law, and what rounds left at each moment
pub record Known (p : Plan) (log : List Line) : Type 0 where
  pub sound : Sound p log
  pub left : EachLine (IsQuietLeft p) log
  pub converged : EveryPrefix (HasConverged p) log

pub known_before : (p : Plan) (line : Line) (older : List Line) → Known p (line ∷ older) → Known p older
known_before p line older k = record { sound = sound_before p line older k.sound; left = k.left.1; converged = k.converged.1 }

premises_of : (p : Plan) (log : List Line) → Sound p log → Premises p log
premises_of p log s = record { five = s.small; some = s.some; short = s.short; follows = s.follows; honest = s.honest; lawful = s.lawful; replied = s.replied }

-- ---- the start of rounds
-- what is known of each earlier moment is known of the start
at_tail : (G : List Line → Type 0) → ((line : Line) (older : List Line) → G (line ∷ older) → G older) → (cur log : List Line) → IsTail cur log → G log → G cur
at_tail G back cur [] e h = subst G (sym e) h
at_tail G back cur (line ∷ older) (inl e) h = subst G (sym e) h
at_tail G back cur (line ∷ older) (inr t) h = at_tail G back cur older t (back line older h)

pub at_start : (G : List Line → Type 0) → ((line : Line) (older : List Line) → G (line ∷ older) → G older) → (p : Plan) (start : List Line) (bricks : List BrickId) (log : List Line) → AreRounds p start bricks log → G log → G start
at_start G back p start [] log is h = subst G is h
at_start G back p start (b ∷ before) log (r, more) h =
    at_start G back p start before (log_before (work r.healer.0 r.older) r.older) more
    (at_tail G back (log_before (work r.healer.0 r.older) r.older) r.older (before_tail r.healer.0 r.older) (back (End r.healer r.said) r.older (subst G r.last h)))

module _ (p : Plan) (start : List Line) (bricks : List BrickId) (log : List Line) (rounds : AreRounds p start bricks log) where
  pub known_then : Known p log → Known p start
  known_then known = at_start (Known p) (known_before p) p start bricks log rounds known

  -- what every brick had it has
  pub everywhere_later : (g : Gfid) → IsEverywhere p start g → IsEverywhere p log g
  everywhere_later g = at_start (λ l. IsEverywhere p l g → IsEverywhere p log g) (λ line older rest every. rest (λ b low. copy_stays p line older b g (every b low))) p start bricks log rounds (λ every. every)

  -- a table of the start was one of the log's
  pub was_then : (b : ℕ) → WasTable p log (holds p start b)
  was_then b = at_start (λ l. (t : Table) → WasTable p l t → WasTable p log t) (λ line older rest t was. rest t (was_more line older t was)) p start bricks log rounds (λ t was. was) (holds p start b) (Now b refl)
    where
      was_more : (line : Line) (older : List Line) (t : Table) → WasTable p older t → WasTable p (line ∷ older) t
      was_more line older t (Now c e) = Before (length older) c (omega arith) (e ∙ rw (same_self (length older)) refl)
      was_more line older t (Before k c low e) = Before k c (omega (arith, low)) (e ∙ rw (same_no k (length older) low) refl)

-- ---- what rounds leave
module _ (p : Plan) (g : Gfid) (kind : Kind) (start : List Line) where
  -- what was clear and on every brick is unchanged
  pub clear_over : (bricks : List BrickId) (log : List Line) → Known p log → AreRounds p start bricks log → IsEverywhere p start g → IsClear p start g kind → IsUnchanged p start log g kind
  clear_over [] log known is every clear = subst (λ l. IsUnchanged p start l g kind) (sym is) (unchanged_self p start g kind)
  clear_over (b ∷ before) log known (r, more) every clear = subst (λ l. IsUnchanged p start l g kind) (sym r.last) (
      let then_ : List Line = log_before (work r.healer.0 r.older) r.older in
      let ended : Known p (End r.healer r.said ∷ r.older) = subst (Known p) r.last known in
      let last : Known p r.older = known_before p (End r.healer r.said) r.older ended in
      let first : IsUnchanged p start then_ g kind = clear_over before then_ (at_tail (Known p) (known_before p) then_ r.older (before_tail r.healer.0 r.older) last) more every clear in
      let had : IsEverywhere p then_ g = everywhere_later p start before then_ more g every in
      let inner : IsUnchanged p then_ r.older g kind = (ended.left.0 r.high b r.over r.quiet g kind).still had (clear_still p start then_ g kind first clear) in
      unchanged_on p start r.older (End r.healer r.said ∷ r.older) g kind (unchanged_on p start then_ r.older g kind first inner) (spared p g kind (End r.healer r.said) r.older tt)
      )

  -- what was in split-brain and on every brick still is
  pub split_over : (bricks : List BrickId) (log : List Line) → Known p log → AreRounds p start bricks log → IsEverywhere p start g → IsSplit p start (below p.shape.n) g kind → IsSplit p log (below p.shape.n) g kind
  split_over [] log known is every split = subst (λ l. IsSplit p l (below p.shape.n) g kind) (sym is) split
  split_over (b ∷ before) log known (r, more) every split = subst (λ l. IsSplit p l (below p.shape.n) g kind) (sym r.last) (
      let then_ : List Line = log_before (work r.healer.0 r.older) r.older in
      let ended : Known p (End r.healer r.said ∷ r.older) = subst (Known p) r.last known in
      let last : Known p r.older = known_before p (End r.healer r.said) r.older ended in
      let first : Known p then_ = at_tail (Known p) (known_before p) then_ r.older (before_tail r.healer.0 r.older) last in
      let was : IsSplit p then_ (below p.shape.n) g kind = split_over before then_ first more every split in
      let had : IsEverywhere p then_ g = everywhere_later p start before then_ more g every in
      let inner : IsUnchanged p then_ r.older g kind = (ended.left.0 r.high b r.over r.quiet g kind).split had was in
      split_stays p then_ (End r.healer r.said ∷ r.older) (sums p then_ (premises_of p then_ first.sound)) (sums p (End r.healer r.said ∷ r.older) (premises_of p (End r.healer r.said ∷ r.older) ended.sound)) ended.sound.some ended.sound.small g kind had
      (unchanged_on p then_ r.older (End r.healer r.said ∷ r.older) g kind inner (spared p g kind (End r.healer r.said) r.older tt)) was
      )

-- a split-brain that a pass left unchanged is one
pub split_left : (p : Plan) (start log : List Line) → Known p start → Known p log → (g : Gfid) (kind : Kind) → IsEverywhere p start g → IsUnchanged p start log g kind → IsSplit p start (below p.shape.n) g kind → IsSplit p log (below p.shape.n) g kind
split_left p start log first last g kind every u split = split_stays p start log (sums p start (premises_of p start first.sound)) (sums p log (premises_of p log last.sound)) last.sound.some last.sound.small g kind every u split
