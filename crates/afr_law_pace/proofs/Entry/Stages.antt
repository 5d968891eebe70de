-- Where nobody is left to ask at a stage of a removal, the next one has no more lines left.
use Rattle.std.proofs.Common.{ℕ, ◌+◌, ◌*◌, ◌≤◌, Bool, true, false, arith, [], ◌∷◌, Option, Some, None}
use Rattle.std.specs.Prelude.{if◌then◌else◌}
use Rattle.afr_base.specs.Bricks.{is_nothing}
use Rattle.afr_base.specs.declared.ids.Kind.TheVariants.{Names}
use Rattle.afr_discipline.specs.declared.register.Register.{Register}
use Rattle.afr_law_pace.specs.Entry.Removals.{removal_left_in}
use Rattle.afr_lines.specs.declared.answer.Answer.{Answer}
use Rattle.afr_lines.specs.declared.answer.Answer.TheVariants as answer
use Rattle.afr_object.specs.declared.change.Change.{Change}
use Rattle.afr_law_pace.proofs.Nearer.{most}
use Rattle.afr_client_entry.specs.Removals.Removal.{against, gone_on, has_takers, left_in, listed, or_close}
use Rattle.afr_client_entry.specs.declared.removing.child.Child.{Child}
use Rattle.afr_client_entry.specs.declared.removing.stage.RemovalEnding.{RemovalEnding}
use Rattle.afr_client_entry.specs.declared.removing.stage.RemovalEnding.TheVariants.{Counted, Failed, NoQuorum, NotEmpty}
use Rattle.afr_client_entry.specs.declared.removing.stage.RemovalStage.TheVariants.{Applying, Beginning, Closing, Listing, Locking, Looking, Posting, Preparing}
use Rattle.afr_client_entry.specs.declared.removing.stage.RemovalStage.{RemovalStage}
use Rattle.afr_client_transaction.specs.Progress.{enough, may_start}

module _ (r : Register) (c : Child) (taken target : ℕ) where
  abbrev n : ℕ
  n = r.shape.n

  -- the lines that a stage would have left, with what a line takes
  abbrev Low : RemovalStage → Type 0
  Low stage = removal_left_in stage r c + taken ≤ target

  -- the stage goes on, or the next one comes
  pub goes_on : (stage : RemovalStage) → Low stage → Low (gone_on stage r c) → Low (if is_nothing (left_in stage r c) then gone_on stage r c else stage)
  goes_on stage a b = go (is_nothing (left_in stage r c))
    where
      go : (e : Bool) → Low (if e then gone_on stage r c else stage)
      go true = b
      go false = a

  pub end_low : 2 * n + 1 + taken ≤ target → (why : RemovalEnding) → Low (Closing why)
  end_low h why = (let a = most n r.second_held in let b = most n r.held in omega (arith, a, b, h))

  either : (stage other : RemovalStage) → Low stage → Low other → (on : Bool) → Low (if on then stage else other)
  either stage other a b true = a
  either stage other a b false = b

  pub locks_next : n + 5 * n + 3 + taken ≤ target → Low (gone_on Locking r c)
  locks_next h = (let k = most n (left_in Looking r c) in either Looking (Closing NoQuorum) (omega (arith, k, h)) (end_low (omega (arith, h)) NoQuorum) (has_takers r))

  pub looks_next : 5 * n + 3 + taken ≤ target → Low (gone_on Looking r c)
  looks_next h = either (or_close (against r.shape c.looked) Listing) (Closing NoQuorum) (judged (against r.shape c.looked)) (end_low (omega (arith, h)) NoQuorum) (has_takers r)
    where
      judged : (o : Option RemovalEnding) → Low (or_close o Listing)
      judged None = h
      judged (Some why) = end_low (omega (arith, h)) why

  pub list_next : 5 * n + 2 + taken ≤ target → (a : Answer) (change : Change) → Low (listed a change r)
  list_next h (answer.Names []) change = either Beginning (Closing Failed) h (end_low (omega (arith, h)) Failed) (may_start r change)
  list_next h (answer.Names (x ∷ names)) change = end_low (omega (arith, h)) NotEmpty
  list_next h other change = end_low (omega (arith, h)) Failed

  pub pres_next : n + 3 * n + 1 + taken ≤ target → Low (gone_on Preparing r c)
  pres_next h = (let k = most n (left_in Applying r c) in either Applying (Closing Counted) (omega (arith, k, h)) (end_low (omega (arith, h)) Counted) (enough r Names r.pre))

  pub applies_next : n + 2 * n + 1 + taken ≤ target → Low (gone_on Applying r c)
  applies_next h = (let k = most n (left_in Posting r c) in either Posting (Closing Counted) (omega (arith, k, h)) (end_low (omega (arith, h)) Counted) (enough r Names r.done))

  pub posts_next : 2 * n + 1 + taken ≤ target → Low (gone_on Posting r c)
  posts_next h = end_low h Counted
