use Rattle.std.proofs.Common.{◌≡◌, ◌≤◌, Bool, false, arith, length, reverse, subst}
use Rattle.afr_model.specs.Following.{Follows}
use Rattle.afr_volume.proofs.TaskBegins.{first_tasks}
use Rattle.afr_law_picks.specs.Sources.Sources.{sources_of}
use Rattle.afr_volume.specs.Acting.{picked_of}
use Rattle.afr_volume.specs.State.{State}
use Rattle.afr_model.specs.Sums.{AreSums}
use Rattle.afr_volume.proofs.FreshReads.{all_fresh}
use Rattle.afr_volume.proofs.HealerTurn.{all_rest}
use Rattle.afr_volume.proofs.PickedLemmas.{none_picked_first}
use Rattle.afr_volume.proofs.SourceLemmas.{all_rest_first, rested_state}
use Rattle.afr_volume.proofs.volume.Volume.every_line.Goals as goal

pub returns-clause-settled : goal.returns-clause-settled
returns-clause-settled c = rw (← c.self.view_is) (all_rest c.laws.ensures.rounds _ _ _ _ _ _ (sources_of c.self.inside.healers.items) (picked_of c.self.inside.actors.items) c.self.invariant.whole)

pub returns-clause-right : goal.returns-clause-right
returns-clause-right c =
    let kept = c.self.invariant.whole.kept in
    let plainly : (c.self.inside.crawl ≡ false → Follows false c.self.inside.plan (reverse c.self.inside.log.items)) = λ plain. subst (λ (goes : Bool). Follows goes c.self.inside.plan (reverse c.self.inside.log.items)) plain kept.follows in
    let few : length (reverse c.self.inside.log.items) ≤ 4000000 = omega (arith, kept.room, kept.runnable.turns) in
    rw (← c.self.view_is)
    (record {
      follows = kept.follows;
      honest = kept.honest;
      lawful = kept.lawful;
      replied = kept.replied;
      blamed = kept.blamed;
      names = kept.names;
      safe = c.lawful_is_safe.ensures.exact c.self.inside.plan (reverse c.self.inside.log.items) kept.runnable.few few kept.honest kept.lawful;
      fresh = all_fresh c.self.inside.crawl _ _ kept.follows kept.replied (c.reads_are_fresh.ensures.exact c.self.inside.plan (reverse c.self.inside.log.items) kept.runnable.few few kept.honest kept.lawful).1;
      causes = c.accusations_have_causes.ensures.exact c.self.inside.plan (reverse c.self.inside.log.items) kept.runnable.few few kept.honest kept.lawful;
      alike = c.nothing_diverges_unrecorded.ensures.exact c.self.inside.plan (reverse c.self.inside.log.items) kept.runnable.few few kept.honest kept.lawful;
      quiet = λ plain. c.quiet_rounds_are_whole.ensures.whole c.self.inside.plan (reverse c.self.inside.log.items) kept.runnable.few kept.runnable.clients few (plainly plain) kept.honest kept.lawful kept.replied kept.runnable.rounds;
      left = λ plain. c.quiet_rounds_converge.ensures.leave c.self.inside.plan (reverse c.self.inside.log.items) kept.runnable.few kept.runnable.clients few (plainly plain) kept.honest kept.lawful kept.replied kept.runnable.rounds;
      converged = λ plain. c.quiet_rounds_converge.ensures.converge c.self.inside.plan (reverse c.self.inside.log.items) kept.runnable.few kept.runnable.clients few (plainly plain) kept.honest kept.lawful kept.replied kept.runnable.rounds;
      reached = λ plain. c.quiet_passes_reach.ensures.reach c.self.inside.plan (reverse c.self.inside.log.items) kept.runnable.few kept.runnable.clients few (plainly plain) kept.honest kept.lawful kept.replied kept.runnable.rounds;
      rolling = λ plain. c.what_all_have_never_splits.ensures.rolling c.self.inside.plan (reverse c.self.inside.log.items) kept.runnable.few kept.runnable.clients few (plainly plain) kept.honest kept.lawful kept.replied kept.blamed kept.runnable.rounds;
      durable = c.acknowledged_is_durable.ensures.exact c.self.inside.plan (reverse c.self.inside.log.items) kept.runnable.few few kept.honest kept.lawful;
      since = (c.split_copies_missed.ensures.exact c.self.inside.plan (reverse c.self.inside.log.items) kept.runnable.few few kept.honest kept.lawful).0;
      missed = (c.split_copies_missed.ensures.exact c.self.inside.plan (reverse c.self.inside.log.items) kept.runnable.few few kept.honest kept.lawful).1;
      whole = c.a_copy_is_whole.ensures.exact c.self.inside.plan (reverse c.self.inside.log.items) kept.runnable.few few kept.honest kept.lawful;
      available = c.changes_are_available.ensures.exact c.self.inside.crawl c.self.inside.plan (reverse c.self.inside.log.items) kept.runnable.few few kept.follows kept.honest kept.lawful kept.replied;
      rising = c.self.invariant.whole.pacing.rising;
      within = c.self.invariant.whole.pacing.within;
      unlocked = c.works_leave_no_lock.ensures.exact c.self.inside.plan (reverse c.self.inside.log.items) kept.runnable.few few kept.honest kept.lawful;
    })

pub returns-clause-sums : goal.returns-clause-sums
returns-clause-sums c =
    subst (λ (v : State). AreSums v.plan v.log) c.self.view_is
    (c.lawful_lines_fit.ensures.sums c.self.inside.plan (reverse c.self.inside.log.items) c.self.invariant.whole.kept.runnable.few (omega (arith, c.self.invariant.whole.kept.room, c.self.invariant.whole.kept.runnable.turns)) c.self.invariant.whole.kept.honest c.self.invariant.whole.kept.lawful).1

pub returns-clause-resting : goal.returns-clause-resting
returns-clause-resting c =
    rw (← c.self.view_is)
    (λ none. rested_state c.self.inside.crawl c.self.inside.plan (reverse c.self.inside.log.items) _ _ _ none (all_rest_first c.self.inside.plan (reverse c.self.inside.log.items) c.self.inside.servers c.self.inside.healers.items c.self.invariant.whole.healing.same c.self.invariant.whole.healing.each none)
    (none_picked_first c.self.inside.plan (reverse c.self.inside.log.items) c.self.inside.servers c.self.inside.actors.items c.self.invariant.whole.kept.same c.self.invariant.whole.kept.each none)
    (first_tasks c.self.inside.crawl c.self.inside.plan (reverse c.self.inside.log.items) c.self.inside.servers c.self.inside.healers.items c.self.invariant.whole.healing.same c.self.invariant.whole.healing.each (λ e. (c.self.invariant.whole.crawling e).can) none))

pub returns-clause-crawls : goal.returns-clause-crawls
returns-clause-crawls c = rw (← c.self.view_is) (λ crawls. (c.self.invariant.whole.crawling crawls).can)
