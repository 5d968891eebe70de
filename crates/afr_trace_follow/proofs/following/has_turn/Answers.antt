use Rattle.std.proofs.Common.{◌∙◌, refl, sym, true≢false}
use Rattle.afr_trace_follow.proofs.FollowLemmas.{actor_is, few_actors, is_the_actor}
use Rattle.afr_trace_follow.proofs.KeepingLemmas.{never}
use Rattle.afr_trace_follow.proofs.following.has_turn.Goals as goal

pub returns-then-not-is_actor : goal.returns-then-not-is_actor
returns-then-not-is_actor c = never _ _ refl (λ t. true≢false (sym (c.is_actor.ensures ∙ is_the_actor c.args.plan.now c.args.a.0 t.actor) ∙ c.if-not-is_actor.true))

pub is_alive-requires-clause-known : goal.is_alive-requires-clause-known
is_alive-requires-clause-known c = few_actors c.args.plan.now c.args.a.0 c.requires.actors (actor_is c.args.plan.now c.args.a.0 (sym c.is_actor.ensures ∙ c.if-not-is_actor.false))

pub returns-then-not-is_alive : goal.returns-then-not-is_alive
returns-then-not-is_alive c = never _ _ refl (λ t. true≢false (sym (c.is_alive.ensures.1 t.alive) ∙ c.if-not-is_alive.true))

pub is_of_task-requires-clause-known : goal.is_of_task-requires-clause-known
is_of_task-requires-clause-known c = few_actors c.args.plan.now c.args.a.0 c.requires.actors (actor_is c.args.plan.now c.args.a.0 (sym c.is_actor.ensures ∙ c.if-not-is_actor.false))

pub returns : goal.returns
returns c = (
  λ yes. record { actor = actor_is c.args.plan.now c.args.a.0 (sym c.is_actor.ensures ∙ c.if-not-is_actor.false); alive = c.is_alive.ensures.0 c.if-not-is_alive.false; task = c.is_of_task.ensures.0 yes },
  λ t. c.is_of_task.ensures.1 t.task,
)
