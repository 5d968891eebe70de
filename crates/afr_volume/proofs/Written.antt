-- A request, and a line that is none, is one line of the actor; what is no request is so whatever its answers would have asked.
use Rattle.std.proofs.Common.{◌≡◌, ℕ, List, subst, sym}
use Rattle.afr_base.specs.declared.ids.ActorId.{ActorId}
use Rattle.afr_base.specs.declared.ids.BrickId.{BrickId}
use Rattle.afr_lines.specs.declared.line.Line.{Line}
use Rattle.afr_lines.specs.declared.line.Next.{Next}
use Rattle.afr_lines.specs.declared.line.Next.TheVariants as next
use Rattle.afr_lines.specs.declared.reply.Reply.{Reply}
use Rattle.afr_lines.specs.declared.request.Request.{Request}
use Rattle.afr_healer.specs.Acting.{Adds}
use Rattle.afr_server.specs.Serving.{Serving}
use Rattle.afr_client.specs.Work.{next_of}
use Rattle.afr_volume.specs.Acting.{Hearing, IsAsked, IsEnded, Stepped, SteppedBy, Written, WrittenBy}
use Rattle.afr_volume.specs.declared.actor.Actor.{Actor}

steps_by : (Hears : Hearing) (a : ActorId) (at : ℕ) (x y : Actor) (old new : List Serving) (line : Line) (n : Next) → WrittenBy a at x y old new line n → SteppedBy Hears a at x y old new line n
steps_by Hears a at x y old new line (next.Ask b request) k = absurd k
steps_by Hears a at x y old new line (next.Begin change) k = k
steps_by Hears a at x y old new line (next.HealBegin g kind) k = absurd k
steps_by Hears a at x y old new line (next.End said) k = k
steps_by Hears a at x y old new line (next.HealEnd g kind said) k = absurd k

pub written_steps : (Hears : Hearing) (a : ActorId) (at : ℕ) (x y : Actor) (old new : List Serving) (before after : List Line) → Adds (λ (line : Line). Written a at x y old new line) before after → Adds (λ (line : Line). Stepped Hears a at x y old new line) before after
written_steps Hears a at x y old new before after k = record { line = k.line; added = k.added; is_so = steps_by Hears a at x y old new k.line (next_of at x.work) k.is_so }

-- it ends a work where the work says its end
pub ends_so : (a : ActorId) (at : ℕ) (said : Reply) (x y : Actor) (old new : List Serving) (before after : List Line) → next_of at x.work ≡ next.End said → Adds (λ (line : Line). IsEnded a said x y old new line) before after
    → Adds (λ (line : Line). Written a at x y old new line) before after
ends_so a at said x y old new before after e k = record { line = k.line; added = k.added; is_so = subst (λ (n : Next). WrittenBy a at x y old new k.line n) (sym e) k.is_so }

-- a request is a line of the actor where its work asks it
pub asked_steps : (Hears : Hearing) (a : ActorId) (at : ℕ) (b : BrickId) (request : Request) (x y : Actor) (old new : List Serving) (before after : List Line) → next_of at x.work ≡ next.Ask b request
    → Adds (λ (line : Line). IsAsked Hears a at b request x y old new line) before after → Adds (λ (line : Line). Stepped Hears a at x y old new line) before after
asked_steps Hears a at b request x y old new before after e k = record { line = k.line; added = k.added; is_so = subst (λ (n : Next). SteppedBy Hears a at x y old new k.line n) (sym e) k.is_so }
