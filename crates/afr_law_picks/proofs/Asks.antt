-- Small facts of next lines and replies.
use Rattle.std.proofs.Common.{◌≡◌, ap, subst}
use Rattle.afr_base.specs.declared.ids.BrickId.{BrickId}
use Rattle.afr_lines.specs.declared.line.Next.{Next}
use Rattle.afr_lines.specs.declared.line.Next.TheVariants as next
use Rattle.afr_lines.specs.declared.reply.Reply.{Reply}
use Rattle.afr_lines.specs.declared.request.Request.{Request}

-- what holds of one request holds of the same request
pub ask_same : (P : BrickId → Request → Type 0) (b c : BrickId) (r q : Request) → next.Ask b r ≡ next.Ask c q → P b r → P c q
ask_same P b c r q e h = subst (λ (x : Request). P c x) (ap request_in e) (subst (λ (x : BrickId). P x r) (ap brick_in e) h)
  where
    brick_in : Next → BrickId
    brick_in (next.Ask d s) = d
    brick_in other = b

    request_in : Next → Request
    request_in (next.Ask d s) = s
    request_in other = r

-- and of one reply, of the same reply
pub end_same : (P : Reply → Type 0) (r q : Reply) → next.End r ≡ next.End q → P r → P q
end_same P r q e h = subst P (ap reply_in e) h
  where
    reply_in : Next → Reply
    reply_in (next.End s) = s
    reply_in other = r
