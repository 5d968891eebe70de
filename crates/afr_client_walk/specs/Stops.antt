-- The reply of a command that stops.
use Rattle.afr_lines.specs.declared.reply.Reply.{Reply}
use Rattle.afr_lines.specs.declared.reply.Reply.TheVariants as reply
use Rattle.afr_client_walk.specs.declared.stop.Stop.{Stop}
use Rattle.afr_client_walk.specs.declared.stop.Stop.TheVariants as stop

-- the reply of a stop
abbrev pub reply_of : Stop → Reply
reply_of stop.NoEntry = reply.NoEntry
reply_of stop.NotDir = reply.NotDir
reply_of stop.IsDir = reply.IsDir
reply_of stop.NoQuorum = reply.NoQuorum
reply_of stop.FewCopies = reply.FewCopies
reply_of (stop.SplitBrain views) = reply.SplitBrain views
reply_of stop.Failed = reply.Failed
