-- A reply that is kept in two parts.
use Rattle.std.specs.Prelude.{List, Option, Some, None}
use Rattle.afr_object.specs.declared.entry.View.{View}
use Rattle.afr_lines.specs.declared.reply.Reply.{Reply}
use Rattle.afr_lines.specs.declared.reply.Reply.TheVariants.{SplitBrain}

-- a split-brain where there are views, and else the reply
abbrev pub kept : Reply → Option (List (Option View)) → Reply
kept reply None = reply
kept reply (Some views) = SplitBrain views
