-- What a read asks, by which numbers, and what it answers.
use Rattle.afr_base.specs.declared.ids.Gfid.{Gfid}
use Rattle.afr_base.specs.declared.ids.Kind.{Kind}
use Rattle.afr_base.specs.declared.ids.Kind.TheVariants.{Attrs, Names as NamesKind, Bytes as BytesKind}
use Rattle.afr_base.specs.declared.ids.What.{What}
use Rattle.afr_base.specs.declared.ids.What.TheVariants.{File, Dir}
use Rattle.afr_lines.specs.declared.answer.Answer.{Answer}
use Rattle.afr_lines.specs.declared.answer.Answer.TheVariants as answer
use Rattle.afr_lines.specs.declared.reply.Good.TheVariants as good
use Rattle.afr_lines.specs.declared.reply.Reply.{Reply}
use Rattle.afr_lines.specs.declared.reply.Reply.TheVariants as reply
use Rattle.afr_lines.specs.declared.request.Request.{Request}
use Rattle.afr_lines.specs.declared.request.Request.TheVariants as request
use Rattle.afr_client_read.specs.declared.job.Wanted.{Wanted}
use Rattle.afr_client_read.specs.declared.job.Wanted.TheVariants.{Bytes, Value, Names}
use Rattle.afr_client_read.specs.declared.job.LookupJob.{LookupJob}
use Rattle.afr_client_read.specs.declared.job.LookupJob.TheVariants.{Read, GetAttr, Ls, Stat}

-- the numbers that say which copies are good: a stat goes by those of what it finds
abbrev pub kind_of : LookupJob → What → Kind
kind_of (Read at len) what = BytesKind
kind_of (GetAttr key) what = Attrs
kind_of Ls what = NamesKind
kind_of Stat File = BytesKind
kind_of Stat Dir = NamesKind

-- what the copy is asked
abbrev pub request_of : Gfid → Wanted → Request
request_of g (Bytes at len) = request.ReadBytes g at len
request_of g (Value key) = request.ReadAttr g key
request_of g Names = request.List g

-- the reply to what the copy gave
abbrev pub reply_to : Answer → Reply
reply_to (answer.Bytes bytes) = reply.Ok (good.Bytes bytes)
reply_to (answer.Names names) = reply.Ok (good.Names names)
reply_to (answer.Value value) = reply.Ok (good.Value value)
reply_to other = reply.Failed
